-- Clusters one after another, and what is written in one of them.
use Rattle.std.proofs.Common.{◌≡◌, ℕ, zero, suc, ◌+◌, ◌-◌, ◌*◌, ◌/◌, ◌%◌, ◌<◌, ◌≤◌, List, ◌++◌, length, take, drop, replicate, refl, sym, ◌∙◌, ap, ap₂, append_assoc, arith, length-append}
use Rattle.std.proofs.Math.Nat.{suc-mul}
use Rattle.std.proofs.lemmas.Nat.{div-add-mod', le-div, mod_below}
use Rattle.std.proofs.lemmas.List.{length-take-le, length-drop, replicate-append-replicate, take-append-drop, take-append-le, drop-append-le, take_at, take-replicate, drop-take, take-take}
use Rattle.bd_pages.specs.Bytes.{written}
use Rattle.bd_pages.proofs.Splices.{drop_past, length_written, written_front, written_past}
use Rattle.bd_volume.specs.Clusters.{Placed, blocks_at, content, in_order}

-- ---- one after another

pub order_split : (f : ℕ → List (List ℕ)) (first m n : ℕ) → in_order f first (m + n) ≡ in_order f first m ++ in_order f (first + m) n
order_split f first zero n =
    let all : 0 + n ≡ n = omega arith in
    let here : first ≡ first + 0 = omega arith in
    ap (λ (k : ℕ). in_order f first k) all ∙ ap (λ (k : ℕ). in_order f k n) here
order_split f first (suc m) n =
    let all : suc m + n ≡ suc (m + n) = omega arith in
    let place : first + 1 + m ≡ first + suc m = omega arith in
    ap (λ (k : ℕ). in_order f first k) all
    ∙ ap (λ (bs : List (List ℕ)). f first ++ bs) (order_split f (first + 1) m n)
    ∙ sym (append_assoc (f first) (in_order f (first + 1) m) (in_order f (first + 1 + m) n))
    ∙ ap (λ (k : ℕ). (f first ++ in_order f (first + 1) m) ++ in_order f k n) place

pub order_same : (f g : ℕ → List (List ℕ)) (first n : ℕ) → ((k : ℕ) → first ≤ k → k < first + n → f k ≡ g k) → in_order f first n ≡ in_order g first n
order_same f g first zero same = refl
order_same f g first (suc n) same =
    ap₂ (λ (a b : List (List ℕ)). a ++ b) (same first (omega arith) (omega arith))
    (order_same f g (first + 1) n (λ k from below. same k (omega (arith, from)) (omega (arith, below))))

pub order_length : (f : ℕ → List (List ℕ)) (cluster first n : ℕ) → ((k : ℕ) → length (f k) ≡ cluster) → length (in_order f first n) ≡ n * cluster
order_length f cluster first zero each = omega arith
order_length f cluster first (suc n) each =
    let here = each first in
    let rest = order_length f cluster (first + 1) n each in
    omega (arith, here, rest, length-append (f first) (in_order f (first + 1) n), suc-mul n cluster)

pub order_zeros : (f : ℕ → List (List ℕ)) (cluster first n : ℕ) (z : List ℕ) → ((k : ℕ) → f k ≡ replicate cluster z) → in_order f first n ≡ replicate (n * cluster) z
order_zeros f cluster first zero z each = let none : 0 ≡ 0 * cluster = omega arith in ap (λ (k : ℕ). replicate k z) none
order_zeros f cluster first (suc n) z each =
    let all : cluster + n * cluster ≡ suc n * cluster = omega (arith, suc-mul n cluster) in
    ap₂ (λ (a b : List (List ℕ)). a ++ b) (each first) (order_zeros f cluster (first + 1) n z each)
    ∙ replicate-append-replicate cluster (n * cluster) z
    ∙ ap (λ (k : ℕ). replicate k z) all

-- what stands before a place, the cluster there, and what stands behind it
order_around : (f : ℕ → List (List ℕ)) (p rest : ℕ) → in_order f 0 (p + suc rest) ≡ in_order f 0 p ++ (f p ++ in_order f (p + 1) rest)
order_around f p rest =
    let here : 0 + p ≡ p = omega arith in
    order_split f 0 p (suc rest) ∙ ap (λ (k : ℕ). in_order f 0 p ++ in_order f k (suc rest)) here

-- ---- within one of them

pub as_written : {A : Type 0} (at n : ℕ) (new old : List A) → length new ≡ n → take at old ++ new ++ drop (at + n) old ≡ written at new old
as_written {A} at n new old e = append_assoc (take at old) new (drop (at + n) old) ∙ ap (λ (k : ℕ). take at old ++ (new ++ drop (at + k) old)) (sym e)

-- what is written among the first items
pub take_written : {A : Type 0} (count at : ℕ) (new old : List A) → at + length new ≤ count → count ≤ length old → take count (written at new old) ≡ written at new (take count old)
take_written {A} count at new old inside long =
    let first : length (take count old) ≡ count = length-take-le count old long in
    let within : at + length new ≤ length (take count old) = omega (arith, inside, first) in
    ap (λ (xs : List A). take count (written at new xs)) (sym (take-append-drop count old))
    ∙ ap (λ (xs : List A). take count xs) (sym (written_front (take count old) (drop count old) new at within))
    ∙ take_at (written at new (take count old)) (drop count old) count (length_written at new (take count old) within ∙ first)

-- what is read among the first items
pub take_read : {A : Type 0} (count at n : ℕ) (xs : List A) → at + n ≤ count → take n (drop at (take count xs)) ≡ take n (drop at xs)
take_read {A} count at n xs inside =
    let rest : ℕ = count - at in
    let all : count ≡ at + rest = omega (arith, inside) in
    ap (λ (k : ℕ). take n (drop at (take k xs))) all
    ∙ ap (λ (ys : List A). take n ys) (drop-take at rest xs)
    ∙ take-take n rest (drop at xs) (omega (arith, inside))

-- some blocks of the cluster at place p among all
module _ (count cluster p at n : ℕ) (f : ℕ → List (List ℕ)) (each : (k : ℕ) → length (f k) ≡ cluster) (places rest lba : ℕ) (there : places ≡ p + suc rest)
    (is : lba ≡ p * cluster + at) (within : at + n ≤ cluster) (inside : lba + n ≤ count) (all : count ≤ places * cluster) where
  whole : length (in_order f 0 places) ≡ places * cluster
  whole = order_length f cluster 0 places each

  front : length (in_order f 0 p) ≡ p * cluster
  front = order_length f cluster 0 p each

  pub order_read : take n (drop lba (take count (in_order f 0 places))) ≡ take n (drop at (f p))
  order_read =
      let long = each p in
      let before = front in
      let place : lba ≡ length (in_order f 0 p) + at = omega (arith, is, before) in
      let left : n ≤ length (drop at (f p)) = omega (arith, within, long, length-drop at (f p)) in
      take_read count lba n (in_order f 0 places) inside
      ∙ ap (λ (k : ℕ). take n (drop lba (in_order f 0 k))) there
      ∙ ap (λ (bs : List (List ℕ)). take n (drop lba bs)) (order_around f p rest)
      ∙ ap (λ (bs : List (List ℕ)). take n bs) (drop_past (in_order f 0 p) (f p ++ in_order f (p + 1) rest) at lba place ∙ drop-append-le at (f p) (in_order f (p + 1) rest) (omega (arith, within, long)))
      ∙ take-append-le n (drop at (f p)) (in_order f (p + 1) rest) left

  pub order_put : (g : ℕ → List (List ℕ)) (new : List (List ℕ)) → ((k : ℕ) → (k ≡ p → ⊥) → g k ≡ f k) → length new ≡ n → g p ≡ take at (f p) ++ new ++ drop (at + n) (f p)
      → take count (in_order g 0 places) ≡ take lba (take count (in_order f 0 places)) ++ new ++ drop (lba + n) (take count (in_order f 0 places))
  order_put g new apart e here =
      let long = each p in
      let before = front in
      let total = whole in
      let place : lba ≡ length (in_order f 0 p) + at = omega (arith, is, before) in
      let lies : at + length new ≤ length (f p) = omega (arith, within, long, e) in
      let first : in_order g 0 p ≡ in_order f 0 p = order_same g f 0 p (λ k from below. apart k (λ same. omega (arith, same, below))) in
      let behind : in_order g (p + 1) rest ≡ in_order f (p + 1) rest = order_same g f (p + 1) rest (λ k from below. apart k (λ same. omega (arith, same, from))) in
      let put : in_order g 0 places ≡ written lba new (in_order f 0 places) =
      ap (λ (k : ℕ). in_order g 0 k) there
      ∙ order_around g p rest
      ∙ ap₂ (λ (a b : List (List ℕ)). a ++ (g p ++ b)) first behind
      ∙ ap (λ (c : List (List ℕ)). in_order f 0 p ++ (c ++ in_order f (p + 1) rest)) (here ∙ as_written at n new (f p) e)
      ∙ ap (λ (c : List (List ℕ)). in_order f 0 p ++ c) (written_front (f p) (in_order f (p + 1) rest) new at lies)
      ∙ written_past (in_order f 0 p) (f p ++ in_order f (p + 1) rest) new at lba place
      ∙ sym (ap (λ (bs : List (List ℕ)). written lba new bs) (ap (λ (k : ℕ). in_order f 0 k) there ∙ order_around f p rest)) in
      ap (λ (bs : List (List ℕ)). take count bs) put
      ∙ take_written count lba new (in_order f 0 places) (omega (arith, e, inside)) (omega (arith, total, all))
      ∙ sym (as_written lba n new (take count (in_order f 0 places)) e)

-- ---- the blocks of a volume

covered : (count cluster : ℕ) → 0 < cluster → count ≤ (count / cluster + 1) * cluster
covered count cluster some =
    let parts = div-add-mod' count cluster in
    let left = mod_below count cluster some in
    let next : count / cluster + 1 ≡ suc (count / cluster) = omega arith in
    let more : (count / cluster + 1) * cluster ≡ count / cluster * cluster + cluster = ap (λ (k : ℕ). k * cluster) next ∙ suc-mul (count / cluster) cluster in
    omega (arith, parts, left, more)

pub content_length : (count : ℕ) (s : Placed) → 0 < s.cluster → ((k : ℕ) → length (blocks_at s k) ≡ s.cluster) → length (content count s) ≡ count
content_length count s some each =
    let all = order_length (blocks_at s) s.cluster 0 (count / s.cluster + 1) each in
    let enough = covered count s.cluster some in
    length-take-le count (in_order (blocks_at s) 0 (count / s.cluster + 1)) (omega (arith, all, enough))

pub content_zeros : (count : ℕ) (s : Placed) (z : List ℕ) → 0 < s.cluster → ((k : ℕ) → blocks_at s k ≡ replicate s.cluster z) → content count s ≡ replicate count z
content_zeros count s z some each =
    ap (λ (bs : List (List ℕ)). take count bs) (order_zeros (blocks_at s) s.cluster 0 (count / s.cluster + 1) z each)
    ∙ take-replicate count ((count / s.cluster + 1) * s.cluster) z (covered count s.cluster some)

module _ (count lba n : ℕ) (s : Placed) (some : 0 < s.cluster) (each : (k : ℕ) → length (blocks_at s k) ≡ s.cluster) (inside : lba + n ≤ count) (within : lba % s.cluster + n ≤ s.cluster) where
  place : lba ≡ lba / s.cluster * s.cluster + lba % s.cluster
  place = sym (div-add-mod' lba s.cluster)

  reached : lba / s.cluster ≤ count / s.cluster
  reached = let is = place in le-div (lba / s.cluster) count s.cluster some (omega (arith, is, inside))

  there : count / s.cluster + 1 ≡ lba / s.cluster + suc (count / s.cluster - lba / s.cluster)
  there = let order = reached in omega (arith, order)

  pub content_read : take n (drop lba (content count s)) ≡ take n (drop (lba % s.cluster) (blocks_at s (lba / s.cluster)))
  content_read =
      order_read count s.cluster (lba / s.cluster) (lba % s.cluster) n (blocks_at s) each (count / s.cluster + 1) (count / s.cluster - lba / s.cluster) lba there place within inside (covered count s.cluster some)

  pub content_put : (new : Placed) (blocks : List (List ℕ)) → new.cluster ≡ s.cluster → ((k : ℕ) → (k ≡ lba / s.cluster → ⊥) → blocks_at new k ≡ blocks_at s k) → length blocks ≡ n
      → blocks_at new (lba / s.cluster) ≡ take (lba % s.cluster) (blocks_at s (lba / s.cluster)) ++ blocks ++ drop (lba % s.cluster + n) (blocks_at s (lba / s.cluster))
      → content count new ≡ take lba (content count s) ++ blocks ++ drop (lba + n) (content count s)
  content_put new blocks same apart e here =
      ap (λ (c : ℕ). take count (in_order (blocks_at new) 0 (count / c + 1))) same
      ∙ order_put count s.cluster (lba / s.cluster) (lba % s.cluster) n (blocks_at s) each (count / s.cluster + 1) (count / s.cluster - lba / s.cluster) lba there place within inside (covered count s.cluster some) (blocks_at new) blocks apart e here
