-- A range of blocks that is gone through cluster by cluster.
use Rattle.std.proofs.Common.{◌≡◌, ℕ, suc, ◌+◌, ◌<◌, ◌≤◌, Bool, true, false, cond, List, [], ◌∷◌, ◌++◌, length, take, drop, replicate, refl, sym, ◌∙◌, ap, ap₂, append_assoc, arith, length-append}
use Rattle.std.specs.List.{concat}
use Rattle.std.proofs.lemmas.List.{drop-drop, length-take-le, map-append}
use Rattle.bd_base.specs.declared.request.Fill.{Fill}
use Rattle.bd_pages.specs.Bytes.{written}
use Rattle.bd_pages.specs.Fills.{filled, patterned, turned}
use Rattle.bd_pages.specs.Pages.{zeroed}
use Rattle.bd_pages.proofs.Splices.{drop_past, take_more, written_twice}
use Rattle.bd_volume.proofs.Orders.{as_written}
use Rattle.bd_volume.proofs.Zeros.{filled_count, range_length, zeroed_count}

-- a part of a range, and the part behind it
pub range_more : {A : Type 0} (lba done some : ℕ) (bs : List A) → take (done + some) (drop lba bs) ≡ take done (drop lba bs) ++ take some (drop (lba + done) bs)
range_more {A} lba done some bs =
    take_more done some (drop lba bs) ∙ ap (λ (xs : List A). take done (drop lba bs) ++ take some xs) (drop-drop done lba bs)

concat_append : (xs ys : List (List ℕ)) → concat (xs ++ ys) ≡ concat xs ++ concat ys
concat_append [] ys = refl
concat_append (x ∷ xs) ys = ap (λ (b : List ℕ). x ++ b) (concat_append xs ys) ∙ sym (append_assoc x (concat xs) (concat ys))

pub read_more : (lba done some : ℕ) (bs : List (List ℕ)) → concat (take done (drop lba bs)) ++ concat (take some (drop (lba + done) bs)) ≡ concat (take (done + some) (drop lba bs))
read_more lba done some bs =
    sym (concat_append (take done (drop lba bs)) (take some (drop (lba + done) bs))) ∙ ap concat (sym (range_more lba done some bs))

patterned_append : (seed first : ℕ) (xs ys : List (List ℕ)) → patterned seed first (xs ++ ys) ≡ patterned seed first xs ++ patterned seed (first + length xs) ys
patterned_append seed first [] ys = let same : first ≡ first + 0 = omega arith in ap (λ (k : ℕ). patterned seed k ys) same
patterned_append seed first (x ∷ xs) ys =
    let place : first + 1 + length xs ≡ first + suc (length xs) = omega arith in
    let here : List (List ℕ) = patterned seed first (x ∷ []) in
    ap (λ (bs : List (List ℕ)). here ++ bs) (patterned_append seed (first + 1) xs ys)
    ∙ ap (λ (k : ℕ). here ++ (patterned seed (first + 1) xs ++ patterned seed k ys)) place

-- behind the first blocks it is the pattern alone
pub filled_more : (fill : Fill) (number done : ℕ) (xs ys : List (List ℕ)) → length xs ≡ done → 0 < done → filled fill number xs ++ patterned fill.seed (number + done) ys ≡ filled fill number (xs ++ ys)
filled_more fill number done [] ys e some = absurd (omega (arith, e, some))
filled_more fill number done (x ∷ xs) ys e some = go fill.flip
  where
    both : patterned fill.seed number (x ∷ xs) ++ patterned fill.seed (number + done) ys ≡ patterned fill.seed number ((x ∷ xs) ++ ys)
    both = ap (λ (k : ℕ). patterned fill.seed number (x ∷ xs) ++ patterned fill.seed (number + k) ys) (sym e) ∙ sym (patterned_append fill.seed number (x ∷ xs) ys)

    turned_append : (b : List ℕ) (bs cs : List (List ℕ)) → turned (b ∷ bs) ++ cs ≡ turned ((b ∷ bs) ++ cs)
    turned_append b bs cs = refl

    go : (b : Bool) → cond b (turned (patterned fill.seed number (x ∷ xs))) (patterned fill.seed number (x ∷ xs)) ++ patterned fill.seed (number + done) ys
        ≡ cond b (turned (patterned fill.seed number ((x ∷ xs) ++ ys))) (patterned fill.seed number ((x ∷ xs) ++ ys))
    go true = ap turned both
    go false = both

-- what is written behind what was written already
pub put_more : {A : Type 0} (lba done some : ℕ) (before new old now : List A) → now ≡ written lba before old → length before ≡ done → length new ≡ some → lba + done + some ≤ length old
    → take (lba + done) now ++ new ++ drop (lba + done + some) now ≡ written lba (before ++ new) old
put_more {A} lba done some before new old now is e f inside =
    as_written (lba + done) some new now f
    ∙ ap (λ (xs : List A). written (lba + done) new xs) is
    ∙ written_twice lba (lba + done) before new old (omega (arith, inside)) (omega (arith, e))

-- what stands behind it is as it was
pub behind : {A : Type 0} (lba done some : ℕ) (before old now : List A) → now ≡ written lba before old → length before ≡ done → lba + done ≤ length old
    → take some (drop (lba + done) now) ≡ take some (drop (lba + done) old)
behind {A} lba done some before old now is e inside =
    let first : length (take lba old) ≡ lba = length-take-le lba old (omega (arith, inside)) in
    let both : length (take lba old ++ before) ≡ lba + done = length-append (take lba old) before ∙ ap₂ (λ (a b : ℕ). a + b) first e in
    let none : lba + done ≡ length (take lba old ++ before) + 0 = omega (arith, both) in
    ap (λ (xs : List A). take some (drop (lba + done) xs)) (is ∙ sym (append_assoc (take lba old) before (drop (lba + length before) old)))
    ∙ ap (λ (xs : List A). take some xs) (drop_past (take lba old ++ before) (drop (lba + length before) old) 0 (lba + done) none)
    ∙ ap (λ (k : ℕ). take some (drop (lba + k) old)) e

module _ (lba done some : ℕ) (old now : List (List ℕ)) (inside : lba + done + some ≤ length old) where
  abbrev first : List (List ℕ)
  first = take done (drop lba old)

  first_length : length first ≡ done
  first_length = range_length lba done old (omega (arith, inside))

  next_length : length (take some (drop (lba + done) old)) ≡ some
  next_length = range_length (lba + done) some old inside

  pub zeroed_step : now ≡ written lba (zeroed first) old
      → take (lba + done) now ++ zeroed (take some (drop (lba + done) now)) ++ drop (lba + done + some) now ≡ written lba (zeroed (take (done + some) (drop lba old))) old
  zeroed_step is =
      let long : length (zeroed first) ≡ done = zeroed_count first ∙ first_length in
      let same : take some (drop (lba + done) now) ≡ take some (drop (lba + done) old) = behind lba done some (zeroed first) old now is long (omega (arith, inside)) in
      let size : length (zeroed (take some (drop (lba + done) now))) ≡ some = zeroed_count (take some (drop (lba + done) now)) ∙ ap length same ∙ next_length in
      put_more lba done some (zeroed first) (zeroed (take some (drop (lba + done) now))) old now is long size inside
      ∙ ap (λ (bs : List (List ℕ)). written lba bs old)
      (ap (λ (bs : List (List ℕ)). zeroed first ++ zeroed bs) same
      ∙ sym (map-append (λ b. let z : List ℕ = replicate (length b) 0 in z) first (take some (drop (lba + done) old)))
      ∙ ap zeroed (sym (range_more lba done some old)))

  pub filled_step : (fill rest : Fill) (number : ℕ) → rest ≡ record { seed = fill.seed; flip = false } → 0 < done → now ≡ written lba (filled fill number first) old
      → take (lba + done) now ++ filled rest (number + done) (take some (drop (lba + done) now)) ++ drop (lba + done + some) now ≡ written lba (filled fill number (take (done + some) (drop lba old))) old
  filled_step fill rest number plain more is =
      let long : length (filled fill number first) ≡ done = filled_count fill number first ∙ first_length in
      let same : take some (drop (lba + done) now) ≡ take some (drop (lba + done) old) = behind lba done some (filled fill number first) old now is long (omega (arith, inside)) in
      let size : length (filled rest (number + done) (take some (drop (lba + done) now))) ≡ some = filled_count rest (number + done) (take some (drop (lba + done) now)) ∙ ap length same ∙ next_length in
      put_more lba done some (filled fill number first) (filled rest (number + done) (take some (drop (lba + done) now))) old now is long size inside
      ∙ ap (λ (bs : List (List ℕ)). written lba bs old)
      (ap₂ (λ (f : Fill) (bs : List (List ℕ)). filled fill number first ++ filled f (number + done) bs) plain same
      ∙ filled_more fill number done first (take some (drop (lba + done) old)) first_length more
      ∙ ap (λ (bs : List (List ℕ)). filled fill number bs) (sym (range_more lba done some old)))
