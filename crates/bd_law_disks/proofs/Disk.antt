-- What a disk does with a piece, over what is told.
use Rattle.std.proofs.Common.{◌≡◌, ℕ, ◌+◌, ◌≤◌, Bool, true, false, cond, List, [], ◌∷◌, map, Option, Some, None, is_some, refl, sym, ◌∙◌, ap, ap₂, subst, arith}
use Rattle.std.specs.Prelude.{find}
use Rattle.std.specs.List.{count_by}
use Rattle.std.proofs.lemmas.List.Sums.{sum_by-cons}
use Rattle.bd_base.specs.declared.act.ApplyEnd.{ApplyEnd}
use Rattle.bd_base.specs.declared.id.DevId.{DevId}
use Rattle.bd_base.specs.declared.setup.Setup.{Setup}
use Rattle.bd_machine.specs.declared.state.Base.{Base}
use Rattle.bd_machine.specs.declared.state.Content.{Content}
use Rattle.bd_machine.specs.declared.state.OpenPiece.{OpenPiece}
use Rattle.bd_machine.specs.BlockMap.{is_aio, size_of}
use Rattle.bd_machine.specs.Guards.{noted}
use Rattle.bd_machine.specs.Homes.{base_here, is_base, applied, change_applied, content_by}
use Rattle.bd_machine.specs.Table.{change_first}
use Rattle.bd_machine.specs.View.{Change}
use Rattle.bd_machine.proofs.Tables.{dev_exact}
use Rattle.bd_law_disks.specs.Laws.{DiskChangeIsTold}
use Rattle.bd_law_disks.proofs.Fields.{with_bases}
use Rattle.bd_law_disks.specs.Told.{told_base, told_view, contents_after, ended_moves, ended_change}

counted : (dev : DevId) (b : Base) (bs : List Base) (n : ℕ) → count_by (is_base dev) (b ∷ bs) ≤ n → cond (is_base dev b) 1 0 + count_by (is_base dev) bs ≤ n
counted dev b bs n h = subst (λ (m : ℕ). m ≤ n) (sum_by-cons (λ (x : Base). cond (is_base dev x) 1 0) b bs) h

module _ (setup : Setup) (contents : DevId → Content) (dev : DevId) (aio : is_aio setup dev ≡ true) where
  -- a base of the device has what is told
  content_is : (b : Base) → is_base dev b ≡ true → (told_base setup contents b).content ≡ contents b.dev
  content_is b e = ap (λ (c : Bool). cond c (contents b.dev) b.content) (subst (λ (d : DevId). is_aio setup d ≡ true) (sym (dev_exact b.dev dev e)) aio)

  -- where the device has a base, the first is found with what is told
  record Found (bs : List Base) : Type 0 where
    base : Base
    is : find (is_base dev) (map (told_base setup contents) bs) ≡ Some base
    content : base.content ≡ contents dev

  found : (bs : List Base) → is_some (find (is_base dev) bs) ≡ true → Found bs
  found [] h = cc
  found (b ∷ bs) h = go (is_base dev b) refl h (found bs)
    where
      go : (c : Bool) → is_base dev b ≡ c
          → is_some (cond c (Some b) (find (is_base dev) bs)) ≡ true → (is_some (find (is_base dev) bs) ≡ true → Found bs) → Found (b ∷ bs)
      go true e h rest = record {
        base = told_base setup contents b;
        is = ap (λ (c : Bool). cond c (Some (told_base setup contents b)) (find (is_base dev) (map (told_base setup contents) bs))) e;
        content = content_is b e ∙ ap contents (dev_exact b.dev dev e);
      }
      go false e h rest = let r = rest h in record {
        base = r.base;
        is = ap (λ (c : Bool). cond c (Some (told_base setup contents b)) (find (is_base dev) (map (told_base setup contents) bs))) e ∙ r.is;
        content = r.content;
      }

  module _ (end : ApplyEnd) (p : OpenPiece) where
    abbrev later : DevId → Content
    later = contents_after dev end p contents

    -- a base of another device
    other : (b : Base) → is_base dev b ≡ false → told_base setup contents b ≡ told_base setup later b
    other b e = ap (λ (c : Bool). record b { content = cond (is_aio setup b.dev) (cond c (content_by end (contents b.dev) p) (contents b.dev)) b.content })
        (sym e)

    -- no further base of the device
    others : (bs : List Base) → count_by (is_base dev) bs ≤ 0 → map (told_base setup contents) bs ≡ map (told_base setup later) bs
    others [] h = refl
    others (b ∷ bs) h = go (is_base dev b) refl (counted dev b bs 0 h) (others bs)
      where
        go : (c : Bool) → is_base dev b ≡ c → cond c 1 0 + count_by (is_base dev) bs ≤ 0
            → (count_by (is_base dev) bs ≤ 0 → map (told_base setup contents) bs ≡ map (told_base setup later) bs)
            → map (told_base setup contents) (b ∷ bs) ≡ map (told_base setup later) (b ∷ bs)
        go true e h rest = absurd (let x : ⊥ = omega arith in x)
        go false e h rest = ap₂ (λ (x : Base) (xs : List Base). x ∷ xs) (other b e) (rest (omega arith))

    head : (b : Base) → is_base dev b ≡ true → applied end p (told_base setup contents b) ≡ told_base setup later (applied end p b)
    head b e = ap (λ (x : Content). record (applied end p b) { content = x })
        (ap (λ (x : Content). content_by end x p) (content_is b e)
        ∙ sym (ap₂ (λ (a c : Bool). cond a (cond c (content_by end (contents b.dev) p) (contents b.dev)) (content_by end b.content p))
        (subst (λ (d : DevId). is_aio setup d ≡ true) (sym (dev_exact b.dev dev e)) aio) e))

    pub disk_bases : (bs : List Base) → count_by (is_base dev) bs ≤ 1
        → change_first (is_base dev) (applied end p) (map (told_base setup contents) bs)
        ≡ map (told_base setup later) (change_first (is_base dev) (applied end p) bs)
    disk_bases [] h = refl
    disk_bases (b ∷ bs) h = go (is_base dev b) refl (counted dev b bs 1 h) (disk_bases bs)
      where
        go : (c : Bool) → is_base dev b ≡ c → cond c 1 0 + count_by (is_base dev) bs ≤ 1
            → (count_by (is_base dev) bs ≤ 1 → change_first (is_base dev) (applied end p) (map (told_base setup contents) bs)
            ≡ map (told_base setup later) (change_first (is_base dev) (applied end p) bs))
            → cond c (applied end p (told_base setup contents b) ∷ map (told_base setup contents) bs)
            (told_base setup contents b ∷ change_first (is_base dev) (applied end p) (map (told_base setup contents) bs))
            ≡ map (told_base setup later) (cond c (applied end p b ∷ bs) (b ∷ change_first (is_base dev) (applied end p) bs))
        go true e h rest = ap₂ (λ (x : Base) (xs : List Base). x ∷ xs) (head b e) (others bs (omega arith))
        go false e h rest = ap₂ (λ (x : Base) (xs : List Base). x ∷ xs) (other b e) (rest (omega arith))

some_base : (o : Option Base) → is_some o ≡ true → (b : Base) × (o ≡ Some b)
some_base None h = cc
some_base (Some b) h = (b, refl)

pub disk_change_is_told : DiskChangeIsTold
disk_change_is_told setup contents t v came req k dev end p aio once some piece =
    let size : ℕ = size_of setup dev in
    let old = some_base (base_here v dev) some in
    let new = found setup contents dev aio v.part.bases some in
    ap₂ (λ (x : Option OpenPiece) (y : Option Base). noted None (change_applied (told_view setup contents v) req k dev end size x y)) piece new.is
    ∙ ap₂ (λ (bs : List Base) (x : Content). with_bases (ended_moves req k dev end size p (λ d. x)) (record v.part { prior = None }) bs)
    (disk_bases setup contents dev aio end p v.part.bases once) new.content
    ∙ sym (ap₂ (λ (x : Option OpenPiece) (y : Option Base). by (noted None (change_applied v req k dev end size x y))) piece old.1)
  where
    by : Change → Change
    by c = ended_change setup contents req k dev end p c
