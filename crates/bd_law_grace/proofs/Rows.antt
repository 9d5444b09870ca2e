-- Tables of marks: each device has one row at most, and what is said of each row stays as one is written.
use Rattle.std.proofs.Common.{◌≡◌, Bool, true, false, cond, List, [], ◌∷◌, Some, None, find, unwrap_or, refl, sym, ◌∙◌, ap, subst}
use Rattle.std.proofs.lemmas.Option.{same_Some}
use Rattle.std.specs.List.{AllByRecursion}
use Rattle.bd_base.specs.declared.id.DevId.{DevId}
use Rattle.bd_machine.specs.declared.state.FreezeMark.{FreezeMark}
use Rattle.bd_machine.specs.declared.state.FreezeMark.TheVariants.{Not}
use Rattle.bd_machine.specs.declared.state.Marking.{Marking}
use Rattle.bd_machine.specs.Marks.{unmarked}
use Rattle.bd_machine.specs.Same.{same_dev}
use Rattle.bd_machine.specs.Table.{look_up, write}
use Rattle.bd_machine.proofs.Tables.{dev_exact, look_up-write, IsSame}
use Rattle.std.proofs.Common.{eq-eqb}

pub dev_self : (a : DevId) → same_dev a a ≡ true
dev_self a = eq-eqb a.0 a.0 refl

pub dev_same : IsSame same_dev
dev_same = record { exact = dev_exact; same_self = dev_self }

-- each device has one row at most
abbrev pub Once : List (DevId × Marking) → Type 0
Once [] = Unit {0}
Once (row ∷ rows) = (look_up same_dev rows row.0 ≡ None) × Once rows

pub apart : (a b : DevId) → same_dev a b ≡ false → same_dev b a ≡ false
apart a b h = go (same_dev b a) refl
  where
    go : (c : Bool) → same_dev b a ≡ c → c ≡ false
    go false e = refl
    go true e = sym (dev_self a) ∙ subst (λ (x : DevId). same_dev a x ≡ false) (dev_exact b a e) h

pub once_written : (rows : List (DevId × Marking)) (dev : DevId) (m : Marking) → Once rows → Once (write same_dev rows dev m)
once_written [] dev m once = (refl, tt)
once_written (row ∷ rows) dev m once = go (same_dev row.0 dev) refl (once_written rows dev m once.1)
  where
    go : (b : Bool) → same_dev row.0 dev ≡ b → Once (write same_dev rows dev m) → Once (cond b ((row.0, m) ∷ rows) (row ∷ write same_dev rows dev m))
    go true e rest = once
    go false e rest = (look_up-write same_dev dev_same rows dev row.0 m ∙ ap (λ b. cond b (Some m) (look_up same_dev rows row.0)) (apart row.0 dev e) ∙ once.0, rest)

-- what is said of each row
abbrev pub Each : (DevId → FreezeMark → Type 0) → List (DevId × Marking) → Type 0
Each P rows = AllByRecursion (λ row. P row.0 row.1.frozen) rows

pub each_as : (P Q : DevId → FreezeMark → Type 0) → ((d : DevId) (f : FreezeMark) → P d f → Q d f) → (rows : List (DevId × Marking)) → Each P rows → Each Q rows
each_as P Q so [] all = tt
each_as P Q so (row ∷ rows) all = (so row.0 row.1.frozen all.0, each_as P Q so rows all.1)

-- where the device has no row
each_apart : (P Q : DevId → FreezeMark → Type 0) (dev : DevId) → ((d : DevId) (f : FreezeMark) → same_dev d dev ≡ false → P d f → Q d f) → (rows : List (DevId × Marking)) → look_up same_dev rows dev ≡ None → Each P rows → Each Q rows
each_apart P Q dev so [] none all = tt
each_apart P Q dev so (row ∷ rows) none all = go (same_dev row.0 dev) refl none (λ k. each_apart P Q dev so rows k all.1)
  where
    go : (b : Bool) → same_dev row.0 dev ≡ b → cond b (Some row.1) (look_up same_dev rows dev) ≡ None → (look_up same_dev rows dev ≡ None → Each Q rows) → Each Q (row ∷ rows)
    go true e k rest = cc
    go false e k rest = (so row.0 row.1.frozen e all.0, rest k)

-- the device's row is written, and of others the first implies the second
pub each_written : (P Q : DevId → FreezeMark → Type 0) (dev : DevId) (m : Marking) → ((d : DevId) (f : FreezeMark) → same_dev d dev ≡ false → P d f → Q d f) → Q dev m.frozen
    → (rows : List (DevId × Marking)) → Once rows → Each P rows → Each Q (write same_dev rows dev m)
each_written P Q dev m so new [] once all = (new, tt)
each_written P Q dev m so new (row ∷ rows) once all = go (same_dev row.0 dev) refl (each_written P Q dev m so new rows once.1 all.1)
  where
    go : (b : Bool) → same_dev row.0 dev ≡ b → Each Q (write same_dev rows dev m) → Each Q (cond b ((row.0, m) ∷ rows) (row ∷ write same_dev rows dev m))
    go true e rest =
        let at : row.0 ≡ dev = dev_exact row.0 dev e in
        (subst (λ (d : DevId). Q d m.frozen) (sym at) new, each_apart P Q row.0 (λ d f other p. so d f (subst (λ (x : DevId). same_dev d x ≡ false) at other) p) rows once.0 all.1)
    go false e rest = (so row.0 row.1.frozen e all.0, rest)

-- what the device's row says
pub each_at : (P : DevId → FreezeMark → Type 0) → ((d : DevId) → P d Not) → (dev : DevId) (rows : List (DevId × Marking)) → Each P rows → P dev (unwrap_or (look_up same_dev rows dev) unmarked).frozen
each_at P none dev [] all = none dev
each_at P none dev (row ∷ rows) all = go (same_dev row.0 dev) refl (each_at P none dev rows all.1)
  where
    go : (b : Bool) → same_dev row.0 dev ≡ b → P dev (unwrap_or (look_up same_dev rows dev) unmarked).frozen → P dev (unwrap_or (cond b (Some row.1) (look_up same_dev rows dev)) unmarked).frozen
    go true e rest = subst (λ (d : DevId). P d row.1.frozen) (dev_exact row.0 dev e) all.0
    go false e rest = rest

-- what a row says that is found by a test, which it passes
pub each_found : (P : DevId → FreezeMark → Type 0) (test : DevId × Marking → Bool) (rows : List (DevId × Marking)) (row : DevId × Marking) → find test rows ≡ Some row → Each P rows → P row.0 row.1.frozen × (test row ≡ true)
each_found P test [] row found all = cc
each_found P test (x ∷ rows) row found all = go (test x) refl found (λ k. each_found P test rows row k all.1)
  where
    go : (b : Bool) → test x ≡ b → cond b (Some x) (find test rows) ≡ Some row → (find test rows ≡ Some row → P row.0 row.1.frozen × (test row ≡ true)) → P row.0 row.1.frozen × (test row ≡ true)
    go true e k rest = subst (λ (r : DevId × Marking). P r.0 r.1.frozen × (test r ≡ true)) (same_Some x row k) (all.0, e)
    go false e k rest = rest k
