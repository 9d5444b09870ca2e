-- A name that was given a place, and a device more.
use Rattle.std.proofs.Common.{◌≡◌, ◌≢◌, ℕ, zero, suc, ◌+◌, ◌<◌, ◌≤◌, Bool, true, false, not, cond, ◌&&◌, ◌⊎◌, inl, inr, List, [], ◌∷◌, ◌++◌, length, Option, Some, None, is_some, ◌||◌, nat_eq, nat_le, nat_lt, eqb, remove, lt-ltb, le-ltb, refl, sym, ◌∙◌, ap, ap₂, subst, eq-eqb, ne_eqb, arith}
use Rattle.std.specs.Cmp.Lexicographic.{pointwise}
use Rattle.std.specs.List.{position, position_or_len, slice_get}
use Rattle.std.specs.Prelude.{unwrap_or}
use Rattle.std.proofs.lemmas.Cmp.{nat_list_eq_equiv}
use Rattle.std.specs.Map.{lookup}
use Rattle.std.proofs.lemmas.Bool.{cases_eq}
use Rattle.std.proofs.lemmas.List.{length-append}
use Rattle.std.proofs.lemmas.List.Folds.{position_or_len_push}
use Rattle.std.proofs.lemmas.List.Sums.{prefix_len-le-length}
use Rattle.bd_base.specs.Name.{same_name}
use Rattle.bd_base.specs.declared.device.DevRow.{DevRow}
use Rattle.bd_base.specs.declared.setup.Setup.{Setup}
use Rattle.bd_devices.specs.declared.names.Names.{Names}
use Rattle.bd_base.specs.declared.request.Errno.{Errno}
use Rattle.bd_base.specs.declared.request.Errno.TheVariants.{Exists, NoDev, Perm, Inval}
use Rattle.bd_devices.specs.Devices.{has_base, is_claimed, layers_below, register_refusal, with_device}
use Rattle.indexmap.specs.IndexMap.{insert_entry}
use Rattle.bd_devices.specs.Names.{AreNamed, Gains, first_of, place_of_name}
use Rattle.bd_devices.specs.Registered.{AreToldApart, IsRegistered}
use Rattle.bd_machine.specs.BlockMap.{base_of_row, StandsOnEarlier}
use Rattle.bd_machine.specs.Registry.{device_named}
use Rattle.bd_machine.specs.Limits.{no_limit}
use Rattle.bd_machine.specs.Start.{no_injections}
use Rattle.bd_base.specs.declared.device.Injections.{Injections}
use Rattle.bd_base.specs.declared.device.Rates.{Rates}

nat_flip : (a b : ℕ) → nat_eq a b ≡ nat_eq b a
nat_flip a b = go (cases_eq a b)
  where
    go : (a ≡ b) ⊎ (a ≢ b) → nat_eq a b ≡ nat_eq b a
    go (inl e) = eq-eqb a b e ∙ sym (eq-eqb b a (sym e))
    go (inr ne) = ne_eqb a b ne ∙ sym (ne_eqb b a (λ e. ne (sym e)))

pub name_flip : (a b : List ℕ) → pointwise nat_eq a b ≡ pointwise nat_eq b a
name_flip [] [] = refl
name_flip [] (y ∷ ys) = refl
name_flip (x ∷ xs) [] = refl
name_flip (x ∷ xs) (y ∷ ys) = ap₂ (λ (b c : Bool). b && c) (nat_flip x y) (name_flip xs ys)

module _ {K : Type 0} (items : K → List ℕ) (key : K) (place : ℕ) (q : List ℕ) where
  abbrev same : K → K → Bool
  same a b = pointwise nat_eq (items a) (items b)

  abbrev at : List ℕ → List (K × ℕ) → Option ℕ
  at name es = lookup (λ k. pointwise nat_eq name (items k)) es

  -- the entries after an insertion of a key that wasn't there
  pub inserted : (es : List (K × ℕ)) → at (items key) es ≡ None → at q (insert_entry same es key place) ≡ first_of (at q es) (cond (pointwise nat_eq (items key) q) (Some place) None)
  inserted [] h = ap (λ b. cond b (Some place) None) (name_flip q (items key))
  inserted (e ∷ es) h = go (pointwise nat_eq (items key) (items e.0)) h (inserted es)
    where
      step : (b : Bool) (o : Option ℕ) (p : Option ℕ) (x : Option ℕ) → o ≡ first_of p x → cond b (Some e.1) o ≡ first_of (cond b (Some e.1) p) x
      step true o p x i = refl
      step false o p x i = i

      go : (b : Bool) → cond b (Some e.1) (at (items key) es) ≡ None → (at (items key) es ≡ None → at q (insert_entry same es key place) ≡ first_of (at q es) (cond (pointwise nat_eq (items key) q) (Some place) None))
          → at q (cond b ((e.0, place) ∷ es) (e ∷ insert_entry same es key place)) ≡ first_of (cond (pointwise nat_eq q (items e.0)) (Some e.1) (at q es)) (cond (pointwise nat_eq (items key) q) (Some place) None)
      go true g ih = cc
      go false g ih = step (pointwise nat_eq q (items e.0)) (at q (insert_entry same es key place)) (at q es) (cond (pointwise nat_eq (items key) q) (Some place) None) (ih g)

pushed : (n len : ℕ) (b : Bool) → n ≤ len
    → cond (nat_lt (cond (eqb n len) (len + cond b 0 1) n) (len + 1)) (Some (cond (eqb n len) (len + cond b 0 1) n)) None ≡ first_of (cond (nat_lt n len) (Some n) None) (cond b (Some len) None)
pushed n len b le = go (cases_eq n len) b
  where
    at : ℕ → Option ℕ
    at m = cond (nat_lt m (len + 1)) (Some m) None

    last : (c : Bool) → at (len + cond c 0 1) ≡ cond c (Some len) None
    last true = ap at (omega arith) ∙ ap (λ (d : Bool). cond d (Some len) None) (lt-ltb len (len + 1) (omega arith))
    last false = ap (λ (d : Bool). cond d (Some (len + 1)) None) (le-ltb (len + 1) (len + 1) (omega arith))

    go : (n ≡ len) ⊎ (n ≢ len) → (c : Bool) → at (cond (eqb n len) (len + cond c 0 1) n) ≡ first_of (cond (nat_lt n len) (Some n) None) (cond c (Some len) None)
    go (inl e) c =
        ap (λ (d : Bool). at (cond d (len + cond c 0 1) n)) (eq-eqb n len e) ∙ last c
        ∙ sym (ap (λ (d : Bool). first_of (cond d (Some n) None) (cond c (Some len) None)) (le-ltb n len (omega (arith, e))))
    go (inr ne) c =
        ap (λ (d : Bool). at (cond d (len + cond c 0 1) n)) (ne_eqb n len ne)
        ∙ ap (λ (d : Bool). cond d (Some n) None) (lt-ltb n (len + 1) (omega (arith, le)))
        ∙ sym (ap (λ (d : Bool). first_of (cond d (Some n) None) (cond c (Some len) None)) (lt-ltb n len (omega (arith, le, ne))))

-- the place of the first that passes, with one element more
pub position_more : {X : Type 0} (p : X → Bool) (xs : List X) (x : X) → position p (xs ++ x ∷ []) ≡ first_of (position p xs) (cond (p x) (Some (length xs)) None)
position_more p xs x =
    ap (λ (m : ℕ). cond (nat_lt m (length (xs ++ x ∷ []))) (Some m) None) (position_or_len_push p xs x)
    ∙ ap (λ (l : ℕ). cond (nat_lt (cond (eqb (position_or_len p xs) (length xs)) (length xs + cond (p x) 0 1) (position_or_len p xs)) l) (Some (cond (eqb (position_or_len p xs) (length xs)) (length xs + cond (p x) 0 1) (position_or_len p xs))) None) (length-append xs (x ∷ []))
    ∙ pushed (position_or_len p xs) (length xs) (p x) (prefix_len-le-length (λ y. not (p y)) xs)

-- the names of a setup's devices, with a device more
pub named_more : (old new : Names) (setup : Setup) (row : DevRow) → AreNamed old setup → Gains old row.name (length setup.devices) new → AreNamed new (with_device setup row)
named_more old new setup row are gains q =
    gains q ∙ ap (λ o. first_of o (cond (same_name row.name q) (Some (length setup.devices)) None)) (are q)
    ∙ sym (position_more (λ r. same_name r.name q) setup.devices row)

remove_last : {X : Type 0} (xs : List X) (x : X) → remove (xs ++ x ∷ []) (length xs) ≡ xs
remove_last [] x = refl
remove_last (y ∷ ys) x = ap (λ zs. y ∷ zs) (remove_last ys x)

-- ---- what a registration that isn't refused knows

-- neither the name of the row stands, nor is its base absent
taken_or : (a b c d : Bool) → cond a (Some Exists) (cond b (Some NoDev) (cond c (Some Perm) (cond d (Some Inval) None))) ≡ None → (a ≡ false) × (b ≡ false)
taken_or true b c d h = cc
taken_or false true c d h = cc
taken_or false false c d h = (refl, refl)

not_true : (b : Bool) → not b ≡ false → b ≡ true
not_true true h = refl
not_true false h = cc

none_if : {X : Type 0} (o : Option X) → is_some o ≡ false → o ≡ None
none_if None h = refl
none_if (Some x) h = cc

within : {X : Type 0} (xs : List X) (i : ℕ) → is_some (slice_get xs i) ≡ true → i < length xs
within [] i h = cc
within (x ∷ xs) zero h = omega arith
within (x ∷ xs) (suc i) h = let rest : i < length xs = within xs i h in omega arith

some_same : {X : Type 0} (x y : X) → ◌≡◌ {A = Option X} (Some x) (Some y) → x ≡ y
some_same x y e = ap (λ o. unwrap_or o x) e

-- ---- rows with one more

-- a row of the rows with one more is one of theirs, or the last
one_of : {X : Type 0} (xs : List X) (x y : X) (i : ℕ) → slice_get (xs ++ x ∷ []) i ≡ Some y → ((i < length xs) × (slice_get xs i ≡ Some y)) ⊎ ((i ≡ length xs) × (x ≡ y))
one_of [] x y zero h = inr (refl, some_same x y h)
one_of [] x y (suc i) h = cc
one_of (z ∷ zs) x y zero h = inl (omega arith, h)
one_of (z ∷ zs) x y (suc i) h = go (one_of zs x y i h) where
  go : ((i < length zs) × (slice_get zs i ≡ Some y)) ⊎ ((i ≡ length zs) × (x ≡ y)) → ((suc i < suc (length zs)) × (slice_get (z ∷ zs) (suc i) ≡ Some y)) ⊎ ((suc i ≡ suc (length zs)) × (x ≡ y))
  go (inl old) = inl (omega (arith, old.0), old.1)
  go (inr last) = inr (ap suc last.0, last.1)

same_itself : (name : List ℕ) → same_name name name ≡ true
same_itself name = nat_list_eq_equiv.refl name

more_apart : (setup : Setup) (row : DevRow) → AreToldApart setup → is_some (device_named setup row.name) ≡ false → AreToldApart (with_device setup row)
more_apart setup row apart new n other at = go (one_of setup.devices row other n at) where
  found : (q : List ℕ) → device_named (with_device setup row) q ≡ first_of (device_named setup q) (cond (same_name row.name q) (Some (length setup.devices)) None)
  found q = position_more (λ r. same_name r.name q) setup.devices row

  last : (o : Option ℕ) (b : Bool) → o ≡ None → b ≡ true → first_of o (cond b (Some (length setup.devices)) None) ≡ Some (length setup.devices)
  last o b none same = ap (λ (p : Option ℕ). first_of p (cond b (Some (length setup.devices)) None)) none ∙ ap (λ (c : Bool). cond c (Some (length setup.devices)) None) same

  at_last : device_named (with_device setup row) row.name ≡ Some (length setup.devices)
  at_last = found row.name ∙ last (device_named setup row.name) (same_name row.name row.name) (none_if _ new) (same_itself row.name)

  go : ((n < length setup.devices) × (slice_get setup.devices n ≡ Some other)) ⊎ ((n ≡ length setup.devices) × (row ≡ other)) → device_named (with_device setup row) other.name ≡ Some n
  go (inl old) = found other.name ∙ ap (λ (o : Option ℕ). first_of o (cond (same_name row.name other.name) (Some (length setup.devices)) None)) (apart n other old.1)
  go (inr end) = subst (λ (r : DevRow). device_named (with_device setup row) r.name ≡ Some n) end.1 (at_last ∙ ap Some (sym end.0))

more_earlier : (setup : Setup) (row : DevRow) → StandsOnEarlier setup → has_base setup row.base ≡ true → StandsOnEarlier (with_device setup row)
more_earlier setup row earlier has dev base on = go (slice_get (setup.devices ++ row ∷ []) dev.0) refl on where
  of_row : (r : DevRow) → slice_get (setup.devices ++ row ∷ []) dev.0 ≡ Some r → r.base ≡ Some base → base.0 < dev.0
  of_row r at is = cases (one_of setup.devices row r dev.0 at) where
    cases : ((dev.0 < length setup.devices) × (slice_get setup.devices dev.0 ≡ Some r)) ⊎ ((dev.0 ≡ length setup.devices) × (row ≡ r)) → base.0 < dev.0
    cases (inl old) = earlier dev base (ap base_of_row old.1 ∙ is)
    cases (inr end) = subst (λ (m : ℕ). base.0 < m) (sym end.0) (within setup.devices base.0 (sym (ap (has_base setup) (ap (λ (x : DevRow). x.base) end.1 ∙ is)) ∙ has))

  go : (o : Option DevRow) → slice_get (setup.devices ++ row ∷ []) dev.0 ≡ o → base_of_row o ≡ Some base → base.0 < dev.0
  go None at is = cc
  go (Some r) at is = of_row r at is

pub is_added : (old new : Names) (setup : Setup) (row : DevRow) (name : List ℕ) (place : ℕ) (devices : List DevRow) (rates : List Rates) (injections : List Injections)
    → IsRegistered old setup → register_refusal setup row ≡ None → name ≡ row.name → place ≡ length setup.devices → Gains old name place new
    → devices ≡ setup.devices ++ row ∷ [] → rates ≡ setup.rates ++ no_limit ∷ [] → injections ≡ setup.injections ++ no_injections ∷ []
    → IsRegistered new (record setup { devices = devices; rates = rates; injections = injections })
is_added old new setup row name place devices rates injections is free named at gains ds rs js =
    let known = taken_or (is_some (device_named setup row.name)) (not (has_base setup row.base)) (is_claimed setup row) (nat_le 256 (length setup.devices) || nat_le 64 (layers_below setup row.base)) free in
    let one : length devices ≡ length setup.devices + 1 = ap (λ (xs : List DevRow). length xs) ds ∙ length-append setup.devices (row ∷ []) in
    let two : length rates ≡ length setup.rates + 1 = ap (λ (xs : List Rates). length xs) rs ∙ length-append setup.rates (no_limit ∷ []) in
    let three : length injections ≡ length setup.injections + 1 = ap (λ (xs : List Injections). length xs) js ∙ length-append setup.injections (no_injections ∷ []) in
    record {
      names = λ q.
          named_more old new setup row is.names (λ p. gains p ∙ ap₂ (λ (n : List ℕ) (k : ℕ). first_of (place_of_name old p) (cond (same_name n p) (Some k) None)) named at) q
          ∙ sym (ap (λ (xs : List DevRow). position (λ r. same_name r.name q) xs) ds);
      rates = omega (arith, one, two, is.rates);
      injections = omega (arith, one, three, is.injections);
      apart = subst (λ (xs : List DevRow). AreToldApart (record setup { devices = xs })) (sym ds) (more_apart setup row is.apart known.0);
      earlier = subst (λ (xs : List DevRow). StandsOnEarlier (record setup { devices = xs })) (sym ds) (more_earlier setup row is.earlier (not_true _ known.1));
    }
