-- Base devices of a setup stand on nothing, or some don't.
use Rattle.std.proofs.Common.{◌≡◌, ℕ, ◌<◌, Bool, true, false, not, ◌||◌, ◌&&◌, List, [], ◌∷◌, length, Option, Some, None, is_none, ◌⊎◌, inl, inr, refl, sym, ◌∙◌, ap, ap₂}
use Rattle.std.specs.List.{list_all, range_with_len}
use Rattle.bd_base.specs.declared.device.DevRow.{DevRow}
use Rattle.bd_base.specs.declared.id.DevId.{DevId}
use Rattle.bd_base.specs.declared.setup.Setup.{Setup}
use Rattle.bd_machine.specs.BlockMap.{has_kind, is_base_kind, row_of, stands_on}
use Rattle.bd_machine.specs.Users.{dev_of}
use Rattle.bd_law_disks.specs.Told.{AreBasesLowest}
use Rattle.bd_worker.proofs.Places.{all_below, is_below}

abbrev is_base : Setup → ℕ → Bool
is_base setup n = has_kind is_base_kind (row_of setup (dev_of n))

abbrev is_lowest : Setup → ℕ → Bool
is_lowest setup n = not (is_base setup n) || is_none (stands_on setup (dev_of n))

every : (p : ℕ → Bool) (xs : List ℕ) → ((n : ℕ) → p n ≡ true) → list_all p xs ≡ true
every p [] h = refl
every p (x ∷ xs) h = ap₂ (λ (b c : Bool). b && c) (h x) (every p xs h)

none_is : {X : Type 0} (o : Option X) → is_none o ≡ true → o ≡ None
none_is None h = refl
none_is (Some x) h = cc

-- a device of some kind has a row
within : (setup : Setup) (dev : DevId) → has_kind is_base_kind (row_of setup dev) ≡ true → dev.0 < length setup.devices
within setup dev h = go (row_of setup dev) refl h
  where
    go : (o : Option DevRow) → row_of setup dev ≡ o → has_kind is_base_kind o ≡ true → dev.0 < length setup.devices
    go None e h = cc
    go (Some row) e h = is_below setup.devices dev.0 row e

lowest_by : (b c : Bool) → b ≡ true → (not b || c) ≡ true → c ≡ true
lowest_by true c e h = h
lowest_by false c e h = cc

pub lowest_or_not : (setup : Setup) → AreBasesLowest setup ⊎ (AreBasesLowest setup → ⊥)
lowest_or_not setup = go (list_all (is_lowest setup) (range_with_len 0 (length setup.devices))) refl
  where
    go : (b : Bool) → list_all (is_lowest setup) (range_with_len 0 (length setup.devices)) ≡ b → AreBasesLowest setup ⊎ (AreBasesLowest setup → ⊥)
    go true e = inl (λ dev h. none_is (stands_on setup dev)
        (lowest_by (has_kind is_base_kind (row_of setup dev)) (is_none (stands_on setup dev)) h (all_below (is_lowest setup) (length setup.devices) dev.0 e (within setup dev h))))
    go false e = inr (λ lowest. clash (sym e ∙ every (is_lowest setup) (range_with_len 0 (length setup.devices)) (λ n. one lowest n (is_base setup n) refl)))
      where
        clash : false ≡ true → ⊥
        clash h = cc

        one : AreBasesLowest setup → (n : ℕ) (b : Bool) → is_base setup n ≡ b → (not b || is_none (stands_on setup (dev_of n))) ≡ true
        one lowest n true h = ap (λ (o : Option DevId). is_none o) (lowest (dev_of n) h)
        one lowest n false h = refl
