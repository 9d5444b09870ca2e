-- There are no more base handles than devices that stand on another.
use Rattle.std.proofs.Common.{◌≡◌, ℕ, suc, ◌+◌, ◌≤◌, Bool, true, false, cond, not, ◌&&◌, ◌==◌, List, [], ◌∷◌, length, map, filter, count_by, Option, Some, is_some, slice_get, refl, sym, ◌∙◌, ap, arith}
use Rattle.std.specs.List.{list_any, range_with_len}
use Rattle.std.proofs.lemmas.List.Sums.{length-filter}
use Rattle.bd_base.specs.declared.device.DevRow.{DevRow}
use Rattle.bd_base.specs.declared.id.DevId.{DevId}
use Rattle.bd_base.specs.declared.setup.Setup.{Setup}
use Rattle.bd_machine.specs.BlockMap.{row_of}
use Rattle.bd_machine.specs.Users.{dev_of, devices, firsts, is_first, is_of_group, shares_handle}

abbrev stands : DevRow → Bool
stands row = is_some row.base

-- one that is the first of its group stands on another
none_first : (setup : Setup) (dev : DevId) (r : DevRow) → row_of setup dev ≡ Some r → is_some r.base ≡ false → is_first setup dev ≡ false
none_first setup dev r here none =
    ap (λ (o : Option DevRow). is_of_group o o && not (list_any (shares_handle setup dev) (devices dev.0))) here
    ∙ ap (λ b. (b && b && (r.group == r.group)) && not (list_any (shares_handle setup dev) (devices dev.0))) none

clash : true ≡ false → ⊥
clash e = cc

-- from a device on
few_from : (setup : Setup) (a : ℕ) (rows : List DevRow) → ((i : ℕ) → slice_get setup.devices (a + i) ≡ slice_get rows i)
    → length (filter (is_first setup) (map dev_of (range_with_len a (length rows)))) ≤ length (filter stands rows)
few_from setup a [] at = omega arith
few_from setup a (r ∷ rs) at =
    let first : a ≡ a + 0 = omega arith in
    let here : row_of setup (dev_of a) ≡ Some r = ap (slice_get setup.devices) first ∙ at 0 in
    let rest = few_from setup (a + 1) rs (λ i. let moved : a + 1 + i ≡ a + suc i = omega arith in ap (slice_get setup.devices) moved ∙ at (suc i)) in
    go (is_first setup (dev_of a)) (is_some r.base) refl refl (none_first setup (dev_of a) r here) rest
  where
    go : (b s : Bool) → is_first setup (dev_of a) ≡ b → is_some r.base ≡ s → (is_some r.base ≡ false → is_first setup (dev_of a) ≡ false)
        → length (filter (is_first setup) (map dev_of (range_with_len (a + 1) (length rs)))) ≤ length (filter stands rs)
        → length (cond b (dev_of a ∷ filter (is_first setup) (map dev_of (range_with_len (a + 1) (length rs)))) (filter (is_first setup) (map dev_of (range_with_len (a + 1) (length rs))))) ≤ length (cond s (r ∷ filter stands rs) (filter stands rs))
    go true true p q none rest = omega (arith, rest)
    go true false p q none rest = absurd (clash (sym p ∙ none q))
    go false true p q none rest = omega (arith, rest)
    go false false p q none rest = omega (arith, rest)

pub few_firsts : (setup : Setup) → length (firsts setup) ≤ count_by stands setup.devices
few_firsts setup =
    let few = few_from setup 0 setup.devices (λ i. let same : 0 + i ≡ i = omega arith in ap (slice_get setup.devices) same) in
    omega (arith, few, length-filter stands setup.devices)
