-- A thread on which no device carries a mark.
use Rattle.std.proofs.Common.{◌≡◌, Bool, true, false, ◌&&◌, ◌||◌, cond, List, [], ◌∷◌, Some, unwrap_or, refl, ◌∙◌, ap}
use Rattle.std.proofs.lemmas.Bool.{or_parts}
use Rattle.std.specs.List.{list_any}
use Rattle.bd_base.specs.declared.dev_set.DevSet.{DevSet}
use Rattle.bd_base.specs.declared.id.DevId.{DevId}
use Rattle.bd_base.specs.DevSet.{has_dev, with_dev}
use Rattle.bd_machine.specs.declared.state.Marking.{Marking}
use Rattle.bd_machine.specs.declared.state.Part.{Part}
use Rattle.bd_machine.specs.Marks.{has_mark, is_frozen, is_hard, is_removed, is_soft, late_among, stops_here, unmarked}
use Rattle.bd_machine.specs.Same.{same_dev}
use Rattle.bd_machine.specs.Table.{look_up}
use Rattle.bd_rule_requests.specs.Marks.{carries_any, carries_mark}

abbrev marking_in : List (DevId × Marking) → DevId → Marking
marking_in rows dev = unwrap_or (look_up same_dev rows dev) unmarked

none_in : (rows : List (DevId × Marking)) (dev : DevId) → list_any carries_mark rows ≡ false → carries_any (marking_in rows dev) ≡ false
none_in [] dev h = refl
none_in (row ∷ rows) dev h = go (same_dev row.0 dev) parts.0 (none_in rows dev parts.1)
  where
    parts : (carries_mark row ≡ false) × (list_any carries_mark rows ≡ false)
    parts = or_parts (carries_mark row) (list_any carries_mark rows) h

    found : Bool → Marking
    found same = unwrap_or (cond same (Some row.1) (look_up same_dev rows dev)) unmarked

    go : (same : Bool) → carries_mark row ≡ false → carries_any (marking_in rows dev) ≡ false → carries_any (found same) ≡ false
    go true here later = here
    go false here later = later

pub none_marked : (part : Part) (devs : List DevId) → list_any carries_mark part.marked ≡ false → list_any (has_mark part) devs ≡ false
none_marked part [] h = refl
none_marked part (d ∷ ds) h = ap (λ (b : Bool). b || list_any (has_mark part) ds) (none_in part.marked d h) ∙ none_marked part ds h

pub none_removed : (part : Part) (devs : List DevId) → list_any carries_mark part.marked ≡ false → list_any (is_removed part) devs ≡ false
none_removed part [] h = refl
none_removed part (d ∷ ds) h =
    ap (λ (b : Bool). b || list_any (is_removed part) ds) (or_parts (is_frozen part d) (is_removed part d) (none_in part.marked d h)).1
    ∙ none_removed part ds h

not_stopped : (hard soft removed late : Bool) → (hard || soft) || removed ≡ false → (removed || (hard || (soft && late))) ≡ false
not_stopped false false false late h = refl
not_stopped false false true late h = h
not_stopped false true false late h = cc
not_stopped false true true late h = h
not_stopped true false false late h = cc
not_stopped true false true late h = h
not_stopped true true false late h = cc
not_stopped true true true late h = h

pub none_stopped : (part : Part) (late : DevSet) (devs : List DevId) → list_any carries_mark part.marked ≡ false → list_any (stops_here part late) devs ≡ false
none_stopped part late [] h = refl
none_stopped part late (d ∷ ds) h =
    ap (λ (b : Bool). b || list_any (stops_here part late) ds) (not_stopped (is_hard part d) (is_soft part d) (is_removed part d) (has_dev late d) (none_in part.marked d h))
    ∙ none_stopped part late ds h

-- a request is late for none of these devices
pub none_late : (part : Part) (set : DevSet) (devs : List DevId) → list_any carries_mark part.marked ≡ false → late_among part set devs ≡ set
none_late part set [] h = refl
none_late part set (d ∷ ds) h =
    ap (λ (b : Bool). late_among part (cond b (with_dev d set) set) ds) (or_parts (is_frozen part d) (is_removed part d) (none_in part.marked d h)).0
    ∙ none_late part set ds h
