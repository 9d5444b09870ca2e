-- The parts of a split, one after the other.
use Rattle.std.proofs.Common.{◌≡◌, ℕ, ◌+◌, List, [], ◌∷◌, ◌++◌, zero-add}
use Rattle.std.proofs.lemmas.List.FromFn.{map-range_with_len_more}
use Rattle.bd_building.specs.Rows.{part_at, parts_of}
use Rattle.bd_building.specs.declared.base.Base.{Base}

pub part_more : (group : ℕ) (name : List ℕ) (base : Base) (blocks i : ℕ) → parts_of group name base blocks (i + 1) ≡ parts_of group name base blocks i ++ part_at group name base blocks i ∷ []
part_more group name base blocks i = map-range_with_len_more (part_at group name base blocks) 0 i i (zero-add i)
