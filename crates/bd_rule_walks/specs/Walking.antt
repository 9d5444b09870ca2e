-- A view for the marks of a visit.
use Rattle.std.specs.Prelude.{ℕ, false, [], Option, Some, None}
use Rattle.bd_base.specs.declared.request.WalkKind.TheVariants.{Freeze}
use Rattle.bd_machine.specs.declared.state.Kept.TheVariants as keeps
use Rattle.bd_machine.specs.declared.state.OpenWalk.{OpenWalk}
use Rattle.bd_machine.specs.declared.state.Part.{Part}
use Rattle.bd_machine.specs.View.{View}

-- a walk of which the drain time alone matters
abbrev pub walk_with : ℕ → OpenWalk
walk_with time = record { dev = record { 0 = 0 }; kind = Freeze; left = record { 0 = 0 }; request = None; taken = false; time = time }

-- a view of this part, with these references to each device, and walks that bring this drain time
abbrev pub with_channel : Part → Option ℕ → ℕ → View
with_channel part channel time = record { part = part; here = λ id. Some (keeps.Walk (walk_with time)); handles = []; channels = λ dev. channel }
