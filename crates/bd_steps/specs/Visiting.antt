-- Whether a walk visits a thread.
use Rattle.std.specs.Prelude.{ℕ, Bool, cond, Option, Some, None, is_none}
use Rattle.bd_base.specs.declared.id.WalkId.{WalkId}
use Rattle.bd_base.specs.declared.setup.Setup.{Setup}
use Rattle.bd_machine.specs.declared.state.OpenWalk.{OpenWalk}
use Rattle.bd_machine.specs.Kept.{walk_here}
use Rattle.bd_machine.specs.Step.{first_failing}
use Rattle.bd_machine.specs.View.{View}
use Rattle.bd_machine.specs.Walks.{guards_visit}

-- the rules let the walk visit the thread
abbrev pub may_visit : Setup → ℕ → View → WalkId → OpenWalk → Bool
may_visit setup me v walk w = is_none (first_failing (guards_visit setup me v walk w.dev w.kind))

abbrev pub if_visited : Setup → ℕ → View → WalkId → Option OpenWalk → Option OpenWalk
if_visited setup me v walk None = None
if_visited setup me v walk (Some w) = cond (may_visit setup me v walk w) (Some w) None

-- the walk, where it is here and the rules let it visit the thread
abbrev pub visitor : Setup → ℕ → View → WalkId → Option OpenWalk
visitor setup me v walk = if_visited setup me v walk (walk_here v walk)
