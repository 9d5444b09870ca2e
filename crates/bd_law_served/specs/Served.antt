-- The pieces that base devices served, in order, and how each ended: by the machine's states, by a thread's rows, and by its turns.
use Rattle.std.specs.Prelude.{ℕ, Bool, cond, ◌==◌, List, [], ◌∷◌, ◌++◌, Option, Some, None}
use Rattle.bd_base.specs.declared.act.Act.{Act}
use Rattle.bd_base.specs.declared.act.Act.TheVariants as acts
use Rattle.bd_base.specs.declared.act.ApplyEnd.{ApplyEnd}
use Rattle.bd_base.specs.declared.act.Entry.{Entry}
use Rattle.bd_base.specs.declared.id.DevId.{DevId}
use Rattle.bd_base.specs.declared.setup.Setup.{Setup}
use Rattle.bd_machine.specs.declared.state.Content.{Content}
use Rattle.bd_machine.specs.declared.state.OpenPiece.{OpenPiece}
use Rattle.bd_machine.specs.declared.state.State.{State}
use Rattle.bd_machine.specs.BlockMap.{home}
use Rattle.bd_machine.specs.Content.{Told}
use Rattle.bd_machine.specs.Kept.{piece_here}
use Rattle.bd_machine.specs.Same.{same_dev}
use Rattle.bd_machine.specs.Start.{start}
use Rattle.bd_machine.specs.Step.{after}
use Rattle.bd_machine.specs.View.{View, view}
use Rattle.bd_law_logs.specs.Rows.{Row, view_after}
use Rattle.bd_law_disks.specs.Over.{contents_then, local_over}
use Rattle.bd_turns.specs.Local.{Local, local_after}

-- a piece, as it was before it was served, and its end
pub record ServedPiece : Type 0 where
  pub piece : OpenPiece
  pub end : ApplyEnd

-- ---- an act

abbrev pub served_if : ApplyEnd → Option OpenPiece → List ServedPiece
served_if end None = []
served_if end (Some p) = record { piece = p; end = end } ∷ []

-- the piece of a device that an act says was served, if it is an Apply there, as the thread saw the piece before
abbrev pub served_by : DevId → View → Act → List ServedPiece
served_by dev v (acts.Apply req k on end) = cond (same_dev on dev) (served_if end (piece_here v req k)) []
served_by dev v _ = []

-- ---- by the machine's states

-- that of an entry, where it is this thread's
abbrev pub served_at : ℕ → DevId → State → Entry → List ServedPiece
served_at t dev s e = cond (e.thread == t) (served_by dev (view s t) e.act) []

-- those that a thread served by these entries, from a state on
abbrev pub served_from : Setup → ℕ → DevId → State → List Entry → List ServedPiece
served_from setup t dev s [] = []
served_from setup t dev s (e ∷ es) = served_at t dev s e ++ served_from setup t dev (after setup s e) es

-- the pieces of a base device that its home served in a run, in order
abbrev pub served_in : Setup → Told → List Entry → DevId → List ServedPiece
served_in setup told es dev = served_from setup (home setup dev) dev (start setup told) es

-- ---- by a thread's rows

-- those of a thread's rows, from what it saw on
abbrev pub served_on : Setup → Bool → ℕ → DevId → View → List Row → List ServedPiece
served_on setup shut t dev v [] = []
served_on setup shut t dev v (r ∷ rs) = served_by dev v r.entry.act ++ served_on setup shut t dev (view_after setup shut t v r) rs

-- ---- by a thread's turns

-- those of entries by which a thread went on by the local rules
abbrev pub served_led : Setup → ℕ → DevId → Local → List Entry → List ServedPiece
served_led setup t dev l [] = []
served_led setup t dev l (e ∷ es) = served_by dev l.view e.act ++ served_led setup t dev (local_after setup t l e) es

-- those of entries by which it went on over what its disks hold
abbrev pub served_over : Setup → ℕ → DevId → (DevId → Content) → Local → List Entry → List ServedPiece
served_over setup t dev contents l [] = []
served_over setup t dev contents l (e ∷ es) = served_by dev l.view e.act ++ served_over setup t dev (contents_then setup contents l e) (local_over setup t contents l e) es
