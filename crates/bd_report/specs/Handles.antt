-- The handles of scripts as the code keeps them, and how many lines each thread has done.
use Rattle.std.specs.Prelude.{◌≡◌, ℕ, nat_eq, List}
use Rattle.std.specs.Option.{unwrap_or}
use Rattle.std.specs.HashMap.{HashMap, get}
use Rattle.bd_base.specs.declared.act.Entry.{Entry}
use Rattle.bd_report.specs.declared.handles.OpenedHandle.{OpenedHandle}
use Rattle.bd_report.specs.Report.{Handle, lines_done, gone_line}

-- a handle without the places where its names lie
abbrev pub as_handle : OpenedHandle → Handle
as_handle opened = record { thread = opened.thread; number = opened.number; name = opened.name.now; device = opened.device.now }

-- the report's line of a removed handle
abbrev pub line_of_opened : OpenedHandle → List ℕ
line_of_opened opened = gone_line (as_handle opened)

module _ {S : Type 0} where
  -- how many lines a thread has done; a thread that is missing has done none
  abbrev pub done_at : HashMap ℕ ℕ S → ℕ → ℕ
  done_at m thread = unwrap_or (get nat_eq m thread) 0

  -- for each thread, how many lines it has done
  abbrev pub TellsDone : HashMap ℕ ℕ S → List Entry → Type 0
  TellsDone m trace = (thread : ℕ) → done_at m thread ≡ lines_done trace thread
