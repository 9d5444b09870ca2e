-- Where a thread and the links begin.
use Rattle.std.specs.Prelude.{◌≡◌, ℕ, false, []}
use Rattle.bd_base.specs.declared.setup.Setup.{Setup}
use Rattle.bd_machine.specs.Start.{part_at_start, registry_at_start}
use Rattle.bd_registry.specs.State.{rows_of}
use Rattle.bd_turns.specs.Laws.{view_at_start, shared_at_start}
use Rattle.bd_turns.specs.Local.{Local}
use Rattle.bd_links.specs.Queues.{empty_queues}
use Rattle.bd_moment.specs.Time.{before_any}
use Rattle.bd_thread.specs.declared.links.Links.{Links}
use Rattle.bd_thread.specs.declared.thread.Thread.{Thread}
use Rattle.bd_thread.specs.Seen.{local}

-- an empty queue for each thread, the registry as it is at the start, no entry, and no Shutdown
pub record IsNewLinks (setup : Setup) (links : Links) : Type 0 where
  pub queues : links.queues.items ≡ empty_queues setup.threads
  pub registry : links.registry ≡ record { setup = rows_of setup; journal = []; last = 0; state = registry_at_start setup }
  pub entries : links.entries ≡ []
  pub running : links.shut ≡ false

-- it is thread number `me` of the setup with its part as it is at the start, holds no token, has nothing to put, nothing in flight and nothing that waits to be sent again, keeps no ticket, had no turn, holds no request, and has nothing noted to ask
pub record IsNew (me : ℕ) (setup : Setup) (t : Thread) : Type 0 where
  pub own : t.me ≡ me
  pub given : t.setup.now ≡ setup
  pub part : t.part ≡ part_at_start setup [] me
  pub held : t.held.items ≡ []
  pub outbox : t.outbox.items ≡ []
  pub retries : t.retries ≡ []
  pub tickets : t.purse.ids ≡ []
  pub time : t.time ≡ before_any
  pub holds : t.holds ≡ []
  pub calls : t.calls.items ≡ []

-- what a thread sees before any entry, with nothing told of its disks, and what is shared then
abbrev pub local_at_start : Setup → ℕ → Local
local_at_start setup t = record { view = view_at_start setup [] t; shared = shared_at_start setup }

-- a new thread with new links sees what the machine's thread sees at the start
abbrev pub NewIsAtStart : Type 0
NewIsAtStart = (me : ℕ) (setup : Setup) (t : Thread) (links : Links) → IsNew me setup t → IsNewLinks setup links → local t links ≡ local_at_start setup me
