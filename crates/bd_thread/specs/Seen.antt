-- What a thread and the links show, as the local rules see it.
use Rattle.std.specs.Prelude.{ℕ, Bool, List, length, filter, Option, None}
use Rattle.bd_base.specs.declared.id.DevId.{DevId}
use Rattle.bd_base.specs.declared.setup.Setup.{Setup}
use Rattle.bd_machine.specs.declared.state.Id.{Id}
use Rattle.bd_machine.specs.declared.state.Kept.{Kept}
use Rattle.bd_machine.specs.declared.state.Part.{Part}
use Rattle.bd_machine.specs.declared.state.Prior.{Prior}
use Rattle.bd_machine.specs.declared.state.Registry.{Registry}
use Rattle.bd_machine.specs.BlockMap.{size_of}
use Rattle.bd_machine.specs.Registry.{references}
use Rattle.bd_machine.specs.View.{View, is_of}
use Rattle.bd_turns.specs.declared.queue.Message.{Message}
use Rattle.bd_turns.specs.Local.{Local}
use Rattle.bd_links.specs.Queues.{queues_of}
use Rattle.bd_moment.specs.declared.time.Time.{Time}
use Rattle.bd_tokens.specs.Tokens.{here_in}
use Rattle.bd_thread.specs.declared.links.Links.{Links}
use Rattle.bd_thread.specs.declared.thread.Thread.{Thread}
use Rattle.bd_thread.specs.declared.view.Seen.{Seen}

-- what thread number `me` sees and what is shared, by its parts
abbrev pub local_at : ℕ → Part → (Id → Option Kept) → Registry → Bool → ℕ → (ℕ → List Message) → Local
local_at me part here registry shut stamp queues = record {
  view = record { part = part; here = here; handles = filter (is_of me) registry.handles; channels = references registry me };
  shared = record { stamp = stamp; shut = shut; registry = registry; queues = queues };
}

-- what the thread sees and what is shared
abbrev pub local : Thread → Links → Local
local t links = local_at t.me t.part (here_in t.held.items) links.registry.state links.shut (length links.entries) (queues_of links.queues.items)

-- what the thread sees
abbrev pub view_of : Thread → Links → View
view_of t links = (local t links).view

-- the same, by its parts
abbrev pub view_seen : Seen → View
view_seen s = record {
  part = s.part.now;
  here = here_in s.held.now.items;
  handles = filter (is_of s.me) s.registry.now.state.handles;
  channels = references s.registry.now.state s.me;
}

-- the part after an act that is this to the next one
abbrev pub left_by : Option Prior → Part → Part
left_by prior part = record part { prior = prior }

-- the part after an act that the next one needn't follow directly: what the act before left for it is let go
abbrev pub untaken : Part → Part
untaken part = record part { prior = None }

-- which thread it is, and of which setup, for the crates above
abbrev pub number_of : Thread → ℕ
number_of t = t.me

abbrev pub setup_of : Thread → Setup
setup_of t = t.setup.now

-- the moments that it goes by, for the crates above
abbrev pub time_of : Thread → Time
time_of t = t.time

-- the bytes of a block of a device
abbrev pub block_size : Thread → DevId → ℕ
block_size t dev = size_of t.setup.now dev
