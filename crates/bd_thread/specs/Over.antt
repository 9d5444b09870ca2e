-- How a thread goes on over what its disks hold.
use Rattle.std.specs.Prelude.{◌≡◌, List, [], ◌++◌, vec_len}
use Rattle.bd_base.specs.declared.act.Entry.{Entry}
use Rattle.bd_base.specs.declared.id.DevId.{DevId}
use Rattle.bd_machine.specs.declared.state.Content.{Content}
use Rattle.bd_law_logs.specs.Journals.{events}
use Rattle.bd_law_disks.specs.Over.{LeadsOver}
use Rattle.bd_law_held.specs.Held.{held_over, EndInTime}
use Rattle.bd_thread.specs.declared.links.Links.{Links}
use Rattle.bd_thread.specs.declared.thread.Thread.{Thread}
use Rattle.bd_thread.specs.Seen.{local}
use Rattle.bd_thread.specs.Timely.{AreTimely}

-- the thread went on over what its disks hold, from what they held before to what they hold after: by its own acts as the local rules let it,
-- and by what disks did as they say it, at its turn's moment; the entries that it added say how; what it held, as it saw it, ends in time
pub record WentOver (contents contents' : DevId → Content) (old : Thread) (before : Links) (new : Thread) (after : Links) : Type 0 where
  pub me : new.me ≡ old.me
  pub setup : new.setup ≡ old.setup
  pub queues : vec_len after.queues ≡ vec_len before.queues
  pub rows : after.registry.setup ≡ before.registry.setup
  pub entries : List Entry
  pub added : after.entries ≡ before.entries ++ entries
  pub leads : LeadsOver old.setup.now old.me contents (local old before) entries contents' (local new after)
  pub timely : AreTimely entries old new
  pub held : EndInTime old.setup.now old.time.moment (held_over old.setup.now old.me contents (local old before) entries)

-- so, and the registry is as before, and none of the entries that were added asks it or is the Shutdown
pub record WentAloneOver (contents contents' : DevId → Content) (old : Thread) (before : Links) (new : Thread) (after : Links) : Type 0 where
  pub went : WentOver contents contents' old before new after
  pub registry : after.registry ≡ before.registry
  pub none_asks : events went.entries ≡ []
