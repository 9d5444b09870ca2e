-- How a thread goes on.
use Rattle.std.specs.Prelude.{◌≡◌, Bool, true, not, List, ◌++◌, vec_len}
use Rattle.std.specs.List.{AllByRecursion}
use Rattle.bd_base.specs.declared.act.Act.{Act}
use Rattle.bd_base.specs.declared.act.Act.TheVariants as acts
use Rattle.bd_base.specs.declared.act.Entry.{Entry}
use Rattle.bd_base.specs.declared.setup.Setup.{Setup}
use Rattle.bd_machine.specs.BlockMap.{is_aio}
use Rattle.bd_turns.specs.Local.{Leads}
use Rattle.bd_law_held.specs.Held.{held_led, EndInTime}
use Rattle.bd_thread.specs.declared.links.Links.{Links}
use Rattle.bd_thread.specs.declared.thread.Thread.{Thread}
use Rattle.bd_thread.specs.Seen.{local}
use Rattle.bd_thread.specs.Timely.{AreTimely}

-- ---- which acts

-- any but an Apply of an aio device: its pieces are served by a disk, and a thread has none
abbrev pub is_own : Setup → Act → Bool
is_own setup (acts.Apply req k dev end) = not (is_aio setup dev)
is_own setup _ = true

-- each of these entries is of such an act
abbrev pub AreOf : (Setup → Act → Bool) → Setup → List Entry → Type 0
AreOf may setup entries = AllByRecursion (λ e. may setup e.act ≡ true) entries

-- ---- going on

-- the thread went on by such acts as the local rules let it, at its turn's moment, and the entries that it added say how; what it held, as it saw it, ends in time
pub record ActedBy (may : Setup → Act → Bool) (old : Thread) (before : Links) (new : Thread) (after : Links) : Type 0 where
  pub me : new.me ≡ old.me
  pub setup : new.setup ≡ old.setup
  pub queues : vec_len after.queues ≡ vec_len before.queues
  pub rows : after.registry.setup ≡ before.registry.setup
  pub entries : List Entry
  pub added : after.entries ≡ before.entries ++ entries
  pub acts : AreOf may old.setup.now entries
  pub leads : Leads old.setup.now old.me (local old before) entries (local new after)
  pub timely : AreTimely entries old new
  pub held : EndInTime old.setup.now old.time.moment (held_led old.setup.now old.me (local old before) entries)

-- by itself: no disk served a piece
abbrev pub Acted : Thread → Links → Thread → Links → Type 0
Acted old before new after = ActedBy is_own old before new after
