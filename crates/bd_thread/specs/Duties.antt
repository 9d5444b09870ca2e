-- What the thread owes and does once, where it may: events that it asks, and growths of its devices.
use Rattle.std.specs.Prelude.{◌≡◌, Bool, Option, None}
use Rattle.bd_base.specs.declared.event.RegEvent.{RegEvent}
use Rattle.bd_steps.specs.Duties.{duty_owed}
use Rattle.bd_thread.specs.declared.links.Links.{Links}
use Rattle.bd_thread.specs.declared.thread.Thread.{Thread}
use Rattle.bd_thread.specs.Growing.{growth_due}
use Rattle.bd_thread.specs.Lines.{if_asked, AsksBy}

-- the event of the first duty, where the thread may ask it
abbrev pub duty_asked : Thread → Links → Option RegEvent
duty_asked t links = if_asked t links (duty_owed t.setup.now t.part.owed)

abbrev pub Discharges : Thread → Links → Thread → Links → Bool → Type 0
Discharges old before new after asked = AsksBy old before new after asked (duty_asked old before)

-- nothing that the thread owes can be done: no device grows, and no event is asked
pub record NoDuty (t : Thread) (links : Links) : Type 0 where
  pub growth : growth_due t links ≡ None
  pub event : duty_asked t links ≡ None
