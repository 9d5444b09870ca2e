use Rattle.std.proofs.Common.{ℕ, refl, ◌∙◌, ap}
use Rattle.bd_base.specs.declared.act.Act.TheVariants as acts
use Rattle.bd_machine.specs.declared.state.Part.{Part}
use Rattle.bd_machine.specs.Grace.{ended}
use Rattle.bd_links.specs.Entries.{longer}
use Rattle.bd_thread.specs.declared.links.Links.{Links}
use Rattle.bd_thread.specs.declared.thread.Thread.{Thread}
use Rattle.bd_thread.specs.Acted.{Acted}
use Rattle.bd_thread.specs.Grace.{IsHardened}
use Rattle.bd_thread.specs.Requests.{KeepsTickets}
use Rattle.bd_thread.specs.Seen.{untaken}
use Rattle.bd_thread.proofs.Going.{carried}
use Rattle.bd_thread.proofs.Gracing.{hardened_acted, hardened_tickets}
use Rattle.bd_thread.proofs.thread.Thread.end_mark.Goals as goal

pub returns : goal.returns
returns c =
    let old = c.args.self.now in
    let before = c.args.links.now in
    let walk = c.args.walk in
    let moment = old.time.moment in
    let left : Part → Thread = λ p. record old { part = untaken p } in
    let at : ℕ → Part = λ n. ended walk n old.part in
    let named : ℕ → Links = λ n. record before { entries = longer old.me before.entries (acts.Due walk n) } in
    let new : Thread = left (at moment) in
    let after : Links = named moment in
    let thread = c.in_ok-note.ensures.thread ∙ ap left (c.in_ok-harden.ensures ∙ ap at c.moment-now.ensures) in
    let shared = c.in_ok-note.ensures.links ∙ ap named c.moment-now.ensures in
    let is : IsHardened walk old before new after = record { thread = refl; links = refl } in
    record {
      acted = carried (Acted old before) new after _ _ thread shared (hardened_acted old before new after walk c.requires is);
      tickets = carried (λ t l. KeepsTickets old → KeepsTickets t) new after _ _ thread shared (hardened_tickets old before new after walk is);
      hardened = carried (IsHardened walk old before) new after _ _ thread shared is;
    }
