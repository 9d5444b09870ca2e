use Rattle.std.proofs.Common.{◌≡◌, ℕ, Some, true, refl, sym, ◌∙◌, ap}
use Rattle.bd_base.specs.declared.act.Act.TheVariants as acts
use Rattle.bd_machine.specs.declared.state.Part.{Part}
use Rattle.bd_machine.specs.Limits.{is_limit, seen, ticked}
use Rattle.bd_machine.specs.Table.{change_first}
use Rattle.bd_links.specs.Entries.{longer}
use Rattle.bd_thread.specs.declared.links.Links.{Links}
use Rattle.bd_thread.specs.declared.thread.Thread.{Thread}
use Rattle.bd_thread.specs.Acted.{Acted}
use Rattle.bd_thread.specs.Limits.{tick_due, ticked_part, IsTicked, Ticks}
use Rattle.bd_thread.specs.Requests.{KeepsTickets}
use Rattle.bd_thread.specs.Seen.{untaken}
use Rattle.bd_thread.proofs.Going.{carried}
use Rattle.bd_thread.proofs.Limiting.{not_ticked, ticked_acted, ticked_tickets, ticks_so}
use Rattle.bd_thread.proofs.thread.Thread.tick.Goals as goal

pub returns-in_default-clause-ticks : goal.returns-in_default-clause-ticks
returns-in_default-clause-ticks c = not_ticked c.args.self.now c.args.links.now c.args.dev (sym c.in_ok-slices.ensures ∙ c.in_default.is)

pub returns : goal.returns
returns c =
    let old = c.args.self.now in
    let before = c.args.links.now in
    let dev = c.args.dev in
    let slices = c.in-Some.slices in
    let due : tick_due old before dev ≡ Some slices = sym c.in_ok-slices.ensures ∙ c.in-Some.is in
    let new : Thread = record old { part = ticked_part old dev slices } in
    let after : Links = record before { entries = longer old.me before.entries (acts.Tick dev old.time.moment slices) } in
    let at : ℕ → Part = λ now. record old.part { limited = change_first (is_limit dev) (ticked old.setup.now old.part.moments now slices) old.part.limited; moments = seen now old.part.moments } in
    let left : Part → Thread = λ part. record old { part = untaken part } in
    let thread = c.in_ok-note.ensures.thread ∙ ap left (c.in_ok-tick.ensures ∙ ap at c.moment-now.ensures) in
    let named : ℕ → Links = λ n. record before { entries = longer old.me before.entries (acts.Tick dev n slices) } in
    let shared = c.in_ok-note.ensures.links ∙ ap named c.moment-now.ensures in
    let is : IsTicked dev slices old before new after = record { thread = refl; links = refl } in
    record {
      acted = carried (Acted old before) new after _ _ thread shared (ticked_acted old before new after dev slices due is);
      tickets = carried (λ t l. KeepsTickets old → KeepsTickets t) new after _ _ thread shared (ticked_tickets old before new after dev slices is);
      ticks = carried (λ t l. Ticks dev old before t l true) new after _ _ thread shared (ticks_so old before new after dev slices due is);
    }
