use Rattle.std.proofs.Common.{◌≡◌, cond, Option, Some, refl, ◌∙◌, ap}
use Rattle.bd_base.specs.declared.job.Line.{Line}
use Rattle.bd_machine.specs.declared.state.Id.{Id}
use Rattle.bd_machine.specs.declared.state.Id.TheVariants as ids
use Rattle.bd_machine.specs.declared.state.Kept.{Kept}
use Rattle.bd_machine.specs.declared.state.Kept.TheVariants as keeps
use Rattle.bd_machine.specs.declared.state.OpenRequest.{OpenRequest}
use Rattle.bd_machine.specs.Same.{same_id}
use Rattle.bd_rule_effects.specs.Accepted.{accepted}
use Rattle.bd_links.specs.Entries.{longer}
use Rattle.bd_tokens.specs.Tokens.{here_in}
use Rattle.bd_thread.specs.declared.links.Links.{Links}
use Rattle.bd_thread.specs.declared.thread.Thread.{Thread}
use Rattle.bd_thread.specs.Requests.{accept_act, IsOpened}
use Rattle.bd_thread.specs.Seen.{untaken}
use Rattle.bd_thread.proofs.Going.{carried}
use Rattle.bd_thread.proofs.thread.Thread.open_request.Goals as goal

pub returns-clause-opened : goal.returns-clause-opened
returns-clause-opened c =
    let old = c.args.self.now in
    let before = c.args.links.now in
    let req = c.args.req in
    let dev = c.args.dev in
    let handle = c.args.handle in
    let asked = c.args.asked in
    let noted = c.in_ok-note.ensures.thread in
    let with_held : Thread → Thread = λ t. record t { held = c.hold.new.self } in
    let new : Thread = record old { part = untaken c.accepted.new.part; held = c.hold.new.self; purse = c.reserve.new.self } in
    let after : Links = record before { entries = longer old.me before.entries (accept_act req dev handle asked) } in
    let was : here_in c.note.new.self.held.items ≡ here_in old.held.items = ap (λ (t : Thread). here_in t.held.items) noted ∙ c.in_ok-reserve-2.ensures.here in
    let kept_as : OpenRequest → (Id → Option Kept) → Id → Option Kept = λ r here j. cond (same_id (ids.Request req) j) (Some (keeps.Request r)) (here j) in
    let is : IsOpened req dev handle asked old before new after = record {
      part = ap untaken (c.in_ok-accepted.ensures ∙ ap (λ (line : Option Line). accepted line (record { id = req; handle = handle; dev = dev; op = asked.op }) old.part) c.next_line-line.ensures);
      held = c.in_ok-hold.ensures.ok ∙ ap (kept_as c.new_request.result) was ∙ ap (λ (r : OpenRequest). kept_as r (here_in old.held.items)) c.new_request.ensures;
      thread = refl;
      links = refl;
    } in
    carried (IsOpened req dev handle asked old before) new after _ _ (ap with_held noted) c.in_ok-note.ensures.links is
