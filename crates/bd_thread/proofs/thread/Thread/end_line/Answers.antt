use Rattle.std.proofs.Common.{◌≡◌, Some, length, refl, sym, ◌∙◌, ap, ap₂, false}
use Rattle.std.specs.Option.{option_copied}
use Rattle.bd_base.specs.declared.act.Act.TheVariants as acts
use Rattle.bd_machine.specs.declared.state.Part.{Part}
use Rattle.bd_machine.specs.Asked.{next_line, outcome_by}
use Rattle.bd_machine.specs.View.{View}
use Rattle.bd_links.specs.Entries.{longer}
use Rattle.bd_links.specs.Queues.{queues_of}
use Rattle.bd_moment.specs.declared.time.Time.{Time}
use Rattle.bd_moment.specs.Time.{is_asleep as is_job_asleep, with_line_ended}
use Rattle.bd_tokens.specs.Tokens.{here_in}
use Rattle.bd_thread.specs.Acted.{Acted}
use Rattle.bd_thread.specs.Lines.{done, IsEnded}
use Rattle.bd_thread.specs.Requests.{KeepsTickets}
use Rattle.bd_thread.specs.Seen.{untaken, view_of}
use Rattle.bd_thread.specs.declared.links.Links.{Links}
use Rattle.bd_thread.specs.declared.thread.Thread.{Thread}
use Rattle.bd_thread.proofs.Ends.{ended_by, line_steps}
use Rattle.bd_thread.proofs.Going.{carried}
use Rattle.bd_thread.proofs.Submissions.{acted_into}
use Rattle.bd_thread.proofs.Tickets.{same_tickets}
use Rattle.bd_thread.proofs.thread.Thread.end_line.Goals as goal

pub returns : goal.returns
returns c =
    let t = c.args.self.now in
    let links = c.args.links.now in
    let line = c.in-Some.line.now in
    let outcome = c.in-Some-2.outcome in
    let next : next_line t.setup.now t.me t.part ≡ Some line = sym c.next_line.ensures ∙ ap option_copied c.in-Some.is in
    let due : outcome_by (view_of t links) t.part.decided line.job ≡ Some outcome =
    sym (ap (λ (v : View). outcome_by v v.part.decided line.job) c.seen.ensures) ∙ sym c.in_ok-outcome.ensures ∙ c.in-Some-2.is in
    let new : Thread = record t { part = done t line.job; time = with_line_ended t.time } in
    let after : Links = record links { entries = longer t.me links.entries (acts.Script line.number outcome) } in
    let part : record t { part = untaken c.line_done.new.part; time = c.line_ended.new.self } ≡ new =
    ap₂ (λ (p : Part) (time : Time). let n : Thread = record t { part = untaken p; time = time } in n) c.in_ok-line_done.ensures c.line_ended.ensures in
    let awake : is_job_asleep t.time line.job ≡ false = sym c.is_asleep.ensures ∙ c.if-is_asleep.false in
    let acted : Acted t links new after =
    acted_into t links new after (acts.Script line.number outcome) (done t line.job) (here_in t.held.items) refl refl refl refl refl
    (line_steps t.setup.now t.me t.part (here_in t.held.items) links.registry.state links.shut (length links.entries) (queues_of links.queues.items) line outcome c.if-links.false next due) refl
    (record { time = refl; named = tt; held = tt; fits = λ dev. tt }) in
    let ended : IsEnded outcome t links new after = record { line = line; next = next; thread = refl; links = refl } in
    let thread = c.in_ok-note.ensures.thread ∙ part in
    record {
      acted = carried (Acted t links) new after _ _ thread c.in_ok-note.ensures.links acted;
      tickets = carried (λ n l. KeepsTickets t → KeepsTickets n) new after _ _ thread c.in_ok-note.ensures.links (λ keeps. same_tickets t new refl refl refl keeps);
      ended = ended_by t links _ _ line outcome c.if-links.false next awake due (carried (IsEnded outcome t links) new after _ _ thread c.in_ok-note.ensures.links ended);
    }
