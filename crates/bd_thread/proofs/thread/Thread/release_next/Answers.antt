use Rattle.std.proofs.Common.{◌≡◌, None, Some, sym, ◌∙◌, ap}
use Rattle.bd_held.specs.Holds.{first_hold}
use Rattle.bd_thread.specs.Delays.{is_release_due, release_due, NoFirstRelease}
use Rattle.bd_thread.proofs.Delaying.{ends_hold_alone, ends_idle, not_due}
use Rattle.bd_thread.proofs.Idle.{idle_so}
use Rattle.bd_thread.proofs.thread.Thread.release_next.Goals as goal

pub returns-clause-quiet : goal.returns-clause-quiet
returns-clause-quiet c =
    let t = c.args.self.now in
    let links = c.args.links.now in
    let h = c.in-Some.first in
    let first : first_hold t.holds ≡ Some h = sym c.first.ensures.first ∙ c.in-Some.is in
    idle_so {P = λ n l. release_due n l h.req ≡ None} {Q = NoFirstRelease} t links c.end_hold.new.self c.end_hold.new.links
    (λ none. ap (is_release_due t links) first ∙ not_due t links h none)
    (ends_idle h.req t links c.end_hold.new.self c.end_hold.new.links c.in_ok-ended.ended c.in_ok-ended.ensures.ends)

pub returns-clause-alone : goal.returns-clause-alone
returns-clause-alone c =
    ends_hold_alone c.in-Some.first.req c.args.self.now c.args.links.now c.end_hold.new.self c.end_hold.new.links c.in_ok-ended.ended c.in_ok-ended.ensures.ends
