use Rattle.std.proofs.Common.{◌≡◌, ◌<◌}
use Rattle.bd_thread.specs.Acted.{Acted}
use Rattle.bd_thread.specs.Injections.{NoDecisionOf}
use Rattle.bd_thread.specs.Requests.{KeepsTickets}
use Rattle.bd_thread.specs.Waits.{Idles}
use Rattle.bd_thread.proofs.thread.Thread.decide_all.Given as goal

abbrev pub invariant-loop-round : goal.invariant-loop-round
invariant-loop-round l = record {
  acted : Acted l.initial.self l.initial.links l.self l.links;
  tickets : KeepsTickets l.initial.self → KeepsTickets l.self;
  noted : l.self.calls ≡ l.initial.self.calls;
  quiet : Idles (λ t links. 0 < l._round → NoDecisionOf l.req t links) l.initial.self l.initial.links l.self l.links;
}
