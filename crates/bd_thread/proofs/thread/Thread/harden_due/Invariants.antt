use Rattle.std.proofs.Common.{◌<◌}
use Rattle.bd_thread.specs.Acted.{Acted}
use Rattle.bd_thread.specs.Grace.{NoDue}
use Rattle.bd_thread.specs.Requests.{KeepsTickets}
use Rattle.bd_thread.specs.Waits.{Idles}
use Rattle.bd_thread.specs.Work.{AsksNothing}
use Rattle.bd_thread.proofs.thread.Thread.harden_due.Given as goal

abbrev pub invariant-loop-round : goal.invariant-loop-round
invariant-loop-round l = record {
  acted : Acted l.initial.self l.initial.links l.self l.links;
  tickets : KeepsTickets l.initial.self → KeepsTickets l.self;
  quiet : Idles (λ t links. 0 < l._round → NoDue t links) l.initial.self l.initial.links l.self l.links;
  alone : AsksNothing l.initial.links l.links;
}
