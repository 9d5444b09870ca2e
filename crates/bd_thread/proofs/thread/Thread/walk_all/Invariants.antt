use Rattle.bd_thread.specs.Acted.{Acted}
use Rattle.bd_thread.specs.Requests.{KeepsTickets}
use Rattle.bd_thread.specs.Waits.{Idles}
use Rattle.bd_thread.specs.Walking.{NoVisitBelow}
use Rattle.bd_thread.specs.Work.{AsksNothing}
use Rattle.bd_thread.proofs.thread.Thread.walk_all.Given as goal

-- the walks before this place can't visit
abbrev pub invariant-loop-place : goal.invariant-loop-place
invariant-loop-place l = record {
  acted : Acted l.initial.self l.initial.links l.self l.links;
  tickets : KeepsTickets l.initial.self → KeepsTickets l.self;
  quiet : Idles (NoVisitBelow l.place) l.initial.self l.initial.links l.self l.links;
  alone : AsksNothing l.initial.links l.links;
}
