use Rattle.bd_thread.specs.Acted.{Acted}
use Rattle.bd_thread.specs.Limits.{NoLimitBelow}
use Rattle.bd_thread.specs.Requests.{KeepsTickets}
use Rattle.bd_thread.specs.Waits.{Idles}
use Rattle.bd_thread.specs.Work.{AsksNothing}
use Rattle.bd_thread.proofs.thread.Thread.limit_all.Given as goal

-- for the lines before this place nothing can be done
abbrev pub invariant-loop-place : goal.invariant-loop-place
invariant-loop-place l = record {
  acted : Acted l.initial.self l.initial.links l.self l.links;
  tickets : KeepsTickets l.initial.self → KeepsTickets l.self;
  quiet : Idles (NoLimitBelow l.place) l.initial.self l.initial.links l.self l.links;
  alone : AsksNothing l.initial.links l.links;
}
