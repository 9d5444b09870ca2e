use Rattle.std.proofs.Common.{drop}
use Rattle.bd_thread.specs.declared.links.Links.{Links}
use Rattle.bd_thread.specs.declared.thread.Thread.{Thread}
use Rattle.bd_thread.specs.Aborts.{StopsAll, StopsEach}
use Rattle.bd_thread.specs.Acted.{Acted}
use Rattle.bd_thread.specs.Requests.{KeepsTickets}
use Rattle.bd_thread.proofs.thread.Thread.stop_all.Given as goal

-- once those that are left are stopped, all are
abbrev pub invariant-loop-req : goal.invariant-loop-req
invariant-loop-req l = record {
  acted : Acted l.initial.self l.initial.links l.self l.links;
  tickets : KeepsTickets l.initial.self → KeepsTickets l.self;
  stops : (n : Thread) (links : Links) → StopsEach (drop l.req-index l.req-items) l.cause l.self l.links n links → StopsAll l.fn.dev l.cause l.initial.self l.initial.links n links;
}
