use Rattle.std.proofs.Common.{◌≡◌, ◌+◌, length}
use Rattle.bd_thread.specs.declared.links.Links.{Links}
use Rattle.bd_thread.specs.declared.thread.Thread.{Thread}
use Rattle.bd_thread.specs.Acted.{Acted}
use Rattle.bd_thread.specs.Noted.{CallsEach}
use Rattle.bd_thread.specs.Requests.{KeepsTickets}
use Rattle.bd_thread.proofs.thread.Thread.call_all.Given as goal

-- once those that are left are called, all are
abbrev pub invariant-loop-round : goal.invariant-loop-round
invariant-loop-round l = record {
  acted : Acted l.initial.self l.initial.links l.self l.links;
  tickets : KeepsTickets l.initial.self → KeepsTickets l.self;
  left : l._round + length l.self.calls.items ≡ length l.initial.self.calls.items;
  each : (n : Thread) (links : Links) → CallsEach l.self.calls.items l.self l.links n links → CallsEach l.initial.self.calls.items l.initial.self l.initial.links n links;
}
