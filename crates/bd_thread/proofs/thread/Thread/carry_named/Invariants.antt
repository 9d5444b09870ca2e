use Rattle.std.proofs.Common.{◌≡◌, length}
use Rattle.bd_thread.specs.Acted.{Acted}
use Rattle.bd_thread.specs.Requests.{KeepsTickets}
use Rattle.bd_thread.specs.Waits.{Idles, StandsAmong}
use Rattle.bd_thread.specs.Work.{AsksNothing}
use Rattle.bd_thread.proofs.thread.Thread.carry_named.Given as goal

-- those before this place can't be carried on
abbrev pub invariant-loop-place : goal.invariant-loop-place
invariant-loop-place l = record {
  acted : Acted l.initial.self l.initial.links l.self l.links;
  tickets : KeepsTickets l.initial.self → KeepsTickets l.self;
  quiet : l.entries ≡ length l.initial.links.entries → Idles (StandsAmong l.found l.touched.reqs l.place) l.initial.self l.initial.links l.self l.links;
  alone : AsksNothing l.initial.links l.links;
}
