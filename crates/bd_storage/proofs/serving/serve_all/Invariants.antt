use Rattle.std.proofs.Common.{◌≡◌}
use Rattle.bd_disks.specs.Rows.{places}
use Rattle.bd_storage.specs.Served.{WentWithDisks}
use Rattle.bd_storage.specs.Serving.{moment, NoServiceBelow, Serves, Still}
use Rattle.bd_thread.specs.Looking.{KeepsOwn}
use Rattle.bd_thread.specs.Waits.{Idles}
use Rattle.bd_thread.specs.Work.{AsksNothing}
use Rattle.bd_storage.proofs.serving.serve_all.Given as goal

abbrev pub invariant-loop-place : goal.invariant-loop-place
invariant-loop-place g l = record {
  over : WentWithDisks g.D.Disk.state l.initial.disks l.initial.thread l.initial.links l.disks l.thread l.links;
  tickets : KeepsOwn l.initial.thread → KeepsOwn l.thread;
  quiet : Idles (λ t links. NoServiceBelow l.place g.D.Disk.state l.initial.disks t) l.initial.thread l.initial.links l.thread l.links;
  alone : AsksNothing l.initial.links l.links;
  same : Still l.initial.links l.links l.initial.disks l.disks;
  serves : Serves g.D.Disk.state (moment l.initial.disks l.initial.thread l.initial.links) (moment l.disks l.thread l.links);
  kept : places g.D.Disk.state l.disks ≡ places g.D.Disk.state l.initial.disks;
}
