use Rattle.std.proofs.Common.{◌≡◌, ◌<◌}
use Rattle.bd_disks.specs.Rows.{places}
use Rattle.bd_storage.specs.Served.{WentWithDisks}
use Rattle.bd_storage.specs.Serving.{moment, NoServiceOn, Serves, Still}
use Rattle.bd_thread.specs.Looking.{KeepsOwn}
use Rattle.bd_thread.specs.Waits.{Idles}
use Rattle.bd_thread.specs.Work.{AsksNothing}
use Rattle.bd_storage.proofs.serving.serve_some.Given as goal

abbrev pub invariant-loop-round : goal.invariant-loop-round
invariant-loop-round g l = record {
  over : WentWithDisks g.D.Disk.state l.initial.disks l.initial.thread l.initial.links l.disks l.thread l.links;
  tickets : KeepsOwn l.initial.thread → KeepsOwn l.thread;
  quiet : Idles (λ t links. 0 < l._round → NoServiceOn g.D.Disk.state l.initial.disks l.dev t) l.initial.thread l.initial.links l.thread l.links;
  alone : AsksNothing l.initial.links l.links;
  same : Still l.initial.links l.links l.initial.disks l.disks;
  serves : Serves g.D.Disk.state (moment l.initial.disks l.initial.thread l.initial.links) (moment l.disks l.thread l.links);
  kept : places g.D.Disk.state l.disks ≡ places g.D.Disk.state l.initial.disks;
}
