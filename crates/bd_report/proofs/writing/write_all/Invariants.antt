use Rattle.std.proofs.Common.{◌≤◌, ◌-◌, length, take}
use Rattle.std.specs.Io.KnownBytes.{Appends}
use Rattle.bd_outside.specs.Sink.{StaysUntold}
use Rattle.bd_report.proofs.writing.write_all.Given as goal

abbrev pub invariant-loop-at : goal.invariant-loop-at
invariant-loop-at g l =
    Appends (g.K.Sink.state l.fn.out).written (g.K.Sink.state l.out).written (take l.at l.bytes)
    × ((g.K.Sink.state l.fn.out).faults ≤ (g.K.Sink.state l.out).faults)
    × StaysUntold (g.K.Sink.state l.fn.out) (g.K.Sink.state l.out)
    × (l.at ≤ length l.bytes)

abbrev pub decreases-loop-at : goal.decreases-loop-at
decreases-loop-at g l = length l.bytes - l.at
