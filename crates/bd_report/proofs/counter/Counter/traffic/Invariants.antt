use Rattle.std.proofs.Common.{◌≡◌, List, length, take}
use Rattle.bd_base.specs.declared.act.Entry.{Entry}
use Rattle.bd_report.specs.Index.{TellsSuccesses}
use Rattle.bd_report.specs.Traffic.{device_traffic}
use Rattle.bd_report.proofs.counter.Counter.traffic.Given as goal

abbrev pub invariant-loop-submitted : goal.invariant-loop-submitted
invariant-loop-submitted l = record {
  each : length l.devices ≡ length l.self.sizes;
  moved : (trace : List Entry) → TellsSuccesses l.self.successes trace → l.devices ≡ device_traffic trace (take l.submitted-index l.self.submitted.items) l.self.sizes;
}
