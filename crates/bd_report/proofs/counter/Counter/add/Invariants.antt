use Rattle.std.proofs.Common.{◌++◌, List, drop, take}
use Rattle.bd_base.specs.declared.act.Entry.{Entry}
use Rattle.bd_base.specs.declared.setup.Setup.{Setup}
use Rattle.bd_report.specs.Counter.{HasCounted, HasRoom}
use Rattle.bd_report.proofs.counter.Counter.add.Given as goal

abbrev pub invariant-loop-entry : goal.invariant-loop-entry
invariant-loop-entry l = record {
  counted : (setup : Setup) (entries : List Entry) → HasCounted setup entries l.fn.self → HasCounted setup (entries ++ take l.entry-index l.part) l.self;
  room : HasRoom (drop l.entry-index l.part) l.self;
}
