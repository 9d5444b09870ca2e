-- The statistics of a run, as a function of its setup and its trace.
use Rattle.std.specs.Prelude.{ℕ, List, map, None}
use Rattle.bd_base.specs.declared.act.Entry.{Entry}
use Rattle.bd_base.specs.declared.setup.Setup.{Setup}
use Rattle.bd_report.specs.declared.stats.Stats.{Stats}
use Rattle.bd_report.specs.Counts.{counts_of, thread_counts}
use Rattle.bd_report.specs.Traffic.{all_submitted, device_traffic}

-- the bytes of a block of each device, by number
abbrev pub sizes_of : Setup → List ℕ
sizes_of setup = map (λ row. row.size) setup.devices

-- the counts of each thread, what each device moved, and the counts of all threads together
abbrev pub stats_of : Setup → List Entry → Stats
stats_of setup trace =
    record {
      threads = thread_counts setup.threads trace;
      devices = device_traffic trace (all_submitted trace) (sizes_of setup);
      all = counts_of None trace;
    }
