-- Which entries a counter has counted.
use Rattle.std.specs.Prelude.{◌≡◌, ◌+◌, ◌≤◌, List, None}
use Rattle.std.specs.HashSet.{spare}
use Rattle.std.specs.Vec.{vec_len, vec_capacity}
use Rattle.bd_base.specs.declared.act.Entry.{Entry}
use Rattle.bd_base.specs.declared.request.Status.TheVariants.{Success}
use Rattle.bd_base.specs.declared.setup.Setup.{Setup}
use Rattle.bd_report.specs.declared.counter.Counter.{Counter}
use Rattle.bd_report.specs.Counts.{count_acts, counts_of, is_accept, is_end, thread_counts}
use Rattle.bd_report.specs.Index.{TellsSuccesses}
use Rattle.bd_report.specs.Stats.{sizes_of}
use Rattle.bd_report.specs.Traffic.{all_submitted}

-- the counter, made of this setup, has counted these entries
pub record HasCounted (setup : Setup) (entries : List Entry) (counter : Counter) : Type 0 where
  pub threads : counter.threads ≡ thread_counts setup.threads entries
  pub all : counter.all ≡ counts_of None entries
  pub sizes : counter.sizes ≡ sizes_of setup
  pub submitted : counter.submitted.items ≡ all_submitted entries
  pub successes : TellsSuccesses counter.successes entries

-- there is room for what these entries accept, and for those that they say succeeded
abbrev pub HasRoom : List Entry → Counter → Type 0
HasRoom entries counter =
    (vec_len counter.submitted + count_acts is_accept None entries ≤ vec_capacity counter.submitted) ×
    (count_acts (is_end Success) None entries ≤ spare counter.successes.others)
