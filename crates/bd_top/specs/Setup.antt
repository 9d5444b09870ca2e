-- What a run begins from: a number of threads with their scripts, over the devices of a configuration.
use Rattle.std.specs.Prelude.{ℕ, List}
use Rattle.bd_base.specs.declared.job.Script.{Script}
use Rattle.bd_base.specs.declared.setup.Setup.{Setup}
use Rattle.bd_building.specs.Progress.{Progress, finished}

-- the devices with their limits and injections, the commands that wait for their base, and the scripts of these threads
abbrev pub setup_of : ℕ → Progress → List Script → Setup
setup_of threads devices scripts = record (finished devices scripts) { threads = threads }
