-- What an exercise plays: the built-in configuration with the generated script.
use Rattle.std.specs.Prelude.{◌≡◌, ℕ, List, [], Some, codes}
use Rattle.bd_base.specs.declared.job.Script.{Script}
use Rattle.bd_base.specs.declared.setup.Setup.{Setup}
use Rattle.bd_building.specs.Progress.{Progress}
use Rattle.bd_jobs.specs.Generated.{generated}
use Rattle.bd_jobs.specs.ScriptGrammar.{scripts_of}
use Rattle.bd_top.specs.Configure.{Configures}
use Rattle.bd_top.specs.Setup.{setup_of}

-- a device M in memory, and a device P over it, which the generated script opens
abbrev pub built_in : List ℕ
built_in = codes "{\"subsystems\":[{\"subsystem\":\"bdev\",\"config\":[{\"method\":\"bdev_malloc_create\",\"params\":{\"name\":\"M\",\"num_blocks\":1024,\"block_size\":512}},{\"method\":\"bdev_passthru_create\",\"params\":{\"base_bdev_name\":\"M\",\"name\":\"P\"}}]}]}"

-- the built-in configuration, which opens no disk, and the script that is generated, with this many numbers for each thread, mean this setup
pub record IsExercise (numbers threads : ℕ) (setup : Setup) : Type 0 where
  pub devices : Progress
  pub scripts : List Script
  pub of_config : Configures threads built_in [] devices
  pub of_jobs : scripts_of threads (generated numbers threads) ≡ Some scripts
  pub is : setup ≡ setup_of threads devices scripts
