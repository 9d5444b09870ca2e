-- What a thread has to ask the registry for.
use Rattle.std.specs.Prelude.{ℕ, Bool, true, false, not, Option, Some, None}
use Rattle.bd_base.specs.declared.id.HandleId.{HandleId}
use Rattle.bd_base.specs.declared.job.Job.{Job}
use Rattle.bd_base.specs.declared.job.Job.TheVariants as jobs
use Rattle.bd_base.specs.declared.setup.Setup.{Setup}
use Rattle.bd_machine.specs.declared.state.Part.{Part}
use Rattle.bd_machine.specs.declared.state.Registry.{Registry}
use Rattle.bd_machine.specs.Asked.{bound_to}
use Rattle.bd_machine.specs.Registry.{is_live}
use Rattle.bd_machine.specs.Users.{dev_of, is_base_handle}

abbrev pub is_base_if_any : Setup → Option HandleId → Bool
is_base_if_any setup None = false
is_base_if_any setup (Some id) = is_base_handle setup id

-- a line that asks the registry: it opens, claims, removes or resizes, or it closes what is no base handle (a script closes none)
abbrev pub asks_registry : Setup → Part → Option Job → Bool
asks_registry setup part (Some (jobs.Open handle dev write)) = true
asks_registry setup part (Some (jobs.Close handle)) = not (is_base_if_any setup (bound_to part handle))
asks_registry setup part (Some (jobs.Claim handle kind)) = true
asks_registry setup part (Some (jobs.Remove dev)) = true
asks_registry setup part (Some (jobs.Resize dev blocks)) = true
asks_registry setup part _ = false

-- the device of this number is neither being removed nor destructed
abbrev pub is_live_at : Registry → ℕ → Bool
is_live_at registry n = is_live registry (dev_of n)
