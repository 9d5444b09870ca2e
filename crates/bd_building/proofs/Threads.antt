-- No command changes the number of threads.
use Rattle.std.proofs.Common.{◌≡◌, ℕ, zero, suc, Bool, true, false, cond, List, [], ◌∷◌, length, Option, None, Some, subst, refl}
use Rattle.std.specs.Bool.{⊤}
use Rattle.std.specs.Prelude.{Result, Ok, Err, slice_get}
use Rattle.bd_base.specs.declared.device.DevRow.{DevRow}
use Rattle.bd_base.specs.declared.device.ErrKind.{ErrKind}
use Rattle.bd_base.specs.declared.device.IoSet.{IoSet}
use Rattle.bd_base.specs.declared.device.RateSet.{RateSet}
use Rattle.bd_base.specs.declared.request.Errno.{Errno}
use Rattle.bd_base.specs.declared.setup.Setup.{Setup}
use Rattle.bd_config.specs.declared.command.Command.{Command}
use Rattle.bd_config.specs.declared.command.Command.TheVariants as commands
use Rattle.bd_devices.specs.Devices.{register_refusal, with_device}
use Rattle.bd_machine.specs.BlockMap.{is_error}
use Rattle.bd_machine.specs.Registry.{device_named}
use Rattle.bd_machine.specs.Users.{dev_of}
use Rattle.bd_building.specs.Made.{cause_of, made, registered, registered_if, with_devices, with_injection_at, with_limits_at}
use Rattle.bd_building.specs.Progress.{Outcome, Progress, begun, must_wait, put_off, ready, resumed, resumed_at, settled, settled_within, stepped, then_on, with_setup, without}
use Rattle.bd_building.specs.Rows.{devices_of}
use Rattle.bd_building.specs.declared.waiter.Waiter.{Waiter}

-- a setup, if there is one, has so many threads
abbrev OnThreads : ℕ → Result Setup Errno → Type 0
OnThreads t (Ok setup) = setup.threads ≡ t
OnThreads t (Err errno) = ⊤

abbrev Runs : ℕ → Outcome → Type 0
Runs t (Ok progress) = progress.setup.threads ≡ t
Runs t (Err refusal) = ⊤

-- ---- what a command makes

if_registered : (t : ℕ) (o : Option Errno) (r : Result Setup Errno) → OnThreads t r → OnThreads t (registered_if o r)
if_registered t None r on = on
if_registered t (Some errno) r on = tt

all_registered : (t : ℕ) (setup : Setup) (rows : List DevRow) → setup.threads ≡ t → OnThreads t (registered setup rows)
all_registered t setup [] on = on
all_registered t setup (row ∷ rows) on = if_registered t (register_refusal setup row) (registered (with_device setup row) rows) (all_registered t (with_device setup row) rows on)

devices_on : (t : ℕ) (setup : Setup) (command : Command) (disk : ℕ) (rows : List DevRow) → setup.threads ≡ t → OnThreads t (with_devices setup command disk rows)
devices_on t setup command disk rows on = if_registered t (cause_of setup command disk rows) (registered setup rows) (all_registered t setup rows on)

limits_on : (t : ℕ) (setup : Setup) (rates : RateSet) (named : Option ℕ) → setup.threads ≡ t → OnThreads t (with_limits_at setup rates named)
limits_on t setup rates None on = tt
limits_on t setup rates (Some n) on = on

injection_if : (t : ℕ) (b : Bool) (setup : Setup) (errno : Errno) → setup.threads ≡ t → OnThreads t (cond b (Ok setup) (Err errno))
injection_if t true setup errno on = on
injection_if t false setup errno on = tt

injection_on : (t : ℕ) (setup : Setup) (types : IoSet) (kind : ErrKind) (count : ℕ) (named : Option ℕ) → setup.threads ≡ t → OnThreads t (with_injection_at setup types kind count named)
injection_on t setup types kind count None on = tt
injection_on t setup types kind count (Some n) on = injection_if t (is_error setup (dev_of n)) _ _ on

made_on : (t : ℕ) (setup : Setup) (command : Command) (disk : ℕ) → setup.threads ≡ t → OnThreads t (made setup command disk)
made_on t setup (commands.SetLimits name rates) disk on = limits_on t setup rates (device_named setup name) on
made_on t setup (commands.InjectError name types kind count) disk on = injection_on t setup types kind count (device_named setup name) on
made_on t setup (commands.Malloc name blocks size boundary depth) disk on = devices_on t setup (commands.Malloc name blocks size boundary depth) disk (devices_of setup (commands.Malloc name blocks size boundary depth) disk) on
made_on t setup (commands.Null name blocks size boundary depth) disk on = devices_on t setup (commands.Null name blocks size boundary depth) disk (devices_of setup (commands.Null name blocks size boundary depth) disk) on
made_on t setup (commands.Aio name file size depth) disk on = devices_on t setup (commands.Aio name file size depth) disk (devices_of setup (commands.Aio name file size depth) disk) on
made_on t setup (commands.Passthru base name) disk on = devices_on t setup (commands.Passthru base name) disk (devices_of setup (commands.Passthru base name) disk) on
made_on t setup (commands.Split base count megabytes) disk on = devices_on t setup (commands.Split base count megabytes) disk (devices_of setup (commands.Split base count megabytes) disk) on
made_on t setup (commands.Delay base name average_read p99_read average_write p99_write) disk on = devices_on t setup (commands.Delay base name average_read p99_read average_write p99_write) disk (devices_of setup (commands.Delay base name average_read p99_read average_write p99_write) disk) on
made_on t setup (commands.Error base) disk on = devices_on t setup (commands.Error base) disk (devices_of setup (commands.Error base) disk) on
made_on t setup commands.PassedOver disk on = devices_on t setup commands.PassedOver disk (devices_of setup commands.PassedOver disk) on

-- ---- progress

setup_runs : (t : ℕ) (progress : Progress) (index : ℕ) (r : Result Setup Errno) → OnThreads t r → Runs t (with_setup progress index r)
setup_runs t progress index (Ok setup) on = on
setup_runs t progress index (Err errno) on = tt

then_runs : (t : ℕ) (o : Outcome) (next : Progress → Outcome) → Runs t o → ((p : Progress) → p.setup.threads ≡ t → Runs t (next p)) → Runs t (then_on o next)
then_runs t (Ok progress) next runs all = all progress runs
then_runs t (Err refusal) next runs all = tt

cond_runs : (t : ℕ) (b : Bool) (one other : Outcome) → Runs t one → Runs t other → Runs t (cond b one other)
cond_runs t true one other runs also = runs
cond_runs t false one other runs also = also

resumed_runs : (t : ℕ) (progress : Progress) (place : ℕ) (o : Option Waiter) → progress.setup.threads ≡ t → Runs t (resumed progress place o)
resumed_runs t progress place None on = on
resumed_runs t progress place (Some w) on = setup_runs t (without progress place) w.index (made progress.setup w.command 0) (made_on t progress.setup w.command 0 on)

within_runs : (t n : ℕ) (progress : Progress) → progress.setup.threads ≡ t → Runs t (settled_within n progress)
within_runs t zero progress on = on
within_runs t (suc n) progress on = go (ready progress) (within_runs t n) where
  go : (o : Option ℕ) → ((p : Progress) → p.setup.threads ≡ t → Runs t (settled_within n p)) → Runs t (resumed_at (settled_within n) progress o)
  go None further = on
  go (Some place) further = then_runs t (resumed progress place (slice_get progress.waiting place)) (settled_within n) (resumed_runs t progress place (slice_get progress.waiting place) on) further

settled_runs : (t : ℕ) (progress : Progress) → progress.setup.threads ≡ t → Runs t (settled progress)
settled_runs t progress on = within_runs t (length progress.waiting) progress on

stepped_runs : (t : ℕ) (progress : Progress) (index : ℕ) (command : Command) (disk : ℕ) → progress.setup.threads ≡ t → Runs t (stepped progress index command disk)
stepped_runs t progress index command disk on =
    then_runs t (begun progress index command disk) settled
    (cond_runs t (must_wait progress.setup command) (Ok (put_off progress index command)) (with_setup progress index (made progress.setup command disk)) on
    (setup_runs t progress index (made progress.setup command disk) (made_on t progress.setup command disk on)))
    (settled_runs t)

-- what a command comes to is on the threads that it began on
pub stepped_on : (progress next : Progress) (index : ℕ) (command : Command) (disk : ℕ) → stepped progress index command disk ≡ Ok next → next.setup.threads ≡ progress.setup.threads
stepped_on progress next index command disk is = subst (Runs progress.setup.threads) is (stepped_runs progress.setup.threads progress index command disk refl)
