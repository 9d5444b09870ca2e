-- A device is free, or destructed, from the answer on that names it for destruction.
use Rattle.std.specs.Prelude.{◌≡◌, ℕ, Bool, true, false, ◌⊎◌, Option, Some, None}
use Rattle.std.specs.List.{list_any}
use Rattle.bd_base.specs.declared.id.DevId.{DevId}
use Rattle.bd_base.specs.declared.setup.Setup.{Setup}
use Rattle.bd_machine.specs.declared.state.Due.{Due}
use Rattle.bd_machine.specs.declared.state.Id.{Id}
use Rattle.bd_machine.specs.declared.state.Kept.{Kept}
use Rattle.bd_machine.specs.declared.state.Kept.TheVariants as keeps
use Rattle.bd_machine.specs.declared.state.News.{News}
use Rattle.bd_machine.specs.declared.state.News.TheVariants as news
use Rattle.bd_machine.specs.declared.state.Owed.TheVariants as owes
use Rattle.bd_machine.specs.declared.state.State.{State}
use Rattle.bd_machine.specs.declared.state.Tracked.{Tracked}
use Rattle.bd_machine.specs.BlockMap.{home}
use Rattle.bd_machine.specs.Registry.{is_free}
use Rattle.bd_machine.specs.Same.{same_dev, same_id, same_owed}
use Rattle.bd_machine.specs.Table.{look_up}
use Rattle.bd_machine.specs.View.{part_of}

-- its home destructed it
abbrev pub is_done : Setup → State → DevId → Bool
is_done setup s dev = list_any (same_dev dev) (part_of s (home setup dev)).destructed

-- it is free, or its home destructed it
abbrev pub IsReady : Setup → State → DevId → Type 0
IsReady setup s dev = (is_free setup s.registry dev ≡ true) ⊎ (is_done setup s dev ≡ true)

-- the news that this device is to be destructed
abbrev pub is_device : DevId → News → Bool
is_device dev (news.Device d) = same_dev dev d
is_device dev _ = false

abbrev pub is_device_kept : DevId → Kept → Bool
is_device_kept dev (keeps.Notice told) = is_device dev told
is_device_kept dev _ = false

abbrev pub is_device_token : DevId → Option Tracked → Bool
is_device_token dev None = false
is_device_token dev (Some token) = is_device_kept dev token.kept

abbrev pub is_device_due : DevId → Due → Bool
is_device_due dev due = is_device dev due.news

-- where a thread has still to tell a device's home, a message told it, or the home has still to destruct the device, it is ready; and only a destructed device is one to report
pub record IsTold (setup : Setup) (s : State) : Type 0 where
  pub due : (t : ℕ) (dev : DevId) → list_any (is_device_due dev) (part_of s t).due ≡ true → IsReady setup s dev
  pub tokens : (id : Id) (dev : DevId) → is_device_token dev (look_up same_id s.tokens id) ≡ true → IsReady setup s dev
  pub owed : (t : ℕ) (dev : DevId) → list_any (same_owed (owes.Destruct dev)) (part_of s t).owed ≡ true → IsReady setup s dev
  pub reports : (t : ℕ) (dev : DevId) → list_any (same_owed (owes.Report dev)) (part_of s t).owed ≡ true → is_done setup s dev ≡ true
