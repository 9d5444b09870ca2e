-- The counts of channels, by device.
use Rattle.std.specs.Prelude.{◌≡◌, ℕ, Bool, true, cond, List, Option, is_some}
use Rattle.std.specs.List.{AllByRecursion}
use Rattle.std.specs.Option.{option_flatten}
use Rattle.bd_base.specs.declared.id.DevId.{DevId}
use Rattle.bd_machine.specs.declared.state.Channel.{Channel}
use Rattle.bd_machine.specs.Changes.{Count}
use Rattle.bd_machine.specs.Same.{same_channel}
use Rattle.bd_machine.specs.Table.{look_up}
use Rattle.bd_rule_channels.specs.ByDevice.{row_at}

-- the entries of each device
abbrev pub Table : Type 0
Table = List (List (Channel × Option ℕ))

abbrev pub channel_of : DevId → ℕ → Channel
channel_of dev t = record { dev = dev; thread = t }

-- the references that a thread has to a device; none where it has no channel
abbrev pub count_in : Table → ℕ → DevId → Option ℕ
count_in table t dev = option_flatten (look_up same_channel (row_at table dev) (channel_of dev t))

-- the table has a place for the thread's count, whether the thread has a channel or not
abbrev pub has_place : Table → ℕ → DevId → Bool
has_place table t dev = is_some (look_up same_channel (row_at table dev) (channel_of dev t))

-- a thread's references to a device, as they are from now on
abbrev pub count_for : DevId × Option ℕ → Count
count_for c = record { dev = c.0; count = c.1 }

-- the table has the counts of this list of channels
abbrev pub Has : Table → List (Channel × Option ℕ) → Type 0
Has table channels = (t : ℕ) (dev : DevId) → count_in table t dev ≡ option_flatten (look_up same_channel channels (channel_of dev t))

-- both have the same counts
abbrev pub HaveSame : Table → Table → Type 0
HaveSame old new = (t : ℕ) (dev : DevId) → count_in new t dev ≡ count_in old t dev

-- of the two tables the new one has this count of the thread, and else those of the old one
abbrev pub IsSet : Table → ℕ → DevId → Option ℕ → Table → Type 0
IsSet old t dev count new = (u : ℕ) (d : DevId) → count_in new u d ≡ cond (same_channel (channel_of dev t) (channel_of d u)) count (count_in old u d)

-- a place stays
abbrev pub PlacesStay : Table → Table → Type 0
PlacesStay old new = (t : ℕ) (dev : DevId) → has_place old t dev ≡ true → has_place new t dev ≡ true

-- there is a place for each of these counts of a thread
abbrev pub HasPlaces : Table → ℕ → List (DevId × Option ℕ) → Type 0
HasPlaces table t counts = AllByRecursion (λ c. has_place table t c.0 ≡ true) counts
