-- The open handles by device.
use Rattle.std.specs.Prelude.{◌≡◌, ℕ, ◌+◌, ◌≤◌, Bool, true, false, List, [], ◌∷◌, ◌++◌, filter, Option, Some, None, slice_get}
use Rattle.std.specs.List.{AllByRecursion}
use Rattle.bd_base.specs.declared.event.Answer.{Answer}
use Rattle.bd_base.specs.declared.event.Answer.TheVariants as answers
use Rattle.bd_base.specs.declared.event.RegEvent.{RegEvent}
use Rattle.bd_base.specs.declared.event.RegEvent.TheVariants as events
use Rattle.bd_base.specs.declared.id.DevId.{DevId}
use Rattle.bd_base.specs.declared.id.HandleId.{HandleId}
use Rattle.bd_machine.specs.declared.state.Handle.{Handle}
use Rattle.bd_machine.specs.Registry.{is_on}
use Rattle.bd_rule_channels.specs.ByDevice.{row_at, with_row}

-- the open handles of each device, and of each handle that was ever opened, by its number, the device
pub record HandleTable : Type 0 where
  pub rows : List (List Handle)
  pub devices : List DevId

-- the table has the handle's device by its number
abbrev pub IsNumbered : List DevId → Handle → Type 0
IsNumbered devices h = slice_get devices h.id.0 ≡ Some h.dev

-- the handles have rising numbers, from this one on
abbrev pub Rise : ℕ → List Handle → Type 0
Rise n [] = Unit {0}
Rise n (h ∷ hs) = (n ≤ h.id.0) × Rise (h.id.0 + 1) hs

-- the table has these handles, which have rising numbers
pub record Keeps (table : HandleTable) (handles : List Handle) : Type 0 where
  pub on_each : (dev : DevId) → filter (is_on dev) (row_at table.rows dev) ≡ filter (is_on dev) handles
  pub numbered : AllByRecursion (IsNumbered table.devices) handles
  pub rising : Rise 0 handles

-- the table with one handle more
abbrev pub with_handle : HandleTable → Handle → HandleTable
with_handle table h = record { rows = with_row table.rows h.dev (row_at table.rows h.dev ++ h ∷ []); devices = table.devices ++ h.dev ∷ [] }

-- the handle that an answer gives has this number
abbrev pub IsNext : ℕ → Answer → Type 0
IsNext next (answers.Opened id dev blocks) = id.0 ≡ next
IsNext next _ = Unit {0}

-- the handle that a close or a claim names
abbrev pub named_handle : RegEvent → Option HandleId
named_handle (events.Close id) = Some id
named_handle (events.Claim id kind) = Some id
named_handle _ = None

-- the answer is one that the event may have, as far as opens and removals go
abbrev pub is_of_kind : RegEvent → Answer → Bool
is_of_kind (events.Open name write) (answers.Removing dev threads handles destruct) = false
is_of_kind (events.Open name write) _ = true
is_of_kind (events.BeginRemove name) (answers.Opened id dev blocks) = false
is_of_kind (events.BeginRemove name) _ = true
is_of_kind _ (answers.Opened id dev blocks) = false
is_of_kind _ (answers.Removing dev threads handles destruct) = false
is_of_kind _ _ = true

-- the handles have the numbers from this one on
abbrev pub AreCounted : ℕ → List Handle → Type 0
AreCounted n [] = Unit {0}
AreCounted n (h ∷ hs) = (h.id.0 ≡ n) × AreCounted (n + 1) hs
