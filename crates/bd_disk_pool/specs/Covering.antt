-- What a host tells of openings while their disks are open, and once they are closed.
use Rattle.std.specs.Prelude.{◌≡◌, ℕ, ◌+◌, ◌%◌, ◌<◌, ◌≤◌, ◌⊎◌, true, false, List, [], ◌∷◌, ◌++◌, length, map, slice_get, Option, None, Some, is_some}
use Rattle.bd_base.specs.declared.id.DevId.{DevId}
use Rattle.bd_disks.specs.Rows.{disk_of}
use Rattle.bd_machine.specs.Same.{same_dev}
use Rattle.bd_outside.specs.Disk.{DiskState, closing_of}
use Rattle.bd_outside.specs.Opening.{open_row}
use Rattle.bd_outside.specs.declared.opening.Opening.{Opening}
use Rattle.bd_disk_pool.specs.Held.{Held}

-- ---- rows that were added

-- rows were added after the others, and this holds of each, by its number among them
pub record HasAdded (So : ℕ → Opening → Type 0) (old new : List Opening) : Type 0 where
  pub added : List Opening
  pub are : new ≡ old ++ added
  pub each : (k : ℕ) (row : Opening) → slice_get added k ≡ Some row → So k row

-- it is so where openings are still told; they were told before
abbrev pub WhereTold : (List Opening → List Opening → Type 0) → Option (List Opening) → Option (List Opening) → Type 0
WhereTold So old None = Unit {0}
WhereTold So None (Some new) = ⊥
WhereTold So (Some old) (Some new) = So old new

abbrev pub IsClosed : ℕ → Opening → Type 0
IsClosed k row = is_some row.closing ≡ true

-- each disk that was opened is closed, where openings are told
abbrev pub AreClosed : Option (List Opening) → Option (List Opening) → Type 0
AreClosed old new = WhereTold (HasAdded IsClosed) old new

-- ---- disks that are open

-- a disk as it was opened: its device, the name of its file, and what it told then
pub record Begun : Type 0 where
  pub dev : DevId
  pub name : List ℕ
  pub disk : DiskState

abbrev pub begun_row : Begun → Opening
begun_row b = open_row b.name b.disk.blocks

-- x is one of these
abbrev pub IsIn : {X : Type 0} → X → List X → Type 0
IsIn x [] = ⊥
IsIn x (y ∷ ys) = (y ≡ x) ⊎ IsIn x ys

-- no device is among these twice
abbrev pub AreApart : List DevId → Type 0
AreApart [] = Unit {0}
AreApart (dev ∷ devs) = ((other : DevId) → IsIn other devs → same_dev dev other ≡ false) × AreApart devs

-- its row is at this place, it is found by the name of its file, and its device's number is below n
pub record IsBegun (place n : ℕ) (names : List (DevId × List ℕ)) (b : Begun) : Type 0 where
  pub placed : b.disk.place ≡ Some place
  pub named : disk_of b.dev names ≡ Some b.name
  pub below : b.dev.0 < n

-- a disk of thread t is one of those that were opened, as it was then
pub record IsOneOf {D : Type 0} (state : D → DiskState) (threads t : ℕ) (begun : List Begun) (row : DevId × D) : Type 0 where
  pub number : ℕ
  pub begins : Begun
  pub there : slice_get begun number ≡ Some begins
  pub device : row.0 ≡ begins.dev
  pub same : state row.1 ≡ begins.disk
  pub home : t ≡ begins.dev.0 % threads

-- the disk is among those of its device's home
pub record IsAtHome {D : Type 0} (state : D → DiskState) (threads : List (List (DevId × D))) (b : Begun) : Type 0 where
  pub own : List (DevId × D)
  pub row : DevId × D
  pub there : slice_get threads (b.dev.0 % length threads) ≡ Some own
  pub among : IsIn row own
  pub device : row.0 ≡ b.dev
  pub same : state row.1 ≡ b.disk

-- these disks were opened since a host told the old rows, of devices with numbers below n, in order; no other is open, and each is as it was opened
pub record AreOpen {D : Type 0} (state : D → DiskState) (n : ℕ) (held : Held D) (begun : List Begun) (old new : List Opening) : Type 0 where
  pub rows : new ≡ old ++ map begun_row begun
  pub each : (k : ℕ) (b : Begun) → slice_get begun k ≡ Some b → IsBegun (length old + k) n held.names b
  pub none : (dev : DevId) → n ≤ dev.0 → disk_of dev held.names ≡ None
  pub here : (t : ℕ) (own : List (DevId × D)) (row : DevId × D) → slice_get held.threads t ≡ Some own → IsIn row own → IsOneOf state (length held.threads) t begun row
  pub apart : (t : ℕ) (own : List (DevId × D)) → slice_get held.threads t ≡ Some own → AreApart (map (λ row. row.0) own)
  pub all : (k : ℕ) (b : Begun) → slice_get begun k ≡ Some b → IsAtHome state held.threads b

-- ---- disks that went on

-- the disks of threads that went on: the same devices have disks, and each that was opened so did so since then, and has its place still
pub record HaveGoneOn {D : Type 0} (state : D → DiskState) (Did : DevId → DiskState → DiskState → Type 0) (begun : List Begun) (old new : List (List (DevId × D))) : Type 0 where
  pub len : length new ≡ length old
  pub devices : (t : ℕ) (a b : List (DevId × D)) → slice_get old t ≡ Some a → slice_get new t ≡ Some b → map (λ row. row.0) b ≡ map (λ row. row.0) a
  pub did : (k : ℕ) (is : Begun) (a b : List (DevId × D)) (x y : D) → slice_get begun k ≡ Some is
      → slice_get old (is.dev.0 % length old) ≡ Some a → slice_get new (is.dev.0 % length old) ≡ Some b → disk_of is.dev a ≡ Some x → disk_of is.dev b ≡ Some y
      → Did is.dev (state x) (state y)
  pub place : (dev : DevId) (a b : DiskState) → Did dev a b → b.place ≡ a.place

-- the row of a disk that was opened so, did so, and was closed with what it told then
pub record IsDone (Did : DevId → DiskState → DiskState → Type 0) (b : Begun) (row : Opening) : Type 0 where
  pub last : DiskState
  pub did : Did b.dev b.disk last
  pub is : row ≡ record (begun_row b) { closing = Some (closing_of last) }

-- all of them were closed, each with what it told then, and no row else was added
pub record AreDone (Did : DevId → DiskState → DiskState → Type 0) (begun : List Begun) (old new : List Opening) : Type 0 where
  pub added : List Opening
  pub are : new ≡ old ++ added
  pub many : length added ≡ length begun
  pub each : (k : ℕ) (b : Begun) (row : Opening) → slice_get begun k ≡ Some b → slice_get added k ≡ Some row → IsDone Did b row
