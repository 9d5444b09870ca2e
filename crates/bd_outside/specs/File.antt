-- What a host tells of its files.
use Rattle.std.specs.Prelude.{◌≡◌, ℕ, ◌<◌, ◌≤◌, List, [], ◌∷◌, length, take, drop, if◌then◌else◌}
use Rattle.bd_base.specs.Name.{same_name}

-- what a host tells of the file of a name: nothing, that there is none, or its bytes
pub data Told : Type 0 where
  Untold : Told
  NoFile : Told
  Content : List ℕ → Told

-- there is no such file, or the host doesn't tell
abbrev pub IsAbsent : Told → Type 0
IsAbsent Untold = Unit {0}
IsAbsent NoFile = Unit {0}
IsAbsent (Content bytes) = ⊥

-- these bytes are the whole file, or the host doesn't tell
abbrev pub IsWhole : Told → List ℕ → Type 0
IsWhole Untold bytes = Unit {0}
IsWhole NoFile bytes = ⊥
IsWhole (Content file) bytes = bytes ≡ file

-- the file's bytes from a place on; none where there is no such file, or nothing is told
abbrev pub rest_of : Told → ℕ → List ℕ
rest_of Untold at = []
rest_of NoFile at = []
rest_of (Content file) at = drop at file

-- a read at a place of these bytes put the next n of them in front of the buffer, and none only at the end
pub record ReadsAt (file : List ℕ) (at n : ℕ) (buffer : List ℕ) : Type 0 where
  pub same : take n buffer ≡ take n (drop at file)
  pub inside : n ≤ length (drop at file)
  pub end_only : n ≡ 0 → 0 < length buffer → length file ≤ at

-- a read at a place of a file gave n bytes in front of the buffer, where the file is told
abbrev pub GivesPiece : Told → ℕ → ℕ → List ℕ → Type 0
GivesPiece Untold at n buffer = Unit {0}
GivesPiece NoFile at n buffer = ⊥
GivesPiece (Content file) at n buffer = ReadsAt file at n buffer

-- the file of a name among named files: the first of that name
abbrev pub file_of : List ℕ → List (List ℕ × List ℕ) → Told
file_of name [] = NoFile
file_of name (file ∷ files) = if same_name file.0 name then Content file.1 else file_of name files
