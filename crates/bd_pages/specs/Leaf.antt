-- A page: a part of the bytes of a device.
use Rattle.std.specs.Prelude.{◌≡◌, ℕ, Bool, false, List, length, replicate, Option, Some, None}

-- its bytes, whether there is memory for them, and whether a write touched it
pub record Leaf : Type 0 where
  pub bytes : List ℕ
  pub ready : Bool
  pub taken : Bool

-- a page without memory is zeros
abbrev pub bytes_of : ℕ → Option (List ℕ) → List ℕ
bytes_of len None = replicate len 0
bytes_of len (Some bytes) = bytes

-- memory has the page's length; a write touched only a page that has memory; and what no write touched is zeros
pub record IsPage (len : ℕ) (memory : Option (List ℕ)) (taken : Bool) : Type 0 where
  pub sized : (bytes : List ℕ) → memory ≡ Some bytes → length bytes ≡ len
  pub kept : memory ≡ None → taken ≡ false
  pub zeros : taken ≡ false → bytes_of len memory ≡ replicate len 0
