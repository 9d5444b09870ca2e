-- How far it is to the next cut.
use Rattle.std.specs.Prelude.{◌≡◌, ◌<◌, ◌≤◌, ℕ, zero, suc, ◌%◌, Bool, true, false, ◌&&◌, ◌==◌, nat_lt, List, []}
use Rattle.bd_base.specs.declared.id.DevId.{DevId}
use Rattle.bd_base.specs.declared.setup.Setup.{Setup}
use Rattle.bd_machine.specs.declared.state.Extent.{Extent}
use Rattle.bd_machine.specs.Pieces.{extents}

-- there is a boundary, and the block is a multiple of it
abbrev pub is_multiple : ℕ → ℕ → Bool
is_multiple boundary number = nat_lt 0 boundary && (number % boundary == 0)

-- n is the first number above 0 at which the test holds, or the most that is asked for
pub record IsClear (test : ℕ → Bool) (most n : ℕ) : Type 0 where
  pub some : 0 < n
  pub within : n ≤ most
  pub clear : (k : ℕ) → 0 < k → k < n → test k ≡ false
  pub ends : n < most → test n ≡ true

-- the pieces of a range, none where it has no blocks
abbrev pub extents_left : Setup → DevId → ℕ → ℕ → List Extent
extents_left setup dev lba zero = []
extents_left setup dev lba (suc count) = extents setup dev lba (suc count)
