-- When a home may apply a piece, when it may send one back, and when it may let a device grow.
use Rattle.std.specs.Prelude.{ℕ, Bool, ◌&&◌, ◌==◌}
use Rattle.bd_base.specs.declared.id.DevId.{DevId}
use Rattle.bd_base.specs.declared.id.ReqId.{ReqId}
use Rattle.bd_base.specs.declared.setup.Setup.{Setup}
use Rattle.bd_machine.specs.BlockMap.{home, depth_of}
use Rattle.bd_machine.specs.Kept.{piece_here}
use Rattle.bd_machine.specs.Homes.{base_here, holds_at_most, is_first_at, is_on_base, is_told_to_grow, is_too_many}
use Rattle.bd_machine.specs.View.{View}

-- it is the device's home, the piece is the first in the device's queue, which holds no more than it takes, and it is here and on the device
abbrev pub may_apply : Setup → ℕ → View → ReqId → ℕ → DevId → Bool
may_apply setup t v req k dev = (home setup dev == t) && is_first_at req k (base_here v dev) && is_on_base dev (piece_here v req k) && holds_at_most (depth_of setup dev) (base_here v dev)

-- it is the device's home, and the piece is here, on the device, and one more than its queue takes
abbrev pub may_refuse : Setup → ℕ → View → ReqId → ℕ → DevId → Bool
may_refuse setup t v req k dev = (home setup dev == t) && is_on_base dev (piece_here v req k) && is_too_many req k (depth_of setup dev) (base_here v dev)

-- it is the device's home, and was told to let its content grow to this number of blocks
abbrev pub may_grow : Setup → ℕ → View → DevId → ℕ → Bool
may_grow setup t v dev blocks = (home setup dev == t) && is_told_to_grow v dev blocks
