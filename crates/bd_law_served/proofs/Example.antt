-- What a device served in a whole run, computed from its entries: of a write over 16 blocks that is cut in two, the second piece finds the queue full
-- and comes again, and each is served once.
use Rattle.std.proofs.Common.{◌≡◌, ℕ, [], ◌∷◌, map, refl}
use Rattle.bd_base.specs.declared.act.ApplyEnd.{ApplyEnd}
use Rattle.bd_base.specs.declared.act.ApplyEnd.TheVariants.{Done}
use Rattle.bd_machine.proofs.CutTraces.{piece_retried, piece_retried_setup}
use Rattle.bd_machine.specs.Step.{after}
use Rattle.bd_machine.proofs.Words.{dev}
use Rattle.bd_law_served.specs.Served.{served_in, ServedPiece}

-- the blocks of a piece, and its end
record Blocks : Type 0 where
  first : ℕ
  count : ℕ
  end : ApplyEnd

abbrev blocks_of : ServedPiece → Blocks
blocks_of s = record { first = s.piece.lba; count = s.piece.count; end = s.end }

each_is_served_once : map blocks_of (served_in piece_retried_setup [] piece_retried (dev 0))
    ≡ record { first = 0; count = 8; end = Done } ∷ record { first = 8; count = 8; end = Done } ∷ []
unfolding after
each_is_served_once = refl
