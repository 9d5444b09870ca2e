-- Where a content has the blocks of a piece.
use Rattle.std.specs.Prelude.{ℕ, ◌+◌, ◌*◌, ◌^◌, Bool, false, ◌&&◌, nat_le, nat_lt, List, length, Option, Some, None}
use Rattle.bd_machine.specs.declared.state.Base.{Base}
use Rattle.bd_machine.specs.declared.state.Content.{Content}
use Rattle.bd_machine.specs.declared.state.Content.TheVariants.{Blocks, Zeros, Untold}
use Rattle.bd_machine.specs.declared.state.OpenPiece.{OpenPiece}

-- its blocks are among these, and their numbers are numbers of 64 bits
abbrev pub is_inside : OpenPiece → List (List ℕ) → Bool
is_inside p blocks = nat_le (p.lba + p.count) (length blocks) && nat_lt (p.first + p.count) (2 ^ 64)

-- the content has the blocks of the piece; of zeros as many as have a length of 64 bits
abbrev pub fits : ℕ → Content → OpenPiece → Bool
fits size (Blocks blocks) p = is_inside p blocks
fits size Zeros p = nat_lt (p.count * size) (2 ^ 64)
fits size Untold p = false

abbrev pub fits_at : ℕ → Option Base → OpenPiece → Bool
fits_at size None p = false
fits_at size (Some b) p = fits size b.content p
