-- Which piece waits first at a base, which last, and whether the base can serve a piece.
use Rattle.std.specs.Prelude.{ℕ, Bool, ◌&&◌, List, [], ◌∷◌, Option, Some, None}
use Rattle.bd_base.specs.declared.act.ApplyEnd.{ApplyEnd}
use Rattle.bd_base.specs.declared.id.DevId.{DevId}
use Rattle.bd_base.specs.declared.id.ReqId.{ReqId}
use Rattle.bd_machine.specs.declared.state.Base.{Base}
use Rattle.bd_machine.specs.declared.state.OpenPiece.{OpenPiece}
use Rattle.bd_machine.specs.declared.state.Progress.TheVariants.{Served}
use Rattle.bd_machine.specs.Same.{same_dev}
use Rattle.bd_home.specs.Fitting.{fits_at}

abbrev pub first_of : List (ReqId × ℕ) → Option (ReqId × ℕ)
first_of [] = None
first_of (q ∷ qs) = Some q

-- the piece that waits first at a base, by its request and its number
abbrev pub first_at : Option Base → Option (ReqId × ℕ)
first_at None = None
first_at (Some b) = first_of b.queue

abbrev pub last_of : List (ReqId × ℕ) → Option (ReqId × ℕ)
last_of [] = None
last_of (q ∷ []) = Some q
last_of (q ∷ r ∷ qs) = last_of (r ∷ qs)

-- the piece that waits last at a base
abbrev pub last_at : Option Base → Option (ReqId × ℕ)
last_at None = None
last_at (Some b) = last_of b.queue

-- the base is there, its content has the blocks of the piece, and the piece is on it
abbrev pub can_serve : ℕ → DevId → Option Base → OpenPiece → Bool
can_serve size dev base p = fits_at size base p && same_dev p.base dev

-- the piece once a disk served it: it came to this end, and read this
abbrev pub served_as : ApplyEnd → Option (List ℕ) → OpenPiece → OpenPiece
served_as end read p = record p { progress = Served; end = Some end; read = read }
