-- Which piece a home serves next on a device.
use Rattle.std.specs.Prelude.{◌≡◌, ℕ, Bool, true, cond, ◌&&◌, List, Option, Some, None}
use Rattle.bd_base.specs.declared.id.DevId.{DevId}
use Rattle.bd_base.specs.declared.id.ReqId.{ReqId}
use Rattle.bd_base.specs.declared.setup.Setup.{Setup}
use Rattle.bd_home.specs.Serving.{can_serve, first_at}
use Rattle.bd_machine.specs.declared.state.Base.{Base}
use Rattle.bd_machine.specs.declared.state.Id.{Id}
use Rattle.bd_machine.specs.declared.state.Id.TheVariants as ids
use Rattle.bd_machine.specs.declared.state.Kept.{Kept}
use Rattle.bd_machine.specs.declared.state.Kept.TheVariants as keeps
use Rattle.bd_machine.specs.declared.state.OpenPiece.{OpenPiece}
use Rattle.bd_machine.specs.BlockMap.{depth_of, is_aio, size_of}
use Rattle.bd_machine.specs.Homes.{holds_at_most, is_first_at, is_home}
use Rattle.bd_machine.specs.Kept.{as_piece}
use Rattle.bd_machine.specs.Same.{same_dev}
use Rattle.bd_tokens.specs.Tokens.{here_in}
use Rattle.bd_steps.specs.declared.serving.Next.{Next}

abbrev pub id_if_ready : ℕ → DevId → Option Base → ReqId × ℕ → Option OpenPiece → Option Id
id_if_ready size dev base q None = None
id_if_ready size dev base q (Some p) = cond (can_serve size dev base p) (Some (ids.Piece q.0 q.1)) None

abbrev pub next_of : ℕ → DevId → (Id → Option Kept) → Option Base → Option (ReqId × ℕ) → Option Id
next_of size dev here base None = None
next_of size dev here base (Some q) = id_if_ready size dev base q (as_piece (here (ids.Piece q.0 q.1)))

-- the piece that waits first at the base, where it is here and the base can serve it
abbrev pub next_in : ℕ → DevId → (Id → Option Kept) → Option Base → Option Id
next_in size dev here base = next_of size dev here base (first_at base)

-- the base's queue holds no more than it takes
abbrev pub may_hold : Setup → DevId → Option Base → Bool
may_hold setup dev base = holds_at_most (depth_of setup dev) base

-- the piece that thread number `me` serves next on a device, which is this one of its bases
abbrev pub next_piece : Setup → ℕ → (Id → Option Kept) → DevId → Option Base → Option Id
next_piece setup me here dev base = cond (is_home setup me dev && may_hold setup dev base) (next_in (size_of setup dev) dev here base) None

-- ---- the piece itself

abbrev pub id_of : Next → Id
id_of n = ids.Piece n.req n.k

-- it waits first at the base, it is here, and the base can serve it
pub record IsReady (size : ℕ) (dev : DevId) (base : Option Base) (held : List (Id × Kept)) (n : Next) : Type 0 where
  pub first : is_first_at n.req n.k base ≡ true
  pub here : here_in held (ids.Piece n.req n.k) ≡ Some (keeps.Piece n.piece.now)
  pub serves : can_serve size dev base n.piece.now ≡ true

-- it is ready, the thread is the device's home, and the device's queue holds no more than it takes
pub record IsNext (setup : Setup) (me : ℕ) (dev : DevId) (base : Option Base) (held : List (Id × Kept)) (n : Next) : Type 0 where
  pub home : is_home setup me dev ≡ true
  pub holds : may_hold setup dev base ≡ true
  pub ready : IsReady (size_of setup dev) dev base held n

-- ---- what a disk serves next

abbrev pub id_if_on : DevId → ReqId × ℕ → Option OpenPiece → Option Id
id_if_on dev q None = None
id_if_on dev q (Some p) = cond (same_dev p.base dev) (Some (ids.Piece q.0 q.1)) None

abbrev pub first_of : DevId → (Id → Option Kept) → Option (ReqId × ℕ) → Option Id
first_of dev here None = None
first_of dev here (Some q) = id_if_on dev q (as_piece (here (ids.Piece q.0 q.1)))

-- the piece that waits first at the base, where it is here and on the device
abbrev pub first_in : DevId → (Id → Option Kept) → Option Base → Option Id
first_in dev here base = first_of dev here (first_at base)

-- the piece that the disk of an aio device serves next for thread number `me`; the device is this one of its bases
abbrev pub next_on_disk : Setup → ℕ → (Id → Option Kept) → DevId → Option Base → Option Id
next_on_disk setup me here dev base = cond (is_home setup me dev && is_aio setup dev && may_hold setup dev base) (first_in dev here base) None

-- it waits first at the base, is here and on the device
pub record IsFirst (dev : DevId) (base : Option Base) (held : List (Id × Kept)) (n : Next) : Type 0 where
  pub first : is_first_at n.req n.k base ≡ true
  pub here : here_in held (ids.Piece n.req n.k) ≡ Some (keeps.Piece n.piece.now)
  pub on : same_dev n.piece.now.base dev ≡ true

-- it is so, the thread is the home of the device, which is an aio device, and the device's queue holds no more than it takes
pub record IsNextOnDisk (setup : Setup) (me : ℕ) (dev : DevId) (base : Option Base) (held : List (Id × Kept)) (n : Next) : Type 0 where
  pub home : is_home setup me dev ≡ true
  pub aio : is_aio setup dev ≡ true
  pub holds : may_hold setup dev base ≡ true
  pub is_first : IsFirst dev base held n
