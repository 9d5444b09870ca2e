-- What a list of open requests knows of its rows: that their numbers rise, and how many each device and each handle has.
use Rattle.std.specs.Prelude.{◌≡◌, ℕ, ◌+◌, ◌-◌, ◌^◌, ◌<◌, ◌≤◌, Bool, true, false, cond, ◌&&◌, ◌==◌, List, [], ◌∷◌, count_by, length, nat_eq, remove, slice_index_or}
use Rattle.std.specs.HashMap.{get, HashMap}
use Rattle.std.specs.Option.{unwrap_or}
use Rattle.bd_base.specs.declared.id.HandleId.{HandleId}
use Rattle.bd_base.specs.declared.request.Op.{Op}
use Rattle.bd_base.specs.declared.request.Op.TheVariants as ops
use Rattle.bd_base.specs.declared.id.ReqId.{ReqId}
use Rattle.bd_machine.specs.declared.handle_counts.HandleCounts.{HandleCounts}
use Rattle.bd_machine.specs.declared.state.Open.{Open}
use Rattle.bd_machine.specs.Same.{same_handle}

-- it is no reset
abbrev pub is_work : Op → Bool
is_work (ops.Reset time) = false
is_work _ = true

-- it is on the device of this number, and no reset
abbrev pub is_work_on : ℕ → Open → Bool
is_work_on n o = is_work o.op && (o.dev.0 == n)

-- 1 where it is on the device of this number and no reset, or else 0
abbrev pub work_of : ℕ → Open → ℕ
work_of n o = cond (is_work_on n o) 1 0

-- how many are on the device of this number, and no resets
abbrev pub work_on : ℕ → List Open → ℕ
work_on n [] = 0
work_on n (o ∷ os) = work_of n o + work_on n os

-- by the number of each device, how many are on it that are no resets
abbrev pub CountsWork : List ℕ → List Open → Type 0
CountsWork counts os = (n : ℕ) → slice_index_or counts n 0 ≡ work_on n os

-- the counts of one request more
abbrev pub CountsMore : List ℕ → List ℕ → Open → Type 0
CountsMore old new o = (n : ℕ) → slice_index_or new n 0 ≡ slice_index_or old n 0 + work_of n o

-- the counts of one request less
abbrev pub CountsLess : List ℕ → List ℕ → Open → Type 0
CountsLess old new o = (n : ℕ) → slice_index_or new n 0 ≡ slice_index_or old n 0 - work_of n o

-- the count that a map has of a handle by its number: 0 where it has none
abbrev pub count_in : {S : Type 0} → HashMap ℕ ℕ S → ℕ → ℕ
count_in counts h = unwrap_or (get nat_eq counts h) 0

-- how many requests of a handle are counted, by its number
abbrev pub count_of : HandleCounts → ℕ → ℕ
count_of counts h = cond (counts.handle == h) counts.here 0 + count_in counts.others h

-- how many requests are of a handle
abbrev pub open_of : HandleId → List Open → ℕ
open_of handle os = count_by (λ o. same_handle o.handle handle) os

-- how many requests of each handle there are
abbrev pub CountsHandles : HandleCounts → List Open → Type 0
CountsHandles counts os = (handle : HandleId) → count_of counts handle.0 ≡ open_of handle os

-- the counts of one request more of a handle
abbrev pub CountsOneMore : HandleCounts → HandleCounts → HandleId → Type 0
CountsOneMore old new handle = (h : ℕ) → count_of new h ≡ count_of old h + cond (handle.0 == h) 1 0

-- the counts of one request less of a handle
abbrev pub CountsOneLess : HandleCounts → HandleCounts → HandleId → Type 0
CountsOneLess old new handle = (h : ℕ) → count_of new h ≡ count_of old h - cond (handle.0 == h) 1 0

-- the numbers of requests rise strictly, from the first number on and below the last
abbrev pub RisesBetween : ℕ → ℕ → List Open → Type 0
RisesBetween low high [] = low ≤ high
RisesBetween low high (o ∷ os) = (low ≤ o.id.seq) × RisesBetween (o.id.seq + 1) high os

-- the numbers rise, below the next one, and each device's work and each handle's requests are counted
pub record IsRegular (os : List Open) (counts : List ℕ) (handles : HandleCounts) (next : ℕ) : Type 0 where
  pub rises : RisesBetween 0 next os
  pub counted : CountsWork counts os
  pub handled : CountsHandles handles os
  pub few : length counts ≤ 2 ^ 32

-- a request of this id was taken out from among them, and no other
pub record TakenOut (req : ReqId) (old new : List Open) (o : Open) : Type 0 where
  pub place : ℕ
  pub within : place < length old
  pub at : o ≡ slice_index_or old place o
  pub thread : o.id.thread ≡ req.thread
  pub seq : o.id.seq ≡ req.seq
  pub rest : new ≡ remove old place
