-- The tickets that a thread keeps.
use Rattle.std.specs.Prelude.{ℕ, ◌+◌, ◌≤◌, Bool, ◌==◌, ◌&&◌, List, [], ◌∷◌, if◌then◌else◌}
use Rattle.bd_base.specs.declared.id.ReqId.{ReqId}

-- the ids of the tickets that are kept, and how many tickets there is memory for
pub record Kept : Type 0 where
  pub ids : List ReqId
  pub capacity : ℕ

-- the two name one request
abbrev pub same_request : ReqId → ReqId → Bool
same_request a b = (a.thread == b.thread) && (a.seq == b.seq)

-- the ids without the first that is this one
abbrev pub without : ReqId → List ReqId → List ReqId
without id [] = []
without id (x ∷ xs) = if same_request x id then xs else x ∷ without id xs

-- the numbers rise strictly, from the first number on and below the last
abbrev pub RisesBetween : ℕ → ℕ → List ReqId → Type 0
RisesBetween low high [] = low ≤ high
RisesBetween low high (x ∷ xs) = (low ≤ x.seq) × RisesBetween (x.seq + 1) high xs

-- the numbers of the ids rise strictly, below the next one
abbrev pub RiseBelow : List ReqId → ℕ → Type 0
RiseBelow ids next = RisesBetween 0 next ids
