-- Which held request goes on next.
use Rattle.std.specs.Prelude.{◌≡◌, ℕ, Bool, false, not, ◌&&◌, ◌||◌, ◌==◌, nat_lt, ◌+◌, ◌<◌, ◌≤◌, List, length, filter, slice_index_or, remove}
use Rattle.std.specs.List.{list_any}
use Rattle.bd_base.specs.declared.id.ReqId.{ReqId}
use Rattle.bd_machine.specs.Same.{same_request}
use Rattle.bd_delay.specs.declared.held.HeldRequest.{HeldRequest}

-- the holds in the order in which they came, and how many more have room
pub record Holds : Type 0 where
  pub rows : List HeldRequest
  pub room : ℕ

abbrev pub absent : HeldRequest
absent = record { id = record { thread = 0; seq = 0 }; until = 0 }

abbrev pub at : List HeldRequest → ℕ → HeldRequest
at hs k = slice_index_or hs k absent

-- requests go by their thread, and then by their number
abbrev pub id_before : ReqId → ReqId → Bool
id_before a b = nat_lt a.thread b.thread || ((a.thread == b.thread) && nat_lt a.seq b.seq)

-- holds end by their moment, and then by the request
abbrev pub ends_before : HeldRequest → HeldRequest → Bool
ends_before a b = nat_lt a.until b.until || ((a.until == b.until) && id_before a.id b.id)

-- no hold ends before this one, among the first n
pub record IsFirstOf (hs : List HeldRequest) (n k : ℕ) : Type 0 where
  pub inside : k < n
  pub first : (j : ℕ) → j < n → ends_before (at hs j) (at hs k) ≡ false

-- no hold's moment has come
abbrev pub NoneDue : List HeldRequest → ℕ → Type 0
NoneDue hs now = (j : ℕ) → j < length hs → now < (at hs j).until

-- the first hold ends, since its moment has come, and it is taken away
pub record EndsFirst (old new : Holds) (now : ℕ) (id : ReqId) : Type 0 where
  pub place : ℕ
  pub first : IsFirstOf old.rows (length old.rows) place
  pub due : (at old.rows place).until ≤ now
  pub named : (at old.rows place).id ≡ id
  pub rest : new ≡ record { rows = remove old.rows place; room = old.room + 1 }

abbrev pub is_of : ReqId → HeldRequest → Bool
is_of id h = same_request h.id id

-- the holds of the other requests
abbrev pub without : ReqId → List HeldRequest → List HeldRequest
without id hs = filter (λ h. not (is_of id h)) hs

-- a request is held
abbrev pub is_held : ReqId → List HeldRequest → Bool
is_held id hs = list_any (is_of id) hs
