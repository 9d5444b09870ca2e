-- What contracts see of the locks of a base device: the locks by first block and request, and the pieces that one of them holds back.
use Rattle.std.specs.Prelude.{ℕ, ◌+◌, Bool, not, ◌&&◌, ◌==◌, nat_lt, cond, List, [], ◌∷◌, ◌++◌, find, Option, Some, None}
use Rattle.std.specs.declared.cmp.Ordering.{Ordering}
use Rattle.std.specs.Ordering.{nat_cmp, ordering_then}
use Rattle.std.specs.List.{list_any}
use Rattle.std.specs.Map.{remove_entry}
use Rattle.std.specs.BTreeMap.{insert_entry}
use Rattle.bd_base.specs.declared.id.ReqId.{ReqId}
use Rattle.bd_range.specs.declared.piece.HeldPiece.{HeldPiece}

-- a lock's first block, and the thread and the number of its request
abbrev pub LockKey : Type 0
LockKey = ℕ × ℕ × ℕ

-- locks: how many blocks each lock has, by first block, then thread, then number; held: the pieces that wait, in the order in which they came
pub record LockRows : Type 0 where
  pub locks : List (LockKey × ℕ)
  pub held : List HeldPiece

abbrev pub no_locks : LockRows
no_locks = record { locks = []; held = [] }

-- ---- ranges

-- n blocks from a on and m blocks from b on have a block in common
abbrev pub overlaps : ℕ → ℕ → ℕ → ℕ → Bool
overlaps a n b m = nat_lt a (b + m) && nat_lt b (a + n)

-- the order of locks
abbrev pub key_cmp : LockKey → LockKey → Ordering
key_cmp a b = ordering_then (ordering_then (nat_cmp a.0 b.0) (nat_cmp a.1 b.1)) (nat_cmp a.2 b.2)

abbrev pub key_of : ReqId → ℕ → LockKey
key_of req first = (first, req.thread, req.seq)

-- the lock is one of this request
abbrev pub is_own : ReqId → LockKey → Bool
is_own req key = (key.1 == req.thread) && (key.2 == req.seq)

-- the lock is that of this request from this block on
abbrev pub is_named : ReqId → ℕ → LockKey → Bool
is_named req first key = (key.0 == first) && (key.1 == req.thread) && (key.2 == req.seq)

-- the lock is another request's, and overlaps the range
abbrev pub is_rival : ReqId → ℕ → ℕ → LockKey × ℕ → Bool
is_rival req first count lock = not (is_own req lock.0) && overlaps first count lock.0.0 lock.1

-- no lock of another request overlaps the range
abbrev pub is_free : List (LockKey × ℕ) → ReqId → ℕ → ℕ → Bool
is_free locks req first count = not (list_any (is_rival req first count) locks)

-- a lock of another request overlaps the range, so a piece of it has to wait
abbrev pub stops : LockRows → ReqId → ℕ → ℕ → Bool
stops rows req first count = not (is_free rows.locks req first count)

-- ---- locks

-- with a lock of this request; one that it has from this block on takes this length
abbrev pub with_lock : LockRows → ReqId → ℕ → ℕ → LockRows
with_lock rows req first count = record rows { locks = insert_entry key_cmp rows.locks (key_of req first) count }

-- without the lock of this request from this block on
abbrev pub without_lock : LockRows → ReqId → ℕ → LockRows
without_lock rows req first = record rows { locks = remove_entry (is_named req first) rows.locks }

-- ---- held pieces

abbrev pub is_piece : ReqId → ℕ → HeldPiece → Bool
is_piece req k p = (p.req.thread == req.thread) && (p.req.seq == req.seq) && (p.k == k)

-- the piece waits behind all others
abbrev pub held_by : LockRows → ReqId → ℕ → ℕ → ℕ → LockRows
held_by rows req k first count = record rows { held = rows.held ++ (record { req = req; k = k; first = first; count = count }) ∷ [] }

-- no lock stops the piece
abbrev pub may_go : List (LockKey × ℕ) → HeldPiece → Bool
may_go locks p = is_free locks p.req p.first p.count

abbrev pub name_of : Option HeldPiece → Option (ReqId × ℕ)
name_of None = None
name_of (Some p) = Some (p.req, p.k)

-- the piece that came first of those that no lock stops
abbrev pub first_free : LockRows → Option (ReqId × ℕ)
first_free rows = name_of (find (may_go rows.locks) rows.held)

-- without the first item that passes the test
abbrev pub without_first : {X : Type 0} → (X → Bool) → List X → List X
without_first p [] = []
without_first p (x ∷ xs) = cond (p x) xs (x ∷ without_first p xs)

-- the piece of this name waits no more
abbrev pub without_held : LockRows → ReqId → ℕ → LockRows
without_held rows req k = record rows { held = without_first (is_piece req k) rows.held }
