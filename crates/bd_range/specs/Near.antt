-- Notes of locks by the clusters of blocks in which they begin: where a lookup for a short range looks, beside the order of locks.
use Rattle.std.specs.Prelude.{ℕ, ◌/◌, Bool, false, not, ◌&&◌, ◌==◌, nat_eq, cond, List, [], ◌∷◌, ◌++◌, filter, Option, Some, None, ◌≡◌}
use Rattle.std.specs.BTreeMap as tree
use Rattle.std.specs.BTreeMap.{BTreeMap}
use Rattle.std.specs.Global.{Vec}
use Rattle.std.specs.HashMap.{HashMap, get}
use Rattle.std.specs.List.{list_any}
use Rattle.bd_range.specs.Locks.{key_cmp, LockKey}

-- a cluster has 4,096 blocks
abbrev pub cluster_of : ℕ → ℕ
cluster_of block = block / 4096

abbrev pub is_key : LockKey → LockKey → Bool
is_key a b = (a.0 == b.0) && (a.1 == b.1) && (a.2 == b.2)

-- the same key and number of blocks
abbrev pub is_lock : LockKey × ℕ → LockKey × ℕ → Bool
is_lock a b = is_key a.0 b.0 && (a.1 == b.1)

-- the lock has another key
abbrev pub is_other : LockKey → LockKey × ℕ → Bool
is_other key lock = not (is_key lock.0 key)

-- there is a lock, of this number of blocks
abbrev pub is_length : Option ℕ → ℕ → Bool
is_length None blocks = false
is_length (Some b) blocks = blocks == b

abbrev pub row_or_none : Option (Vec (LockKey × ℕ)) → List (LockKey × ℕ)
row_or_none None = []
row_or_none (Some row) = row.items

module _ {S : Type 0} (near : HashMap ℕ (Vec (LockKey × ℕ)) S) where
  -- the locks that are noted in the cluster
  abbrev pub near_at : ℕ → List (LockKey × ℕ)
  near_at cluster = row_or_none (get nat_eq near cluster)

  -- the locks that are noted in the cluster, once this one is noted, in place of any of its key
  abbrev pub with_note : LockKey → ℕ → ℕ → List (LockKey × ℕ)
  with_note key blocks cluster = cond (nat_eq (cluster_of key.0) cluster) (filter (is_other key) (near_at cluster) ++ (key, blocks) ∷ []) (near_at cluster)

  -- the locks that are noted in the cluster, once none of this key is
  abbrev pub without_key : LockKey → ℕ → List (LockKey × ℕ)
  without_key key cluster = cond (nat_eq (cluster_of key.0) cluster) (filter (is_other key) (near_at cluster)) (near_at cluster)

  -- the notes are those of these locks, each in the cluster in which it begins
  abbrev pub NotesOf : (LockKey → Option ℕ) → Type 0
  NotesOf lock_of = (lock : LockKey × ℕ) (cluster : ℕ) → list_any (is_lock lock) (near_at cluster) ≡ ((cluster_of lock.0.0 == cluster) && is_length (lock_of lock.0) lock.1)

  abbrev pub AreNoted : BTreeMap LockKey ℕ → Type 0
  AreNoted locks = NotesOf (tree.get key_cmp locks)
