-- What contracts see of the map of a pool's clusters: for each device the pairs of a place and its cluster.
use Rattle.std.specs.Prelude.{◌≡◌, ℕ, ◌≤◌, ◌==◌, Bool, cond, nat_lt, List, [], ◌∷◌, Option, None, Some, Result, Ok, Err, find, map, slice_index, sum_by}
use Rattle.std.specs.List.{AllByRecursion, range_with_len}
use Rattle.bd_base.specs.declared.id.DevId.{DevId}
use Rattle.bd_thin_map.specs.Pairs.{Pairs, cluster_at, users_in, with_cluster, without_place}
use Rattle.bd_thin_map.specs.declared.ready.NoSpace.{NoSpace}
use Rattle.bd_thin_map.specs.declared.ready.Ready.{Ready}
use Rattle.bd_thin_map.specs.declared.ready.Ready.TheVariants.{InPlace, Fresh, Copy}
use Rattle.bd_thin_map.specs.declared.row.Row.{Row}

-- clusters: how many the pool has, numbered from 0; rows: the pairs of each device
pub record MapRows : Type 0 where
  pub clusters : ℕ
  pub rows : List Row

-- no place of any device has a cluster
abbrev pub no_pairs : ℕ → List DevId → MapRows
no_pairs clusters devices = record { clusters = clusters; rows = map (λ dev. record { dev = dev; pairs = [] }) devices }

-- ---- what is asked of it

abbrev pub is_of : DevId → Row → Bool
is_of dev row = row.dev.0 == dev.0

-- the pairs of a device; a device that the map wasn't made for has none
abbrev pub pairs_of : List Row → DevId → Pairs
pairs_of [] dev = []
pairs_of (row ∷ rows) dev = cond (is_of dev row) row.pairs (pairs_of rows dev)

-- the cluster of a device's place
abbrev pub look : MapRows → DevId → ℕ → Option ℕ
look m dev place = cluster_at (pairs_of m.rows dev) place

-- how many places of all devices have this cluster
abbrev pub users_of : List Row → ℕ → ℕ
users_of rows cluster = sum_by (λ row. users_in cluster row.pairs) rows

-- the least cluster that no place has
abbrev pub first_free : MapRows → Option ℕ
first_free m = find (λ cluster. users_of m.rows cluster == 0) (range_with_len 0 m.clusters)

-- the numbers of a list are those of the places that have each cluster, and no cluster stands twice among a device's pairs
pub record IsCounted (users : List ℕ) (rows : List Row) : Type 0 where
  pub counts : (cluster : ℕ) → slice_index users cluster ≡ users_of rows cluster
  pub once : (cluster : ℕ) → AllByRecursion (λ row. users_in cluster row.pairs ≤ 1) rows

-- ---- a write

-- a new cluster is needed: the least free one
abbrev pub with_free : (ℕ → Ready) → Option ℕ → Result Ready NoSpace
with_free how None = Err (record {})
with_free how (Some to) = Ok (how to)

-- a place without a cluster takes a free one, and so does one that shares its cluster; any other keeps its own
abbrev pub ready_for : MapRows → Option ℕ → Result Ready NoSpace
ready_for m None = with_free Fresh (first_free m)
ready_for m (Some from) = cond (nat_lt 1 (users_of m.rows from)) (with_free (Copy from) (first_free m)) (Ok (InPlace from))

-- what a write to a device's place has to do
abbrev pub prepare : MapRows → DevId → ℕ → Result Ready NoSpace
prepare m dev place = ready_for m (look m dev place)

-- ---- changes

-- a device's pairs are changed; one that the map wasn't made for has none to be changed
abbrev pub with_pairs : List Row → DevId → (Pairs → Pairs) → List Row
with_pairs [] dev change = []
with_pairs (row ∷ rows) dev change = cond (is_of dev row) ((record row { pairs = change row.pairs }) ∷ rows) (row ∷ with_pairs rows dev change)

abbrev pub changed : MapRows → DevId → (Pairs → Pairs) → MapRows
changed m dev change = record m { rows = with_pairs m.rows dev change }

-- the place has the cluster that was made ready
abbrev pub put : MapRows → DevId → ℕ → Ready → MapRows
put m dev place (InPlace cluster) = m
put m dev place (Fresh to) = changed m dev (with_cluster place to)
put m dev place (Copy from to) = changed m dev (with_cluster place to)

-- the place has no cluster any more
abbrev pub drop_place : MapRows → DevId → ℕ → MapRows
drop_place m dev place = changed m dev (without_place place)

-- no place of the device has a cluster any more
abbrev pub drop_device : MapRows → DevId → MapRows
drop_device m dev = changed m dev (λ _. [])

-- a device has the pairs of another, and none of those that it had
abbrev pub share : MapRows → DevId → DevId → MapRows
share m from to = changed m to (λ _. pairs_of m.rows from)
