-- The clusters of a volume, and its blocks, cluster after cluster.
use Rattle.std.specs.Prelude.{◌≡◌, ℕ, zero, suc, ◌+◌, ◌/◌, ◌<◌, List, [], ◌++◌, Option, None, Some, length, nat_eq, option_map, replicate, slice_get, take}
use Rattle.std.specs.Map.{lookup}

-- the bytes of a block, and the blocks of one cluster
pub record Stored : Type 0 where
  pub size : ℕ
  pub blocks : List (List ℕ)

-- how many blocks a cluster has, the bytes of a block, and the clusters that are there, by their places
pub record Placed : Type 0 where
  pub cluster : ℕ
  pub size : ℕ
  pub entries : List (ℕ × Stored)

-- how many blocks a cluster has, and all blocks of a volume
pub record Clustered : Type 0 where
  pub cluster : ℕ
  pub blocks : List (List ℕ)

-- a cluster that isn't there is zeros
abbrev pub cluster_or : ℕ → ℕ → Option Stored → List (List ℕ)
cluster_or cluster size None = replicate cluster (replicate size 0)
cluster_or cluster size (Some pages) = pages.blocks

-- the cluster at a place, where it is there
abbrev pub found : List (ℕ × Stored) → ℕ → Option Stored
found entries place = lookup (nat_eq place) entries

-- at this index of the entries stands the cluster of a place, and nothing where the place has none
abbrev pub StandsAt : List (ℕ × Stored) → ℕ → ℕ → Type 0
StandsAt entries place index = slice_get entries index ≡ option_map (λ cluster. (place, cluster)) (found entries place)

-- the blocks of the cluster at a place
abbrev pub blocks_at : Placed → ℕ → List (List ℕ)
blocks_at placed place = cluster_or placed.cluster placed.size (found placed.entries place)

-- each cluster has that many blocks of that size
pub record AreClusters (cluster size : ℕ) (entries : List (ℕ × Stored)) : Type 0 where
  pub some : 0 < cluster
  pub long : (place : ℕ) (p : Stored) → found entries place ≡ Some p → length p.blocks ≡ cluster
  pub sized : (place : ℕ) (p : Stored) → found entries place ≡ Some p → p.size ≡ size

-- the clusters of n places from one on, one after another
abbrev pub in_order : (ℕ → List (List ℕ)) → ℕ → ℕ → List (List ℕ)
in_order f first zero = []
in_order f first (suc n) = f first ++ in_order f (first + 1) n

-- that number of blocks in clusters
abbrev pub content : ℕ → Placed → List (List ℕ)
content count placed = take count (in_order (blocks_at placed) 0 (count / placed.cluster + 1))
