-- The pairs of one device: which cluster each of its places has, in the order of the places.
use Rattle.std.specs.Prelude.{ℕ, cond, List, [], Option, count_by, fold, nat_eq, option_map, unwrap_or}
use Rattle.std.specs.BTreeMap.{insert_entry}
use Rattle.std.specs.Map.{lookup, remove_entry, values_of}
use Rattle.std.specs.Ordering.{nat_cmp}

-- each place that has a cluster, with it
abbrev pub Pairs : Type 0
Pairs = List (ℕ × ℕ)

-- the cluster of a place
abbrev pub cluster_at : Pairs → ℕ → Option ℕ
cluster_at pairs place = lookup (nat_eq place) pairs

-- the place has this cluster from now on, in place of any that it had
abbrev pub with_cluster : ℕ → ℕ → Pairs → Pairs
with_cluster place cluster pairs = insert_entry nat_cmp pairs place cluster

-- the place has no cluster any more
abbrev pub without_place : ℕ → Pairs → Pairs
without_place place pairs = remove_entry (nat_eq place) pairs

-- how many of the places have this cluster
abbrev pub users_in : ℕ → Pairs → ℕ
users_in cluster pairs = count_by (nat_eq cluster) (values_of pairs)

-- 1 where the cluster is this one, else 0
abbrev pub one : ℕ → ℕ → ℕ
one cluster other = cond (nat_eq cluster other) 1 0

-- 1 for a place that has the cluster, else 0
abbrev pub one_if : ℕ → Option ℕ → ℕ
one_if cluster had = unwrap_or (option_map (one cluster) had) 0

-- pairs that come in any order, by their places
abbrev pub in_order : Pairs → Pairs
in_order pairs = fold (λ done pair. with_cluster pair.0 pair.1 done) [] pairs
