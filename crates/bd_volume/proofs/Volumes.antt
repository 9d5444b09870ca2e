-- Some blocks of one cluster among the blocks of a volume.
use Rattle.std.proofs.Common.{◌≡◌, ℕ, ◌+◌, ◌/◌, ◌%◌, ◌<◌, ◌≤◌, List, ◌++◌, length, take, drop, sym, ◌∙◌, ap, subst, arith}
use Rattle.bd_volume.specs.Clusters.{Clustered, Placed, blocks_at, content}
use Rattle.bd_volume.proofs.Orders.{content_length, content_put, content_read}
use Rattle.bd_volume.proofs.Zeros.{range_length}

-- how a volume is seen
abbrev pub seen : ℕ → Placed → Clustered
seen count s = record { cluster = s.cluster; blocks = content count s }

module _ (count : ℕ) (s : Placed) (now : Clustered) (is : seen count s ≡ now) (some : 0 < s.cluster) (each : (k : ℕ) → length (blocks_at s k) ≡ s.cluster) where
  pub seen_length : length now.blocks ≡ count
  seen_length = sym (ap (λ (v : Clustered). length v.blocks) is) ∙ content_length count s some each

  pub seen_cluster : now.cluster ≡ s.cluster
  seen_cluster = sym (ap (λ (v : Clustered). v.cluster) is)

  module _ (lba n : ℕ) (inside : lba + n ≤ length now.blocks) (within : lba % now.cluster + n ≤ now.cluster) where
    lies : lba + n ≤ count
    lies = let long = seen_length in omega (arith, inside, long)

    pub part_within : lba % s.cluster + n ≤ s.cluster
    part_within = subst (λ (k : ℕ). lba % k + n ≤ k) seen_cluster within

    read : take n (drop lba (content count s)) ≡ take n (drop (lba % s.cluster) (blocks_at s (lba / s.cluster)))
    read = content_read count lba n s some each lies part_within

    pub volume_read : take n (drop lba now.blocks) ≡ take n (drop (lba % s.cluster) (blocks_at s (lba / s.cluster)))
    volume_read = sym (ap (λ (v : Clustered). take n (drop lba v.blocks)) is) ∙ read

    pub volume_put : (new : Placed) (F : List (List ℕ) → List (List ℕ)) → ((bs : List (List ℕ)) → length (F bs) ≡ length bs) → new.cluster ≡ s.cluster
        → ((k : ℕ) → (k ≡ lba / s.cluster → ⊥) → blocks_at new k ≡ blocks_at s k)
        → blocks_at new (lba / s.cluster) ≡ take (lba % s.cluster) (blocks_at s (lba / s.cluster)) ++ F (take n (drop (lba % s.cluster) (blocks_at s (lba / s.cluster)))) ++ drop (lba % s.cluster + n) (blocks_at s (lba / s.cluster))
        → content count new ≡ take lba now.blocks ++ F (take n (drop lba now.blocks)) ++ drop (lba + n) now.blocks
    volume_put new F long same apart here =
        let all : List (List ℕ) = content count s in
        let middle : List (List ℕ) = take n (drop (lba % s.cluster) (blocks_at s (lba / s.cluster))) in
        let few = part_within in
        let size = each (lba / s.cluster) in
        let e : length (F middle) ≡ n = long middle ∙ range_length (lba % s.cluster) n (blocks_at s (lba / s.cluster)) (omega (arith, few, size)) in
        subst (λ (v : Clustered). content count new ≡ take lba v.blocks ++ F (take n (drop lba v.blocks)) ++ drop (lba + n) v.blocks) is
        (content_put count lba n s some each lies part_within new (F middle) same apart e here
        ∙ ap (λ (bs : List (List ℕ)). take lba all ++ F bs ++ drop (lba + n) all) (sym read))
