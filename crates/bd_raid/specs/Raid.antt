-- The two layouts of a set of devices: where a block of the set lies, and how many blocks from it on lie there one after the other.
use Rattle.std.specs.Prelude.{◌≡◌, ◌≢◌, ℕ, ◌+◌, ◌-◌, ◌*◌, ◌/◌, ◌%◌, ◌<◌, ◌≤◌, Bool, cond, nat_lt, min, List, [], ◌∷◌, length, take, slice_index, sum_by, All, Any, ◌⊎◌}

-- strip: how many blocks a strip has; sizes: the members' blocks, in order; striped: whether strips go round the members, else the members stand one after the other
pub record RaidRows : Type 0 where
  pub strip : ℕ
  pub sizes : List ℕ
  pub striped : Bool

-- the blocks of a member that a set uses: its whole strips
abbrev pub used_of : ℕ → ℕ → ℕ
used_of size strip = size / strip * strip

-- ---- striping: the strips are dealt out to the members in turn, and each member has its own one after the other

-- the member, and the block of it
abbrev pub striped_at : ℕ → ℕ → ℕ → ℕ × ℕ
striped_at strip members block = (block / strip % members, block / strip / members * strip + block % strip)

-- the blocks from this one on to the end of its strip
abbrev pub left_in_strip : ℕ → ℕ → ℕ
left_in_strip strip block = strip - block % strip

-- the block of the set that lies there
abbrev pub block_striped : ℕ → ℕ → ℕ × ℕ → ℕ
block_striped strip members at = (at.1 / strip * members + at.0) * strip + at.1 % strip

-- ---- concatenation: the used blocks of the members stand one after the other

-- the member, which are numbered from k on, and the block of it; past the end the number after the last
abbrev pub joined_from : ℕ → ℕ → List ℕ → ℕ → ℕ × ℕ
joined_from strip k [] block = (k, block)
joined_from strip k (size ∷ sizes) block = cond (nat_lt block (used_of size strip)) (k, block) (joined_from strip (k + 1) sizes (block - used_of size strip))

-- the used blocks of these members
abbrev pub used_of_all : ℕ → List ℕ → ℕ
used_of_all strip sizes = sum_by (λ size. used_of size strip) sizes

-- the block of the set that lies there
abbrev pub block_joined : ℕ → List ℕ → ℕ × ℕ → ℕ
block_joined strip sizes at = used_of_all strip (take at.0 sizes) + at.1

-- ---- a set

-- the least size; with no member a number above each size
abbrev pub least_of : List ℕ → ℕ
least_of [] = 18446744073709551615
least_of (size ∷ sizes) = min size (least_of sizes)

-- how many blocks the set has: a striped one takes as many of each member as the least of them has
abbrev pub blocks_of_raid : RaidRows → ℕ
blocks_of_raid r = cond r.striped (length r.sizes * used_of (least_of r.sizes) r.strip) (used_of_all r.strip r.sizes)

-- the member, by its number, and the block of it
abbrev pub at_raid : RaidRows → ℕ → ℕ × ℕ
at_raid r block = cond r.striped (striped_at r.strip (length r.sizes) block) (joined_from r.strip 0 r.sizes block)

-- the block of the set that lies there
abbrev pub block_of_raid : RaidRows → ℕ × ℕ → ℕ
block_of_raid r at = cond r.striped (block_striped r.strip (length r.sizes) at) (block_joined r.strip r.sizes at)

-- the place is a used block of a member
pub record IsPlace (r : RaidRows) (at : ℕ × ℕ) : Type 0 where
  pub member : at.0 < length r.sizes
  pub block : at.1 < used_of (slice_index r.sizes at.0) r.strip

-- this many blocks from a block on, and no more, lie on one member one after the other
pub record FollowOn (r : RaidRows) (block run : ℕ) : Type 0 where
  pub within : block + run ≤ blocks_of_raid r
  pub follow : (k : ℕ) → k < run → at_raid r (block + k) ≡ ((at_raid r block).0, (at_raid r block).1 + k)
  pub ends : block + run < blocks_of_raid r → (at_raid r (block + run)).0 ≢ (at_raid r block).0

-- ---- which sets there may be

-- a set that is refused: it has no member, or more than 16, or one with no whole strip
abbrev pub IsRefused : ℕ → List ℕ → Type 0
IsRefused strip sizes = (length sizes ≡ 0) ⊎ (16 < length sizes) ⊎ Any (λ size. size < strip) sizes

-- what holds of each set
pub record IsRaid (r : RaidRows) : Type 0 where
  pub some_strip : 1 ≤ r.strip
  pub some_member : 1 ≤ length r.sizes
  pub few_members : length r.sizes ≤ 16
  pub whole_strips : All (λ size. r.strip ≤ size) r.sizes
  pub sizes_fit : All (λ size. size ≤ 1099511627776) r.sizes
