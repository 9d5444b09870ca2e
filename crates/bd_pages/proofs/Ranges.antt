-- A range of blocks among the bytes of pages.
use Rattle.std.proofs.Common.{◌≡◌, ℕ, ◌+◌, ◌-◌, ◌*◌, ◌<◌, ◌≤◌, ◌^◌, List, ◌++◌, length, take, drop, replicate, sym, ◌∙◌, ap, subst, arith}
use Rattle.std.specs.List.{concat}
use Rattle.std.proofs.Math.Nat.{add-mul, mul-le-mul_right}
use Rattle.std.proofs.lemmas.List.{length-drop, length-replicate, take_all, take_at}
use Rattle.bd_pages.specs.Bytes.{written}
use Rattle.bd_pages.specs.Leaf.{Leaf}
use Rattle.bd_pages.specs.Pages.{IsWhole, Paged, blocks_of, zeroed}
use Rattle.bd_pages.specs.Table.{flat, marks}
use Rattle.bd_pages.proofs.Chunks.{length_blocks, drop_blocks, take_blocks, concat_blocks, blocks_read, blocks_written, blocks_zeros, zeroed_blocks}

-- what a vector holds whose slice was changed
pub changed : (n : ℕ) (new old : List Leaf) → n ≡ length new → take n (new ++ drop (length new) old) ≡ new
changed n new old e = take_at new (drop (length new) old) n (sym e)

-- how pages are seen
abbrev pub seen : ℕ → ℕ → List Leaf → Paged
seen size count pages = record { size = size; blocks = blocks_of size count (flat pages); taken = marks pages }

pub seen_length : (size count : ℕ) (pages : List Leaf) (now : Paged) → seen size count pages ≡ now → length now.blocks ≡ count
seen_length size count pages now is = sym (ap (λ (p : Paged). length p.blocks) is) ∙ length_blocks size count (flat pages)

pub seen_concat : (size count : ℕ) (pages : List Leaf) (now : Paged) → seen size count pages ≡ now → length (flat pages) ≡ count * size → concat now.blocks ≡ flat pages
seen_concat size count pages now is all =
    sym (ap (λ (p : Paged). concat p.blocks) is)
    ∙ concat_blocks size count (flat pages)
    ∙ take_all (count * size) (flat pages) (omega (arith, all))

module _ (size count lba n : ℕ) (pages : List Leaf) (now : Paged) (is : seen size count pages ≡ now) (whole : IsWhole size count pages) (inside : lba + n ≤ length now.blocks) where
  within : lba + n ≤ count
  within = let long = seen_length size count pages now is in omega (arith, inside, long)

  fits : lba * size + n * size ≤ count * size
  fits = let parts = add-mul lba n size in let le = mul-le-mul_right size within in omega (arith, parts, le)

  pub range_inside : lba * size + n * size ≤ length (flat pages)
  range_inside = let le = fits in let all = whole.all in omega (arith, le, all)

  pub range_small : lba * size + n * size < 2 ^ 64
  range_small = let le = fits in let small = whole.small in omega (arith, le, small)

  pub range_read : take (n * size) (drop (lba * size) (flat pages)) ≡ concat (take n (drop lba now.blocks))
  range_read = subst (λ (p : Paged). take (n * size) (drop (lba * size) (flat pages)) ≡ concat (take n (drop lba p.blocks))) is (sym (blocks_read size count lba n (flat pages) within))

  pub range_written : (bytes : List ℕ) → length bytes ≡ n * size
      → blocks_of size count (written (lba * size) bytes (flat pages)) ≡ take lba now.blocks ++ blocks_of now.size n bytes ++ drop (lba + n) now.blocks
  range_written bytes e =
      subst (λ (p : Paged). blocks_of size count (written (lba * size) bytes (flat pages)) ≡ take lba p.blocks ++ blocks_of p.size n bytes ++ drop (lba + n) p.blocks) is
      (blocks_written size count lba n bytes (flat pages) within whole.all e)

  -- zeros in place of the blocks that were there
  zeros_as_blocks : blocks_of size n (replicate (n * size) 0) ≡ zeroed (take n (drop lba (blocks_of size count (flat pages))))
  zeros_as_blocks =
      let in_count = within in
      let rest : ℕ = count - (lba + n) in
      let all : count ≡ lba + (n + rest) = omega (arith, in_count) in
      let le = range_inside in
      blocks_zeros size n (n * size) (omega arith)
      ∙ sym (ap zeroed (ap (λ (m : ℕ). take n (drop lba (blocks_of size m (flat pages)))) all
      ∙ ap (λ (bs : List (List ℕ)). take n bs) (drop_blocks size lba (n + rest) (flat pages))
      ∙ take_blocks size n rest (drop (lba * size) (flat pages)))
      ∙ zeroed_blocks size n (drop (lba * size) (flat pages)) (omega (arith, le, length-drop (lba * size) (flat pages))))

  pub range_zeroed : blocks_of size count (written (lba * size) (replicate (n * size) 0) (flat pages)) ≡ take lba now.blocks ++ zeroed (take n (drop lba now.blocks)) ++ drop (lba + n) now.blocks
  range_zeroed =
      let zeros : List ℕ = replicate (n * size) 0 in
      subst (λ (p : Paged). blocks_of size count (written (lba * size) zeros (flat pages)) ≡ take lba p.blocks ++ zeroed (take n (drop lba p.blocks)) ++ drop (lba + n) p.blocks) is
      (blocks_written size count lba n zeros (flat pages) within whole.all (length-replicate (n * size) 0)
      ∙ ap (λ (bs : List (List ℕ)). take lba (blocks_of size count (flat pages)) ++ bs ++ drop (lba + n) (blocks_of size count (flat pages))) zeros_as_blocks)
