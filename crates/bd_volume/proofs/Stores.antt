-- A range of blocks among the bytes of a store.
use Rattle.std.proofs.Common.{◌≡◌, ℕ, ◌+◌, ◌-◌, ◌*◌, ◌≤◌, List, ◌++◌, length, take, drop, replicate, sym, ◌∙◌, ap, ap₂, subst, arith}
use Rattle.std.specs.List.{concat}
use Rattle.std.proofs.Math.Nat.{add-mul, mul-le-mul_right}
use Rattle.std.proofs.lemmas.List.{length-drop, length-replicate, take_at}
use Rattle.bd_base.specs.declared.request.Fill.{Fill}
use Rattle.bd_pages.specs.Bytes.{written}
use Rattle.bd_pages.specs.Fills.{bytes_filled, filled}
use Rattle.bd_pages.specs.Pages.{blocks_of, zeroed}
use Rattle.bd_pages.proofs.Chunks.{length_blocks, drop_blocks, take_blocks, blocks_even, blocks_read, blocks_written, blocks_zeros, zeroed_blocks}
use Rattle.bd_pages.proofs.Even.{Even, even_range, range_length}
use Rattle.bd_pages.proofs.Fills.{filled_blocks, filled_length}
use Rattle.bd_volume.specs.Clusters.{Stored}

-- what a vector holds whose slice was changed
pub changed : (n : ℕ) (new old : List ℕ) → n ≡ length new → take n (new ++ drop (length new) old) ≡ new
changed n new old e = take_at new (drop (length new) old) n (sym e)

-- how a store is seen
abbrev pub stored : ℕ → ℕ → List ℕ → Stored
stored size count bytes = record { size = size; blocks = blocks_of size count bytes }

pub stored_length : (size count : ℕ) (bytes : List ℕ) (now : Stored) → stored size count bytes ≡ now → length now.blocks ≡ count
stored_length size count bytes now is = sym (ap (λ (s : Stored). length s.blocks) is) ∙ length_blocks size count bytes

module _ (size count at n : ℕ) (bytes : List ℕ) (now : Stored) (is : stored size count bytes ≡ now) (all : length bytes ≡ count * size) (inside : at + n ≤ length now.blocks) where
  within : at + n ≤ count
  within = let long = stored_length size count bytes now is in omega (arith, inside, long)

  pub range_inside : at * size + n * size ≤ length bytes
  range_inside =
      let parts = add-mul at n size in
      let le = mul-le-mul_right size within in
      omega (arith, parts, le, all)

  pub range_read : take (n * size) (drop (at * size) bytes) ≡ concat (take n (drop at now.blocks))
  range_read = subst (λ (s : Stored). take (n * size) (drop (at * size) bytes) ≡ concat (take n (drop at s.blocks))) is (sym (blocks_read size count at n bytes within))

  written_as : (new : List ℕ) (put : List (List ℕ)) → length new ≡ n * size → blocks_of size n new ≡ put → blocks_of size count (written (at * size) new bytes) ≡ take at now.blocks ++ put ++ drop (at + n) now.blocks
  written_as new put long e =
      subst (λ (s : Stored). blocks_of size count (written (at * size) new bytes) ≡ take at s.blocks ++ put ++ drop (at + n) s.blocks) is
      (blocks_written size count at n new bytes within all long
      ∙ ap (λ (bs : List (List ℕ)). take at (blocks_of size count bytes) ++ bs ++ drop (at + n) (blocks_of size count bytes)) e)

  pub range_filled : (fill : Fill) (number : ℕ) → blocks_of size count (written (at * size) (bytes_filled fill number size n) bytes) ≡ take at now.blocks ++ filled fill number (take n (drop at now.blocks)) ++ drop (at + n) now.blocks
  range_filled fill number =
      let range : List (List ℕ) = take n (drop at now.blocks) in
      let even : Even size now.blocks = subst (λ (s : Stored). Even size s.blocks) is (blocks_even size count bytes all) in
      written_as (bytes_filled fill number size n) (filled fill number range) (filled_length fill number size n)
      (ap (λ (m : ℕ). blocks_of size m (bytes_filled fill number size m)) (sym (range_length at n now.blocks inside))
      ∙ filled_blocks fill number size range (even_range size at n now.blocks even))

  -- zeros in place of the blocks that were there
  zeros_as_blocks : blocks_of size n (replicate (n * size) 0) ≡ zeroed (take n (drop at (blocks_of size count bytes)))
  zeros_as_blocks =
      let in_count = within in
      let rest : ℕ = count - (at + n) in
      let whole : count ≡ at + (n + rest) = omega (arith, in_count) in
      let le = range_inside in
      blocks_zeros size n (n * size) (omega arith)
      ∙ sym (ap zeroed (ap (λ (m : ℕ). take n (drop at (blocks_of size m bytes))) whole
      ∙ ap (λ (bs : List (List ℕ)). take n bs) (drop_blocks size at (n + rest) bytes)
      ∙ take_blocks size n rest (drop (at * size) bytes))
      ∙ zeroed_blocks size n (drop (at * size) bytes) (omega (arith, le, length-drop (at * size) bytes)))

  pub range_zeroed : blocks_of size count (written (at * size) (replicate (n * size) 0) bytes) ≡ take at now.blocks ++ zeroed (take n (drop at now.blocks)) ++ drop (at + n) now.blocks
  range_zeroed =
      written_as (replicate (n * size) 0) (zeroed (take n (drop at now.blocks))) (length-replicate (n * size) 0)
      (zeros_as_blocks ∙ ap (λ (s : Stored). zeroed (take n (drop at s.blocks))) is)

  -- the same by a span that says where they lie
  module _ (place each many : ℕ) (first : place ≡ at * now.size) (long : each ≡ now.size) (all_of : many ≡ n) where
    size_is : each ≡ size
    size_is = long ∙ sym (ap (λ (s : Stored). s.size) is)

    place_is : place ≡ at * size
    place_is = first ∙ sym (ap (λ (s : Stored). at * s.size) is)

    bytes_is : many * each ≡ n * size
    bytes_is = ap₂ (λ (k m : ℕ). k * m) all_of size_is

    pub span_inside : place + many * each ≤ length bytes
    span_inside = let a = place_is in let b = bytes_is in let le = range_inside in omega (arith, a, b, le)

    pub span_read : take (many * each) (drop place bytes) ≡ concat (take n (drop at now.blocks))
    span_read = ap₂ (λ (k p : ℕ). take k (drop p bytes)) bytes_is place_is ∙ range_read

    pub span_filled : (fill : Fill) (number : ℕ) → blocks_of size count (written place (bytes_filled fill number each many) bytes) ≡ take at now.blocks ++ filled fill number (take n (drop at now.blocks)) ++ drop (at + n) now.blocks
    span_filled fill number =
        ap₂ (λ (p k : ℕ). blocks_of size count (written p (bytes_filled fill number each k) bytes)) place_is all_of
        ∙ ap (λ (m : ℕ). blocks_of size count (written (at * size) (bytes_filled fill number m n) bytes)) size_is
        ∙ range_filled fill number

    pub span_zeroed : blocks_of size count (written place (replicate (many * each) 0) bytes) ≡ take at now.blocks ++ zeroed (take n (drop at now.blocks)) ++ drop (at + n) now.blocks
    span_zeroed = ap₂ (λ (p k : ℕ). blocks_of size count (written p (replicate k 0) bytes)) place_is bytes_is ∙ range_zeroed
