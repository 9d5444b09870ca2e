-- The numbers that a loop has left.
use Rattle.std.proofs.Common.{◌≡◌, ℕ, suc, ◌+◌, ◌-◌, ◌<◌, ◌∷◌, ◌∙◌, ap, arith}
use Rattle.std.specs.List.{range_with_len}

pub left_from : (k n : ℕ) → k < n → range_with_len k (n - k) ≡ k ∷ range_with_len (k + 1) (n - (k + 1))
left_from k n h = let e : n - k ≡ suc (n - (k + 1)) = omega arith in ap (range_with_len k) e

pub left_at : (a k n : ℕ) → k < n → range_with_len (a + k) (n - k) ≡ (a + k) ∷ range_with_len (a + (k + 1)) (n - (k + 1))
left_at a k n h =
    let e : n - k ≡ suc (n - (k + 1)) = omega arith in
    ap (range_with_len (a + k)) e ∙ ap (λ (b : ℕ). (a + k) ∷ range_with_len b (n - (k + 1))) next
  where
    next : a + k + 1 ≡ a + (k + 1)
    next = omega arith
