-- The generator's steps.
use Rattle.std.proofs.Common.{◌≡◌, ℕ, suc, ◌+◌, refl, ap, arith}
use Rattle.bd_node.specs.Schedule.{advance, advance_by}

pub advance_none : (x : ℕ) → x ≡ advance_by 0 x
unfolding advance_by
advance_none x = refl

pub advance_next : (n x : ℕ) → advance (advance_by n x) ≡ advance_by (n + 1) x
unfolding advance_by
advance_next n x = ap (λ (k : ℕ). advance_by k x) (let e : suc n ≡ n + 1 = search arith in e)
