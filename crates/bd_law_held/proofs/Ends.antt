-- Holds that end in time: of one list after the other, in parts, and from a later moment on.
use Rattle.std.proofs.Common.{ℕ, ◌+◌, ◌≤◌, min, List, [], ◌∷◌, ◌++◌, arith}
use Rattle.bd_base.specs.declared.setup.Setup.{Setup}
use Rattle.bd_machine.specs.Delays.{last_moment}
use Rattle.bd_machine.specs.Limits.{way_of}
use Rattle.bd_law_held.specs.Held.{latest_end, most_latency, EndInTime, EndsInTime, Holding}

module _ (setup : Setup) where
  pub both_end : (moment : ℕ) (xs ys : List Holding) → EndInTime setup moment xs → EndInTime setup moment ys → EndInTime setup moment (xs ++ ys)
  both_end moment [] ys h k = k
  both_end moment (x ∷ xs) ys h k = (h.0, both_end moment xs ys h.1 k)

  pub end_in_parts : (moment : ℕ) (xs ys : List Holding) → EndInTime setup moment (xs ++ ys) → EndInTime setup moment xs × EndInTime setup moment ys
  end_in_parts moment [] ys h = (tt, h)
  end_in_parts moment (x ∷ xs) ys h = let rest = end_in_parts moment xs ys h.1 in ((h.0, rest.0), rest.1)

  -- what ends in time from a moment on does so from a later one
  pub end_later : (m n : ℕ) (xs : List Holding) → m ≤ n → EndInTime setup m xs → EndInTime setup n xs
  end_later m n [] le h = tt
  end_later m n (x ∷ xs) le h = (one (most_latency setup x.dev (way_of x.op)) x.until h.0, end_later m n xs le h.1)
    where
      one : (most until : ℕ) → until ≤ min (m + most) last_moment → until ≤ min (n + most) last_moment
      one most until k = omega arith
