-- Counts of faults, absences and flushes: 64 bits, which stand still at their end.
use Rattle.std.specs.Prelude.{◌≡◌, ℕ, ◌+◌, ◌-◌, ◌<◌, ◌^◌, ◌⊎◌, min}

-- the last value of a count, at which it stands still
abbrev pub last_count : ℕ
last_count = 2 ^ 64 - 1

-- a count rose, or stands at its last value, where it counts as risen
abbrev pub Rises : ℕ → ℕ → Type 0
Rises old new = (old < new) ⊎ (new ≡ last_count)

-- the count after one more
abbrev pub one_more : ℕ → ℕ
one_more old = min (old + 1) last_count
