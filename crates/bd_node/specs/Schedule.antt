-- The schedule: which thread's turn comes next.
use Rattle.std.specs.Prelude.{ℕ, zero, suc, ◌+◌, ◌*◌, ◌/◌, ◌%◌, ◌^◌}
use Rattle.bd_node.specs.declared.run.Drive.{Drive}
use Rattle.bd_node.specs.declared.run.Drive.TheVariants.{Schedule, Reactors}

-- where the schedule of a run begins
abbrev pub seed_by : Drive → ℕ
seed_by (Schedule seed) = seed
seed_by (Reactors count) = 0

-- the next state: Knuth's linear congruential generator of 64 bits
abbrev pub advance : ℕ → ℕ
advance x = (x * 6364136223846793005 + 1442695040888963407) % 2 ^ 64

-- the thread that a state chooses, by its upper bits
abbrev pub chosen : ℕ → ℕ → ℕ
chosen threads x = x / 2 ^ 33 % threads

-- the state after this number of turns
unfoldable pub advance_by : ℕ → ℕ → ℕ
advance_by zero x = x
advance_by (suc n) x = advance (advance_by n x)
