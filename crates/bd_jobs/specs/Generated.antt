-- The generated script: each thread opens the device P, writes and reads blocks of its own in groups of eight, and closes it.
use Rattle.std.specs.Prelude.{ℕ, zero, suc, ◌+◌, ◌*◌, ◌/◌, ◌%◌, true, false, List, [], ◌∷◌, ◌++◌, length, codes}
use Rattle.std.specs.Fmt.{decimal}
use Rattle.bd_base.specs.declared.job.Job.{Job}
use Rattle.bd_base.specs.declared.job.Job.TheVariants.{Open, Close, Submit, Wait}
use Rattle.bd_base.specs.declared.job.Script.{Script}
use Rattle.bd_base.specs.declared.request.Op.TheVariants.{Read, Write}
use Rattle.bd_jobs.specs.ScriptGrammar.{scripts_below}
use Rattle.bd_jobs.specs.declared.command.Command.{Command}
use Rattle.bd_jobs.specs.declared.steps.Step.{Step}
use Rattle.bd_jobs.specs.declared.steps.Step.TheVariants.{Opens, Writes, Reads, Waits, Closes}

-- ---- what a thread does

-- the writes of consecutive numbers from this one on, by how many they are
unfoldable pub writes : ℕ → ℕ → List Step
writes first zero = []
writes first (suc count) = writes first count ++ Writes (first + count) ∷ []

unfoldable pub reads : ℕ → ℕ → List Step
reads first zero = []
reads first (suc count) = reads first count ++ Reads (first + count) ∷ []

-- a group of numbers: all are written, then all are read
abbrev pub group : ℕ → ℕ → List Step
group first count = writes first count ++ Waits ∷ (reads first count ++ Waits ∷ [])

-- this number of groups of eight, from number 0 on
unfoldable pub full_groups : ℕ → List Step
full_groups zero = []
full_groups (suc count) = full_groups count ++ group (8 * count) 8

-- the group of the numbers that are left, where there are any
abbrev pub last_group : ℕ → ℕ → List Step
last_group first zero = []
last_group first (suc count) = group first (suc count)

-- what each thread does with n numbers
abbrev pub steps : ℕ → List Step
steps n = Opens ∷ (full_groups (n / 8) ++ (last_group (8 * (n / 8)) (n % 8) ++ Closes ∷ []))

-- ---- its text

-- the block of a number
abbrev pub block_of : ℕ → ℕ → ℕ
block_of thread i = 64 * thread + 7 * i % 64

-- the seed of a number's write
abbrev pub seed_of : ℕ → ℕ → ℕ
seed_of thread i = 1000 * thread + i

abbrev pub step_words : ℕ → Step → List (List ℕ)
step_words thread Opens = decimal thread ∷ codes "open" ∷ codes "h" ∷ codes "P" ∷ codes "w" ∷ []
step_words thread (Writes i) = decimal thread ∷ codes "write" ∷ codes "h" ∷ decimal (block_of thread i) ∷ codes "1" ∷ decimal (seed_of thread i) ∷ []
step_words thread (Reads i) = decimal thread ∷ codes "read" ∷ codes "h" ∷ decimal (block_of thread i) ∷ codes "1" ∷ []
step_words thread Waits = decimal thread ∷ codes "wait" ∷ []
step_words thread Closes = decimal thread ∷ codes "close" ∷ codes "h" ∷ []

-- words with single spaces between them
abbrev pub spaced : List (List ℕ) → List ℕ
spaced [] = []
spaced (word ∷ []) = word
spaced (word ∷ words) = word ++ 32 ∷ spaced words

-- a line with its line feed
abbrev pub step_line : ℕ → Step → List ℕ
step_line thread step = spaced (step_words thread step) ++ 10 ∷ []

unfoldable pub steps_text : ℕ → List Step → List ℕ
steps_text thread [] = []
steps_text thread (step ∷ rest) = step_line thread step ++ steps_text thread rest

-- the script of the threads below this one, with n numbers each
unfoldable pub generated : ℕ → ℕ → List ℕ
generated n zero = []
generated n (suc thread) = generated n thread ++ steps_text thread (steps n)

-- ---- its meaning

abbrev pub step_job : ℕ → Step → Job
step_job thread Opens = Open (codes "h") (codes "P") true
step_job thread (Writes i) = Submit (codes "h") (Write (record { seed = seed_of thread i; flip = false })) (block_of thread i) 1
step_job thread (Reads i) = Submit (codes "h") Read (block_of thread i) 1
step_job thread Waits = Wait
step_job thread Closes = Close (codes "h")

-- a thread's commands, the first of which has this line
unfoldable pub step_commands : ℕ → ℕ → List Step → List Command
step_commands thread number [] = []
step_commands thread number (step ∷ rest) = record { thread = thread; line = record { number = number; job = step_job thread step } } ∷ step_commands thread (number + 1) rest

-- the commands of the threads below this one, with n numbers each
unfoldable pub generated_commands : ℕ → ℕ → List Command
generated_commands n zero = []
generated_commands n (suc thread) = generated_commands n thread ++ step_commands thread (1 + length (generated_commands n thread)) (steps n)

-- the scripts that the text is to give
abbrev pub generated_scripts : ℕ → ℕ → List Script
generated_scripts n threads = scripts_below (generated_commands n threads) threads
