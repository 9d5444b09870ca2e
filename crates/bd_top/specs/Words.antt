-- The words of a command line: run CONFIG JOBS or exercise N, after which come --threads N and one of --schedule N and --reactors N; or generate N with --threads N.
use Rattle.std.specs.Prelude.{ℕ, ◌<◌, ◌≤◌, Bool, false, not, ◌&&◌, ◌==◌, nat_le, List, [], ◌∷◌, codes, Option, None, Some, option_map, option_and_then, if◌then◌else◌}
use Rattle.bd_base.specs.Name.{same_name}
use Rattle.bd_jobs.specs.Words.{number_of}
use Rattle.bd_node.specs.declared.run.Drive.{Drive}
use Rattle.bd_node.specs.declared.run.Drive.TheVariants.{Schedule, Reactors}
use Rattle.bd_top.specs.declared.words.Arguments as arguments
use Rattle.bd_top.specs.declared.words.Asked as words
use Rattle.bd_top.specs.declared.words.Asked.TheVariants as asks
use Rattle.bd_top.specs.declared.words.Playing.{Playing}

-- what a run is asked: its two files, and who plays
pub record Arguments : Type 0 where
  pub config : List ℕ
  pub jobs : List ℕ
  pub playing : Playing

-- what the words ask: that two files are played; that the built-in configuration and the generated script, with this many numbers
-- a thread, are played; or that this script is written for this many threads
pub data Asked : Type 0 where
  Run : Arguments → Asked
  Exercise : ℕ → Playing → Asked
  Generate : ℕ → ℕ → Asked

-- these as the program holds them
abbrev pub seen_arguments : arguments.Arguments → Arguments
seen_arguments a = record { config = a.config.now; jobs = a.jobs.now; playing = a.playing }

abbrev pub seen : words.Asked → Asked
seen (asks.Run a) = Run (seen_arguments a)
seen (asks.Exercise numbers playing) = Exercise numbers playing
seen (asks.Generate numbers threads) = Generate numbers threads

-- ---- ranges

-- the least and the most threads of a run
abbrev pub is_thread_count : ℕ → Bool
is_thread_count n = nat_le 1 n && nat_le n 16

-- the least and the most reactors of a run
abbrev pub is_reactor_count : ℕ → Bool
is_reactor_count n = nat_le 1 n && nat_le n 8

-- the least and the most numbers of generated work, for each thread
abbrev pub is_work : ℕ → Bool
is_work n = nat_le 1 n && nat_le n 500

-- a number that passes a test
abbrev pub only : (ℕ → Bool) → ℕ → Option ℕ
only test n = if test n then Some n else None

abbrev pub threads_in : List ℕ → Option ℕ
threads_in word = option_and_then (only is_thread_count) (number_of word)

abbrev pub reactors_in : List ℕ → Option ℕ
reactors_in word = option_and_then (only is_reactor_count) (number_of word)

abbrev pub work_in : List ℕ → Option ℕ
work_in word = option_and_then (only is_work) (number_of word)

-- a number of threads that play
abbrev pub IsThreadCount : ℕ → Type 0
IsThreadCount threads = (0 < threads) × (threads ≤ 16)

-- the numbers are in their ranges
abbrev pub IsInRange : Asked → Type 0
IsInRange (Run a) = IsThreadCount a.playing.threads
IsInRange (Exercise numbers playing) = (numbers ≤ 500) × IsThreadCount playing.threads
IsInRange (Generate numbers threads) = (numbers ≤ 500) × IsThreadCount threads

-- ---- options

-- who drives the threads, by an option and its number: a schedule with this seed, or this number of reactors
abbrev pub drive_of : List ℕ → List ℕ → Option Drive
drive_of name value =
    if same_name name (codes "--schedule") then option_map Schedule (number_of value)
    else if same_name name (codes "--reactors") then option_map Reactors (reactors_in value)
    else None

abbrev pub playing_with : Option ℕ → Option Drive → Option Playing
playing_with (Some threads) (Some drive) = Some (record { threads = threads; drive = drive })
playing_with _ _ = None

-- who plays, by --threads and one option that says who drives, in either order, each once at most: without them one thread plays, and one reactor drives
abbrev pub playing_of : List (List ℕ) → Option Playing
playing_of [] = playing_with (Some 1) (Some (Reactors 1))
playing_of (name ∷ value ∷ []) =
    if same_name name (codes "--threads") then playing_with (threads_in value) (Some (Reactors 1))
    else playing_with (Some 1) (drive_of name value)
playing_of (name ∷ value ∷ other ∷ more ∷ []) =
    if same_name name (codes "--threads") then playing_with (threads_in value) (drive_of other more)
    else if same_name other (codes "--threads") then playing_with (threads_in more) (drive_of name value)
    else None
playing_of _ = None

-- how many threads a script is for, by --threads, once at most: without it for one
abbrev pub threads_of : List (List ℕ) → Option ℕ
threads_of [] = Some 1
threads_of (name ∷ value ∷ []) = if same_name name (codes "--threads") then threads_in value else None
threads_of _ = None

-- ---- commands

-- a file's name isn't empty, and doesn't begin with -
abbrev pub is_file : List ℕ → Bool
is_file [] = false
is_file (b ∷ bs) = not (b == 45)

-- two files with who plays
abbrev pub run_with : List ℕ → List ℕ → Option Playing → Option Asked
run_with config jobs (Some playing) = Some (Run (record { config = config; jobs = jobs; playing = playing }))
run_with config jobs None = None

abbrev pub run_of : List (List ℕ) → Option Asked
run_of (config ∷ jobs ∷ options) = if is_file config && is_file jobs then run_with config jobs (playing_of options) else None
run_of _ = None

abbrev pub exercise_with : Option ℕ → Option Playing → Option Asked
exercise_with (Some numbers) (Some playing) = Some (Exercise numbers playing)
exercise_with _ _ = None

abbrev pub exercise_of : List (List ℕ) → Option Asked
exercise_of (numbers ∷ options) = exercise_with (work_in numbers) (playing_of options)
exercise_of [] = None

abbrev pub generate_with : Option ℕ → Option ℕ → Option Asked
generate_with (Some numbers) (Some threads) = Some (Generate numbers threads)
generate_with _ _ = None

abbrev pub generate_of : List (List ℕ) → Option Asked
generate_of (numbers ∷ options) = generate_with (work_in numbers) (threads_of options)
generate_of [] = None

-- what the words ask; none where they are outside the grammar
abbrev pub asked_of : List (List ℕ) → Option Asked
asked_of (word ∷ rest) =
    if same_name word (codes "run") then run_of rest
    else if same_name word (codes "exercise") then exercise_of rest
    else if same_name word (codes "generate") then generate_of rest
    else None
asked_of [] = None
