-- What is known of a thread at one moment, as far as the lines of a script wait for it.
use Rattle.std.specs.Prelude.{ℕ, Bool, false, ◌+◌, ◌&&◌, not, min, nat_lt, nat_le, List, find, Option, Some, None}
use Rattle.std.specs.List.{list_any}
use Rattle.bd_base.specs.Name.{same_name}
use Rattle.bd_base.specs.declared.job.View.{View}
use Rattle.bd_machine.specs.Asked.{most_requests}

-- requests: how many of its requests are open; has_mark: whether it took a mark
-- awaits_removal: whether a name is bound to a handle whose remove event it hasn't taken
-- awaits_size: whether a name is bound to an open handle whose device has fewer blocks than so many, as far as the thread was told
-- has_slept: whether a sleep of so many microseconds, which its next line asks for, is over
pub record Known : Type 0 where
  pub requests : ℕ
  pub has_mark : List ℕ → Bool
  pub awaits_removal : List ℕ → Bool
  pub awaits_size : List ℕ → ℕ → Bool
  pub has_slept : ℕ → Bool

-- where so many requests are open there is room for one more
abbrev pub has_room : ℕ → Bool
has_room requests = nat_lt requests most_requests

-- ---- by lists of names and moments

-- the last moment that there is, in microseconds
abbrev pub last_moment : ℕ
last_moment = 18446744073709551615

-- the moment at which a sleep that was first met at a moment is over
abbrev pub wakes_at : ℕ → ℕ → ℕ
wakes_at met micros = min (met + micros) last_moment

-- the name is bound to a handle whose remove event the thread hasn't taken
abbrev pub awaits_removal : View → List ℕ → Bool
awaits_removal view handle = list_any (same_name handle) view.bound && not (list_any (same_name handle) view.gone)

abbrev pub is_size_below : ℕ → Option (List ℕ × ℕ) → Bool
is_size_below blocks None = false
is_size_below blocks (Some row) = nat_lt row.1 blocks

-- the first row of the name has a number below this one
abbrev pub is_smaller : List (List ℕ × ℕ) → List ℕ → ℕ → Bool
is_smaller sizes handle blocks = is_size_below blocks (find (λ row. same_name row.0 handle) sizes)

-- the name is bound to an open handle that is known to have fewer blocks
abbrev pub awaits_size : View → List ℕ → ℕ → Bool
awaits_size view handle blocks = is_smaller view.sizes handle blocks

abbrev pub known_by : View → Known
known_by view = record {
  requests = view.requests;
  has_mark = λ mark. list_any (same_name mark) view.marks;
  awaits_removal = awaits_removal view;
  awaits_size = awaits_size view;
  has_slept = λ micros. nat_le (wakes_at view.met micros) view.now;
}
