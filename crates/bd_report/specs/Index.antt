-- What the index of a trace says: at each key, what the trace says first.
use Rattle.std.specs.Prelude.{◌≡◌, ℕ, Bool, false, ◌&&◌, ◌||◌, nat_eq, List, [], Option, slice_index_or}
use Rattle.std.specs.List.{list_any}
use Rattle.std.specs.HashMap.{HashMap, get}
use Rattle.std.specs.HashSet.{HashSet, contains}
use Rattle.bd_base.specs.declared.act.Entry.{Entry}
use Rattle.bd_base.specs.declared.act.Outcome.{Outcome}
use Rattle.bd_base.specs.declared.id.ReqId.{ReqId}
use Rattle.bd_base.specs.declared.request.Shown.{Shown}
use Rattle.bd_base.specs.declared.request.Status.{Status}
use Rattle.bd_report.specs.declared.successes.Successes.{Successes}
use Rattle.bd_report.specs.Report.{first_found, outcome_in, completion_in, digest_in, is_closed, was_told}
use Rattle.bd_report.specs.Traffic.{has_succeeded}

-- the same two numbers, as of a thread and a line there or a request there
abbrev pub same_pair : ℕ × ℕ → ℕ × ℕ → Bool
same_pair a b = nat_eq a.0 b.0 && nat_eq a.1 b.1

-- the key of a request
abbrev pub key_of : ReqId → ℕ × ℕ
key_of request = (request.thread, request.seq)

-- whether the request was noted: by its thread and number, or among the others
abbrev pub has_noted : Successes → ReqId → Bool
has_noted s request =
    slice_index_or (slice_index_or s.by_number request.thread []) request.seq false || contains same_pair s.others (key_of request)

-- whether each request succeeded
abbrev pub TellsSuccesses : Successes → List Entry → Type 0
TellsSuccesses s trace = (request : ReqId) → has_noted s request ≡ has_succeeded trace request

module _ {S : Type 0} where
  -- at each thread and line number, the first outcome
  abbrev pub TellsOutcomes : HashMap (ℕ × ℕ) Outcome S → List Entry → Type 0
  TellsOutcomes m trace = (thread number : ℕ) → get same_pair m (thread, number) ≡ first_found (outcome_in thread number) trace

  -- at each request, the first completion
  abbrev pub TellsCompletions : HashMap (ℕ × ℕ) (Status × Option Shown) S → List Entry → Type 0
  TellsCompletions m trace = (request : ReqId) → get same_pair m (key_of request) ≡ first_found (completion_in request) trace

  -- at each device, the first digest
  abbrev pub TellsDigests : HashMap ℕ (List ℕ) S → List Entry → Type 0
  TellsDigests m trace = (device : ℕ) → get nat_eq m device ≡ first_found (digest_in device) trace

  -- for each thread and handle, whether the thread took the handle's remove event before the handle was closed
  abbrev pub TellsTold : HashSet (ℕ × ℕ) S → List Entry → Type 0
  TellsTold s trace = (thread number : ℕ) → contains same_pair s (thread, number) ≡ was_told trace thread number

  -- whether each handle was closed
  abbrev pub TellsClosed : HashSet ℕ S → List Entry → Type 0
  TellsClosed s trace = (number : ℕ) → contains nat_eq s number ≡ list_any (is_closed number) trace
