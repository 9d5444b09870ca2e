-- How many requests were accepted, how they ended, and how many submissions were refused: by thread, and over all.
use Rattle.std.specs.Prelude.{ℕ, ◌+◌, ◌-◌, ◌^◌, Bool, true, false, ◌&&◌, ◌==◌, if◌then◌else◌, min, map, List, slice_index_or, slice_set, count_by, Option, Some, None}
use Rattle.std.specs.List.{range_with_len}
use Rattle.bd_base.specs.declared.act.Act.{Act}
use Rattle.bd_base.specs.declared.act.Act.TheVariants as acts
use Rattle.bd_base.specs.declared.act.Entry.{Entry}
use Rattle.bd_base.specs.declared.request.Status.{Status}
use Rattle.bd_base.specs.declared.request.Status.TheVariants.{Success, Failed, Aborted}
use Rattle.bd_report.specs.declared.counts.Counts.{Counts}

-- at most 2^64 - 1
abbrev pub capped : ℕ → ℕ
capped count = min count (2 ^ 64 - 1)

-- whether a thread's entries are meant; with no thread those of all are
abbrev pub is_meant : Option ℕ → ℕ → Bool
is_meant None thread = true
is_meant (Some meant) thread = thread == meant

-- how many of a thread's acts, or of all, pass a test
abbrev pub count_acts : (Act → Bool) → Option ℕ → List Entry → ℕ
count_acts test thread entries = count_by (λ entry. is_meant thread entry.thread && test entry.act) entries

-- a request was accepted
abbrev pub is_accept : Act → Bool
is_accept (acts.Accept dev lba handle req op count) = true
is_accept _ = false

-- a submission was refused
abbrev pub is_refusal : Act → Bool
is_refusal (acts.Refuse errno lba handle op count) = true
is_refusal _ = false

-- whether two statuses are the same
abbrev pub is_status : Status → Status → Bool
is_status Success Success = true
is_status Failed Failed = true
is_status Aborted Aborted = true
is_status _ _ = false

-- a completion with this status
abbrev pub is_end : Status → Act → Bool
is_end status (acts.Complete req ended shown) = is_status status ended
is_end status _ = false

-- an act that counts: an accept, a completion or a refusal
abbrev pub is_counted : Act → Bool
is_counted (acts.Accept dev lba handle req op count) = true
is_counted (acts.Refuse errno lba handle op count) = true
is_counted (acts.Complete req status shown) = true
is_counted _ = false

-- the counts of a thread's acts, or of all, each at most 2^64 - 1
abbrev pub counts_of : Option ℕ → List Entry → Counts
counts_of thread entries =
    record {
      accepted = capped (count_acts is_accept thread entries);
      success = capped (count_acts (is_end Success) thread entries);
      failed = capped (count_acts (is_end Failed) thread entries);
      aborted = capped (count_acts (is_end Aborted) thread entries);
      refused = capped (count_acts is_refusal thread entries);
    }

-- the counts of N threads, by number
abbrev pub thread_counts : ℕ → List Entry → List Counts
thread_counts threads entries = map (λ thread. counts_of (Some thread) entries) (range_with_len 0 threads)

-- ---- one more act

abbrev pub no_acts : Counts
no_acts = record { accepted = 0; success = 0; failed = 0; aborted = 0; refused = 0 }

-- one more, or the same
abbrev pub more_if : Bool → ℕ → ℕ
more_if counts count = if counts then capped (count + 1) else count

-- the counts with one more act
abbrev pub with_act : Act → Counts → Counts
with_act act counts =
    record {
      accepted = more_if (is_accept act) counts.accepted;
      success = more_if (is_end Success act) counts.success;
      failed = more_if (is_end Failed act) counts.failed;
      aborted = more_if (is_end Aborted act) counts.aborted;
      refused = more_if (is_refusal act) counts.refused;
    }

-- the counts of threads, with one more act of this thread; a thread that isn't among these has no counts here
abbrev pub with_act_at : ℕ → Act → List Counts → List Counts
with_act_at thread act threads = slice_set threads thread (with_act act (slice_index_or threads thread no_acts))
