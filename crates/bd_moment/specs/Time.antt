-- The moments that a thread goes by, in microseconds, and how long the next line of its script sleeps.
use Rattle.std.specs.Prelude.{ℕ, Bool, true, false, cond, not, ◌||◌, ◌-◌, max, [], Option, Some, None}
use Rattle.bd_base.specs.declared.job.Job.{Job}
use Rattle.bd_base.specs.declared.job.Job.TheVariants as jobs
use Rattle.bd_rule_lines.specs.Known.{known_by, wakes_at, Known}
use Rattle.bd_moment.specs.declared.time.Time.{Time}

-- before any turn
abbrev pub before_any : Time
before_any = record { moment = 0; met = 0; start = 0; given = false }

-- the moment of a turn that begins while the clock tells this one: never one before the last turn's
abbrev pub moment_at : Time → ℕ → ℕ
moment_at t now = max t.moment now

-- a turn began; in the first one the first line is met, and from its moment on timeslices are counted
abbrev pub begun : Time → ℕ → Time
begun t now = record { moment = moment_at t now; met = cond t.given t.met (moment_at t now); start = cond t.given t.start (moment_at t now); given = true }

-- a line ended: the next one is met in this turn
abbrev pub with_line_ended : Time → Time
with_line_ended t = record t { met = t.moment }

-- what is known of sleeps at the turn's moment, by the one rule for scripts
abbrev pub known_at : Time → Known
known_at t = known_by (record { now = t.moment; met = t.met; requests = 0; marks = []; gone = []; bound = []; sizes = [] })

-- the next line is a sleep with this command, and it isn't over
abbrev pub is_asleep : Time → Job → Bool
is_asleep t (jobs.Sleep micros) = not ((known_at t).has_slept micros)
is_asleep t _ = false

-- how long from the turn's moment on it sleeps, where it does and there was a turn
abbrev pub asleep_for : Time → Job → Option ℕ
asleep_for t (jobs.Sleep micros) = cond (not t.given || (known_at t).has_slept micros) None (Some (wakes_at t.met micros - t.moment))
asleep_for t _ = None
