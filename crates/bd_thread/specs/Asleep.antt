-- The moments of a thread's turns, and the line that sleeps.
use Rattle.std.specs.Prelude.{ℕ, Bool, false, cond, Option, Some, None}
use Rattle.bd_base.specs.declared.job.Line.{Line}
use Rattle.bd_machine.specs.Asked.{next_line}
use Rattle.bd_moment.specs.declared.time.Time.{Time}
use Rattle.bd_moment.specs.Time.{asleep_for, begun, is_asleep as is_job_asleep}
use Rattle.bd_thread.specs.declared.links.Links.{Links}
use Rattle.bd_thread.specs.declared.thread.Thread.{Thread}

-- a turn of the thread began while the clock told this moment; all else stayed
abbrev pub begun_at : ℕ → Thread → Thread
begun_at now t = record t { time = begun t.time now }

abbrev pub is_line_asleep : Time → Option Line → Bool
is_line_asleep time None = false
is_line_asleep time (Some line) = is_job_asleep time line.job

-- the next line sleeps at the moment of the thread's turn
abbrev pub is_asleep : Thread → Bool
is_asleep t = is_line_asleep t.time (next_line t.setup.now t.me t.part)

abbrev pub line_sleeps_for : Time → Option Line → Option ℕ
line_sleeps_for time None = None
line_sleeps_for time (Some line) = asleep_for time line.job

-- how long the next line sleeps from the moment of the thread's turn on, where it does and no Shutdown came
abbrev pub sleeps_for : Thread → Links → Option ℕ
sleeps_for t links = cond links.shut None (line_sleeps_for t.time (next_line t.setup.now t.me t.part))
