-- What contracts see of the latencies of one delay device on one thread.
use Rattle.std.specs.Prelude.{◌%◌}
use Rattle.bd_base.specs.declared.device.Kind.{Kind}
use Rattle.bd_machine.specs.declared.state.Delayed.{Delayed}

-- the device's kind with its latencies (microseconds), and its reads and writes so far, each counted modulo 100
pub record Channel : Type 0 where
  pub kind : Kind
  pub counted : Delayed

-- counts modulo 100, which is all that a latency looks at
abbrev pub in_hundred : Delayed → Delayed
in_hundred c = record { reads = c.reads % 100; writes = c.writes % 100 }
