use Rattle.std.proofs.Common.{◌≡◌, ◌+◌, ◌≤◌, drop}
use Rattle.bd_law_logs.specs.Journals.{registry_by, IsReplay}
use Rattle.bd_seat.proofs.replica.follow.Given as goal

-- the rows that are left are a replay, and leave what all of them leave
abbrev pub invariant-loop-row : goal.invariant-loop-row
invariant-loop-row l = record {
  setup : l.replica.setup ≡ l.initial.replica.setup;
  replay : IsReplay l.initial.replica.setup l.replica.state (drop l.row-index l.rows);
  leaves : registry_by l.initial.replica.setup l.replica.state (drop l.row-index l.rows) ≡ registry_by l.initial.replica.setup l.initial.replica.state l.rows;
  last : l.replica.last ≤ l.initial.replica.last + l.row-index;
}
