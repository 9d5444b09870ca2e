use Rattle.std.proofs.Common.{◌≡◌, ℕ, ◌<◌, [], length, get_or}
use Rattle.bd_rule_channels.proofs.channels.Channels.new.Given as goal

abbrev pub invariant-loop-device : goal.invariant-loop-device
invariant-loop-device l = record {
  some : 0 < length l.rows;
  empty : (n : ℕ) → get_or l.rows n [] ≡ [];
}
