use Rattle.std.proofs.Common.{◌≡◌, drop}
use Rattle.bd_rule_lines.specs.Known.{is_smaller}
use Rattle.bd_rule_lines.proofs.known.is_smaller.Given as goal

abbrev pub invariant-loop-row : goal.invariant-loop-row
invariant-loop-row l = is_smaller (drop l.row-index l.sizes) l.handle l.blocks ≡ is_smaller l.sizes l.handle l.blocks
