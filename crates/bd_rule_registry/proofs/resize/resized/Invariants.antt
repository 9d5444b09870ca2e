use Rattle.std.proofs.Common.{◌≡◌, ◌++◌, drop, filter, map}
use Rattle.bd_machine.specs.Registry.{is_resized, opener_of}
use Rattle.bd_rule_registry.proofs.resize.resized.Given as goal

abbrev pub invariant-loop-h : goal.invariant-loop-h
invariant-loop-h l = l.openers ++ map opener_of (filter (is_resized l.setup l.dev) (drop l.h-index l.handles)) ≡ map opener_of (filter (is_resized l.setup l.dev) l.handles)
