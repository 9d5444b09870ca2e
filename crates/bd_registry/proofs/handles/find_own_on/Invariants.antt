use Rattle.std.proofs.Common.{◌≡◌, drop, filter}
use Rattle.bd_machine.specs.Registry.{handle_of, is_on}
use Rattle.bd_machine.specs.View.{is_of}
use Rattle.bd_registry.proofs.handles.find_own_on.Given as goal

abbrev pub invariant-loop-h : goal.invariant-loop-h
invariant-loop-h l = handle_of (filter (is_of l.thread) (filter (is_on l.dev) (drop l.h-index l.handles))) l.id ≡ handle_of (filter (is_of l.thread) (filter (is_on l.dev) l.handles)) l.id
