use Rattle.std.proofs.Common.{◌≡◌, List}
use Rattle.bd_machine.specs.declared.state.Handle.{Handle}
use Rattle.bd_registry.specs.Handles.{Keeps}
use Rattle.bd_registry.proofs.Keeping.{below_number}
use Rattle.bd_registry.proofs.handles.Handles.all.Given as goal

abbrev pub invariant-loop-number : goal.invariant-loop-number
invariant-loop-number l = (hs : List Handle) → Keeps l.self hs → l.all ≡ below_number l.number hs
