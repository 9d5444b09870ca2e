use Rattle.std.proofs.Common.{◌≡◌, true, ◌||◌}
use Rattle.std.specs.List.{AllByRecursion, list_any}
use Rattle.bd_machine.specs.declared.state.Open.{Open}
use Rattle.bd_machine.specs.BlockMap.{below}
use Rattle.bd_machine.specs.Walks.{is_kept_waiting}
use Rattle.bd_touched.specs.Reach.{is_touched, Covers}
use Rattle.bd_touched.proofs.touched.Touched.add_along.Given as goal

-- where those that have one of the devices left below are to be looked at, so are those that have one of all
abbrev pub invariant-loop-lower : goal.invariant-loop-lower
invariant-loop-lower l = record {
  covers : Covers l.fn.self l.self;
  holds : l.self.holds ≡ l.fn.self.holds;
  left : AllByRecursion (λ (o : Open). list_any (λ d. is_kept_waiting l.setup d o) (below l.setup l.fn.dev) ≡ true → is_touched l.self o.id || list_any (λ d. is_kept_waiting l.setup d o) l.lower-iterator ≡ true) l.requests;
}
