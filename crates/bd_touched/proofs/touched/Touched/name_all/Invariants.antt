use Rattle.std.proofs.Common.{◌≡◌, true, take}
use Rattle.std.specs.List.{AllByRecursion, list_any}
use Rattle.bd_machine.specs.declared.state.Open.{Open}
use Rattle.bd_machine.specs.Same.{same_request}
use Rattle.bd_touched.proofs.touched.Touched.name_all.Given as goal

-- those so far are named
abbrev pub invariant-loop-place : goal.invariant-loop-place
invariant-loop-place l = record {
  named : AllByRecursion (λ (o : Open). list_any (λ r. same_request r o.id) l.self.reqs ≡ true) (take l.place l.requests);
  holds : l.self.holds ≡ l.fn.self.holds;
}
