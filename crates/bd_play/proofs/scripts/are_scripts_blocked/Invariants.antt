use Rattle.std.proofs.Common.{◌≡◌, ◌-◌, length}
use Rattle.std.specs.List.{list_all, range_with_len}
use Rattle.bd_machine.specs.Asked.{is_script_blocked}
use Rattle.bd_machine.specs.Rest.{are_scripts_blocked}
use Rattle.bd_machine.specs.View.{view}
use Rattle.bd_play.proofs.scripts.are_scripts_blocked.Given as goal

abbrev pub invariant-loop-t : goal.invariant-loop-t
invariant-loop-t l = record {
  count : l.threads ≡ length l.state.parts;
  left : list_all (λ t. is_script_blocked l.setup t (view l.state t)) (range_with_len l.t (l.threads - l.t)) ≡ are_scripts_blocked l.setup l.state;
}
