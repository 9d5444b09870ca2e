use Rattle.std.proofs.Common.{◌≡◌, ◌+◌, drop, map, ap, sym, subst, ◌∙◌, List}
use Rattle.std.specs.Prelude.{Ok, Err, vec_len}
use Rattle.serde_json.specs.Data.{Data}
use Rattle.serde_json.specs.View.{view}
use Rattle.bd_config.specs.Shape.{calls_in, calls_or_empty, calls_of}
use Rattle.bd_config.specs.Config.{commands_from}
use Rattle.bd_config.proofs.CommandLemmas.{reads_first, refuses_first, none_left}
use Rattle.bd_config.proofs.ShapeLemmas.{calls_from_next}
use Rattle.bd_config.proofs.config.read_subsystems.Goals as goal

pub loop-subsystem-preserved : goal.loop-subsystem-preserved
loop-subsystem-preserved c =
    let before = c.loop-subsystem.commands.items in
    let calls = calls_or_empty (calls_in (view c.subsystem-item.result)) in
    let more = calls_of (map view (drop (c.loop-subsystem.subsystem-index + 1) c.args.subsystems.now)) in
    let P : List Data → Type 0 = λ calls. commands_from before calls ≡ Ok c.read_calls.new.commands.items in
    let next = calls_from_next c.args.subsystems.now c.loop-subsystem.subsystem-index c.subsystem-item.result c.loop-subsystem-test.true c.subsystem-item.is in
    let read = subst P c.calls_or_empty.ensures (c.read_calls.ensures.all (c.in_ok-refused.was ∙ ap Ok (none_left c.in_ok-refused.refused (sym c.if-is_some.ensures)))) in
    record {
      left = sym (reads_first before calls more _ read) ∙ ap (commands_from before) (sym next) ∙ c.loop-subsystem.invariant.left;
      openable = λ were. c.read_calls.ensures.openable (c.loop-subsystem.invariant.openable were);
    }

pub returns-then-is_some-clause-refused : goal.returns-then-is_some-clause-refused
returns-then-is_some-clause-refused c = λ code e.
    let before = c.loop-subsystem.commands.items in
    let calls = calls_or_empty (calls_in (view c.subsystem-item.result)) in
    let more = calls_of (map view (drop (c.loop-subsystem.subsystem-index + 1) c.args.subsystems.now)) in
    let P : List Data → Type 0 = λ calls. commands_from before calls ≡ Err (vec_len c.read_calls.new.commands, code) in
    let next = calls_from_next c.args.subsystems.now c.loop-subsystem.subsystem-index c.subsystem-item.result c.loop-subsystem-test.true c.subsystem-item.is in
    let refused = subst P c.calls_or_empty.ensures (c.read_calls.ensures.refused code (c.in_ok-refused.was ∙ e)) in
    sym c.loop-subsystem.invariant.left ∙ ap (commands_from before) next ∙ refuses_first before calls more _ refused
