use Rattle.std.proofs.Common.{rules, ◌≡◌, ℕ, w32, to_z, of_z, map, List, [], Some, ap, sym, subst, ◌∙◌}
use Rattle.std.specs.Prelude.{Ok, Err, vec_len, All}
use Rattle.std.proofs.lemmas.List.Elements.{All-nil}
use Rattle.serde_json.specs.View.{view}
use Rattle.bd_config.specs.Shape.{calls_of}
use Rattle.bd_config.specs.Commands.{IsOpenable}
use Rattle.bd_config.specs.Config.{commands_from}
use Rattle.bd_config.specs.declared.command.Command.{Command}
use Rattle.bd_config.proofs.CommandLemmas.{reads_answers, refuses_answers}
use Rattle.bd_config.proofs.Exact.{method_code, method_index}
use Rattle.bd_config.proofs.config.read_commands.Goals as goal

pub returns-in-None-clause-ok : goal.returns-in-None-clause-ok
returns-in-None-clause-ok c =
    let calls = calls_of (map view c.args.subsystems.now) in
    let items = c.read_subsystems.new.commands.items in
    let P : List Command → Type 0 = λ before. commands_from before calls ≡ Ok items in
    reads_answers [] calls items (subst P c.new-commands.ensures.items (c.read_subsystems.ensures.all (c.in_ok-read_subsystems.was ∙ ap Ok c.in-None.is)))

pub returns-in-None-clause-openable : goal.returns-in-None-clause-openable
returns-in-None-clause-openable c =
    c.read_subsystems.ensures.openable (subst (All IsOpenable) (sym c.new-commands.ensures.items) (All-nil IsOpenable))

pub returns-in_ok-place_of-in-Some-clause-method :
    goal.returns-in_ok-place_of-in-Some-clause-method
returns-in_ok-place_of-in-Some-clause-method c = λ index code e.
    let calls = calls_of (map view c.args.subsystems.now) in
    let place = vec_len c.read_subsystems.new.commands in
    let P : List Command → Type 0 = λ before. commands_from before calls ≡ Err (place, code) in
    let kept : to_z w32 (of_z w32 c.in-Some.code) ≡ c.in-Some.code = search rules in
    let same_code : c.in-Some.code ≡ code = sym kept ∙ method_code _ _ _ _ e in
    let same_place : place ≡ index = sym (c.in_ok-place_of-in-Some.ensures ∙ c.len.ensures) ∙ method_index _ _ _ _ e in
    let refused : commands_from [] calls ≡ Err (place, code) = subst P c.new-commands.ensures.items (c.read_subsystems.ensures.refused code (c.in_ok-read_subsystems.was ∙ ap Ok (c.in-Some.is ∙ ap Some same_code))) in
    refuses_answers [] calls (index, code) (refused ∙ ap (λ (i : ℕ). Err (i, code)) same_place)
