use Rattle.std.proofs.Common.{◌≡◌, ◌+◌, List, ◌∷◌, drop, sym, ◌∙◌, ap, arith}
use Rattle.std.proofs.lemmas.List.{drop_more}
use Rattle.std.proofs.lemmas.Option.{get_or_from_slice_get}
use Rattle.bd_machine.specs.declared.state.Open.{Open}
use Rattle.bd_steps.proofs.Overs.{over_nothing, over_on}
use Rattle.bd_steps.proofs.stopping.add_open.Goals as goal

pub returns-then-not-any_waits : goal.returns-then-not-any_waits
returns-then-not-any_waits c = over_nothing c.args.setup.now c.args.dev c.args.requests.now c.args.ids.now (sym c.any_waits.ensures ∙ c.if-not-any_waits.true)

pub loop-place-preserved : goal.loop-place-preserved
loop-place-preserved c =
    let os = c.args.requests.now in
    let i = c.loop-place.place in
    let o = c.in-Some.open.now in
    let first : drop i os ≡ o ∷ drop (i + 1) os =
    drop_more os i o (omega (arith, c.loop-place-test.true, c.len-place-end.ensures)) ∙ ap (λ (x : Open). let xs : List Open = x ∷ drop (i + 1) os in xs) (get_or_from_slice_get os i o o (sym c.in-Some.ensures)) in
    over_on c.args.setup.now c.args.dev o (drop i os) (drop (i + 1) os) c.loop-place.ids c.add_if_over.new.ids _ first c.in_ok-add_if_over.ensures c.loop-place.invariant
