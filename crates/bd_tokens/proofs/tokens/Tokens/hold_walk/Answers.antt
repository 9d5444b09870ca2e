use Rattle.std.proofs.Common.{◌≡◌, true, Bool, List, [], ◌∷◌, cond, sym, ◌∙◌, ap}
use Rattle.bd_machine.specs.declared.state.Id.TheVariants as ids
use Rattle.bd_machine.specs.declared.state.Kept.TheVariants as keeps
use Rattle.bd_machine.specs.Alone.{held_after}
use Rattle.bd_machine.specs.View.{Closed, Here, Move}
use Rattle.bd_machine.specs.Walks.{is_at_end}
use Rattle.bd_tokens.specs.Tokens.{here_in}
use Rattle.bd_tokens.proofs.tokens.Tokens.hold_walk.Goals as goal

pub returns-then-is_at_end-clause-ok : goal.returns-then-is_at_end-clause-ok
returns-then-is_at_end-clause-ok c =
    let ends : is_at_end c.args.thread c.args.id c.args.walk ≡ true = sym c.is_at_end.ensures ∙ c.if-is_at_end.true in
    let moves : Bool → List Move = λ b. record { id = ids.Walk c.args.id; kept = keeps.Walk c.args.walk; going = cond b Closed Here } ∷ [] in
    c.let_go.ensures.gone ∙ sym (ap (λ b. held_after (moves b) (here_in c.args.self.now.items)) ends)
