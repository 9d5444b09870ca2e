use Rattle.std.proofs.Common.{ℕ, List, ◌++◌, ◌+◌, take, drop, ◌∙◌, ap}
use Rattle.std.proofs.lemmas.Result.{on_ok_weaker}
use Rattle.bd_blocks.proofs.Filled.{filled_same}
use Rattle.bd_blocks.proofs.store.write_blocks.Goals as goal

pub returns-clause-ok : goal.returns-clause-ok
returns-clause-ok c =
    let now : List (List ℕ) = c.args.blocks.now in
    let among : List (List ℕ) → List (List ℕ) = λ bs. take c.args.first now ++ bs ++ drop (c.args.first + c.args.count) now in
    on_ok_weaker c.fill.result
    (λ put. put ∙ ap among (filled_same c.args.fill c.args.number (take c.args.count (drop c.args.first now))))
    c.fill.ensures.ok
