use Rattle.std.proofs.Common.{ap, ◌∙◌, false, ◌||◌, get_or, eqb, arith}
use Rattle.bd_report.proofs.SuccessLemmas.{marked}
use Rattle.bd_report.proofs.successes.mark.Goals as goal

pub returns : goal.returns
returns c k =
    let row = c.lengthen.new.row in
    ap (λ r. get_or r k false) c.set.ensures ∙
    marked row c.args.at k (omega (arith, c.in-Ok.ensures.long)) ∙
    ap (λ b. b || eqb c.args.at k) (c.lengthen.ensures.same k)
