use Rattle.std.proofs.Common.{ap, ◌∙◌, false, get_or, length, arith}
use Rattle.std.proofs.lemmas.List.{length_push}
use Rattle.bd_report.proofs.SuccessLemmas.{default_push}
use Rattle.bd_report.proofs.successes.lengthen.Goals as goal

pub loop-more-preserved : goal.loop-more-preserved
loop-more-preserved c =
    let row = c.loop-more.row in
    record {
      same = λ k.
          ap (λ r. get_or r k false) c.in_ok-push.ensures.ok ∙ default_push row false k ∙ c.loop-more.invariant.same k;
      long = omega (arith, ap length c.in_ok-push.ensures.ok, length_push row false, c.loop-more.invariant.long);
    }
