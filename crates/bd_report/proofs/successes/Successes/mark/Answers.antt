use Rattle.std.proofs.Common.{ap, ◌∙◌, false, ◌<◌, ◌||◌, ◌&&◌, [], length, get_or, eqb, arith}
use Rattle.std.proofs.lemmas.List.{get_or_read}
use Rattle.std.specs.HashSet.{contains}
use Rattle.bd_report.specs.Index.{same_pair, key_of}
use Rattle.bd_report.proofs.SuccessLemmas.{row_marked}
use Rattle.bd_report.proofs.successes.Successes.mark.Goals as goal

pub returns-clause-told : goal.returns-clause-told
returns-clause-told c request =
    let s = c.args.self.now in
    let at = c.args.req.thread in
    let row = c.at_mut.result.now in
    let low : at < length s.by_number = omega arith in
    row_marked s.by_number c.mark.new.row at c.args.req.seq c.mark.result low
    (λ k. c.mark.ensures k ∙ ap (λ r. get_or r k false || (c.mark.result && eqb c.args.req.seq k)) (get_or_read s.by_number at row low c.at_mut.ensures.value []))
    request.thread request.seq (contains same_pair s.others (key_of request))
