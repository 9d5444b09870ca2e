use Rattle.std.proofs.Common.{sym, ap, ◌∙◌, false, ◌||◌, ◌&&◌, [], get_or}
use Rattle.std.specs.HashSet.{contains}
use Rattle.bd_base.specs.declared.request.Status.TheVariants.{Success}
use Rattle.bd_report.specs.Counts.{is_status}
use Rattle.bd_report.specs.Index.{same_pair, key_of, has_noted}
use Rattle.bd_report.specs.Traffic.{same_request}
use Rattle.bd_report.proofs.SuccessLemmas.{noted_other}
use Rattle.bd_report.proofs.successes.put_success.Goals as goal

pub returns-then-not-mark-clause-told : goal.returns-then-not-mark-clause-told
returns-then-not-mark-clause-told c request =
    let old = has_noted c.args.successes.now request in
    let same = same_request c.args.req request in
    let mid = c.mark.new.self in
    noted_other (get_or (get_or mid.by_number request.thread []) request.seq false) (contains same_pair mid.others (key_of request)) _ same old
    (c.put_other.ensures.told request)
    (c.mark.ensures.told request ∙ ap (λ r. old || (r && same)) c.if-not-mark.true) ∙
    ap (λ status. old || (is_status Success status && same)) (sym c.in-Success.is)

pub returns-else-not-mark-clause-told : goal.returns-else-not-mark-clause-told
returns-else-not-mark-clause-told c request =
    let old = has_noted c.args.successes.now request in
    let same = same_request c.args.req request in
    c.mark.ensures.told request ∙ ap (λ r. old || (r && same)) c.if-not-mark.false ∙
    ap (λ status. old || (is_status Success status && same)) (sym c.in-Success.is)
