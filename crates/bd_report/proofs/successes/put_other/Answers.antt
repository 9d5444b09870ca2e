use Rattle.std.proofs.Common.{◌∙◌}
use Rattle.std.specs.HashSet.{contains}
use Rattle.bd_report.specs.Index.{same_pair, key_of}
use Rattle.bd_report.specs.Traffic.{same_request}
use Rattle.bd_report.proofs.IndexLemmas.{joined}
use Rattle.bd_report.proofs.successes.put_other.Goals as goal

pub returns-clause-told : goal.returns-clause-told
returns-clause-told c request =
    c.in-Ok.ensures.updates.0 (key_of request) ∙
    joined (same_request c.args.req request) (contains same_pair c.args.others.now (key_of request))
