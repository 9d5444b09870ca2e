use Rattle.std.proofs.Common.{◌≡◌, ap, sym, ◌∙◌, ◌||◌, ◌&&◌, not, nat_eq, false}
use Rattle.std.specs.HashSet.{contains}
use Rattle.bd_report.specs.Index.{same_pair}
use Rattle.bd_report.proofs.IndexLemmas.{joined}
use Rattle.bd_report.proofs.told.put_told.Goals as goal

pub returns-in_ok-insert : goal.returns-in_ok-insert
returns-in_ok-insert c thread number =
    let same = same_pair (c.args.at, c.args.gone) (thread, number) in
    let had = contains same_pair c.args.told.now (thread, number) in
    let open_still : contains nat_eq c.args.closed.now c.args.gone ≡ false = cc in
    c.in_ok-insert.ensures.updates.0 (thread, number) ∙
    joined same had ∙
    ap (λ b. had || (not b && same)) (sym open_still)
