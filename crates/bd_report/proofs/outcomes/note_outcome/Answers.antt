use Rattle.std.proofs.Common.{ap, sym, ◌∙◌, nat_eq, if◌then◌else◌, None, ◌==◌}
use Rattle.std.specs.HashMap.{get}
use Rattle.bd_report.specs.First.{first_of}
use Rattle.bd_report.specs.Index.{same_pair}
use Rattle.bd_report.specs.Report.{outcome_in_act}
use Rattle.bd_report.proofs.IndexLemmas.{if_both}
use Rattle.bd_report.proofs.outcomes.note_outcome.Goals as goal

pub returns-in_ok-put_first : goal.returns-in_ok-put_first
returns-in_ok-put_first c thread number =
    c.in_ok-put_first.ensures (thread, number) ∙
    ap (first_of (get same_pair c.args.outcomes.now (thread, number)))
    (if_both (nat_eq c.args.entry.now.thread thread) (nat_eq c.in-Script.line number) c.in-Script.outcome ∙
    ap (λ act. if c.args.entry.now.thread == thread then outcome_in_act number act else None) (sym c.in-Script.is))
