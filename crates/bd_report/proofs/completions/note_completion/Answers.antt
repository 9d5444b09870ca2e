use Rattle.std.proofs.Common.{ap, sym, ◌∙◌}
use Rattle.std.specs.HashMap.{get}
use Rattle.bd_report.specs.First.{first_of}
use Rattle.bd_report.specs.Index.{same_pair, key_of}
use Rattle.bd_report.specs.Report.{completion_in_act}
use Rattle.bd_report.proofs.completions.note_completion.Goals as goal

pub returns-in_ok-put_first : goal.returns-in_ok-put_first
returns-in_ok-put_first c request =
    c.in_ok-put_first.ensures (key_of request) ∙
    ap (λ act. first_of (get same_pair c.args.completions.now (key_of request)) (completion_in_act request act)) (sym c.in-Complete.is)
