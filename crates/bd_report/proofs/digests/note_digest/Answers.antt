use Rattle.std.proofs.Common.{ap, sym, ◌∙◌, nat_eq}
use Rattle.std.specs.HashMap.{get}
use Rattle.bd_report.specs.First.{first_of}
use Rattle.bd_report.specs.Report.{digest_in_act}
use Rattle.bd_report.proofs.digests.note_digest.Goals as goal

pub returns-in_ok-put_digest : goal.returns-in_ok-put_digest
returns-in_ok-put_digest c device =
    c.in_ok-put_digest.ensures device ∙
    ap (λ act. first_of (get nat_eq c.args.digests.now device) (digest_in_act device act)) (sym c.in-Destruct.is)
