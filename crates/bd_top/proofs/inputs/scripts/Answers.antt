use Rattle.std.proofs.Common.{◌∙◌, ap, subst, List, ℕ, Err}
use Rattle.bd_jobs.specs.ScriptGrammar.{IsFirstOutside}
use Rattle.bd_top.proofs.inputs.scripts.Goals as goal

pub returns-in-Err-Line-clause-cause : goal.returns-in-Err-Line-clause-cause
returns-in-Err-Line-clause-cause g c =
    let P : List ℕ → Type 0 = λ bytes. IsFirstOutside c.args.threads bytes c.in-Err-Line.line in
    record {
      bytes = c.in-Ok.bytes;
      read = c.in-Ok.ensures.read;
      outside = subst P c.as_slice.ensures (c.read_jobs.ensures.line c.in-Err-Line.line (c.in-Err-Line.is ∙ ap Err c.in-Err-Line.field-0-is));
    }
