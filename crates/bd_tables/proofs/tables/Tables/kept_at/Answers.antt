use Rattle.std.proofs.Common.{ap, sym, ◌∙◌, below_more}
use Rattle.bd_tables.specs.Firsts.{at}
use Rattle.bd_tables.specs.Rows.{Rows, keeps}
use Rattle.bd_tables.proofs.tables.Tables.kept_at.Goals as goal

pub loop-i-preserved : goal.loop-i-preserved
loop-i-preserved c =
    below_more _ _ c.loop-i.invariant
    (ap (λ (t : Rows). keeps c.args.id (at t.rows c.loop-i.i)) (sym c.self.view_is) ∙ ap (keeps c.args.id) (sym c.at.ensures) ∙ sym c.if-keeps.ensures)
