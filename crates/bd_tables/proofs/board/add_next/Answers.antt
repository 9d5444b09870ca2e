use Rattle.std.proofs.Common.{List, sym, subst, arith}
use Rattle.bd_tables.specs.Lines.{Line, AreLines}
use Rattle.bd_tables.proofs.Index.{lines_add}
use Rattle.bd_tables.proofs.board.add_next.Goals as goal

pub returns-in_err-push : goal.returns-in_err-push
returns-in_err-push c = subst (λ (ls : List Line). AreLines c.args.shelf.now.rows ls c.args.limit) (sym c.in_err-push.ensures.err) c.requires.lines

pub returns : goal.returns
returns c =
    lines_add c.args.shelf.now.rows c.args.lines.now c.push.new.self c.args.limit c.args.dev.0 c.in_ok-line.line c.requires.lines
    (omega arith) (omega (arith, c.requires.few)) c.in_ok-line.ensures.0 c.in_ok-line.ensures.1 c.in_ok-push.ensures.ok
