use Rattle.std.proofs.Common.{◌≡◌, ◌<◌, ◌+◌, ◌++◌, ◌∷◌, [], List, length, take, sym, ◌∙◌, ap, subst, arith}
use Rattle.std.proofs.lemmas.List.{take_more, take_all, length-take}
use Rattle.bd_tables.specs.declared.row.Row.{Row}
use Rattle.bd_tables.specs.Lines.{Line, IsExact}
use Rattle.bd_tables.proofs.Lines.{come_exact, blank_exact, exact_fits}
use Rattle.bd_tables.proofs.board.line_of.Goals as goal

pub loop-i-init : goal.loop-i-init
loop-i-init c = (
  blank_exact c.args.dev c.reserve.new.self (c.reserve.ensures.waiting ∙ c.new-line.ensures.waiting) (c.reserve.ensures.counts ∙ c.new-line.ensures.counts),
  c.in_ok-reserve.ensures.ok,
)

pub come-requires : goal.come-requires
come-requires c =
    let rows = c.args.shelf.now.rows in
    let less : c.loop-i.i < length rows = omega (arith, c.loop-i-test.true, c.loop-i.auto.i-end, c.len-i-end.ensures) in
    exact_fits c.args.dev (take c.loop-i.i rows) c.loop-i.line c.args.limit c.loop-i.invariant.0 (omega (arith, less, length-take c.loop-i.i rows, c.requires)) c.loop-i.invariant.1 (omega arith)

pub loop-i-preserved : goal.loop-i-preserved
loop-i-preserved c =
    let rows = c.args.shelf.now.rows in
    let less : c.loop-i.i < length rows = omega (arith, c.loop-i-test.true, c.loop-i.auto.i-end, c.len-i-end.ensures) in
    let next : take (c.loop-i.i + 1) rows ≡ take c.loop-i.i rows ++ c.at-row.result ∷ [] =
    take_more rows c.loop-i.i _ less ∙ ap (λ (r : Row). take c.loop-i.i rows ++ r ∷ []) (sym c.at-row.ensures) in (
      subst (λ (rs : List Row). IsExact c.args.dev rs c.come.new.self) (sym next)
          (subst (λ (l : Line). IsExact c.args.dev (take c.loop-i.i rows ++ c.at-row.result ∷ []) l) (sym c.come.ensures)
          (come_exact c.args.dev (take c.loop-i.i rows) c.at-row.result c.loop-i.line c.loop-i.invariant.0)),
      omega (arith, ap (λ (l : Line). l.capacity) c.come.ensures, c.loop-i.invariant.1),
    )

pub returns : goal.returns
returns c =
    let rows = c.args.shelf.now.rows in (
      subst (λ (rs : List Row). IsExact c.args.dev rs c.loop-i.line) (take_all c.loop-i.i rows (omega (arith, c.loop-i-test.false, c.loop-i.auto.i-end, c.len-i-end.ensures))) c.loop-i.invariant.0,
      c.loop-i.invariant.1,
    )
