use Rattle.std.proofs.Common.{◌≡◌, true, sym, ap, subst}
use Rattle.bd_touched.specs.Reach.{is_touched, Touches}
use Rattle.bd_touched.proofs.Holding.{begun_keeps}
use Rattle.bd_touched.proofs.touched.Touched.take_hold.Goals as goal

pub returns-in_ok-insert_hold-clause-covers : goal.returns-in_ok-insert_hold-clause-covers
returns-in_ok-insert_hold-clause-covers c = λ req on. subst (λ (t : Touches). is_touched t req ≡ true) (sym c.in_ok-insert_hold.ensures) on

pub returns-in_ok-insert_hold-clause-keeps : goal.returns-in_ok-insert_hold-clause-keeps
returns-in_ok-insert_hold-clause-keeps c = begun_keeps c.args.self.now _ c.in-Hold.req c.in-Hold.until (ap (λ (t : Touches). t.holds) c.in_ok-insert_hold.ensures)
