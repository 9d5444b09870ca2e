use Rattle.std.proofs.Common.{sym, ◌∙◌, ap}
use Rattle.bd_touched.specs.Reach.{Touches}
use Rattle.bd_touched.proofs.Adding.{named_step}
use Rattle.bd_touched.proofs.touched.Touched.name_all.Goals as goal

pub loop-place-preserved : goal.loop-place-preserved
loop-place-preserved c = record {
  named = named_step c.args.requests.now c.loop-place.place c.in-Some.open.now c.loop-place.self c.name_one.new.self (sym c.in-Some.ensures) c.in_ok-name_one.ensures c.loop-place.invariant.named;
  holds = ap (λ (t : Touches). t.holds) c.in_ok-name_one.ensures ∙ c.loop-place.invariant.holds;
}
