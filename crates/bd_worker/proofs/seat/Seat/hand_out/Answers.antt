use Rattle.std.proofs.Common.{◌≡◌, ℕ, [], ap, subst, ◌∙◌, arith}
use Rattle.std.specs.Prelude.{max}
use Rattle.bd_log.specs.Log.{log_part, IsWithin, Written}
use Rattle.bd_worker.proofs.seat.Seat.hand_out.Goals as goal

pub returns-clause-handed : goal.returns-clause-handed
returns-clause-handed g c = c.hand_out.ensures.handed ∙ ap log_part c.meet.ensures

pub returns-clause-out : goal.returns-clause-out
returns-clause-out g c =
    let old = c.args.self.now in
    let top : max old.worker.log.last c.args.stamp ≡ c.args.stamp = omega (arith, c.requires) in
    let met : c.meet.new.self ≡ record old.worker.log { last = c.args.stamp } = c.meet.ensures ∙ ap (λ (n : ℕ). record old.worker.log { last = n }) top in
    let handed = c.hand_out.new.self in
    record {
      is =
          ap (λ (l : Written). record old { worker = record old.worker { log = l } })
          (c.hand_out.ensures.left ∙ ap (λ (l : Written). record l { entries = []; capacity = handed.capacity }) met);
      within = subst (λ (l : Written). IsWithin l.last l.entries) met c.hand_out.ensures.within;
    }
