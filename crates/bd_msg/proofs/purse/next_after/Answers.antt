use Rattle.std.proofs.Common.{ℕ, ◌++◌, ◌∷◌, [], Option, IfSome, subst, sym, arith}
use Rattle.bd_msg.specs.Purse.{RiseBelow}
use Rattle.bd_msg.proofs.Rising.{more}
use Rattle.bd_msg.proofs.purse.next_after.Goals as goal

pub returns : goal.returns
returns c = λ ids h.
    let rising : RiseBelow ids c.in_ok-least.least = subst (λ (n : Option ℕ). IfSome n (RiseBelow ids)) c.in_ok-least.was h in
    subst (RiseBelow (ids ++ c.args.id ∷ [])) (sym c.in_ok-after.ensures.1) (more c.in_ok-least.least ids c.args.id rising (omega (arith, c.if-id-least.false)))
