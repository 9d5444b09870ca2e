use Rattle.std.proofs.Common.{ℕ, ◌++◌, ◌∷◌, [], Option, IfSome, subst, sym}
use Rattle.bd_machine.specs.Opens.{IsRegular}
use Rattle.bd_machine.proofs.Opens.{more_regular}
use Rattle.bd_machine.proofs.open_list.next_after.Goals as goal

pub returns : goal.returns
returns c = λ os h.
    let old = c.args.counts.now.items in
    let new = c.count_both.new.counts.items in
    let was = c.args.handles.now in
    let now = c.count_both.new.handles in
    let regular : IsRegular os old was c.in_ok-least.least = subst (λ (n : Option ℕ). IfSome n (IsRegular os old was)) c.in_ok-least.was h in
    let both = c.if-not-count_both.false in
    subst (IsRegular (os ++ c.args.request ∷ []) new now) (sym c.in_ok-after.ensures.1)
    (more_regular os old new was now c.in_ok-least.least c.args.request regular c.if-request-least.false (c.count_both.ensures.more both) c.count_both.ensures.len (c.count_both.ensures.handles both))
