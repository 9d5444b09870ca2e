use Rattle.std.proofs.Common.{◌≡◌, ℕ, Bool, true, false, not, ◌&&◌, unwrap_or, refl, sym, ap, ◌∙◌}
use Rattle.std.specs.List.{list_all}
use Rattle.bd_machine.specs.Completion.{is_back}
use Rattle.bd_machine.specs.Kept.{is_at_own, pieces_here}
use Rattle.bd_machine.specs.Requests.{is_walking}
use Rattle.bd_machine.specs.Walks.{reset_of}
use Rattle.bd_flight.proofs.Completing.{end_is}
use Rattle.bd_flight.proofs.ends.end_due.Goals as goal

all_three : (own back still : Bool) → own ≡ true → back ≡ true → still ≡ false → (own && back && not still) ≡ true
all_three true true false o b s = refl
all_three true true true o b s = cc
all_three true false still o b s = cc
all_three false back still o b s = cc

pub returns : goal.returns
returns g c =
    let v = g.S.Sees.view_of c.args.seen.now in
    let own : is_at_own c.args.me c.args.req c.args.r ≡ true = cc in
    let back : list_all is_back (pieces_here v c.args.req (unwrap_or c.args.r.pieces 0)) ≡ true =
    ap (λ (n : ℕ). list_all is_back (pieces_here v c.args.req n)) (sym c.unwrap_or.ensures) ∙ c.in-Some.ensures.back in
    let still : is_walking (reset_of v.part c.args.req) ≡ false = sym c.is_walked.ensures ∙ c.if-is_walked.false in
    end_is c.args.setup.now c.args.me v c.args.req c.args.r c.status_now.result (all_three _ _ _ own back still) c.status_now.ensures.some c.status_now.ensures.none
