use Rattle.std.proofs.Common.{◌≡◌, suc, ◌+◌, List, ◌∷◌, ◌++◌, map, length, vec_len, ap, sym, ◌∙◌, arith}
use Rattle.std.proofs.lemmas.Iterator.Adapters.{YieldsList-from_vec}
use Rattle.std.proofs.lemmas.Iterator.Consumers.{YieldsList-turn, YieldsList-end}
use Rattle.std.proofs.lemmas.List.{length-map, map-id}
use Rattle.bd_ring.specs.Slots.{Holder, Ending}
use Rattle.bd_ring.proofs.Holders.{first_is, later_is, rows_at}
use Rattle.bd_ring.proofs.slot.Slot.settle.Goals as goal

pub close-settling-requires-clause-slot : goal.close-settling-requires-clause-slot
close-settling-requires-clause-slot g c = (first_is _ _ _ _ c.requires c.first_and_rest-first.ensures).0

pub close-settling-requires-clause-first : goal.close-settling-requires-clause-first
close-settling-requires-clause-first g c = (first_is _ _ _ _ c.requires c.first_and_rest-first.ensures).1

pub close-settling-requires-clause-free : goal.close-settling-requires-clause-free
close-settling-requires-clause-free g c = (first_is _ _ _ _ c.requires c.first_and_rest-first.ensures).2

pub absorb-requires-clause-slot : goal.absorb-requires-clause-slot
absorb-requires-clause-slot g c =
    let rest = c.first_and_rest-first.result.1 in
    let gives = c.into_iter-other-iterator.ensures.into_iter_gives in
    let turn = YieldsList-turn (YieldsList-from_vec rest.items gives.0 (gives.1 ∙ rest.ok.0)) c.loop-other.yielded c.loop-other.other-iterator c.loop-other.yielded_by c.next.result c.next.new.self c.in-Some.other c.in-Some.is c.next.ensures.steps in
    let is = later_is _ _ _ _ c.requires c.first_and_rest-first.ensures _ c.in-Some.other turn in
    is.0 ∙ sym (ap (λ (e : Ending). e.slot) c.loop-other.invariant.settling ∙ ap (λ (e : Ending). e.slot) c.close-settling.ensures)

pub absorb-requires-clause-next : goal.absorb-requires-clause-next
absorb-requires-clause-next g c =
    let rest = c.first_and_rest-first.result.1 in
    let gives = c.into_iter-other-iterator.ensures.into_iter_gives in
    let turn = YieldsList-turn (YieldsList-from_vec rest.items gives.0 (gives.1 ∙ rest.ok.0)) c.loop-other.yielded c.loop-other.other-iterator c.loop-other.yielded_by c.next.result c.next.new.self c.in-Some.other c.in-Some.is c.next.ensures.steps in
    let is = later_is _ _ _ _ c.requires c.first_and_rest-first.ensures _ c.in-Some.other turn in
    let n : length c.loop-other.settling.wrote ≡ length c.loop-other.yielded + 1 =
    ap (λ (e : Ending). length e.wrote) c.loop-other.invariant.settling ∙ ap (λ (e : Ending). length (e.wrote ++ map (λ (p : Holder). p.wrote) c.loop-other.yielded)) c.close-settling.ensures
    ∙ ap (λ k. suc k) (length-map c.loop-other.yielded (λ q. q.wrote)) ∙ omega arith in
    is.1 ∙ sym n

pub absorb-requires-clause-free : goal.absorb-requires-clause-free
absorb-requires-clause-free g c =
    let rest = c.first_and_rest-first.result.1 in
    let gives = c.into_iter-other-iterator.ensures.into_iter_gives in
    let turn = YieldsList-turn (YieldsList-from_vec rest.items gives.0 (gives.1 ∙ rest.ok.0)) c.loop-other.yielded c.loop-other.other-iterator c.loop-other.yielded_by c.next.result c.next.new.self c.in-Some.other c.in-Some.is c.next.ensures.steps in
    let is = later_is _ _ _ _ c.requires c.first_and_rest-first.ensures _ c.in-Some.other turn in
    is.2

pub finish-requires : goal.finish-requires
finish-requires g c =
    let rest = c.first_and_rest-first.result.1 in
    let gives = c.into_iter-other-iterator.ensures.into_iter_gives in
    let end = YieldsList-end (YieldsList-from_vec rest.items gives.0 (gives.1 ∙ rest.ok.0)) c.loop-other.yielded c.loop-other.other-iterator c.loop-other.yielded_by c.next.result c.next.new.self c.in-None.is c.next.ensures.steps in
    let whole : c.loop-other.yielded ≡ rest.items = sym (map-id c.loop-other.yielded) ∙ end.0 in
    let wrote : c.loop-other.settling.wrote ≡ c.first_and_rest-first.result.0.wrote ∷ map (λ (p : Holder). p.wrote) rest.items =
    ap (λ (e : Ending). e.wrote) c.loop-other.invariant.settling ∙ ap (λ (e : Ending). e.wrote ++ map (λ (p : Holder). p.wrote) c.loop-other.yielded) c.close-settling.ensures
    ∙ ap (λ (ps : List Holder). c.first_and_rest-first.result.0.wrote ∷ map (λ (p : Holder). p.wrote) ps) whole in
    let passes : c.loop-other.settling.passes ≡ length rest.items + 1 =
    ap (λ (e : Ending). e.passes) c.loop-other.invariant.settling ∙ ap (λ (e : Ending). e.passes) c.close-settling.ensures ∙ (first_is _ _ _ _ c.requires c.first_and_rest-first.ensures).3 in
    ap length wrote ∙ ap (λ k. suc k) (length-map rest.items (λ q. q.wrote)) ∙ omega arith ∙ sym passes

pub returns-clause-rows : goal.returns-clause-rows
returns-clause-rows g c =
    let rest = c.first_and_rest-first.result.1 in
    let gives = c.into_iter-other-iterator.ensures.into_iter_gives in
    let end = YieldsList-end (YieldsList-from_vec rest.items gives.0 (gives.1 ∙ rest.ok.0)) c.loop-other.yielded c.loop-other.other-iterator c.loop-other.yielded_by c.next.result c.next.new.self c.in-None.is c.next.ensures.steps in
    let whole : c.loop-other.yielded ≡ rest.items = sym (map-id c.loop-other.yielded) ∙ end.0 in
    let wrote : c.loop-other.settling.wrote ≡ c.first_and_rest-first.result.0.wrote ∷ map (λ (p : Holder). p.wrote) rest.items =
    ap (λ (e : Ending). e.wrote) c.loop-other.invariant.settling ∙ ap (λ (e : Ending). e.wrote ++ map (λ (p : Holder). p.wrote) c.loop-other.yielded) c.close-settling.ensures
    ∙ ap (λ (ps : List Holder). c.first_and_rest-first.result.0.wrote ∷ map (λ (p : Holder). p.wrote) ps) whole in
    rows_at _ _ _ _ _ c.first_and_rest-first.ensures wrote c.finish.ensures.rows

pub returns-clause-others : goal.returns-clause-others
returns-clause-others g c =
    let rest = c.first_and_rest-first.result.1 in
    let gives = c.into_iter-other-iterator.ensures.into_iter_gives in
    let end = YieldsList-end (YieldsList-from_vec rest.items gives.0 (gives.1 ∙ rest.ok.0)) c.loop-other.yielded c.loop-other.other-iterator c.loop-other.yielded_by c.next.result c.next.new.self c.in-None.is c.next.ensures.steps in
    let whole : c.loop-other.yielded ≡ rest.items = sym (map-id c.loop-other.yielded) ∙ end.0 in
    let wrote : c.loop-other.settling.wrote ≡ c.first_and_rest-first.result.0.wrote ∷ map (λ (p : Holder). p.wrote) rest.items =
    ap (λ (e : Ending). e.wrote) c.loop-other.invariant.settling ∙ ap (λ (e : Ending). e.wrote ++ map (λ (p : Holder). p.wrote) c.loop-other.yielded) c.close-settling.ensures
    ∙ ap (λ (ps : List Holder). c.first_and_rest-first.result.0.wrote ∷ map (λ (p : Holder). p.wrote) ps) whole in
    let all : vec_len c.args.passes ≡ length rest.items + 1 = c.args.passes.ok.0 ∙ ap length c.first_and_rest-first.ensures ∙ omega arith in
    let n : length c.loop-other.settling.wrote ≡ length rest.items + 1 = ap length wrote ∙ ap (λ k. suc k) (length-map rest.items (λ q. q.wrote)) ∙ omega arith in
    λ k le. c.finish.ensures.others k (omega arith)
