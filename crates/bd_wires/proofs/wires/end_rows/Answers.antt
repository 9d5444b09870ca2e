use Rattle.std.proofs.Common.{◌≡◌, suc, ◌+◌, List, ◌∷◌, ◌++◌, map, length, refl, ap, sym, ◌∙◌, arith}
use Rattle.std.specs.Prelude.{slice_get}
use Rattle.std.specs.List.{zip}
use Rattle.std.proofs.lemmas.Iterator.{YieldsList-from_zip}
use Rattle.std.proofs.lemmas.Iterator.Adapters.{YieldsList-from_vec}
use Rattle.std.proofs.lemmas.Iterator.Consumers.{YieldsList-at, YieldsList-turn, YieldsList-end}
use Rattle.std.proofs.lemmas.List.{length-map, map-id}
use Rattle.std.proofs.lemmas.Option.{same_Some, slice_get_read}
use Rattle.bd_base.specs.declared.act.Entry.{Entry}
use Rattle.bd_ring.specs.Rings.{Place}
use Rattle.bd_ring.specs.Slots.{Ending}
use Rattle.bd_wires.specs.declared.wires.Passes.{Passes}
use Rattle.bd_wires.proofs.EndRows.{first_row, later_row, same_rest, all_drained, wrote_at, seen_at, ending_next, drained_more}
use Rattle.bd_wires.proofs.Lists.{map-zip_second, zip_parts}
use Rattle.bd_wires.proofs.wires.end_rows.Goals as goal

pub end_ring-requires-clause-take : goal.end_ring-requires-clause-take
end_ring-requires-clause-take g c = (first_row c.args.wires c.args.rows.items c.first_and_rest-first.result.1.items c.first_and_rest-ring.result.1.items c.first_and_rest-ring.result.0 c.first_and_rest-first.result.0 c.requires.rows c.first_and_rest-ring.ensures c.first_and_rest-first.ensures).0.take

pub end_ring-requires-clause-all : goal.end_ring-requires-clause-all
end_ring-requires-clause-all g c = (first_row c.args.wires c.args.rows.items c.first_and_rest-first.result.1.items c.first_and_rest-ring.result.1.items c.first_and_rest-ring.result.0 c.first_and_rest-first.result.0 c.requires.rows c.first_and_rest-ring.ensures c.first_and_rest-first.ensures).0.senders

pub end_ring-requires-clause-each : goal.end_ring-requires-clause-each
end_ring-requires-clause-each g c = (first_row c.args.wires c.args.rows.items c.first_and_rest-first.result.1.items c.first_and_rest-ring.result.1.items c.first_and_rest-ring.result.0 c.first_and_rest-first.result.0 c.requires.rows c.first_and_rest-ring.ensures c.first_and_rest-first.ensures).0.sends

pub close-settling-requires-clause-slot : goal.close-settling-requires-clause-slot
close-settling-requires-clause-slot g c = (first_row c.args.wires c.args.rows.items c.first_and_rest-first.result.1.items c.first_and_rest-ring.result.1.items c.first_and_rest-ring.result.0 c.first_and_rest-first.result.0 c.requires.rows c.first_and_rest-ring.ensures c.first_and_rest-first.ensures).0.slot

pub close-settling-requires-clause-first : goal.close-settling-requires-clause-first
close-settling-requires-clause-first g c = (first_row c.args.wires c.args.rows.items c.first_and_rest-first.result.1.items c.first_and_rest-ring.result.1.items c.first_and_rest-ring.result.0 c.first_and_rest-first.result.0 c.requires.rows c.first_and_rest-ring.ensures c.first_and_rest-first.ensures).0.thread

pub close-settling-requires-clause-free : goal.close-settling-requires-clause-free
close-settling-requires-clause-free g c = (first_row c.args.wires c.args.rows.items c.first_and_rest-first.result.1.items c.first_and_rest-ring.result.1.items c.first_and_rest-ring.result.0 c.first_and_rest-first.result.0 c.requires.rows c.first_and_rest-ring.ensures c.first_and_rest-first.ensures).0.free

pub end_ring-requires-in-loop-ring-clause-take : goal.end_ring-requires-in-loop-ring-clause-take
end_ring-requires-in-loop-ring-clause-take g c =
    let rings = c.first_and_rest-ring.result.1 in
    let rest = c.first_and_rest-first.result.1 in
    let split = c.zip-ring-items.ensures in
    let road = YieldsList-at c.into_iter-ring-iterator.ensures.into_iter_gives (YieldsList-from_zip
    (YieldsList-at split.first (YieldsList-from_vec rings.items c.into_iter.ensures.rest (c.into_iter.ensures.len ∙ rings.ok.0)))
    (YieldsList-from_vec rest.items split.second.0 (split.second.1 ∙ rest.ok.0))) in
    let turn = YieldsList-turn road c.loop-ring.yielded c.loop-ring.ring-iterator c.loop-ring.yielded_by c.next.result c.next.new.self (c.in-Some.ring, c.in-Some.row) c.in-Some.is c.next.ensures.steps in
    let k = length c.loop-ring.yielded in
    let parts = zip_parts rings.items rest.items k (c.in-Some.ring, c.in-Some.row) (slice_get_read (zip rings.items rest.items) (length (zip rings.items rest.items)) k (c.in-Some.ring, c.in-Some.row) refl turn.0 turn.1) in
    let row = later_row c.args.wires c.args.rows.items rest.items rings.items c.first_and_rest-ring.result.0 c.in-Some.ring c.first_and_rest-first.result.0 c.in-Some.row k c.requires.rows c.first_and_rest-ring.ensures c.first_and_rest-first.ensures parts.0 parts.1 in
    row.take

pub end_ring-requires-in-loop-ring-clause-all : goal.end_ring-requires-in-loop-ring-clause-all
end_ring-requires-in-loop-ring-clause-all g c =
    let rings = c.first_and_rest-ring.result.1 in
    let rest = c.first_and_rest-first.result.1 in
    let split = c.zip-ring-items.ensures in
    let road = YieldsList-at c.into_iter-ring-iterator.ensures.into_iter_gives (YieldsList-from_zip
    (YieldsList-at split.first (YieldsList-from_vec rings.items c.into_iter.ensures.rest (c.into_iter.ensures.len ∙ rings.ok.0)))
    (YieldsList-from_vec rest.items split.second.0 (split.second.1 ∙ rest.ok.0))) in
    let turn = YieldsList-turn road c.loop-ring.yielded c.loop-ring.ring-iterator c.loop-ring.yielded_by c.next.result c.next.new.self (c.in-Some.ring, c.in-Some.row) c.in-Some.is c.next.ensures.steps in
    let k = length c.loop-ring.yielded in
    let parts = zip_parts rings.items rest.items k (c.in-Some.ring, c.in-Some.row) (slice_get_read (zip rings.items rest.items) (length (zip rings.items rest.items)) k (c.in-Some.ring, c.in-Some.row) refl turn.0 turn.1) in
    let row = later_row c.args.wires c.args.rows.items rest.items rings.items c.first_and_rest-ring.result.0 c.in-Some.ring c.first_and_rest-first.result.0 c.in-Some.row k c.requires.rows c.first_and_rest-ring.ensures c.first_and_rest-first.ensures parts.0 parts.1 in
    row.senders

pub end_ring-requires-in-loop-ring-clause-each : goal.end_ring-requires-in-loop-ring-clause-each
end_ring-requires-in-loop-ring-clause-each g c =
    let rings = c.first_and_rest-ring.result.1 in
    let rest = c.first_and_rest-first.result.1 in
    let split = c.zip-ring-items.ensures in
    let road = YieldsList-at c.into_iter-ring-iterator.ensures.into_iter_gives (YieldsList-from_zip
    (YieldsList-at split.first (YieldsList-from_vec rings.items c.into_iter.ensures.rest (c.into_iter.ensures.len ∙ rings.ok.0)))
    (YieldsList-from_vec rest.items split.second.0 (split.second.1 ∙ rest.ok.0))) in
    let turn = YieldsList-turn road c.loop-ring.yielded c.loop-ring.ring-iterator c.loop-ring.yielded_by c.next.result c.next.new.self (c.in-Some.ring, c.in-Some.row) c.in-Some.is c.next.ensures.steps in
    let k = length c.loop-ring.yielded in
    let parts = zip_parts rings.items rest.items k (c.in-Some.ring, c.in-Some.row) (slice_get_read (zip rings.items rest.items) (length (zip rings.items rest.items)) k (c.in-Some.ring, c.in-Some.row) refl turn.0 turn.1) in
    let row = later_row c.args.wires c.args.rows.items rest.items rings.items c.first_and_rest-ring.result.0 c.in-Some.ring c.first_and_rest-first.result.0 c.in-Some.row k c.requires.rows c.first_and_rest-ring.ensures c.first_and_rest-first.ensures parts.0 parts.1 in
    row.sends

pub absorb-requires-clause-slot : goal.absorb-requires-clause-slot
absorb-requires-clause-slot g c =
    let rings = c.first_and_rest-ring.result.1 in
    let rest = c.first_and_rest-first.result.1 in
    let split = c.zip-ring-items.ensures in
    let road = YieldsList-at c.into_iter-ring-iterator.ensures.into_iter_gives (YieldsList-from_zip
    (YieldsList-at split.first (YieldsList-from_vec rings.items c.into_iter.ensures.rest (c.into_iter.ensures.len ∙ rings.ok.0)))
    (YieldsList-from_vec rest.items split.second.0 (split.second.1 ∙ rest.ok.0))) in
    let turn = YieldsList-turn road c.loop-ring.yielded c.loop-ring.ring-iterator c.loop-ring.yielded_by c.next.result c.next.new.self (c.in-Some.ring, c.in-Some.row) c.in-Some.is c.next.ensures.steps in
    let k = length c.loop-ring.yielded in
    let parts = zip_parts rings.items rest.items k (c.in-Some.ring, c.in-Some.row) (slice_get_read (zip rings.items rest.items) (length (zip rings.items rest.items)) k (c.in-Some.ring, c.in-Some.row) refl turn.0 turn.1) in
    let row = later_row c.args.wires c.args.rows.items rest.items rings.items c.first_and_rest-ring.result.0 c.in-Some.ring c.first_and_rest-first.result.0 c.in-Some.row k c.requires.rows c.first_and_rest-ring.ensures c.first_and_rest-first.ensures parts.0 parts.1 in
    row.slot ∙ sym (ap (λ (e : Ending). e.slot) c.loop-ring.invariant.settling ∙ ap (λ (e : Ending). e.slot) c.close-settling.ensures)

pub absorb-requires-clause-next : goal.absorb-requires-clause-next
absorb-requires-clause-next g c =
    let rings = c.first_and_rest-ring.result.1 in
    let rest = c.first_and_rest-first.result.1 in
    let split = c.zip-ring-items.ensures in
    let road = YieldsList-at c.into_iter-ring-iterator.ensures.into_iter_gives (YieldsList-from_zip
    (YieldsList-at split.first (YieldsList-from_vec rings.items c.into_iter.ensures.rest (c.into_iter.ensures.len ∙ rings.ok.0)))
    (YieldsList-from_vec rest.items split.second.0 (split.second.1 ∙ rest.ok.0))) in
    let turn = YieldsList-turn road c.loop-ring.yielded c.loop-ring.ring-iterator c.loop-ring.yielded_by c.next.result c.next.new.self (c.in-Some.ring, c.in-Some.row) c.in-Some.is c.next.ensures.steps in
    let k = length c.loop-ring.yielded in
    let parts = zip_parts rings.items rest.items k (c.in-Some.ring, c.in-Some.row) (slice_get_read (zip rings.items rest.items) (length (zip rings.items rest.items)) k (c.in-Some.ring, c.in-Some.row) refl turn.0 turn.1) in
    let row = later_row c.args.wires c.args.rows.items rest.items rings.items c.first_and_rest-ring.result.0 c.in-Some.ring c.first_and_rest-first.result.0 c.in-Some.row k c.requires.rows c.first_and_rest-ring.ensures c.first_and_rest-first.ensures parts.0 parts.1 in
    let n : length c.loop-ring.settling.wrote ≡ suc k =
    ap (λ (e : Ending). length e.wrote) c.loop-ring.invariant.settling ∙ ap (λ (e : Ending). length (e.wrote ++ map (λ (p : Place × Passes). p.1.slot.wrote) c.loop-ring.yielded)) c.close-settling.ensures
    ∙ ap (λ j. suc j) (length-map c.loop-ring.yielded (λ (p : Place × Passes). p.1.slot.wrote)) in
    row.thread ∙ sym n

pub absorb-requires-clause-free : goal.absorb-requires-clause-free
absorb-requires-clause-free g c =
    let rings = c.first_and_rest-ring.result.1 in
    let rest = c.first_and_rest-first.result.1 in
    let split = c.zip-ring-items.ensures in
    let road = YieldsList-at c.into_iter-ring-iterator.ensures.into_iter_gives (YieldsList-from_zip
    (YieldsList-at split.first (YieldsList-from_vec rings.items c.into_iter.ensures.rest (c.into_iter.ensures.len ∙ rings.ok.0)))
    (YieldsList-from_vec rest.items split.second.0 (split.second.1 ∙ rest.ok.0))) in
    let turn = YieldsList-turn road c.loop-ring.yielded c.loop-ring.ring-iterator c.loop-ring.yielded_by c.next.result c.next.new.self (c.in-Some.ring, c.in-Some.row) c.in-Some.is c.next.ensures.steps in
    let k = length c.loop-ring.yielded in
    let parts = zip_parts rings.items rest.items k (c.in-Some.ring, c.in-Some.row) (slice_get_read (zip rings.items rest.items) (length (zip rings.items rest.items)) k (c.in-Some.ring, c.in-Some.row) refl turn.0 turn.1) in
    let row = later_row c.args.wires c.args.rows.items rest.items rings.items c.first_and_rest-ring.result.0 c.in-Some.ring c.first_and_rest-first.result.0 c.in-Some.row k c.requires.rows c.first_and_rest-ring.ensures c.first_and_rest-first.ensures parts.0 parts.1 in
    row.free

pub loop-ring-preserved : goal.loop-ring-preserved
loop-ring-preserved g c =
    let inv = c.loop-ring.invariant in
    record {
      can = (tt, tt);
      ends = tt;
      settling = ending_next c.close-settling.result c.loop-ring.settling c.absorb.new.self c.loop-ring.yielded (c.in-Some.ring, c.in-Some.row) inv.settling c.absorb.ensures;
      drained = drained_more c.loop-ring.yielded (c.in-Some.ring, c.in-Some.row) inv.drained c.end_ring-in-loop-ring.ensures;
    }

pub finish-requires : goal.finish-requires
finish-requires g c =
    let rings = c.first_and_rest-ring.result.1 in
    let rest = c.first_and_rest-first.result.1 in
    let split = c.zip-ring-items.ensures in
    let road = YieldsList-at c.into_iter-ring-iterator.ensures.into_iter_gives (YieldsList-from_zip
    (YieldsList-at split.first (YieldsList-from_vec rings.items c.into_iter.ensures.rest (c.into_iter.ensures.len ∙ rings.ok.0)))
    (YieldsList-from_vec rest.items split.second.0 (split.second.1 ∙ rest.ok.0))) in
    let end = YieldsList-end road c.loop-ring.yielded c.loop-ring.ring-iterator c.loop-ring.yielded_by c.next.result c.next.new.self c.in-None.is c.next.ensures.steps in
    let whole : c.loop-ring.yielded ≡ zip rings.items rest.items = sym (map-id c.loop-ring.yielded) ∙ end.0 in
    let same = same_rest c.args.wires c.args.rows.items rest.items rings.items c.first_and_rest-ring.result.0 c.first_and_rest-first.result.0 c.requires.rows c.first_and_rest-ring.ensures c.first_and_rest-first.ensures in
    let wrote : c.loop-ring.settling.wrote ≡ map (λ (q : Passes). q.slot.wrote) c.args.rows.items =
    ap (λ (e : Ending). e.wrote) c.loop-ring.invariant.settling ∙ ap (λ (e : Ending). e.wrote ++ map (λ (p : Place × Passes). p.1.slot.wrote) c.loop-ring.yielded) c.close-settling.ensures
    ∙ ap (λ (ys : List (Place × Passes)). c.first_and_rest-first.result.0.slot.wrote ∷ map (λ (p : Place × Passes). p.1.slot.wrote) ys) whole
    ∙ ap (λ (l : List (List Entry)). c.first_and_rest-first.result.0.slot.wrote ∷ l) (map-zip_second (λ (q : Passes). q.slot.wrote) rings.items rest.items same)
    ∙ sym (ap (λ (qs : List Passes). map (λ (q : Passes). q.slot.wrote) qs) c.first_and_rest-first.ensures) in
    let passes : c.loop-ring.settling.passes ≡ length rest.items + 1 =
    ap (λ (e : Ending). e.passes) c.loop-ring.invariant.settling ∙ ap (λ (e : Ending). e.passes) c.close-settling.ensures ∙ (first_row c.args.wires c.args.rows.items c.first_and_rest-first.result.1.items c.first_and_rest-ring.result.1.items c.first_and_rest-ring.result.0 c.first_and_rest-first.result.0 c.requires.rows c.first_and_rest-ring.ensures c.first_and_rest-first.ensures).1 in
    ap length wrote ∙ length-map c.args.rows.items (λ (q : Passes). q.slot.wrote) ∙ ap length c.first_and_rest-first.ensures ∙ omega arith ∙ sym passes

pub returns-clause-drained : goal.returns-clause-drained
returns-clause-drained g c =
    let rings = c.first_and_rest-ring.result.1 in
    let rest = c.first_and_rest-first.result.1 in
    let split = c.zip-ring-items.ensures in
    let road = YieldsList-at c.into_iter-ring-iterator.ensures.into_iter_gives (YieldsList-from_zip
    (YieldsList-at split.first (YieldsList-from_vec rings.items c.into_iter.ensures.rest (c.into_iter.ensures.len ∙ rings.ok.0)))
    (YieldsList-from_vec rest.items split.second.0 (split.second.1 ∙ rest.ok.0))) in
    let end = YieldsList-end road c.loop-ring.yielded c.loop-ring.ring-iterator c.loop-ring.yielded_by c.next.result c.next.new.self c.in-None.is c.next.ensures.steps in
    let whole : c.loop-ring.yielded ≡ zip rings.items rest.items = sym (map-id c.loop-ring.yielded) ∙ end.0 in
    let same = same_rest c.args.wires c.args.rows.items rest.items rings.items c.first_and_rest-ring.result.0 c.first_and_rest-first.result.0 c.requires.rows c.first_and_rest-ring.ensures c.first_and_rest-first.ensures in
    all_drained c.args.rows.items rest.items rings.items c.first_and_rest-first.result.0 c.loop-ring.yielded same c.first_and_rest-first.ensures whole c.end_ring.ensures c.loop-ring.invariant.drained

pub returns-clause-journal : goal.returns-clause-journal
returns-clause-journal g c =
    let rings = c.first_and_rest-ring.result.1 in
    let rest = c.first_and_rest-first.result.1 in
    let split = c.zip-ring-items.ensures in
    let road = YieldsList-at c.into_iter-ring-iterator.ensures.into_iter_gives (YieldsList-from_zip
    (YieldsList-at split.first (YieldsList-from_vec rings.items c.into_iter.ensures.rest (c.into_iter.ensures.len ∙ rings.ok.0)))
    (YieldsList-from_vec rest.items split.second.0 (split.second.1 ∙ rest.ok.0))) in
    let end = YieldsList-end road c.loop-ring.yielded c.loop-ring.ring-iterator c.loop-ring.yielded_by c.next.result c.next.new.self c.in-None.is c.next.ensures.steps in
    let whole : c.loop-ring.yielded ≡ zip rings.items rest.items = sym (map-id c.loop-ring.yielded) ∙ end.0 in
    let same = same_rest c.args.wires c.args.rows.items rest.items rings.items c.first_and_rest-ring.result.0 c.first_and_rest-first.result.0 c.requires.rows c.first_and_rest-ring.ensures c.first_and_rest-first.ensures in
    let wrote : c.loop-ring.settling.wrote ≡ map (λ (q : Passes). q.slot.wrote) c.args.rows.items =
    ap (λ (e : Ending). e.wrote) c.loop-ring.invariant.settling ∙ ap (λ (e : Ending). e.wrote ++ map (λ (p : Place × Passes). p.1.slot.wrote) c.loop-ring.yielded) c.close-settling.ensures
    ∙ ap (λ (ys : List (Place × Passes)). c.first_and_rest-first.result.0.slot.wrote ∷ map (λ (p : Place × Passes). p.1.slot.wrote) ys) whole
    ∙ ap (λ (l : List (List Entry)). c.first_and_rest-first.result.0.slot.wrote ∷ l) (map-zip_second (λ (q : Passes). q.slot.wrote) rings.items rest.items same)
    ∙ sym (ap (λ (qs : List Passes). map (λ (q : Passes). q.slot.wrote) qs) c.first_and_rest-first.ensures) in
    let seen : c.loop-ring.settling.seen ≡ map (λ (q : Passes). q.slot.seen) c.args.rows.items =
    ap (λ (e : Ending). e.seen) c.loop-ring.invariant.settling ∙ ap (λ (e : Ending). e.seen ++ map (λ (p : Place × Passes). p.1.slot.seen) c.loop-ring.yielded) c.close-settling.ensures
    ∙ ap (λ (ys : List (Place × Passes)). c.first_and_rest-first.result.0.slot.seen ∷ map (λ (p : Place × Passes). p.1.slot.seen) ys) whole
    ∙ ap (λ (l : List (List Entry)). c.first_and_rest-first.result.0.slot.seen ∷ l) (map-zip_second (λ (q : Passes). q.slot.seen) rings.items rest.items same)
    ∙ sym (ap (λ (qs : List Passes). map (λ (q : Passes). q.slot.seen) qs) c.first_and_rest-first.ensures) in
    let n : length c.loop-ring.settling.wrote ≡ length c.args.rows.items = ap length wrote ∙ length-map c.args.rows.items (λ (q : Passes). q.slot.wrote) in
    let all = c.args.rows.ok.0 in
    record {
      start = λ q at. c.finish.ensures.start ∙ ap (λ (e : Ending). e.start) c.loop-ring.invariant.settling ∙ ap (λ (e : Ending). e.start) c.close-settling.ensures
          ∙ ap (λ (p : Passes). p.slot.start) (same_Some c.first_and_rest-first.result.0 q (ap (λ (l : List Passes). slice_get l 0) (sym c.first_and_rest-first.ensures) ∙ at));
      rows = λ t q at. (let r = wrote_at c.args.rows.items c.loop-ring.settling.wrote t q wrote at in c.finish.ensures.rows t r.0 ∙ r.1);
      others = λ t le. c.finish.ensures.others t (omega arith);
      seen = λ t q at. seen_at c.args.rows.items c.loop-ring.settling.seen c.finish.result.journal t q seen c.finish.ensures.seen at;
    }
