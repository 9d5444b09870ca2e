use Rattle.std.proofs.Common.{◌≡◌, ◌+◌, [], ◌∷◌, ◌++◌, length, map, subst, sym, ap, ◌∙◌}
use Rattle.std.proofs.lemmas.List.{length-map, length_push, map-append}
use Rattle.bd_wires.specs.declared.wires.Passes.{Passes}
use Rattle.bd_wires.specs.Rows.{AreNewRows}
use Rattle.bd_wires.proofs.NewRows.{new_rows_more}
use Rattle.bd_wires.proofs.wires.make_rings.Goals as goal

pub loop-slot-preserved : goal.loop-slot-preserved
loop-slot-preserved c =
    let inv = c.loop-slot.invariant in
    let rings = c.loop-slot.rings.items in
    let rows = c.loop-slot.rows.items in
    let ring = c.in_ok-ring.ring in
    let q : Passes = record { take = c.in_ok-ring.take; sends = c.in_ok-ring.sends; slot = c.in-Some.slot } in
    let pushed_ring : c.push.new.self.items ≡ rings ++ ring ∷ [] = c.in_ok-push.ensures.items in
    let pushed_row : c.push-in-loop-slot.new.self.items ≡ rows ++ q ∷ [] = c.in_ok-push-2.ensures.items in
    let len : length rows ≡ length rings = sym (length-map rows (λ (p : Passes). p.slot)) ∙ ap length inv.slots ∙ sym inv.rings in
    record {
      can = tt;
      ends = tt;
      rings = ap length pushed_ring ∙ length_push rings ring ∙ ap (λ k. k + 1) inv.rings ∙ sym (length_push c.loop-slot.yielded c.in-Some.slot);
      slots = ap (λ l. map (λ (p : Passes). p.slot) l) pushed_row ∙ map-append (λ (p : Passes). p.slot) rows (q ∷ []) ∙ ap (λ l. l ++ c.in-Some.slot ∷ []) inv.slots;
      rows = subst (λ l. AreNewRows c.args.threads l c.push-in-loop-slot.new.self.items) (sym pushed_ring)
          (subst (AreNewRows c.args.threads (rings ++ ring ∷ [])) (sym pushed_row)
          (new_rows_more c.args.threads rings rows ring q len inv.rows c.in_ok-ring.ensures.take c.in_ok-ring.ensures.sends));
    }
