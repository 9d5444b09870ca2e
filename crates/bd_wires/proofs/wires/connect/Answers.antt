use Rattle.std.proofs.Common.{◌≡◌, length, subst, sym, ap, ◌∙◌, arith}
use Rattle.std.proofs.lemmas.List.{length-map, with_items_is}
use Rattle.bd_wires.specs.declared.wires.Passes.{Passes}
use Rattle.bd_wires.specs.declared.wires.Wires.{Wires}
use Rattle.bd_wires.specs.Transposing.{IsSquare, Transposed}
use Rattle.bd_wires.specs.Wires.{AreNew}
use Rattle.bd_wires.proofs.Exchanging.{rest-length}
use Rattle.bd_wires.proofs.NewRows.{connected, length-new_holders, new_square}
use Rattle.bd_wires.proofs.wires.connect.Goals as goal

pub transpose-requires : goal.transpose-requires
transpose-requires g c =
    let w : Wires = record { rings = c.in_ok-rings.rings; slot = c.in_ok-slot.slot } in
    let rows = c.in_ok-rings.passes.items in
    let made = c.in_ok-rings.ensures in
    let slots : length c.in_ok-slot.slots.items ≡ c.args.threads = ap length c.in_ok-slot.ensures ∙ length-new_holders w _ c.args.threads c.requires.some in
    let len : length rows ≡ c.args.threads = sym (length-map rows (λ (q : Passes). q.slot)) ∙ ap length made.slots ∙ slots in
    let rings : length c.in_ok-rings.rings.items ≡ c.args.threads = sym c.in_ok-rings.rings.ok.0 ∙ made.rings ∙ c.in_ok-slot.slots.ok.0 ∙ slots in
    record { square = subst (λ l. IsSquare (length l) l) (sym c.as_mut_slice.ensures.value) (new_square c.args.threads c.in_ok-rings.rings.items rows (let some = c.requires.some in omega arith) len made.rows) }

pub returns : goal.returns
returns g c =
    let w : Wires = record { rings = c.in_ok-rings.rings; slot = c.in_ok-slot.slot } in
    let rows = c.in_ok-rings.passes.items in
    let made = c.in_ok-rings.ensures in
    let slots : length c.in_ok-slot.slots.items ≡ c.args.threads = ap length c.in_ok-slot.ensures ∙ length-new_holders w _ c.args.threads c.requires.some in
    let len : length rows ≡ c.args.threads = sym (length-map rows (λ (q : Passes). q.slot)) ∙ ap length made.slots ∙ slots in
    let rings : length c.in_ok-rings.rings.items ≡ c.args.threads = sym c.in_ok-rings.rings.ok.0 ∙ made.rings ∙ c.in_ok-slot.slots.ok.0 ∙ slots in
    let turned = subst (λ l. Transposed l c.transpose.new.passes) c.as_mut_slice.ensures.value c.transpose.ensures in
    let n : length c.transpose.new.passes ≡ c.in_ok-rings.passes.len = rest-length rows c.transpose.new.passes turned.rest ∙ sym c.in_ok-rings.passes.ok.0 in
    record {
      new = subst (AreNew c.args.threads _ w) (sym (with_items_is c.in_ok-rings.passes c.transpose.new.passes n))
          (connected c.args.threads _ w rows c.transpose.new.passes c.requires.some rings len (made.slots ∙ c.in_ok-slot.ensures) made.rows turned);
    }
