use Rattle.std.proofs.Common.{◌≡◌, ℕ, Some, length, vec_len, subst, sym, ap, ◌∙◌, arith}
use Rattle.std.specs.Prelude.{slice_get}
use Rattle.std.proofs.lemmas.List.{with_items_is}
use Rattle.bd_ring.specs.SlotRule.{StartsWith}
use Rattle.bd_ring.specs.Slots.{Holder}
use Rattle.bd_wires.specs.declared.wires.Passes.{Passes}
use Rattle.bd_wires.specs.Rows.{AreDrained, AreRows}
use Rattle.bd_wires.specs.Transposing.{IsSquare, Transposed}
use Rattle.bd_wires.specs.Wires.{HasJournalOf}
use Rattle.bd_wires.proofs.Exchanging.{kept, rest-back, rest-length}
use Rattle.bd_wires.proofs.EndRows.{linked_square, rows_linked, delivered}
use Rattle.bd_wires.proofs.wires.disconnect.Goals as goal

pub transpose-requires : goal.transpose-requires
transpose-requires g c = record {
  square = subst (λ l. IsSquare (length l) l) (sym c.as_mut_slice.ensures.value) (linked_square (vec_len c.args.passes) c.args.wires c.args.passes.items c.args.passes.ok.0 c.requires.linked);
}

pub end_rows-requires-clause-rows : goal.end_rows-requires-clause-rows
end_rows-requires-clause-rows g c =
    let xs = c.args.passes.items in
    let ys = c.transpose.new.passes in
    let turned = subst (λ l. Transposed l ys) c.as_mut_slice.ensures.value c.transpose.ensures in
    let n : length ys ≡ c.args.passes.len = rest-length xs ys turned.rest ∙ sym c.args.passes.ok.0 in
    subst (AreRows c.args.wires) (sym (with_items_is c.args.passes ys n)) (rows_linked (vec_len c.args.passes) c.args.wires xs ys c.args.passes.ok.0 c.requires.linked turned)

pub returns-clause-delivered : goal.returns-clause-delivered
returns-clause-delivered g c =
    let xs = c.args.passes.items in
    let ys = c.transpose.new.passes in
    let turned = subst (λ l. Transposed l ys) c.as_mut_slice.ensures.value c.transpose.ensures in
    let n : length ys ≡ c.args.passes.len = rest-length xs ys turned.rest ∙ sym c.args.passes.ok.0 in
    delivered (vec_len c.args.passes) c.args.wires xs ys c.args.passes.ok.0 c.requires.linked turned (subst AreDrained (with_items_is c.args.passes ys n) c.end_rows.ensures.drained)

pub returns-clause-journal : goal.returns-clause-journal
returns-clause-journal g c =
    let xs = c.args.passes.items in
    let ys = c.transpose.new.passes in
    let turned = subst (λ l. Transposed l ys) c.as_mut_slice.ensures.value c.transpose.ensures in
    let n : length ys ≡ c.args.passes.len = rest-length xs ys turned.rest ∙ sym c.args.passes.ok.0 in
    let h = subst (λ l. HasJournalOf l c.end_rows.result) (with_items_is c.args.passes ys n) c.end_rows.ensures.journal in
    let back = λ (t : ℕ) (q : Passes) (at : slice_get xs t ≡ Some q). kept ys xs (rest-back xs ys turned.rest) t q at in
    let len = rest-length xs ys turned.rest in
    record {
      start = λ q at. (let b = back 0 q at in h.start b.0 b.1 ∙ sym (ap (λ (v : Holder). v.start) b.3));
      rows = λ t q at. (let b = back t q at in h.rows t b.0 b.1 ∙ sym (ap (λ (v : Holder). v.wrote) b.3));
      others = λ t le. h.others t (omega arith);
      seen = λ t q at. (let b = back t q at in subst (λ (v : Holder). StartsWith c.end_rows.result.journal v.seen) (sym b.3) (h.seen t b.0 b.1));
    }
