use Rattle.std.proofs.Common.{◌++◌, ◌∷◌, [], ap, sym, ◌∙◌, arith}
use Rattle.bd_base.specs.declared.act.Entry.{Entry}
use Rattle.bd_ring.specs.Slots.{Holder}
use Rattle.bd_ring.specs.Counting.{Bare}
use Rattle.bd_ring.proofs.Rows.{adds_one, wrote_one}
use Rattle.bd_ring.proofs.writers.write_all.Goals as goal

pub give-requires-clause-own : goal.give-requires-clause-own
give-requires-clause-own g c =
    let taken = c.in-Some-try_take.ensures.take.0 in
    adds_one _ _ _ c.row.result (ap (λ (b : Bare). b.rows) c.in-Ok.ensures.ok ∙ ap (λ l. l ++ c.row.result ∷ []) (sym (ap (λ (p : Holder). p.seen) taken)))
    (ap (λ (r : Entry). r.thread) c.row.ensures ∙ sym (ap (λ (p : Holder). p.thread) taken ∙ c.loop.invariant.thread))

pub loop-preserved-in-Ok : goal.loop-preserved-in-Ok
loop-preserved-in-Ok g c =
    let taken = c.in-Some-try_take.ensures.take.0 in
    let given = c.give.ensures in
    record {
      slot = ap (λ (p : Holder). p.slot) given ∙ ap (λ (p : Holder). p.slot) taken ∙ c.loop.invariant.slot;
      thread = ap (λ (p : Holder). p.thread) given ∙ ap (λ (p : Holder). p.thread) taken ∙ c.loop.invariant.thread;
      passes = ap (λ (p : Holder). p.passes) given ∙ ap (λ (p : Holder). p.passes) taken ∙ c.loop.invariant.passes;
      free = ap (λ (p : Holder). p.holds) given;
      wrote = ap (λ (p : Holder). p.wrote) given
          ∙ wrote_one _ _ _ c.row.result _ _ (ap (λ (b : Bare). b.rows) c.in-Ok.ensures.ok ∙ ap (λ l. l ++ c.row.result ∷ []) (sym (ap (λ (p : Holder). p.seen) taken))) c.row.ensures
          (ap (λ (p : Holder). p.wrote) taken ∙ c.loop.invariant.wrote);
      start = ap (λ (p : Holder). p.start) given ∙ ap (λ (p : Holder). p.start) taken ∙ c.loop.invariant.start;
      within = omega arith;
    }
