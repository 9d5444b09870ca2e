use Rattle.std.proofs.Common.{List, [], ◌∷◌, ◌++◌, take, refl, sym, ◌∙◌, ap, subst}
use Rattle.std.proofs.lemmas.List.{take_all, take_more}
use Rattle.bd_base.specs.declared.act.Entry.{Entry}
use Rattle.bd_touched.specs.Reach.{KeepsHolds, Touches}
use Rattle.bd_touched.proofs.Adding.{taken_covered, taken_empty, taken_more, TakenIn}
use Rattle.bd_touched.proofs.Holding.{keeps_then, same_holds}
use Rattle.bd_touched.proofs.touched.Touched.take_in.Goals as goal

pub returns-then-is_empty-clause-taken : goal.returns-then-is_empty-clause-taken
returns-then-is_empty-clause-taken c = taken_empty c.args.setup.now c.args.me c.args.requests.now c.args.entries.now c.args.self.now (sym c.is_empty.ensures ∙ c.if-is_empty.true)

pub returns-then-is_empty-clause-keeps : goal.returns-then-is_empty-clause-keeps
returns-then-is_empty-clause-keeps c = same_holds c.args.self.now c.args.self.now refl

pub loop-entry-init : goal.loop-entry-init
loop-entry-init c = record {
  taken = taken_covered c.args.setup.now c.args.me c.args.requests.now c.args.self.now c.take_holds.new.self c.in_ok-take_holds.ensures.covers;
  keeps = c.in_ok-take_holds.ensures.keeps;
}

pub loop-entry-preserved : goal.loop-entry-preserved
loop-entry-preserved c =
    let all : List Entry = c.args.entries.now in
    let i = c.loop-entry.entry-index in
    let e : Entry = c.entry-item.result in
    let more = take_more all i e c.loop-entry-test.true ∙ ap (λ (x : Entry). take i all ++ x ∷ []) (sym c.entry-item.is) in
    record {
      taken = subst (λ (es : List Entry). TakenIn c.args.setup.now c.args.me c.args.requests.now es c.args.self.now c.take_in_act.new.self) (sym more)
          (taken_more c.args.setup.now c.args.me c.args.requests.now (take i all) e c.args.self.now c.loop-entry.self c.take_in_act.new.self c.loop-entry.invariant.taken c.take_in_act.ensures.covers c.take_in_act.ensures.reached);
      keeps = keeps_then c.args.self.now c.loop-entry.self c.take_in_act.new.self c.loop-entry.invariant.keeps c.take_in_act.ensures.covers (same_holds c.loop-entry.self c.take_in_act.new.self c.take_in_act.ensures.holds);
    }

pub returns-clause-taken : goal.returns-clause-taken
returns-clause-taken c =
    subst (λ (t : Touches). TakenIn c.args.setup.now c.args.me c.args.requests.now c.args.entries.now c.args.self.now t) (sym c.in_ok-make_room.ensures)
    (subst (λ (es : List Entry). TakenIn c.args.setup.now c.args.me c.args.requests.now es c.args.self.now c.loop-entry.self) (take_all c.loop-entry.entry-index c.args.entries.now c.loop-entry-test.false) c.loop-entry.invariant.taken)

pub returns-clause-keeps : goal.returns-clause-keeps
returns-clause-keeps c = subst (λ (t : Touches). KeepsHolds c.args.self.now t) (sym c.in_ok-make_room.ensures) c.loop-entry.invariant.keeps
