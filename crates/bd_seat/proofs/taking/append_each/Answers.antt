use Rattle.std.proofs.Common.{◌≡◌, List, ◌∷◌, [], ◌++◌, length, ap, subst, sym, ◌∙◌, arith}
use Rattle.bd_base.specs.declared.act.Entry.{Entry}
use Rattle.bd_law_logs.specs.Journals.{events}
use Rattle.bd_law_threads.specs.Course.{acts_of, restamped}
use Rattle.bd_seat.proofs.TakenOver.{alone_more, none_first, stamps_next}
use Rattle.bd_seat.proofs.taking.append_each.Goals as goal

pub append_alone-requires : goal.append_alone-requires
append_alone-requires c =
    (none_first c.in-Some.entry c.pop_front.new.self.items (subst (λ (es : List Entry). events es ≡ []) c.in-Some.ensures.items c.loop-entry.invariant.none_asks)).0

pub loop-entry-preserved : goal.loop-entry-preserved
loop-entry-preserved c =
    let log = c.loop-entry.log in
    let so-far = c.loop-entry.invariant in
    let e : Entry = c.in-Some.entry in
    let one = c.in_ok-append_alone.ensures.appended in
    let items = c.in-Some.ensures.items in
    record {
      added = so-far.added ++ restamped log.thread log.last (e.act ∷ []);
      appended = alone_more _ so-far.added _ _ _ so-far.appended one;
      all = stamps_next log c.append_alone.new.log so-far.added e c.pop_front.new.self.items _ one.log_is.thread one.log_is.last
          (ap (λ (es : List Entry). so-far.added ++ restamped log.thread log.last (acts_of es)) (sym items) ∙ so-far.all);
      count = omega (arith, one.log_is.last, so-far.count, ap (λ (es : List Entry). length es) items);
      none_asks = (none_first e c.pop_front.new.self.items (subst (λ (es : List Entry). events es ≡ []) items so-far.none_asks)).1;
    }
