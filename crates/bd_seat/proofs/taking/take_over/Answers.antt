use Rattle.std.proofs.Common.{◌≡◌, ℕ, ◌+◌, false, List, ◌∷◌, [], ◌++◌, length, ap, subst, sym, ◌∙◌, arith}
use Rattle.std.specs.List.{AllByRecursion}
use Rattle.bd_base.specs.declared.act.Entry.{Entry}
use Rattle.bd_machine.specs.Step.{is_shutdown}
use Rattle.bd_machine.specs.View.{asked}
use Rattle.bd_law_logs.specs.Journals.{IsAnswered, IsReplay}
use Rattle.bd_law_threads.specs.Course.{acts_of, restamped}
use Rattle.bd_seat.proofs.TakenOver.{replay_next, stamps_next, takes_more, takes_none}
use Rattle.bd_seat.proofs.taking.take_over.Goals as goal

pub loop-entry-init : goal.loop-entry-init
loop-entry-init c =
    let log = c.args.log.now in
    let r = c.args.registry.now in
    let same = c.from-left.ensures.0 ∙ c.into_vec.ensures in
    record {
      added = [];
      taken = takes_none log r c.requires.last;
      all = ap (λ (es : List Entry). restamped log.thread log.last (acts_of es)) same;
      count = ap (λ (es : List Entry). log.last + length es) same;
      threads = subst (λ (es : List Entry). AllByRecursion (λ e. e.thread ≡ c.args.me) es) (sym same) c.requires.threads;
      no_shutdown = subst (λ (es : List Entry). AllByRecursion (λ e. is_shutdown e.act ≡ false) es) (sym same) c.requires.no_shutdown;
      replay = subst (λ (es : List Entry). IsReplay r.setup r.state es) (sym same) c.requires.replay;
    }

pub take_over_one-requires-clause-no_shutdown : goal.take_over_one-requires-clause-no_shutdown
take_over_one-requires-clause-no_shutdown c =
    (subst (λ (es : List Entry). AllByRecursion (λ e. is_shutdown e.act ≡ false) es) c.in-Some.ensures.items c.loop-entry.invariant.no_shutdown).0

pub take_over_one-requires-clause-answered : goal.take_over_one-requires-clause-answered
take_over_one-requires-clause-answered c =
    let r = c.loop-entry.registry in
    let e : Entry = c.in-Some.entry in
    let own = (subst (λ (es : List Entry). AllByRecursion (λ x. x.thread ≡ c.args.me) es) c.in-Some.ensures.items c.loop-entry.invariant.threads).0 in
    let all = subst (λ (es : List Entry). IsReplay r.setup r.state es) c.in-Some.ensures.items c.loop-entry.invariant.replay in
    subst (λ (t : ℕ). IsAnswered r.setup r.state t (asked e.act)) own all.0

pub loop-entry-preserved : goal.loop-entry-preserved
loop-entry-preserved c =
    let log = c.loop-entry.log in
    let r = c.loop-entry.registry in
    let so-far = c.loop-entry.invariant in
    let e : Entry = c.in-Some.entry in
    let one = c.in_ok-take_over_one.ensures.taken in
    let items = c.in-Some.ensures.items in
    let threads = subst (λ (es : List Entry). AllByRecursion (λ x. x.thread ≡ c.args.me) es) items so-far.threads in
    let no_shutdown = subst (λ (es : List Entry). AllByRecursion (λ x. is_shutdown x.act ≡ false) es) items so-far.no_shutdown in
    let replay = subst (λ (es : List Entry). IsReplay r.setup r.state es) items so-far.replay in
    let own = threads.0 ∙ c.requires.me ∙ sym so-far.taken.log_is.thread in
    record {
      added = so-far.added ++ restamped log.thread log.last (e.act ∷ []);
      taken = takes_more _ _ so-far.added _ _ _ _ _ so-far.taken one;
      all = stamps_next log c.take_over_one.new.log so-far.added e c.pop_front.new.self.items _ one.log_is.thread one.log_is.last
          (ap (λ (es : List Entry). so-far.added ++ restamped log.thread log.last (acts_of es)) (sym items) ∙ so-far.all);
      count = omega (arith, one.log_is.last, so-far.count, ap (λ (es : List Entry). length es) items);
      threads = threads.1;
      no_shutdown = no_shutdown.1;
      replay = replay_next log _ r _ e c.pop_front.new.self.items own one replay.1;
    }
