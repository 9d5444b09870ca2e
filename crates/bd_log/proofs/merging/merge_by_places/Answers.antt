use Rattle.std.proofs.Common.{◌≡◌, ℕ, ◌+◌, ◌<◌, ◌≤◌, get_or, List, [], ◌∷◌, ◌++◌, length, set, Some, sym, ◌∙◌, ap, subst, append-nil, append_assoc, arith}
use Rattle.std.specs.List.{AllByRecursion, sum_by}
use Rattle.std.proofs.lemmas.List.{set-get_or, get_or_default}
use Rattle.bd_base.specs.declared.act.Entry.{Entry}
use Rattle.bd_base.specs.declared.thread_set.ThreadSet.{ThreadSet}
use Rattle.bd_base.specs.ThreadSet.{IsFirst}
use Rattle.bd_log.specs.Firsts.{AreByThread}
use Rattle.bd_log.specs.FirstStamp.{BeginsElsewhere}
use Rattle.bd_log.specs.Merge.{Part, IsPart}
use Rattle.bd_log.specs.Places.{AreMarked}
use Rattle.bd_log.proofs.ByPlaces.{open_start, past_of, open_more, next_least, passed_more, marked_taken, none_left, first_least, are_parts}
use Rattle.bd_log.proofs.SameStamp.{first_here, all_above, rest_above}
use Rattle.bd_log.proofs.Taking.{Merges, TakesFirst, merges_start, merges_step, merges_end, left_different, left_fewer, took}
use Rattle.bd_log.proofs.merging.merge_by_places.Goals as goal

pub loop-set-init : goal.loop-set-init
loop-set-init c = record {
  so_far = ([], sym (append-nil c.args.trace.now.items), merges_start c.args.left.now);
  room = c.requires.room;
  marked = c.requires.marked;
  stamp = omega arith;
  least = first_least c.args.places.now.first c.args.places.now.sets.items c.args.left.now c.requires.marked;
}

pub loop-thread-init : goal.loop-thread-init
loop-thread-init c =
    let is = c.loop-set.invariant in
    let sets : List ThreadSet = c.args.places.now.sets.items in
    let i : ℕ = c.loop-set.set-index in
    let d : ThreadSet = record { 0 = 0 } in
    let items : c.as_slice-set-items.result.now ≡ sets = c.as_slice-set-items.ensures.value in
    let within : i < length sets = subst (λ (ss : List ThreadSet). i < length ss) items c.loop-set-test.true in
    let now : ThreadSet = get_or c.as_slice-set-items.result.now i d in
    let at : now ≡ get_or sets i now = ap (λ (ss : List ThreadSet). get_or ss i d) items ∙ get_or_default sets i d now within in record {
      so_far = is.so_far;
      room = is.room;
      marked = is.marked;
      opened = open_start c.loop-set.left c.args.places.now.first c.loop-set.stamp i sets now is.marked is.stamp within at is.least;
      passed = λ k lt h. omega (arith, lt);
      few = omega arith;
    }

-- the threads of the parts that are left are those of the parts given
still_by_thread : (given left : List Part) (out : List Entry) → Merges given left out → AreByThread (length given) given → AreByThread (length left) left
still_by_thread given left out m h i j d listed lt within = omega (arith, m.threads i d, m.threads j d, h i j d (omega (arith, m.size, listed)) lt (omega (arith, m.size, within)))

appended : (new old start out : List Entry) (x : Entry) → new ≡ old ++ x ∷ [] → old ≡ start ++ out → new ≡ start ++ (out ++ x ∷ [])
appended new old start out x is was = is ∙ ap (λ (zs : List Entry). zs ++ x ∷ []) was ∙ append_assoc start out (x ∷ [])

pub loop-thread-preserved-in-Some-take_at : goal.loop-thread-preserved-in-Some-take_at
loop-thread-preserved-in-Some-take_at c =
    let is = c.loop-thread.invariant in
    let out : List Entry = is.so_far.0 in
    let left : List Part = c.loop-thread.left in
    let place : ℕ = c.in-Some.thread.0 in
    let stamp : ℕ = c.loop-set.stamp in
    let bits : ℕ = c.loop-thread.rest.0 in
    let bits' : ℕ = c.remove.new.self.0 in
    let now : Part = c.take_at.new.self in
    let left' : List Part = set left place now in
    let first : IsFirst bits place = c.in-Some.ensures in
    let within : place < length left = c.if-place-left.true in
    let x : Entry = c.in-Some-take_at.entry in
    let old : Part = get_or left place c.index-left-place.result in
    let parts = are_parts c.args.places.now.first c.args.places.now.sets.items left is.marked in
    let old_is : IsPart old = parts place c.index-left-place.result within in
    let at : x.stamp ≡ stamp = c.in-Some-take_at.ensures.begins in
    let taken : old.entries ≡ x ∷ now.entries = c.in-Some-take_at.ensures.entry in
    let by_thread = still_by_thread c.args.left.now left out is.so_far.2 c.requires.by_thread in
    let sooner = first_here left stamp place (length left) c.index-left-place.result x now.entries within within by_thread parts (past_of left stamp bits place (length left) is.opened first) at taken in
    let apart = left_different c.args.left.now left out is.so_far.2 c.requires.threads in
    let takes : TakesFirst left x left' = took left place c.index-left-place.result now (Some x) apart within parts sooner c.take_at.ensures.thread taken in
    let fewer = left_fewer left left' x takes in
    let len = c.push_reserved.ensures.len in
    let capacity = c.push_reserved.ensures.capacity in
    let room = is.room in record {
      so_far = (
        out ++ x ∷ [],
        appended c.push_reserved.new.self.items c.loop-thread.trace.items c.args.trace.now.items out x c.push_reserved.ensures.items is.so_far.1,
        merges_step c.args.left.now left left' x out c.requires.threads is.so_far.2 takes,
      );
      room = omega arith;
      marked = marked_taken c.args.places.now.first c.args.places.now.sets.items left place c.index-left-place.result now x within is.marked c.take_at.ensures.part taken;
      opened = open_more left stamp bits bits' place now within is.opened c.remove.ensures.others (rest_above stamp old.entries now.entries x old_is.1 at taken);
      passed = passed_more bits bits' place c.loop-thread.past first c.remove.ensures.same c.remove.ensures.others;
      few = let below = first.below in omega (arith, below);
    }

pub loop-thread-preserved-in_default-take_at : goal.loop-thread-preserved-in_default-take_at
loop-thread-preserved-in_default-take_at c =
    let is = c.loop-thread.invariant in
    let left : List Part = c.loop-thread.left in
    let place : ℕ = c.in-Some.thread.0 in
    let stamp : ℕ = c.loop-set.stamp in
    let bits : ℕ = c.loop-thread.rest.0 in
    let bits' : ℕ = c.remove.new.self.0 in
    let now : Part = c.take_at.new.self in
    let left' : List Part = set left place now in
    let first : IsFirst bits place = c.in-Some.ensures in
    let within : place < length left = c.if-place-left.true in
    let old : Part = get_or left place c.index-left-place.result in
    let old_is : IsPart old = are_parts c.args.places.now.first c.args.places.now.sets.items left is.marked place c.index-left-place.result within in
    let none : (now ≡ old) × BeginsElsewhere stamp old.entries = c.in_default-take_at.ensures.begins in
    let same : left' ≡ left = ap (λ (p : Part). set left place p) none.0 ∙ set-get_or left place c.index-left-place.result in
    let least : AllByRecursion (λ y. stamp ≤ y.stamp) old.entries = is.opened.least place c.index-left-place.result within in
    let above : AllByRecursion (λ y. stamp < y.stamp) now.entries = subst (λ (p : Part). AllByRecursion (λ y. stamp < y.stamp) p.entries) (sym none.0) (all_above stamp old.entries old_is.1 least none.1) in
    let total_is = ap (λ (ps : List Part). sum_by (λ p. length p.entries) ps) same in
    let room = is.room in record {
      so_far = (is.so_far.0, is.so_far.1, subst (λ (ps : List Part). Merges c.args.left.now ps is.so_far.0) (sym same) is.so_far.2);
      room = omega (arith, total_is, room);
      marked = subst (λ (ps : List Part). AreMarked c.args.places.now.first c.args.places.now.sets.items ps) (sym same) is.marked;
      opened = open_more left stamp bits bits' place now within is.opened c.remove.ensures.others above;
      passed = passed_more bits bits' place c.loop-thread.past first c.remove.ensures.same c.remove.ensures.others;
      few = let below = first.below in omega (arith, below);
    }

pub loop-set-preserved : goal.loop-set-preserved
loop-set-preserved c =
    let is = c.loop-thread.invariant in record {
      so_far = is.so_far;
      room = is.room;
      marked = is.marked;
      stamp = omega (arith, c.loop-set.invariant.stamp);
      least = next_least c.loop-thread.left c.loop-set.stamp c.loop-thread.rest.0 c.in_default.ensures is.opened;
    }

pub returns : goal.returns
returns c =
    let is = c.loop-set.invariant in
    let items = ap length c.as_slice-set-items.ensures.value in
    let end : c.loop-set.stamp ≡ c.args.places.now.first + length c.args.places.now.sets.items =
    omega (arith, is.stamp, items, c.loop-set-test.false, c.loop-set.auto.set-index-end) in
    let none = none_left c.args.places.now.first c.loop-set.stamp c.args.places.now.sets.items c.loop-set.left end is.marked is.least in
    record { merged = is.so_far.0; is = is.so_far.1; is_merge = merges_end c.args.left.now c.loop-set.left is.so_far.0 none is.so_far.2 }
