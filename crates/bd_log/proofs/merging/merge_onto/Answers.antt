use Rattle.std.proofs.Common.{◌≡◌, ℕ, Vec, Global, ◌+◌, ◌<◌, ◌≤◌, All, get_or, List, [], ◌∷◌, ◌++◌, length, set, vec_len, vec_capacity, Some, None, sym, ◌∙◌, ap, subst, append-nil, append_assoc, arith}
use Rattle.std.specs.List.{AllByRecursion, sum_by}
use Rattle.std.proofs.lemmas.List.{set-get_or}
use Rattle.bd_base.specs.declared.act.Entry.{Entry}
use Rattle.bd_log.specs.Firsts.{AreByThread}
use Rattle.bd_log.specs.FirstStamp.{BeginsElsewhere}
use Rattle.bd_log.specs.Merge.{Part, IsPart}
use Rattle.bd_log.proofs.Choice.{parts_kept}
use Rattle.bd_log.proofs.SameStamp.{past_start, past_more, first_here, all_above, rest_above}
use Rattle.bd_log.proofs.Taking.{Merges, TakesFirst, merges_start, merges_step, merges_end, left_different, left_fewer, took}
use Rattle.bd_log.proofs.merging.merge_onto.Goals.{in-Some-take_at, in_default-take_at}
use Rattle.bd_log.proofs.merging.merge_onto.Goals as goal

pub loop-entry-init : goal.loop-entry-init
loop-entry-init c =
    let left = c.as_mut_slice-left.ensures.value in record {
      so_far = (
        [],
        sym (append-nil c.args.trace.now.items),
        subst (λ (ps : List Part). Merges c.args.parts.items ps []) (sym left) (merges_start c.args.parts.items),
      );
      room = subst (λ (ps : List Part). vec_len c.args.trace.now + sum_by (λ p. length p.entries) ps ≤ vec_capacity c.args.trace.now) (sym left) c.requires.room;
      parts = c.first_of-first.ensures.parts;
      within = c.first_of-first.ensures.within;
      least = c.first_of-first.ensures.least;
    }

-- the threads of the parts that are left are those of the parts given
still_by_thread : (given left : List Part) (out : List Entry) (count : ℕ) → Merges given left out → AreByThread count given → AreByThread count left
still_by_thread given left out count m h i j d listed lt within = omega (arith, m.threads i d, m.threads j d, h i j d listed lt (omega (arith, m.size, within)))

appended : (new old start out : List Entry) (x : Entry) → new ≡ old ++ x ∷ [] → old ≡ start ++ out → new ≡ start ++ (out ++ x ∷ [])
appended new old start out x is was = is ∙ ap (λ (zs : List Entry). zs ++ x ∷ []) was ∙ append_assoc start out (x ∷ [])

pub loop-place-init : goal.loop-place-init
loop-place-init c =
    let is = c.loop-entry.invariant in
    let out : List Entry = is.so_far.0 in
    let x : Entry = c.in-Some-take.entry in
    let left : List Part = c.loop-entry.left in
    let first : ℕ = c.loop-entry.first in
    let now : Part = c.take.new.self in
    let count : ℕ = c.by_thread_len-by_thread.result in
    let apart = left_different c.args.parts.items left out is.so_far.2 c.requires.threads in
    let takes : TakesFirst left x (set left first now) = took left first c.index-left-first.result now (Some x) apart is.within is.parts is.least c.take.ensures.thread c.in-Some-take.ensures.entry in
    let parts : All IsPart (set left first now) = parts_kept left first now is.parts is.within c.take.ensures.part in
    let by_thread : AreByThread count left = still_by_thread c.args.parts.items left out count is.so_far.2 (subst (AreByThread count) c.as_mut_slice-left.ensures.value c.by_thread_len-by_thread.ensures.threads) in
    let fewer = left_fewer left (set left first now) x takes in
    let len = c.push_reserved.ensures.len in
    let capacity = c.push_reserved.ensures.capacity in
    let room = is.room in record {
      so_far = (
        out ++ x ∷ [],
        appended c.push_reserved.new.self.items c.loop-entry.trace.items c.args.trace.now.items out x c.push_reserved.ensures.items is.so_far.1,
        merges_step c.args.parts.items left (set left first now) x out c.requires.threads is.so_far.2 takes,
      );
      room = omega arith;
      parts = parts;
      fewer = omega arith;
      past = past_start left first count c.index-left-first.result now x is.within by_thread (is.parts first c.index-left-first.result is.within) parts c.take.ensures.thread c.in-Some-take.ensures.entry takes.first;
    }

pub loop-place-preserved : goal.loop-place-preserved
loop-place-preserved c =
    let is = c.loop-place.invariant in
    let out : List Entry = is.so_far.0 in
    let left : List Part = c.loop-place.left in
    let place : ℕ = c.loop-place.place in
    let now : Part = c.take_at.new.self in
    let left' : List Part = set left place now in
    let stamp : ℕ = c.in-Some-take.entry.stamp in
    let count : ℕ = c.by_thread_len-by_thread.result in
    let old : Part = get_or left place c.index-left-place.result in
    let listed : place < count = c.loop-place-test.true in
    let size = ap length c.as_mut_slice-left.ensures.value in
    let size_left = is.so_far.2.size in
    let within : place < length left = omega (arith, listed, size, size_left, c.by_thread_len-by_thread.ensures.within) in
    let old_is : IsPart old = is.parts place c.index-left-place.result within in
    let least : AllByRecursion (λ y. stamp ≤ y.stamp) old.entries = is.past.least place c.index-left-place.result within in
    let parts : All IsPart left' = parts_kept left place now is.parts within c.take_at.ensures.part in
    elim c.match-take_at.branch [
      | in-Some-take_at w ↦
          let x : Entry = w.in-Some-take_at.same in
          let at : x.stamp ≡ stamp = w.in-Some-take_at.ensures.begins in
          let taken : old.entries ≡ x ∷ now.entries = w.in-Some-take_at.ensures.entry in
          let by_thread : AreByThread count left = still_by_thread c.args.parts.items left out count is.so_far.2 (subst (AreByThread count) c.as_mut_slice-left.ensures.value c.by_thread_len-by_thread.ensures.threads) in
          let first = first_here left stamp place count c.index-left-place.result x now.entries listed within by_thread is.parts is.past at taken in
          let apart = left_different c.args.parts.items left out is.so_far.2 c.requires.threads in
          let takes : TakesFirst left x left' = took left place c.index-left-place.result now (Some x) apart within is.parts first c.take_at.ensures.thread taken in
          let fewer = left_fewer left left' x takes in
          let len = w.push_reserved-in-Some-take_at.ensures.len in
          let capacity = w.push_reserved-in-Some-take_at.ensures.capacity in
          let length_is = ap vec_len w.trace-is in
          let capacity_is = ap vec_capacity w.trace-is in
          let room = is.room in
          let fewer_so_far = is.fewer in record {
            so_far = (
              out ++ x ∷ [],
              ap (λ (v : Vec Entry Global). v.items) w.trace-is ∙ appended w.push_reserved-in-Some-take_at.new.self.items c.loop-place.trace.items c.args.trace.now.items out x w.push_reserved-in-Some-take_at.ensures.items is.so_far.1,
              merges_step c.args.parts.items left left' x out c.requires.threads is.so_far.2 takes,
            );
            room = omega arith;
            parts = parts;
            fewer = omega arith;
            past = past_more left stamp place count now within is.past (rest_above stamp old.entries now.entries x old_is.1 at taken);
          }
      | in_default-take_at w ↦
          let none : (now ≡ old) × BeginsElsewhere stamp old.entries = w.in_default-take_at.ensures.begins in
          let same : left' ≡ left = ap (λ (p : Part). set left place p) none.0 ∙ set-get_or left place c.index-left-place.result in
          let above : AllByRecursion (λ y. stamp < y.stamp) now.entries = subst (λ (p : Part). AllByRecursion (λ y. stamp < y.stamp) p.entries) (sym none.0) (all_above stamp old.entries old_is.1 least none.1) in
          let total_is = ap (λ (ps : List Part). sum_by (λ p. length p.entries) ps) same in
          let length_is = ap vec_len w.trace-is in
          let capacity_is = ap vec_capacity w.trace-is in
          let room = is.room in
          let fewer_so_far = is.fewer in record {
            so_far = (
              out,
              ap (λ (v : Vec Entry Global). v.items) w.trace-is ∙ is.so_far.1,
              subst (λ (ps : List Part). Merges c.args.parts.items ps out) (sym same) is.so_far.2,
            );
            room = omega arith;
            parts = parts;
            fewer = omega arith;
            past = past_more left stamp place count now within is.past above;
          }
    ]

pub loop-entry-preserved : goal.loop-entry-preserved
loop-entry-preserved c =
    let is = c.loop-place.invariant in record {
      so_far = is.so_far;
      room = is.room;
      parts = c.first_of-first-in-Some-take.ensures.parts;
      within = c.first_of-first-in-Some-take.ensures.within;
      least = c.first_of-first-in-Some-take.ensures.least;
    }

pub returns : goal.returns
returns c =
    let is = c.loop-entry.invariant in
    let left : List Part = c.loop-entry.left in
    let apart = left_different c.args.parts.items left is.so_far.0 is.so_far.2 c.requires.threads in
    let none = took left c.loop-entry.first c.index-left-first.result c.take.new.self None apart is.within is.parts is.least c.take.ensures.thread c.in_default-take.ensures.entry in
    record { merged = is.so_far.0; is = is.so_far.1; is_merge = merges_end c.args.parts.items left is.so_far.0 none is.so_far.2 }
