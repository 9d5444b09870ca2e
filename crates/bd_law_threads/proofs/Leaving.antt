-- How a course goes on where messages leave a thread's queues for rings.
use Rattle.std.proofs.Common.{◌≡◌, ◌≢◌, ℕ, ◌+◌, ◌≤◌, List, [], ◌∷◌, ◌++◌, map, length, sym, ◌∙◌, ap, ap₂, subst, append_assoc, length-append, arith}
use Rattle.std.specs.List.{AllByRecursion}
use Rattle.std.proofs.lemmas.List.{map-append, length-map}
use Rattle.bd_base.specs.declared.setup.Setup.{Setup}
use Rattle.bd_turns.specs.declared.queue.Message.{Message}
use Rattle.bd_turns.specs.declared.queue.Post.{Post}
use Rattle.bd_turns.specs.Local.{Local}
use Rattle.bd_law_logs.specs.Rows.{message_of}
use Rattle.bd_law_logs.specs.Loose.{put_stamps}
use Rattle.bd_law_logs.specs.Turning.{put_to, took_all}
use Rattle.bd_law_threads.specs.Course.{all_rows, stamp_of, AreNotAbove, Course, IsCourse, Phase}
use Rattle.bd_law_threads.specs.Steps.{Goes, GoesOut}
use Rattle.bd_law_threads.proofs.Lists.{not_above_more}
use Rattle.bd_law_threads.proofs.Rows.{put_count, puts_within}

-- posts with this stamp, by their stamps alone
stamps_same : (last : ℕ) (ps : List Post) → AllByRecursion (λ m. m.stamp ≡ last) ps → AllByRecursion (λ n. n ≡ last) (map stamp_of ps)
stamps_same last [] h = tt
stamps_same last (p ∷ ps) h = (h.0, stamps_same last ps h.1)

module _ (setup : Setup) (t : ℕ) (p : Phase) (c : Course) (l : Local) (h : IsCourse setup t p c l) (r : ℕ) (ne : r ≢ t)
    (posts : List Post) (left : List Message) (goes : Goes c.last posts (l.shared.queues r) left) where
  -- what was put to another thread is in its ring or still here
  puts_are : map message_of (c.sent r ++ posts) ++ left ≡ put_to r (all_rows p c)
  puts_are =
      ap (λ (ms : List Message). ms ++ left) (map-append message_of (c.sent r) posts)
      ∙ append_assoc (map message_of (c.sent r)) (map message_of posts) left
      ∙ ap (λ (ms : List Message). map message_of (c.sent r) ++ ms) goes.queue_is
      ∙ h.puts r ne

  -- no more went into the ring than was put
  enough : length (map stamp_of (c.sent r)) + length (map stamp_of posts) ≤ length (put_stamps r (all_rows p c))
  enough =
      let all = ap length puts_are in
      let parts = length-append (map message_of (c.sent r ++ posts)) left in
      let both = length-map (c.sent r ++ posts) message_of in
      let each = length-append (c.sent r) posts in
      let first = length-map (c.sent r) stamp_of in
      let second = length-map posts stamp_of in
      let count = put_count r (all_rows p c) h.carry in
      omega arith

  -- so each in the ring has a stamp that is not below its entry's
  stamped_are : AreNotAbove (put_stamps r (all_rows p c)) (map stamp_of (c.sent r ++ posts))
  stamped_are =
      subst (λ (ns : List ℕ). AreNotAbove (put_stamps r (all_rows p c)) ns) (sym (map-append stamp_of (c.sent r) posts))
      (not_above_more c.last (put_stamps r (all_rows p c)) (map stamp_of (c.sent r)) (map stamp_of posts) (h.stamped r ne)
      (puts_within r c.last (all_rows p c) h.within) (stamps_same c.last posts goes.stamped) enough)

-- the course with the posts that went
pub departures_are_stamped : GoesOut
departures_are_stamped setup t p c l posts queues none same goes h = record {
  accepts = h.accepts;
  carry = h.carry;
  since = h.since;
  late = h.late;
  within = h.within;
  queue = ap (λ (ms : List Message). took_all (all_rows p c) ++ ms) same ∙ h.queue;
  lower = h.lower;
  met = h.met;
  others = h.others;
  own = h.own;
  senders = h.senders;
  puts = λ r ne. puts_are setup t p c l h r ne (posts r) (queues r) (goes r ne);
  stamped = λ r ne. stamped_are setup t p c l h r ne (posts r) (queues r) (goes r ne);
  none_own = ap₂ (λ (xs ys : List Post). xs ++ ys) h.none_own none;
  replica = h.replica;
  wrote = h.wrote;
  followed = h.followed;
  served = h.served;
  held = h.held;
}
