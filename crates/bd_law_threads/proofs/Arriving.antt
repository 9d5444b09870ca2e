-- How a course begins, and how it goes on where messages come and where the log meets a stamp.
use Rattle.std.proofs.Common.{◌≡◌, ◌≢◌, ℕ, ◌<◌, ◌≤◌, cond, ◌==◌, List, [], ◌++◌, map, refl, sym, ◌∙◌, ap, subst, append_assoc, append-nil, eq-eqb, ne_eqb, arith}
use Rattle.std.specs.List.{AllByRecursion}
use Rattle.std.proofs.lemmas.List.{map-append}
use Rattle.std.proofs.lemmas.List.Elements.{filter-append}
use Rattle.bd_base.specs.declared.setup.Setup.{Setup}
use Rattle.bd_turns.specs.declared.queue.Message.{Message}
use Rattle.bd_turns.specs.declared.queue.Post.{Post}
use Rattle.bd_turns.specs.Local.{Local}
use Rattle.bd_log.proofs.Order.{all_append, all_map}
use Rattle.bd_ring.specs.Posts.{sent_by}
use Rattle.bd_law_logs.specs.Rows.{Row, message_of}
use Rattle.bd_law_logs.specs.Loose.{put_stamps, AreLower}
use Rattle.bd_law_logs.specs.Turning.{put_to, took_all}
use Rattle.bd_law_threads.specs.Course.{all_rows, stamp_of, take_stamps, Course, IsCourse, Phase}
use Rattle.bd_law_threads.specs.Steps.{with_arrived, Arrives, Begins, Meets}
use Rattle.bd_law_threads.proofs.Lists.{left_nil, right_nil, lower_on}

-- ---- the start

-- nothing was done
pub course_begins : Begins
course_begins setup told t = record {
  accepts = refl;
  carry = tt;
  since = omega arith;
  late = tt;
  within = tt;
  queue = refl;
  lower = tt;
  met = tt;
  others = λ s ne. refl;
  own = λ none. (refl, refl);
  senders = tt;
  puts = λ r ne. refl;
  stamped = λ r ne. tt;
  none_own = refl;
  replica = refl;
  wrote = refl;
  followed = refl;
  served = λ dev. refl;
  held = refl;
}

-- ---- a stamp

-- rows within a stamp are within a later one
rows_within : (a b : ℕ) (rows : List Row) → a ≤ b → AllByRecursion (λ r. r.entry.stamp ≤ a) rows → AllByRecursion (λ r. r.entry.stamp ≤ b) rows
rows_within a b rows le h = all_map (λ (r : Row). r.entry.stamp ≤ a) (λ (r : Row). r.entry.stamp ≤ b) rows (λ r k. omega arith) h

-- so are posts
posts_within : (a b : ℕ) (ps : List Post) → a ≤ b → AllByRecursion (λ m. m.stamp ≤ a) ps → AllByRecursion (λ m. m.stamp ≤ b) ps
posts_within a b ps le h = all_map (λ (m : Post). m.stamp ≤ a) (λ (m : Post). m.stamp ≤ b) ps (λ m k. omega arith) h

-- the course with a later last stamp
pub stamps_are_met : Meets
stamps_are_met setup t p c l last le h = record {
  accepts = h.accepts;
  carry = h.carry;
  since = (let k : p.since ≤ c.last = h.since in omega arith);
  late = h.late;
  within = rows_within c.last last (all_rows p c) le h.within;
  queue = h.queue;
  lower = h.lower;
  met = posts_within c.last last c.arrived le h.met;
  others = h.others;
  own = h.own;
  senders = h.senders;
  puts = h.puts;
  stamped = h.stamped;
  none_own = h.none_own;
  replica = h.replica;
  wrote = h.wrote;
  followed = h.followed;
  served = h.served;
  held = h.held;
}

-- ---- messages

-- the posts of one sender are those among the first, and then those among the others
sent_by_on : (s : ℕ) (xs ys : List Post) → sent_by s (xs ++ ys) ≡ sent_by s xs ++ sent_by s ys
sent_by_on s xs ys = filter-append (λ (p : Post). p.message.sender == s) xs ys

module _ (t : ℕ) (queues : ℕ → List Message) (ms : List Message) where
  -- they are last in the thread's own queue
  own_queue : with_arrived t ms queues t ≡ queues t ++ ms
  own_queue = ap (λ b. cond b (queues t ++ ms) (queues t)) (eq-eqb t t refl)

  -- the other queues stay
  other_queue : (r : ℕ) → r ≢ t → with_arrived t ms queues r ≡ queues r
  other_queue r ne = ap (λ b. cond b (queues r ++ ms) (queues r)) (ne_eqb r t ne)

module _ (setup : Setup) (t : ℕ) (p : Phase) (c : Course) (l : Local) (posts : List Post) (h : IsCourse setup t p c l) where
  -- they are last in what came
  queue_is : took_all (all_rows p c) ++ with_arrived t (map message_of posts) l.shared.queues t ≡ map message_of (c.arrived ++ posts)
  queue_is =
      ap (λ (ms : List Message). took_all (all_rows p c) ++ ms) (own_queue t l.shared.queues (map message_of posts))
      ∙ sym (append_assoc (took_all (all_rows p c)) (l.shared.queues t) (map message_of posts))
      ∙ ap (λ (ms : List Message). ms ++ map message_of posts) h.queue
      ∙ sym (map-append message_of c.arrived posts)

  -- what was taken has the stamps that it had
  lower_is : AreLower (map stamp_of (c.arrived ++ posts)) (take_stamps (all_rows p c))
  lower_is =
      subst (λ (ns : List ℕ). AreLower ns (take_stamps (all_rows p c))) (sym (map-append stamp_of c.arrived posts))
      (lower_on (map stamp_of c.arrived) (map stamp_of posts) (take_stamps (all_rows p c)) h.lower)

  -- they came from the ring
  others_are : (s : ℕ) → s ≢ t → sent_by s (c.arrived ++ posts) ≡ sent_by s (c.taken ++ posts)
  others_are s ne = sent_by_on s c.arrived posts ∙ ap (λ (ps : List Post). ps ++ sent_by s posts) (h.others s ne) ∙ sym (sent_by_on s c.taken posts)

  -- where none of the thread's own was in the ring, none is among these
  own_is : sent_by t (c.taken ++ posts) ≡ []
      → (map message_of (sent_by t (c.arrived ++ posts)) ≡ put_to t (all_rows p c)) × (map stamp_of (sent_by t (c.arrived ++ posts)) ≡ put_stamps t (all_rows p c))
  own_is none =
      let split : sent_by t c.taken ++ sent_by t posts ≡ [] = sym (sent_by_on t c.taken posts) ∙ none in
      let same : sent_by t (c.arrived ++ posts) ≡ sent_by t c.arrived =
      sent_by_on t c.arrived posts ∙ ap (λ (ps : List Post). sent_by t c.arrived ++ ps) (right_nil (sent_by t c.taken) (sent_by t posts) split) ∙ append-nil (sent_by t c.arrived) in
      let own = h.own (left_nil (sent_by t c.taken) (sent_by t posts) split) in
      (ap (map message_of) same ∙ own.0, ap (map stamp_of) same ∙ own.1)

-- the course with the posts that came
pub arrivals_are_met : Arrives
arrivals_are_met setup t p c l posts last le within senders h = record {
  accepts = h.accepts;
  carry = h.carry;
  since = (let k : p.since ≤ c.last = h.since in omega arith);
  late = h.late;
  within = rows_within c.last last (all_rows p c) le h.within;
  queue = queue_is setup t p c l posts h;
  lower = lower_is setup t p c l posts h;
  met = all_append (λ (m : Post). m.stamp ≤ last) c.arrived posts (posts_within c.last last c.arrived le h.met) within;
  others = others_are setup t p c l posts h;
  own = own_is setup t p c l posts h;
  senders = all_append (λ (m : Post). m.message.sender < setup.threads) c.taken posts h.senders senders;
  puts = λ r ne. (ap (λ (ms : List Message). map message_of (c.sent r) ++ ms) (other_queue t l.shared.queues (map message_of posts) r ne) ∙ h.puts r ne);
  stamped = h.stamped;
  none_own = h.none_own;
  replica = h.replica;
  wrote = h.wrote;
  followed = h.followed;
  served = h.served;
  held = h.held;
}
