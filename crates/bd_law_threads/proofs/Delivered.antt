-- What one thread took of another is what the other put to it, by messages and by stamps, where the ring between them gave what was put into it.
use Rattle.std.proofs.Common.{◌≡◌, ◌≢◌, ℕ, ◌<◌, ◌≤◌, ◌==◌, List, [], ◌++◌, map, refl, sym, ◌∙◌, ap, subst, append_assoc, arith}
use Rattle.std.proofs.lemmas.List.{map-append}
use Rattle.std.proofs.lemmas.List.Elements.{filter-append}
use Rattle.bd_base.specs.declared.setup.Setup.{Setup}
use Rattle.bd_turns.specs.declared.queue.Message.{Message}
use Rattle.bd_turns.specs.declared.queue.Post.{Post}
use Rattle.bd_turns.specs.Local.{Local}
use Rattle.bd_ring.specs.Posts.{sent_by}
use Rattle.bd_law_logs.specs.Rows.{Row, message_of}
use Rattle.bd_law_logs.specs.Fits.{IsPrefixOf}
use Rattle.bd_law_logs.specs.Loose.{put_stamps, took_stamps, AreLower}
use Rattle.bd_law_logs.specs.Turning.{put_to, took_all, took_from}
use Rattle.bd_law_threads.specs.Course.{all_rows, stamp_of, AreNotAbove, Course, IsCourse, Phase}
use Rattle.bd_law_threads.proofs.Lists.{left_nil, lower_through}
use Rattle.bd_law_threads.proofs.Senders.{from_sender, from_sender_of, lower_of, none_sent, took_is}

-- what rows of t took of s is what rows of s put to t, in order, and later
pub record Passed (s t : ℕ) (from to : List Row) : Type 0 where
  pub messages : IsPrefixOf (took_from s to) (put_to t from)
  pub later : AreLower (put_stamps t from) (took_stamps s to)

-- nothing was taken where there is nothing
pub none_passed : (s t : ℕ) (from : List Row) → Passed s t from []
none_passed s t from = record { messages = (put_to t from, refl); later = tt }

-- what came of a sender was taken, or is in the queue
came_of : (setup : Setup) (s t : ℕ) (p : Phase) (c : Course) (l : Local) → IsCourse setup t p c l
    → took_from s (all_rows p c) ++ from_sender s (l.shared.queues t) ≡ map message_of (sent_by s c.arrived)
came_of setup s t p c l h =
    ap (λ (ms : List Message). ms ++ from_sender s (l.shared.queues t)) (sym (took_is s (all_rows p c) h.carry))
    ∙ sym (filter-append (λ (m : Message). m.sender == s) (took_all (all_rows p c)) (l.shared.queues t))
    ∙ ap (from_sender s) h.queue
    ∙ from_sender_of s c.arrived

-- and later than it came
lower_in : (setup : Setup) (s t : ℕ) (p : Phase) (c : Course) (l : Local) → IsCourse setup t p c l → AreLower (map stamp_of (sent_by s c.arrived)) (took_stamps s (all_rows p c))
lower_in setup s t p c l h = lower_of s (all_rows p c) (l.shared.queues t) c.arrived h.carry h.queue h.lower

-- between two threads
pub others_passed : (setup : Setup) (s t : ℕ) (p q : Phase) (c d : Course) (l m : Local) (left : List Post) → s ≢ t → IsCourse setup s p c l → IsCourse setup t q d m
    → sent_by s d.taken ++ left ≡ c.sent t
    → Passed s t (all_rows p c) (all_rows q d)
others_passed setup s t p q c d l m left apart h k ring = record {
  messages = (from_sender s (m.shared.queues t) ++ (map message_of left ++ l.shared.queues t), whole);
  later = lower_through (put_stamps t (all_rows p c)) (map stamp_of (sent_by s d.taken)) (map stamp_of left) (took_stamps s (all_rows q d)) high
      (subst (λ (ps : List Post). AreLower (map stamp_of ps) (took_stamps s (all_rows q d))) (k.others s apart) (lower_in setup s t q d m k));
}
  where
    back : t ≢ s
    back e = apart (sym e)

    high : AreNotAbove (put_stamps t (all_rows p c)) (map stamp_of (sent_by s d.taken) ++ map stamp_of left)
    high = subst (AreNotAbove (put_stamps t (all_rows p c))) (ap (map stamp_of) (sym ring) ∙ map-append stamp_of (sent_by s d.taken) left) (h.stamped t back)

    whole : took_from s (all_rows q d) ++ (from_sender s (m.shared.queues t) ++ (map message_of left ++ l.shared.queues t)) ≡ put_to t (all_rows p c)
    whole =
        sym (append_assoc (took_from s (all_rows q d)) (from_sender s (m.shared.queues t)) (map message_of left ++ l.shared.queues t))
        ∙ ap (λ (ms : List Message). ms ++ (map message_of left ++ l.shared.queues t)) (came_of setup s t q d m k ∙ ap (map message_of) (k.others s apart))
        ∙ sym (append_assoc (map message_of (sent_by s d.taken)) (map message_of left) (l.shared.queues t))
        ∙ ap (λ (ms : List Message). ms ++ l.shared.queues t) (sym (map-append message_of (sent_by s d.taken) left) ∙ ap (map message_of) ring)
        ∙ h.puts t back

-- of a thread to itself
pub own_passed : (setup : Setup) (t : ℕ) (p : Phase) (c : Course) (l : Local) (left : List Post) → IsCourse setup t p c l → sent_by t c.taken ++ left ≡ c.sent t
    → Passed t t (all_rows p c) (all_rows p c)
own_passed setup t p c l left h ring = record {
  messages = (from_sender t (l.shared.queues t), came_of setup t t p c l h ∙ own.0);
  later = subst (λ (ns : List ℕ). AreLower ns (took_stamps t (all_rows p c))) own.1 (lower_in setup t t p c l h);
}
  where
    own : (map message_of (sent_by t c.arrived) ≡ put_to t (all_rows p c)) × (map stamp_of (sent_by t c.arrived) ≡ put_stamps t (all_rows p c))
    own = h.own (left_nil (sent_by t c.taken) left (ring ∙ h.none_own))

-- of a thread that doesn't exist
pub absent_passed : (setup : Setup) (s t : ℕ) (p : Phase) (c : Course) (l : Local) → setup.threads ≤ s → t < setup.threads → IsCourse setup t p c l → Passed s t [] (all_rows p c)
absent_passed setup s t p c l high low h = record {
  messages = (from_sender s (l.shared.queues t), came_of setup s t p c l h ∙ ap (map message_of) none);
  later = subst (λ (ps : List Post). AreLower (map stamp_of ps) (took_stamps s (all_rows p c))) none (lower_in setup s t p c l h);
}
  where
    apart : s ≢ t
    apart e = omega arith

    none : sent_by s c.arrived ≡ []
    none = h.others s apart ∙ none_sent setup.threads s c.taken high h.senders
