-- What is put and not yet taken, for one sender and one receiver, as an entry is played.
use Rattle.std.proofs.Common.{◌≡◌, ℕ, ◌<◌, ◌≤◌, Bool, true, false, cond, ◌==◌, ◌⊎◌, inl, inr, List, [], ◌∷◌, ◌++◌, drop, map, None, refl, sym, ◌∙◌, ap, ap₂, subst, eq-eqb, ne_eqb, arith, append-nil}
use Rattle.std.specs.List.{AllByRecursion}
use Rattle.std.proofs.lemmas.Bool.{cases_eq}
use Rattle.bd_base.specs.declared.act.Act.{Act}
use Rattle.bd_base.specs.declared.act.Act.TheVariants as acts
use Rattle.bd_base.specs.declared.act.Token.{Token}
use Rattle.bd_machine.specs.Table.{without_first}
use Rattle.bd_machine.specs.View.{Move, took}
use Rattle.bd_turns.specs.declared.queue.Message.{Message}
use Rattle.bd_turns.specs.Local.{sent_by, queue_after}
use Rattle.bd_turns.specs.declared.queue.Post.{Post}
use Rattle.bd_law_logs.specs.Rows.{Row, message_of, posts}
use Rattle.bd_law_logs.specs.Fits.{IsPrefixOf, IsStampedBy, IsStamped, sent_in, taken_in, sent, taken}
use Rattle.bd_law_logs.proofs.Parts.{mine}
use Rattle.bd_law_logs.proofs.Reorder.{is_from, from, moved_first, from_moved}

-- ---- lists

pub append_assoc : {X : Type 0} (xs ys zs : List X) → (xs ++ ys) ++ zs ≡ xs ++ (ys ++ zs)
append_assoc [] ys zs = refl
append_assoc (x ∷ xs) ys zs = ap (λ l. x ∷ l) (append_assoc xs ys zs)

map_append : {A B : Type 0} (f : A → B) (xs ys : List A) → map f (xs ++ ys) ≡ map f xs ++ map f ys
map_append f [] ys = refl
map_append f (x ∷ xs) ys = ap (λ l. f x ∷ l) (map_append f xs ys)

from_append : (a : ℕ) (xs ys : List Message) → from a (xs ++ ys) ≡ from a xs ++ from a ys
from_append a [] ys = refl
from_append a (x ∷ xs) ys = go (x.sender == a) (from_append a xs ys)
  where
    go : (b : Bool) → from a (xs ++ ys) ≡ from a xs ++ from a ys → cond b (x ∷ from a (xs ++ ys)) (from a (xs ++ ys)) ≡ cond b (x ∷ from a xs) (from a xs) ++ from a ys
    go true e = ap (λ l. x ∷ l) e
    go false e = e

head_same : {X : Type 0} (x y : X) (xs ys : List X) → x ∷ xs ≡ y ∷ ys → x ≡ y
head_same x y xs ys e = cc

tail_same : {X : Type 0} (x y : X) (xs ys : List X) → x ∷ xs ≡ y ∷ ys → xs ≡ ys
tail_same x y xs ys e = cc

-- what a thread sends is from it
pub from_sent : (a t : ℕ) (what : Token) (ms : List Move) → from a (sent_by t what ms) ≡ cond (t == a) (sent_by t what ms) []
from_sent a t what ms = go (t == a) refl ms
  where
    go : (b : Bool) → (t == a) ≡ b → (ms : List Move) → from a (sent_by t what ms) ≡ cond b (sent_by t what ms) []
    go true e [] = refl
    go false e [] = refl
    go true e (m ∷ ms) =
        let x : Message = record { sender = t; what = what; kept = m.kept } in
        ap (λ c. cond c (x ∷ from a (sent_by t what ms)) (from a (sent_by t what ms))) e ∙ ap (λ l. x ∷ l) (go true e ms)
    go false e (m ∷ ms) =
        let x : Message = record { sender = t; what = what; kept = m.kept } in
        ap (λ c. cond c (x ∷ from a (sent_by t what ms)) (from a (sent_by t what ms))) e ∙ go false e ms

-- ---- one sender, one receiver

-- the queue has what the sender put and the receiver hasn't taken, and what is still to be taken is a prefix of that, followed by what is still to be sent
pub record Meets (a : ℕ) (queue : List Message) (takes sends : List Post) : Type 0 where
  pub waiting : List Post
  pub waiting_is : map message_of waiting ≡ from a queue
  pub prefix : IsPrefixOf takes (waiting ++ sends)

pub meets_put : (a : ℕ) (queue ms : List Message) (takes ps sends : List Post) → Meets a queue takes (ps ++ sends) → map message_of ps ≡ from a ms → Meets a (queue ++ ms) takes sends
meets_put a queue ms takes ps sends h e = record {
  waiting = h.waiting ++ ps;
  waiting_is = map_append message_of h.waiting ps ∙ ap₂ (λ (x y : List Message). x ++ y) h.waiting_is e ∙ sym (from_append a queue ms);
  prefix = (h.prefix.0, h.prefix.1 ∙ sym (append_assoc h.waiting ps sends));
}

pub meets_same : (a : ℕ) (queue queue' : List Message) (takes sends : List Post) → Meets a queue takes sends → from a queue' ≡ from a queue → Meets a queue' takes sends
meets_same a queue queue' takes sends h e = record { waiting = h.waiting; waiting_is = h.waiting_is ∙ sym e; prefix = h.prefix }

pub meets_take : (a : ℕ) (m : Message) (queue : List Message) (p : Post) (takes sends : List Post) → m.sender ≡ a → Meets a (m ∷ queue) (p ∷ takes) sends → Meets a queue takes sends
meets_take a m queue p takes sends is h = go h.waiting h.waiting_is h.prefix.0 h.prefix.1
  where
    first : from a (m ∷ queue) ≡ m ∷ from a queue
    first = ap (λ b. cond b (m ∷ from a queue) (from a queue)) (eq-eqb m.sender a is)

    go : (w : List Post) → map message_of w ≡ from a (m ∷ queue) → (rest : List Post) → (p ∷ takes) ++ rest ≡ w ++ sends → Meets a queue takes sends
    go [] e rest f = let bad : [] ≡ m ∷ from a queue = e ∙ first in cc
    go (x ∷ w) e rest f = record {
      waiting = w;
      waiting_is = tail_same (message_of x) m (map message_of w) (from a queue) (e ∙ first);
      prefix = (rest, tail_same p x (takes ++ rest) (w ++ sends) f);
    }

-- a message with a lower stamp than all that is still to be sent waits in the queue, before the sender's others
pub waits : (a n : ℕ) (queue : List Message) (p : Post) (takes sends : List Post) → p.stamp < n → AllByRecursion (λ x. n ≤ x.stamp) sends → Meets a queue (p ∷ takes) sends → (rest : List Message) × (from a queue ≡ p.message ∷ rest)
waits a n queue p takes sends lower late h = go h.waiting h.waiting_is h.prefix.0 h.prefix.1
  where
    none : (rest sends : List Post) → p ∷ rest ≡ sends → AllByRecursion (λ x. n ≤ x.stamp) sends → ⊥
    none rest [] e l = cc
    none rest (x ∷ xs) e l =
        let same : p.stamp ≡ x.stamp = ap (λ (y : Post). y.stamp) (head_same p x rest xs e) in
        let le : n ≤ x.stamp = l.0 in
        omega arith

    go : (w : List Post) → map message_of w ≡ from a queue → (rest : List Post) → (p ∷ takes) ++ rest ≡ w ++ sends → (rest : List Message) × (from a queue ≡ p.message ∷ rest)
    go [] e rest f = absurd (none (takes ++ rest) sends f late)
    go (x ∷ w) e rest f = (map message_of w, sym e ∙ ap (λ (y : Post). y.message ∷ map message_of w) (sym (head_same p x (takes ++ rest) (w ++ sends) f)))

-- ---- what is still to be sent is late

late_in : (u n stamp : ℕ) (act : Act) (ps : List Post) → n ≤ stamp → IsStampedBy stamp act ps → AllByRecursion (λ p. n ≤ p.stamp) (sent_in u act ps)
late_in u n stamp (acts.Put to number what) ps le h = go (to == u) ps h
  where
    all : (ps : List Post) → AllByRecursion (λ p. p.stamp ≡ stamp) ps → AllByRecursion (λ p. n ≤ p.stamp) ps
    all [] h = tt
    all (p ∷ ps) h = (let e : p.stamp ≡ stamp = h.0 in omega arith, all ps h.1)

    go : (b : Bool) (ps : List Post) → AllByRecursion (λ p. p.stamp ≡ stamp) ps → AllByRecursion (λ p. n ≤ p.stamp) (cond b ps [])
    go true ps h = all ps h
    go false ps h = tt
late_in u n stamp _ ps le h = tt

all_append : {X : Type 0} (P : X → Type 0) (xs ys : List X) → AllByRecursion P xs → AllByRecursion P ys → AllByRecursion P (xs ++ ys)
all_append P [] ys h k = k
all_append P (x ∷ xs) ys h k = (h.0, all_append P xs ys h.1 k)

pub late_sent : (u n : ℕ) (rows : List Row) → AllByRecursion (λ r. n ≤ r.entry.stamp) rows → AllByRecursion IsStamped rows → AllByRecursion (λ p. n ≤ p.stamp) (sent u rows)
late_sent u n [] h k = tt
late_sent u n (r ∷ rs) h k = all_append (λ p. n ≤ p.stamp) (sent_in u r.entry.act (posts r.post)) (sent u rs) (late_in u n r.entry.stamp r.entry.act (posts r.post) h.0 k.0) (late_sent u n rs h.1 k.1)

-- ---- a list with one row more

abbrev pub thread_of : Row → ℕ
thread_of r = r.entry.thread

abbrev pub part : ℕ → List Row → List Row
part t rows = mine thread_of t rows

abbrev pub if_any : Bool → List Post → List Post
if_any b ps = cond b ps []

pub taken_next : (a u : ℕ) (x : Row) (rows : List Row) → taken a (part u (x ∷ rows)) ≡ if_any (x.entry.thread == u) (taken_in a x.entry.act (posts x.post)) ++ taken a (part u rows)
taken_next a u x rows = go (x.entry.thread == u)
  where
    go : (b : Bool) → taken a (cond b (x ∷ part u rows) (part u rows)) ≡ if_any b (taken_in a x.entry.act (posts x.post)) ++ taken a (part u rows)
    go true = refl
    go false = refl

pub sent_next : (u a : ℕ) (x : Row) (rows : List Row) → sent u (part a (x ∷ rows)) ≡ if_any (x.entry.thread == a) (sent_in u x.entry.act (posts x.post)) ++ sent u (part a rows)
sent_next u a x rows = go (x.entry.thread == a)
  where
    go : (b : Bool) → sent u (cond b (x ∷ part a rows) (part a rows)) ≡ if_any b (sent_in u x.entry.act (posts x.post)) ++ sent u (part a rows)
    go true = refl
    go false = refl

pub if_none : (b : Bool) (ps : List Post) → if_any b [] ++ ps ≡ ps
if_none true ps = refl
if_none false ps = refl

-- ---- what an act does to the queue from a to u

-- what is to be shown of an act of t, with these messages and moves, where the queues are what the act finds
abbrev pub Plays : ℕ → Act → List Post → List Move → ℕ → ℕ → List Message → List Post → List Post → Type 0
Plays t act ps moves a u queue takes sends =
    Meets a queue (if_any (t == u) (taken_in a act ps) ++ takes) (if_any (t == a) (sent_in u act ps) ++ sends) → Meets a (queue_after t act moves u queue) takes sends

pub put_plays : (t to number : ℕ) (what : Token) (ps : List Post) (moves : List Move) (a u : ℕ) (queue : List Message) (takes sends : List Post)
    → map message_of ps ≡ sent_by t what moves → Plays t (acts.Put to number what) ps moves a u queue takes sends
put_plays t to number what ps moves a u queue takes sends carried h =
    subst (λ (q : List Message). Meets a q takes sends) (queue_is (u == to))
    (meets_put a queue (cond (u == to) (sent_by t what moves) []) takes (if_any (t == a) (cond (to == u) ps [])) sends
    (subst (λ (ts : List Post). Meets a queue ts (if_any (t == a) (cond (to == u) ps []) ++ sends)) (if_none (t == u) takes) h)
    (same (cases_eq to u)))
  where
    queue_is : (b : Bool) → queue ++ cond b (sent_by t what moves) [] ≡ cond b (queue ++ sent_by t what moves) queue
    queue_is true = refl
    queue_is false = append-nil queue

    given : (b : Bool) → map message_of (if_any b ps) ≡ cond b (sent_by t what moves) []
    given true = carried
    given false = refl

    nothing : (b : Bool) → map message_of (if_any b []) ≡ []
    nothing true = refl
    nothing false = refl

    same : (to ≡ u) ⊎ (to ≡ u → ⊥) → map message_of (if_any (t == a) (cond (to == u) ps [])) ≡ from a (cond (u == to) (sent_by t what moves) [])
    same (inl e) =
        ap (λ b. map message_of (if_any (t == a) (cond b ps []))) (eq-eqb to u e)
        ∙ given (t == a) ∙ sym (from_sent a t what moves)
        ∙ sym (ap (λ b. from a (cond b (sent_by t what moves) [])) (eq-eqb u to (sym e)))
    same (inr ne) =
        ap (λ b. map message_of (if_any (t == a) (cond b ps []))) (ne_eqb to u ne)
        ∙ nothing (t == a)
        ∙ sym (ap (λ b. from a (cond b (sent_by t what moves) [])) (ne_eqb u to (λ e. ne (sym e))))

-- a Took takes the first message, once its sender's first was put before all others
pub took_plays : (t source number : ℕ) (what : Token) (p : Post) (moves : List Move) (a u : ℕ) (queues : ℕ → List Message) (rest : List Message) (takes sends : List Post)
    → p.message.sender ≡ source → from source (queues t) ≡ p.message ∷ rest
    → Meets a (queues u) (if_any (t == u) (taken_in a (acts.Took source number what) (p ∷ [])) ++ takes) (if_any (t == a) (sent_in u (acts.Took source number what) (p ∷ [])) ++ sends)
    → Meets a (queue_after t (acts.Took source number what) moves u (cond (u == t) (moved_first source p.message (queues t)) (queues u))) takes sends
took_plays t source number what p moves a u queues rest takes sends is first h = go (cases_eq u t)
  where
    h' : Meets a (queues u) (if_any (t == u) (cond (source == a) (p ∷ []) []) ++ takes) sends
    h' = subst (λ (ss : List Post). Meets a (queues u) (if_any (t == u) (cond (source == a) (p ∷ []) []) ++ takes) ss) (if_none (t == a) sends) h

    left : List Message
    left = without_first (is_from source) (queues t)

    own : (source ≡ a) ⊎ (source ≡ a → ⊥) → Meets a (queues t) (cond (source == a) (p ∷ []) [] ++ takes) sends → Meets a (without_first (is_from source) (queues t)) takes sends
    own (inl e) k =
        meets_take a p.message (without_first (is_from source) (queues t)) p takes sends (is ∙ e)
        (meets_same a (queues t) (moved_first source p.message (queues t)) (p ∷ takes) sends
        (subst (λ (b : Bool). Meets a (queues t) (cond b (p ∷ []) [] ++ takes) sends) (eq-eqb source a e) k)
        (from_moved source p.message rest a (queues t) first))
    own (inr ne) k =
        meets_same a (queues t) (without_first (is_from source) (queues t)) takes sends
        (subst (λ (b : Bool). Meets a (queues t) (cond b (p ∷ []) [] ++ takes) sends) (ne_eqb source a ne) k)
        (sym (ap (λ b. cond b (p.message ∷ from a (without_first (is_from source) (queues t))) (from a (without_first (is_from source) (queues t)))) (ne_eqb p.message.sender a (λ e. ne (sym is ∙ e))))
        ∙ from_moved source p.message rest a (queues t) first)

    go : (u ≡ t) ⊎ (u ≡ t → ⊥) → Meets a (cond (u == t) (drop 1 (cond (u == t) (moved_first source p.message (queues t)) (queues u))) (cond (u == t) (moved_first source p.message (queues t)) (queues u))) takes sends
    go (inl e) =
        subst (λ (b : Bool). Meets a (cond b (drop 1 (cond b (moved_first source p.message (queues t)) (queues u))) (cond b (moved_first source p.message (queues t)) (queues u))) takes sends) (sym (eq-eqb u t e))
        (own (cases_eq source a)
        (subst (λ (k : ℕ). Meets a (queues k) (cond (source == a) (p ∷ []) [] ++ takes) sends) e
        (subst (λ (b : Bool). Meets a (queues u) (if_any b (cond (source == a) (p ∷ []) []) ++ takes) sends) (eq-eqb t u (sym e)) h')))
    go (inr ne) =
        subst (λ (b : Bool). Meets a (cond b (drop 1 (cond b (moved_first source p.message (queues t)) (queues u))) (cond b (moved_first source p.message (queues t)) (queues u))) takes sends) (sym (ne_eqb u t ne))
        (subst (λ (b : Bool). Meets a (queues u) (if_any b (cond (source == a) (p ∷ []) []) ++ takes) sends) (ne_eqb t u (λ e. ne (sym e))) h')

-- what an act is to the queues
pub data Kind (act : Act) : Type 0 where
  Puts : (to number : ℕ) (what : Token) → act ≡ acts.Put to number what → Kind act
  Tooks : (source number : ℕ) (what : Token) → act ≡ acts.Took source number what → Kind act
  Neither : ((u : ℕ) (ps : List Post) → sent_in u act ps ≡ []) → ((a : ℕ) (ps : List Post) → taken_in a act ps ≡ []) → ((t : ℕ) (moves : List Move) (r : ℕ) (q : List Message) → queue_after t act moves r q ≡ q)
      → took act ≡ None → Kind act

pub kind_of : (act : Act) → Kind act
kind_of (acts.Put to number what) = Puts to number what refl
kind_of (acts.Took source number what) = Tooks source number what refl
kind_of _ = Neither (λ u ps. refl) (λ a ps. refl) (λ t moves r q. refl) refl

pub neither_plays : (t : ℕ) (act : Act) (ps : List Post) (moves : List Move) (a u : ℕ) (queue : List Message) (takes sends : List Post)
    → sent_in u act ps ≡ [] → taken_in a act ps ≡ [] → queue_after t act moves u queue ≡ queue → Plays t act ps moves a u queue takes sends
neither_plays t act ps moves a u queue takes sends no_put no_take q h =
    subst (λ (x : List Message). Meets a x takes sends) (sym q)
    (subst (λ (ts : List Post). Meets a queue ts sends) (ap (λ x. if_any (t == u) x ++ takes) no_take ∙ if_none (t == u) takes)
    (subst (λ (ss : List Post). Meets a queue (if_any (t == u) (taken_in a act ps) ++ takes) ss) (ap (λ x. if_any (t == a) x ++ sends) no_put ∙ if_none (t == a) sends) h))
