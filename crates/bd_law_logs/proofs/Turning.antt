-- What a thread does by the local rules over its own queues and registry are rows that are accepted: entry by entry.
use Rattle.std.proofs.Common.{◌≡◌, ◌≢◌, ℕ, ◌<◌, Bool, true, false, cond, ◌||◌, ◌==◌, nat_lt, ◌⊎◌, inl, inr, List, [], ◌∷◌, ◌++◌, drop, map, Option, Some, None, option_and_then, refl, sym, ◌∙◌, ap, ap₂, subst, append_assoc, append-nil, eq-eqb, ne_eqb, lt-ltb}
use Rattle.std.proofs.lemmas.Bool.{and_parts, cases_eq}
use Rattle.std.proofs.lemmas.List.{map-append}
use Rattle.bd_base.specs.declared.act.Act.{Act}
use Rattle.bd_base.specs.declared.act.Act.TheVariants as acts
use Rattle.bd_base.specs.declared.act.Entry.{Entry}
use Rattle.bd_base.specs.declared.act.Token.{Token}
use Rattle.bd_base.specs.declared.setup.Setup.{Setup}
use Rattle.bd_machine.specs.declared.guard.TheConstants.{UNBUILT, IN_ORDER}
use Rattle.bd_machine.specs.declared.state.Registry.{Registry}
use Rattle.bd_machine.specs.Guards.{guards, change, is_built}
use Rattle.bd_machine.specs.Messages.{count_at, brings}
use Rattle.bd_machine.specs.Registry.{Question, answer_to}
use Rattle.bd_machine.specs.Step.{is_shutdown}
use Rattle.bd_machine.specs.View.{View, Came, Change, Move, Taking, took, asked}
use Rattle.bd_machine.proofs.Acts.{Passes, passed}
use Rattle.bd_turns.specs.declared.queue.Message.{Message}
use Rattle.bd_turns.specs.declared.queue.Post.{Post}
use Rattle.bd_turns.specs.Local.{Local, first_of, sent_by, came_local, change_local, refusal_local, queue_after, carried_local, local_after}
use Rattle.bd_turns.proofs.Allowed.{all_pass}
use Rattle.bd_turns.proofs.Effects.{Sends, brings_some, sends}
use Rattle.bd_turns.proofs.Queues.{First, first_is}
use Rattle.bd_law_logs.specs.Rows.{Row, posts, message_of, messages, came_by, refusal_by, view_after, CarriesBy, Carries, Accepts}
use Rattle.bd_law_logs.specs.Journals.{IsAnswered, IsReplay, IsBetweenIfAny, between_for, followed_from, registry_by, registry_next}
use Rattle.bd_law_logs.specs.Fits.{sent_in, sent}
use Rattle.bd_law_logs.specs.Turning.{put_to, took_in, took_all, CarriesOne, AreRowsOf, TurnIsAccepted}
use Rattle.bd_law_logs.proofs.Exact.{answer_exact}
use Rattle.bd_law_logs.proofs.Step.{came_is}

-- ---- the row of an entry

abbrev first_post : ℕ → List Message → Option Post
first_post n [] = None
first_post n (m ∷ ms) = Some (record { message = m; stamp = n })

abbrev post_by : ℕ → ℕ → Act → List Move → List Message → Option Post
post_by n t (acts.Put to number what) moves queue = first_post n (sent_by t what moves)
post_by n t (acts.Took source number what) moves queue = first_post n queue
post_by n t _ moves queue = None

-- what came as its answer is what an event names
answered : (setup : Setup) (t : ℕ) (l : Local) (act : Act) → Passes (guards setup t l.view act (came_local setup t l act)) → IsAnswered setup l.shared.registry t (asked act)
answered setup t l (acts.Reg event answer) h =
    sym (answer_exact answer (answer_to setup l.shared.registry t event) (passed (guards setup t l.view (acts.Reg event answer) (came_local setup t l (acts.Reg event answer))) h).0)
answered setup t l _ h = tt

between_is : (registry : Registry) (e : Entry) → IsBetweenIfAny registry (between_for registry e) (asked e.act)
between_is registry e = go (asked e.act)
  where
    go : (o : Option Question) → IsBetweenIfAny registry (option_and_then (λ q. registry.between) o) o
    go None = tt
    go (Some q) = refl

-- ---- its messages

-- what a row has of an act's message, and what the act leaves of the queues
record CarriedBy (n t : ℕ) (act : Act) (c : Change) (queues : ℕ → List Message) : Type 0 where
  message : (q : Taking) → took act ≡ Some q → first_of t (queues t) q ≡ first_of t (map message_of (posts (post_by n t act c.moves (queues t)))) q
  carries : CarriesBy act t c (map message_of (posts (post_by n t act c.moves (queues t))))
  one : CarriesOne act (posts (post_by n t act c.moves (queues t)))
  own : took_in act (map message_of (posts (post_by n t act c.moves (queues t)))) ++ queue_after t act c.moves t (queues t)
      ≡ queues t ++ map message_of (sent_in t act (posts (post_by n t act c.moves (queues t))))
  others : (r : ℕ) → r ≢ t → queue_after t act c.moves r (queues r) ≡ queues r ++ map message_of (sent_in r act (posts (post_by n t act c.moves (queues t))))

-- a Put of one message
put_carried : (n t to number : ℕ) (what : Token) (c : Change) (queues : ℕ → List Message) (m : Message) → sent_by t what c.moves ≡ m ∷ [] → CarriedBy n t (acts.Put to number what) c queues
put_carried n t to number what c queues m is = record {
  message = λ q e. (let bad : None ≡ Some q = e in cc);
  carries = subst (λ (ms : List Message). map message_of (posts (first_post n ms)) ≡ ms) (sym is) refl;
  one = subst (λ (ms : List Message). CarriesOne (acts.Put to number what) (posts (first_post n ms))) (sym is) tt;
  own = all t;
  others = λ r ne. all r;
}
  where
    flipped : (a b : ℕ) → (a == b) ≡ (b == a)
    flipped a b = go (cases_eq a b)
      where
        go : (a ≡ b) ⊎ (a ≡ b → ⊥) → (a == b) ≡ (b == a)
        go (inl e) = eq-eqb a b e ∙ sym (eq-eqb b a (sym e))
        go (inr ne) = ne_eqb a b ne ∙ sym (ne_eqb b a (λ e. ne (sym e)))

    by : (r : ℕ) (b : Bool) (ms : List Message) → ms ≡ m ∷ [] → cond b (queues r ++ ms) (queues r) ≡ queues r ++ map message_of (cond b (posts (first_post n ms)) [])
    by r true ms e = subst (λ (xs : List Message). queues r ++ xs ≡ queues r ++ map message_of (posts (first_post n xs))) (sym e) refl
    by r false ms e = sym (append-nil (queues r))

    all : (r : ℕ) → cond (r == to) (queues r ++ sent_by t what c.moves) (queues r) ≡ queues r ++ map message_of (cond (to == r) (posts (first_post n (sent_by t what c.moves))) [])
    all r = ap (λ b. cond b (queues r ++ sent_by t what c.moves) (queues r)) (flipped r to) ∙ by r (to == r) (sent_by t what c.moves) is

-- a Took of the first message
took_carried : (n t source number : ℕ) (what : Token) (c : Change) (queues : ℕ → List Message) (m : Message) (ms : List Message) → queues t ≡ m ∷ ms → m.sender ≡ source
    → CarriedBy n t (acts.Took source number what) c queues
took_carried n t source number what c queues m ms is sender = record {
  message = λ q e. subst (λ (xs : List Message). first_of t xs q ≡ first_of t (map message_of (posts (first_post n xs))) q) (sym is) refl;
  carries = tt;
  one = subst (λ (xs : List Message). CarriesOne (acts.Took source number what) (posts (first_post n xs))) (sym is) sender;
  own = subst (λ (xs : List Message). map message_of (posts (first_post n xs)) ++ cond (t == t) (drop 1 xs) xs ≡ xs ++ []) (sym is)
      (ap (λ b. m ∷ cond b ms (m ∷ ms)) (eq-eqb t t refl) ∙ sym (append-nil (m ∷ ms)));
  others = λ r ne. ap (λ b. cond b (drop 1 (queues r)) (queues r)) (ne_eqb r t ne) ∙ sym (append-nil (queues r));
}

carried_by : (setup : Setup) (n t : ℕ) (v : View) (queues : ℕ → List Message) (act : Act) (came : Came) → came.message ≡ option_and_then (first_of t (queues t)) (took act)
    → Passes (guards setup t v act came) → CarriedBy n t act (change setup t v act came) queues
carried_by setup n t v queues (acts.Put to number what) came is h =
    let s : Sends t v to number what = sends setup t v came to number what h in
    put_carried n t to number what (change setup t v (acts.Put to number what) came) queues (record { sender = t; what = what; kept = s.kept }) (ap (sent_by t what) s.moves_are)
carried_by setup n t v queues (acts.Took source number what) came is h =
    let taking : Taking = record { source = source; number = number; what = what } in
    let brought : brings what came.message ≡ true = (and_parts (number == count_at v.part.taken source) (brings what came.message) (passed (guards setup t v (acts.Took source number what) came) h).0).1 in
    let f : First t (queues t) taking = first_is t (queues t) taking (brings_some what (first_of t (queues t) taking) (subst (λ o. brings what o ≡ true) is brought)) in
    took_carried n t source number what (change setup t v (acts.Took source number what) came) queues f.m f.ms f.is f.sender_is
carried_by setup n t v queues _ came is h = record {
  message = λ q e. (let bad : None ≡ Some q = e in cc);
  carries = tt;
  one = tt;
  own = sym (append-nil (queues t));
  others = λ r ne. sym (append-nil (queues r));
}

-- ---- one entry

or_false : (b : Bool) → (b || false) ≡ b
or_false true = refl
or_false false = refl

module _ (setup : Setup) (t : ℕ) (l : Local) (e : Entry) (n : ℕ) (positive : 0 < n) (still : is_shutdown e.act ≡ false) (allowed : refusal_local setup t l e ≡ None) where
  abbrev entry_now : Entry
  entry_now = record { stamp = n; thread = t; act = e.act }

  abbrev row : Row
  row = record { entry = entry_now; post = post_by n t e.act (change_local setup t l e.act).moves (l.shared.queues t); between = between_for l.shared.registry entry_now }

  abbrev gs : List (ℕ × Bool)
  gs = guards setup t l.view e.act (came_local setup t l e.act)

  built : is_built e.act ≡ true
  built = (passed ((UNBUILT, is_built e.act) ∷ (IN_ORDER, nat_lt l.shared.stamp e.stamp) ∷ gs) allowed).0

  passes : Passes gs
  passes = all_pass gs (passed ((UNBUILT, is_built e.act) ∷ (IN_ORDER, nat_lt l.shared.stamp e.stamp) ∷ gs) allowed).1.1

  carried : CarriedBy n t e.act (change_local setup t l e.act) l.shared.queues
  carried = carried_by setup n t l.view l.shared.queues e.act (came_local setup t l e.act) refl passes

  replies : IsAnswered setup l.shared.registry t (asked e.act)
  replies = answered setup t l e.act passes

  came : came_local setup t l e.act ≡ came_by l.shared.shut t row
  came = came_is setup t l row l.shared.shut refl carried.message replies (between_is l.shared.registry entry_now)

  unrefused : refusal_by setup l.shared.shut t l.view row ≡ None
  unrefused =
      all_pass ((UNBUILT, is_built e.act) ∷ (IN_ORDER, nat_lt 0 n) ∷ guards setup t l.view e.act (came_by l.shared.shut t row))
      (built, (lt-ltb 0 n positive, passed (guards setup t l.view e.act (came_by l.shared.shut t row)) (subst (λ (c : Came). Passes (guards setup t l.view e.act c)) came passes)))

  carries : Carries setup l.shared.shut t l.view row
  carries = subst (λ (c : Came). CarriesBy e.act t (change setup t l.view e.act c) (messages row)) came carried.carries

  next : Local
  next = local_after setup t l e

  view_is : view_after setup l.shared.shut t l.view row ≡ next.view
  unfolding local_after view_after next
  view_is = ap (λ (c : Came). (carried_local setup t l e (change setup t l.view e.act c)).view) (sym came)

  shut_next : next.shared.shut ≡ l.shared.shut
  unfolding local_after next
  shut_next = ap (λ b. l.shared.shut || b) still ∙ or_false l.shared.shut

  registry_is : next.shared.registry ≡ registry_next setup l.shared.registry entry_now
  unfolding local_after next
  registry_is = refl

  own_next : took_in e.act (messages row) ++ next.shared.queues t ≡ l.shared.queues t ++ map message_of (sent_in t e.act (posts row.post))
  unfolding local_after next
  own_next = carried.own

  others_next : (r : ℕ) → r ≢ t → next.shared.queues r ≡ l.shared.queues r ++ map message_of (sent_in r e.act (posts row.post))
  unfolding local_after next
  others_next r ne = carried.others r ne

  -- with the rows of what follows
  extended : (fs : List Entry) (l' : Local) (rows : List Row) → AreRowsOf setup t (local_after setup t l e) fs l' rows → AreRowsOf setup t l (entry_now ∷ fs) l' (row ∷ rows)
  unfolding next
  extended fs l' rows h = record {
    entries_are = ap (λ (es : List Entry). entry_now ∷ es) h.entries_are;
    accepts = (
      refl,
      still,
      unrefused,
      carries,
      subst (λ (v : View). Accepts setup l.shared.shut t v rows l'.view) (sym view_is) (subst (λ b. Accepts setup b t (local_after setup t l e).view rows l'.view) shut_next h.accepts),
    );
    carry = (carried.one, h.carry);
    own_queue =
        append_assoc (took_in e.act (messages row)) (took_all rows) (l'.shared.queues t)
        ∙ ap (λ (ms : List Message). took_in e.act (messages row) ++ ms) h.own_queue
        ∙ sym (append_assoc (took_in e.act (messages row)) ((local_after setup t l e).shared.queues t) (put_to t rows))
        ∙ ap (λ (ms : List Message). ms ++ put_to t rows) own_next
        ∙ append_assoc (l.shared.queues t) (map message_of (sent_in t e.act (posts row.post))) (put_to t rows)
        ∙ ap (λ (ms : List Message). l.shared.queues t ++ ms) (sym (map-append message_of (sent_in t e.act (posts row.post)) (sent t rows)));
    other_queues = λ r ne. (
        h.other_queues r ne
        ∙ ap (λ (ms : List Message). ms ++ put_to r rows) (others_next r ne)
        ∙ append_assoc (l.shared.queues r) (map message_of (sent_in r e.act (posts row.post))) (put_to r rows)
        ∙ ap (λ (ms : List Message). l.shared.queues r ++ ms) (sym (map-append message_of (sent_in r e.act (posts row.post)) (sent r rows))));
    shut_is = h.shut_is ∙ shut_next;
    registry_is = h.registry_is ∙ ap (λ (g : Registry). registry_by setup g fs) registry_is;
    replay = (replies, subst (λ (g : Registry). IsReplay setup g fs) registry_is h.replay);
    followed = ap₂ (λ x xs. x ∷ xs) refl (h.followed ∙ ap (λ (g : Registry). followed_from setup g fs) registry_is);
  }

-- ---- all entries

entry_eq : (t : ℕ) (e f : Entry) → f.thread ≡ t → f.act ≡ e.act → record { stamp = f.stamp; thread = t; act = e.act } ≡ f
entry_eq t e f thread act = ap₂ (λ (u : ℕ) (a : Act). let x : Entry = record { stamp = f.stamp; thread = u; act = a } in x) (sym thread) (sym act)

pub turn_is_accepted : TurnIsAccepted
turn_is_accepted setup t l l' [] [] leads same = (
  [],
  record {
    entries_are = refl;
    accepts = ap (λ (x : Local). x.view) leads;
    carry = tt;
    own_queue = ap (λ (x : Local). x.shared.queues t) (sym leads) ∙ sym (append-nil (l.shared.queues t));
    other_queues = λ r ne. (ap (λ (x : Local). x.shared.queues r) (sym leads) ∙ sym (append-nil (l.shared.queues r)));
    shut_is = ap (λ (x : Local). x.shared.shut) (sym leads);
    registry_is = ap (λ (x : Local). x.shared.registry) (sym leads);
    replay = tt;
    followed = refl;
  },
)
turn_is_accepted setup t l l' [] (f ∷ fs) leads same = absurd same
turn_is_accepted setup t l l' (e ∷ es) [] leads same = absurd same
turn_is_accepted setup t l l' (e ∷ es) (f ∷ fs) leads same =
    let rest = turn_is_accepted setup t (local_after setup t l e) l' es fs leads.3 same.3 in
    let f_is : record { stamp = f.stamp; thread = t; act = e.act } ≡ f = entry_eq t e f (same.0 ∙ leads.0) same.1 in (
      row setup t l e f.stamp same.2 leads.1 leads.2 ∷ rest.0,
      subst (λ (x : Entry). AreRowsOf setup t l (x ∷ fs) l' (row setup t l e f.stamp same.2 leads.1 leads.2 ∷ rest.0)) f_is (extended setup t l e f.stamp same.2 leads.1 leads.2 fs l' rest.0 rest.1),
    )
