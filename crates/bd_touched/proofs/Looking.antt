-- What a thread looks at, after its entries.
use Rattle.std.proofs.Common.{◌≡◌, ℕ, ◌==◌, nat_lt, nat_le, length, Bool, true, false, cond, not, ◌&&◌, ◌||◌, List, [], ◌∷◌, ◌++◌, Option, Some, None, refl, sym, ◌∙◌, ap, subst, append_assoc, append-nil, eqb-true}
use Rattle.std.specs.List.{filter, AllByRecursion}
use Rattle.std.proofs.lemmas.Bool.{and_parts}
use Rattle.std.proofs.lemmas.List.Folds.{list_any-append}
use Rattle.bd_base.specs.declared.act.Act.{Act}
use Rattle.bd_base.specs.declared.act.Act.TheVariants as acts
use Rattle.bd_base.specs.declared.act.Entry.{Entry}
use Rattle.bd_base.specs.declared.setup.Setup.{Setup}
use Rattle.bd_law_runs.proofs.Fields.{requests_after, requests_are}
use Rattle.bd_machine.specs.declared.guard.TheConstants.{UNBUILT, IN_ORDER}
use Rattle.bd_machine.specs.declared.state.Open.{Open}
use Rattle.bd_machine.specs.Asked.{most_requests, no_request}
use Rattle.bd_machine.specs.Guards.{change, guards, is_built}
use Rattle.bd_machine.specs.Same.{same_request}
use Rattle.bd_machine.specs.Step.{first_failing}
use Rattle.bd_machine.specs.Alone.{view_by}
use Rattle.bd_machine.specs.View.{View, Came, asked}
use Rattle.bd_machine.proofs.Acts.{passed}
use Rattle.bd_machine.proofs.Tables.{request_same}
use Rattle.bd_turns.specs.Local.{came_local, local_after, refusal_local, Leads, Local}
use Rattle.bd_touched.specs.Looks.{is_looked_at, Looks}
use Rattle.bd_touched.specs.Reach.{is_reached, is_touched, reach_of, reaches, Touches}
use Rattle.bd_touched.specs.Rests.{rests}
use Rattle.bd_touched.proofs.Rested.{alike_after, rests_too}

-- ---- lists

pub all_so : {X : Type 0} (P Q : X → Type 0) (xs : List X) → ((x : X) → P x → Q x) → AllByRecursion P xs → AllByRecursion Q xs
all_so P Q [] f h = tt
all_so P Q (x ∷ xs) f h = (f x h.0, all_so P Q xs f h.1)

all_push : {X : Type 0} (P : X → Type 0) (xs : List X) (x : X) → AllByRecursion P xs → P x → AllByRecursion P (xs ++ x ∷ [])
all_push P [] x h k = (k, tt)
all_push P (y ∷ ys) x h k = (h.0, all_push P ys x h.1 k)

all_filter : {X : Type 0} (P : X → Type 0) (is : X → Bool) (xs : List X) → AllByRecursion P xs → AllByRecursion P (filter is xs)
all_filter P is [] h = tt
all_filter P is (x ∷ xs) h = go (is x) (all_filter P is xs h.1)
  where
    go : (b : Bool) → AllByRecursion P (filter is xs) → AllByRecursion P (cond b (x ∷ filter is xs) (filter is xs))
    go true rest = (h.0, rest)
    go false rest = rest

-- ---- a test among others

first_or : (a b c : Bool) → a ≡ true → a || b || c ≡ true
first_or true b c h = refl
first_or false b c h = cc

second_or : (a b c : Bool) → b ≡ true → a || b || c ≡ true
second_or true b c h = refl
second_or false true c h = refl
second_or false false c h = cc

third_or : (a b c : Bool) → c ≡ true → a || b || c ≡ true
third_or true b c h = refl
third_or false true c h = refl
third_or false false c h = h

last_or : (a b : Bool) → b ≡ true → a || b ≡ true
last_or true b h = refl
last_or false b h = h

or_none : (a : Bool) → a || false ≡ a
or_none true = refl
or_none false = refl

-- the guards beside those of the order
allowed_by : (a b : Bool) (m n : ℕ) (o : Option ℕ) → cond a (cond b o (Some n)) (Some m) ≡ None → o ≡ None
allowed_by true true m n o h = h
allowed_by true false m n o h = cc
allowed_by false b m n o h = cc

-- ---- one entry

module _ (setup : Setup) (t : ℕ) (l : Local) (e : Entry) (before : List Entry) (touched : Touches) where
  reached_then : (o : Open) → is_reached setup (before ++ e ∷ []) o ≡ is_reached setup before o || (reaches setup (reach_of e.act) o || false)
  reached_then o = list_any-append (λ (x : Entry). reaches setup (reach_of x.act) o) before (e ∷ [])

  reached_now : (o : Open) → reaches setup (reach_of e.act) o ≡ true → is_reached setup (before ++ e ∷ []) o ≡ true
  reached_now o h = reached_then o ∙ last_or (is_reached setup before o) (reaches setup (reach_of e.act) o || false) (or_none (reaches setup (reach_of e.act) o) ∙ h)

  reached_still : (o : Open) → is_reached setup before o ≡ true → is_reached setup (before ++ e ∷ []) o ≡ true
  reached_still o h = reached_then o ∙ ap (λ b. b || (reaches setup (reach_of e.act) o || false)) h

  abbrev IsLooked : View → List Entry → Open → Type 0
  IsLooked v es o = (o.id.thread ≡ t) × (is_looked_at setup t es touched v o ≡ true)

  module _ (came : Came) where
    abbrev after : View
    after = view_by setup t l.view (change setup t l.view e.act came) (asked e.act)

    -- one that was looked at is so after the entry
    stays : (o : Open) → IsLooked l.view before o → IsLooked after (before ++ e ∷ []) o
    stays o h = (h.0, by_reach (reaches setup (reach_of e.act) o) refl)
      where
        by_rest : (b : Bool) → is_touched touched o.id || is_reached setup before o ≡ b → reaches setup (reach_of e.act) o ≡ false → b || rests setup t l.view touched.holds o ≡ true
            → is_looked_at setup t (before ++ e ∷ []) touched after o ≡ true
        by_rest true q apart k = by_first (is_touched touched o.id) refl q
          where
            by_first : (a : Bool) → is_touched touched o.id ≡ a → a || is_reached setup before o ≡ true → is_looked_at setup t (before ++ e ∷ []) touched after o ≡ true
            by_first true p m = first_or (is_touched touched o.id) (is_reached setup (before ++ e ∷ []) o) (rests setup t after touched.holds o) p
            by_first false p m = second_or (is_touched touched o.id) (is_reached setup (before ++ e ∷ []) o) (rests setup t after touched.holds o) (reached_still o m)
        by_rest false q apart k =
            third_or (is_touched touched o.id) (is_reached setup (before ++ e ∷ []) o) (rests setup t after touched.holds o)
            (rests_too setup t touched.holds o l.view after (alike_after setup t l.view e.act came o apart) k)

        by_reach : (b : Bool) → reaches setup (reach_of e.act) o ≡ b → is_looked_at setup t (before ++ e ∷ []) touched after o ≡ true
        by_reach true r = second_or (is_touched touched o.id) (is_reached setup (before ++ e ∷ []) o) (rests setup t after touched.holds o) (reached_now o r)
        by_reach false r = by_rest (is_touched touched o.id || is_reached setup before o) refl r h.1

    -- one that the entry accepts is its thread's own, and is reached
    accepted : (act : Act) → e.act ≡ act → first_failing (guards setup t l.view act came) ≡ None → AllByRecursion (IsLooked after (before ++ e ∷ [])) l.view.part.requests
        → AllByRecursion (IsLooked after (before ++ e ∷ [])) (requests_after act l.view.part.requests)
    accepted (acts.Accept dev lba handle req op count) is allowed h =
        let new : Open = record { id = req; handle = handle; dev = dev; op = op } in
        let fresh = (passed (guards setup t l.view (acts.Accept dev lba handle req op count) came) allowed).1.1.0 in
        let own = (and_parts (req.thread == t) (nat_le l.view.part.next_request req.seq) (and_parts ((req.thread == t) && nat_le l.view.part.next_request req.seq) (nat_lt (length l.view.part.requests) most_requests) (and_parts ((req.thread == t) && nat_le l.view.part.next_request req.seq && nat_lt (length l.view.part.requests) most_requests) (nat_lt req.seq no_request) fresh).0).0).0 in
        all_push (IsLooked after (before ++ e ∷ [])) l.view.part.requests new h (
          eqb-true req.thread t own,
          second_or (is_touched touched req) (is_reached setup (before ++ e ∷ []) new) (rests setup t after touched.holds new)
              (reached_now new (ap (λ (a : Act). reaches setup (reach_of a) new) is ∙ request_same.same_self req)),
        )
    accepted (acts.Complete req status shown) is allowed h = all_filter (IsLooked after (before ++ e ∷ [])) (λ r. not (same_request r.id req)) l.view.part.requests h
    accepted _ is allowed h = h

    pub looked_after : first_failing (guards setup t l.view e.act came) ≡ None → Looks setup t before touched l.view → Looks setup t (before ++ e ∷ []) touched after
    looked_after allowed h =
        subst (AllByRecursion (IsLooked after (before ++ e ∷ []))) (sym (requests_are setup t l.view e.act came))
        (accepted e.act refl allowed (all_so (IsLooked l.view before) (IsLooked after (before ++ e ∷ [])) l.view.part.requests stays h))

  -- an entry that the thread may make
  looks_one : refusal_local setup t l e ≡ None → Looks setup t before touched l.view → Looks setup t (before ++ e ∷ []) touched (local_after setup t l e).view
  unfolding local_after
  looks_one allowed h =
      looked_after (came_local setup t l e.act)
      (allowed_by (is_built e.act) (nat_lt l.shared.stamp e.stamp) UNBUILT IN_ORDER (first_failing (guards setup t l.view e.act (came_local setup t l e.act))) allowed) h

-- ---- all of them

pub looks_then : (setup : Setup) (t : ℕ) (l l' : Local) (before entries : List Entry) (touched : Touches)
    → Leads setup t l entries l' → Looks setup t before touched l.view → Looks setup t (before ++ entries) touched l'.view
looks_then setup t l l' before [] touched leads h =
    subst (λ (es : List Entry). Looks setup t es touched l'.view) (sym (append-nil before)) (subst (λ (x : Local). Looks setup t before touched x.view) leads h)
looks_then setup t l l' before (e ∷ es) touched leads h =
    subst (λ (xs : List Entry). Looks setup t xs touched l'.view) (append_assoc before (e ∷ []) es)
    (looks_then setup t (local_after setup t l e) l' (before ++ e ∷ []) es touched leads.3 (looks_one setup t l e before touched leads.2 h))
