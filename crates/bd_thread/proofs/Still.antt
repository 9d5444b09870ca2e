-- Where a thread has nothing under way but for time, each of its open requests is at rest.
use Rattle.std.proofs.Common.{◌≡◌, Bool, true, false, cond, not, ◌&&◌, ◌||◌, ◌==◌, List, [], ◌∷◌, length, is_none, refl, sym, ◌∙◌, ap, subst, eqb-true}
use Rattle.std.specs.List.{AllByRecursion, list_all, list_any}
use Rattle.std.proofs.lemmas.Bool.{and_parts}
use Rattle.std.proofs.lemmas.List.{nil_from_length}
use Rattle.bd_base.specs.declared.id.ReqId.{ReqId}
use Rattle.bd_machine.specs.declared.state.Id.{Id}
use Rattle.bd_machine.specs.declared.state.Id.TheVariants as ids
use Rattle.bd_machine.specs.declared.state.Kept.{Kept}
use Rattle.bd_machine.specs.declared.state.Open.{Open}
use Rattle.bd_machine.specs.Kept.{as_request}
use Rattle.bd_machine.specs.Same.{same_request}
use Rattle.bd_machine.proofs.Tables.{request_same}
use Rattle.bd_retries.specs.Channels.{is_idle}
use Rattle.bd_tokens.specs.Tokens.{here_in}
use Rattle.bd_touched.specs.Looks.{is_looked_at}
use Rattle.bd_touched.specs.Reach.{is_touched}
use Rattle.bd_touched.specs.Rests.{rests as may_wait, rests_as}
use Rattle.bd_touched.proofs.Looking.{all_so}
use Rattle.bd_thread.specs.declared.thread.Thread.{Thread}
use Rattle.bd_thread.specs.Looking.{sight, KeepsOwn}
use Rattle.bd_thread.specs.Resting.{goes_on, has_going, is_at_rest, is_bare, is_settled, EachRests}

-- ---- tests

is_not : (b : Bool) → not b ≡ true → b ≡ false
is_not true h = cc
is_not false h = refl

none : (b : Bool) → b ≡ false → not b ≡ true
none b h = ap not h

first_rests : (a b : Bool) → a ≡ true → a || b ≡ true
first_rests true b h = refl
first_rests false b h = cc

last_rests : (a b : Bool) → b ≡ true → a || b ≡ true
last_rests true b h = refl
last_rests false b h = h

neither : (a b : Bool) → a || b ≡ false → (a ≡ false) × (b ≡ false)
neither true b h = cc
neither false b h = (refl, h)

-- where none of these goes on, one that stands among them doesn't
none_of : (is : ReqId → Bool) (req : ReqId) (xs : List ReqId) → list_any is xs ≡ false → list_any (λ r. same_request r req) xs ≡ true → is req ≡ false
none_of is req [] h k = cc
none_of is req (x ∷ xs) h k = go (same_request x req) refl k (none_of is req xs both.1)
  where
    both : (is x ≡ false) × (list_any is xs ≡ false)
    both = neither (is x) (list_any is xs) h

    go : (b : Bool) → same_request x req ≡ b → b || list_any (λ r. same_request r req) xs ≡ true → (list_any (λ r. same_request r req) xs ≡ true → is req ≡ false) → is req ≡ false
    go true e m rest = subst (λ (r : ReqId). is r ≡ false) (request_same.exact x req e) both.0
    go false e m rest = rest m

-- ---- a thread

module _ (t : Thread) where
  abbrev AtRest : Open → Type 0
  AtRest o = is_at_rest t o ≡ true

  still : (o : Open) → goes_on t o.id ≡ false → AtRest o
  still o h = last_rests (may_wait t.setup.now t.me (sight t) t.touched.holds o) (not (goes_on t o.id)) (none (goes_on t o.id) h)

  -- all of them are looked at
  all_still : (os : List Open) → list_any (λ (o : Open). goes_on t o.id) os ≡ false → AllByRecursion AtRest os
  all_still [] h = tt
  all_still (o ∷ os) h =
      let both = neither (goes_on t o.id) (list_any (λ (x : Open). goes_on t x.id) os) h in
      (still o both.0, all_still os both.1)

  -- no token is here
  all_away : t.held.items ≡ [] → (os : List Open) → AllByRecursion AtRest os
  all_away none [] = tt
  all_away none (o ∷ os) = (first_rests (may_wait t.setup.now t.me (sight t) t.touched.holds o) (not (goes_on t o.id)) away, all_away none os)
    where
      away : may_wait t.setup.now t.me (sight t) t.touched.holds o ≡ true
      away = ap (λ (items : List (Id × Kept)). rests_as t.setup.now t.me (sight t) t.touched.holds o (as_request (here_in items (ids.Request o.id)))) none

  -- it is named, or rests
  by_name : t.touched.all ≡ false → list_any (goes_on t) t.touched.reqs ≡ false → (o : Open) → is_looked_at t.setup.now t.me [] t.touched (sight t) o ≡ true → AtRest o
  by_name few none o h = go (is_touched t.touched o.id) refl h
    where
      named : is_touched t.touched o.id ≡ true → list_any (λ r. same_request r o.id) t.touched.reqs ≡ true
      named e = sym (ap (λ b. b || list_any (λ r. same_request r o.id) t.touched.reqs) few) ∙ e

      go : (b : Bool) → is_touched t.touched o.id ≡ b → b || false || may_wait t.setup.now t.me (sight t) t.touched.holds o ≡ true → AtRest o
      go true e k = still o (none_of (goes_on t) o.id t.touched.reqs none (named e))
      go false e k = first_rests (may_wait t.setup.now t.me (sight t) t.touched.holds o) (not (goes_on t o.id)) k

  looked : KeepsOwn t → has_going t ≡ false → AllByRecursion AtRest t.part.requests
  looked own h = go t.touched.all refl h
    where
      go : (b : Bool) → t.touched.all ≡ b → cond b (list_any (λ (o : Open). goes_on t o.id) t.part.requests) (list_any (goes_on t) t.touched.reqs) ≡ false → AllByRecursion AtRest t.part.requests
      go true e k = all_still t.part.requests k
      go false e k = all_so (λ (o : Open). (o.id.thread ≡ t.me) × (is_looked_at t.setup.now t.me [] t.touched (sight t) o ≡ true)) AtRest t.part.requests (λ o x. by_name e k o x.1) own.looks

  at_rest : KeepsOwn t → is_bare t || not (has_going t) ≡ true → AllByRecursion AtRest t.part.requests
  at_rest own h = by_requests (length t.part.requests == 0) refl h
    where
      by_tokens : (b : Bool) → length t.held.items == 0 ≡ b → b || not (has_going t) ≡ true → AllByRecursion AtRest t.part.requests
      by_tokens true e k = all_away (nil_from_length t.held.items (eqb-true (length t.held.items) 0 e)) t.part.requests
      by_tokens false e k = looked own (is_not (has_going t) k)

      by_requests : (b : Bool) → length t.part.requests == 0 ≡ b → (b || (length t.held.items == 0)) || not (has_going t) ≡ true → AllByRecursion AtRest t.part.requests
      by_requests true e k = subst (AllByRecursion AtRest) (sym (nil_from_length t.part.requests (eqb-true (length t.part.requests) 0 e))) tt
      by_requests false e k = by_tokens (length t.held.items == 0) refl k

pub each_rests : EachRests
each_rests t links own h = at_rest t own (and_parts (before && list_all is_idle t.retries) (is_bare t || not (has_going t)) all_but_last).1
  where
    before : Bool
    before = (length t.outbox.items == 0) && (length t.part.due == 0) && (length t.part.owed == 0) && is_none t.part.prior

    all_but_last : before && list_all is_idle t.retries && (is_bare t || not (has_going t)) ≡ true
    all_but_last = (and_parts (before && list_all is_idle t.retries && (is_bare t || not (has_going t))) (list_all (is_settled t links) t.part.gone) h).0
