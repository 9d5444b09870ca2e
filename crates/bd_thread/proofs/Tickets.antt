-- The tickets of a thread's open requests.
use Rattle.std.proofs.Common.{◌≡◌, ℕ, ◌+◌, ◌<◌, ◌≤◌, Bool, true, false, cond, not, ◌&&◌, ◌||◌, ◌==◌, List, [], ◌∷◌, ◌++◌, refl, sym, ◌∙◌, ap, subst, eqb-true, arith}
use Rattle.std.specs.List.{AllByRecursion, list_any}
use Rattle.bd_base.specs.declared.id.DevId.{DevId}
use Rattle.bd_base.specs.declared.id.HandleId.{HandleId}
use Rattle.bd_base.specs.declared.id.ReqId.{ReqId}
use Rattle.bd_machine.specs.declared.state.Open.{Open}
use Rattle.bd_machine.specs.declared.state.Part.{Part}
use Rattle.bd_machine.specs.Same.{same_request}
use Rattle.bd_machine.proofs.Tables.{request_same}
use Rattle.bd_msg.specs.Purse.{without}
use Rattle.bd_rule_view.specs.declared.names.Submission.{Submission}
use Rattle.bd_thread.specs.declared.thread.Thread.{Thread}
use Rattle.bd_thread.specs.Completions.{completed, without_open}
use Rattle.bd_thread.specs.Requests.{accepted, ids_of, AreDistinct, IsFresh, KeepsTickets}

-- each id has a number below this one
abbrev pub AreBelow : ℕ → List ReqId → Type 0
AreBelow n xs = AllByRecursion (λ (id : ReqId). id.seq < n) xs

-- ---- one id more

absent_more : (is : ReqId → Bool) (xs : List ReqId) (r : ReqId) → list_any is xs ≡ false → is r ≡ false → list_any is (xs ++ r ∷ []) ≡ false
absent_more is [] r h e = ap (λ b. b || false) e
absent_more is (x ∷ xs) r h e = go (is x) h (λ k. absent_more is xs r k e)
  where
    go : (b : Bool) → (b || list_any is xs) ≡ false → (list_any is xs ≡ false → list_any is (xs ++ r ∷ []) ≡ false) → (b || list_any is (xs ++ r ∷ [])) ≡ false
    go true k rest = cc
    go false k rest = rest k

other_number : (x r : ReqId) → x.seq < r.seq → same_request x r ≡ false
other_number x r h = go (x.thread == r.thread) (x.seq == r.seq) refl
  where
    go : (a b : Bool) → (x.seq == r.seq) ≡ b → (a && b) ≡ false
    go true true e = let same : x.seq ≡ r.seq = eqb-true x.seq r.seq e in absurd (omega arith)
    go true false e = refl
    go false true e = refl
    go false false e = refl

distinct_more : (xs : List ReqId) (r : ReqId) (n : ℕ) → AreDistinct xs → AreBelow n xs → n ≤ r.seq → AreDistinct (xs ++ r ∷ [])
distinct_more [] r n d b h = (refl, tt)
distinct_more (x ∷ xs) r n d b h =
    let less : x.seq < r.seq = omega (arith, b.0) in
    (absent_more (same_request x) xs r d.0 (other_number x r less), distinct_more xs r n d.1 b.1 h)

below_more : (xs : List ReqId) (r : ReqId) (n : ℕ) → AreBelow n xs → n ≤ r.seq → AreBelow (r.seq + 1) (xs ++ r ∷ [])
below_more [] r n b h = (omega arith, tt)
below_more (x ∷ xs) r n b h = (omega (arith, b.0), below_more xs r n b.1 h)

ids_more : (os : List Open) (o : Open) → ids_of (os ++ o ∷ []) ≡ ids_of os ++ o.id ∷ []
ids_more [] o = refl
ids_more (x ∷ xs) o = ap (λ (ids : List ReqId). x.id ∷ ids) (ids_more xs o)

pub accepted_tickets : (old new : Thread) (req : ReqId) (dev : DevId) (handle : HandleId) (asked : Submission)
    → IsFresh old req
    → new.part ≡ accepted old.setup.now old.me old.part req dev handle asked
    → new.purse.ids ≡ old.purse.ids ++ req ∷ []
    → KeepsTickets old
    → KeepsTickets new
accepted_tickets old new req dev handle asked fresh part ids keeps =
    let now : ids_of new.part.requests ≡ ids_of old.part.requests ++ req ∷ [] = ap (λ (p : Part). ids_of p.requests) part ∙ ids_more old.part.requests (record { id = req; handle = handle; dev = dev; op = asked.op }) in
    record {
      tickets = ids ∙ ap (λ (xs : List ReqId). xs ++ req ∷ []) keeps.tickets ∙ sym now;
      distinct = subst AreDistinct (sym now) (distinct_more (ids_of old.part.requests) req old.part.next_request keeps.distinct keeps.given fresh.above);
      given =
          subst (λ (n : ℕ). AreBelow n (ids_of new.part.requests)) (sym (ap (λ (p : Part). p.next_request) part))
          (subst (AreBelow (req.seq + 1)) (sym now) (below_more (ids_of old.part.requests) req old.part.next_request keeps.given fresh.above));
    }

-- what touches no ticket and no open request keeps them
pub same_tickets : (old new : Thread) → new.purse.ids ≡ old.purse.ids → new.part.requests ≡ old.part.requests → new.part.next_request ≡ old.part.next_request → KeepsTickets old → KeepsTickets new
same_tickets old new ids requests next keeps = record {
  tickets = ids ∙ keeps.tickets ∙ sym (ap ids_of requests);
  distinct = subst (λ (os : List Open). AreDistinct (ids_of os)) (sym requests) keeps.distinct;
  given = subst (λ (n : ℕ). AreBelow n (ids_of new.part.requests)) (sym next) (subst (λ (os : List Open). AreBelow old.part.next_request (ids_of os)) (sym requests) keeps.given);
}

-- ---- one id less

same_back : (x id : ReqId) → same_request id x ≡ false → same_request x id ≡ false
same_back x id h = go (same_request x id) refl
  where
    go : (b : Bool) → same_request x id ≡ b → same_request x id ≡ false
    go false e = e
    go true e = let self : same_request id x ≡ true = ap (λ (y : ReqId). same_request id y) (request_same.exact x id e) ∙ request_same.same_self id in absurd (clash (sym self ∙ h))
      where
        clash : true ≡ false → ⊥
        clash e = cc

or_parts : (a b : Bool) → (a || b) ≡ false → (a ≡ false) × (b ≡ false)
or_parts true b h = cc
or_parts false b h = (refl, h)

-- where no request has the id, each stays
all_left : (id : ReqId) (os : List Open) → list_any (same_request id) (ids_of os) ≡ false → ids_of (without_open id os) ≡ ids_of os
all_left id [] h = refl
all_left id (o ∷ os) h =
    let none = or_parts (same_request id o.id) (list_any (same_request id) (ids_of os)) h in
    ap (λ b. ids_of (cond (not b) (o ∷ without_open id os) (without_open id os))) (same_back o.id id none.0) ∙ ap (λ (xs : List ReqId). o.id ∷ xs) (all_left id os none.1)

-- the ids of those that are left are the ids without the first that is this one
ids_left : (id : ReqId) (os : List Open) → AreDistinct (ids_of os) → ids_of (without_open id os) ≡ without id (ids_of os)
ids_left id [] d = refl
ids_left id (o ∷ os) d = go (same_request o.id id) refl (ids_left id os d.1)
  where
    go : (b : Bool) → same_request o.id id ≡ b → ids_of (without_open id os) ≡ without id (ids_of os) → ids_of (cond (not b) (o ∷ without_open id os) (without_open id os)) ≡ cond b (ids_of os) (o.id ∷ without id (ids_of os))
    go true e rest = all_left id os (subst (λ (x : ReqId). list_any (same_request x) (ids_of os) ≡ false) (request_same.exact o.id id e) d.0)
    go false e rest = ap (λ (xs : List ReqId). o.id ∷ xs) rest

absent_left : (is : ReqId → Bool) (id : ReqId) (xs : List ReqId) → list_any is xs ≡ false → list_any is (without id xs) ≡ false
absent_left is id [] h = h
absent_left is id (x ∷ xs) h =
    let none = or_parts (is x) (list_any is xs) h in
    go (same_request x id) none.0 none.1 (absent_left is id xs none.1)
  where
    go : (b : Bool) → is x ≡ false → list_any is xs ≡ false → list_any is (without id xs) ≡ false → list_any is (cond b xs (x ∷ without id xs)) ≡ false
    go true not_first none rest = none
    go false not_first none rest = ap (λ c. c || list_any is (without id xs)) not_first ∙ rest

distinct_left : (id : ReqId) (xs : List ReqId) → AreDistinct xs → AreDistinct (without id xs)
distinct_left id [] d = tt
distinct_left id (x ∷ xs) d = go (same_request x id) (distinct_left id xs d.1)
  where
    go : (b : Bool) → AreDistinct (without id xs) → AreDistinct (cond b xs (x ∷ without id xs))
    go true rest = d.1
    go false rest = (absent_left (same_request x) id xs d.0, rest)

below_left : (id : ReqId) (n : ℕ) (xs : List ReqId) → AreBelow n xs → AreBelow n (without id xs)
below_left id n [] b = tt
below_left id n (x ∷ xs) b = go (same_request x id) (below_left id n xs b.1)
  where
    go : (c : Bool) → AreBelow n (without id xs) → AreBelow n (cond c xs (x ∷ without id xs))
    go true rest = b.1
    go false rest = (b.0, rest)

pub completed_tickets : (old new : Thread) (req : ReqId)
    → new.part ≡ completed req old.part
    → new.purse.ids ≡ without req old.purse.ids
    → KeepsTickets old
    → KeepsTickets new
completed_tickets old new req part ids keeps =
    let now : ids_of new.part.requests ≡ without req (ids_of old.part.requests) = ap (λ (p : Part). ids_of p.requests) part ∙ ids_left req old.part.requests keeps.distinct in
    record {
      tickets = ids ∙ ap (without req) keeps.tickets ∙ sym now;
      distinct = subst AreDistinct (sym now) (distinct_left req (ids_of old.part.requests) keeps.distinct);
      given =
          subst (λ (n : ℕ). AreBelow n (ids_of new.part.requests)) (sym (ap (λ (p : Part). p.next_request) part))
          (subst (AreBelow old.part.next_request) (sym now) (below_left req old.part.next_request (ids_of old.part.requests) keeps.given));
    }
