-- What is to be looked at, as more is.
use Rattle.std.proofs.Common.{◌≡◌, ℕ, Bool, true, false, ◌||◌, List, [], ◌∷◌, ◌++◌, ◌==◌, ◌+◌, ◌≤◌, Some, slice_get, take, length, refl, sym, ◌∙◌, ap, subst, eqb-true, arith}
use Rattle.std.specs.List.{AllByRecursion, list_any}
use Rattle.bd_base.specs.declared.act.Entry.{Entry}
use Rattle.bd_base.specs.declared.id.DevId.{DevId}
use Rattle.bd_base.specs.declared.id.ReqId.{ReqId}
use Rattle.bd_base.specs.declared.setup.Setup.{Setup}
use Rattle.bd_machine.specs.declared.state.Open.{Open}
use Rattle.bd_machine.specs.Same.{same_request}
use Rattle.bd_machine.specs.Walks.{is_kept_waiting}
use Rattle.std.proofs.lemmas.List.{take_all, take_more}
use Rattle.std.proofs.lemmas.Option.{get_or_from_slice_get, slice_get_within}
use Rattle.std.proofs.lemmas.List.Folds.{list_any-append}
use Rattle.bd_machine.proofs.Tables.{request_same}
use Rattle.bd_touched.specs.Reach.{is_reached, is_touched, reach_of, reaches, Covers, Touches}

later : (a b : Bool) → b ≡ true → a || b ≡ true
later true b h = refl
later false b h = h

or_none : (b : Bool) → b || false ≡ b
or_none true = refl
or_none false = refl

-- what is to be looked at for any reason, where all is
pub all_touched : (P : Open → Type 0) (t : Touches) (xs : List Open) → t.all ≡ true → AllByRecursion (λ (o : Open). P o → is_touched t o.id ≡ true) xs
all_touched P t [] h = tt
all_touched P t (x ∷ xs) h = (λ p. ap (λ b. b || list_any (λ r. same_request r x.id) t.reqs) h, all_touched P t xs h)

-- none of them waits for the device
pub none_over : (setup : Setup) (dev : DevId) (t : Touches) (xs : List Open) → list_any (is_kept_waiting setup dev) xs ≡ false
    → AllByRecursion (λ (o : Open). is_kept_waiting setup dev o ≡ true → is_touched t o.id ≡ true) xs
none_over setup dev t [] h = tt
none_over setup dev t (x ∷ xs) h = go (is_kept_waiting setup dev x) refl h (none_over setup dev t xs)
  where
    go : (b : Bool) → is_kept_waiting setup dev x ≡ b → b || list_any (is_kept_waiting setup dev) xs ≡ false
        → (list_any (is_kept_waiting setup dev) xs ≡ false → AllByRecursion (λ (o : Open). is_kept_waiting setup dev o ≡ true → is_touched t o.id ≡ true) xs)
        → AllByRecursion (λ (o : Open). is_kept_waiting setup dev o ≡ true → is_touched t o.id ≡ true) (x ∷ xs)
    go true e k rest = cc
    go false e k rest = (λ yes. let f : false ≡ true = sym e ∙ yes in cc, rest k)

-- ---- one after another

all_more : {X : Type 0} (P : X → Type 0) (xs : List X) (x : X) → AllByRecursion P xs → P x → AllByRecursion P (xs ++ x ∷ [])
all_more P [] x h k = (k, tt)
all_more P (y ∷ ys) x h k = (h.0, all_more P ys x h.1 k)

all_go : {X : Type 0} (P Q : X → Type 0) (xs : List X) → ((x : X) → P x → Q x) → AllByRecursion P xs → AllByRecursion Q xs
all_go P Q [] f h = tt
all_go P Q (x ∷ xs) f h = (f x h.0, all_go P Q xs f h.1)

last_named : (rs : List ReqId) (r req : ReqId) → same_request r req ≡ true → list_any (λ x. same_request x req) (rs ++ r ∷ []) ≡ true
last_named [] r req h = ap (λ b. b || false) h
last_named (x ∷ xs) r req h = later (same_request x req) (list_any (λ y. same_request y req) (xs ++ r ∷ [])) (last_named xs r req h)

still_named : (rs : List ReqId) (r req : ReqId) → list_any (λ x. same_request x req) rs ≡ true → list_any (λ x. same_request x req) (rs ++ r ∷ []) ≡ true
still_named [] r req h = cc
still_named (x ∷ xs) r req h = go (same_request x req) h (still_named xs r req)
  where
    go : (b : Bool) → b || list_any (λ y. same_request y req) xs ≡ true → (list_any (λ y. same_request y req) xs ≡ true → list_any (λ y. same_request y req) (xs ++ r ∷ []) ≡ true) → b || list_any (λ y. same_request y req) (xs ++ r ∷ []) ≡ true
    go true k rest = refl
    go false k rest = rest k

-- one more open request is named
pub named_more : (rs : List ReqId) (os : List Open) (o : Open) → AllByRecursion (λ (x : Open). list_any (λ r. same_request r x.id) rs ≡ true) os
    → AllByRecursion (λ (x : Open). list_any (λ r. same_request r x.id) (rs ++ o.id ∷ []) ≡ true) (os ++ o ∷ [])
named_more rs os o h =
    all_more (λ (x : Open). list_any (λ r. same_request r x.id) (rs ++ o.id ∷ []) ≡ true) os o
    (all_go (λ (x : Open). list_any (λ r. same_request r x.id) rs ≡ true) (λ (x : Open). list_any (λ r. same_request r x.id) (rs ++ o.id ∷ []) ≡ true) os (λ x k. still_named rs o.id x.id k) h)
    (last_named rs o.id o.id (request_same.same_self o.id))

-- those up to one
take_at : (all : List Open) (i : ℕ) (o : Open) → slice_get all i ≡ Some o → take (i + 1) all ≡ take i all ++ o ∷ []
take_at all i o at = take_more all i o (slice_get_within all i o at) ∙ ap (λ (x : Open). take i all ++ x ∷ []) (get_or_from_slice_get all i o o at)

-- one more of those that are gone over
pub named_step : (all : List Open) (i : ℕ) (o : Open) (old new : Touches) → slice_get all i ≡ Some o → new ≡ record old { reqs = old.reqs ++ o.id ∷ [] }
    → AllByRecursion (λ (x : Open). list_any (λ r. same_request r x.id) old.reqs ≡ true) (take i all)
    → AllByRecursion (λ (x : Open). list_any (λ r. same_request r x.id) new.reqs ≡ true) (take (i + 1) all)
named_step all i o old new at is h =
    subst (λ (os : List Open). AllByRecursion (λ (x : Open). list_any (λ r. same_request r x.id) new.reqs ≡ true) os) (sym (take_at all i o at))
    (subst (λ (t : Touches). AllByRecursion (λ (x : Open). list_any (λ r. same_request r x.id) t.reqs ≡ true) (take i all ++ o ∷ [])) (sym is) (named_more old.reqs (take i all) o h))

-- all are named
pub all_named : (all : List Open) (i : ℕ) (old at new : Touches) → length all ≤ i → new ≡ at → AllByRecursion (λ (x : Open). list_any (λ r. same_request r x.id) at.reqs ≡ true) (take i all)
    → AllByRecursion (λ (x : Open). is_touched old x.id ≡ true → list_any (λ r. same_request r x.id) new.reqs ≡ true) all
all_named all i old at new whole is h =
    all_go (λ (x : Open). list_any (λ r. same_request r x.id) new.reqs ≡ true) (λ (x : Open). is_touched old x.id ≡ true → list_any (λ r. same_request r x.id) new.reqs ≡ true) all (λ x k touched. k)
    (subst (λ (t : Touches). AllByRecursion (λ (x : Open). list_any (λ r. same_request r x.id) t.reqs ≡ true) all) (sym is)
    (subst (λ (os : List Open). AllByRecursion (λ (x : Open). list_any (λ r. same_request r x.id) at.reqs ≡ true) os) (take_all i all whole) h))

-- ---- entry after entry

abbrev pub TakenIn : Setup → ℕ → List Open → List Entry → Touches → Touches → Type 0
TakenIn setup me requests entries old new = AllByRecursion (λ (o : Open). o.id.thread ≡ me → is_touched old o.id || is_reached setup entries o ≡ true → is_touched new o.id ≡ true) requests

-- before any
pub none_taken : (setup : Setup) (me : ℕ) (requests : List Open) (t : Touches) → TakenIn setup me requests [] t t
none_taken setup me [] t = tt
none_taken setup me (o ∷ os) t = (λ own h. sym (or_none (is_touched t o.id)) ∙ h, none_taken setup me os t)

pub taken_covered : (setup : Setup) (me : ℕ) (requests : List Open) (old new : Touches) → Covers old new → TakenIn setup me requests [] old new
taken_covered setup me [] old new covers = tt
taken_covered setup me (o ∷ os) old new covers = (λ own h. covers o.id (sym (or_none (is_touched old o.id)) ∙ h), taken_covered setup me os old new covers)

-- of none
pub taken_empty : (setup : Setup) (me : ℕ) (requests : List Open) (entries : List Entry) (t : Touches) → length entries == 0 ≡ true → TakenIn setup me requests entries t t
taken_empty setup me requests [] t h = none_taken setup me requests t
taken_empty setup me requests (e ∷ es) t h = let none : length (e ∷ es) ≡ 0 = eqb-true (length (e ∷ es)) 0 h in absurd (omega (arith, none))

-- one more
pub taken_more : (setup : Setup) (me : ℕ) (requests : List Open) (entries : List Entry) (e : Entry) (old mid new : Touches)
    → TakenIn setup me requests entries old mid
    → Covers mid new
    → AllByRecursion (λ (o : Open). o.id.thread ≡ me → reaches setup (reach_of e.act) o ≡ true → is_touched new o.id ≡ true) requests
    → TakenIn setup me requests (entries ++ e ∷ []) old new
taken_more setup me [] entries e old mid new h covers one = tt
taken_more setup me (o ∷ os) entries e old mid new h covers one = (
  λ own k. go own (is_touched old o.id) (is_reached setup entries o) (reaches setup (reach_of e.act) o) refl refl refl
      (sym (ap (λ b. is_touched old o.id || b) (list_any-append (λ (x : Entry). reaches setup (reach_of x.act) o) entries (e ∷ []))) ∙ k),
  taken_more setup me os entries e old mid new h.1 covers one.1,
)
  where
    go : o.id.thread ≡ me → (a b c : Bool) → is_touched old o.id ≡ a → is_reached setup entries o ≡ b → reaches setup (reach_of e.act) o ≡ c → a || (b || (c || false)) ≡ true → is_touched new o.id ≡ true
    go own true b c p q r k = covers o.id (h.0 own (ap (λ x. x || is_reached setup entries o) p))
    go own false true c p q r k = covers o.id (h.0 own (later (is_touched old o.id) (is_reached setup entries o) q))
    go own false false true p q r k = one.0 own r
    go own false false false p q r k = cc
