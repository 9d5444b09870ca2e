-- The registry's journal beside the merged list: what comes before an entry, and the registry that it leaves.
use Rattle.std.proofs.Common.{◌≡◌, ◌<◌, Bool, true, false, cond, ◌&&◌, ◌||◌, ◌==◌, nat_lt, ◌⊎◌, inl, inr, List, [], ◌∷◌, ◌++◌, Option, Some, None, is_some, refl, sym, ◌∙◌, ap, subst, eqb-true, eq-eqb, arith}
use Rattle.std.specs.List.{AllByRecursion}
use Rattle.std.proofs.lemmas.Bool.{and_parts, and_from, or_cases, lt-ltb, ltb-true}
use Rattle.bd_base.specs.declared.act.Entry.{Entry}
use Rattle.bd_base.specs.declared.setup.Setup.{Setup}
use Rattle.bd_machine.specs.declared.state.Registry.{Registry}
use Rattle.bd_machine.specs.Changes.{registry_after}
use Rattle.bd_machine.specs.Registry.{Question}
use Rattle.bd_machine.specs.Step.{is_shutdown}
use Rattle.bd_machine.specs.View.{asked}
use Rattle.bd_log.specs.Merge.{IsBefore, IsOrdered, is_before}
use Rattle.bd_law_logs.specs.Rows.{Row}
use Rattle.bd_law_logs.specs.Journals.{is_event, events, IsReplay, IsAnswered, registry_by, before}
use Rattle.bd_law_logs.specs.Fits.{Finds, FindsAt}
use Rattle.bd_law_logs.proofs.Parts.{all_filter}

-- ---- the test of the order

pub before_true : (x y : Entry) → is_before x y ≡ true → IsBefore x y
before_true x y h = go (or_cases (nat_lt x.stamp y.stamp) ((x.stamp == y.stamp) && nat_lt x.thread y.thread) h)
  where
    go : (nat_lt x.stamp y.stamp ≡ true) ⊎ (((x.stamp == y.stamp) && nat_lt x.thread y.thread) ≡ true) → IsBefore x y
    go (inl a) = inl (ltb-true x.stamp y.stamp a)
    go (inr b) = let p = and_parts (x.stamp == y.stamp) (nat_lt x.thread y.thread) b in inr (eqb-true x.stamp y.stamp p.0, ltb-true x.thread y.thread p.1)

pub true_before : (x y : Entry) → IsBefore x y → is_before x y ≡ true
true_before x y (inl lt) = ap (λ b. b || ((x.stamp == y.stamp) && nat_lt x.thread y.thread)) (lt-ltb x.stamp y.stamp lt)
true_before x y (inr h) = right (nat_lt x.stamp y.stamp) ((x.stamp == y.stamp) && nat_lt x.thread y.thread) (and_from (x.stamp == y.stamp) (nat_lt x.thread y.thread) (eq-eqb x.stamp y.stamp h.0) (lt-ltb x.thread y.thread h.1))
  where
    right : (a b : Bool) → b ≡ true → (a || b) ≡ true
    right true b h = refl
    right false b h = h

never : (x y : Entry) → IsBefore x y → IsBefore y x → ⊥
never x y (inl h) (inl k) = omega arith
never x y (inl h) (inr k) = omega arith
never x y (inr h) (inl k) = omega arith
never x y (inr h) (inr k) = omega arith

pub not_self : (x : Entry) → IsBefore x x → ⊥
not_self x (inl h) = omega arith
not_self x (inr h) = let k : x.thread < x.thread = h.1 in omega arith

pub false_unless : (x y : Entry) → (IsBefore x y → ⊥) → is_before x y ≡ false
false_unless x y h = go (is_before x y) refl
  where
    go : (b : Bool) → is_before x y ≡ b → is_before x y ≡ false
    go true e = absurd (h (before_true x y e))
    go false e = e

-- ---- nothing comes before the first

pub none_before : (x : Entry) (es : List Entry) → AllByRecursion (IsBefore x) es → before x es ≡ []
none_before x [] h = refl
none_before x (y ∷ es) h = ap (λ b. cond b (y ∷ before x es) (before x es)) (false_unless y x (λ k. never x y h.0 k)) ∙ none_before x es h.1

none_at_first : (x : Entry) (es : List Entry) → AllByRecursion (IsBefore x) es → before x (events (x ∷ es)) ≡ []
none_at_first x es h = go (is_event x)
  where
    rest : before x (events es) ≡ []
    rest = none_before x (events es) (all_filter (IsBefore x) is_event es h)

    go : (b : Bool) → before x (cond b (x ∷ events es) (events es)) ≡ []
    go true = ap (λ b. cond b (x ∷ before x (events es)) (before x (events es))) (false_unless x x (not_self x)) ∙ rest
    go false = rest

-- the registry at the first entry is the one from which the journal is replayed
pub finds_first : (setup : Setup) (registry : Registry) (x : Row) (es : List Entry) → AllByRecursion (IsBefore x.entry) es → FindsAt setup registry (events (x.entry ∷ es)) x → Finds registry x
finds_first setup registry x es h f = subst (λ (l : List Entry). Finds (registry_by setup registry l) x) (none_at_first x.entry es h) f

-- an entry that isn't in the journal asks nothing
pub none_asked : (o : Option Question) (b : Bool) → (is_some o || b) ≡ false → o ≡ None
none_asked None b h = refl
none_asked (Some q) b h = cc

-- the registry at a later entry is the one at it in the rest of the journal, from the registry on that the first entry leaves
registry_later : (setup : Setup) (registry : Registry) (x e : Entry) (es : List Entry) → IsBefore x e
    → registry_by setup registry (before e (events (x ∷ es))) ≡ registry_by setup (registry_after setup registry x.thread (asked x.act)) (before e (events es))
registry_later setup registry x e es h = go (is_event x) refl
  where
    go : (b : Bool) → is_event x ≡ b → registry_by setup registry (before e (cond b (x ∷ events es) (events es))) ≡ registry_by setup (registry_after setup registry x.thread (asked x.act)) (before e (events es))
    go true is = ap (λ b. registry_by setup registry (cond b (x ∷ before e (events es)) (before e (events es)))) (true_before x e h)
    go false is = sym (ap (λ (o : Option Question). registry_by setup (registry_after setup registry x.thread o) (before e (events es))) (none_asked (asked x.act) (is_shutdown x.act) is))

pub finds_next : (setup : Setup) (registry : Registry) (x : Entry) (r : Row) (es : List Entry) → IsBefore x r.entry → FindsAt setup registry (events (x ∷ es)) r → FindsAt setup (registry_after setup registry x.thread (asked x.act)) (events es) r
finds_next setup registry x r es h f = subst (λ (g : Registry). Finds g r) (registry_later setup registry x r.entry es h) f

at_end : {X : Type 0} (P : X → Type 0) (xs : List X) (x : X) (ys : List X) → AllByRecursion P (xs ++ x ∷ ys) → P x
at_end P [] x ys h = h.0
at_end P (z ∷ xs) x ys h = at_end P xs x ys h.1

-- the registry by the journal's rows before an entry is that of the entries before it
pub registry_at : (setup : Setup) (registry : Registry) (xs : List Entry) (x : Entry) (ys : List Entry) → IsOrdered (xs ++ x ∷ ys) → registry_by setup registry (before x (events (xs ++ x ∷ ys))) ≡ registry_by setup registry xs
registry_at setup registry [] x ys h = ap (registry_by setup registry) (none_at_first x ys h.0)
registry_at setup registry (z ∷ xs) x ys h =
    registry_later setup registry z x (xs ++ x ∷ ys) (at_end (IsBefore z) xs x ys h.0)
    ∙ registry_at setup (registry_after setup registry z.thread (asked z.act)) xs x ys h.1

-- ---- a replay of the events is one of all entries

pub replay_all : (setup : Setup) (registry : Registry) (es : List Entry) → IsReplay setup registry (events es) → IsReplay setup registry es
replay_all setup registry [] h = tt
replay_all setup registry (x ∷ es) h = go (is_event x) refl h (λ r. replay_all setup r es)
  where
    go : (b : Bool) → is_event x ≡ b → IsReplay setup registry (cond b (x ∷ events es) (events es)) → ((r : Registry) → IsReplay setup r (events es) → IsReplay setup r es)
        → IsAnswered setup registry x.thread (asked x.act) × IsReplay setup (registry_after setup registry x.thread (asked x.act)) es
    go true is h k = (h.0, k (registry_after setup registry x.thread (asked x.act)) h.1)
    go false is h k =
        subst (λ (o : Option Question). IsAnswered setup registry x.thread o × IsReplay setup (registry_after setup registry x.thread o) es) (sym (none_asked (asked x.act) (is_shutdown x.act) is))
        (tt, k registry h)
