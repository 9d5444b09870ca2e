-- A set of devices has just those of its list that have numbers below 256.
use Rattle.std.proofs.Common.{◌≡◌, ◌≢◌, ℕ, Bool, true, false, cond, ◌&&◌, ◌||◌, ◌==◌, ◌<◌, List, [], ◌∷◌, length, get_or, set, nat_lt, ltb-true, ltb-false, eqb-true, eq-eqb, refl, sym, ◌∙◌, ap, subst, arith}
use Rattle.std.proofs.lemmas.List.{length-set, length-replicate, get_or-replicate, get_or-set_same, get_or-set_other}
use Rattle.std.specs.List.{list_any}
use Rattle.bd_base.specs.declared.id.DevId.{DevId}
use Rattle.bd_machine.specs.Same.{same_dev}
use Rattle.bd_tables.specs.declared.under.Under.{Under}
use Rattle.bd_tables.specs.Under.{inserted, is_under, nothing_under, set_from, set_of}

or_true : (b : Bool) → true ≡ (b || true)
or_true true = refl
or_true false = refl

or_false : (b : Bool) → b ≡ (b || false)
or_false true = refl
or_false false = refl

or_none : (a b : Bool) → a ≡ (a || (b && false))
or_none true b = refl
or_none false true = refl
or_none false false = refl

regroup : (u l s a : Bool) → ((u || (l && s)) || (l && a)) ≡ (u || (l && (s || a)))
regroup true l s a = refl
regroup false false s a = refl
regroup false true s a = refl

inserted_at : (dev d : DevId) (u : Under) → length u.devices ≡ 256 → is_under dev (inserted d u) ≡ (is_under dev u || (nat_lt dev.0 256 && same_dev dev d))
inserted_at dev d u long = go (nat_lt d.0 256) refl (nat_lt dev.0 256) refl (dev.0 == d.0) refl
  where
    more : Under
    more = record { devices = set u.devices d.0 true }

    other : (dev.0 == d.0) ≡ false → dev.0 ≢ d.0
    other e same = let yes : (dev.0 == d.0) ≡ true = eq-eqb dev.0 d.0 same in cc

    go : (c : Bool) → nat_lt d.0 256 ≡ c → (l : Bool) → nat_lt dev.0 256 ≡ l → (s : Bool) → (dev.0 == d.0) ≡ s
        → (l && get_or (cond c more u).devices dev.0 false) ≡ ((l && get_or u.devices dev.0 false) || (l && s))
    go c e false f s g = refl
    go true e true f true g =
        let same : d.0 ≡ dev.0 = sym (eqb-true dev.0 d.0 g) in
        let below : d.0 < 256 = ltb-true d.0 256 e in
        subst (λ (n : ℕ). get_or (set u.devices d.0 true) n false ≡ true) same (get_or-set_same u.devices d.0 true false (omega (arith, below, long))) ∙ or_true (get_or u.devices dev.0 false)
    go true e true f false g = get_or-set_other u.devices d.0 dev.0 true false (other g) ∙ or_false (get_or u.devices dev.0 false)
    go false e true f true g = absurd (omega (arith, ltb-false d.0 256 e, ltb-true dev.0 256 f, eqb-true dev.0 d.0 g))
    go false e true f false g = or_false (get_or u.devices dev.0 false)

inserted_long : (d : DevId) (u : Under) → length u.devices ≡ 256 → length (inserted d u).devices ≡ 256
inserted_long d u long = go (nat_lt d.0 256)
  where
    more : Under
    more = record { devices = set u.devices d.0 true }

    go : (c : Bool) → length (cond c more u).devices ≡ 256
    go true = length-set u.devices d.0 true ∙ long
    go false = long

under_from : (dev : DevId) (u : Under) (devs : List DevId) → length u.devices ≡ 256 → is_under dev (set_from u devs) ≡ (is_under dev u || (nat_lt dev.0 256 && list_any (same_dev dev) devs))
under_from dev u [] long = or_none (is_under dev u) (nat_lt dev.0 256)
under_from dev u (d ∷ ds) long =
    under_from dev (inserted d u) ds (inserted_long d u long)
    ∙ ap (λ (b : Bool). b || (nat_lt dev.0 256 && list_any (same_dev dev) ds)) (inserted_at dev d u long)
    ∙ regroup (is_under dev u) (nat_lt dev.0 256) (same_dev dev d) (list_any (same_dev dev) ds)

nothing_at : (dev : DevId) → is_under dev nothing_under ≡ false
nothing_at dev = go (nat_lt dev.0 256) refl
  where
    go : (l : Bool) → nat_lt dev.0 256 ≡ l → (l && get_or nothing_under.devices dev.0 false) ≡ false
    go true e = get_or-replicate 256 dev.0 false false (ltb-true dev.0 256 e)
    go false e = refl

pub is_under_of : (dev : DevId) (devs : List DevId) → is_under dev (set_of devs) ≡ (nat_lt dev.0 256 && list_any (same_dev dev) devs)
is_under_of dev devs =
    under_from dev nothing_under devs (length-replicate 256 false)
    ∙ ap (λ (b : Bool). b || (nat_lt dev.0 256 && list_any (same_dev dev) devs)) (nothing_at dev)
