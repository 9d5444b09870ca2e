-- What is open has a device below where one of the counts says so.
use Rattle.std.proofs.Common.{◌≡◌, ◌≢◌, ℕ, zero, suc, ◌+◌, Bool, true, false, not, ◌&&◌, ◌||◌, ◌==◌, List, [], ◌∷◌, slice_index_or, cond, eqb-true, eq-eqb, refl, sym, ◌∙◌, ap, subst, arith}
use Rattle.std.proofs.lemmas.Bool.{and_parts}
use Rattle.std.specs.List.{list_any}
use Rattle.bd_base.specs.declared.id.DevId.{DevId}
use Rattle.bd_base.specs.declared.request.Op.{Op}
use Rattle.bd_base.specs.declared.request.Op.TheVariants as ops
use Rattle.bd_base.specs.declared.setup.Setup.{Setup}
use Rattle.bd_machine.specs.Aborts.{is_below}
use Rattle.bd_machine.specs.Opens.{is_work, work_of, work_on, CountsWork}
use Rattle.bd_machine.specs.Walks.{is_kept_waiting, is_reset}
use Rattle.bd_machine.specs.declared.state.Open.{Open}
use Rattle.bd_rule_walks.specs.Counted.{any_counted}

work_is : (op : Op) → is_work op ≡ not (is_reset op)
work_is ops.Read = refl
work_is (ops.Write f) = refl
work_is ops.Zeroes = refl
work_is ops.Unmap = refl
work_is ops.Flush = refl
work_is (ops.Reset time) = refl
work_is (ops.Abort n) = refl

unequal : {k : ℕ} → k ≡ 0 → (k == 0) ≡ false → ⊥
unequal z e = differs (sym (ap (λ (i : ℕ). i == 0) z) ∙ e)
  where
    differs : true ≡ false → ⊥
    differs p = cc

or_right : (a b : Bool) → b ≡ true → (a || b) ≡ true
or_right true b h = refl
or_right false b h = h

no_one : (a b : ℕ) → a ≡ 1 → a + b ≡ 0 → ⊥
no_one a b e z = absurd (omega (arith, e, z))

none_left : (a b : ℕ) → a + b ≡ 0 → b ≡ 0
none_left a b z = omega (arith, z)

both_ways : (a b : Bool) → (a ≡ true → b ≡ true) → (b ≡ true → a ≡ true) → a ≡ b
both_ways true b f g = sym (f refl)
both_ways false true f g = g refl
both_ways false false f g = refl

module _ (setup : Setup) (dev : DevId) where
  abbrev over : ℕ → Bool
  over n = is_below setup (record { 0 = n }) dev

  -- counted from m on
  counted_at : (m : ℕ) (counts : List ℕ) (n : ℕ) → slice_index_or counts n 0 ≢ 0 → over (m + n) ≡ true → any_counted setup dev m counts ≡ true
  counted_at m [] n some is = absurd (some refl)
  counted_at m (k ∷ counts) zero some is = go (k == 0) refl (over m) (subst (λ (i : ℕ). over i ≡ true) (omega arith) is)
    where
      go : (b : Bool) → (k == 0) ≡ b → (c : Bool) → c ≡ true → (not b && c || any_counted setup dev (m + 1) counts) ≡ true
      go true e c h = absurd (some (eqb-true k 0 e))
      go false e true h = refl
      go false e false h = cc
  counted_at m (k ∷ counts) (suc n) some is = go (not (k == 0) && over m) (counted_at (m + 1) counts n some (subst (λ (i : ℕ). over i ≡ true) (omega arith) is))
    where
      go : (b : Bool) → any_counted setup dev (m + 1) counts ≡ true → (b || any_counted setup dev (m + 1) counts) ≡ true
      go true h = refl
      go false h = h

  any_at : (m : ℕ) (counts : List ℕ) → any_counted setup dev m counts ≡ true → (n : ℕ) × (slice_index_or counts n 0 ≢ 0) × (over (m + n) ≡ true)
  any_at m [] h = cc
  any_at m (k ∷ counts) h = go (k == 0) refl (over m) refl (λ q. any_at (m + 1) counts q) h
    where
      later : (n : ℕ) × (slice_index_or counts n 0 ≢ 0) × (over (m + 1 + n) ≡ true) → (n : ℕ) × (slice_index_or (k ∷ counts) n 0 ≢ 0) × (over (m + n) ≡ true)
      later ih = (suc ih.0, ih.1, subst (λ (i : ℕ). over i ≡ true) (omega arith) ih.2)

      go : (b : Bool) → (k == 0) ≡ b → (c : Bool) → over m ≡ c → (any_counted setup dev (m + 1) counts ≡ true → (n : ℕ) × (slice_index_or counts n 0 ≢ 0) × (over (m + 1 + n) ≡ true))
          → (not b && c || any_counted setup dev (m + 1) counts) ≡ true → (n : ℕ) × (slice_index_or (k ∷ counts) n 0 ≢ 0) × (over (m + n) ≡ true)
      go false e true f ih q = (0, λ z. unequal z e, subst (λ (i : ℕ). over i ≡ true) (omega arith) f)
      go false e false f ih q = later (ih q)
      go true e c f ih q = later (ih q)

  -- where a device has work and this one below, a request is kept waiting
  any_waiting : (os : List Open) (n : ℕ) → work_on n os ≢ 0 → over n ≡ true → list_any (is_kept_waiting setup dev) os ≡ true
  any_waiting [] n some is = absurd (some refl)
  any_waiting (o ∷ os) n some is = go (is_work o.op) refl (o.dev.0 == n) refl (λ more. any_waiting os n more is)
    where
      rest : (work_on n os ≢ 0 → list_any (is_kept_waiting setup dev) os ≡ true) → work_of n o ≡ 0 → list_any (is_kept_waiting setup dev) (o ∷ os) ≡ true
      rest ih e = or_right (is_kept_waiting setup dev o) (list_any (is_kept_waiting setup dev) os) (ih (λ z. some (omega (arith, e, z))))

      go : (a : Bool) → is_work o.op ≡ a → (b : Bool) → (o.dev.0 == n) ≡ b → (work_on n os ≢ 0 → list_any (is_kept_waiting setup dev) os ≡ true) → list_any (is_kept_waiting setup dev) (o ∷ os) ≡ true
      go true e true f ih =
          let own : is_below setup o.dev dev ≡ true = subst (λ (k : ℕ). over k ≡ true) (sym (eqb-true o.dev.0 n f)) is in
          let waits : is_kept_waiting setup dev o ≡ true = ap (λ (c : Bool). c && is_below setup o.dev dev) (sym (work_is o.op) ∙ e) ∙ own in
          ap (λ (c : Bool). c || list_any (is_kept_waiting setup dev) os) waits
      go true e false f ih = rest ih (ap (λ (c : Bool). cond (c && (o.dev.0 == n)) 1 0) e ∙ ap (λ (c : Bool). cond c 1 0) f)
      go false e b f ih = rest ih (ap (λ (c : Bool). cond (c && (o.dev.0 == n)) 1 0) e)

  work_waits : (os : List Open) → list_any (is_kept_waiting setup dev) os ≡ true → (n : ℕ) × (work_on n os ≢ 0) × (over n ≡ true)
  work_waits [] h = cc
  work_waits (o ∷ os) h = go (is_kept_waiting setup dev o) refl (λ q. work_waits os q) h
    where
      go : (b : Bool) → is_kept_waiting setup dev o ≡ b → (list_any (is_kept_waiting setup dev) os ≡ true → (n : ℕ) × (work_on n os ≢ 0) × (over n ≡ true))
          → (b || list_any (is_kept_waiting setup dev) os) ≡ true → (n : ℕ) × (work_on n (o ∷ os) ≢ 0) × (over n ≡ true)
      go true e ih q =
          let parts = and_parts (not (is_reset o.op)) (is_below setup o.dev dev) e in
          let one : work_of o.dev.0 o ≡ 1 = ap (λ (c : Bool). cond (c && (o.dev.0 == o.dev.0)) 1 0) (work_is o.op ∙ parts.0) ∙ ap (λ (c : Bool). cond c 1 0) (eq-eqb o.dev.0 o.dev.0 refl) in
          (o.dev.0, λ z. no_one (work_of o.dev.0 o) (work_on o.dev.0 os) one z, parts.1)
      go false e ih q = let found = ih q in (found.0, λ z. found.1 (none_left (work_of found.0 o) (work_on found.0 os) z), found.2)

  pub counted_is : (counts : List ℕ) (os : List Open) → CountsWork counts os → any_counted setup dev 0 counts ≡ list_any (is_kept_waiting setup dev) os
  counted_is counts os h = both_ways (any_counted setup dev 0 counts) (list_any (is_kept_waiting setup dev) os)
      (λ q. let found = any_at 0 counts q in any_waiting os found.0 (λ z. found.1 (h found.0 ∙ z)) (subst (λ (i : ℕ). over i ≡ true) (omega arith) found.2))
      (λ q. let found = work_waits os q in counted_at 0 counts found.0 (λ z. found.1 (sym (h found.0) ∙ z)) (subst (λ (i : ℕ). over i ≡ true) (omega arith) found.2))
