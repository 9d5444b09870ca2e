-- How far it is to a boundary.
use Rattle.std.proofs.Common.{◌≡◌, ℕ, ◌+◌, ◌-◌, ◌*◌, ◌/◌, ◌%◌, ◌<◌, inl, inr, min, refl, ap, sym, subst, ◌∙◌, arith, Bool, true, false, ◌||◌, ◌==◌, nat_lt}
use Rattle.std.proofs.lemmas.Bool.{and_right, and_left, and_from, lt-ltb, ne_eqb, eq-eqb, cases_lt}
use Rattle.std.proofs.lemmas.Nat.{mod-mul-add, div-add-mod'}
use Rattle.std.proofs.Math.Nat.{add-mod_right}
use Rattle.bd_blocks.specs.Cuts.{IsClear, is_multiple}

-- before the next multiple there is none
not_yet : (boundary x k : ℕ) → 0 < boundary → 0 < k → k < boundary - x % boundary → (x + k) % boundary ≡ x % boundary + k
not_yet boundary x k hb hk h =
    let sum : x + k ≡ x / boundary * boundary + (x % boundary + k) = omega (arith, div-add-mod' x boundary) in
    ap (λ n. n % boundary) sum ∙ mod-mul-add (x / boundary) boundary (x % boundary + k) (omega arith)

-- there it is
there : (boundary x : ℕ) → 0 < boundary → x % boundary < boundary → (x + (boundary - x % boundary)) % boundary ≡ 0
there boundary x hb hm =
    let sum : x + (boundary - x % boundary) ≡ (x / boundary * boundary + 0) + boundary = omega (arith, div-add-mod' x boundary) in
    ap (λ n. n % boundary) sum ∙ (add-mod_right (x / boundary * boundary + 0) boundary ∙ mod-mul-add (x / boundary) boundary 0 hb)

-- the way to the next multiple, in so far as it is asked for
pub to_multiple : (boundary x most : ℕ) → 0 < boundary → 0 < most → x % boundary < boundary → IsClear (λ k. is_multiple boundary (x + k)) most (min most (boundary - x % boundary))
to_multiple boundary x most hb hm lt = record {
  some = omega arith;
  within = omega arith;
  clear = λ k pos below. and_right (nat_lt 0 boundary) ((x + k) % boundary == 0) (ne_eqb ((x + k) % boundary) 0 (λ z.
      let e = not_yet boundary x k hb pos (omega (arith, below)) in omega (arith, e, z, pos)));
  ends = λ short.
      let is : min most (boundary - x % boundary) ≡ boundary - x % boundary = omega (arith, short) in
      and_from (nat_lt 0 boundary) ((x + min most (boundary - x % boundary)) % boundary == 0) (lt-ltb 0 boundary hb)
      (eq-eqb _ 0 (ap (λ n. (x + n) % boundary) is ∙ there boundary x hb lt));
}

pub way_to_multiple : (boundary x most n : ℕ) → (boundary ≡ 0 → ⊥) → 0 < most → n ≡ min most (boundary - x % boundary) → IsClear (λ k. is_multiple boundary (x + k)) most n
way_to_multiple boundary x most n some hm e =
    let hb : 0 < boundary = omega (arith, some) in
    subst (IsClear (λ k. is_multiple boundary (x + k)) most) (sym e) (to_multiple boundary x most hb hm (omega (arith, hb)))

-- where there is no boundary, all that is asked for is clear
pub no_boundary : (boundary x most : ℕ) → boundary ≡ 0 → 0 < most → IsClear (λ k. is_multiple boundary (x + k)) most most
no_boundary boundary x most e hm = record {
  some = hm;
  within = omega arith;
  clear = λ k pos below. and_left (nat_lt 0 boundary) ((x + k) % boundary == 0) (ap (λ n. nat_lt 0 n) e);
  ends = λ short. absurd (omega (arith, short));
}

or_false : (x y : Bool) → x ≡ false → y ≡ false → (x || y) ≡ false
or_false false false p q = refl
or_false true y p q = cc
or_false false true p q = cc

or_first : (x y : Bool) → x ≡ true → (x || y) ≡ true
or_first true y p = refl
or_first false y p = cc

or_second : (x y : Bool) → y ≡ true → (x || y) ≡ true
or_second true true p = refl
or_second false true p = refl
or_second true false p = cc
or_second false false p = cc

-- the way to where one of two tests holds
pub both_clear : (first second : ℕ → Bool) (most m n : ℕ) → IsClear first most m → IsClear second m n → IsClear (λ k. first k || second k) most n
both_clear first second most m n p q = record {
  some = q.some;
  within = omega arith;
  clear = λ k pos below. or_false (first k) (second k) (p.clear k pos (omega (arith, below))) (q.clear k pos below);
  ends = λ short. elim (cases_lt n m) [
    | inl lt ↦ or_second (first n) (second n) (q.ends lt)
    | inr ge ↦
        let same : m ≡ n = omega (arith, ge) in
        or_first (first n) (second n) (ap first (sym same) ∙ p.ends (omega (arith, short, same)))
  ];
}

-- the same test, told otherwise
pub clear_same : (first second : ℕ → Bool) (most n : ℕ) → ((k : ℕ) → first k ≡ second k) → IsClear first most n → IsClear second most n
clear_same first second most n same p = record {
  some = p.some;
  within = p.within;
  clear = λ k pos below. sym (same k) ∙ p.clear k pos below;
  ends = λ short. sym (same n) ∙ p.ends short;
}
