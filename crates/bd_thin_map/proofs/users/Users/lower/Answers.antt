use Rattle.std.proofs.Common.{◌≡◌, ℕ, ◌-◌, ◌<◌, List, length, get_or, nat_eq, set, length-set, sym, ap, ◌∙◌, subst, arith}
use Rattle.std.proofs.lemmas.List.{get_or_read, get_or-set_same}
use Rattle.std.specs.List.{position_or_len}
use Rattle.bd_thin_map.proofs.Least.{first_kept, first_lowered, used_there, within}
use Rattle.bd_thin_map.proofs.users.Users.lower.Goals as goal

-- no place has the cluster any more, and it comes before the first free one
pub invariant_of-self : goal.invariant_of-self
invariant_of-self c =
    let counts : List ℕ = c.self.inside.counts.items in
    let i : ℕ = c.args.cluster in
    let left : ℕ = c.index_mut.result.now - 1 in
    let before : i < position_or_len (nat_eq 0) counts = omega (arith, c.if-at-self.true, c.self.invariant.0) in
    let inside : i < length counts = omega (arith, before, within counts) in
    let there : i < length (set counts i left) = omega (arith, inside, length-set counts i left) in
    let none : left ≡ 0 = sym (get_or-set_same counts i left 0 inside) ∙ sym (get_or_read (set counts i left) i c.index.result.now there c.index.ensures 0) ∙ c.if-index-eq0.true in
    (first_lowered counts i before ∙ ap (λ (n : ℕ). position_or_len (nat_eq 0) (set counts i n)) (sym none), omega (arith, length-set counts i left, c.self.invariant.1))

-- no place has the cluster any more, and it comes after the first free one
pub invariant_of-self-else-at-self : goal.invariant_of-self-else-at-self
invariant_of-self-else-at-self c =
    let counts : List ℕ = c.self.inside.counts.items in
    let i : ℕ = c.args.cluster in
    let left : ℕ = c.index_mut.result.now - 1 in
    let had : 0 < get_or counts i 0 = subst (λ (us : List ℕ). 0 < get_or us i 0) (sym c.self.view_is) c.requires in
    let same : position_or_len (nat_eq 0) counts ≡ position_or_len (nat_eq 0) (set counts i left) =
    first_kept counts i left (used_there counts i had) had (λ h. absurd (omega (arith, h, c.if-at-self.false, c.self.invariant.0))) in
    (c.self.invariant.0 ∙ same, omega (arith, length-set counts i left, c.self.invariant.1))
