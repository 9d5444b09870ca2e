use Rattle.std.proofs.Common.{◌≢◌, ℕ, ◌+◌, ◌<◌, List, length, nat_eq, set, slice_index, length-set, sym, ap, ◌∙◌, subst, arith}
use Rattle.std.specs.List.{position_or_len}
use Rattle.bd_thin_map.proofs.Least.{at_set, first_kept_raised, used_before}
use Rattle.bd_thin_map.proofs.users.Users.raise.Goals as goal

-- the first free cluster has a place now, and those before it had one
pub next_free-self-inside-requires-clause-before : goal.next_free-self-inside-requires-clause-before
next_free-self-inside-requires-clause-before c = λ k h.
    let counts : List ℕ = c.self.inside.counts.items in
    let i : ℕ = c.args.cluster in
    let more : ℕ = c.index_mut.result.now + 1 in
    let inside : i < length counts = omega (arith, c.requires.there, ap length c.self.view_is) in
    let some : 0 < slice_index (set counts i more) k = at_set counts i more k inside (λ same. omega arith)
    (λ other. used_before counts k (let apart : k ≢ i = other in omega (arith, h, apart, c.if-at-self.true, c.self.invariant.0))) in
    subst (λ (us : List ℕ). 0 < slice_index us k) (sym c.as_slice.ensures.value) some

pub invariant_of-self-else-at-self : goal.invariant_of-self-else-at-self
invariant_of-self-else-at-self c =
    let counts : List ℕ = c.self.inside.counts.items in
    let i : ℕ = c.args.cluster in
    let more : ℕ = c.index_mut.result.now + 1 in
    let inside : i < length counts = omega (arith, c.requires.there, ap length c.self.view_is) in
    let apart : i ≢ position_or_len (nat_eq 0) counts = λ e. c.if-at-self.false (e ∙ sym c.self.invariant.0) in
    (c.self.invariant.0 ∙ first_kept_raised counts i more inside apart (omega arith), omega (arith, length-set counts i more, c.self.invariant.1))
