use Rattle.std.proofs.Common.{◌||◌, ℕ, Bool, not, nat_eq, sym, ◌∙◌, ap}
use Rattle.std.specs.List.{list_any}
use Rattle.bd_range.specs.Locks.{is_rival, LockRows}
use Rattle.bd_range.specs.Near.{cluster_of, near_at}
use Rattle.bd_range.proofs.Noted.{itself, near_is}
use Rattle.bd_range.proofs.locks.Locks.has_rival_near.Goals as goal

-- a rival begins in the first cluster
pub returns-then-rival_near : goal.returns-then-rival_near
returns-then-rival_near c =
    let rival = is_rival c.args.req c.args.first c.args.count in
    let low = c.cluster_of-low.ensures ∙ ap cluster_of c.saturating_sub.ensures in
    let both = near_is c.self.inside.near c.self.inside.locks.entries c.len.ensures.ordered c.self.invariant.1 c.self.invariant.0 c.args.req c.args.first c.args.count c.requires.short c.cluster_of-low.result c.cluster_of-high.result low c.cluster_of-high.ensures in
    c.if-rival_near.true
    ∙ ap (λ b. b || list_any rival (near_at c.self.inside.near c.cluster_of-high.result)) c.if-rival_near.ensures
    ∙ both
    ∙ ap (λ (s : LockRows). list_any rival s.locks) c.self.view_is

-- none does, so it is as the second cluster says
pub returns-then-low-high : goal.returns-then-low-high
returns-then-low-high c =
    let rival = is_rival c.args.req c.args.first c.args.count in
    let low = c.cluster_of-low.ensures ∙ ap cluster_of c.saturating_sub.ensures in
    let both = near_is c.self.inside.near c.self.inside.locks.entries c.len.ensures.ordered c.self.invariant.1 c.self.invariant.0 c.args.req c.args.first c.args.count c.requires.short c.cluster_of-low.result c.cluster_of-high.result low c.cluster_of-high.ensures in
    c.rival_near-then-low-high.ensures
    ∙ ap (λ b. b || list_any rival (near_at c.self.inside.near c.cluster_of-high.result)) c.if-rival_near.ensures
    ∙ both
    ∙ ap (λ (s : LockRows). list_any rival s.locks) c.self.view_is

-- none does, and there is no second one
pub returns-else-low-high : goal.returns-else-low-high
returns-else-low-high c =
    let rival = is_rival c.args.req c.args.first c.args.count in
    let at : ℕ → Bool = λ cluster. list_any rival (near_at c.self.inside.near cluster) in
    let low = c.cluster_of-low.ensures ∙ ap cluster_of c.saturating_sub.ensures in
    let both = near_is c.self.inside.near c.self.inside.locks.entries c.len.ensures.ordered c.self.invariant.1 c.self.invariant.0 c.args.req c.args.first c.args.count c.requires.short c.cluster_of-low.result c.cluster_of-high.result low c.cluster_of-high.ensures in
    ap (λ cluster. not (nat_eq c.cluster_of-low.result cluster)) (sym c.if-low-high.false)
    ∙ ap not (itself c.cluster_of-low.result)
    ∙ c.if-rival_near.ensures
    ∙ ap at c.if-low-high.false
    ∙ ap (λ b. b || at c.cluster_of-high.result) c.if-rival_near.ensures
    ∙ both
    ∙ ap (λ (s : LockRows). list_any rival s.locks) c.self.view_is
