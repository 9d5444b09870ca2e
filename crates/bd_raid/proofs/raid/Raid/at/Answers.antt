use Rattle.std.proofs.Common.{◌≡◌, ℕ, List, true, false, length, subst, sym, ◌∙◌, ap}
use Rattle.bd_raid.proofs.Sets.{joined_alone, joined_used, striped_back, striped_used}
use Rattle.bd_raid.specs.Raid.{block_of_raid, IsPlace, IsRaid, joined_from, RaidRows, striped_at}
use Rattle.bd_raid.proofs.raid.Raid.at.Goals as goal

pub returns-then-self-clause-used : goal.returns-then-self-clause-used
returns-then-self-clause-used c =
    let r = c.args.self.now in
    let striped : r.striped ≡ true = ap (λ (s : RaidRows). s.striped) (sym c.self.view_is) ∙ c.if-self.true in
    let at : c.striped_at.result ≡ striped_at r.strip (length r.sizes) c.args.block = c.striped_at.ensures ∙ ap (λ n. striped_at c.self.inside.strip n c.args.block) (c.len.ensures ∙ c.self.inside.sizes.ok.0) ∙ ap (λ (s : RaidRows). striped_at s.strip (length s.sizes) c.args.block) c.self.view_is in
    subst (IsPlace r) (sym at) (striped_used r striped (subst IsRaid c.self.view_is c.self.invariant) c.args.block c.requires)

pub returns-then-self-clause-alone : goal.returns-then-self-clause-alone
returns-then-self-clause-alone c =
    let r = c.args.self.now in
    let striped : r.striped ≡ true = ap (λ (s : RaidRows). s.striped) (sym c.self.view_is) ∙ c.if-self.true in
    let at : c.striped_at.result ≡ striped_at r.strip (length r.sizes) c.args.block = c.striped_at.ensures ∙ ap (λ n. striped_at c.self.inside.strip n c.args.block) (c.len.ensures ∙ c.self.inside.sizes.ok.0) ∙ ap (λ (s : RaidRows). striped_at s.strip (length s.sizes) c.args.block) c.self.view_is in
    ap (block_of_raid r) at ∙ striped_back r striped (subst IsRaid c.self.view_is c.self.invariant) c.args.block

pub returns-else-self-clause-used : goal.returns-else-self-clause-used
returns-else-self-clause-used c =
    let r = c.args.self.now in
    let joined : r.striped ≡ false = ap (λ (s : RaidRows). s.striped) (sym c.self.view_is) ∙ c.if-self.false in
    let at : c.joined_at.result ≡ joined_from r.strip 0 r.sizes c.args.block = c.joined_at.ensures ∙ ap (λ (xs : List ℕ). joined_from c.self.inside.strip 0 xs c.args.block) c.as_slice.ensures.value ∙ ap (λ (s : RaidRows). joined_from s.strip 0 s.sizes c.args.block) c.self.view_is in
    subst (IsPlace r) (sym at) (joined_used r joined c.args.block c.requires)

pub returns-else-self-clause-alone : goal.returns-else-self-clause-alone
returns-else-self-clause-alone c =
    let r = c.args.self.now in
    let joined : r.striped ≡ false = ap (λ (s : RaidRows). s.striped) (sym c.self.view_is) ∙ c.if-self.false in
    let at : c.joined_at.result ≡ joined_from r.strip 0 r.sizes c.args.block = c.joined_at.ensures ∙ ap (λ (xs : List ℕ). joined_from c.self.inside.strip 0 xs c.args.block) c.as_slice.ensures.value ∙ ap (λ (s : RaidRows). joined_from s.strip 0 s.sizes c.args.block) c.self.view_is in
    ap (block_of_raid r) at ∙ joined_alone r joined c.args.block c.requires
