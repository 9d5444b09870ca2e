use Rattle.std.proofs.Common.{◌≡◌, ℕ, ◌-◌, ◌<◌, ◌≤◌, length, get_or, subst, sym, ◌∙◌, ap}
use Rattle.std.proofs.lemmas.Grind.{get_or_default_zero}
use Rattle.bd_raid.proofs.Sets.{joined_follow, striped_alone_runs, striped_runs}
use Rattle.bd_raid.specs.Raid.{at_raid, IsRaid, left_in_strip, RaidRows, used_of}
use Rattle.bd_raid.proofs.raid.Raid.run_from.Goals as goal

-- the blocks of the member that are left
pub returns-then-not-self : goal.returns-then-not-self
returns-then-not-self c =
    let r = c.args.self.now in
    let at = c.at-member.result in
    let size = c.index.result.now in
    let xs = c.self.inside.sizes.items in
    let within : at.0 < length xs = subst (λ (s : RaidRows). at.0 < length s.sizes) (sym c.self.view_is) c.at-member.ensures.used.member in
    let size_is : size ≡ get_or xs at.0 0 = c.index.ensures ∙ get_or_default_zero xs at.0 size within in
    let run : c.used.result - at.1 ≡ used_of (get_or r.sizes (at_raid r c.args.block).0 0) r.strip - (at_raid r c.args.block).1 =
    ap (λ n. n - at.1) c.used.ensures ∙ ap (λ n. used_of n c.self.inside.strip - at.1) size_is
    ∙ ap (λ (s : RaidRows). used_of (get_or s.sizes at.0 0) s.strip - at.1) c.self.view_is
    ∙ ap (λ (a : ℕ × ℕ). used_of (get_or r.sizes a.0 0) r.strip - a.1) c.at-member.ensures.place in
    joined_follow r (ap (λ (s : RaidRows). s.striped) (sym c.self.view_is) ∙ c.if-not-self.true) (subst IsRaid c.self.view_is c.self.invariant) c.args.block _ c.requires run

-- the blocks of the strip that are left
pub returns-then-len-gt1 : goal.returns-then-len-gt1
returns-then-len-gt1 c =
    let r = c.args.self.now in
    let several : 1 < length r.sizes = subst (λ n. 1 < n) (c.len.ensures ∙ c.self.inside.sizes.ok.0 ∙ ap (λ (s : RaidRows). length s.sizes) c.self.view_is) c.if-len-gt1.true in
    striped_runs r (ap (λ (s : RaidRows). s.striped) (sym c.self.view_is) ∙ c.if-not-self.false) (subst IsRaid c.self.view_is c.self.invariant) several c.args.block _ c.requires
    (c.left_in_strip.ensures ∙ ap (λ (s : RaidRows). left_in_strip s.strip c.args.block) c.self.view_is)

-- the blocks of the only member that are left
pub returns-else-len-gt1 : goal.returns-else-len-gt1
returns-else-len-gt1 c =
    let r = c.args.self.now in
    let one : length r.sizes ≤ 1 = subst (λ n. n ≤ 1) (c.len.ensures ∙ c.self.inside.sizes.ok.0 ∙ ap (λ (s : RaidRows). length s.sizes) c.self.view_is) c.if-len-gt1.false in
    striped_alone_runs r (ap (λ (s : RaidRows). s.striped) (sym c.self.view_is) ∙ c.if-not-self.false) (subst IsRaid c.self.view_is c.self.invariant) one c.args.block _ c.requires
    (ap (λ n. n - c.args.block) c.blocks-else-len-gt1.ensures)
