use Rattle.std.proofs.Common.{◌≡◌, ◌∙◌, ℕ, List, Option, Some, None, is_some, true, cond, ap, sym, get_or, set}
use Rattle.std.specs.List.{position}
use Rattle.bd_base.specs.declared.id.DevId.{DevId}
use Rattle.bd_machine.specs.declared.state.Channel.{Channel}
use Rattle.bd_machine.specs.Same.{same_channel}
use Rattle.bd_machine.specs.Table.{look_up, write}
use Rattle.bd_machine.proofs.Tables.{channel_same}
use Rattle.bd_blocks.proofs.Written.{written_at, seen_none}
use Rattle.bd_rule_channels.specs.ByDevice.{row_at, with_row}
use Rattle.bd_rule_channels.specs.Counts.{Table, channel_of, count_in, has_place}
use Rattle.bd_rule_channels.proofs.Entries.{written_counts, written_places}
use Rattle.bd_rule_channels.proofs.channels.Channels.set.Goals as goal

-- the table after a write in the place of the channel's entry
after : (old new : Table) (t : ℕ) (dev : DevId) (count : Option ℕ) (row : List (Channel × Option ℕ)) (i : ℕ) → row ≡ row_at old dev
    → position (λ (e : Channel × Option ℕ). same_channel e.0 (channel_of dev t)) row ≡ Some i
    → new ≡ with_row old dev (set (row_at old dev) i (channel_of dev t, count))
    → new ≡ with_row old dev (write same_channel (row_at old dev) (channel_of dev t) count)
after old new t dev count row i is at e =
    e ∙ ap (λ (es : List (Channel × Option ℕ)). with_row old dev es) (written_at same_channel channel_same (channel_of dev t) count (row_at old dev) i
    (ap (λ (es : List (Channel × Option ℕ)). position (λ (e : Channel × Option ℕ). same_channel e.0 (channel_of dev t)) es) (sym is) ∙ at))

-- there is an entry
missing : (old : Table) (t : ℕ) (dev : DevId) (row : List (Channel × Option ℕ)) → row ≡ row_at old dev
    → position (λ (e : Channel × Option ℕ). same_channel e.0 (channel_of dev t)) row ≡ None → has_place old t dev ≡ true → ⊥
missing old t dev row is at h =
    let gone = ap is_some (seen_none same_channel channel_same (channel_of dev t) None (row_at old dev)
    (ap (λ (es : List (Channel × Option ℕ)). position (λ (e : Channel × Option ℕ). same_channel e.0 (channel_of dev t)) es) (sym is) ∙ at)) in
    let both = sym gone ∙ h in cc

pub returns-in-Some-clause-counts : goal.returns-in-Some-clause-counts
returns-in-Some-clause-counts c =
    let is = after c.args.self.now c.put_at.new.self c.args.thread c.args.dev c.args.count c.row.result.now c.in-Some.entry c.row.ensures.value (sym c.entry_of.ensures ∙ c.in-Some.is) c.put_at.ensures in
    λ u d. ap (λ (table : Table). count_in table u d) is ∙ written_counts c.args.self.now c.args.dev c.args.thread c.row.ensures.some c.args.count u d

pub returns-in-Some-clause-stays : goal.returns-in-Some-clause-stays
returns-in-Some-clause-stays c =
    let is = after c.args.self.now c.put_at.new.self c.args.thread c.args.dev c.args.count c.row.result.now c.in-Some.entry c.row.ensures.value (sym c.entry_of.ensures ∙ c.in-Some.is) c.put_at.ensures in
    λ u d h. ap (λ (table : Table). has_place table u d) is ∙ written_places c.args.self.now c.args.dev c.args.thread c.row.ensures.some c.args.count u d h

pub returns-in_default : goal.returns-in_default
returns-in_default c = absurd (missing c.args.self.now c.args.thread c.args.dev c.row.result.now c.row.ensures.value (sym c.entry_of.ensures ∙ c.in_default.is) c.requires)
