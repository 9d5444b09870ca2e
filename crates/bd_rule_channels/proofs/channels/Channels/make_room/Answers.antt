use Rattle.std.proofs.Common.{◌≡◌, ◌∙◌, ℕ, List, Option, Some, None, is_some, true, ap, sym}
use Rattle.std.specs.List.{position}
use Rattle.bd_machine.specs.declared.state.Channel.{Channel}
use Rattle.bd_machine.specs.Same.{same_channel}
use Rattle.bd_machine.proofs.Tables.{channel_same}
use Rattle.bd_blocks.proofs.Written.{seen_at}
use Rattle.bd_rule_channels.specs.ByDevice.{row_at}
use Rattle.bd_rule_channels.specs.Counts.{Table, channel_of, count_in, has_place}
use Rattle.bd_rule_channels.proofs.Entries.{added_same, added_place, added_places}
use Rattle.bd_rule_channels.proofs.channels.Channels.make_room.Goals as goal

pub returns-in-Some-clause-ok : goal.returns-in-Some-clause-ok
returns-in-Some-clause-ok c =
    let k : Channel = channel_of c.args.dev c.args.thread in
    let row : List (Channel × Option ℕ) = row_at c.args.self.now c.args.dev in
    let at : position (λ (e : Channel × Option ℕ). same_channel e.0 k) row ≡ Some c.in-Some.field-0 =
    ap (λ (es : List (Channel × Option ℕ)). position (λ (e : Channel × Option ℕ). same_channel e.0 k) es) (sym c.row.ensures.value) ∙ sym c.entry_of.ensures ∙ c.in-Some.is in
    ap is_some (seen_at same_channel channel_same k None row c.in-Some.field-0 (record { dev = record { 0 = 0 }; thread = 0 }, None) at)

pub returns-in_ok-add-in-None-clause-same : goal.returns-in_ok-add-in-None-clause-same
returns-in_ok-add-in-None-clause-same c = λ u d. ap (λ (table : Table). count_in table u d) c.in_ok-add-in-None.ensures.ok ∙ added_same c.args.self.now c.args.dev c.args.thread c.row.ensures.some u d

pub returns-in_ok-add-in-None-clause-stays : goal.returns-in_ok-add-in-None-clause-stays
returns-in_ok-add-in-None-clause-stays c = λ u d h. ap (λ (table : Table). has_place table u d) c.in_ok-add-in-None.ensures.ok ∙ added_places c.args.self.now c.args.dev c.args.thread c.row.ensures.some u d h

pub returns-in_ok-add-in-None-clause-ok : goal.returns-in_ok-add-in-None-clause-ok
returns-in_ok-add-in-None-clause-ok c = ap (λ (table : Table). has_place table c.args.thread c.args.dev) c.in_ok-add-in-None.ensures.ok ∙ added_place c.args.self.now c.args.dev c.args.thread c.row.ensures.some
