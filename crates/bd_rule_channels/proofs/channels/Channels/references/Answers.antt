use Rattle.std.proofs.Common.{◌≡◌, ◌∙◌, ℕ, List, Option, Some, None, ap, sym, get_or}
use Rattle.std.specs.List.{position}
use Rattle.std.specs.Option.{option_flatten}
use Rattle.bd_machine.specs.declared.state.Channel.{Channel}
use Rattle.bd_machine.specs.Same.{same_channel}
use Rattle.bd_machine.specs.Table.{look_up}
use Rattle.bd_machine.proofs.Tables.{channel_same}
use Rattle.bd_blocks.proofs.Written.{seen_at, seen_none}
use Rattle.bd_rule_channels.specs.Counts.{channel_of}
use Rattle.bd_rule_channels.proofs.channels.Channels.references.Goals as goal

pub returns-in-Some : goal.returns-in-Some
returns-in-Some c =
    let k : Channel = channel_of c.args.dev c.args.thread in
    let row : List (Channel × Option ℕ) = c.row-row.result.now in
    let at : position (λ (e : Channel × Option ℕ). same_channel e.0 k) row ≡ Some c.in-Some.place = sym c.entry_of.ensures ∙ c.in-Some.is in
    sym (ap option_flatten (seen_at same_channel channel_same k None row c.in-Some.place (record { dev = record { 0 = 0 }; thread = 0 }, None) at))
    ∙ ap (λ (es : List (Channel × Option ℕ)). option_flatten (look_up same_channel es k)) c.row-row.ensures.value

pub returns-in-None : goal.returns-in-None
returns-in-None c =
    let k : Channel = channel_of c.args.dev c.args.thread in
    let row : List (Channel × Option ℕ) = c.row-row.result.now in
    let at : position (λ (e : Channel × Option ℕ). same_channel e.0 k) row ≡ None = sym c.entry_of.ensures ∙ c.in-None.is in
    sym (ap option_flatten (seen_none same_channel channel_same k None row at))
    ∙ ap (λ (es : List (Channel × Option ℕ)). option_flatten (look_up same_channel es k)) c.row-row.ensures.value
