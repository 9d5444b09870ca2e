use Rattle.std.proofs.Common.{◌≡◌, ◌∙◌, ℕ, List, Option, ap, sym, Some, None, get_or}
use Rattle.std.specs.List.{position}
use Rattle.std.specs.Option.{option_flatten}
use Rattle.bd_machine.specs.declared.state.Channel.{Channel}
use Rattle.bd_machine.specs.Same.{same_channel}
use Rattle.bd_machine.proofs.Tables.{channel_same}
use Rattle.bd_blocks.proofs.Written.{seen_at, seen_none}
use Rattle.bd_blocks.proofs.channels.references.Goals as goal

pub returns-in-Some : goal.returns-in-Some
returns-in-Some c =
    let channels = c.args.registry.now.channels in
    let channel : Channel = record { dev = c.args.dev; thread = c.args.thread } in
    let at : position (λ (e : Channel × Option ℕ). same_channel e.0 channel) channels ≡ Some c.in-Some.place =
    ap (position (λ (e : Channel × Option ℕ). same_channel e.0 channel)) (sym c.as_slice.ensures) ∙ sym c.place_of.ensures ∙ c.in-Some.is in
    ap (λ (es : List (Channel × Option ℕ)). (get_or es c.in-Some.place (record { dev = record { 0 = 0 }; thread = 0 }, None)).1) c.as_slice-in-Some.ensures
    ∙ sym (ap option_flatten (seen_at same_channel channel_same channel (Some 0) channels c.in-Some.place (record { dev = record { 0 = 0 }; thread = 0 }, None) at))

pub returns-in-None : goal.returns-in-None
returns-in-None c =
    let channels = c.args.registry.now.channels in
    let channel : Channel = record { dev = c.args.dev; thread = c.args.thread } in
    let at : position (λ (e : Channel × Option ℕ). same_channel e.0 channel) channels ≡ None =
    ap (position (λ (e : Channel × Option ℕ). same_channel e.0 channel)) (sym c.as_slice.ensures) ∙ sym c.place_of.ensures ∙ c.in-None.is in
    sym (ap option_flatten (seen_none same_channel channel_same channel (Some 0) channels at))
