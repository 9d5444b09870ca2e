use Rattle.std.proofs.Common.{◌≡◌, cond, [], ◌∷◌, ◌++◌, find, Option, is_some, option_copied, sym, ◌∙◌, ap}
use Rattle.bd_retries.specs.Channels.{blank, is_of, with_channel, Channel}
use Rattle.bd_retries.proofs.Answered.{on_ok}
use Rattle.bd_retries.proofs.retries.make.Goals as goal

pub returns-in-Some : goal.returns-in-Some
returns-in-Some c =
    let base = c.args.base in
    let rows = c.args.channels.now in
    let found = ap (find (is_of base)) (sym c.as_slice.ensures) ∙ sym c.find_channel.ensures ∙ ap option_copied c.in-Some.is in
    sym (ap (λ (o : Option Channel). cond (is_some o) rows (rows ++ blank base ∷ [])) found)

pub returns-in-None : goal.returns-in-None
returns-in-None c =
    let base = c.args.base in
    let rows = c.args.channels.now in
    let found = ap (find (is_of base)) (sym c.as_slice.ensures) ∙ sym c.find_channel.ensures ∙ ap option_copied c.in-None.is in
    let is : with_channel base rows ≡ rows ++ blank base ∷ [] = ap (λ (o : Option Channel). cond (is_some o) rows (rows ++ blank base ∷ [])) found in
    on_ok c.push.result (λ e. e ∙ ap (λ (r : Channel). rows ++ r ∷ []) c.new.ensures ∙ sym is) c.push.ensures.ok
