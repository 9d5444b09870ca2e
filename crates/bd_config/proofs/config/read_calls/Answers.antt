use Rattle.std.proofs.Common.{◌≡◌, ◌++◌, ◌∷◌, [], refl, sym, subst, arith}
use Rattle.std.specs.Prelude.{All, IfOk}
use Rattle.std.proofs.lemmas.Grind.{common_steps}
use Rattle.std.proofs.lemmas.List.Elements.{All-push}
use Rattle.std.proofs.lemmas.Slice.{pushed}
use Rattle.bd_config.specs.Commands.{IsOpenable}
use Rattle.bd_config.proofs.config.read_calls.Goals as goal

pub loop-call-preserved : goal.loop-call-preserved
loop-call-preserved c = record {
  left = grind (arith, common_steps);
  openable = λ before.
      let command = c.in-Ok.command in
      let items : c.push.new.self.items ≡ c.loop-call.commands.items ++ command ∷ [] = pushed (command ∷ []) refl c.in_ok-push-in-Ok.was c.push.ensures.items in
      let openable : IsOpenable command = subst (λ answer. IfOk answer IsOpenable) c.in-Ok.is c.in_ok-command.ensures.openable in
      subst (All IsOpenable) (sym items) (All-push IsOpenable c.loop-call.commands.items command (c.loop-call.invariant.openable before) openable);
}
