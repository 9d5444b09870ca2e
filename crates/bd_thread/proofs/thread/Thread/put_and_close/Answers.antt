use Rattle.std.proofs.Common.{◌≡◌, true, Option, IfSome, sym, ◌∙◌, ap, subst}
use Rattle.std.proofs.lemmas.Result.{on_ok_weaker}
use Rattle.bd_base.specs.declared.event.RegEvent.{RegEvent}
use Rattle.bd_steps.specs.Resetting.{is_asked_alone}
use Rattle.bd_steps.specs.Following.{close_due}
use Rattle.bd_thread.specs.Lines.{may_ask, Follows}
use Rattle.bd_thread.proofs.Going.{acted_then}
use Rattle.bd_thread.proofs.Registering.{close_built, close_follows}
use Rattle.bd_thread.proofs.thread.Thread.put_and_close.Goals as goal

pub follow-requires-clause-built : goal.follow-requires-clause-built
follow-requires-clause-built c = subst (λ (o : Option RegEvent). IfSome o (λ event. is_asked_alone event ≡ true)) (sym c.close_due-due.ensures) (close_built c.args.handle.id c.ask.new.self.me c.between.result)

pub follow-requires-clause-asked : goal.follow-requires-clause-asked
follow-requires-clause-asked c =
    subst (λ (o : Option RegEvent). IfSome o (λ event. may_ask c.ask.new.self c.ask.new.links event ≡ true)) (sym (c.close_due-due.ensures ∙ ap (close_due c.args.handle.id c.ask.new.self.me) c.between.ensures))
    (close_follows c.args.self.now c.args.links.now c.ask.new.self c.ask.new.links c.args.handle c.requires.may c.in_ok-ask.ensures.answered)

pub returns : goal.returns
returns c = record {
  acted = on_ok_weaker c.follow.result (λ follows. acted_then _ _ _ _ _ _ c.in_ok-ask.ensures.acted follows) c.follow.ensures.acted;
  tickets = on_ok_weaker c.follow.result (λ follows keeps. follows (c.in_ok-ask.ensures.tickets keeps)) c.follow.ensures.tickets;
  closed = on_ok_weaker c.follow.result
      (λ follows. record { middle = c.ask.new.self; shared = c.ask.new.links; answered = c.in_ok-ask.ensures.answered; followed = subst (Follows c.ask.new.self c.ask.new.links c.follow.new.self c.follow.new.links) (c.close_due-due.ensures ∙ ap (close_due c.args.handle.id c.ask.new.self.me) c.between.ensures) follows })
      c.follow.ensures.follows;
}
