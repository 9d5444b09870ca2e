use Rattle.std.proofs.Common.{◌≡◌, Bool, true, ◌==◌, refl, sym, subst, eq-eqb}
use Rattle.bd_thread.specs.declared.thread.Thread.{Thread}
use Rattle.bd_thread.specs.Moves.{ComesOwn}
use Rattle.bd_thread.proofs.Going.{acted_still, acted_then}
use Rattle.bd_thread.proofs.Tickets.{same_tickets}
use Rattle.bd_thread.proofs.thread.Thread.take_back.Goals as goal

pub returns : goal.returns
returns c =
    let old = c.args.self.now in
    let links = c.args.links.now in
    let middle : Thread = record old { retries = c.piece_back.new.retries } in
    let own : (c.args.req.thread == old.me) ≡ true = eq-eqb c.args.req.thread old.me c.if-req-self.false in
    record {
      acted = acted_then old links middle links c.hold_or_complete.new.self c.hold_or_complete.new.links (acted_still old links middle links refl refl refl refl refl refl refl) c.in_ok-hold_or_complete.ensures.acted;
      tickets = λ keeps. c.in_ok-hold_or_complete.ensures.tickets (same_tickets old middle refl refl refl keeps);
      back = subst (λ (b : Bool). ComesOwn b c.args.req c.args.k old links c.hold_or_complete.new.self c.hold_or_complete.new.links) (sym own)
          (record {
            middle = middle;
            thread = refl;
            retries = c.in_ok-piece_back.ensures;
            carried = c.in_ok-hold_or_complete.ensures.carried;
          });
    }
