use Rattle.std.proofs.Common.{◌≡◌, None, Some, sym, ◌∙◌, ap}
use Rattle.bd_thread.specs.Grace.{next_due}
use Rattle.bd_thread.proofs.Alone.{alone_none, hardens_alone}
use Rattle.bd_thread.proofs.Going.{acted_none, acted_then}
use Rattle.bd_thread.proofs.Gracing.{hardens_idle, hardens_none, hardens_so, walk_due}
use Rattle.bd_thread.proofs.thread.Thread.harden_next.Goals as goal

pub returns-in_default : goal.returns-in_default
returns-in_default c =
    let old = c.args.self.now in
    let before = c.args.links.now in
    let none : next_due old.part old.time.moment ≡ None = ap (next_due old.part) (sym c.moment-now.ensures) ∙ sym c.next_due.ensures ∙ c.in_default.is in
    record {
      acted = acted_none old before;
      tickets = λ keeps. keeps;
      hardens = hardens_none old before none;
      quiet = hardens_idle old before old before _ (hardens_none old before none);
      alone = alone_none before;
    }

pub end_mark-requires : goal.end_mark-requires
end_mark-requires c =
    let old = c.args.self.now in
    walk_due old.part old.time.moment c.in-Some.due (ap (next_due old.part) (sym c.moment-now.ensures) ∙ sym c.next_due.ensures ∙ c.in-Some.is)

pub returns : goal.returns
returns c =
    let old = c.args.self.now in
    let before = c.args.links.now in
    let due : next_due old.part old.time.moment ≡ Some c.in-Some.due = ap (next_due old.part) (sym c.moment-now.ensures) ∙ sym c.next_due.ensures ∙ c.in-Some.is in
    let hardens = hardens_so old before c.end_mark.new.self c.end_mark.new.links c.stop_all.new.self c.stop_all.new.links c.in-Some.due due c.in_ok-end_mark.ensures.hardened c.in_ok-stop_all.ensures.stops in
    record {
      acted = acted_then _ _ _ _ _ _ c.in_ok-end_mark.ensures.acted c.in_ok-stop_all.ensures.acted;
      tickets = λ keeps. c.in_ok-stop_all.ensures.tickets (c.in_ok-end_mark.ensures.tickets keeps);
      hardens = hardens;
      quiet = hardens_idle old before c.stop_all.new.self c.stop_all.new.links _ hardens;
      alone = hardens_alone old before c.stop_all.new.self c.stop_all.new.links _ hardens;
    }
