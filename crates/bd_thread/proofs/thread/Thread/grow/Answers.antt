use Rattle.std.proofs.Common.{◌≡◌, true, sym, ◌∙◌, subst}
use Rattle.bd_thread.specs.Growing.{growth_due, GrowsBy}
use Rattle.bd_thread.proofs.Going.{acted_then}
use Rattle.bd_thread.proofs.Growing.{grew_by}
use Rattle.bd_thread.proofs.thread.Thread.grow.Goals as goal

pub returns : goal.returns
returns c =
    let t = c.args.self.now in
    let links = c.args.links.now in
    let due = sym c.growth_due.ensures ∙ c.in-Some.is in
    let grew = c.in_ok-grow_content.ensures in
    let ended = c.in_ok-ask.ensures in
    record {
      acted = acted_then _ _ _ _ _ _ grew.acted ended.acted;
      tickets = λ keeps. ended.tickets (grew.tickets keeps);
      grows = subst (GrowsBy t links c.ask.new.self c.ask.new.links true) (sym due)
          (grew_by t links c.grow_content.new.self c.grow_content.new.links c.ask.new.self c.ask.new.links _ _ grew.grown ended.answered);
    }
