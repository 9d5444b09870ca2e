use Rattle.std.proofs.Common.{◌≡◌, false, ap, sym, ◌∙◌}
use Rattle.std.specs.List.{list_any}
use Rattle.bd_thread.specs.Grace.{lasts_at}
use Rattle.bd_thread.proofs.Alone.{alone_none}
use Rattle.bd_thread.proofs.Going.{acted_none}
use Rattle.bd_thread.proofs.Idle.{idle_here}
use Rattle.bd_thread.proofs.Lasting.{none_lasts}
use Rattle.bd_thread.proofs.thread.Thread.harden_all.Goals as goal

pub returns-then-not-any_lasts : goal.returns-then-not-any_lasts
returns-then-not-any_lasts c =
    let old = c.args.self.now in
    let links = c.args.links.now in
    let none : list_any lasts_at old.part.marked ≡ false = ap (list_any lasts_at) (sym c.as_slice.ensures) ∙ sym c.any_lasts.ensures ∙ c.if-not-any_lasts.true in
    record { acted = acted_none old links; tickets = λ keeps. keeps; quiet = idle_here old links (none_lasts old links none); alone = alone_none links }
