use Rattle.bd_thread.specs.Completions.{MayComplete}
use Rattle.bd_thread.proofs.Going.{acted_then}
use Rattle.bd_thread.proofs.Naming.{ends_abort_alone}
use Rattle.bd_thread.proofs.thread.Thread.end_abort.Goals as goal

pub returns : goal.returns
returns c =
    let stops = c.in_ok-stop_named.ensures in
    let completes = c.in_ok-_completed.ensures in
    let may : MayComplete c.args.by c.stop_named.new.self c.stop_named.new.links c.complete.new.self c.complete.new.links =
    record { done = c.in_ok-_completed._completed; completes = completes.completes } in
    record {
      acted = acted_then _ _ _ _ _ _ stops.acted completes.acted;
      tickets = λ keeps. completes.tickets (stops.tickets keeps);
      ends = record { middle = c.stop_named.new.self; shared = c.stop_named.new.links; first = stops.stops; second = may };
      alone = ends_abort_alone c.args.by c.args.self.now c.args.links.now c.stop_named.new.self c.stop_named.new.links c.complete.new.self c.complete.new.links stops.stops may;
    }
