use Rattle.std.proofs.Common.{refl, sym, ◌∙◌}
use Rattle.bd_thread.proofs.Alone.{alone_none, stops_alone}
use Rattle.bd_thread.proofs.Going.{acted_none}
use Rattle.bd_thread.proofs.Limiting.{stops_progress}
use Rattle.bd_thread.proofs.thread.Thread.stop_head.Goals as goal

pub returns-in_default : goal.returns-in_default
returns-in_default c = record {
  acted = acted_none _ _;
  tickets = λ keeps. keeps;
  progresses = record { thread = refl; links = refl; waits = sym c.head_stop.ensures.due ∙ c.in_default.is };
  alone = alone_none _;
}

pub returns : goal.returns
returns c = record {
  acted = c.in_ok-stop.ensures.acted;
  tickets = c.in_ok-stop.ensures.tickets;
  progresses = stops_progress c.in-Some.req c.in-Some.cause c.args.self.now c.args.links.now c.stop.new.self c.stop.new.links c.in-Some.ensures.allowed c.in_ok-stop.ensures.stops;
  alone = stops_alone c.in-Some.req c.in-Some.cause c.args.self.now c.args.links.now c.stop.new.self c.stop.new.links c.in_ok-stop.ensures.stops;
}
