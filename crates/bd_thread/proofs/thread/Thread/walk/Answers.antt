use Rattle.std.proofs.Common.{subst}
use Rattle.bd_thread.specs.Walking.{Visits}
use Rattle.bd_thread.proofs.Alone.{visits_alone}
use Rattle.bd_thread.proofs.Noted.{walks_none, walks_so}
use Rattle.bd_thread.proofs.Waiting.{acted_noted, tickets_noted}
use Rattle.bd_thread.proofs.Walking.{visits_idle, visits_more}
use Rattle.bd_thread.proofs.thread.Thread.walk.Goals as goal

pub returns-then-not-visited : goal.returns-then-not-visited
returns-then-not-visited c =
    let o = c.args.self.now in
    let a = c.args.links.now in
    let n = c.visit.new.self in
    let d = c.visit.new.links in
    let visited = c.in_ok-visited.ensures in
    record {
      acted = visited.acted;
      tickets = visited.tickets;
      quiet = visits_idle c.args.id o a n d c.in_ok-visited.visited visited.visits;
      walks = walks_none c.args.id o a n d (subst (Visits c.args.id o a n d) c.if-not-visited.true visited.visits);
      alone = visits_alone c.args.id o a n d c.in_ok-visited.visited visited.visits;
    }

pub returns : goal.returns
returns c =
    let o = c.args.self.now in
    let a = c.args.links.now in
    let n = c.visit.new.self in
    let d = c.visit.new.links in
    let visited = c.in_ok-visited.ensures in
    let notes = c.in_ok-note_resets.ensures in
    record {
      acted = acted_noted o a n d c.note_resets.new.self notes.thread visited.acted;
      tickets = λ keeps. tickets_noted n c.note_resets.new.self notes.thread (visited.tickets keeps);
      quiet = λ few. absurd (visits_more c.args.id o a n d (subst (Visits c.args.id o a n d) c.if-not-visited.false visited.visits) few);
      walks = walks_so c.args.id o a n d c.note_resets.new.self (subst (Visits c.args.id o a n d) c.if-not-visited.false visited.visits) notes;
      alone = visits_alone c.args.id o a n d c.in_ok-visited.visited visited.visits;
    }
