use Rattle.std.proofs.Common.{◌≡◌, ℕ, ◌≤◌, false, List, ◌++◌, length, ap, ap₂, subst, sym, ◌∙◌}
use Rattle.std.specs.List.{AllByRecursion}
use Rattle.std.specs.Prelude.{max}
use Rattle.std.proofs.Math.Nat.{le-max_right}
use Rattle.bd_base.specs.declared.act.Entry.{Entry}
use Rattle.bd_base.specs.declared.setup.Setup.{Setup}
use Rattle.bd_machine.specs.declared.state.Registry.{Registry}
use Rattle.bd_machine.specs.Step.{is_shutdown}
use Rattle.bd_law_logs.specs.Journals.{IsReplay}
use Rattle.bd_log.specs.Log.{Written}
use Rattle.bd_registry.specs.State.{rows_of}
use Rattle.bd_registry.proofs.Alike.{rows_are_enough}
use Rattle.bd_law_threads.specs.Course.{acts_of, restamped}
use Rattle.bd_seat.specs.Taking.{TakesOver}
use Rattle.bd_disks.specs.Contents.{contents_of}
use Rattle.bd_thread.specs.Moves.{turned_of}
use Rattle.bd_thread.specs.Timely.{HasSameTime}
use Rattle.bd_thread.specs.declared.thread.Thread.{Thread}
use Rattle.bd_thread.specs.Seen.{local}
use Rattle.bd_worker.specs.declared.worker.Worker.{Worker}
use Rattle.bd_worker.specs.Seats.{GoesWith, Tells}
use Rattle.bd_worker.proofs.Over.{over_no_shutdown, over_replay, over_threads}
use Rattle.bd_worker.proofs.Lent.{begins_alike, replica_left, seen_within}
use Rattle.bd_worker.proofs.Telling.{tells_appended}
use Rattle.bd_worker.proofs.Waiting.{idles_with}
use Rattle.bd_worker.proofs.Workers.{goes_with, has_queue}
use Rattle.bd_worker.proofs.worker.Worker.work_with.Goals as goal

pub catch_up-requires : goal.catch_up-requires
catch_up-requires g c =
    let w = c.args.self.now in
    let lent = c.args.lent.now in
    record {
      start = begins_alike w c.args.seen lent c.requires.lent;
      seen = seen_within w c.args.seen lent c.requires.lent;
      state = replica_left w c.args.seen lent c.requires.lent;
    }

pub turn_with_disks-requires : goal.turn_with_disks-requires
turn_with_disks-requires g c = record {
  me = has_queue c.requires.lent.setup c.requires.lent.t c.requires.lent.p c.requires.lent.c c.requires.lent.past c.requires.lent.contents c.args.self.now c.requires.lent.at;
  rows = c.in_ok-catch_up.ensures.setup ∙ c.requires.lent.at.rows ∙ ap rows_of (sym c.requires.lent.at.given);
}

pub take_over-requires : goal.take_over-requires
take_over-requires g c =
    let w = c.args.self.now in
    let lent = c.args.lent.now in
    let h = c.requires.lent in
    let s = c.take_entries-entries.new.self in
    let entries = c.take_entries-entries.result in
    let left = c.take_entries-entries.ensures.left in
    let acted = c.in_ok-turned.ensures.over.went in
    let links = record w.links { registry = c.catch_up.new.replica } in
    let log : Written = record w.log { last = max w.log.last lent.last } in
    let log-is : c.meet.new.self ≡ log = c.meet.ensures ∙ ap (λ (n : ℕ). record w.log { last = max w.log.last n }) c.last_stamp.ensures in
    let me-is : s.me ≡ w.thread.me = ap (λ (x : Worker). x.me) left ∙ h.at.me ∙ sym h.at.number in
    let es-are : entries ≡ acted.entries = c.take_entries-entries.ensures.entries ∙ acted.added ∙ ap (λ (es : List Entry). es ++ acted.entries) h.at.empty in
    let setup = w.thread.setup.now in
    let before = contents_of g.D.Disk.state c.args.disks.now in
    let after = contents_of g.D.Disk.state c.turn_with_disks.new.disks in
    record {
      me = ap (λ (x : Worker). x.me) left ∙ h.at.me ∙ sym h.at.log_thread ∙ sym (ap (λ (x : Written). x.thread) log-is) ∙ sym (ap (λ (x : Worker). x.log.thread) left);
      last = subst (λ (n : ℕ). lent.last ≤ n) (sym (ap (λ (x : Worker). x.log.last) left ∙ ap (λ (x : Written). x.last) log-is)) (le-max_right w.log.last lent.last);
      threads =
          subst (λ (es : List Entry). AllByRecursion (λ e. e.thread ≡ s.me) es) (sym es-are)
          (subst (λ (n : ℕ). AllByRecursion (λ e. e.thread ≡ n) acted.entries) (sym me-is)
          (over_threads setup w.thread.me before (local w.thread links) acted.entries after (local c.turn_with_disks.new.thread c.turn_with_disks.new.links) acted.leads));
      no_shutdown =
          subst (λ (es : List Entry). AllByRecursion (λ e. is_shutdown e.act ≡ false) es) (sym es-are)
          (over_no_shutdown setup w.thread.me before (local w.thread links) acted.entries after (local c.turn_with_disks.new.thread c.turn_with_disks.new.links) acted.leads);
      replay =
          subst (λ (es : List Entry). IsReplay lent.setup lent.state es) (sym es-are)
          ((rows_are_enough h.setup lent.setup (sym h.lent_is.start)).replay lent.state acted.entries
          (subst (λ (x : Setup). IsReplay x lent.state acted.entries) h.at.given
          (subst (λ (r : Registry). IsReplay setup r acted.entries) c.in_ok-catch_up.ensures.state
          (over_replay setup w.thread.me before (local w.thread links) acted.entries after (local c.turn_with_disks.new.thread c.turn_with_disks.new.links) acted.leads))));
    }

pub returns-clause-goes : goal.returns-clause-goes
returns-clause-goes g c =
    let w = c.args.self.now in
    let lent = c.args.lent.now in
    let now = c.take_over.new.registry in
    let entries = c.take_entries-entries.result in
    let log = c.take_over.new.log in
    let links = c.turn_with_disks.new.links in
    let met : Written = record w.log { last = max w.log.last lent.last } in
    let met-is : c.meet.new.self ≡ met = c.meet.ensures ∙ ap (λ (n : ℕ). record w.log { last = max w.log.last n }) c.last_stamp.ensures in
    let state = g.D.Disk.state in
    let before = c.args.disks.now in
    let after = c.turn_with_disks.new.disks in
    subst (λ (x : Worker). TakesOver x.log lent (restamped x.log.thread x.log.last (acts_of entries)) log now
    → GoesWith state before after c.args.seen w lent (record { me = x.me; thread = x.thread; links = x.links; log = log }) now) (sym c.take_entries-entries.ensures.left)
    (λ takes. goes_with state before after w c.args.seen lent now c.catch_up.new.replica c.turn_with_disks.new.thread links log
    (λ setup start. c.journal-rows.ensures.leaves setup start)
    c.in_ok-catch_up.ensures.setup c.in_ok-catch_up.ensures.state
    c.requires.begun c.in_ok-turned.ensures.over c.in_ok-turned.ensures.tickets
    (subst (λ (x : Written). TakesOver x lent (restamped x.thread x.last (acts_of links.entries)) log now) met-is
    (subst (λ (es : List Entry). TakesOver c.meet.new.self lent (restamped c.meet.new.self.thread c.meet.new.self.last (acts_of es)) log now) c.take_entries-entries.ensures.entries takes)))
    c.in_ok-take_over.ensures.taken

pub returns-clause-turned : goal.returns-clause-turned
returns-clause-turned g c =
    let w = c.args.self.now in
    let x = c.take_entries-entries.new.self in
    let entries = c.take_entries-entries.result in
    let log = c.take_over.new.log in
    let turned = c.in_ok-turned.turned in
    let is : turned ≡ turned_of 0 (length entries) =
    c.in_ok-turned.ensures.turned ∙ ap₂ (λ (es fs : List Entry). turned_of (length es) (length fs)) c.requires.lent.at.empty (sym c.take_entries-entries.ensures.entries) in
    let many : length x.log.entries ≡ length w.log.entries =
    ap (λ (y : Worker). length y.log.entries) c.take_entries-entries.ensures.left ∙ ap (λ (l : Written). length l.entries) c.meet.ensures in
    subst (λ (n : ℕ). Tells n (length log.entries) turned) many (tells_appended x.log log entries turned is c.in_ok-take_over.ensures.taken.log_is)

pub returns-clause-quiet : goal.returns-clause-quiet
returns-clause-quiet g c =
    let w = c.args.self.now in
    let x = c.take_entries-entries.new.self in
    let log = c.take_over.new.log in
    idles_with c.args.lent.now w (record x { log = log }) c.catch_up.new.replica c.turn_with_disks.new.thread c.turn_with_disks.new.links c.in_ok-turned.turned c.requires.lent.at.empty
    c.in_ok-catch_up.ensures.state c.in_ok-turned.ensures.quiet
    (ap (λ (y : Worker). y.thread) c.take_entries-entries.ensures.left) (ap (λ (y : Worker). y.links) c.take_entries-entries.ensures.left)

pub returns-clause-time : goal.returns-clause-time
returns-clause-time g c =
    let w = c.args.self.now in
    subst (λ (t : Thread). HasSameTime w.thread t) (sym (ap (λ (y : Worker). y.thread) c.take_entries-entries.ensures.left)) c.in_ok-turned.ensures.over.went.timely.time
