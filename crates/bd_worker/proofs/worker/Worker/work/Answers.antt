use Rattle.std.proofs.Common.{◌≡◌, ℕ, List, ◌++◌, length, ap, ap₂, subst, sym, ◌∙◌}
use Rattle.bd_base.specs.declared.act.Entry.{Entry}
use Rattle.bd_log.specs.Log.{Written}
use Rattle.bd_law_logs.specs.Journals.{events}
use Rattle.bd_law_threads.specs.Course.{acts_of, restamped}
use Rattle.bd_seat.specs.Taking.{AppendsAlone}
use Rattle.bd_thread.specs.Moves.{turned_of}
use Rattle.bd_thread.specs.Timely.{HasSameTime}
use Rattle.bd_thread.specs.declared.links.Links.{Links}
use Rattle.bd_thread.specs.declared.thread.Thread.{Thread}
use Rattle.bd_worker.specs.declared.worker.Worker.{Worker}
use Rattle.bd_worker.specs.Seats.{GoesAlone, Tells}
use Rattle.bd_worker.proofs.Telling.{tells_appended}
use Rattle.bd_worker.proofs.Waiting.{idles_alone}
use Rattle.bd_worker.proofs.Workers.{after_turn, goes_alone, has_queue}
use Rattle.bd_worker.proofs.worker.Worker.work.Goals as goal

-- the worker after its turn, with the list that it has for the next
abbrev with_left : Worker → Thread → Links → Written → List Entry → Worker
with_left w thread links log es = record (after_turn w thread links log) { links = record links { entries = es } }

pub work_with_disks-requires : goal.work_with_disks-requires
work_with_disks-requires g c = has_queue c.requires.works.setup c.requires.works.t c.requires.works.p c.requires.works.c c.requires.works.past c.requires.works.contents c.args.self.now c.requires.works.at

pub append_all-requires : goal.append_all-requires
append_all-requires g c =
    let alone = c.in_ok-turned.ensures.alone in
    let over = alone.went.went in
    record { none_asks = ap events (c.take_entries-entries.ensures.entries ∙ over.added ∙ ap (λ (es : List Entry). es ++ over.entries) c.requires.works.at.empty) ∙ alone.none_asks }

pub returns-clause-goes : goal.returns-clause-goes
returns-clause-goes g c =
    let w = c.args.self.now in
    let entries = c.take_entries-entries.result in
    let log = c.append_all.new.log in
    let state = g.D.Disk.state in
    let before = c.args.disks.now in
    let after = c.work_with_disks.new.disks in
    let left = c.in_ok-left.left in
    subst (λ (x : Worker). AppendsAlone x.log (restamped x.log.thread x.log.last (acts_of entries)) log
    → GoesAlone state before after w (record { me = x.me; thread = x.thread; links = record x.links { entries = left }; log = log })) (sym c.take_entries-entries.ensures.left)
    (λ appends. subst (λ (es : List Entry). GoesAlone state before after w (with_left w c.work_with_disks.new.thread c.work_with_disks.new.links log es)) (sym c.in_ok-left.ensures.left)
    (goes_alone state before after w c.work_with_disks.new.thread c.work_with_disks.new.links log c.requires.begun c.in_ok-turned.ensures.alone c.in_ok-turned.ensures.tickets
    (subst (λ (es : List Entry). AppendsAlone w.log (restamped w.log.thread w.log.last (acts_of es)) log) c.take_entries-entries.ensures.entries appends)))
    c.in_ok-left.ensures.appended

pub returns-clause-turned : goal.returns-clause-turned
returns-clause-turned g c =
    let w = c.args.self.now in
    let x = c.take_entries-entries.new.self in
    let entries = c.take_entries-entries.result in
    let log = c.append_all.new.log in
    let turned = c.in_ok-turned.turned in
    let is : turned ≡ turned_of 0 (length entries) =
    c.in_ok-turned.ensures.turned ∙ ap₂ (λ (es fs : List Entry). turned_of (length es) (length fs)) c.requires.works.at.empty (sym c.take_entries-entries.ensures.entries) in
    subst (λ (n : ℕ). Tells n (length log.entries) turned) (ap (λ (y : Worker). length y.log.entries) c.take_entries-entries.ensures.left)
    (tells_appended x.log log entries turned is c.in_ok-left.ensures.appended.log_is)

pub returns-clause-quiet : goal.returns-clause-quiet
returns-clause-quiet g c =
    let w = c.args.self.now in
    let x = c.take_entries-entries.new.self in
    let log = c.append_all.new.log in
    let left = c.in_ok-left.left in
    idles_alone w (record x { links = record x.links { entries = left }; log = log }) c.work_with_disks.new.thread c.work_with_disks.new.links c.in_ok-turned.turned c.requires.works.at.empty c.in_ok-turned.ensures.quiet
    (ap (λ (y : Worker). y.thread) c.take_entries-entries.ensures.left)
    (ap (λ (y : Worker). record y.links { entries = left }) c.take_entries-entries.ensures.left ∙ ap (λ (es : List Entry). record c.work_with_disks.new.links { entries = es }) c.in_ok-left.ensures.left)

pub returns-clause-time : goal.returns-clause-time
returns-clause-time g c =
    let w = c.args.self.now in
    subst (λ (t : Thread). HasSameTime w.thread t) (sym (ap (λ (y : Worker). y.thread) c.take_entries-entries.ensures.left)) c.in_ok-turned.ensures.alone.went.went.timely.time
