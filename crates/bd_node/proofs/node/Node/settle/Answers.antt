-- What was still in the logs is gathered, and then the trace is the history of what all did.
use Rattle.std.proofs.Common.{◌≡◌, List, IsPermutation, sym, ◌∙◌, ap, subst}
use Rattle.std.proofs.lemmas.Result.{IfOk-weaker}
use Rattle.bd_base.specs.declared.act.Entry.{Entry}
use Rattle.bd_base.specs.declared.id.DevId.{DevId}
use Rattle.bd_base.specs.declared.setup.Setup.{Setup}
use Rattle.bd_log.specs.Merge.{IsMerge, Part}
use Rattle.bd_machine.specs.Run.{IsCompleteRun}
use Rattle.bd_report.specs.Stats.{stats_of}
use Rattle.bd_law_disks.specs.Told.{AreBasesLowest}
use Rattle.bd_node.specs.Disks.{told_of, SaysOfDisks}
use Rattle.bd_node.specs.Times.{AreHoldsWithin}
use Rattle.bd_node.specs.Whole.{logs_of, setup_in}
use Rattle.bd_node.proofs.Gathered.{trace_is_merge}
use Rattle.bd_node.proofs.Telling.{both_if}
use Rattle.bd_node.proofs.node.Node.settle.Goals as goal

pub end-requires-clause-done : goal.end-requires-clause-done
end-requires-clause-done g c = c.in-Ok.ensures.same.state ∙ c.requires.done

pub returns-in-Ok-clause-merged : goal.returns-in-Ok-clause-merged
returns-in-Ok-clause-merged g c =
    let n = c.gather_and_count.new.self in
    IfOk-weaker c.end.result.0 _ _ (λ run is.
    subst (λ (es : List Entry). IsMerge (logs_of c.args.self) es) (sym is)
    (subst (λ (ps : List Part). IsMerge ps n.trace.items) c.in-Ok.ensures.same.logs
    (trace_is_merge g.D.Disk.state c.in-Ok.ensures.node.starts n c.in-Ok.ensures.node.node c.in-Ok.ensures.left))) c.end.ensures.history

pub returns-in-Ok-clause-counted : goal.returns-in-Ok-clause-counted
returns-in-Ok-clause-counted g c =
    let n = c.gather_and_count.new.self in
    both_if c.end.result.0 _ _ _ (λ run history stats.
    stats ∙ c.in-Ok.ensures.stats
    ∙ ap (λ (s : Setup). stats_of s n.trace.items) (ap (λ s. s.now) c.in-Ok.ensures.same.setup)
    ∙ ap (stats_of (setup_in c.args.self)) (sym history)) c.end.ensures.history c.end.ensures.stats

pub returns-in-Ok-clause-complete : goal.returns-in-Ok-clause-complete
returns-in-Ok-clause-complete g c =
    let state = g.D.Disk.state in
    let setup-is : setup_in c.gather_and_count.new.self ≡ setup_in c.args.self = ap (λ s. s.now) c.in-Ok.ensures.same.setup in
    λ starts node lowest.
    IfOk-weaker c.end.result.0 _ _ (λ run is. subst (λ (s : Setup). IsCompleteRun s (told_of state s starts) run.history) setup-is is)
    (c.end.ensures.complete starts (c.in-Ok.ensures.disks.node starts node) (subst (λ (s : Setup). AreBasesLowest s) (sym setup-is) lowest))

pub returns-in-Ok-clause-disks : goal.returns-in-Ok-clause-disks
returns-in-Ok-clause-disks g c =
    let state = g.D.Disk.state in
    let setup-is : setup_in c.gather_and_count.new.self ≡ setup_in c.args.self = ap (λ s. s.now) c.in-Ok.ensures.same.setup in
    λ starts empty node lowest.
    IfOk-weaker c.end.result.0 _ _ (λ run is. subst (λ (s : Setup). SaysOfDisks state s run.history starts c.end.result.1.items) setup-is is)
    (c.end.ensures.disks starts (c.in-Ok.ensures.disks.shelf ∙ empty) (c.in-Ok.ensures.disks.node starts node) (subst (λ (s : Setup). AreBasesLowest s) (sym setup-is) lowest))

pub returns-in-Ok-clause-kept : goal.returns-in-Ok-clause-kept
returns-in-Ok-clause-kept g c =
    subst (λ (ds : List (List (DevId × g.row.D.Denot))). IsPermutation ds c.end.result.1.items) c.gather_and_count.ensures.kept c.end.ensures.kept

pub returns-in-Err-clause-kept : goal.returns-in-Err-clause-kept
returns-in-Err-clause-kept g c =
    subst (λ (ds : List (List (DevId × g.row.D.Denot))). IsPermutation ds c.abandon.result.items) c.gather_and_count.ensures.kept c.abandon.ensures

pub returns-in-Ok-clause-moments : goal.returns-in-Ok-clause-moments
returns-in-Ok-clause-moments g c range within = c.end.ensures.moments range (c.in-Ok.ensures.times range within)

pub returns-in-Ok-clause-holds : goal.returns-in-Ok-clause-holds
returns-in-Ok-clause-holds g c range within lowest =
    let setup-is : setup_in c.gather_and_count.new.self ≡ setup_in c.args.self = ap (λ s. s.now) c.in-Ok.ensures.same.setup in
    IfOk-weaker c.end.result.0 _ _ (λ run is. subst (λ (s : Setup). AreHoldsWithin range s run.history) setup-is is) (c.end.ensures.holds range (c.in-Ok.ensures.times range within) (subst (λ (s : Setup). AreBasesLowest s) (sym setup-is) lowest))

pub returns-in-Ok-clause-starts : goal.returns-in-Ok-clause-starts
returns-in-Ok-clause-starts g c range within lowest =
    let setup-is : setup_in c.gather_and_count.new.self ≡ setup_in c.args.self = ap (λ s. s.now) c.in-Ok.ensures.same.setup in
    c.end.ensures.starts range (c.in-Ok.ensures.times range within) (subst (λ (s : Setup). AreBasesLowest s) (sym setup-is) lowest)
