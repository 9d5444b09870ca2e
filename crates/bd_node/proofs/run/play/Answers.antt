use Rattle.std.proofs.Common.{◌≡◌, IfOk, subst, sym, ◌∙◌, ap}
use Rattle.bd_base.specs.declared.setup.Setup.{Setup}
use Rattle.bd_machine.specs.Run.{IsCompleteRun}
use Rattle.bd_report.specs.Stats.{stats_of}
use Rattle.bd_law_disks.specs.Told.{AreBasesLowest}
use Rattle.bd_node.specs.Disks.{told_of, SaysOfDisks}
use Rattle.bd_node.specs.Times.{AreHoldsWithin}
use Rattle.bd_node.specs.Whole.{setup_in}
use Rattle.bd_node.proofs.Kept.{all_given, played_back}
use Rattle.bd_node.proofs.run.play.Goals as goal

pub returns-in-Ok-play_out-clause-complete : goal.returns-in-Ok-play_out-clause-complete
returns-in-Ok-play_out-clause-complete g c =
    let state = g.D.Disk.state in
    let starts = c.args.disks.items in
    let turned = c.in-Ok-play_out.ensures in
    let setup-is : setup_in c.play_out.new.node ≡ c.args.setup.now = ap (λ s. s.now) turned.setup ∙ c.in-Ok.ensures.setup in
    λ lowest.
    subst (λ (s : Setup). IfOk c.settle.result.0 (λ run. IsCompleteRun s (told_of state s starts) run.history)) setup-is
    (c.settle.ensures.complete starts (turned.disks.node starts c.in-Ok.ensures.opened) (subst (λ (s : Setup). AreBasesLowest s) (sym setup-is) lowest))

pub returns-in-Ok-play_out-clause-disks : goal.returns-in-Ok-play_out-clause-disks
returns-in-Ok-play_out-clause-disks g c =
    let state = g.D.Disk.state in
    let starts = c.args.disks.items in
    let turned = c.in-Ok-play_out.ensures in
    let setup-is : setup_in c.play_out.new.node ≡ c.args.setup.now = ap (λ s. s.now) turned.setup ∙ c.in-Ok.ensures.setup in
    λ lowest.
    subst (λ (s : Setup). IfOk c.settle.result.0 (λ run. SaysOfDisks state s run.history starts c.settle.result.1.items)) setup-is
    (c.settle.ensures.disks starts (turned.disks.shelf ∙ c.in-Ok.ensures.shelf) (turned.disks.node starts c.in-Ok.ensures.opened) (subst (λ (s : Setup). AreBasesLowest s) (sym setup-is) lowest))

pub returns-in-Ok-play_out-clause-counted : goal.returns-in-Ok-play_out-clause-counted
returns-in-Ok-play_out-clause-counted g c =
    let turned = c.in-Ok-play_out.ensures in
    let setup-is : setup_in c.play_out.new.node ≡ c.args.setup.now = ap (λ s. s.now) turned.setup ∙ c.in-Ok.ensures.setup in
    subst (λ (s : Setup). IfOk c.settle.result.0 (λ run. run.stats ≡ stats_of s run.history)) setup-is c.settle.ensures.counted

pub returns-in-Err-clause-kept : goal.returns-in-Err-clause-kept
returns-in-Err-clause-kept g c = all_given g.D.Disk.state _ _ c.in-Err.ensures.kept

pub returns-in-Ok-play_out-clause-kept : goal.returns-in-Ok-play_out-clause-kept
returns-in-Ok-play_out-clause-kept g c =
    let state = g.D.Disk.state in
    played_back state c.args.disks.items c.in-Ok.node c.play_out.new.node _ c.in-Ok.ensures.shelf c.in-Ok.ensures.disks c.play_out.ensures.kept c.settle.ensures.kept

pub returns-in-Err-play_out-clause-kept : goal.returns-in-Err-play_out-clause-kept
returns-in-Err-play_out-clause-kept g c =
    let state = g.D.Disk.state in
    played_back state c.args.disks.items c.in-Ok.node c.play_out.new.node _ c.in-Ok.ensures.shelf c.in-Ok.ensures.disks c.play_out.ensures.kept c.abandon.ensures

pub returns-in-Ok-play_out-clause-moments : goal.returns-in-Ok-play_out-clause-moments
returns-in-Ok-play_out-clause-moments g c =
    let range = g.C.Clock.range c.args.outside.now.clock.now in
    c.settle.ensures.moments range (c.in-Ok-play_out.ensures.times (c.in-Ok.ensures.times range))

pub returns-in-Ok-play_out-clause-starts : goal.returns-in-Ok-play_out-clause-starts
returns-in-Ok-play_out-clause-starts g c lowest =
    let range = g.C.Clock.range c.args.outside.now.clock.now in
    let turned = c.in-Ok-play_out.ensures in
    let setup-is : setup_in c.play_out.new.node ≡ c.args.setup.now = ap (λ s. s.now) turned.setup ∙ c.in-Ok.ensures.setup in
    c.settle.ensures.starts range (turned.times (c.in-Ok.ensures.times range)) (subst (λ (s : Setup). AreBasesLowest s) (sym setup-is) lowest)

pub returns-in-Ok-play_out-clause-holds : goal.returns-in-Ok-play_out-clause-holds
returns-in-Ok-play_out-clause-holds g c lowest =
    let range = g.C.Clock.range c.args.outside.now.clock.now in
    let turned = c.in-Ok-play_out.ensures in
    let setup-is : setup_in c.play_out.new.node ≡ c.args.setup.now = ap (λ s. s.now) turned.setup ∙ c.in-Ok.ensures.setup in
    subst (λ (s : Setup). IfOk c.settle.result.0 (λ run. AreHoldsWithin range s run.history)) setup-is
    (c.settle.ensures.holds range (turned.times (c.in-Ok.ensures.times range)) (subst (λ (s : Setup). AreBasesLowest s) (sym setup-is) lowest))
