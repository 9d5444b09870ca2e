use Rattle.std.proofs.Common.{rules, ◌≡◌, ℕ, IfOk, List, Option, ◌∙◌, ap, ap₂, sym, subst}
use Rattle.bd_base.specs.declared.id.DevId.{DevId}
use Rattle.bd_disk_pool.specs.Closing.{closing_all}
use Rattle.bd_top.specs.DiskRows.{AreSetOut, TellDisks}
use Rattle.bd_building.specs.AioDevices.{AioDevice}
use Rattle.bd_disks.specs.Shelf.{AreAllThere}
use Rattle.bd_disk_pool.specs.Covering.{AreClosed}
use Rattle.bd_disk_pool.specs.Held.{Held}
use Rattle.bd_outside.specs.Disk.{DiskState}
use Rattle.bd_outside.specs.File.{Told as FileTold}
use Rattle.bd_outside.specs.declared.opening.Opening.{Opening}
use Rattle.bd_machine.specs.Content.{Told}
use Rattle.bd_machine.specs.Run.{IsCompleteRun}
use Rattle.bd_node.specs.Disks.{told_of, SaysOfDisks}
use Rattle.bd_node.specs.Times.{AreHoldsWithin, AreStartsWithin}
use Rattle.bd_base.specs.declared.act.Entry.{Entry}
use Rattle.bd_report.specs.declared.stats.Stats.{Stats}
use Rattle.bd_report.specs.Report.{report_with}
use Rattle.bd_report.specs.Stats.{stats_of}
use Rattle.bd_top.proofs.Contents.{bases_lowest}
use Rattle.bd_top.proofs.DiskRows.{all_closed, closed_after, closed_same, set_out_done}
use Rattle.bd_top.proofs.Histories.{played}
use Rattle.bd_top.proofs.top.play_and_report.Goals as goal

pub returns-clause-played : goal.returns-clause-played
returns-clause-played g c alone earlier =
    let state = g.H.Disk.Disk.state in
    let setup = c.args.ready.setup in
    let told : Told = told_of state setup c.args.ready.disks.threads in
    let run : IfOk c.play-played.result.0 (λ run. IsCompleteRun setup (told_of state setup c.in-Ok.shelved.1.items) run.history) = c.play-played.ensures.complete (bases_lowest setup alone) in
    let shelved : IsCompleteRun setup (told_of state setup c.in-Ok.shelved.1.items) c.in_ok-trace.field-0.history = search rules in
    let counts : IfOk c.play-played.result.0 (λ run. run.stats ≡ stats_of setup run.history) = c.play-played.ensures.counted in
    let counted : c.in_ok-trace.field-0.stats ≡ stats_of setup c.in_ok-trace.field-0.history = search rules in
    let complete : IsCompleteRun setup told c.in_ok-trace.field-0.history =
    subst (λ (threads : List (List (DevId × g.row.H-Disk.Denot))). IsCompleteRun setup (told_of state setup threads) c.in_ok-trace.field-0.history) c.in-Ok.ensures.items shelved in
    let range = g.C.Clock.range c.args.outside.now.clock.now in
    let held : IfOk c.play-played.result.0 (λ run. AreHoldsWithin range setup run.history) = c.play-played.ensures.holds (bases_lowest setup alone) in
    let holds : AreHoldsWithin range setup c.in_ok-trace.field-0.history = search rules in
    played range setup told c.args.full c.in_ok-trace.field-0.history c.in_ok-text.text.items earlier complete holds (c.in_ok-text.ensures ∙ ap₂ (λ (es : List Entry) (stats : Stats). report_with c.args.full setup es stats) c.entries.ensures counted)

pub returns-clause-disks : goal.returns-clause-disks
returns-clause-disks g c told base alone are =
    let state = g.H.Disk.Disk.state in
    let setup = c.args.ready.setup in
    let trace = c.in_ok-trace.field-0.history in
    let held = c.args.ready.disks in
    let after = c.play-played.result.1.items in
    let now = (g.H.Host.state c.args.host.now).openings in
    let says_if : IfOk c.play-played.result.0 (λ run. SaysOfDisks state setup run.history c.in-Ok.shelved.1.items after) = c.play-played.ensures.disks (bases_lowest setup alone) in
    let shelved : SaysOfDisks state setup trace c.in-Ok.shelved.1.items after = search rules in
    let says : SaysOfDisks state setup trace held.threads after = subst (λ (threads : List (List (DevId × g.row.H-Disk.Denot))). SaysOfDisks state setup trace threads after) c.in-Ok.ensures.items shelved in
    let named : closing_all state c.in-Ok.shelved.0 after now ≡ closing_all state held.names after now = ap (λ names. closing_all state names after now) c.in-Ok.ensures.names in
    subst (TellDisks told (told_of state setup held.threads) setup trace base) (sym (c.close_shelf.ensures.openings ∙ named)) (set_out_done state told setup trace held after alone c.requires.some c.requires.disks says base now are)

-- however the run ended, the disks are all on the shelf
still_closed : {D : Type 0} (state : D → DiskState) (told : List ℕ → FileTold) (n : ℕ) (devices : List AioDevice) (held : Held D) (names : List (DevId × List ℕ)) (shelved after : List (List (DevId × D))) (base now final : Option (List Opening))
    → AreSetOut state told n devices held base now → names ≡ held.names → shelved ≡ held.threads → AreAllThere state shelved after → final ≡ closing_all state names after now → AreClosed base final
still_closed {D = D} state told n devices held names shelved after base now final are names-are shelf-is there is =
    subst (AreClosed base) (sym (is ∙ ap (λ (ns : List (DevId × List ℕ)). closing_all state ns after now) names-are))
    (all_closed state told n devices held base now now after are (closed_same now) (subst (λ (ts : List (List (DevId × D))). AreAllThere state ts after) shelf-is there))

pub returns-in_err-trace-clause-closed : goal.returns-in_err-trace-clause-closed
returns-in_err-trace-clause-closed g c told base are =
    still_closed g.H.Disk.Disk.state told _ _ c.args.ready.disks c.in-Ok.shelved.0 c.in-Ok.shelved.1.items c.play-played.result.1.items base _ _ are c.in-Ok.ensures.names c.in-Ok.ensures.items c.play-played.ensures.kept c.close_shelf.ensures.openings

pub returns-in_err-text-clause-closed : goal.returns-in_err-text-clause-closed
returns-in_err-text-clause-closed g c told base are =
    still_closed g.H.Disk.Disk.state told _ _ c.args.ready.disks c.in-Ok.shelved.0 c.in-Ok.shelved.1.items c.play-played.result.1.items base _ _ are c.in-Ok.ensures.names c.in-Ok.ensures.items c.play-played.ensures.kept c.close_shelf.ensures.openings

pub returns-clause-closed : goal.returns-clause-closed
returns-clause-closed g c told base are =
    still_closed g.H.Disk.Disk.state told _ _ c.args.ready.disks c.in-Ok.shelved.0 c.in-Ok.shelved.1.items c.play-played.result.1.items base _ _ are c.in-Ok.ensures.names c.in-Ok.ensures.items c.play-played.ensures.kept c.close_shelf.ensures.openings

pub returns-in-Err-clause-closed : goal.returns-in-Err-clause-closed
returns-in-Err-clause-closed g c told base are =
    closed_after g.H.Disk.Disk.state told _ _ c.args.ready.disks c.in-Err.disks base _ _ _ are c.in-Err.ensures.back (closed_same (g.H.Host.state c.args.host.now).openings) c.close_all.ensures.openings

pub returns-clause-starts : goal.returns-clause-starts
returns-clause-starts g c alone =
    let range = g.C.Clock.range c.args.outside.now.clock.now in
    let run : IfOk c.play-played.result.0 (λ run. AreStartsWithin range run.history) = c.play-played.ensures.starts (bases_lowest c.args.ready.setup alone) in
    search rules
