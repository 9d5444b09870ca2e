-- The passes may be ended, and the trace is a complete run, which says what the disks did.
use Rattle.std.proofs.Common.{◌≡◌, List, ◌++◌, length, ap, vec_len, sym, ◌∙◌, subst, arith}
use Rattle.bd_base.specs.declared.act.Entry.{Entry}
use Rattle.bd_machine.specs.Run.{IsCompleteRun}
use Rattle.bd_node.specs.Disks.{disks_of, told_of, SaysOfDisks}
use Rattle.bd_node.specs.Times.{AreHoldsWithin, AreMomentsWithin, AreStartsWithin}
use Rattle.bd_node.specs.Whole.{setup_in}
use Rattle.bd_node.proofs.Gathered.{trace_is_merge}
use Rattle.bd_node.proofs.Histories.{node_settles}
use Rattle.bd_node.proofs.Settling.{passes_fit}
use Rattle.bd_node.proofs.Times.{holds_within, moments_within, starts_within}
use Rattle.bd_node.proofs.node.Node.end.Goals as goal

pub disconnect-registry-requires-clause-linked : goal.disconnect-registry-requires-clause-linked
disconnect-registry-requires-clause-linked g c =
    let passes = c.in-Ok.taken in
    let many : vec_len passes ≡ length passes.items = omega arith in
    passes_fit c.args.self c.requires.node (vec_len passes) passes.items many c.in-Ok.ensures.passes

pub returns-clause-complete : goal.returns-clause-complete
returns-clause-complete g c =
    let n = c.args.self in
    let state = g.D.Disk.state in
    λ starts node lowest.
    subst (λ (es : List Entry). IsCompleteRun (setup_in n) (told_of state (setup_in n) starts) es) (sym (c.of-history.ensures ∙ c.from_vec.ensures))
    (node_settles state starts n node lowest c.requires.done c.in-Ok.taken.items c.in-Ok.ensures.passes
    c.disconnect-registry.ensures.delivered c.disconnect-registry.result c.disconnect-registry.ensures.journal c.journal-journal.ensures.ordered c.journal-journal.ensures.replay
    n.trace.items (trace_is_merge state starts n node c.requires.left)).complete

pub returns-clause-disks : goal.returns-clause-disks
returns-clause-disks g c =
    let n = c.args.self in
    let state = g.D.Disk.state in
    λ starts empty node lowest.
    let shelf-is = c.in-Ok.ensures.disks ∙ ap (λ ds. ds ++ disks_of n.seats.items) empty in
    subst (λ (es : List Entry). SaysOfDisks state (setup_in n) es starts c.take_all_apart.new.shelf.items) (sym (c.of-history.ensures ∙ c.from_vec.ensures))
    (subst (λ ds. SaysOfDisks state (setup_in n) n.trace.items starts ds) (sym shelf-is)
    (node_settles state starts n node lowest c.requires.done c.in-Ok.taken.items c.in-Ok.ensures.passes
    c.disconnect-registry.ensures.delivered c.disconnect-registry.result c.disconnect-registry.ensures.journal c.journal-journal.ensures.ordered c.journal-journal.ensures.replay
    n.trace.items (trace_is_merge state starts n node c.requires.left)).says)

pub returns-clause-moments : goal.returns-clause-moments
returns-clause-moments g c range within =
    let n = c.args.self in
    subst (λ (es : List Entry). AreMomentsWithin range es) (sym (c.of-history.ensures ∙ c.from_vec.ensures))
    (moments_within g.D.Disk.state c.requires.node.starts n c.requires.node.node c.requires.left range within)

pub returns-clause-holds : goal.returns-clause-holds
returns-clause-holds g c range within lowest =
    let n = c.args.self in
    let state = g.D.Disk.state in
    let starts = c.requires.node.starts in
    let node = c.requires.node.node in
    let settled = node_settles state starts n node lowest c.requires.done c.in-Ok.taken.items c.in-Ok.ensures.passes
    c.disconnect-registry.ensures.delivered c.disconnect-registry.result c.disconnect-registry.ensures.journal c.journal-journal.ensures.ordered c.journal-journal.ensures.replay
    n.trace.items (trace_is_merge state starts n node c.requires.left) in
    subst (λ (es : List Entry). AreHoldsWithin range (setup_in n) es) (sym (c.of-history.ensures ∙ c.from_vec.ensures))
    (holds_within state starts n node c.requires.left range within (told_of state (setup_in n) starts) settled.complete.0 settled.held)

pub returns-clause-starts : goal.returns-clause-starts
returns-clause-starts g c range within lowest =
    let n = c.args.self in
    let state = g.D.Disk.state in
    let starts = c.requires.node.starts in
    let node = c.requires.node.node in
    subst (λ (es : List Entry). AreStartsWithin range es) (sym (c.of-history.ensures ∙ c.from_vec.ensures))
    (starts_within state starts n node c.requires.left range within (told_of state (setup_in n) starts)
    (node_settles state starts n node lowest c.requires.done c.in-Ok.taken.items c.in-Ok.ensures.passes
    c.disconnect-registry.ensures.delivered c.disconnect-registry.result c.disconnect-registry.ensures.journal c.journal-journal.ensures.ordered c.journal-journal.ensures.replay
    n.trace.items (trace_is_merge state starts n node c.requires.left)).complete.0)
