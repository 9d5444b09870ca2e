use Rattle.std.proofs.Common.{List, ap, sym, ◌∙◌, subst}
use Rattle.bd_machine.specs.declared.state.Handle.{Handle}
use Rattle.bd_machine.specs.declared.state.Registry.{Registry}
use Rattle.bd_registry.specs.Handles.{AreCounted}
use Rattle.bd_registry.proofs.Starting.{start_counted, start_agrees}
use Rattle.bd_registry.proofs.tables.Tables.at_start.Goals as goal

pub of-requires : goal.of-requires
of-requires c =
    subst (λ (hs : List Handle). AreCounted 0 hs) (sym (c.as_slice.ensures ∙ ap (λ (r : Registry). r.handles) c.in_ok-start.ensures)) (start_counted c.args.setup.now)

pub returns : goal.returns
returns c =
    start_agrees c.args.setup.now c.in_ok-start.start c.in_ok-start.ensures c.in_ok-handles.handles c.in_ok-channels.channels c.as_slice.result.now c.as_slice-2.result.now
    c.as_slice.ensures c.as_slice-2.ensures c.in_ok-handles.ensures.keeps c.in_ok-handles.ensures.next c.in_ok-channels.ensures
