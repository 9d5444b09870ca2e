use Rattle.std.proofs.Common.{◌≡◌, ◌∷◌, ◌++◌, [], ◌∙◌, List, length, ap, sym, subst}
use Rattle.bd_base.specs.declared.id.DevId.{DevId}
use Rattle.bd_machine.specs.declared.state.Handle.{Handle}
use Rattle.bd_rule_channels.specs.ByDevice.{row_at, with_row}
use Rattle.bd_registry.specs.Handles.{HandleTable, Keeps, with_handle}
use Rattle.bd_registry.proofs.Keeping.{one_more}
use Rattle.bd_registry.proofs.handles.Handles.add.Goals as goal

pub returns-in-Ok-clause-ok : goal.returns-in-Ok-clause-ok
returns-in-Ok-clause-ok c =
    let h : Handle = c.args.handle in
    let old : HandleTable = record { rows = c.self.inside.rows; devices = c.self.inside.devices.items } in
    let new : c.put.new.self ≡ with_handle old h =
    c.in-Ok.ensures.ok
    ∙ ap (λ (ds : List DevId). let table : HandleTable = record { rows = with_row old.rows h.dev (row_at old.rows h.dev ++ h ∷ []); devices = ds } in table) c.in_ok-push.ensures.items in
    λ hs keeps number.
    subst (λ (table : HandleTable). Keeps table (hs ++ h ∷ [])) (sym new)
    (one_more old h hs c.put.ensures.some (number ∙ ap (λ (table : HandleTable). length table.devices) (sym c.self.view_is)) (subst (λ (table : HandleTable). Keeps table hs) (sym c.self.view_is) keeps))
