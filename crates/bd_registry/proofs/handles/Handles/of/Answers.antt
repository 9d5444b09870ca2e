use Rattle.std.proofs.Common.{◌≡◌, List, length, get_or, take, false, None, sym, subst, arith}
use Rattle.std.proofs.lemmas.List.{take_more}
use Rattle.bd_machine.specs.declared.state.Handle.{Handle}
use Rattle.bd_registry.specs.Handles.{Keeps}
use Rattle.bd_registry.proofs.Starting.{counted_at}
use Rattle.bd_registry.proofs.handles.Handles.of.Goals as goal

pub loop-handle-preserved : goal.loop-handle-preserved
loop-handle-preserved c =
    let hs : List Handle = c.args.handles.now in
    let i = c.loop-handle.handle-index in
    let none : Handle = record { id = record { 0 = 0 }; dev = record { 0 = 0 }; thread = record { 0 = 0 }; write = false; claim = None; blocks = 0 } in
    let less = c.loop-handle-test.true in
    let at = counted_at 0 hs i none less c.requires in
    let next = c.loop-handle.invariant.next in
    let number : (get_or hs i none).id.0 ≡ length c.loop-handle.table.devices = omega (arith, at, next) in
    record {
      keeps = subst (λ (xs : List Handle). Keeps c.add.new.self xs) (sym (take_more hs i none less)) (c.in_ok-add.ensures.ok (take i hs) c.loop-handle.invariant.keeps number);
      next = omega (arith, c.in_ok-add.ensures.next, next);
    }
