use Rattle.std.proofs.Common.{arith, ap, length, sym, ℕ, ◌<◌, ◌≡◌, ◌∙◌, Some}
use Rattle.bd_machine.specs.Users.{handle_of_number, is_first, shares_handle}
use Rattle.bd_stack.proofs.Numbered.{count_leaves, count_takes, none_leaves, none_takes, not_placed, placed}
use Rattle.bd_stack.proofs.groups.base_handle.Goals as goal
use Rattle.bd_stack.proofs.groups.base_handle.Goals.{then-is_first+else-are_of_group, else-is_first}

pub returns-then-are_of_group : goal.returns-then-are_of_group
returns-then-are_of_group c =
    let inside : c.loop-number.number < length c.args.setup.now.devices = omega (arith, c.loop-number-test.true, c.len-number-end.ensures) in
    ap (λ (n : ℕ). handle_of_number (Some n)) c.loop-number.invariant.handle
    ∙ sym (ap handle_of_number (placed (is_first c.args.setup.now) (shares_handle c.args.setup.now c.args.dev) (length c.args.setup.now.devices) c.loop-number.number inside
    (sym c.is_first.ensures ∙ c.if-is_first.true) c.loop-number.invariant.none (sym c.are_of_group.ensures ∙ c.if-are_of_group.true)))

pub loop-number-preserved : goal.loop-number-preserved
loop-number-preserved c =
    let test = is_first c.args.setup.now in
    let shared = shares_handle c.args.setup.now c.args.dev in
    let number = c.loop-number.number in
    elim c.if-is_first.branch [
      | then-is_first+else-are_of_group w ↦
          let first = sym c.is_first.ensures ∙ w.if-is_first.true in
          let more = count_takes test number first in
          record {
            handle = omega (arith, w.handle-is, more, c.loop-number.invariant.handle);
            low = omega (arith, w.handle-is, c.loop-number.invariant.low);
            none = none_takes test shared number c.loop-number.invariant.none (sym w.are_of_group.ensures ∙ w.if-are_of_group.false) first;
          }
      | else-is_first w ↦
          let later = sym c.is_first.ensures ∙ w.if-is_first.false in
          let same = count_leaves test number later in
          record {
            handle = omega (arith, w.handle-is, same, c.loop-number.invariant.handle);
            low = omega (arith, w.handle-is, c.loop-number.invariant.low);
            none = none_leaves test shared number c.loop-number.invariant.none later;
          }
    ]

pub returns : goal.returns
returns c =
    let all : c.loop-number.number ≡ length c.args.setup.now.devices = omega (arith, c.loop-number-test.false, c.loop-number.auto.number-end, c.len-number-end.ensures) in
    sym (ap handle_of_number (not_placed (is_first c.args.setup.now) (shares_handle c.args.setup.now c.args.dev) c.loop-number.number (length c.args.setup.now.devices) all c.loop-number.invariant.none))
