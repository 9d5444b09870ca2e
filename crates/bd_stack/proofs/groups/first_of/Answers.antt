use Rattle.std.proofs.Common.{arith, length, sym, ◌<◌, ◌≡◌, ◌∙◌}
use Rattle.bd_machine.specs.Users.{is_first}
use Rattle.bd_stack.proofs.Numbered.{count_leaves, count_takes, numbered, numbered_past}
use Rattle.bd_stack.proofs.groups.first_of.Goals as goal
use Rattle.bd_stack.proofs.groups.first_of.Goals.{then-is_first+else-before-eq0, else-is_first}

pub returns-then-before-eq0 : goal.returns-then-before-eq0
returns-then-before-eq0 c =
    let inside : c.loop-number.number < length c.args.setup.now.devices = omega (arith, c.loop-number-test.true, c.len-number-end.ensures) in
    numbered (is_first c.args.setup.now) (length c.args.setup.now.devices) c.loop-number.number c.args.handle.0 c.loop-number.before inside
    (sym c.is_first.ensures ∙ c.if-is_first.true) c.loop-number.invariant c.if-before-eq0.true

pub loop-number-preserved : goal.loop-number-preserved
loop-number-preserved c =
    let test = is_first c.args.setup.now in
    let number = c.loop-number.number in
    elim c.if-is_first.branch [
      | then-is_first+else-before-eq0 w ↦
          let more = count_takes test number (sym c.is_first.ensures ∙ w.if-is_first.true) in
          omega (arith, w.before-is, w.if-before-eq0.false, more, c.loop-number.invariant)
      | else-is_first w ↦
          let same = count_leaves test number (sym c.is_first.ensures ∙ w.if-is_first.false) in
          omega (arith, w.before-is, same, c.loop-number.invariant)
    ]

pub returns : goal.returns
returns c =
    let all : c.loop-number.number ≡ length c.args.setup.now.devices = omega (arith, c.loop-number-test.false, c.loop-number.auto.number-end, c.len-number-end.ensures) in
    numbered_past (is_first c.args.setup.now) c.loop-number.number (length c.args.setup.now.devices) c.args.handle.0 c.loop-number.before all c.loop-number.invariant
