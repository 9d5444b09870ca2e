use Rattle.std.proofs.Common.{rules, ◌≡◌, ◌∙◌, ◌+◌, ℕ, inl, IfErr, OnErr, List, [], ◌∷◌, length, ap, sym, refl, subst, arith}
use Rattle.std.proofs.lemmas.List.{length-replicate}
use Rattle.bd_building.specs.Progress.{nothing_yet, Progress}
use Rattle.bd_disk_pool.specs.Covering.{AreClosed}
use Rattle.bd_disk_pool.specs.Held.{Held}
use Rattle.bd_outside.specs.File.{Told}
use Rattle.bd_top.specs.DiskRows.{StandOpen, TellsSo}
use Rattle.std.specs.Prelude.{All}
use Rattle.std.specs.Vec.Iter.{into_iter_items}
use Rattle.std.proofs.lemmas.List.Elements.{All-head, All-tail}
use Rattle.std.proofs.lemmas.Result.{IfErr-weaker}
use Rattle.bd_building.specs.Disks.{file_of}
use Rattle.bd_config.specs.Commands.{IsOpenable}
use Rattle.bd_config.specs.declared.command.Command.{Command}
use Rattle.bd_top.specs.Configure.{IsRefused}
use Rattle.bd_top.specs.Disks.{IsNamed, Opens}
use Rattle.bd_top.specs.Opening.{IsStepRefused}
use Rattle.bd_disk_pool.proofs.EachClosed.{kept_same}
use Rattle.bd_top.proofs.DiskRows.{closed_after, closed_same, stand_first}
use Rattle.bd_top.proofs.FileCauses.{doing_from, step_at, step_refused_at}
use Rattle.bd_top.proofs.FileLemmas.{later_same, later_then}
use Rattle.bd_top.proofs.Opening.{IsOnWay, ends, goes_on, is_refused, starts}
use Rattle.bd_top.proofs.devices.open_devices.Goals as goal

none_left : {X : Type 0} (xs : List X) → length xs ≡ 0 → xs ≡ []
none_left [] h = refl
none_left (x ∷ xs) h = absurd (omega arith)

pub loop-command-init : goal.loop-command-init
loop-command-init g c =
    let old = g.H.Host.state c.args.host.now in
    let first : (told : List ℕ → Told) → TellsSo old told → StandOpen g.H.Disk.Disk.state told old.openings c.new.result c.in_ok-none.field-0 old =
    λ told same.
    subst (λ (p : Progress). StandOpen g.H.Disk.Disk.state told old.openings p c.in_ok-none.field-0 old) (sym c.new.ensures)
    (subst (λ (h : Held g.row.H-Disk.Denot). StandOpen g.H.Disk.Disk.state told old.openings (nothing_yet c.args.threads) h old) (sym c.in_ok-none.ensures)
    (stand_first g.H.Disk.Disk.state told c.args.threads old same)) in
    let items : into_iter_items c.into_iter-command-iterator.result ≡ c.args.commands.items = search rules in
    record {
      way =
          subst (λ (left : List Command). IsOnWay old.told c.args.threads c.args.commands.items 0 c.new.result left) (sym items)
          (subst (λ (p : Progress). IsOnWay old.told c.args.threads c.args.commands.items 0 p c.args.commands.items) (sym c.new.ensures) (starts old.told c.args.threads c.args.commands.items));
      later = later_same old;
      disks = ap (λ (h : Held g.row.H-Disk.Denot). length h.threads) c.in_ok-none.ensures ∙ length-replicate c.args.threads [];
      counted = search rules;
      openable = subst (All IsOpenable) (sym items) c.requires.openable;
      stand = first;
    }

pub returns-in_err-opened-clause-closed : goal.returns-in_err-opened-clause-closed
returns-in_err-opened-clause-closed g c =
    let old = g.H.Host.state c.args.host.now in
    let new = g.H.Host.state c.do_command.new.host in
    let closed : OnErr c.do_command.result (AreClosed old.openings new.openings) = c.do_command.ensures.closed old.told old.openings (c.loop-command.invariant.stand old.told (λ name. refl)) in
    search rules

pub do_command-requires-clause-openable : goal.do_command-requires-clause-openable
do_command-requires-clause-openable g c =
    All-head IsOpenable c.in-Some.command (into_iter_items c.next.new.self) (subst (All IsOpenable) c.in-Some.ensures.steps.0 c.loop-command.invariant.openable)

pub returns-in_err-opened-clause-cause : goal.returns-in_err-opened-clause-cause
returns-in_err-opened-clause-cause g c =
    let old = g.H.Host.state c.args.host.now in
    let mid = g.H.Host.state c.loop-command.host in
    let new = g.H.Host.state c.do_command.new.host in
    let at = c.loop-command in
    let command = c.in-Some.command in
    let left = into_iter_items c.next.new.self in
    let P : List Command → Type 0 = λ cs. IsOnWay old.told c.args.threads c.args.commands.items at.index at.opened.devices cs in
    let way : IsOnWay old.told c.args.threads c.args.commands.items at.index at.opened.devices (command ∷ left) = subst P c.in-Some.ensures.steps.0 at.invariant.way in
    IfErr-weaker _ _ _
    (doing_from old mid new new (IsNamed (file_of command)) (Opens c.args.commands.items) (IsStepRefused mid.told at.opened.devices at.index command) (IsRefused c.args.threads old.told c.args.commands.items)
    at.invariant.later (kept_same new) (λ name is. way.opens name (inl is))
    (λ i code refused.
    is_refused old.told c.args.threads c.args.commands.items at.index at.opened.devices command left way i code
    (step_refused_at mid.told old.told at.opened.devices at.index command i code at.invariant.later.told refused)))
    (search rules)

pub loop-command-preserved : goal.loop-command-preserved
loop-command-preserved g c =
    let old = g.H.Host.state c.args.host.now in
    let mid = g.H.Host.state c.loop-command.host in
    let new = g.H.Host.state c.do_command.new.host in
    let at = c.loop-command in
    let command = c.in-Some.command in
    let left = into_iter_items c.next.new.self in
    let P : List Command → Type 0 = λ cs. IsOnWay old.told c.args.threads c.args.commands.items at.index at.opened.devices cs in
    let way : IsOnWay old.told c.args.threads c.args.commands.items at.index at.opened.devices (command ∷ left) = subst P c.in-Some.ensures.steps.0 at.invariant.way in
    let next : c.in-Some-checked_add.next ≡ at.index + 1 = search rules in
    let Q : ℕ → Type 0 = λ i. IsOnWay old.told c.args.threads c.args.commands.items i c.in_ok-opened.opened.devices left in
    let items : into_iter_items at.command-iterator ≡ command ∷ left = c.in-Some.ensures.steps.0 in
    record {
      way =
          subst Q (sym next)
          (goes_on old.told c.args.threads c.args.commands.items at.index at.opened.devices c.in_ok-opened.opened.devices command left way
          (step_at mid.told old.told at.opened.devices at.index command c.in_ok-opened.opened.devices at.invariant.later.told c.in_ok-opened.ensures.done));
      later = later_then old mid new at.invariant.later c.do_command.ensures.later;
      disks = c.in_ok-opened.ensures.threads ∙ at.invariant.disks;
      counted = omega (arith, c.in-Some.ensures.steps.1, at.invariant.counted, ap length items);
      openable = All-tail IsOpenable command left (subst (All IsOpenable) items at.invariant.openable);
      stand = λ told same. c.in_ok-opened.ensures.opened told old.openings (at.invariant.stand told same);
    }

pub returns-clause-done : goal.returns-clause-done
returns-clause-done g c =
    let old = g.H.Host.state c.args.host.now in
    let at = c.loop-command in
    let empty : into_iter_items at.command-iterator ≡ [] = none_left _ (sym at.invariant.counted ∙ c.in-None.ensures.steps.0) in
    let P : List Command → Type 0 = λ cs. IsOnWay old.told c.args.threads c.args.commands.items at.index at.opened.devices cs in
    ends old.told c.args.threads c.args.commands.items at.index at.opened.devices (subst P empty at.invariant.way)

pub returns-in_default-clause-closed : goal.returns-in_default-clause-closed
returns-in_default-clause-closed g c =
    let old = g.H.Host.state c.args.host.now in
    let new = g.H.Host.state c.do_command.new.host in
    let opened = c.in_ok-opened.opened in
    let stand : StandOpen g.H.Disk.Disk.state old.told old.openings opened.devices opened.disks new = c.in_ok-opened.ensures.opened old.told old.openings (c.loop-command.invariant.stand old.told (λ name. refl)) in
    closed_after g.H.Disk.Disk.state old.told _ _ opened.disks opened.disks old.openings new.openings new.openings (g.H.Host.state c.close_all.new.host).openings stand.rows refl (closed_same new.openings) c.close_all.ensures.openings
