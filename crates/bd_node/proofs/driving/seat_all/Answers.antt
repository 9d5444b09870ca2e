use Rattle.std.proofs.Common.{subst, sym, ap, ◌∙◌}
use Rattle.bd_base.specs.declared.journal.Start.{Start}
use Rattle.bd_registry.specs.State.{Registered, start_of}
use Rattle.bd_wires.specs.Wires.{AreNew}
use Rattle.bd_node.proofs.Starts.{seated_at_start}
use Rattle.bd_node.proofs.Telling.{new_made_none}
use Rattle.bd_node.proofs.Times.{times_new}
use Rattle.bd_node.proofs.driving.seat_all.Goals as goal

pub returns-clause-seated : goal.returns-clause-seated
returns-clause-seated g c =
    let setup = c.args.setup.now in
    let wires = c.in_ok-wires.wires in
    let passes = c.in_ok-wires.passes.items in
    seated_at_start g.D.Disk.state setup c.args.shelf.now.items wires c.in_ok-seats.seats.items passes c.requires.some c.in_ok-seats.ensures.len
    (subst (λ (s : Start). AreNew setup.threads s wires passes) (ap (λ (r : Registered). start_of r.setup) c.in_ok-registry.ensures) c.in_ok-wires.ensures.new) c.in_ok-seats.ensures.each c.in_ok-seats.ensures.disks

pub returns-clause-none : goal.returns-clause-none
returns-clause-none g c =
    new_made_none c.args.setup.now c.in_ok-wires.passes.items c.in_ok-seats.seats.items (c.in_ok-seats.ensures.len ∙ sym c.in_ok-wires.ensures.new.len) c.in_ok-seats.ensures.each

pub returns-clause-times : goal.returns-clause-times
returns-clause-times g c range =
    times_new range c.args.setup.now c.in_ok-wires.passes.items c.in_ok-seats.seats.items (c.in_ok-seats.ensures.len ∙ sym c.in_ok-wires.ensures.new.len) c.in_ok-seats.ensures.each
