use Rattle.std.proofs.Common.{ℕ, refl, subst, length}
use Rattle.bd_building.specs.AioDevices.{aio_devices}
use Rattle.bd_top.specs.DiskRows.{OpensFor}
use Rattle.bd_top.proofs.DiskRows.{closed_after, closed_same, stand_next}
use Rattle.bd_top.proofs.devices.do_command.Goals as goal

pub returns-in-Err-clause-closed : goal.returns-in-Err-clause-closed
returns-in-Err-clause-closed g c told base stand =
    closed_after g.H.Disk.Disk.state told _ _ c.args.opened.disks c.open_for.new.disks base (g.H.Host.state c.args.host.now).openings (g.H.Host.state c.open_for.new.host).openings (g.H.Host.state c.close_all.new.host).openings
    stand.rows c.in-Err.ensures.unopened c.in-Err.ensures.closed c.close_all.ensures.openings

pub returns-in-Ok-step-clause-opened : goal.returns-in-Ok-step-clause-opened
returns-in-Ok-step-clause-opened g c told base stand =
    let old = g.H.Host.state c.args.host.now in
    let new = g.H.Host.state c.open_for.new.host in
    let opens : OpensFor g.H.Disk.Disk.state (length c.args.opened.devices.setup.devices) c.args.command c.in-Ok.blocks old c.args.opened.disks new c.open_for.new.disks =
    subst (λ (n : ℕ). OpensFor g.H.Disk.Disk.state n c.args.command c.in-Ok.blocks old c.args.opened.disks new c.open_for.new.disks) c.devices-2.ensures c.in-Ok.ensures.opened in
    stand_next g.H.Disk.Disk.state told base c.args.opened.devices c.in-Ok-step.devices c.args.index c.args.command c.in-Ok.blocks c.args.opened.disks c.open_for.new.disks old new opens c.open_for.ensures.later c.in-Ok-step.ensures.ok stand

pub returns-in-Err-step-clause-closed : goal.returns-in-Err-step-clause-closed
returns-in-Err-step-clause-closed g c told base stand =
    let old = g.H.Host.state c.args.host.now in
    let new = g.H.Host.state c.open_for.new.host in
    let n = length c.args.opened.devices.setup.devices in
    let opens : OpensFor g.H.Disk.Disk.state (length c.args.opened.devices.setup.devices) c.args.command c.in-Ok.blocks old c.args.opened.disks new c.open_for.new.disks =
    subst (λ (n : ℕ). OpensFor g.H.Disk.Disk.state n c.args.command c.in-Ok.blocks old c.args.opened.disks new c.open_for.new.disks) c.devices-2.ensures c.in-Ok.ensures.opened in
    closed_after g.H.Disk.Disk.state told _ _ c.open_for.new.disks c.open_for.new.disks base new.openings new.openings (g.H.Host.state c.close_all-in-Err-step.new.host).openings
    (opens told base (aio_devices c.args.opened.devices.setup) stand.same stand.rows) refl (closed_same new.openings) c.close_all-in-Err-step.ensures.openings
