use Rattle.std.proofs.Common.{rules, IfErr, refl, length}
use Rattle.bd_building.specs.AioDevices.{aio_devices}
use Rattle.bd_top.proofs.DiskRows.{closed_after, closed_still}
use Rattle.bd_top.specs.Run.{FileCause}
use Rattle.bd_top.proofs.inputs.read_setup.Goals as goal

pub returns-in_err-devices-clause-cause : goal.returns-in_err-devices-clause-cause
returns-in_err-devices-clause-cause g c =
    let known : IfErr c.read_devices.result (FileCause (g.H.Host.state c.args.host.now) (g.H.Host.state c.read_devices.new.host) c.args.config.now c.args.jobs.now c.args.threads) = c.read_devices.ensures.cause c.args.jobs.now in
    search rules

pub returns-in-Err-clause-closed : goal.returns-in-Err-clause-closed
returns-in-Err-clause-closed g c =
    let old = g.H.Host.state c.args.host.now in
    let mid = g.H.Host.state c.read_devices.new.host in
    let opened = c.in_ok-devices.field-0 in
    closed_after g.H.Disk.Disk.state old.told (length opened.devices.setup.devices) (aio_devices opened.devices.setup) opened.disks opened.disks old.openings mid.openings (g.H.Host.state c.scripts.new.host).openings (g.H.Host.state c.close_all.new.host).openings
    c.in_ok-devices.ensures.opened.rows refl (closed_still mid.openings (g.H.Host.state c.scripts.new.host).openings c.scripts.ensures.openings) c.close_all.ensures.openings

pub returns-in-Err-setup_of-clause-closed : goal.returns-in-Err-setup_of-clause-closed
returns-in-Err-setup_of-clause-closed g c =
    let old = g.H.Host.state c.args.host.now in
    let mid = g.H.Host.state c.read_devices.new.host in
    let opened = c.in_ok-devices.field-0 in
    closed_after g.H.Disk.Disk.state old.told (length opened.devices.setup.devices) (aio_devices opened.devices.setup) opened.disks opened.disks old.openings mid.openings (g.H.Host.state c.scripts.new.host).openings (g.H.Host.state c.close_all-in-Err-setup_of.new.host).openings
    c.in_ok-devices.ensures.opened.rows refl (closed_still mid.openings (g.H.Host.state c.scripts.new.host).openings c.scripts.ensures.openings) c.close_all-in-Err-setup_of.ensures.openings
