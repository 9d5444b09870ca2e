use Rattle.std.proofs.Common.{rules, ◌≡◌, ◌∙◌, ℕ, List, subst, sym, ap, string_bytes}
use Rattle.bd_outside.specs.Disk.{IsOpenedOver}
use Rattle.bd_outside.specs.Host.{Opens}
use Rattle.bd_outside.specs.Opening.{open_row, AddsOpening}
use Rattle.bd_disk_pool.specs.Held.{with_disk}
use Rattle.bd_machine.specs.Users.{dev_of}
use Rattle.bd_top.proofs.DiskRows.{closed_at_once, opened_aio}
use Rattle.bd_top.proofs.devices.open_for.Goals as goal

pub returns-in-Ok-add-clause-opened : goal.returns-in-Ok-add-clause-opened
returns-in-Ok-add-clause-opened g c =
    let state = g.H.Disk.Disk.state in
    let disk = c.in-Ok-open_disk.disk in
    let old = g.H.Host.state c.args.host.now in
    let new = g.H.Host.state c.open_disk.new.self in
    let name : c.in-Ok.name.now ≡ c.in-Aio.file = search rules in
    let kept : string_bytes c.in-Ok-from_str.kept ≡ c.in-Aio.file = search rules in
    let number : c.in-Ok-try_from.dev ≡ c.args.dev = search rules in
    let over : IsOpenedOver (old.told c.in-Aio.file) (state disk) = subst (λ (n : List ℕ). IsOpenedOver (old.told n) (state disk)) name c.in-Ok-open_disk.ensures.over in
    let opens : Opens old new c.in-Aio.file (state disk) = subst (λ (n : List ℕ). Opens old new n (state disk)) name c.in-Ok-open_disk.ensures.row in
    opened_aio state c.args.dev c.args.command.now c.in-Aio.name c.in-Aio.file c.in-Aio.size c.in-Aio.depth c.blocks-blocks.result disk c.args.disks.now c.add.new.self old new
    c.in-Aio.is
    c.blocks-blocks.ensures
    c.in-Ok-open_disk.ensures.size
    over
    c.in-Ok-open_disk.ensures.whole
    c.in-Ok-open_disk.ensures.no_faults
    c.in-Ok-open_disk.ensures.no_flushes
    opens
    c.requires.threads
    (c.in-Ok-add.ensures.added ∙ ap (λ (n : ℕ). with_disk c.args.disks.now (dev_of n) (string_bytes c.in-Ok-from_str.kept) disk) number ∙ ap (λ (n : List ℕ). with_disk c.args.disks.now (dev_of c.args.dev) n disk) kept)

pub returns-in-Err-clause-closed : goal.returns-in-Err-clause-closed
returns-in-Err-clause-closed g c =
    let state = g.H.Disk.Disk.state in
    let old = g.H.Host.state c.args.host.now in
    let new = g.H.Host.state c.open_disk.new.self in
    let name = c.in-Ok.name.now in
    let disk = c.in-Err.disk in
    let opens : AddsOpening old.openings new.openings (open_row name (state disk).blocks) (state disk).place =
    subst (λ (d : g.row.H-Disk.Denot). AddsOpening old.openings new.openings (open_row name (state d).blocks) (state d).place) (sym c.in-Err.ensures.back) c.in-Ok-open_disk.ensures.row in
    closed_at_once old.openings new.openings (g.H.Host.state c.close_disk.new.self).openings name (state disk) opens c.close_disk.ensures.row
