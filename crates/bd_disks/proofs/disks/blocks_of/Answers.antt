use Rattle.std.proofs.Common.{◌∙◌, ap, Some}
use Rattle.bd_disks.proofs.Changing.{mapped_at, mapped_nowhere}
use Rattle.bd_disks.proofs.disks.blocks_of.Goals as goal

pub returns-in-Some : goal.returns-in-Some
returns-in-Some g c =
    ap Some c.blocks-in-Some.ensures
    ∙ mapped_at c.args.dev (λ disk. (g.D.Disk.state disk).blocks) c.args.rows.now c.place.result c.in-Some.i c.index-rows-i.result c.place.ensures c.in-Some.is

pub returns-in-None : goal.returns-in-None
returns-in-None g c = mapped_nowhere c.args.dev (λ disk. (g.D.Disk.state disk).blocks) c.args.rows.now c.place.result c.place.ensures c.in-None.is
