use Rattle.std.proofs.Common.{◌↔◌, Option, IsTrue, ◌∙◌, sym, subst}
use Rattle.std.specs.Option.{option_map}
use Rattle.bd_disks.specs.Rows.{IsInsideOne}
use Rattle.bd_disks.proofs.Changing.{disk_at, no_disk}
use Rattle.bd_disks.proofs.disks.can_serve_in.Goals as goal

pub returns-in-Some : goal.returns-in-Some
returns-in-Some g c =
    subst (λ (o : Option g.row.D.Denot). IsTrue c.can_serve.result ↔ IsInsideOne (option_map g.D.Disk.state o) c.args.size c.args.piece.now)
    (sym (disk_at c.args.piece.now.base c.args.rows.now c.in-Some.i c.index-rows-i.result (sym c.place.ensures ∙ c.in-Some.is))) c.can_serve.ensures

pub returns-in-None : goal.returns-in-None
returns-in-None g c =
    let none = no_disk c.args.piece.now.base c.args.rows.now (sym c.place.ensures ∙ c.in-None.is) in
    (λ no. cc, λ inside. absurd (subst (λ (o : Option g.row.D.Denot). IsInsideOne (option_map g.D.Disk.state o) c.args.size c.args.piece.now) none inside))
