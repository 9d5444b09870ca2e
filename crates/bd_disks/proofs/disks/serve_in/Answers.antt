use Rattle.std.proofs.Common.{◌≡◌, ℕ, Option, Some, ◌∙◌, sym, ap₂, subst}
use Rattle.std.specs.List.{position}
use Rattle.std.specs.Option.{option_map}
use Rattle.std.proofs.lemmas.Result.{IfOk-weaker}
use Rattle.std.proofs.Math.Seq.{map-set_same}
use Rattle.bd_base.specs.declared.id.DevId.{DevId}
use Rattle.bd_disks.specs.Rows.{Does, IsInsideOne, is_row}
use Rattle.bd_disks.proofs.Changing.{changed_at, disk_at, no_disk}
use Rattle.bd_disks.proofs.disks.serve_in.Goals as goal

pub unreachable-requires : goal.unreachable-requires
unreachable-requires g c =
    subst (λ (o : Option g.row.D.Denot). IsInsideOne (option_map g.D.Disk.state o) c.args.size c.args.piece.now)
    (no_disk c.args.piece.now.base c.args.rows.now (sym c.place.ensures ∙ c.in_default.is)) c.requires.inside

pub serve_row-requires : goal.serve_row-requires
serve_row-requires g c = record {
  inside = subst (λ (o : Option g.row.D.Denot). IsInsideOne (option_map g.D.Disk.state o) c.args.size c.args.piece.now)
      (disk_at c.args.piece.now.base c.args.rows.now c.in-Some.i c.index-rows-i.result (sym c.place.ensures ∙ c.in-Some.is)) c.requires.inside;
}

pub returns-clause-does : goal.returns-clause-does
returns-clause-does g c =
    let p = c.args.piece.now in
    let at : position (is_row p.base) c.args.rows.now ≡ Some c.in-Some.i = sym c.place.ensures ∙ c.in-Some.is in
    IfOk-weaker c.serve_row.result _ _
    (λ s does. changed_at p.base (λ old new. Does c.args.size p s.end s.read (g.D.Disk.state old) (g.D.Disk.state new)) c.args.rows.now c.in-Some.i c.index-rows-i.result c.serve_row.new.row at c.serve_row.ensures.same_device does)
    c.serve_row.ensures.does

pub returns-clause-kept : goal.returns-clause-kept
returns-clause-kept g c =
    map-set_same (λ (row : DevId × g.row.D.Denot). (row.0, (g.D.Disk.state row.1).place)) c.args.rows.now c.in-Some.i c.serve_row.new.row c.index-rows-i.result
    (ap₂ (λ (dev : DevId) (place : Option ℕ). (dev, place)) c.serve_row.ensures.same_device c.serve_row.ensures.same_place)
