use Rattle.std.proofs.Common.{◌≡◌, ℕ, ◌*◌, length, ◌∙◌, ap, sym, subst, List}
use Rattle.std.proofs.lemmas.List.{length-replicate}
use Rattle.bd_outside.specs.Disk.{Reads}
use Rattle.bd_disks.proofs.Ends.{done_reading, inside_disk}
use Rattle.bd_disks.proofs.serving.read.Goals as goal

pub fill-requires : goal.fill-requires
fill-requires g c =
    let p = c.args.piece.now in
    let long : length c.in_ok-bytes.bytes.items ≡ p.count * c.args.size = ap length c.in_ok-bytes.ensures ∙ length-replicate (p.count * c.args.size) 0 in
    record { inside = inside_disk (g.D.Disk.state c.args.disk.now) c.args.size p c.requires.inside (length c.in_ok-bytes.bytes.items) long }

pub returns-in-Ok-clause-served : goal.returns-in-Ok-clause-served
returns-in-Ok-clause-served g c =
    let p = c.args.piece.now in
    let bytes : List ℕ = c.from_vec.result in
    let is : bytes ≡ c.fill.new.to.items = c.from_vec.ensures in
    let old = g.D.Disk.state c.args.disk.now in
    done_reading c.args.size p old (g.D.Disk.state c.fill.new.disk) c.requires.inside c.fill.ensures.same_shape c.done.result.end c.done.result.read c.done.ensures.end
    c.requires.read bytes c.args.told
    (ap length is ∙ c.fill.ensures.len ∙ ap length c.in_ok-bytes.ensures ∙ length-replicate (p.count * c.args.size) 0)
    (subst (λ (xs : List ℕ). Reads old.content (p.lba * old.block_size) xs) (sym is) c.in-Ok.ensures.given)
    c.requires.told (c.done.ensures.read ∙ c.bytes_of.ensures)
    c.fill.ensures.same_content c.fill.ensures.flush_count
