use Rattle.std.proofs.Common.{sym, ◌∙◌}
use Rattle.std.specs.List.{find}
use Rattle.bd_base.specs.declared.act.ApplyEnd.TheVariants as ends
use Rattle.bd_machine.specs.Homes.{is_base, served}
use Rattle.bd_home.proofs.Ready.{none_ready}
use Rattle.bd_home.proofs.serving.serve.Goals as goal

pub unreachable-requires : goal.unreachable-requires
unreachable-requires c =
    let size = c.args.size in
    let dev = c.args.dev in
    let piece = c.args.p.now in
    none_ready size dev (served ends.Done size piece) (find (is_base dev) c.args.bases.now) piece (sym c.in_ok-piece.ensures.piece ∙ c.in_default.is) c.requires
