use Rattle.std.proofs.Common.{ℕ, ◌+◌, length, ◌∙◌, ap}
use Rattle.bd_base.specs.Pattern.{pattern}
use Rattle.bd_disks.proofs.Rewriting.{grown, length_pattern}
use Rattle.bd_disks.proofs.image.patterns.Goals as goal

pub loop-k-preserved : goal.loop-k-preserved
loop-k-preserved c =
    let seed : ℕ = c.args.seed in
    let number : ℕ = c.args.number + c.loop-k.k in (
      ap length c.fill.ensures ∙ length_pattern seed number (length c.loop-k.block) ∙ c.loop-k.invariant.0,
      c.in_ok-extend_from_slice.ensures.items
          ∙ grown c.args.size seed c.args.number c.loop-k.k c.loop-k.bytes.items c.as_slice.result.now c.loop-k.invariant.1
          (c.as_slice.ensures ∙ c.fill.ensures ∙ ap (λ (m : ℕ). pattern seed number m) c.loop-k.invariant.0),
    )
