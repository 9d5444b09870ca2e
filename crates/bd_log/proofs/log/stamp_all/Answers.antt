use Rattle.std.proofs.Common.{◌+◌, slice_index_or, refl, arith}
use Rattle.bd_base.specs.declared.act.Entry.{Entry}
use Rattle.bd_log.proofs.Stamping.{stamped_more}
use Rattle.bd_log.proofs.log.stamp_all.Goals as goal

pub loop-entry-preserved : goal.loop-entry-preserved
loop-entry-preserved c =
    let loop = c.loop-entry in
    let x : Entry = record { stamp = c.loop-entry.stamp + 1; thread = c.args.thread; act = (slice_index_or c.loop-entry.entries c.loop-entry.entry-index c.entry-item.result).act } in
    record {
      stamp = omega (arith, loop.invariant.stamp);
      entries = stamped_more c.args.thread c.args.last c.args.entries.now loop.entries loop.entry-index x c.entry-item.result
          (omega (arith, loop.auto.entries, c.loop-entry-test.true)) loop.invariant.entries (omega (arith, loop.invariant.stamp)) refl refl;
    }
