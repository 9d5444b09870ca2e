use Rattle.bd_registry.specs.Names.{place_of_name}
use Rattle.bd_registry.proofs.Naming.{named_more}
use Rattle.bd_registry.proofs.names.Names.of.Goals as goal

pub loop-place-preserved : goal.loop-place-preserved
loop-place-preserved c =
    named_more (place_of_name c.loop-place.names) (place_of_name c.add.new.self) c.args.rows.now c.loop-place.place c.index-rows-place.result c.loop-place-test.true c.index-rows-place.is
    c.in_ok-add.ensures.ok c.loop-place.invariant
