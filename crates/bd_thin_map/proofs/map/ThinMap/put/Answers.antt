use Rattle.std.proofs.Common.{Result, Ok, ap, ◌∙◌}
use Rattle.bd_thin_map.specs.declared.ready.NoSpace.{NoSpace}
use Rattle.bd_thin_map.specs.declared.ready.Ready.{Ready}
use Rattle.bd_thin_map.proofs.Taken.{copy_free, fresh_free}
use Rattle.bd_thin_map.proofs.map.ThinMap.put.Goals as goal

well : Ready → Result Ready NoSpace
well ready = Ok ready

pub take-requires-clause-there : goal.take-requires-clause-there
unfolding well
take-requires-clause-there c = (fresh_free c.args.self.now c.args.dev c.args.place c.in-Fresh.to (c.requires ∙ ap well c.in-Fresh.is)).there

pub take-requires-clause-free : goal.take-requires-clause-free
unfolding well
take-requires-clause-free c = (fresh_free c.args.self.now c.args.dev c.args.place c.in-Fresh.to (c.requires ∙ ap well c.in-Fresh.is)).free

pub take-requires-in-Copy-clause-there : goal.take-requires-in-Copy-clause-there
unfolding well
take-requires-in-Copy-clause-there c = (copy_free c.args.self.now c.args.dev c.args.place c.in-Copy.from c.in-Copy.to (c.requires ∙ ap well c.in-Copy.is)).there

pub take-requires-in-Copy-clause-free : goal.take-requires-in-Copy-clause-free
unfolding well
take-requires-in-Copy-clause-free c = (copy_free c.args.self.now c.args.dev c.args.place c.in-Copy.from c.in-Copy.to (c.requires ∙ ap well c.in-Copy.is)).free
