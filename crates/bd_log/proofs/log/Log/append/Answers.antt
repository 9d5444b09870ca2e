use Rattle.std.proofs.Common.{◌+◌, refl}
use Rattle.bd_base.specs.declared.act.Entry.{Entry}
use Rattle.bd_log.proofs.Parts.{log_push}
use Rattle.bd_log.proofs.log.Log.append.Goals as goal

pub invariant_of-self : goal.invariant_of-self
invariant_of-self c =
    let entry : Entry = record { stamp = c.self.inside.last + 1; thread = c.self.inside.thread; act = c.args.act } in
    rw c.in-Ok.ensures.items (log_push c.self.inside.thread c.self.inside.last c.self.inside.entries.items entry c.self.invariant refl refl)
