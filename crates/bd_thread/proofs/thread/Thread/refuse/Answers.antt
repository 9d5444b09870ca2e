use Rattle.std.proofs.Common.{refl}
use Rattle.bd_links.specs.Entries.{longer}
use Rattle.bd_thread.specs.Requests.{refuse_act, refused, IsRefused}
use Rattle.bd_thread.specs.declared.links.Links.{Links}
use Rattle.bd_thread.specs.declared.thread.Thread.{Thread}
use Rattle.bd_thread.proofs.Going.{carried}
use Rattle.bd_thread.proofs.Submissions.{refused_acted}
use Rattle.bd_thread.proofs.thread.Thread.refuse.Goals as goal

pub returns-clause-ok : goal.returns-clause-ok
returns-clause-ok c =
    let old = c.args.self.now in
    let before = c.args.links.now in
    let new : Thread = record old { part = refused c.args.errno old.part } in
    let after : Links = record before { entries = longer old.me before.entries (refuse_act c.args.handle c.args.asked c.args.errno) } in
    let is : IsRefused c.args.errno c.args.handle c.args.asked old before new after = record {
      due = c.requires.due;
      acted = refused_acted old before new after c.args.handle c.args.asked c.args.errno c.requires.asked c.requires.due refl refl;
      thread = refl;
      links = refl;
    } in
    carried (IsRefused c.args.errno c.args.handle c.args.asked old before) new after _ _ c.in_ok-note.ensures.thread c.in_ok-note.ensures.links is
