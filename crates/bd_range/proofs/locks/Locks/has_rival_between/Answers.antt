use Rattle.std.proofs.Common.{◌≡◌, ◌∙◌, ap}
use Rattle.std.specs.List.{list_any}
use Rattle.std.specs.declared.ops.Bound.{Bound}
use Rattle.std.specs.declared.ops.Bound.TheVariants.{Included}
use Rattle.std.specs.BTreeMap.Range.{entries_between}
use Rattle.bd_range.specs.Locks.{is_rival, key_cmp, LockKey, LockRows}
use Rattle.bd_range.proofs.Between.{from_there, up_to}
use Rattle.bd_range.proofs.locks.Locks.has_rival_between.Goals as goal
use Rattle.bd_range.proofs.locks.Locks.has_rival_between.Goals.{in-Some, in-None}

-- the locks that are looked at are enough
pub returns : goal.returns
returns c =
    let rival = is_rival c.args.req c.args.first c.args.count in
    let low = c.saturating_sub.result in
    let all = c.self.inside.locks.entries in
    let part = λ (to : Bound LockKey). list_any rival (entries_between key_cmp (Included (low, 0, 0)) to all) in
    let seen = c.has_rival.ensures ∙ ap (list_any rival) (c.range.ensures.between tt) in
    let whole : c.has_rival.result ≡ list_any rival all = elim c.match-checked_add.branch [
      | in-Some w ↦ seen ∙ ap part w.to-is ∙ up_to c.args.req c.args.first c.args.count low w.in-Some.end c.saturating_sub.ensures w.in-Some.ensures.1 all c.self.invariant.0
      | in-None w ↦ seen ∙ ap part w.to-is ∙ from_there c.args.req c.args.first c.args.count low c.saturating_sub.ensures all c.self.invariant.0
    ] in
    whole ∙ ap (λ (s : LockRows). list_any rival s.locks) c.self.view_is
