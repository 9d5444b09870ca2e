use Rattle.std.proofs.Common.{◌≤◌, ℕ, List, sym, ◌∙◌, ap}
use Rattle.std.proofs.lemmas.Map.Views.{All-map-remove_entry}
use Rattle.std.specs.BTreeMap.{get}
use Rattle.bd_range.specs.Locks.{is_named, key_cmp, key_of, LockKey, LockRows, without_lock}
use Rattle.bd_range.proofs.Keys.{named, removed_same}
use Rattle.bd_range.proofs.Noted.{noted_as, noted_less}
use Rattle.bd_range.proofs.locks.Locks.unlock.Goals as goal

pub invariant_of-self : goal.invariant_of-self
invariant_of-self c = (
  rw c.remove.ensures.entries (All-map-remove_entry _ (λ (e : LockKey × ℕ). e.1) (λ n. n ≤ 512) _ c.self.invariant.0),
  noted_as c.forget.new.near _ _ (λ k. sym (c.remove.ensures.updates.0 k)) (noted_less c.self.inside.near c.forget.new.near (key_of c.args.req c.args.first) (get key_cmp c.self.inside.locks) c.self.invariant.1 c.forget.ensures),
)

-- the key that is taken out is that of the lock's name
pub returns : goal.returns
returns c =
    let gone = c.remove.ensures.entries ∙ removed_same _ (is_named c.args.req c.args.first) (named c.args.req c.args.first) c.self.inside.locks.entries in
    let with_locks : List (LockKey × ℕ) → LockRows = λ locks. record { locks = locks; held = c.self.inside.held } in
    ap with_locks gone ∙ ap (λ (s : LockRows). without_lock s c.args.req c.args.first) c.self.view_is
