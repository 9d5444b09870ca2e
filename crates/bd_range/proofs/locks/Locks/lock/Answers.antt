use Rattle.std.proofs.Common.{◌≤◌, ℕ, List, sym, subst, arith}
use Rattle.std.proofs.lemmas.Map.Views.{All-values-insert_entry}
use Rattle.std.specs.BTreeMap.{get, is_at}
use Rattle.std.specs.Map.{lookup}
use Rattle.bd_range.specs.Locks.{key_cmp, key_of, LockKey}
use Rattle.bd_range.specs.Near.{NotesOf}
use Rattle.bd_range.proofs.Noted.{noted_again, noted_as, noted_more}
use Rattle.bd_range.proofs.locks.Locks.lock.Goals as goal

pub invariant_of-self-in-Ok : goal.invariant_of-self-in-Ok
invariant_of-self-in-Ok c = (
  rw c.in-Ok.ensures.entries (All-values-insert_entry key_cmp _ c.args.count (λ n. n ≤ 512) _ c.self.invariant.0 (omega arith)),
  noted_as c.note.new.near _ _ (λ k. sym (c.in-Ok.ensures.updates.0 k)) (noted_more c.self.inside.near c.note.new.near (key_of c.args.req c.args.first) (get key_cmp c.self.inside.locks) c.self.invariant.1 c.args.count c.in_ok-note.ensures.ok),
)

-- the note goes, and no lock had its key
pub invariant_of-self-in-Err : goal.invariant_of-self-in-Err
invariant_of-self-in-Err c = (
  rw c.in-Err.ensures.err c.self.invariant.0,
  subst (λ (es : List (LockKey × ℕ)). NotesOf c.forget.new.near (λ k. lookup (is_at (key_cmp k)) es)) (sym c.in-Err.ensures.err)
      (noted_again c.self.inside.near c.note.new.near c.forget.new.near (key_of c.args.req c.args.first) (get key_cmp c.self.inside.locks) c.self.invariant.1 c.in-Err.ensures.absent c.args.count c.in_ok-note.ensures.ok c.forget.ensures),
)
