use Rattle.std.proofs.Common.{rules}
use Rattle.std.proofs.lemmas.Map.Entries.{entries_from_clone}
use Rattle.bd_range.proofs.Noted.{copied, key_from}
use Rattle.bd_range.proofs.near.copy_near.Goals as goal

pub returns : goal.returns
returns c = copied _ _ (λ x y h. search rules) (λ v w h. entries_from_clone _ _ (λ x y k. key_from y x k.0 k.1 k.2) (λ x y k. search rules) v.items w.items h.0) c.args.near.now c.in_ok-clone.field-0 c.in_ok-clone.ensures.cases
