use Rattle.std.proofs.Common.{All, List, subst}
use Rattle.std.specs.BTreeMap.Range.{IsLeBy}
use Rattle.bd_held.specs.Holds.{HoldKey, key_cmp}
use Rattle.bd_held.proofs.held.Held.first.Goals as goal

pub returns-in-Some-clause-least : goal.returns-in-Some-clause-least
returns-in-Some-clause-least c = subst (λ (keys : List HoldKey). All (IsLeBy key_cmp c.in-Some.field-0.now) keys) c.self.view_is c.in-Some.ensures.all_from
