use Rattle.std.proofs.Common.{rules}
use Rattle.std.proofs.lemmas.List.Sorted.{IsNonDecreasingBy-from_sort_by_key}
use Rattle.bd_worker.specs.Seats.{number_in}
use Rattle.bd_node.proofs.sharing.gather.Goals as goal

pub returns-clause-sorted : goal.returns-clause-sorted
returns-clause-sorted g c = IsNonDecreasingBy-from_sort_by_key number_in _ c.sort_unstable_by_key.ensures.sorted (λ a r q k. search rules)
