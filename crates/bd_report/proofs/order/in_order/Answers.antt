use Rattle.std.proofs.Common.{rules, ◌≡◌}
use Rattle.std.proofs.lemmas.List.Sorted.{IsNonDecreasingBy-from_sort_by_key, answers_always}
use Rattle.bd_report.proofs.OrderLemmas.{sorted_lines, number_of}
use Rattle.bd_report.proofs.order.in_order.Goals as goal

pub returns : goal.returns
returns c =
    sorted_lines c.args.scripts.now c.in_ok-commands.commands.items c.sort_by_key.new.self.items c.in_ok-commands.ensures c.sort_by_key.ensures.permutation
    (IsNonDecreasingBy-from_sort_by_key number_of _ c.in_ok-sort_by_key.ensures.sorted (λ a r q k. search rules))
    (c.sort_by_key.ensures.stable number_of (answers_always _ (λ a r. r ≡ number_of a.0.now) _ (λ f a r q k. search rules)))
