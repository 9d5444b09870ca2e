use Rattle.std.proofs.Common.{rules, ◌≡◌}
use Rattle.std.proofs.lemmas.List.Sorted.{IsNonDecreasingBy-from_sort_by_key, answers_always}
use Rattle.bd_report.specs.Report.{removed_handles}
use Rattle.bd_report.proofs.HandleLemmas.{sorted_handles, number_of, thread_of}
use Rattle.bd_report.proofs.handles.removed_in_order.Goals as goal

pub returns : goal.returns
returns c =
    sorted_handles (removed_handles c.args.scripts.now c.args.index.now) c.in_ok-handles.handles.items c.sort_by_key.new.self.items c.sort_by_key-2.new.self.items
    c.in_ok-handles.ensures c.sort_by_key.ensures.permutation
    (IsNonDecreasingBy-from_sort_by_key number_of _ c.in_ok-sort_by_key.ensures.sorted (λ a r q k. search rules))
    (c.sort_by_key.ensures.stable number_of (answers_always _ (λ a r. r ≡ number_of a.0.now) _ (λ f a r q k. search rules)))
    c.sort_by_key-2.ensures.permutation
    (IsNonDecreasingBy-from_sort_by_key thread_of _ c.in_ok-sort_by_key-2.ensures.sorted (λ a r q k. search rules))
    (c.sort_by_key-2.ensures.stable thread_of (answers_always _ (λ a r. r ≡ thread_of a.0.now) _ (λ f a r q k. search rules)))
