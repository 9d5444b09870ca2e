use Rattle.std.proofs.Common.{sym, ap, ◌∙◌, ◌++◌, ◌∷◌, [], Some, arith}
use Rattle.std.proofs.lemmas.List.FromFn.{map-range_with_len_more}
use Rattle.bd_report.specs.Counts.{counts_of, thread_counts}
use Rattle.bd_report.proofs.counter.no_counts.Goals as goal

pub loop-thread-preserved : goal.loop-thread-preserved
loop-thread-preserved c =
    let thread = c.loop-thread._thread in
    c.in_ok-push.ensures.ok ∙
    ap (λ counts. counts ++ c.new.result ∷ []) c.loop-thread.invariant ∙
    ap (λ none. thread_counts thread [] ++ none ∷ []) c.new.ensures ∙
    sym (map-range_with_len_more (λ t. counts_of (Some t) []) 0 thread thread (omega arith))
