use Rattle.std.proofs.Common.{ap, sym, ◌∙◌, ◌++◌, ◌||◌, [], None, refl, get_or, set}
use Rattle.std.specs.List.{cons_option}
use Rattle.std.proofs.lemmas.List.{append-nil, set-get_or}
use Rattle.bd_report.specs.Counts.{counts_of, no_acts, thread_counts, with_act, with_act_at}
use Rattle.bd_report.specs.Traffic.{all_submitted, has_succeeded, is_success_of, submitted_in}
use Rattle.bd_report.proofs.CounterLemmas.{counts_push, not_counted, or_none, submitted_push, succeeded_push, thread_counts_push}
use Rattle.bd_report.proofs.counter.Counter.note.Goals as goal

pub returns-clause-counted : goal.returns-clause-counted
returns-clause-counted c setup entries before =
    let x = c.args.entry.now in
    record {
      threads = c.note_act.ensures ∙ ap (with_act_at x.thread x.act) before.threads ∙ thread_counts_push setup.threads entries x;
      all = c.note.ensures ∙ ap (with_act x.act) before.all ∙ counts_push None entries x refl;
      sizes = before.sizes;
      submitted = c.note_submitted.ensures.items ∙ ap (λ all. all ++ cons_option (submitted_in x) []) before.submitted ∙ submitted_push entries x;
      successes = λ request.
          c.note_success.ensures.told request ∙ ap (λ b. b || is_success_of request x.act) (before.successes request) ∙ succeeded_push entries x request;
    }

-- of an entry that doesn't count
pub returns-then-not-is_counted-clause-counted : goal.returns-then-not-is_counted-clause-counted
returns-then-not-is_counted-clause-counted c setup entries before =
    let x = c.args.entry.now in
    let adds = not_counted x.act (sym c.is_counted.ensures ∙ c.if-not-is_counted.true) in
    let threads = thread_counts setup.threads entries in
    record {
      threads =
          before.threads ∙
          sym (ap (set threads x.thread) (adds.counts (get_or threads x.thread no_acts)) ∙ set-get_or threads x.thread no_acts) ∙
          thread_counts_push setup.threads entries x;
      all = before.all ∙ sym (adds.counts (counts_of None entries)) ∙ counts_push None entries x refl;
      sizes = before.sizes;
      submitted =
          before.submitted ∙ sym (append-nil (all_submitted entries)) ∙
          ap (λ one. all_submitted entries ++ cons_option one []) (sym adds.submitted) ∙
          submitted_push entries x;
      successes = λ request.
          before.successes request ∙ or_none (has_succeeded entries request) (adds.successes request) ∙ succeeded_push entries x request;
    }
