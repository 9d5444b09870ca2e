use Rattle.std.proofs.Common.{ap, ◌∙◌, ◌+◌, ◌++◌, drop, take, arith}
use Rattle.std.proofs.lemmas.List.{append-nil}
use Rattle.bd_base.specs.declared.request.Status.TheVariants.{Success}
use Rattle.bd_report.specs.Counter.{HasRoom}
use Rattle.bd_report.specs.Counts.{is_accept, is_end}
use Rattle.bd_report.proofs.CounterLemmas.{fed_more, few_acts, next_of}
use Rattle.bd_report.proofs.counter.Counter.add.Goals as goal

pub loop-entry-init : goal.loop-entry-init
loop-entry-init c =
    let part = c.args.part.now in
    record {
      counted = λ setup entries before.
          rw (append-nil entries) (record {
            threads = before.threads;
            all = before.all;
            sizes = before.sizes;
            submitted = c.reserve.ensures.items ∙ before.submitted;
            successes = λ request. c.reserve-2.ensures.same request ∙ before.successes request;
          });
      room = (
        omega (arith, c.in_ok-reserve.ensures.ok, ap (λ counts. counts.accepted) c.counts_in-counts.ensures, few_acts is_accept part),
        omega (arith, c.in_ok-reserve-2.ensures.room, ap (λ counts. counts.success) c.counts_in-counts.ensures, few_acts (is_end Success) part),
      );
    }

pub loop-entry-preserved : goal.loop-entry-preserved
loop-entry-preserved c =
    let part = c.args.part.now in
    let i = c.loop-entry.entry-index in
    let x = c.entry-item.result in
    record {
      counted = λ setup entries before.
          rw (← fed_more entries part i x c.loop-entry-test.true c.entry-item.is)
          (c.note.ensures.counted setup (entries ++ take i part) (c.loop-entry.invariant.counted setup entries before));
      room = c.note.ensures.room (drop (i + 1) part) (next_of (λ entries. HasRoom entries c.loop-entry.self) part i x c.loop-entry-test.true c.entry-item.is c.loop-entry.invariant.room);
    }
