use Rattle.std.proofs.Common.{ℕ, ◌+◌, ◌-◌, ◌<◌, List, [], ◌++◌, Option, filter_map, sym, ◌∙◌, ap, arith}
use Rattle.std.proofs.lemmas.List.{append_assoc}
use Rattle.std.specs.List.{range_with_len}
use Rattle.std.specs.Prelude.{option_to_list}
use Rattle.bd_machine.specs.declared.state.Base.{Base}
use Rattle.bd_machine.specs.BlockMap.{row_of}
use Rattle.bd_machine.specs.Start.{base_if_here}
use Rattle.bd_machine.specs.Users.{dev_of}
use Rattle.bd_blocks.proofs.Left.{left_from}
use Rattle.bd_blocks.proofs.Starting.{next_base}
use Rattle.bd_blocks.proofs.start.bases_at_start.Goals as goal

pub loop-n-preserved : goal.loop-n-preserved
loop-n-preserved c =
    let less : c.loop-n.n < c.in-Ok.count = omega (arith, c.loop-n-test.true, c.loop-n.auto.n-end) in
    let found : ℕ → Option Base = λ n. base_if_here c.args.setup.now [] c.args.thread (dev_of n) (row_of c.args.setup.now (dev_of n)) in
    let rest : List ℕ = range_with_len (c.loop-n.n + 1) (c.in-Ok.count - (c.loop-n.n + 1)) in
    record {
      count = c.loop-n.invariant.count;
      all = ap (λ (bs : List Base). bs ++ filter_map found rest) (c.in_ok-push_if_any.ensures ∙ ap (λ (o : Option Base). c.loop-n.bases ++ option_to_list o) c.in_ok-base.ensures)
          ∙ append_assoc c.loop-n.bases (option_to_list (found c.loop-n.n)) (filter_map found rest)
          ∙ ap (λ (bs : List Base). c.loop-n.bases ++ bs) (sym (ap (filter_map found) (left_from c.loop-n.n c.in-Ok.count less) ∙ next_base (found c.loop-n.n) (filter_map found rest)))
          ∙ c.loop-n.invariant.all;
    }
