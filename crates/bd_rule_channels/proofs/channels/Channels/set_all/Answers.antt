use Rattle.std.proofs.Common.{◌+◌, ◌≤◌, ℕ, List, Option, None, length, get_or, map, take, refl, ap, sym, ◌∙◌, subst, rules}
use Rattle.std.proofs.lemmas.List.{take_all}
use Rattle.bd_base.specs.declared.id.DevId.{DevId}
use Rattle.bd_machine.specs.declared.state.Channel.{Channel}
use Rattle.bd_machine.specs.Changes.{counts_set}
use Rattle.bd_rule_channels.specs.Counts.{Has, count_for}
use Rattle.bd_rule_channels.proofs.Filled.{counts_more, places_stay}
use Rattle.bd_rule_channels.proofs.channels.Channels.set_all.Goals as goal

pub loop-count-preserved : goal.loop-count-preserved
loop-count-preserved c =
    let old = c.loop-count.self in
    let n = c.loop-count.count-index in
    let counts : List (DevId × Option ℕ) = c.args.counts.now in
    let x : DevId × Option ℕ = get_or counts n (record { 0 = 0 }, None) in
    record {
      room = places_stay old c.set.new.self c.args.thread counts c.set.ensures.stays c.loop-count.invariant.room;
      all = λ cs has. counts_more old c.set.new.self cs c.args.thread n counts x c.loop-count-test.true (search rules) c.set.ensures.counts (c.loop-count.invariant.all cs has);
    }

pub returns : goal.returns
returns c =
    let whole = take_all c.loop-count.count-index c.args.counts.now (search rules) in
    λ cs has. subst (λ (xs : List (DevId × Option ℕ)). Has c.loop-count.self (counts_set c.args.thread (map count_for xs) cs)) whole (c.loop-count.invariant.all cs has)
