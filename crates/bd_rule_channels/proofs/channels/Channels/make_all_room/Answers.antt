use Rattle.std.proofs.Common.{◌+◌, ℕ, List, Option, None, get_or, refl, rules, ◌∙◌}
use Rattle.bd_base.specs.declared.id.DevId.{DevId}
use Rattle.bd_rule_channels.proofs.Filled.{places_more}
use Rattle.bd_rule_channels.proofs.channels.Channels.make_all_room.Goals as goal

pub loop-count-preserved : goal.loop-count-preserved
loop-count-preserved c =
    let old = c.loop-count.self in
    let n = c.loop-count.count-index in
    let counts : List (DevId × Option ℕ) = c.args.counts.now in
    let x : DevId × Option ℕ = get_or counts n (record { 0 = 0 }, None) in
    record {
      same = λ u d. c.make_room.ensures.same u d ∙ c.loop-count.invariant.same u d;
      room = places_more old c.make_room.new.self c.args.thread n counts x c.loop-count-test.true (search rules) c.make_room.ensures.stays c.in_ok-make_room.ensures.ok c.loop-count.invariant.room;
    }
