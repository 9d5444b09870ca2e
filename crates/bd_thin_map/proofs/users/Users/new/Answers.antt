use Rattle.std.proofs.Common.{◌≡◌, ℕ, ◌<◌, length, replicate, rules, arith}
use Rattle.std.proofs.lemmas.List.{length-replicate}
use Rattle.bd_thin_map.proofs.Least.{none_at_first}
use Rattle.bd_thin_map.proofs.users.Users.new.Goals as goal

pub invariant_of-result : goal.invariant_of-result
invariant_of-result c =
    let zeros : c.in_ok-vec.field-0.items ≡ replicate c.args.clusters 0 = search rules in
    let few : length (replicate c.args.clusters 0) < 4294967296 = omega (arith, length-replicate {A = ℕ} c.args.clusters 0) in
    rw zeros (none_at_first c.args.clusters, few)
