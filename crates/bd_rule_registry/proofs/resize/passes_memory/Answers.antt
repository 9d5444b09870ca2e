use Rattle.std.proofs.Common.{◌≡◌, ℕ, ◌-◌, ◌+◌, ◌<◌, ◌≤◌, nat_lt, sym, ◌∙◌, ap, arith}
use Rattle.bd_base.specs.declared.id.DevId.{DevId}
use Rattle.bd_machine.specs.Registry.{malloc_bytes_at}
use Rattle.bd_machine.specs.Users.{dev_of}
use Rattle.bd_rule_registry.proofs.Sums.{leaves, passes, total}
use Rattle.bd_rule_registry.proofs.resize.passes_memory.Goals as goal

pub returns-then-left-bytes : goal.returns-then-left-bytes
returns-then-left-bytes g c =
    let bytes : DevId → ℕ = malloc_bytes_at c.args.setup.now (g.R.Records.registry_of c.args.registry.now) c.args.dev c.args.blocks in
    let is : c.malloc_bytes_at-bytes.result ≡ bytes (dev_of c.loop-n.n) = c.malloc_bytes_at-bytes.ensures in
    let more : c.loop-n.left < bytes (dev_of c.loop-n.n) = let left = c.if-left-bytes.true in omega (arith, left, is) in
    let below : c.loop-n.n < c.in-Ok.count = let test = c.loop-n-test.true in omega (arith, test) in
    sym (passes bytes 1073741824 c.loop-n.left c.loop-n.n c.in-Ok.count c.loop-n.invariant.left below more)
    ∙ ap (λ (n : ℕ). nat_lt 1073741824 (total bytes n)) c.loop-n.invariant.count

pub loop-n-preserved : goal.loop-n-preserved
loop-n-preserved g c =
    let bytes : DevId → ℕ = malloc_bytes_at c.args.setup.now (g.R.Records.registry_of c.args.registry.now) c.args.dev c.args.blocks in
    let is : c.malloc_bytes_at-bytes.result ≡ bytes (dev_of c.loop-n.n) = c.malloc_bytes_at-bytes.ensures in
    let enough : bytes (dev_of c.loop-n.n) ≤ c.loop-n.left = let left = c.if-left-bytes.false in omega (arith, left, is) in
    record {
      count = c.loop-n.invariant.count;
      left = ap (λ (b : ℕ). (c.loop-n.left - b) + total bytes (c.loop-n.n + 1)) is ∙ leaves bytes 1073741824 c.loop-n.left c.loop-n.n c.loop-n.invariant.left enough;
    }
