use Rattle.std.proofs.Common.{◌≡◌, ℕ, ◌+◌, ◌-◌, ◌<◌, length, subst, arith}
use Rattle.bd_thread.specs.Waits.{NoRemovalFrom, NoRemovalOn}
use Rattle.bd_thread.proofs.Going.{acted_none, acted_then}
use Rattle.bd_thread.proofs.Idle.{idle_here, idle_then, removes_left_idle}
use Rattle.bd_thread.proofs.Leftovers.{no_removal_beyond, no_removal_from}
use Rattle.bd_thread.proofs.thread.Thread.remove_all_left.Goals as goal

pub loop-round-init : goal.loop-round-init
loop-round-init c =
    let t = c.args.self.now in
    let links = c.args.links.now in
    let all : length t.setup.now.devices ≡ c.len-count.result - 0 = omega (arith, c.len-count.ensures) in
    record { acted = acted_none _ _; tickets = λ keeps. keeps; quiet = idle_here _ _ (subst (λ (n : ℕ). NoRemovalFrom n t links) all (no_removal_beyond t links)) }

pub loop-round-preserved : goal.loop-round-preserved
loop-round-preserved c =
    let round : ℕ = c.loop-round.round in
    let dev : ℕ = c.in-Ok.dev in
    let less : round < c.len-count.result = omega (arith, c.loop-round-test.true, c.loop-round.auto.round-end) in
    let is : dev ≡ c.len-count.result - 1 - round = c.in-Ok.ensures.1 in
    let more : c.len-count.result - round ≡ dev + 1 = omega (arith, less, is) in
    let next : dev ≡ c.len-count.result - (round + 1) = omega (arith, less, is) in
    record {
      acted = acted_then _ _ _ _ _ _ c.loop-round.invariant.acted c.in_ok-remove_left.ensures.acted;
      tickets = λ keeps. c.in_ok-remove_left.ensures.tickets (c.loop-round.invariant.tickets keeps);
      quiet = idle_then {Q = NoRemovalOn (record { 0 = dev })} _ _ _ _ _ _ c.loop-round.invariant.acted c.in_ok-remove_left.ensures.acted
          (λ above on. subst (λ (n : ℕ). NoRemovalFrom n c.args.self.now c.args.links.now) next (no_removal_from (c.len-count.result - round) dev c.args.self.now c.args.links.now more above on))
          c.loop-round.invariant.quiet (removes_left_idle _ _ _ _ _ _ c.in_ok-remove_left.ensures.removes);
    }
