-- What is held in a whole run, computed from its entries: a write over a delay device that holds writes 40 or 90 microseconds, whose base holds none.
use Rattle.std.proofs.Common.{◌≡◌, ℕ, ◌+◌, ◌≤◌, min, List, [], ◌∷◌, Some, refl, arith}
use Rattle.bd_base.specs.declared.act.Act.TheVariants as acts
use Rattle.bd_base.specs.declared.request.Way.TheVariants.{Read, Write}
use Rattle.bd_machine.specs.Delays.{last_moment}
use Rattle.bd_machine.specs.Start.{start}
use Rattle.bd_machine.specs.Step.{after}
use Rattle.bd_machine.proofs.DelayTraces.{write_held, write_held_setup}
use Rattle.bd_machine.proofs.Words.{dev, req, write}
use Rattle.bd_law_held.specs.Held.{held_from, most_latency, IsHeldInTime}

-- the greater of the two latencies, by direction; below the base device there is none
writes_most : most_latency write_held_setup (dev 1) (Some Write) ≡ 90
writes_most = refl

reads_most : most_latency write_held_setup (dev 1) (Some Read) ≡ 9
reads_most = refl

base_most : most_latency write_held_setup (dev 0) (Some Write) ≡ 0
base_most = refl

-- the one Hold is of the write, on the delay device
one_is_held : held_from write_held_setup 0 (start write_held_setup []) write_held ≡ record { dev = dev 1; op = write 5; until = 60 } ∷ []
unfolding after
one_is_held = refl

-- from moment 0 on it may last until 90, and no longer
last_is_in_time : IsHeldInTime write_held_setup 0 (λ r. Some (record { dev = dev 1; op = write 5; count = 1 })) (acts.Hold (req 0 0) 90)
last_is_in_time = (let most : most_latency write_held_setup (dev 1) (Some Write) ≡ 90 = refl in omega (arith, most))

later_is_late : IsHeldInTime write_held_setup 0 (λ r. Some (record { dev = dev 1; op = write 5; count = 1 })) (acts.Hold (req 0 0) 91) → ⊥
later_is_late h = (let most : most_latency write_held_setup (dev 1) (Some Write) ≡ 90 = refl in omega (arith, most, h))

-- a write of the base device isn't held at all
base_is_late : IsHeldInTime write_held_setup 0 (λ r. Some (record { dev = dev 0; op = write 5; count = 1 })) (acts.Hold (req 0 0) 1) → ⊥
base_is_late h = (let most : most_latency write_held_setup (dev 0) (Some Write) ≡ 0 = refl in omega (arith, most, h))
