-- The channels that are born frozen.
use Rattle.std.specs.Prelude.{ℕ, List, filter, slice_get}
use Rattle.bd_base.specs.declared.id.DevId.{DevId}
use Rattle.bd_machine.specs.declared.state.Registry.{Registry}
use Rattle.bd_machine.specs.Registry.{is_born_frozen, made, references}

-- those of the channels that a get by this thread makes on its way down these devices
abbrev pub born_frozen : Registry → ℕ → List DevId → List DevId
born_frozen registry t devs = filter (λ d. is_born_frozen (slice_get registry.devices d.0)) (made (references registry t) devs)
