-- The open handles of one device among others.
use Rattle.std.specs.Prelude.{List, map, filter}
use Rattle.bd_base.specs.declared.id.DevId.{DevId}
use Rattle.bd_machine.specs.declared.state.Handle.{Handle}
use Rattle.bd_machine.specs.Claims.{Holder}
use Rattle.bd_machine.specs.Registry.{holder_of, is_on}

-- those of the handles that are on the device, as the rules of claims see them
abbrev pub holders_among : List Handle → DevId → List Holder
holders_among handles dev = map holder_of (filter (is_on dev) handles)
