-- What came from outside, as far as a rule looks at it.
use Rattle.std.specs.Prelude.{Bool, false, Option, None}
use Rattle.bd_machine.specs.declared.state.Between.{Between}
use Rattle.bd_machine.specs.View.{Came}

-- it is after the Shutdown or not, and nothing else came
abbrev pub came_shut : Bool → Came
came_shut shut = record { message = None; answer = None; between = None; free = false; shut = shut }

-- this has to follow at the registry, it is after the Shutdown or not, and nothing else came
abbrev pub came_between : Option Between → Bool → Came
came_between between shut = record { message = None; answer = None; between = between; free = false; shut = shut }

-- whether the device is free; nothing else came
abbrev pub came_free : Bool → Came
came_free free = record { message = None; answer = None; between = None; free = free; shut = false }
