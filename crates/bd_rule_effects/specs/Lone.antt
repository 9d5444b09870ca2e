-- What an act makes of a part is read off the machine's change, over a view that has no more than the part.
use Rattle.std.specs.Prelude.{[], None}
use Rattle.bd_machine.specs.declared.state.Part.{Part}
use Rattle.bd_machine.specs.View.{View}

-- a view of this part, without tokens, handles and channels
abbrev pub lone : Part → View
lone part = record { part = part; here = λ id. None; handles = []; channels = λ dev. None }
