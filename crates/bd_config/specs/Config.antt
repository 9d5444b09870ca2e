-- What a configuration's bytes mean, or the first place that is outside the form.
use Rattle.std.specs.Prelude.{◌≡◌, ℕ, ◌+◌, ℤ, true, List, [], ◌∷◌, ◌++◌, map, length, Option, None, Some, if◌then◌else◌, Result, Ok, Err, IsUtf8}
use Rattle.std.specs.List.{list_all}
use Rattle.serde_json.specs.Data.{Data}
use Rattle.serde_json.specs.Read.{read}
use Rattle.bd_config.specs.Shape.{subsystems_of, is_subsystem, calls_of}
use Rattle.bd_config.specs.Commands.{answer_of}
use Rattle.bd_config.specs.declared.command.Command.{Command}

-- the bytes are a JSON text of this value
pub record IsJson (bytes : List ℕ) (value : Data) : Type 0 where
  pub utf8 : IsUtf8 bytes
  pub reads : read bytes ≡ Some value

-- ---- shape

-- the value has the shape of a configuration, with these subsystems
pub record HasShape (value : Data) (subsystems : List Data) : Type 0 where
  pub found : subsystems_of value ≡ Some subsystems
  pub each : list_all is_subsystem subsystems ≡ true

-- the place of the first that is no subsystem, in a list that begins at this place
abbrev pub first_outside : ℕ → List Data → Option ℕ
first_outside place [] = None
first_outside place (d ∷ ds) = if is_subsystem d then first_outside (place + 1) ds else Some place

-- places count from 1, and 0 is the array itself
abbrev pub shape_fault : Option (List Data) → Option ℕ
shape_fault None = Some 0
shape_fault (Some subsystems) = first_outside 1 subsystems

-- this is the first place where the value hasn't the shape
pub record IsShapeError (bytes : List ℕ) (place : ℕ) : Type 0 where
  pub value : Data
  pub json : IsJson bytes value
  pub first : shape_fault (subsystems_of value) ≡ Some place

-- ---- commands

-- what each call of these subsystems is answered
abbrev pub answers_of : List Data → List (Result Command ℤ)
answers_of subsystems = map answer_of (calls_of subsystems)

-- the value has the shape, and each call asks for the command at its place
pub record AsksFor (value : Data) (commands : List Command) : Type 0 where
  pub subsystems : List Data
  pub shape : HasShape value subsystems
  pub each : answers_of subsystems ≡ map Ok commands

-- the bytes are a configuration that asks for these commands
pub record IsConfig (bytes : List ℕ) (commands : List Command) : Type 0 where
  pub value : Data
  pub json : IsJson bytes value
  pub asks : AsksFor value commands

abbrev pub refused_before : ℕ → Result Command ℤ → Option (ℕ × ℤ) → Option (ℕ × ℤ)
refused_before index (Ok command) later = later
refused_before index (Err code) later = Some (index, code)

-- the first refusal, by its index and its code, among answers of which the first has this index
abbrev pub first_refused : ℕ → List (Result Command ℤ) → Option (ℕ × ℤ)
first_refused index [] = None
first_refused index (answer ∷ answers) = refused_before index answer (first_refused (index + 1) answers)

-- the value has the shape, and this call is the first that is refused, with this code
pub record Refuses (value : Data) (index : ℕ) (code : ℤ) : Type 0 where
  pub subsystems : List Data
  pub shape : HasShape value subsystems
  pub first : first_refused 0 (answers_of subsystems) ≡ Some (index, code)

-- the bytes have the shape, and this call is the first that is refused, with this code
pub record IsMethodError (bytes : List ℕ) (index : ℕ) (code : ℤ) : Type 0 where
  pub value : Data
  pub json : IsJson bytes value
  pub refuses : Refuses value index code

-- ---- call by call

abbrev pub read_on : List Command → (List Command → Result (List Command) (ℕ × ℤ)) → Result Command ℤ → Result (List Command) (ℕ × ℤ)
read_on commands next (Ok command) = next (commands ++ command ∷ [])
read_on commands next (Err code) = Err (length commands, code)

-- the commands read already and those of the calls that are left, or the first refusal among these
abbrev pub commands_from : List Command → List Data → Result (List Command) (ℕ × ℤ)
commands_from commands [] = Ok commands
commands_from commands (call ∷ calls) = read_on commands (λ more. commands_from more calls) (answer_of call)
