-- What the program ends with.
use Rattle.std.specs.Prelude.{ℕ, List, [], ◌++◌, codes, Option, None, Some, Result, Ok, Err}
use Rattle.bd_top.specs.declared.fault.Fault.{Fault}
use Rattle.bd_top.specs.Fault.{fault_line, status_of}
use Rattle.bdevrun.specs.declared.answer.Answer.{Answer}

-- the exit status: what was asked for was done, and has a status of its own, or there is a fault
abbrev pub ended_status : Result ℕ Fault → ℕ
ended_status (Ok status) = status
ended_status (Err fault) = status_of fault

-- the fault's line with its line feed; nothing where there is no fault
abbrev pub fault_text : Option Fault → List ℕ
fault_text None = []
fault_text (Some fault) = fault_line fault ++ codes "\n"

-- the text for standard error
abbrev pub ended_text : Result ℕ Fault → List ℕ
ended_text (Ok status) = []
ended_text (Err fault) = fault_line fault ++ codes "\n"

-- the text that an answer prints on standard error
abbrev pub answer_text : Answer → List ℕ
answer_text answer = fault_text answer.fault
