-- What the program ends with.
use Rattle.std.specs.Prelude.{ℕ, List, [], ◌++◌, codes, Option, None, Some, Result, Ok, Err}
use Rattle.bd_top.specs.declared.fault.Fault.{Fault}
use Rattle.bd_top.specs.declared.fault.Fault.TheVariants.{Usage}
use Rattle.bd_top.specs.Fault.{fault_line, status_of}
use Rattle.bdevtrace.specs.declared.answer.Answer.{Answer}

-- the line of a fault, without its line feed: that of bdevrun, but for a usage of its own
abbrev pub trace_line : Fault → List ℕ
trace_line Usage = codes "usage: bdevtrace run CONFIG JOBS or exercise N; options --threads N --reactors N --schedule N"
trace_line fault = fault_line fault

-- the exit status: what was asked for was done, and has a status of its own, or there is a fault
abbrev pub ended_status : Result ℕ Fault → ℕ
ended_status (Ok status) = status
ended_status (Err fault) = status_of fault

-- the fault's line with its line feed; nothing where there is no fault
abbrev pub fault_text : Option Fault → List ℕ
fault_text None = []
fault_text (Some fault) = trace_line fault ++ codes "\n"

-- the text for standard error
abbrev pub ended_text : Result ℕ Fault → List ℕ
ended_text (Ok status) = []
ended_text (Err fault) = trace_line fault ++ codes "\n"

-- the text that an answer prints on standard error
abbrev pub answer_text : Answer → List ℕ
answer_text answer = fault_text answer.fault
