-- Faults: the exit status and the line of each, and which one a file that isn't read gives.
use Rattle.std.specs.Prelude.{◌≡◌, ℕ, List, ◌++◌, codes, decimal, string_bytes}
use Rattle.std.specs.Fmt.{signed_decimal}
use Rattle.bd_top.specs.declared.fault.Fault.{Fault}
use Rattle.bd_top.specs.declared.fault.Fault.TheVariants.{Usage, NoFile, TooLong, ReadFault, ConfigText, ConfigShape, Method, JobText, WriteFault, OutOfMemory}
use Rattle.bd_top.specs.declared.configure.ConfigureError.{ConfigureError}
use Rattle.bd_top.specs.declared.configure.ConfigureError.TheVariants as config_nos
use Rattle.bd_top.specs.declared.files.ReadError.{ReadError}
use Rattle.bd_top.specs.declared.files.ReadError.TheVariants as errors
use Rattle.bd_top.specs.declared.inputs.ScriptError.{ScriptError}
use Rattle.bd_top.specs.declared.inputs.ScriptError.TheVariants as script_nos

abbrev pub status_of : Fault → ℕ
status_of (TooLong name) = 1
status_of ConfigText = 1
status_of (ConfigShape place) = 1
status_of (Method index code) = 1
status_of (JobText line) = 1
status_of Usage = 2
status_of (NoFile name) = 3
status_of (ReadFault name) = 3
status_of WriteFault = 3
status_of OutOfMemory = 4

-- the line that the program prints, without its line feed
abbrev pub fault_line : Fault → List ℕ
fault_line Usage = codes "usage: bdevrun run CONFIG JOBS, exercise N or generate N; options --threads N --reactors N --schedule N"
fault_line (NoFile name) = codes "no file: " ++ string_bytes name
fault_line (TooLong name) = codes "file too long: " ++ string_bytes name
fault_line (ReadFault name) = codes "read fault: " ++ string_bytes name
fault_line ConfigText = codes "configuration is not JSON"
fault_line (ConfigShape place) = codes "configuration shape: " ++ decimal place
fault_line (Method index code) = codes "configuration command " ++ decimal index ++ codes " refused: " ++ signed_decimal code
fault_line (JobText line) = codes "script line " ++ decimal line
fault_line WriteFault = codes "write fault"
fault_line OutOfMemory = codes "out of memory"

-- the fault of a file of this name that isn't read, or out of memory
abbrev pub IsFaultOf : List ℕ → ReadError → Fault → Type 0
IsFaultOf name errors.Absent (NoFile text) = string_bytes text ≡ name
IsFaultOf name errors.TooLong (TooLong text) = string_bytes text ≡ name
IsFaultOf name errors.Failed (ReadFault text) = string_bytes text ≡ name
IsFaultOf name why OutOfMemory = Unit {0}
IsFaultOf name why _ = ⊥

-- the fault of a script's file of this name that gives no scripts, or out of memory
abbrev pub IsScriptFault : List ℕ → ScriptError → Fault → Type 0
IsScriptFault name (script_nos.File why) fault = IsFaultOf name why fault
IsScriptFault name (script_nos.Text line) fault = fault ≡ JobText line
IsScriptFault name script_nos.OutOfMemory fault = fault ≡ OutOfMemory

-- the fault of a configuration whose bytes configure no devices
abbrev pub config_fault : ConfigureError → Fault
config_fault config_nos.OutOfMemory = OutOfMemory
config_fault config_nos.Text = ConfigText
config_fault (config_nos.Shape place) = ConfigShape place
config_fault (config_nos.Method index code) = Method index code
