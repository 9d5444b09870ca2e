-- What is written of a text, and why a report isn't written whole.
use Rattle.std.specs.Prelude.{◌≡◌, ℕ, List, take, Option}
use Rattle.std.specs.Io.KnownBytes.{Appends}
use Rattle.bd_outside.specs.Sink.{SinkState, Fails}
use Rattle.bd_report.specs.declared.writing.ReportError.{ReportError}
use Rattle.bd_report.specs.declared.writing.ReportError.TheVariants.{OutOfMemory, WriteFault}

-- what was taken of these bytes is a prefix of them
abbrev pub AppendsPrefix : Option (List ℕ) → Option (List ℕ) → List ℕ → Type 0
AppendsPrefix old new bytes = (n : ℕ) × Appends old new (take n bytes)

-- why a report isn't written whole; out of memory leaves the sink as it was
abbrev pub ReportCause : SinkState → SinkState → List ℕ → ReportError → Type 0
ReportCause old new text OutOfMemory = new ≡ old
ReportCause old new text WriteFault = AppendsPrefix old.written new.written text × Fails old new
