-- What is set on an error device.
use Rattle.std.specs.Prelude.{ℕ, Bool, cond}
use Rattle.bd_base.specs.declared.device.ErrKind.{ErrKind}
use Rattle.bd_base.specs.declared.device.Injection.{Injection}
use Rattle.bd_base.specs.declared.device.Injections.{Injections}
use Rattle.bd_base.specs.declared.device.IoSet.{IoSet}

-- an injection for this number of requests, in place of the old one where its type is named
abbrev pub replaced : Bool → ErrKind → ℕ → Injection → Injection
replaced named kind num old = cond named (record { kind = kind; left = num }) old

-- the named types have this injection, the others what they had
abbrev pub set_on : IoSet → ErrKind → ℕ → Injections → Injections
set_on io kind num old = record {
  read = replaced io.read kind num old.read;
  write = replaced io.write kind num old.write;
  zeroes = replaced io.zeroes kind num old.zeroes;
  unmap = replaced io.unmap kind num old.unmap;
  flush = replaced io.flush kind num old.flush;
}
