-- The words of commands, statuses and kinds of device.
use Rattle.std.specs.Prelude.{ℕ, List, codes}
use Rattle.bd_base.specs.declared.device.Kind.{Kind}
use Rattle.bd_base.specs.declared.device.Kind.TheVariants.{Malloc, Null, Aio, Passthru, Part, Delay, Error}
use Rattle.bd_base.specs.declared.job.Job.{Job}
use Rattle.bd_base.specs.declared.job.Job.TheVariants.{Open, Close, Claim, Submit, Remove, Wait, Sleep, Post, Await, Gone, Resize, Sized}
use Rattle.bd_base.specs.declared.request.Op.{Op}
use Rattle.bd_base.specs.declared.request.Op.TheVariants.{Read, Write, Zeroes, Unmap, Flush, Reset, Abort}
use Rattle.bd_base.specs.declared.request.Status.{Status}
use Rattle.bd_base.specs.declared.request.Status.TheVariants.{Success, Failed, Aborted}

abbrev pub status_word : Status → List ℕ
status_word Success = codes "success"
status_word Failed = codes "failed"
status_word Aborted = codes "aborted"

abbrev pub kind_word : Kind → List ℕ
kind_word Malloc = codes "malloc"
kind_word Null = codes "null"
kind_word Aio = codes "aio"
kind_word Passthru = codes "passthru"
kind_word (Part shift) = codes "part"
kind_word (Delay average_read p99_read average_write p99_write) = codes "delay"
kind_word Error = codes "error"

-- the command that submits a type
abbrev pub submit_word : Op → List ℕ
submit_word Read = codes "read"
submit_word (Write fill) = codes "write"
submit_word Zeroes = codes "zeroes"
submit_word Unmap = codes "unmap"
submit_word Flush = codes "flush"
submit_word (Reset time) = codes "reset"
submit_word (Abort seq) = codes "abort"

abbrev pub job_word : Job → List ℕ
job_word (Open handle dev write) = codes "open"
job_word (Close handle) = codes "close"
job_word (Claim handle kind) = codes "claim"
job_word (Submit handle op lba count) = submit_word op
job_word (Remove dev) = codes "remove"
job_word Wait = codes "wait"
job_word (Sleep micros) = codes "sleep"
job_word (Post mark) = codes "post"
job_word (Await mark) = codes "await"
job_word (Gone handle) = codes "gone"
job_word (Resize dev blocks) = codes "resize"
job_word (Sized handle blocks) = codes "sized"
