-- The commands of a script, by their first word and the words after it.
use Rattle.std.specs.Prelude.{ℕ, Bool, true, false, ◌&&◌, ◌==◌, List, [], ◌∷◌, codes, Option, None, Some, if◌then◌else◌}
use Rattle.std.specs.List.{list_any}
use Rattle.bd_base.specs.Name.{same_name}
use Rattle.bd_base.specs.declared.event.ClaimKind.{ClaimKind}
use Rattle.bd_base.specs.declared.event.ClaimKind.TheVariants.{Exclusive, WriteOne, WriteNone, Shared}
use Rattle.bd_base.specs.declared.job.Job.{Job}
use Rattle.bd_base.specs.declared.job.Job.TheVariants.{Open, Close, Claim, Submit, Remove, Wait, Sleep, Post, Await, Gone, Resize, Sized}
use Rattle.bd_base.specs.declared.job.Line.{Line}
use Rattle.bd_base.specs.declared.request.Op.{Op}
use Rattle.bd_base.specs.declared.request.Op.TheVariants.{Read, Write, Zeroes, Unmap, Flush, Reset, Abort}
use Rattle.bd_jobs.specs.Words.{number_of, is_handle, is_device}

-- ---- handles

abbrev pub open_as : Bool → List ℕ → List ℕ → Option Job
open_as write handle dev = if is_handle handle && is_device dev then Some (Open handle dev write) else None

-- open HANDLE DEVICE r, or w
abbrev pub open_job : List (List ℕ) → Option Job
open_job (handle ∷ dev ∷ mode ∷ []) =
    if same_name mode (codes "r") then open_as false handle dev
    else if same_name mode (codes "w") then open_as true handle dev
    else None
open_job _ = None

-- close HANDLE
abbrev pub close_job : List (List ℕ) → Option Job
close_job (handle ∷ []) = if is_handle handle then Some (Close handle) else None
close_job _ = None

-- gone HANDLE
abbrev pub gone_job : List (List ℕ) → Option Job
gone_job (handle ∷ []) = if is_handle handle then Some (Gone handle) else None
gone_job _ = None

abbrev pub sized_as : List ℕ → Option ℕ → Option Job
sized_as handle None = None
sized_as handle (Some blocks) = if is_handle handle then Some (Sized handle blocks) else None

-- sized HANDLE BLOCKS
abbrev pub sized_job : List (List ℕ) → Option Job
sized_job (handle ∷ blocks ∷ []) = sized_as handle (number_of blocks)
sized_job _ = None

-- the kind of a claim: exclusive, one, none, or shared KEY
abbrev pub shared_kind : Option ℕ → Option ClaimKind
shared_kind (Some key) = Some (Shared key)
shared_kind None = None

abbrev pub plain_kind : List ℕ → Option ClaimKind
plain_kind word =
    if same_name word (codes "exclusive") then Some Exclusive
    else if same_name word (codes "one") then Some WriteOne
    else if same_name word (codes "none") then Some WriteNone
    else None

abbrev pub claim_kind : List (List ℕ) → Option ClaimKind
claim_kind (word ∷ []) = plain_kind word
claim_kind (word ∷ key ∷ []) = if same_name word (codes "shared") then shared_kind (number_of key) else None
claim_kind _ = None

abbrev pub claim_as : List ℕ → Option ClaimKind → Option Job
claim_as handle (Some kind) = if is_handle handle then Some (Claim handle kind) else None
claim_as handle None = None

-- claim HANDLE KIND
abbrev pub claim_job : List (List ℕ) → Option Job
claim_job (handle ∷ kind) = claim_as handle (claim_kind kind)
claim_job [] = None

-- ---- submissions

abbrev pub submit_at : List ℕ → Op → Option ℕ → Option ℕ → Option Job
submit_at handle op (Some lba) (Some count) = if is_handle handle then Some (Submit handle op lba count) else None
submit_at handle op _ _ = None

-- read, zeroes, unmap or flush, each HANDLE LBA COUNT
abbrev pub range_job : Op → List (List ℕ) → Option Job
range_job op (handle ∷ lba ∷ count ∷ []) = submit_at handle op (number_of lba) (number_of count)
range_job op _ = None

abbrev pub write_at : List ℕ → Option ℕ → Option ℕ → Option ℕ → Option Job
write_at handle lba count None = None
write_at handle lba count (Some seed) = submit_at handle (Write (record { seed = seed; flip = false })) lba count

-- write HANDLE LBA COUNT SEED
abbrev pub write_job : List (List ℕ) → Option Job
write_job (handle ∷ lba ∷ count ∷ seed ∷ []) = write_at handle (number_of lba) (number_of count) (number_of seed)
write_job _ = None

abbrev pub reset_for : List ℕ → Option ℕ → Option Job
reset_for handle None = None
reset_for handle (Some time) = submit_at handle (Reset time) (Some 0) (Some 0)

-- reset HANDLE, with no drain time, or reset HANDLE MICROS; it has no range
abbrev pub reset_job : List (List ℕ) → Option Job
reset_job (handle ∷ []) = reset_for handle (Some 0)
reset_job (handle ∷ micros ∷ []) = reset_for handle (number_of micros)
reset_job _ = None

-- the command submits a request
abbrev pub submits : Job → Bool
submits (Submit handle op lba count) = true
submits _ = false

-- the line has this number, and its command submits
abbrev pub submits_at : ℕ → Line → Bool
submits_at number line = (line.number == number) && submits line.job

abbrev pub abort_at : List Line → List ℕ → Option ℕ → Option Job
abort_at earlier handle None = None
abort_at earlier handle (Some number) = if list_any (submits_at number) earlier then submit_at handle (Abort number) (Some 0) (Some 0) else None

-- abort HANDLE LINE: one of the thread's earlier lines has that number, and its command submits
abbrev pub abort_job : List Line → List (List ℕ) → Option Job
abort_job earlier (handle ∷ number ∷ []) = abort_at earlier handle (number_of number)
abort_job earlier _ = None

-- ---- the others

-- remove DEVICE
abbrev pub remove_job : List (List ℕ) → Option Job
remove_job (dev ∷ []) = if is_device dev then Some (Remove dev) else None
remove_job _ = None

abbrev pub resize_as : List ℕ → Option ℕ → Option Job
resize_as dev None = None
resize_as dev (Some blocks) = if is_device dev then Some (Resize dev blocks) else None

-- resize DEVICE BLOCKS
abbrev pub resize_job : List (List ℕ) → Option Job
resize_job (dev ∷ blocks ∷ []) = resize_as dev (number_of blocks)
resize_job _ = None

-- wait
abbrev pub wait_job : List (List ℕ) → Option Job
wait_job [] = Some Wait
wait_job _ = None

abbrev pub sleep_for : Option ℕ → Option Job
sleep_for (Some micros) = Some (Sleep micros)
sleep_for None = None

-- sleep MICROS
abbrev pub sleep_job : List (List ℕ) → Option Job
sleep_job (micros ∷ []) = sleep_for (number_of micros)
sleep_job _ = None

-- post MARK
abbrev pub post_job : List (List ℕ) → Option Job
post_job (mark ∷ []) = if is_handle mark then Some (Post mark) else None
post_job _ = None

-- await MARK
abbrev pub await_job : List (List ℕ) → Option Job
await_job (mark ∷ []) = if is_handle mark then Some (Await mark) else None
await_job _ = None

-- ---- all commands

-- a command that submits, after these lines of its thread
abbrev pub submission_job : List Line → List ℕ → List (List ℕ) → Option Job
submission_job earlier word args =
    if same_name word (codes "read") then range_job Read args
    else if same_name word (codes "write") then write_job args
    else if same_name word (codes "zeroes") then range_job Zeroes args
    else if same_name word (codes "unmap") then range_job Unmap args
    else if same_name word (codes "flush") then range_job Flush args
    else if same_name word (codes "reset") then reset_job args
    else if same_name word (codes "abort") then abort_job earlier args
    else None

-- a command that neither submits nor speaks of a handle
abbrev pub other_job : List ℕ → List (List ℕ) → Option Job
other_job word args =
    if same_name word (codes "remove") then remove_job args
    else if same_name word (codes "resize") then resize_job args
    else if same_name word (codes "wait") then wait_job args
    else if same_name word (codes "sleep") then sleep_job args
    else if same_name word (codes "post") then post_job args
    else if same_name word (codes "await") then await_job args
    else None

abbrev pub or_else : Option Job → Option Job → Option Job
or_else (Some job) other = Some job
or_else None other = other

-- the command of a word, with the words after it and the earlier lines of its thread
abbrev pub command_job : List Line → List ℕ → List (List ℕ) → Option Job
command_job earlier word args =
    if same_name word (codes "open") then open_job args
    else if same_name word (codes "close") then close_job args
    else if same_name word (codes "claim") then claim_job args
    else if same_name word (codes "gone") then gone_job args
    else if same_name word (codes "sized") then sized_job args
    else or_else (submission_job earlier word args) (other_job word args)
