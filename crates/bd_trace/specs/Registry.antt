-- The fields of an event of the registry, and of its answer.
use Rattle.std.specs.Prelude.{ℕ, ◌==◌, if◌then◌else◌, List, [], ◌++◌, codes, flat_map, Option, None, Some}
use Rattle.bd_base.specs.Errno.{number_of}
use Rattle.bd_base.specs.Word.{submit_word}
use Rattle.bd_base.specs.declared.event.Answer.{Answer}
use Rattle.bd_base.specs.declared.event.Answer.TheVariants as answers
use Rattle.bd_base.specs.declared.event.ClaimKind.{ClaimKind}
use Rattle.bd_base.specs.declared.event.ClaimKind.TheVariants.{Exclusive, WriteOne, WriteNone, Shared}
use Rattle.bd_base.specs.declared.event.RegEvent.{RegEvent}
use Rattle.bd_base.specs.declared.event.RegEvent.TheVariants as events
use Rattle.bd_base.specs.declared.id.DevId.{DevId}
use Rattle.bd_base.specs.declared.id.HandleId.{HandleId}
use Rattle.bd_base.specs.declared.id.ReqId.{ReqId}
use Rattle.bd_base.specs.declared.request.Errno.{Errno}
use Rattle.bd_base.specs.declared.request.Op.{Op}
use Rattle.bd_base.specs.declared.request.Op.TheVariants.{Write, Reset, Abort}
use Rattle.bd_base.specs.declared.thread_set.ThreadSet.{ThreadSet}
use Rattle.bd_trace.specs.Fields.{word_field, number_field, blocks_field, request_field, device_field, device_field_if, handle_field, handle_field_if, thread_fields, owned_fields}
use Rattle.bd_trace.specs.Words.{flag_word, mode_word, drop_word, decision_word}

unfoldable pub errno_field : Errno → List ℕ
errno_field errno = number_field (codes "errno") (number_of errno)

-- the drain time of a reset (microseconds), if it has one
unfoldable pub drain_field : ℕ → List ℕ
drain_field time = if time == 0 then [] else number_field (codes "drain") time

-- what a type of request carries: a write its seed, and whether its first byte is complemented; a reset its drain time; an abort the
-- number that it names
unfoldable pub carried_fields : Op → List ℕ
carried_fields (Write fill) = number_field (codes "seed") fill.seed ++ word_field (codes "flip") (flag_word fill.flip)
carried_fields (Reset time) = drain_field time
carried_fields (Abort seq) = number_field (codes "names") seq
carried_fields _ = []

-- a type of request with what it carries
unfoldable pub type_fields : Op → List ℕ
type_fields op = word_field (codes "type") (submit_word op) ++ carried_fields op

unfoldable pub claim_fields : ClaimKind → List ℕ
claim_fields Exclusive = word_field (codes "claim") (codes "exclusive")
claim_fields WriteOne = word_field (codes "claim") (codes "one")
claim_fields WriteNone = word_field (codes "claim") (codes "none")
claim_fields (Shared key) = word_field (codes "claim") (codes "shared") ++ number_field (codes "key") key

unfoldable pub event_field : List ℕ → List ℕ
event_field word = word_field (codes "event") word

-- an event about a device, a handle or a name
unfoldable pub device_event : List ℕ → DevId → List ℕ
device_event word dev = event_field word ++ device_field (codes "device") dev

unfoldable pub handle_event : List ℕ → HandleId → List ℕ
handle_event word handle = event_field word ++ handle_field (codes "handle") handle

unfoldable pub named_event : List ℕ → List ℕ → List ℕ
named_event word name = event_field word ++ word_field (codes "name") name

-- the beginning of a resize of the device of a name, to this number of blocks
unfoldable pub resize_event : List ℕ → ℕ → List ℕ
resize_event name blocks = named_event (codes "begin-resize") name ++ blocks_field blocks

unfoldable pub event_fields : RegEvent → List ℕ
event_fields (events.Open name write) = named_event (codes "open") name ++ word_field (codes "mode") (mode_word write)
event_fields (events.Close handle) = handle_event (codes "close") handle
event_fields (events.Claim handle kind) = handle_event (codes "claim") handle ++ claim_fields kind
event_fields (events.GetChannel dev) = device_event (codes "get-channel") dev
event_fields (events.PutChannel dev closing) = device_event (codes "put-channel") dev ++ word_field (codes "closing") (flag_word closing)
event_fields (events.DropChannel dev) = device_event (codes "drop-channel") dev
event_fields (events.BeginRemove name) = named_event (codes "begin-remove") name
event_fields (events.BeginReset dev req) = device_event (codes "begin-reset") dev ++ request_field (codes "request") req
event_fields (events.EndReset dev) = device_event (codes "end-reset") dev
event_fields (events.FinishReset dev) = device_event (codes "finish-reset") dev
event_fields (events.TakeInjection dev req op) = device_event (codes "take-injection") dev ++ request_field (codes "request") req ++ type_fields op
event_fields (events.Destructed dev) = device_event (codes "destructed") dev
event_fields (events.BeginResize name blocks) = resize_event name blocks
event_fields (events.EndResize dev) = device_event (codes "end-resize") dev

unfoldable pub answer_field : List ℕ → List ℕ
answer_field word = word_field (codes "answer") word

-- the next reset that waited, with its threads, if there is one
unfoldable pub next_fields : Option (ReqId × ThreadSet) → List ℕ
next_fields None = []
next_fields (Some next) = request_field (codes "next") next.0 ++ thread_fields next.1.0

unfoldable pub answer_fields : Answer → List ℕ
answer_fields (answers.Opened handle dev blocks) =
    answer_field (codes "opened") ++ handle_field (codes "handle") handle ++ device_field (codes "device") dev ++ blocks_field blocks
answer_fields (answers.Closed destruct) = answer_field (codes "closed") ++ device_field_if (codes "destruct") destruct
answer_fields answers.Claimed = answer_field (codes "claimed")
answer_fields (answers.Got fresh frozen) =
    answer_field (codes "got") ++ word_field (codes "fresh") (flag_word fresh) ++ flat_map (device_field (codes "frozen")) frozen
answer_fields (answers.PutDown left) = answer_field (codes "put-down") ++ number_field (codes "left") left
answer_fields (answers.Dropped what zero destruct) =
    answer_field (codes "dropped") ++ word_field (codes "channel") (drop_word what) ++ device_field_if (codes "zero") zero ++
    device_field_if (codes "destruct") destruct
answer_fields (answers.Removing dev threads handles destruct) =
    answer_field (codes "removing") ++ device_field (codes "device") dev ++ thread_fields threads.0 ++ flat_map owned_fields handles ++
    device_field_if (codes "destruct") destruct
answer_fields (answers.ResetStarted threads) = answer_field (codes "reset-started") ++ thread_fields threads.0
answer_fields answers.ResetQueued = answer_field (codes "reset-queued")
answer_fields (answers.ResetEnded threads) = answer_field (codes "reset-ended") ++ thread_fields threads.0
answer_fields (answers.ResetFinished next) = answer_field (codes "reset-finished") ++ next_fields next
answer_fields (answers.Injected decision) = answer_field (codes "injected") ++ word_field (codes "decision") (decision_word decision)
answer_fields (answers.Freed close) = answer_field (codes "freed") ++ handle_field_if (codes "close") close
answer_fields (answers.Resizing dev home) =
    answer_field (codes "resizing") ++ device_field (codes "device") dev ++ number_field (codes "home") home.0
answer_fields (answers.Resized handles blocks destruct) =
    answer_field (codes "resized") ++ blocks_field blocks ++ flat_map owned_fields handles ++ device_field_if (codes "destruct") destruct
answer_fields (answers.Refused errno) = answer_field (codes "refused") ++ errno_field errno
