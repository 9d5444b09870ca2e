-- What a line says of an act: its word, then its fields.
use Rattle.std.specs.Prelude.{ℕ, List, [], ◌++◌, codes, Option, None, Some}
use Rattle.bd_base.specs.Word.{status_word}
use Rattle.bd_base.specs.declared.act.Act.{Act}
use Rattle.bd_base.specs.declared.act.Act.TheVariants as acts
use Rattle.bd_base.specs.declared.act.Outcome.{Outcome}
use Rattle.bd_base.specs.declared.act.Outcome.TheVariants as outcomes
use Rattle.bd_base.specs.declared.id.DevId.{DevId}
use Rattle.bd_base.specs.declared.id.ReqId.{ReqId}
use Rattle.bd_base.specs.declared.id.WalkId.{WalkId}
use Rattle.bd_base.specs.declared.request.AbortCause.{AbortCause}
use Rattle.bd_base.specs.declared.request.AbortCause.TheVariants.{Frozen, Removed, Named}
use Rattle.bd_base.specs.declared.request.Shown.{Shown}
use Rattle.bd_trace.specs.Fields.{word_field, number_field, blocks_field, request_field, device_field, handle_field, handle_field_if, hex_field, digest_field_if}
use Rattle.bd_trace.specs.Messages.{walk_field, token_fields}
use Rattle.bd_trace.specs.Registry.{errno_field, type_fields, event_fields, answer_fields}
use Rattle.bd_trace.specs.Words.{end_word, decision_word, walk_word}

-- the request that an act is about
unfoldable pub of_request : ReqId → List ℕ
of_request req = request_field (codes "request") req

-- the device that an act is about
unfoldable pub of_device : DevId → List ℕ
of_device dev = device_field (codes "device") dev

-- the request's piece that an act is about
unfoldable pub of_piece : ReqId → ℕ → DevId → List ℕ
of_piece req k dev = of_request req ++ number_field (codes "piece") k ++ of_device dev

-- a range in blocks
unfoldable pub range_fields : ℕ → ℕ → List ℕ
range_fields lba count = number_field (codes "lba") lba ++ number_field (codes "count") count

unfoldable pub cause_fields : AbortCause → List ℕ
cause_fields (Frozen dev) = word_field (codes "cause") (codes "frozen") ++ of_device dev
cause_fields (Removed dev) = word_field (codes "cause") (codes "removed") ++ of_device dev
cause_fields (Named by) = word_field (codes "cause") (codes "named") ++ request_field (codes "by") by

-- what a read showed, if it did
unfoldable pub shown_fields : Option Shown → List ℕ
shown_fields None = []
shown_fields (Some shown) = hex_field (codes "first") shown.first ++ hex_field (codes "sha256") shown.digest

unfoldable pub outcome_fields : Outcome → List ℕ
outcome_fields outcomes.Done = word_field (codes "outcome") (codes "ok")
outcome_fields (outcomes.Errno errno) = word_field (codes "outcome") (codes "refused") ++ errno_field errno
outcome_fields (outcomes.BusyOpen requests) = word_field (codes "outcome") (codes "busy") ++ number_field (codes "open") requests
outcome_fields (outcomes.Accepted req) = word_field (codes "outcome") (codes "accepted") ++ of_request req

-- an act about a request, a device, a piece or a walk: its word and what it is about
unfoldable pub request_act : List ℕ → ReqId → List ℕ
request_act word req = word ++ of_request req

unfoldable pub device_act : List ℕ → DevId → List ℕ
device_act word dev = word ++ of_device dev

unfoldable pub piece_act : List ℕ → ReqId → ℕ → DevId → List ℕ
piece_act word req k dev = word ++ of_piece req k dev

unfoldable pub walk_act : List ℕ → WalkId → List ℕ
walk_act word walk = word ++ walk_field walk

-- a message: its word, the other thread under a key, its number and what it brings
unfoldable pub message_act : List ℕ → List ℕ → ℕ → ℕ → List ℕ
message_act word key other number = word ++ number_field key other ++ number_field (codes "number") number

unfoldable pub act_words : Act → List ℕ
act_words (acts.Put to number what) = message_act (codes "put") (codes "to") to number ++ token_fields what
act_words (acts.Took source number what) = message_act (codes "took") (codes "from") source number ++ token_fields what
act_words (acts.Reg event answer) = codes "registry" ++ event_fields event ++ answer_fields answer
act_words (acts.Accept dev lba handle req op count) =
    request_act (codes "accept") req ++ handle_field (codes "handle") handle ++ of_device dev ++ type_fields op ++ range_fields lba count
act_words (acts.Refuse errno lba handle op count) =
    codes "refuse" ++ errno_field errno ++ handle_field_if (codes "handle") handle ++ type_fields op ++ range_fields lba count
act_words (acts.Inject req dev decision) = request_act (codes "inject") req ++ of_device dev ++ word_field (codes "decision") (decision_word decision)
act_words (acts.Pend req) = request_act (codes "pend") req
act_words (acts.Let req dev now) = request_act (codes "let") req ++ of_device dev ++ number_field (codes "now") now
act_words (acts.Cut req pieces) = request_act (codes "cut") req ++ number_field (codes "pieces") pieces
act_words (acts.Apply req k dev end) = piece_act (codes "apply") req k dev ++ word_field (codes "end") (end_word end)
act_words (acts.NoMem req k dev) = piece_act (codes "nomem") req k dev
act_words (acts.Hold req until) = request_act (codes "hold") req ++ number_field (codes "until") until
act_words (acts.Release req now) = request_act (codes "release") req ++ number_field (codes "now") now
act_words (acts.Abort req cause) = request_act (codes "abort") req ++ cause_fields cause
act_words (acts.Complete req status shown) = request_act (codes "complete") req ++ word_field (codes "status") (status_word status) ++ shown_fields shown
act_words (acts.Visit walk dev kind) = walk_act (codes "visit") walk ++ of_device dev ++ word_field (codes "kind") (walk_word kind)
act_words (acts.Tick dev now slices) = device_act (codes "tick") dev ++ number_field (codes "now") now ++ number_field (codes "slices") slices
act_words (acts.Destruct dev digest) = device_act (codes "destruct") dev ++ digest_field_if digest
act_words (acts.Script line outcome) = codes "script" ++ number_field (codes "line") line ++ outcome_fields outcome
act_words acts.Shutdown = codes "shutdown"
act_words (acts.Grow dev blocks) = device_act (codes "grow") dev ++ blocks_field blocks
act_words (acts.Grace walk until) = walk_act (codes "grace") walk ++ number_field (codes "until") until
act_words (acts.Due walk now) = walk_act (codes "due") walk ++ number_field (codes "now") now
