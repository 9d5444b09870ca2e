-- The fields of what a message brings.
use Rattle.std.specs.Prelude.{List, ◌++◌, codes, ℕ}
use Rattle.bd_base.specs.declared.act.Token.{Token}
use Rattle.bd_base.specs.declared.act.Token.TheVariants.{Request, Piece, Walk, Go, Gone, Channel, Device, Mark, Grow, Sized}
use Rattle.bd_base.specs.declared.id.WalkId.{WalkId}
use Rattle.bd_trace.specs.Fields.{word_field, number_field, blocks_field, own_field, request_field, device_field, handle_field, thread_fields}

unfoldable pub walk_field : WalkId → List ℕ
walk_field walk = own_field (codes "walk") walk.thread walk.seq

-- what kind of message it is
unfoldable pub message_field : List ℕ → List ℕ
message_field word = word_field (codes "message") word

unfoldable pub token_fields : Token → List ℕ
token_fields (Request req) = message_field (codes "request") ++ request_field (codes "request") req
token_fields (Piece req k) = message_field (codes "piece") ++ request_field (codes "request") req ++ number_field (codes "piece") k
token_fields (Walk walk) = message_field (codes "walk") ++ walk_field walk
token_fields (Go req threads) = message_field (codes "go") ++ request_field (codes "request") req ++ thread_fields threads.0
token_fields (Gone handle) = message_field (codes "gone") ++ handle_field (codes "handle") handle
token_fields (Channel dev) = message_field (codes "channel") ++ device_field (codes "device") dev
token_fields (Device dev) = message_field (codes "device") ++ device_field (codes "device") dev
token_fields (Mark mark) = message_field (codes "mark") ++ word_field (codes "mark") mark
token_fields (Grow dev blocks) = message_field (codes "grow") ++ device_field (codes "device") dev ++ blocks_field blocks
token_fields (Sized handle blocks) = message_field (codes "sized") ++ handle_field (codes "handle") handle ++ blocks_field blocks
