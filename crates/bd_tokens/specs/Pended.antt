-- Requests that are kept without an answer.
use Rattle.std.specs.Prelude.{ℕ, Bool, true, false, ◌&&◌, ◌==◌, not, List, Option, Some, None, is_none}
use Rattle.std.specs.List.{list_all}
use Rattle.bd_base.specs.declared.id.ReqId.{ReqId}
use Rattle.bd_base.specs.declared.setup.Setup.{Setup}
use Rattle.bd_machine.specs.declared.state.Id.{Id}
use Rattle.bd_machine.specs.declared.state.Id.TheVariants.{Request}
use Rattle.bd_machine.specs.declared.state.Kept.{Kept}
use Rattle.bd_machine.specs.declared.state.Kept.TheVariants as keeps
use Rattle.bd_machine.specs.declared.state.OpenRequest.{OpenRequest}
use Rattle.bd_machine.specs.declared.state.Part.{Part}
use Rattle.bd_machine.specs.Kept.{as_request}
use Rattle.bd_machine.specs.Marks.{has_any_mark}
use Rattle.bd_tokens.specs.declared.key.Key.{Key}

-- the request is kept without an answer, and nothing stops it: it wasn't aborted, and no device below it carries a mark
abbrev pub is_pended : Setup → Part → OpenRequest → Bool
is_pended setup part r = r.pended && is_none r.aborted && not (has_any_mark setup part r.dev)

abbrev pub is_some_pended : Setup → Part → Option OpenRequest → Bool
is_some_pended setup part None = false
is_some_pended setup part (Some r) = is_pended setup part r

-- the token is a request of this thread, and is pended: no piece, walk or notice is
abbrev pub is_own_pended : Setup → Part → ℕ → Id → Kept → Bool
is_own_pended setup part me (Request req) (keeps.Request r) = (req.thread == me) && is_pended setup part r
is_own_pended setup part me _ _ = false

-- nothing is at the place, or a token that is
abbrev pub is_row_pended : Setup → Part → ℕ → Option (Id × Kept) → Bool
is_row_pended setup part me None = true
is_row_pended setup part me (Some item) = is_own_pended setup part me item.0 item.1

-- a token of the map is
abbrev pub is_entry_pended : Setup → Part → ℕ → Key × Kept → Bool
is_entry_pended setup part me entry = is_own_pended setup part me entry.0.id entry.1

-- each of these tokens is
abbrev pub are_own_pended : Setup → Part → ℕ → List (Id × Kept) → Bool
are_own_pended setup part me items = list_all (λ item. is_own_pended setup part me item.0 item.1) items

-- what is here of the request is pended
abbrev pub is_pended_at : Setup → Part → (Id → Option Kept) → ReqId → Bool
is_pended_at setup part here req = is_some_pended setup part (as_request (here (Request req)))
