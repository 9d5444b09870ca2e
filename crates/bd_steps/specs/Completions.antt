-- When a request completes, how, and what is here after it.
use Rattle.std.specs.Prelude.{◌≡◌, ℕ, true, cond, ◌&&◌, nat_le, List, [], ◌∷◌, length, take, Option, Some, None, is_some, option_map, unwrap_or}
use Rattle.std.specs.List.{range_with_len}
use Rattle.sha2.specs.Sha256.{sha256}
use Rattle.bd_base.specs.declared.id.ReqId.{ReqId}
use Rattle.bd_base.specs.declared.request.Shown.{Shown}
use Rattle.bd_base.specs.declared.request.Status.{Status}
use Rattle.bd_base.specs.declared.setup.Setup.{Setup}
use Rattle.bd_machine.specs.declared.state.Id.{Id}
use Rattle.bd_machine.specs.declared.state.Id.TheVariants as ids
use Rattle.bd_machine.specs.declared.state.Kept.{Kept}
use Rattle.bd_machine.specs.declared.state.OpenRequest.{OpenRequest}
use Rattle.bd_machine.specs.Completion.{data_of, is_success, pieces_of, turned_if}
use Rattle.bd_machine.specs.Effect.{is_read}
use Rattle.bd_machine.specs.Kept.{request_here}
use Rattle.bd_machine.specs.Same.{same_id}
use Rattle.bd_machine.specs.View.{View}
use Rattle.bd_flight.specs.Due.{end_due}
use Rattle.bd_steps.specs.declared.completion.Ending.{Ending}
use Rattle.bd_steps.specs.declared.completion.Showing.{Showing}
use Rattle.bd_steps.specs.declared.completion.Showing.TheVariants.{Nothing, Data, Untold}

-- ---- how it completes

-- the first 8 bytes and the digest, where there are as many
abbrev pub shown_by : List ℕ → Option Shown
shown_by bytes = cond (nat_le 8 (length bytes)) (Some (record { first = take 8 bytes; digest = sha256 bytes })) None

-- what is shown of data; where it is told, only with 8 bytes
abbrev pub showing_of : Option (List ℕ) → Option Showing
showing_of None = Some Untold
showing_of (Some bytes) = option_map Data (shown_by bytes)

abbrev pub read_as : ℕ → Status → Option Showing → Option Ending
read_as n status None = None
read_as n status (Some showing) = Some (record { pieces = n; status = status; showing = showing })

-- the data that a read shows
abbrev pub data_read : View → ReqId → OpenRequest → Option (List ℕ)
data_read v req r = turned_if r.injected.turned (data_of (pieces_of v req r))

-- a read with success shows its data; all else shows nothing
abbrev pub ends_as : View → ReqId → OpenRequest → ℕ → Option Status → Option Ending
ends_as v req r n None = None
ends_as v req r n (Some status) =
    cond (is_read r.op && is_success status) (read_as n status (showing_of (data_read v req r))) (Some (record { pieces = n; status = status; showing = Nothing }))

abbrev pub ending_in : Setup → ℕ → View → ReqId → Option OpenRequest → Option Ending
ending_in setup me v req None = None
ending_in setup me v req (Some r) = ends_as v req r (unwrap_or r.pieces 0) (end_due setup me v req r)

-- how a request completes that is here, where the machine's rules let it complete with a status; a read with success only where it has 8 bytes to show, or data that isn't told
abbrev pub ending_of : Setup → ℕ → View → ReqId → Option Ending
ending_of setup me v req = ending_in setup me v req (request_here v req)

-- what the entry shows: nothing, just that data, or something
abbrev pub Shows : Showing → Option Shown → Type 0
Shows Nothing shown = shown ≡ None
Shows (Data due) shown = shown ≡ Some due
Shows Untold shown = is_some shown ≡ true

-- ---- what it leaves

-- these pieces of a request are no longer here
abbrev pub gone : ReqId → List ℕ → (Id → Option Kept) → Id → Option Kept
gone req [] here = here
gone req (k ∷ ks) here = gone req ks (λ j. cond (same_id (ids.Piece req k) j) None (here j))

-- nor is the request
abbrev pub ended : ReqId → ℕ → (Id → Option Kept) → Id → Option Kept
ended req n here = gone req (range_with_len 0 n) (λ j. cond (same_id (ids.Request req) j) None (here j))
