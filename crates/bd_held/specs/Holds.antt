-- What contracts see of the requests that are held on a thread.
use Rattle.std.specs.Prelude.{ℕ, Bool, nat_le, List, [], ◌∷◌, Option, Some, None}
use Rattle.std.specs.List.{list_any}
use Rattle.std.specs.declared.cmp.Ordering.{Ordering}
use Rattle.std.specs.BTreeMap.{is_at}
use Rattle.std.specs.BTreeSet.{insert_key}
use Rattle.std.specs.Ordering.{nat_cmp, ordering_then}
use Rattle.std.specs.Set.{remove_key}
use Rattle.bd_base.specs.declared.id.ReqId.{ReqId}
use Rattle.bd_held.specs.declared.held.HeldRequest.{HeldRequest}
use Rattle.bd_machine.specs.declared.state.Hold.{Hold}
use Rattle.bd_machine.specs.declared.state.Hold.TheVariants as holds

-- the moment until which a request is held, its thread, and its number there
abbrev pub HoldKey : Type 0
HoldKey = ℕ × ℕ × ℕ

-- by moment, and of one moment by thread and number
abbrev pub key_cmp : HoldKey → HoldKey → Ordering
key_cmp a b = ordering_then (ordering_then (nat_cmp a.0 b.0) (nat_cmp a.1 b.1)) (nat_cmp a.2 b.2)

abbrev pub key_of : ReqId → ℕ → HoldKey
key_of req until = (until, req.thread, req.seq)

-- the request is held until this moment, and stands at its place in the order
abbrev pub with_hold : List HoldKey → ReqId → ℕ → List HoldKey
with_hold keys req until = insert_key key_cmp keys (key_of req until)

-- the request, whose hold was this one, is held no longer
abbrev pub without_hold : List HoldKey → ReqId → Hold → List HoldKey
without_hold keys req (holds.Until moment marked) = remove_key (is_at (key_cmp (key_of req moment))) keys
without_hold keys req _ = keys

abbrev pub held_at : HoldKey → HeldRequest
held_at key = record { req = record { thread = key.1; seq = key.2 }; until = key.0 }

-- the request whose hold ends first
abbrev pub first_hold : List HoldKey → Option HeldRequest
first_hold [] = None
first_hold (key ∷ keys) = Some (held_at key)

-- the request is held until this moment
abbrev pub has_hold : List HoldKey → ReqId → ℕ → Bool
has_hold keys req until = list_any (is_at (key_cmp (key_of req until))) keys

-- a hold has ended at this moment
abbrev pub has_due : ℕ → List HoldKey → Bool
has_due now keys = list_any (λ (key : HoldKey). nat_le key.0 now) keys
