-- One step: which entry is allowed, and the state after it.
use Rattle.std.specs.Prelude.{◌≡◌, ℕ, Bool, true, false, cond, ◌&&◌, ◌||◌, ◌==◌, nat_lt, List, [], ◌∷◌, ◌++◌, length, set, Option, Some, None}
use Rattle.bd_base.specs.declared.act.Act.{Act}
use Rattle.bd_base.specs.declared.act.Act.TheVariants as acts
use Rattle.bd_base.specs.declared.act.Entry.{Entry}
use Rattle.bd_base.specs.declared.setup.Setup.{Setup}
use Rattle.bd_machine.specs.declared.guard.TheConstants.{UNBUILT, IN_ORDER, AT_REST, SCRIPTS_BLOCKED}
use Rattle.bd_machine.specs.declared.state.Id.{Id}
use Rattle.bd_machine.specs.declared.state.Place.{Place}
use Rattle.bd_machine.specs.declared.state.Place.TheVariants.{At, Ring, Nowhere}
use Rattle.bd_machine.specs.declared.state.State.{State}
use Rattle.bd_machine.specs.declared.state.Tracked.{Tracked}
use Rattle.bd_machine.specs.Guards.{guards, change, is_built}
use Rattle.bd_machine.specs.Changes.{registry_after}
use Rattle.bd_machine.specs.Rest.{is_at_rest, are_scripts_blocked}
use Rattle.bd_machine.specs.Same.{same_id}
use Rattle.bd_machine.specs.Table.{write}
use Rattle.bd_machine.specs.View.{Move, Going, Here, To, Closed, Change, view, came_for, asked}

-- stamp and thread are above those of the entry before
abbrev pub is_later : State → Entry → Bool
is_later s e = nat_lt s.stamp e.stamp || ((s.stamp == e.stamp) && nat_lt s.thread e.thread)

abbrev pub is_in_order : State → Entry → Bool
is_in_order s e = nat_lt e.thread (length s.parts) && nat_lt 0 e.stamp && is_later s e

abbrev pub is_shutdown : Act → Bool
is_shutdown acts.Shutdown = true
is_shutdown _ = false

-- the guards of a Shutdown
abbrev pub guards_shutdown : Setup → State → ℕ → Act → List (ℕ × Bool)
guards_shutdown setup s t acts.Shutdown = (AT_REST, is_at_rest setup s t) ∷ (SCRIPTS_BLOCKED, are_scripts_blocked setup s) ∷ []
guards_shutdown setup s t _ = []

-- the number of the first guard that fails
abbrev pub first_failing : List (ℕ × Bool) → Option ℕ
first_failing [] = None
first_failing (g ∷ gs) = cond g.1 (first_failing gs) (Some g.0)

-- the guards of an act, in the view that the state gives
abbrev pub guards_in : Setup → State → ℕ → Act → List (ℕ × Bool)
guards_in setup s t act = guards setup t (view s t) act (came_for setup s t act)

-- the first guard that an entry fails, whether its act is built or not
abbrev pub rule_broken : Setup → State → Entry → Option ℕ
rule_broken setup s e = first_failing ((IN_ORDER, is_in_order s e) ∷ guards_shutdown setup s e.thread e.act ++ guards_in setup s e.thread e.act)

-- why an entry isn't allowed: the number of the first guard that fails
abbrev pub refusal : Setup → State → Entry → Option ℕ
refusal setup s e = first_failing ((UNBUILT, is_built e.act) ∷ (IN_ORDER, is_in_order s e) ∷ guards_shutdown setup s e.thread e.act ++ guards_in setup s e.thread e.act)

-- the entry is allowed: each guard holds
abbrev pub IsAllowed : Setup → State → Entry → Type 0
IsAllowed setup s e = refusal setup s e ≡ None

-- where a token is after it went
abbrev pub place_after : ℕ → Going → Place
place_after t Here = At t
place_after t (To receiver number) = Ring t receiver number
place_after t Closed = Nowhere

-- the tokens after these moves of a thread
abbrev pub moved : ℕ → List Move → List (Id × Tracked) → List (Id × Tracked)
moved t [] tokens = tokens
moved t (m ∷ ms) tokens = moved t ms (write same_id tokens m.id (record { place = place_after t m.going; kept = m.kept }))

-- the state with an entry's change: its thread's part, the tokens that it moved, and what it asked of the registry
abbrev pub carried_out : Setup → State → Entry → Change → State
carried_out setup s e c = record {
  stamp = e.stamp;
  thread = e.thread;
  shut = s.shut || is_shutdown e.act;
  registry = registry_after setup s.registry e.thread (asked e.act);
  parts = set s.parts e.thread c.part;
  tokens = moved e.thread c.moves s.tokens;
}

-- what an act changes, in the view that the state gives
abbrev pub change_in : Setup → State → ℕ → Act → Change
change_in setup s t act = change setup t (view s t) act (came_for setup s t act)

-- the state after an entry
unfoldable pub after : Setup → State → Entry → State
after setup s e = carried_out setup s e (change_in setup s e.thread e.act)

-- an entry leads from one state to another
abbrev pub IsStep : Setup → State → Entry → State → Type 0
IsStep setup s e s' = IsAllowed setup s e × (s' ≡ after setup s e)
