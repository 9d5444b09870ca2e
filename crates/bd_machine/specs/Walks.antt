-- Walks: how they begin and end, and Visit.
use Rattle.std.specs.Prelude.{ℕ, ◌+◌, Bool, true, false, cond, not, ◌&&◌, ◌==◌, List, [], ◌∷◌, ◌++◌, map, find, Option, Some, None, is_some}
use Rattle.std.specs.List.{list_any}
use Rattle.bd_base.specs.declared.id.DevId.{DevId}
use Rattle.bd_base.specs.declared.id.ReqId.{ReqId}
use Rattle.bd_base.specs.declared.id.WalkId.{WalkId}
use Rattle.bd_base.specs.declared.request.Op.{Op}
use Rattle.bd_base.specs.declared.request.Op.TheVariants as ops
use Rattle.bd_base.specs.declared.request.WalkKind.{WalkKind}
use Rattle.bd_base.specs.declared.request.WalkKind.TheVariants.{Freeze, Drain, Thaw, Removal}
use Rattle.bd_base.specs.declared.setup.Setup.{Setup}
use Rattle.bd_base.specs.declared.thread_set.ThreadSet.{ThreadSet}
use Rattle.bd_machine.specs.declared.guard.TheConstants.{NEXT_VISIT, DRAINED}
use Rattle.bd_machine.specs.declared.state.FreezeMark.TheVariants.{Not}
use Rattle.bd_machine.specs.declared.state.Id.TheVariants as ids
use Rattle.bd_machine.specs.declared.state.Kept.TheVariants as keeps
use Rattle.bd_machine.specs.declared.state.Open.{Open}
use Rattle.bd_machine.specs.declared.state.OpenWalk.{OpenWalk}
use Rattle.bd_machine.specs.declared.state.Owed.TheVariants as owes
use Rattle.bd_machine.specs.declared.state.Part.{Part}
use Rattle.bd_machine.specs.declared.state.Resetting.{Resetting}
use Rattle.bd_machine.specs.declared.state.Stage.{Stage}
use Rattle.bd_machine.specs.declared.state.Stage.TheVariants as stages
use Rattle.bd_machine.specs.BlockMap.{below, home}
use Rattle.bd_machine.specs.Kept.{walk_here}
use Rattle.bd_machine.specs.Limits.{is_limited}
use Rattle.bd_machine.specs.Marks.{remarked, freeze_set, removal_set, with_frozen}
use Rattle.bd_machine.specs.Same.{same_dev, same_request, same_walk_kind, is_the}
use Rattle.bd_machine.specs.Threads.{is_nobody, first_of, without}
use Rattle.bd_machine.specs.View.{View, Move, Here, Closed, Change}

-- ---- a thread's resets

abbrev pub is_reset_of : ReqId → Resetting → Bool
is_reset_of req r = same_request r.req req

abbrev pub reset_of : Part → ReqId → Option Resetting
reset_of part req = find (is_reset_of req) part.resets

abbrev pub threads_if_any : Option Resetting → ThreadSet
threads_if_any None = record { 0 = 0 }
threads_if_any (Some r) = r.threads

abbrev pub at_stage : ReqId → Stage → Resetting → Resetting
at_stage req stage r = cond (is_reset_of req r) (record r { stage = stage }) r

-- the thread's reset is at this stage
abbrev pub staged : Option ReqId → Stage → Part → Part
staged None stage part = part
staged (Some req) stage part = record part { resets = map (at_stage req stage) part.resets }

-- ---- beginning

abbrev pub numbered : ℕ → Part → Part
numbered n part = record part { next_walk = part.next_walk + n }

abbrev pub begun : ℕ → Part → WalkKind → DevId → ThreadSet → Option ReqId → ℕ → Move
begun t part kind dev threads req time = record {
  id = ids.Walk (record { thread = t; seq = part.next_walk });
  kept = keeps.Walk (record { dev = dev; kind = kind; left = threads; request = req; taken = false; time = time });
  going = Here;
}

-- a walk over nobody ends at once; after a freeze walk so does the drain walk
abbrev pub over_nobody : WalkKind → Option ReqId → Part → Part
over_nobody Freeze req part = staged req stages.Drained (numbered 2 part)
over_nobody Drain req part = staged req stages.Drained (numbered 1 part)
over_nobody Thaw req part = staged req stages.Thawed (numbered 1 part)
over_nobody Removal req part = numbered 1 part

-- the part and the tokens, with a walk that begins here; a freeze walk brings the drain time of its reset
abbrev pub begin_walk_with : ℕ → WalkKind → DevId → ThreadSet → Option ReqId → ℕ → Change → Change
begin_walk_with t kind dev threads req time c = cond (is_nobody threads)
    (record { part = over_nobody kind req c.part; moves = c.moves })
    (record { part = numbered 1 c.part; moves = c.moves ++ begun t c.part kind dev threads req time ∷ [] })

abbrev pub begin_walk : ℕ → WalkKind → DevId → ThreadSet → Option ReqId → Change → Change
begin_walk t kind dev threads req c = begin_walk_with t kind dev threads req 0 c

-- ---- end

abbrev pub drain_threads : Part → Option ReqId → ThreadSet
drain_threads part None = record { 0 = 0 }
drain_threads part (Some req) = threads_if_any (reset_of part req)

-- what the end of a walk brings: the drain walk goes over the threads that were frozen
abbrev pub after_walk : ℕ → OpenWalk → WalkKind → Change → Change
after_walk t w Freeze c = begin_walk t Drain w.dev (drain_threads c.part w.request) w.request (record { part = staged w.request stages.Draining c.part; moves = c.moves })
after_walk t w Drain c = record { part = staged w.request stages.Drained c.part; moves = c.moves }
after_walk t w Thaw c = record { part = staged w.request stages.Thawed c.part; moves = c.moves }
after_walk t w Removal c = c

-- no thread is left, and this is the one that began it
abbrev pub is_at_end : ℕ → WalkId → OpenWalk → Bool
is_at_end t walk w = is_nobody w.left && (walk.thread == t)

-- a walk is here: it stays, or ends
abbrev pub walked : ℕ → WalkId → OpenWalk → Part → Change
walked t walk w part = cond (is_at_end t walk w)
    (after_walk t w w.kind (record { part = part; moves = record { id = ids.Walk walk; kept = keeps.Walk w; going = Closed } ∷ [] }))
    (record { part = part; moves = record { id = ids.Walk walk; kept = keeps.Walk w; going = Here } ∷ [] })

-- ---- Visit

-- it came here, this is the least thread left, and device and kind are the walk's
abbrev pub is_next_visit : ℕ → DevId → WalkKind → Option OpenWalk → Bool
is_next_visit t dev kind None = false
is_next_visit t dev kind (Some w) = w.taken && is_the ◌==◌ t (first_of w.left) && same_dev w.dev dev && same_walk_kind w.kind kind

abbrev pub is_reset : Op → Bool
is_reset (ops.Reset time) = true
is_reset _ = false

abbrev pub is_kept_waiting : Setup → DevId → Open → Bool
is_kept_waiting setup dev o = not (is_reset o.op) && list_any (same_dev dev) (below setup o.dev)

-- no open request of the thread but resets has the device below
abbrev pub is_drained : Setup → Part → DevId → WalkKind → Bool
is_drained setup part dev Drain = not (list_any (is_kept_waiting setup dev) part.requests)
is_drained setup part dev _ = true

abbrev pub guards_visit : Setup → ℕ → View → WalkId → DevId → WalkKind → List (ℕ × Bool)
guards_visit setup t v walk dev kind =
    (NEXT_VISIT, is_next_visit t dev kind (walk_here v walk)) ∷
    (DRAINED, is_drained setup v.part dev kind) ∷ []

-- the home of a limited device still has to put its channel
abbrev pub put_owed : Setup → ℕ → DevId → Part → Part
put_owed setup t dev part = cond (is_limited setup dev && (home setup dev == t)) (record part { owed = part.owed ++ owes.Put dev ∷ [] }) part

-- the drain time that a walk brings
abbrev pub time_of_walk : Option OpenWalk → ℕ
time_of_walk None = 0
time_of_walk (Some w) = w.time

-- freeze marks go with a channel
abbrev pub marked_by : Setup → ℕ → View → WalkId → DevId → WalkKind → Part
marked_by setup t v walk dev Freeze = cond (is_some (v.channels dev)) (remarked dev (freeze_set walk (time_of_walk (walk_here v walk))) v.part) v.part
marked_by setup t v walk dev Drain = v.part
marked_by setup t v walk dev Thaw = remarked dev (with_frozen Not) v.part
marked_by setup t v walk dev Removal = put_owed setup t dev (remarked dev removal_set v.part)

abbrev pub visited : ℕ → OpenWalk → OpenWalk
visited t w = record w { left = without w.left t }

abbrev pub walked_if_any : ℕ → WalkId → Part → Option OpenWalk → Change
walked_if_any t walk part None = record { part = part; moves = [] }
walked_if_any t walk part (Some w) = walked t walk (visited t w) part

abbrev pub change_visit : Setup → ℕ → View → WalkId → DevId → WalkKind → Change
change_visit setup t v walk dev kind = walked_if_any t walk (marked_by setup t v walk dev kind) (walk_here v walk)
