-- From a node's disks at their opening to those at the end, by its history.
use Rattle.std.proofs.Common.{◌≡◌, ℕ, ◌<◌, Bool, true, false, cond, ◌&&◌, List, [], ◌∷◌, find, length, map, Option, Some, IfSome, refl, sym, ◌∙◌, ap, subst}
use Rattle.std.specs.List.{list_all, slice_get}
use Rattle.std.proofs.lemmas.Bool.{and_parts}
use Rattle.std.proofs.lemmas.List.{length-map}
use Rattle.std.proofs.lemmas.Nat.{mod_below}
use Rattle.std.proofs.lemmas.Option.{get_or_from_slice_get, slice_get_within}
use Rattle.bd_base.specs.declared.act.Entry.{Entry}
use Rattle.bd_base.specs.declared.id.DevId.{DevId}
use Rattle.bd_base.specs.declared.setup.Setup.{Setup}
use Rattle.bd_law_held.specs.Held.{held_from, EndInTime}
use Rattle.bd_law_threads.specs.Course.{Phase}
use Rattle.bd_log.specs.Merge.{IsMerge, IsOrdered}
use Rattle.bd_machine.specs.declared.state.Base.{Base}
use Rattle.bd_machine.specs.declared.state.Content.{Content}
use Rattle.bd_machine.specs.BlockMap.{base_of, home, is_aio}
use Rattle.bd_machine.specs.Content.{Told}
use Rattle.bd_machine.specs.Homes.{base_here, is_base}
use Rattle.bd_machine.specs.Run.{state_after, IsCompleteRun}
use Rattle.bd_machine.specs.Same.{same_dev}
use Rattle.bd_machine.specs.Start.{start}
use Rattle.bd_machine.specs.View.{part_of}
use Rattle.bd_machine.proofs.Tables.{dev_exact}
use Rattle.bd_outside.specs.Disk.{DiskState}
use Rattle.bd_registry.specs.State.{HasRowsOf, IsReplayFromStart, Registered}
use Rattle.bd_disks.specs.Contents.{contents_of}
use Rattle.bd_disks.specs.Done.{AreDoneBy}
use Rattle.bd_disks.proofs.Done.{done_same}
use Rattle.bd_law_disks.specs.Told.{told_base, AreBasesLowest}
use Rattle.bd_thread.specs.Seen.{time_of}
use Rattle.bd_turns.specs.Local.{Local}
use Rattle.bd_wires.specs.declared.wires.Passes.{Passes}
use Rattle.bd_wires.specs.declared.wires.Wires.{Wires}
use Rattle.bd_wires.specs.Wires as wires
use Rattle.bd_node.specs.declared.node.Node.{Node}
use Rattle.bd_node.specs.declared.node.NodeState.TheVariants.{Busy, Done, Idle}
use Rattle.bd_worker.specs.declared.seat.Seat.{Seat}
use Rattle.bd_node.specs.Disks.{disks_at, disks_of, pieces_of, told_of, SaysOfDisks}
use Rattle.bd_node.specs.Whole.{are_all_taken, is_idle, is_over, log_with, logs_of, past_of, seat_has_destructed, seat_is_done, setup_in, state_of, ArePhases, AreSeated, AreShut, IsNodeOf, KeepsDisks}
use Rattle.bd_node.proofs.Resting.{local_of}
use Rattle.bd_node.proofs.Settling.{courses_of, done_bases, done_complete, done_held, done_served, end_is, ends_of, map_at, map_from, passes_of, seat_is, seat_of}

-- ---- turns, one after the other

pub keeps_disks_still : {D : Type 0} (state : D → DiskState) (n : Node D) → KeepsDisks state n n
keeps_disks_still state n = record { shelf = refl; node = λ starts h. h }

pub keeps_disks_then : {D : Type 0} (state : D → DiskState) (a b c : Node D) → KeepsDisks state a b → KeepsDisks state b c → KeepsDisks state a c
keeps_disks_then state a b c f g = record { shelf = g.shelf ∙ f.shelf; node = λ starts h. g.node starts (f.node starts h) }

-- ---- what disks tell

-- a base that is found with content told tells that of its device
found_tells : (setup : Setup) (contents : DevId → Content) (dev : DevId) → is_aio setup dev ≡ true → (bases : List Base)
    → IfSome (find (is_base dev) (map (told_base setup contents) bases)) (λ base. base.content ≡ contents dev)
found_tells setup contents dev aio [] = tt
found_tells setup contents dev aio (b ∷ bs) = go (same_dev b.dev dev) refl (found_tells setup contents dev aio bs)
  where
    go : (c : Bool) → same_dev b.dev dev ≡ c → IfSome (find (is_base dev) (map (told_base setup contents) bs)) (λ base. base.content ≡ contents dev)
        → IfSome (cond c (Some (told_base setup contents b)) (find (is_base dev) (map (told_base setup contents) bs))) (λ base. base.content ≡ contents dev)
    go true e rest =
        let is : b.dev ≡ dev = dev_exact b.dev dev e in
        ap (λ (here : Bool). cond here (contents b.dev) b.content) (ap (is_aio setup) is ∙ aio) ∙ ap contents is
    go false e rest = rest

-- ---- the end

-- what the merge of all that its threads did says of a node that is done: these were the disks of its threads at their opening, and these are its seats now
pub record Settles {D : Type 0} (state : D → DiskState) (setup : Setup) (starts : List (List (DevId × D))) (seats : List (Seat D)) (merged : List Entry) : Type 0 where
  pub complete : IsCompleteRun setup (told_of state setup starts) merged
  pub says : SaysOfDisks state setup merged starts (disks_of seats)
  -- what each thread held in it ends in time from its last turn on
  pub held : (t : ℕ) → t < setup.threads → (s : Seat D) → slice_get seats t ≡ Some s → EndInTime setup (time_of s.worker.thread).moment (held_from setup t (start setup (told_of state setup starts)) merged)

module _ {D : Type 0} (state : D → DiskState) (setup : Setup) (w : Wires) (starts : List (List (DevId × D))) (met : ℕ) (trace : List Entry) (seats : List (Seat D)) (phases : ℕ → Phase) (a : AreSeated state setup w starts (past_of met trace) seats true phases)
    (sh : AreShut setup (told_of state setup starts) phases) (lowest : AreBasesLowest setup) (many : length starts ≡ setup.threads)
    (done : list_all seat_is_done seats ≡ true) (taken : are_all_taken seats ≡ true) (gone : list_all seat_has_destructed seats ≡ true) (d : wires.AreDelivered (map passes_of seats))
    (r : Registered) (h : wires.HasJournalOf (map passes_of seats) r) (ordered : IsOrdered r.journal) (replay : (x : Setup) → HasRowsOf r x → IsReplayFromStart x r.journal)
    (merged : List Entry) (m : IsMerge (map (log_with trace) seats) merged) where
  abbrev told : Told
  told = told_of state setup starts

  -- the disks of a thread did just the pieces that the merge says it served
  each : (t : ℕ) (x y : List (DevId × D)) → slice_get starts t ≡ Some x → slice_get (disks_of seats) t ≡ Some y → AreDoneBy state setup (pieces_of state setup merged starts t) x y
  each t x y before after =
      let from = map_from (λ (s : Seat D). s.disks) seats t y after in
      let s : Seat D = from.0 in
      let lt : t < setup.threads = subst (λ (n : ℕ). t < n) a.len (slice_get_within seats t s from.1) in
      let opened : disks_at starts t ≡ x = get_or_from_slice_get starts t x [] before in
      let q = seat_is state setup told w starts met trace seats phases a sh lowest t s from.1 in
      let c = courses_of state setup told w starts met trace seats phases a sh lowest t in
      done_same state setup c.served (pieces_of state setup merged starts t) x y
      (λ dev. sym (done_served state setup told w starts met trace seats phases a sh lowest done taken gone d r h ordered replay merged m t dev lt))
      (subst (λ (ds : List (DevId × D)). AreDoneBy state setup c.served ds y) opened
      (subst (λ (ds : List (DevId × D)). AreDoneBy state setup c.served (disks_at starts t) ds) from.2 q.done))

  -- and tell what it leaves there
  holds : (dev : DevId) → is_aio setup dev ≡ true
      → IfSome (find (is_base dev) (part_of (state_after setup told merged) (home setup dev)).bases) (λ base. base.content ≡ contents_of state (disks_at (disks_of seats) (home setup dev)) dev)
  holds dev aio =
      let at : ℕ = home setup dev in
      let u = seat_of state setup told w starts met trace seats phases a sh lowest at (mod_below (base_of setup dev).0 setup.threads a.some) in
      let own : disks_at (disks_of seats) at ≡ u.0.disks = get_or_from_slice_get (disks_of seats) at u.0.disks [] (map_at (λ (s : Seat D). s.disks) seats at u.0 u.1) in
      let seen : find (is_base dev) (part_of (state_after setup told merged) at).bases ≡ base_here (ends_of state setup told w starts met trace seats phases a sh lowest at).view dev =
      done_bases state setup told w starts met trace seats phases a sh lowest done taken gone d r h ordered replay merged m dev in
      subst (λ (o : Option Base). IfSome o (λ base. base.content ≡ contents_of state (disks_at (disks_of seats) at) dev)) (sym seen)
      (subst (λ (l : Local). IfSome (base_here l.view dev) (λ base. base.content ≡ contents_of state (disks_at (disks_of seats) at) dev)) (sym (end_is state setup told w starts met trace seats phases a sh lowest at u.0 u.1))
      (subst (λ (ds : List (DevId × D)). IfSome (base_here (local_of state setup u.0).view dev) (λ base. base.content ≡ contents_of state ds dev)) (sym own)
      (found_tells setup (contents_of state u.0.disks) dev aio u.0.worker.thread.part.bases)))

  -- **a node that is done has a complete run, which says what its disks did**
  done_settles : Settles state setup starts seats merged
  done_settles = record {
    complete = done_complete state setup told w starts met trace seats phases a sh lowest done taken gone d r h ordered replay merged m;
    says = record { len = length-map seats (λ (s : Seat D). s.disks) ∙ a.len ∙ sym many; each = each; holds = holds };
    held = λ t lt s e.
        subst (EndInTime setup (time_of s.worker.thread).moment) (sym (done_held state setup told w starts met trace seats phases a sh lowest done taken gone d r h ordered replay merged m t lt))
        (seat_is state setup told w starts met trace seats phases a sh lowest t s e).worker.held;
  }

-- ---- a node, taken apart

done_parts : (shut over idle : Bool) → cond shut (cond over Done Busy) (cond idle Idle Busy) ≡ Done → (shut ≡ true) × (over ≡ true)
done_parts true true idle h = (refl, refl)
done_parts true false idle h = cc
done_parts false over true h = cc
done_parts false over false h = cc

-- where it is done, the merge of all that its threads did says so
pub node_settles : {D : Type 0} → (state : D → DiskState) (starts : List (List (DevId × D))) (n : Node D) → IsNodeOf state starts n → AreBasesLowest (setup_in n) → state_of n ≡ Done
    → (passes : List Passes) → passes ≡ map passes_of n.seats.items
    → wires.AreDelivered passes → (r : Registered) → wires.HasJournalOf passes r → IsOrdered r.journal → ((x : Setup) → HasRowsOf r x → IsReplayFromStart x r.journal)
    → (merged : List Entry) → IsMerge (logs_of n) merged → Settles state (setup_in n) starts n.seats.items merged
node_settles {D} state starts n h lowest done passes passes-is d r j ordered replay merged m =
    go n.shut (done_parts n.shut (is_over n) (is_idle n) done).0 h.seated h.phases_are
  where
    none : Bool
    none = list_all seat_is_done n.seats.items && are_all_taken n.seats.items

    over : (none ≡ true) × (list_all seat_has_destructed n.seats.items ≡ true)
    over = and_parts none (list_all seat_has_destructed n.seats.items) (done_parts n.shut (is_over n) (is_idle n) done).1

    rest : (list_all seat_is_done n.seats.items ≡ true) × (are_all_taken n.seats.items ≡ true)
    rest = and_parts (list_all seat_is_done n.seats.items) (are_all_taken n.seats.items) over.0

    go : (b : Bool) → b ≡ true → AreSeated state (setup_in n) n.wires starts (past_of h.met n.trace.items) n.seats.items b h.phases → ArePhases (setup_in n) (told_of state (setup_in n) starts) b h.phases
        → Settles state (setup_in n) starts n.seats.items merged
    go true e seated phased =
        done_settles state (setup_in n) n.wires starts h.met n.trace.items n.seats.items h.phases seated phased lowest h.many rest.0 rest.1 over.1
        (subst (λ (qs : List Passes). wires.AreDelivered qs) passes-is d) r (subst (λ (qs : List Passes). wires.HasJournalOf qs r) passes-is j) ordered replay merged m
    go false e seated phased = cc
