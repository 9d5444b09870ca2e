-- A device is ready from the answer that names it on, whatever entries come.
use Rattle.std.proofs.Common.{◌≡◌, ℕ, zero, suc, ◌+◌, Bool, true, false, cond, ◌&&◌, ◌||◌, ◌==◌, ◌⊎◌, inl, inr, List, [], ◌∷◌, ◌++◌, map, get_or, Option, Some, None, is_some, option_and_then, not, refl, sym, ◌∙◌, ap, subst, eqb-true}
use Rattle.std.specs.List.{AllByRecursion, list_any, range_with_len}
use Rattle.std.proofs.lemmas.Bool.{and_parts, cases_eq}
use Rattle.bd_base.specs.declared.act.Act.{Act}
use Rattle.bd_base.specs.declared.act.Act.TheVariants as acts
use Rattle.bd_base.specs.declared.act.ApplyEnd.{ApplyEnd}
use Rattle.bd_base.specs.declared.act.Entry.{Entry}
use Rattle.bd_base.specs.declared.event.RegEvent.TheVariants as events
use Rattle.bd_base.specs.declared.id.DevId.{DevId}
use Rattle.bd_base.specs.declared.id.ReqId.{ReqId}
use Rattle.bd_base.specs.declared.setup.Setup.{Setup}
use Rattle.bd_machine.specs.declared.state.Base.{Base}
use Rattle.bd_machine.specs.declared.state.Between.{Between}
use Rattle.bd_machine.specs.declared.state.Between.TheVariants.{Opening, Closing}
use Rattle.bd_machine.specs.declared.state.Id.{Id}
use Rattle.bd_machine.specs.declared.state.Kept.{Kept}
use Rattle.bd_machine.specs.declared.state.Kept.TheVariants as keeps
use Rattle.bd_machine.specs.declared.state.OpenPiece.{OpenPiece}
use Rattle.bd_machine.specs.declared.state.Owed.TheVariants as owes
use Rattle.bd_machine.specs.declared.state.Part.{Part}
use Rattle.bd_machine.specs.declared.state.Place.{Place}
use Rattle.bd_machine.specs.declared.state.Place.TheVariants.{At, Ring, Nowhere}
use Rattle.bd_machine.specs.declared.state.State.{State}
use Rattle.bd_machine.specs.declared.state.Tracked.{Tracked}
use Rattle.bd_machine.specs.Asked.{asks_between}
use Rattle.bd_machine.specs.BlockMap.{home, row_of, size_of}
use Rattle.bd_machine.specs.Content.{Told}
use Rattle.bd_machine.specs.Destruction.{is_report_of, named}
use Rattle.bd_machine.specs.Guards.{change}
use Rattle.bd_machine.specs.Homes.{base_here, change_applied, has_destructed, is_home, is_called_for}
use Rattle.bd_machine.specs.Kept.{piece_here}
use Rattle.bd_machine.specs.Messages.{count_at, brings}
use Rattle.bd_machine.specs.Registry.{is_free}
use Rattle.bd_machine.specs.Same.{same_dev, same_id, same_owed, is_the}
use Rattle.bd_machine.specs.Start.{start, part_at_start}
use Rattle.bd_machine.specs.Step.{IsAllowed, guards_in, change_in, after}
use Rattle.bd_machine.specs.Table.{look_up, write}
use Rattle.bd_machine.specs.View.{View, Came, Move, Taking, view, part_of, blank_part, message_of, message_for, kept_in, came_for, took, destructed_by}
use Rattle.bd_machine.proofs.Acts.{Passes, passed, IsFresh}
use Rattle.bd_machine.proofs.Freedom.{free_stays, named_is_free}
use Rattle.bd_machine.proofs.Parts.{Core, is_plain, plain_grows}
use Rattle.bd_machine.proofs.Steps.{allowed_passes, part_is, part_stays}
use Rattle.bd_machine.proofs.Tables.{dev_exact}
use Rattle.bd_turns.specs.Told.{is_done, IsReady, is_device_kept, is_device_token, is_device_due, IsTold}
use Rattle.bd_turns.proofs.Effects.{Kind, Puts, Tooks, Quiet, kind_of, sends}
use Rattle.bd_turns.proofs.Homing.{AreHome, is_notice, takes}
use Rattle.bd_turns.proofs.Queues.{moved_keeps}
use Rattle.bd_turns.proofs.Rings.{tokens_are}
use Rattle.bd_turns.proofs.Telling.{From, is_device_if, parts_from}

wrong : {P : Type 0} → false ≡ true → P
wrong h = absurd (let x : false ≡ true = h in cc)

differ : {P : Type 0} (b : Bool) → b ≡ true → b ≡ false → P
differ true h k = wrong (sym k)
differ false h k = wrong h

-- ---- what was destructed stays so

append_left : (test : DevId → Bool) (xs : List DevId) (d : DevId) → list_any test xs ≡ true → list_any test (xs ++ d ∷ []) ≡ true
append_left test [] d h = wrong h
append_left test (x ∷ xs) d h = go (test x) h (append_left test xs d)
  where
    go : (b : Bool) → (b || list_any test xs) ≡ true → (list_any test xs ≡ true → list_any test (xs ++ d ∷ []) ≡ true) → (b || list_any test (xs ++ d ∷ [])) ≡ true
    go true h k = refl
    go false h k = k h

append_right : (test : DevId → Bool) (xs : List DevId) (d : DevId) → test d ≡ true → list_any test (xs ++ d ∷ []) ≡ true
append_right test [] d h = ap (λ b. b || false) h
append_right test (x ∷ xs) d h = more (test x) (list_any test (xs ++ d ∷ [])) (append_right test xs d h)
  where
    more : (b c : Bool) → c ≡ true → (b || c) ≡ true
    more true c k = refl
    more false c k = k

applied_same : (v : View) (req : ReqId) (k : ℕ) (dev : DevId) (end : ApplyEnd) (size : ℕ) (x : Option OpenPiece) (b : Option Base) → (change_applied v req k dev end size x b).part.destructed ≡ v.part.destructed
applied_same v req k dev end size (Some p) (Some b) = refl
applied_same v req k dev end size _ _ = refl

destructed_stays : (setup : Setup) (t : ℕ) (v : View) (act : Act) (came : Came) (dev : DevId) → list_any (same_dev dev) v.part.destructed ≡ true → list_any (same_dev dev) (change setup t v act came).part.destructed ≡ true
destructed_stays setup t v act came dev h = go (is_plain act) refl
  where
    others : (act : Act) → is_plain act ≡ false → list_any (same_dev dev) (change setup t v act came).part.destructed ≡ true
    others (acts.Put to number what) e = h
    others (acts.Tick d now slices) e = h
    others (acts.Grow d blocks) e = h
    others (acts.Accept d lba handle req op count) e = h
    others (acts.Apply req k d end) e = subst (λ (ds : List DevId). list_any (same_dev dev) ds ≡ true) (sym (applied_same v req k d end (size_of setup d) (piece_here v req k) (base_here v d))) h
    others (acts.Destruct d digest) e = append_left (same_dev dev) v.part.destructed d h
    others _ e = absurd (let x : true ≡ false = e in cc)

    go : (b : Bool) → is_plain act ≡ b → list_any (same_dev dev) (change setup t v act came).part.destructed ≡ true
    go true e = subst (λ (ds : List DevId). list_any (same_dev dev) ds ≡ true) (sym (ap (λ (c : Core). c.destructed) (plain_grows setup t v act came e).rest)) h
    go false e = others act e

-- ---- a message that is taken

message_told : (a b n : ℕ) (o : Option Tracked) (dev : DevId) → is_device_if dev (message_of a b n o) ≡ true → is_device_token dev o ≡ true
message_told a b n None dev h = wrong h
message_told a b n (Some token) dev h = go token.place h
  where
    at : (c : Bool) → is_device_if dev (cond c (Some token.kept) None) ≡ true → is_device_kept dev token.kept ≡ true
    at true h = h
    at false h = wrong h

    go : (p : Place) → is_device_if dev (kept_in a b n p token.kept) ≡ true → is_device_kept dev token.kept ≡ true
    go (At u) h = wrong h
    go (Ring x y m) h = at ((x == a) && ((y == b) && (m == n))) h
    go Nowhere h = wrong h

-- a device whose token is told of is one of a notice
notice_if : (dev : DevId) (kept : Kept) → is_device_kept dev kept ≡ true → is_notice kept ≡ true
notice_if dev (keeps.Request r) h = wrong h
notice_if dev (keeps.Piece p) h = wrong h
notice_if dev (keeps.Walk w) h = wrong h
notice_if dev (keeps.Notice n) h = refl

-- ---- the start

blank_of : {X : Type 0} (of : Part → X) (setup : Setup) (told : Told) → ((u : ℕ) → of (part_at_start setup told u) ≡ of blank_part) → (us : List ℕ) (i : ℕ) → of (get_or (map (part_at_start setup told) us) i blank_part) ≡ of blank_part
blank_of of setup told h [] i = refl
blank_of of setup told h (u ∷ us) zero = h u
blank_of of setup told h (u ∷ us) (suc i) = blank_of of setup told h us i

pub told_at_start : (setup : Setup) (told : Told) → IsTold setup (start setup told)
told_at_start setup told = record {
  due = λ t dev h. wrong (sym (ap (list_any (is_device_due dev)) (blank_of (λ (p : Part). p.due) setup told (λ u. refl) (range_with_len 0 setup.threads) t)) ∙ h);
  tokens = λ id dev h. wrong h;
  owed = λ t dev h. wrong (sym (ap (list_any (same_owed (owes.Destruct dev))) (blank_of (λ (p : Part). p.owed) setup told (λ u. refl) (range_with_len 0 setup.threads) t)) ∙ h);
  reports = λ t dev h. wrong (sym (ap (list_any (same_owed (owes.Report dev))) (blank_of (λ (p : Part). p.owed) setup told (λ u. refl) (range_with_len 0 setup.threads) t)) ∙ h);
}

-- ---- an entry

module _ (setup : Setup) (s : State) (e : Entry) (fresh : IsFresh s) (allowed : IsAllowed setup s e) (told : IsTold setup s) where
  abbrev next : State
  next = after setup s e

  passes : Passes (guards_in setup s e.thread e.act)
  passes = allowed_passes setup s e allowed

  at_home : (dev : DevId) (u : ℕ) → list_any (same_dev dev) (part_of s u).destructed ≡ true → list_any (same_dev dev) (part_of next u).destructed ≡ true
  at_home dev u h = go (cases_eq e.thread u)
    where
      go : (e.thread ≡ u) ⊎ (e.thread ≡ u → ⊥) → list_any (same_dev dev) (part_of next u).destructed ≡ true
      go (inl is) =
          subst (λ (w : ℕ). list_any (same_dev dev) (part_of next w).destructed ≡ true) is
          (subst (λ (p : Part). list_any (same_dev dev) p.destructed ≡ true) (sym (part_is setup s e fresh allowed))
          (destructed_stays setup e.thread (view s e.thread) e.act (came_for setup s e.thread e.act) dev (subst (λ (w : ℕ). list_any (same_dev dev) (part_of s w).destructed ≡ true) (sym is) h)))
      go (inr ne) = subst (λ (p : Part). list_any (same_dev dev) p.destructed ≡ true) (sym (part_stays setup s e fresh allowed u ne)) h

  done_stays : (dev : DevId) → is_done setup s dev ≡ true → is_done setup (after setup s e) dev ≡ true
  done_stays dev h = at_home dev (home setup dev) h

  -- what is reported was destructed
  reported : (act : Act) → Passes (guards_in setup s e.thread act) → (dev : DevId) → is_report_of dev act ≡ true → list_any (same_owed (owes.Report dev)) (part_of s e.thread).owed ≡ true
  reported (acts.Reg (events.Destructed d) a) h dev is =
      subst (λ (x : DevId). list_any (same_owed (owes.Report x)) (part_of s e.thread).owed ≡ true) (dev_exact d dev is)
      (go s.registry.between (passed (guards_in setup s e.thread (acts.Reg (events.Destructed d) a)) h).1.0)
    where
      no : (b : Bool) → (b && false) ≡ false
      no true = refl
      no false = refl

      go : (o : Option Between) → asks_between setup e.thread (view s e.thread) (came_for setup s e.thread (acts.Reg (events.Destructed d) a)) (events.Destructed d) o ≡ true → list_any (same_owed (owes.Report d)) (part_of s e.thread).owed ≡ true
      go None k = k
      go (Some (Opening u x)) k = wrong (sym (no (u == e.thread)) ∙ k)
      go (Some (Closing u x)) k = wrong (sym (no (u == e.thread)) ∙ k)
  reported _ h dev is = wrong is

  ready_stays : (dev : DevId) → IsReady setup s dev → IsReady setup (after setup s e) dev
  ready_stays dev (inr done) = inr (done_stays dev done)
  ready_stays dev (inl free) = go (is_report_of dev e.act) refl
    where
      go : (b : Bool) → is_report_of dev e.act ≡ b → IsReady setup (after setup s e) dev
      go true is = inr (done_stays dev (told.reports e.thread dev (reported e.act passes dev is)))
      go false is = inl (free_stays setup s e allowed dev is free)

  -- a message that told of it
  brought : (act : Act) (dev : DevId) → is_device_if dev (came_for setup s e.thread act).message ≡ true → IsReady setup s dev
  brought act dev h = go (took act) h
    where
      go : (o : Option Taking) → is_device_if dev (option_and_then (message_for s e.thread) o) ≡ true → IsReady setup s dev
      go None h = wrong h
      go (Some m) h = told.tokens _ dev (message_told m.source e.thread m.number (look_up same_id s.tokens _) dev h)

  -- the one that is destructed now
  destructed_now : (act : Act) → Passes (guards_in setup s e.thread act) → (dev : DevId) → is_the same_dev dev (destructed_by act) ≡ true → (home setup dev ≡ e.thread) × (list_any (same_dev dev) (change_in setup s e.thread act).part.destructed ≡ true)
  destructed_now (acts.Destruct d digest) h dev is =
      let same : dev ≡ d = dev_exact dev d is in
      let v : View = view s e.thread in
      let came : Came = came_for setup s e.thread (acts.Destruct d digest) in
      let g = and_parts (is_home setup e.thread d && is_called_for v came d) (not (has_destructed v d)) (passed (guards_in setup s e.thread (acts.Destruct d digest)) h).0 in
      let k = and_parts (is_home setup e.thread d) (is_called_for v came d) g.0 in
      let l = and_parts (is_some (row_of setup d)) (home setup d == e.thread) k.0 in
      (ap (home setup) same ∙ eqb-true (home setup d) e.thread l.1, append_right (same_dev dev) v.part.destructed d is)
  destructed_now _ h dev is = wrong is

  done_now : (dev : DevId) → is_the same_dev dev (destructed_by e.act) ≡ true → is_done setup (after setup s e) dev ≡ true
  done_now dev is =
      let p = destructed_now e.act passes dev is in
      subst (λ (u : ℕ). list_any (same_dev dev) (part_of next u).destructed ≡ true) (sym p.0)
      (subst (λ (q : Part). list_any (same_dev dev) q.destructed ≡ true) (sym (part_is setup s e fresh allowed)) p.1)

  -- ---- parts

  from : From (part_of s e.thread) (change_in setup s e.thread e.act).part (named e.act) (came_for setup s e.thread e.act).message (destructed_by e.act)
  from = parts_from setup s e.thread e.act passes

  due_next : (u : ℕ) (dev : DevId) → list_any (is_device_due dev) (part_of (after setup s e) u).due ≡ true → IsReady setup (after setup s e) dev
  due_next u dev h = go (cases_eq e.thread u)
    where
      own : (list_any (is_device_due dev) (part_of s e.thread).due ≡ true) ⊎ (is_the same_dev dev (named e.act) ≡ true) → IsReady setup (after setup s e) dev
      own (inl k) = ready_stays dev (told.due e.thread dev k)
      own (inr k) = inl (named_is_free setup s e allowed dev k)

      go : (e.thread ≡ u) ⊎ (e.thread ≡ u → ⊥) → IsReady setup (after setup s e) dev
      go (inl is) = own (from.due dev (subst (λ (p : Part). list_any (is_device_due dev) p.due ≡ true) (part_is setup s e fresh allowed) (subst (λ (w : ℕ). list_any (is_device_due dev) (part_of (after setup s e) w).due ≡ true) (sym is) h)))
      go (inr ne) = ready_stays dev (told.due u dev (subst (λ (p : Part). list_any (is_device_due dev) p.due ≡ true) (part_stays setup s e fresh allowed u ne) h))

  owed_next : (u : ℕ) (dev : DevId) → list_any (same_owed (owes.Destruct dev)) (part_of (after setup s e) u).owed ≡ true → IsReady setup (after setup s e) dev
  owed_next u dev h = go (cases_eq e.thread u)
    where
      own : (list_any (same_owed (owes.Destruct dev)) (part_of s e.thread).owed ≡ true) ⊎ (is_device_if dev (came_for setup s e.thread e.act).message ≡ true) → IsReady setup (after setup s e) dev
      own (inl k) = ready_stays dev (told.owed e.thread dev k)
      own (inr k) = ready_stays dev (brought e.act dev k)

      go : (e.thread ≡ u) ⊎ (e.thread ≡ u → ⊥) → IsReady setup (after setup s e) dev
      go (inl is) = own (from.owed dev (subst (λ (p : Part). list_any (same_owed (owes.Destruct dev)) p.owed ≡ true) (part_is setup s e fresh allowed) (subst (λ (w : ℕ). list_any (same_owed (owes.Destruct dev)) (part_of (after setup s e) w).owed ≡ true) (sym is) h)))
      go (inr ne) = ready_stays dev (told.owed u dev (subst (λ (p : Part). list_any (same_owed (owes.Destruct dev)) p.owed ≡ true) (part_stays setup s e fresh allowed u ne) h))

  reports_next : (u : ℕ) (dev : DevId) → list_any (same_owed (owes.Report dev)) (part_of (after setup s e) u).owed ≡ true → is_done setup (after setup s e) dev ≡ true
  reports_next u dev h = go (cases_eq e.thread u)
    where
      own : (list_any (same_owed (owes.Report dev)) (part_of s e.thread).owed ≡ true) ⊎ (is_the same_dev dev (destructed_by e.act) ≡ true) → is_done setup (after setup s e) dev ≡ true
      own (inl k) = done_stays dev (told.reports e.thread dev k)
      own (inr k) = done_now dev k

      go : (e.thread ≡ u) ⊎ (e.thread ≡ u → ⊥) → is_done setup (after setup s e) dev ≡ true
      go (inl is) = own (from.reports dev (subst (λ (p : Part). list_any (same_owed (owes.Report dev)) p.owed ≡ true) (part_is setup s e fresh allowed) (subst (λ (w : ℕ). list_any (same_owed (owes.Report dev)) (part_of (after setup s e) w).owed ≡ true) (sym is) h)))
      go (inr ne) = done_stays dev (told.reports u dev (subst (λ (p : Part). list_any (same_owed (owes.Report dev)) p.owed ≡ true) (part_stays setup s e fresh allowed u ne) h))

  -- ---- tokens

  abbrev IsTeller : Move → Type 0
  IsTeller m = (dev : DevId) → is_device_kept dev m.kept ≡ true → IsReady setup (after setup s e) dev

  none_told : (ms : List Move) → AreHome ms → AllByRecursion (λ m. (dev : DevId) → is_device_kept dev m.kept ≡ true → IsReady setup (after setup s e) dev) ms
  none_told [] h = tt
  none_told (m ∷ ms) h = ((λ dev k. differ (is_notice m.kept) (notice_if dev m.kept k) h.0.1), none_told ms h.1)

  abbrev AreTellers : List Move → Type 0
  AreTellers ms = AllByRecursion (λ m. (dev : DevId) → is_device_kept dev m.kept ≡ true → IsReady setup (after setup s e) dev) ms

  -- of each move: what it tells of is ready
  tellers : (act : Act) → e.act ≡ act → Kind setup e.thread (view s e.thread) (came_for setup s e.thread act) act → AreTellers (change_in setup s e.thread act).moves
  tellers act is (Quiet quiet) = none_told (change_in setup s e.thread act).moves quiet.homes
  tellers act is (Puts to number what at) =
      let p : Passes (guards_in setup s e.thread (acts.Put to number what)) = subst (λ (a : Act). Passes (guards_in setup s e.thread a)) (is ∙ at) passes in
      let q = sends setup e.thread (view s e.thread) (came_for setup s e.thread (acts.Put to number what)) to number what p in
      subst (λ (a : Act). AreTellers (change_in setup s e.thread a).moves) (sym at)
      (subst AreTellers (sym q.moves_are) ((λ dev k. ready_stays dev (told.due e.thread dev (q.tells dev k))), tt))
  tellers act is (Tooks source number what at) =
      let a : Act = acts.Took source number what in
      let p : Passes (guards_in setup s e.thread a) = subst (λ (b : Act). Passes (guards_in setup s e.thread b)) (is ∙ at) passes in
      let q = takes setup e.thread source number what (record (part_of s e.thread) { taken = write ◌==◌ (part_of s e.thread).taken source (number + 1) }) (came_for setup s e.thread a).message
      (and_parts (number == count_at (part_of s e.thread).taken source) (brings what (came_for setup s e.thread a).message) (passed (guards_in setup s e.thread a) p).0).1 in
      subst (λ (b : Act). AreTellers (change_in setup s e.thread b).moves) (sym at)
      (subst AreTellers (sym q.moves_are) (
        (λ dev k. ready_stays dev (brought a dev (ap (is_device_if dev) (q.brought (notice_if dev q.first.kept k)) ∙ k))),
        none_told q.rest q.homes,
      ))

  tokens_next : (id : Id) (dev : DevId) → is_device_token dev (look_up same_id (after setup s e).tokens id) ≡ true → IsReady setup (after setup s e) dev
  tokens_next id dev =
      subst (λ (ts : List (Id × Tracked)). is_device_token dev (look_up same_id ts id) ≡ true → IsReady setup (after setup s e) dev) (sym (tokens_are setup s e fresh allowed))
      (moved_keeps (λ i o. is_device_token dev o ≡ true → IsReady setup (after setup s e) dev) e.thread (change_in setup s e.thread e.act).moves s.tokens
      (λ i h. ready_stays dev (told.tokens i dev h)) (each (change_in setup s e.thread e.act).moves (tellers e.act refl (kind_of setup e.thread (view s e.thread) (came_for setup s e.thread e.act) e.act))) id)
    where
      each : (ms : List Move) → AllByRecursion (λ m. (dev : DevId) → is_device_kept dev m.kept ≡ true → IsReady setup (after setup s e) dev) ms → AllByRecursion (λ m. is_device_kept dev m.kept ≡ true → IsReady setup (after setup s e) dev) ms
      each [] h = tt
      each (m ∷ ms) h = (h.0 dev, each ms h.1)

  pub told_after : IsTold setup (after setup s e)
  told_after = record { due = due_next; tokens = tokens_next; owed = owed_next; reports = reports_next }

-- ---- what a home may destruct is free

pub destruct_is_free : (setup : Setup) (s : State) (t : ℕ) (dev : DevId) → IsTold setup s → home setup dev ≡ t → list_any (same_owed (owes.Destruct dev)) (part_of s t).owed ≡ true → not (list_any (same_dev dev) (part_of s t).destructed) ≡ true → is_free setup s.registry dev ≡ true
destruct_is_free setup s t dev told at_home owed not_yet = go (told.owed t dev owed)
  where
    no : (b : Bool) → not b ≡ true → b ≡ true → ⊥
    no true h k = cc
    no false h k = cc

    go : IsReady setup s dev → is_free setup s.registry dev ≡ true
    go (inl free) = free
    go (inr done) = absurd (no (list_any (same_dev dev) (part_of s t).destructed) not_yet (subst (λ (u : ℕ). list_any (same_dev dev) (part_of s u).destructed ≡ true) at_home done))
