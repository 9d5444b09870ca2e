-- Content that is filled in, device by device: the words that change a part read and write other fields.
use Rattle.std.proofs.Common.{◌≡◌, ℕ, ◌==◌, Bool, true, false, cond, ◌&&◌, List, [], ◌∷◌, ◌++◌, map, Option, Some, None, is_some, refl, ◌∙◌, ap}
use Rattle.bd_base.specs.declared.event.Answer.{Answer}
use Rattle.bd_base.specs.declared.event.Answer.TheVariants as answers
use Rattle.bd_base.specs.declared.event.RegEvent.{RegEvent}
use Rattle.bd_base.specs.declared.event.RegEvent.TheVariants as events
use Rattle.bd_base.specs.declared.id.DevId.{DevId}
use Rattle.bd_base.specs.declared.id.HandleId.{HandleId}
use Rattle.bd_base.specs.declared.id.ReqId.{ReqId}
use Rattle.bd_base.specs.declared.id.WalkId.{WalkId}
use Rattle.bd_base.specs.declared.request.WalkKind.{WalkKind}
use Rattle.bd_base.specs.declared.request.WalkKind.TheVariants.{Freeze, Drain, Thaw, Removal}
use Rattle.bd_base.specs.declared.setup.Setup.{Setup}
use Rattle.bd_base.specs.declared.thread_set.ThreadSet.{ThreadSet}
use Rattle.bd_machine.specs.declared.state.Base.{Base}
use Rattle.bd_machine.specs.declared.state.Content.{Content}
use Rattle.bd_machine.specs.declared.state.Id.TheVariants as ids
use Rattle.bd_machine.specs.declared.state.Kept.TheVariants as keeps
use Rattle.bd_machine.specs.declared.state.News.{News}
use Rattle.bd_machine.specs.declared.state.News.TheVariants as news
use Rattle.bd_machine.specs.declared.state.OpenRequest.{OpenRequest}
use Rattle.bd_machine.specs.declared.state.OpenWalk.{OpenWalk}
use Rattle.bd_machine.specs.declared.state.Owed.TheVariants as owes
use Rattle.bd_machine.specs.declared.state.Part.{Part}
use Rattle.bd_machine.specs.declared.state.Resetting.{Resetting}
use Rattle.bd_machine.specs.declared.state.Stage.{Stage}
use Rattle.bd_machine.specs.declared.state.Stage.TheVariants as stages
use Rattle.bd_machine.specs.declared.state.Trip.{Trip}
use Rattle.bd_machine.specs.declared.state.Trip.TheVariants as trips
use Rattle.bd_machine.specs.Aborts.{stopped}
use Rattle.bd_machine.specs.Admission.{is_gone}
use Rattle.bd_machine.specs.Asked.{owes_removal}
use Rattle.bd_machine.specs.BlockMap.{below, home}
use Rattle.bd_machine.specs.Changes.{is_dropped}
use Rattle.bd_machine.specs.Events.{decided_by, paid, owing, with_due, alone, closed_by, born, all_born, got_by, put_down_by, put_paid, dropped_by, removal_paid, with_reset, advanced, reset_finishes, freed_by, channel_due, gone_due, removing, reset_begun, reset_thaws, injection_taken, change_reg, first_req, device_due, destruct_of, drain_time, resizing, resized}
use Rattle.bd_machine.specs.Limits.{arrived, departed, is_limited, next_limited, seen, waits_at}
use Rattle.bd_machine.specs.declared.state.FreezeMark.TheVariants.{Not}
use Rattle.bd_machine.specs.declared.state.Marking.{Marking}
use Rattle.bd_machine.specs.Grace.{dev_if_any, ended, ending_mark, remarked_if_any}
use Rattle.bd_machine.specs.Marks.{remarked, with_frozen, hardened, freeze_set, removal_set}
use Rattle.bd_machine.specs.Kept.{walk_here}
use Rattle.bd_machine.specs.Messages.{request_took, told_part, freezes, went, told_walk}
use Rattle.bd_machine.specs.Registry.{made, device_named}
use Rattle.bd_machine.specs.Threads.{is_nobody}
use Rattle.bd_machine.specs.Users.{is_base_handle}
use Rattle.bd_machine.specs.View.{View, Came, Change, Move, Going, Here, Closed}
use Rattle.bd_machine.specs.Walks.{staged, numbered, over_nobody, begin_walk_with, begin_walk, time_of_walk, after_walk, is_at_end, walked, drain_threads, marked_by, visited, walked_if_any, reset_of, begun}

-- a change of a part, with these moves
abbrev pub with_moves : List Move → Part → Change
with_moves moves p = record { part = p; moves = moves }

-- the same, where the bases alone change
abbrev pub with_bases : List Move → Part → List Base → Change
with_bases moves p bs = record { part = record p { bases = bs }; moves = moves }

module _ (fill : DevId → Content → Content) where
  -- the base with its content filled in
  abbrev pub filled_base : Base → Base
  filled_base b = record b { content = fill b.dev b.content }

  abbrev pub filled : Part → Part
  filled p = record p { bases = map filled_base p.bases }

  abbrev pub filled_view : View → View
  filled_view v = record v { part = filled v.part }

  abbrev pub filled_change : Change → Change
  filled_change c = record { part = filled c.part; moves = c.moves }

  -- ---- words

  closed_filled : (setup : Setup) (came : Came) (id : HandleId) (a : Answer) (p : Part)
      → closed_by setup came id a (filled p) ≡ filled (closed_by setup came id a p)
  closed_filled setup came id a p = go (is_base_handle setup id) (is_gone p id)
    where
      go : (b c : Bool) → cond b (paid (owes.Close id) (filled p)) (cond c (filled p) (decided_by came a (filled p)))
          ≡ filled (cond b (paid (owes.Close id) p) (cond c p (decided_by came a p)))
      go true c = refl
      go false true = refl
      go false false = refl

  born_filled : (frozen ds : List DevId) (p : Part) → all_born frozen ds (filled p) ≡ filled (all_born frozen ds p)
  born_filled frozen [] p = refl
  born_filled frozen (d ∷ ds) p = born_filled frozen ds (born frozen d p)

  got_filled : (setup : Setup) (v : View) (dev : DevId) (a : Answer) → got_by setup (filled_view v) dev a ≡ filled (got_by setup v dev a)
  got_filled setup v dev (answers.Got fresh frozen) = born_filled frozen (made v.channels (below setup dev)) v.part
  got_filled setup v dev _ = refl

  put_filled : (t : ℕ) (dev : DevId) (closing : Bool) (a : Answer) (p : Part)
      → put_down_by t dev a (put_paid dev closing (filled p)) ≡ filled (put_down_by t dev a (put_paid dev closing p))
  put_filled t dev true (answers.PutDown left) p = refl
  put_filled t dev false (answers.PutDown left) p = refl
  put_filled t dev true _ p = refl
  put_filled t dev false _ p = refl

  dropped_filled : (t : ℕ) (dev : DevId) (a : Answer) (p : Part) → dropped_by t dev a (filled p) ≡ filled (dropped_by t dev a p)
  dropped_filled t dev (answers.Dropped what zero destruct) p = go (is_dropped what)
    where
      go : (b : Bool) → with_due (channel_due t zero) (cond b (remarked dev (with_frozen Not) (filled p)) (filled p))
          ≡ filled (with_due (channel_due t zero) (cond b (remarked dev (with_frozen Not) p) p))
      go true = refl
      go false = refl
  dropped_filled t dev _ p = refl

  removal_filled : (came : Came) (a : Answer) (o : Option ℕ) (p : Part) → removal_paid came a o (filled p) ≡ filled (removal_paid came a o p)
  removal_filled came a None p = refl
  removal_filled came a (Some n) p = go (owes_removal p (Some n))
    where
      go : (b : Bool) → cond b (paid (owes.Remove (record { 0 = n })) (filled p)) (decided_by came a (filled p))
          ≡ filled (cond b (paid (owes.Remove (record { 0 = n })) p) (decided_by came a p))
      go true = refl
      go false = refl

  finishes_filled : (dev : DevId) (a : Answer) (p : Part) → reset_finishes dev a (filled p) ≡ filled (reset_finishes dev a p)
  finishes_filled dev (answers.ResetFinished next) p = refl
  finishes_filled dev _ p = refl

  freed_filled : (a : Answer) (p : Part) → freed_by a (filled p) ≡ filled (freed_by a p)
  freed_filled (answers.Freed (Some id)) p = refl
  freed_filled (answers.Freed None) p = refl
  freed_filled _ p = refl

  staged_filled : (req : Option ReqId) (stage : Stage) (p : Part) → staged req stage (filled p) ≡ filled (staged req stage p)
  staged_filled None stage p = refl
  staged_filled (Some req) stage p = refl

  marked_filled : (setup : Setup) (t : ℕ) (v : View) (walk : WalkId) (dev : DevId) (kind : WalkKind)
      → marked_by setup t (filled_view v) walk dev kind ≡ filled (marked_by setup t v walk dev kind)
  marked_filled setup t v walk dev Freeze = go (is_some (v.channels dev))
    where
      set : Marking → Marking
      set = freeze_set walk (time_of_walk (walk_here v walk))

      go : (b : Bool) → cond b (remarked dev set (filled v.part)) (filled v.part) ≡ filled (cond b (remarked dev set v.part) v.part)
      go true = refl
      go false = refl
  marked_filled setup t v walk dev Drain = refl
  marked_filled setup t v walk dev Thaw = refl
  marked_filled setup t v walk dev Removal = go (is_limited setup dev && (home setup dev == t))
    where
      go : (b : Bool) → cond b (owing (owes.Put dev) (remarked dev removal_set (filled v.part))) (remarked dev removal_set (filled v.part))
          ≡ filled (cond b (owing (owes.Put dev) (remarked dev removal_set v.part)) (remarked dev removal_set v.part))
      go true = refl
      go false = refl

  told_filled : (setup : Setup) (told : News) (p : Part) → told_part setup told (filled p) ≡ filled (told_part setup told p)
  told_filled setup (news.Mark mark) p = refl
  told_filled setup (news.Gone handle) p = refl
  told_filled setup (news.Channel dev) p = refl
  told_filled setup (news.Device dev) p = refl
  told_filled setup (news.Go req threads) p = refl
  told_filled setup (news.Grow dev blocks) p = refl
  told_filled setup (news.Sized handle blocks) p = refl

  pub remarked_filled : (o : Option DevId) (f : Marking → Marking) (p : Part) → remarked_if_any o f (filled p) ≡ filled (remarked_if_any o f p)
  remarked_filled None f p = refl
  remarked_filled (Some dev) f p = refl

  pub ended_filled : (walk : WalkId) (now : ℕ) (p : Part) → ended walk now (filled p) ≡ filled (ended walk now p)
  ended_filled walk now p = ap (λ (q : Part). record q { moments = seen now p.moments }) (remarked_filled (dev_if_any (ending_mark p walk)) hardened p)

  departed_filled : (p : Part) (req : ReqId) (o : Option DevId) → departed (filled p) req o ≡ filled (departed p req o)
  departed_filled p req None = refl
  departed_filled p req (Some dev) = refl

  pub stopped_filled : (setup : Setup) (p : Part) (req : ReqId) (x : Option OpenRequest) → stopped setup (filled p) req x ≡ filled (stopped setup p req x)
  stopped_filled setup p req None = refl
  stopped_filled setup p req (Some r) = departed_filled p req (waits_at setup r)

  arrived_filled : (p : Part) (req : ReqId) (o : Option DevId) → arrived (filled p) req o ≡ filled (arrived p req o)
  arrived_filled p req None = refl
  arrived_filled p req (Some dev) = refl

  pub came_filled : (setup : Setup) (req : ReqId) (r : OpenRequest) (trip : Trip) (p : Part)
      → request_took setup req r trip (filled p) ≡ filled (request_took setup req r trip p)
  came_filled setup req r trips.Out p = arrived_filled p req (next_limited setup r)
  came_filled setup req r trips.Own p = refl
  came_filled setup req r trips.Passed p = refl

  -- ---- walks

  nobody_filled : (kind : WalkKind) (req : Option ReqId) (p : Part) → over_nobody kind req (filled p) ≡ filled (over_nobody kind req p)
  nobody_filled Freeze req p = staged_filled req stages.Drained (numbered 2 p)
  nobody_filled Drain req p = staged_filled req stages.Drained (numbered 1 p)
  nobody_filled Thaw req p = staged_filled req stages.Thawed (numbered 1 p)
  nobody_filled Removal req p = refl

  begin_filled : (t : ℕ) (kind : WalkKind) (dev : DevId) (threads : ThreadSet) (req : Option ReqId) (time : ℕ) (c : Change)
      → begin_walk_with t kind dev threads req time (filled_change c) ≡ filled_change (begin_walk_with t kind dev threads req time c)
  begin_filled t kind dev threads req time c = go (is_nobody threads)
    where
      go : (b : Bool) → cond b (with_moves c.moves (over_nobody kind req (filled c.part)))
          (with_moves (c.moves ++ begun t c.part kind dev threads req time ∷ []) (numbered 1 (filled c.part)))
          ≡ filled_change (cond b (with_moves c.moves (over_nobody kind req c.part))
          (with_moves (c.moves ++ begun t c.part kind dev threads req time ∷ []) (numbered 1 c.part)))
      go true = ap (with_moves c.moves) (nobody_filled kind req c.part)
      go false = refl

  after_filled : (t : ℕ) (w : OpenWalk) (kind : WalkKind) (c : Change) → after_walk t w kind (filled_change c) ≡ filled_change (after_walk t w kind c)
  after_filled t w Freeze c =
      ap (λ p. begin_walk t Drain w.dev (drain_threads c.part w.request) w.request (with_moves c.moves p)) (staged_filled w.request stages.Draining c.part)
      ∙ begin_filled t Drain w.dev (drain_threads c.part w.request) w.request 0 (with_moves c.moves (staged w.request stages.Draining c.part))
  after_filled t w Drain c = ap (with_moves c.moves) (staged_filled w.request stages.Drained c.part)
  after_filled t w Thaw c = ap (with_moves c.moves) (staged_filled w.request stages.Thawed c.part)
  after_filled t w Removal c = refl

  pub walked_filled : (t : ℕ) (walk : WalkId) (w : OpenWalk) (p : Part) → walked t walk w (filled p) ≡ filled_change (walked t walk w p)
  walked_filled t walk w p = go (is_at_end t walk w)
    where
      left : Going → List Move
      left going = record { id = ids.Walk walk; kept = keeps.Walk w; going = going } ∷ []

      go : (b : Bool) → cond b (after_walk t w w.kind (with_moves (left Closed) (filled p))) (with_moves (left Here) (filled p))
          ≡ filled_change (cond b (after_walk t w w.kind (with_moves (left Closed) p)) (with_moves (left Here) p))
      go true = after_filled t w w.kind (with_moves (left Closed) p)
      go false = refl

  pub visit_filled : (setup : Setup) (t : ℕ) (v : View) (walk : WalkId) (dev : DevId) (kind : WalkKind) (x : Option OpenWalk)
      → walked_if_any t walk (marked_by setup t (filled_view v) walk dev kind) x ≡ filled_change (walked_if_any t walk (marked_by setup t v walk dev kind) x)
  visit_filled setup t v walk dev kind None = ap (with_moves []) (marked_filled setup t v walk dev kind)
  visit_filled setup t v walk dev kind (Some w) = ap (walked t walk (visited t w)) (marked_filled setup t v walk dev kind)
      ∙ walked_filled t walk (visited t w) (marked_by setup t v walk dev kind)

  went_filled : (t : ℕ) (req : ReqId) (threads : ThreadSet) (x : Option Resetting) (c : Change)
      → went t req threads x (filled_change c) ≡ filled_change (went t req threads x c)
  went_filled t req threads None c = refl
  went_filled t req threads (Some r) c = begin_filled t Freeze r.dev threads (Some req) r.time (with_moves c.moves (freezes req threads c.part))

  told_walk_filled : (t : ℕ) (told : News) (c : Change) → told_walk t told (filled_change c) ≡ filled_change (told_walk t told c)
  told_walk_filled t (news.Go req threads) c = went_filled t req threads (reset_of c.part req) c
  told_walk_filled t (news.Mark mark) c = refl
  told_walk_filled t (news.Gone handle) c = refl
  told_walk_filled t (news.Channel dev) c = refl
  told_walk_filled t (news.Device dev) c = refl
  told_walk_filled t (news.Grow dev blocks) c = refl
  told_walk_filled t (news.Sized handle blocks) c = refl

  pub notice_filled : (setup : Setup) (t : ℕ) (told : News) (p : Part) (moves : List Move)
      → told_walk t told (with_moves moves (told_part setup told (filled p)))
      ≡ filled_change (told_walk t told (with_moves moves (told_part setup told p)))
  notice_filled setup t told p moves = ap (λ q. told_walk t told (with_moves moves q)) (told_filled setup told p)
      ∙ told_walk_filled t told (with_moves moves (told_part setup told p))

  -- ---- the registry's events

  removing_filled : (setup : Setup) (t : ℕ) (a : Answer) (p : Part) → removing setup t a (filled p) ≡ filled_change (removing setup t a p)
  removing_filled setup t (answers.Removing dev threads handles destruct) p =
      begin_filled t Removal dev threads None 0 (alone (with_due (map gone_due handles ++ device_due setup destruct) p))
  removing_filled setup t _ p = refl

  begun_filled : (t : ℕ) (dev : DevId) (req : ReqId) (a : Answer) (p : Part) → reset_begun t dev req a (filled p) ≡ filled_change (reset_begun t dev req a p)
  begun_filled t dev req (answers.ResetStarted threads) p = begin_filled t Freeze dev threads (Some req) (drain_time p req) (alone (with_reset req dev stages.Freezing threads p))
  begun_filled t dev req _ p = refl

  thaws_filled : (t : ℕ) (dev : DevId) (a : Answer) (p : Part) → reset_thaws t dev a (filled p) ≡ filled_change (reset_thaws t dev a p)
  thaws_filled t dev (answers.ResetEnded threads) p =
      begin_filled t Thaw dev threads (first_req p.resets dev stages.Drained) 0 (alone (advanced dev stages.Drained stages.Thawing p))
  thaws_filled t dev _ p = refl

  injection_filled : (v : View) (req : ReqId) (a : Answer) → injection_taken (filled_view v) req a ≡ filled_change (injection_taken v req a)
  injection_filled v req (answers.Injected decision) = refl
  injection_filled v req _ = refl

  resizing_filled : (blocks : ℕ) (a : Answer) (p : Part) → resizing blocks a (filled p) ≡ filled (resizing blocks a p)
  resizing_filled blocks (answers.Resizing dev at) p = refl
  resizing_filled blocks _ p = refl

  resized_filled : (a : Answer) (p : Part) → resized a (filled p) ≡ filled (resized a p)
  resized_filled (answers.Resized handles blocks destruct) p = refl
  resized_filled _ p = refl

  pub reg_filled : (setup : Setup) (t : ℕ) (v : View) (came : Came) (event : RegEvent) (a : Answer)
      → change_reg setup t (filled_view v) came event a ≡ filled_change (change_reg setup t v came event a)
  reg_filled setup t v came (events.Open name write) a = refl
  reg_filled setup t v came (events.Claim id kind) a = refl
  reg_filled setup t v came (events.Close id) a = ap (λ p. alone (with_due (device_due setup (destruct_of a)) p)) (closed_filled setup came id a v.part)
  reg_filled setup t v came (events.GetChannel dev) a = ap alone (got_filled setup v dev a)
  reg_filled setup t v came (events.PutChannel dev closing) a = ap alone (put_filled t dev closing a v.part)
  reg_filled setup t v came (events.DropChannel dev) a =
      ap (λ p. alone (with_due (device_due setup (destruct_of a)) p)) (dropped_filled t dev a (paid (owes.Drop dev) v.part))
  reg_filled setup t v came (events.BeginRemove name) a =
      ap (removing setup t a) (removal_filled came a (device_named setup name) v.part)
      ∙ removing_filled setup t a (removal_paid came a (device_named setup name) v.part)
  reg_filled setup t v came (events.BeginReset dev req) a = begun_filled t dev req a v.part
  reg_filled setup t v came (events.EndReset dev) a = thaws_filled t dev a v.part
  reg_filled setup t v came (events.FinishReset dev) a = ap alone (finishes_filled dev a v.part)
  reg_filled setup t v came (events.TakeInjection dev req op) a = injection_filled v req a
  reg_filled setup t v came (events.Destructed dev) a = ap alone (freed_filled a (paid (owes.Report dev) v.part))
  reg_filled setup t v came (events.BeginResize name blocks) a = ap alone (resizing_filled blocks a (decided_by came a v.part))
  reg_filled setup t v came (events.EndResize dev) a =
      ap (λ p. alone (with_due (device_due setup (destruct_of a)) p)) (resized_filled a (paid (owes.EndResize dev) v.part))
