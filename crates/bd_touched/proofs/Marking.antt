-- What each act leaves of the marks of devices on its thread.
use Rattle.std.proofs.Common.{◌≡◌, ℕ, ◌+◌, ◌==◌, Bool, true, false, cond, ◌&&◌, List, [], ◌∷◌, Option, Some, None, unwrap_or, is_some, refl, ◌∙◌, ap, eq-eqb, eqb-true}
use Rattle.std.specs.List.{AllByRecursion, list_any}
use Rattle.bd_base.specs.declared.act.Act.{Act}
use Rattle.bd_base.specs.declared.act.Act.TheVariants as acts
use Rattle.bd_base.specs.declared.act.ApplyEnd.{ApplyEnd}
use Rattle.bd_base.specs.declared.act.Token.{Token}
use Rattle.bd_base.specs.declared.act.Token.TheVariants as tokens
use Rattle.bd_base.specs.declared.event.Answer.{Answer}
use Rattle.bd_base.specs.declared.event.Answer.TheVariants as answers
use Rattle.bd_base.specs.declared.event.RegEvent.{RegEvent}
use Rattle.bd_base.specs.declared.event.RegEvent.TheVariants as events
use Rattle.bd_base.specs.declared.id.DevId.{DevId}
use Rattle.bd_base.specs.declared.id.HandleId.{HandleId}
use Rattle.bd_base.specs.declared.id.ReqId.{ReqId}
use Rattle.bd_base.specs.declared.id.WalkId.{WalkId}
use Rattle.bd_base.specs.declared.request.WalkKind.{WalkKind}
use Rattle.bd_base.specs.declared.request.WalkKind.TheVariants.{Freeze, Drain, Thaw, Removal}
use Rattle.bd_base.specs.declared.setup.Setup.{Setup}
use Rattle.bd_base.specs.declared.thread_set.ThreadSet.{ThreadSet}
use Rattle.bd_machine.specs.declared.state.Base.{Base}
use Rattle.bd_machine.specs.declared.state.Id.{Id}
use Rattle.bd_machine.specs.declared.state.Kept.{Kept}
use Rattle.bd_machine.specs.declared.state.Kept.TheVariants as keeps
use Rattle.bd_machine.specs.declared.state.News.{News}
use Rattle.bd_machine.specs.declared.state.News.TheVariants as news
use Rattle.bd_machine.specs.declared.state.Marking.{Marking}
use Rattle.bd_machine.specs.declared.state.OpenPiece.{OpenPiece}
use Rattle.bd_machine.specs.declared.state.OpenRequest.{OpenRequest}
use Rattle.bd_machine.specs.declared.state.OpenWalk.{OpenWalk}
use Rattle.bd_machine.specs.declared.state.Owed.TheVariants as owes
use Rattle.bd_machine.specs.declared.state.Part.{Part}
use Rattle.bd_machine.specs.declared.state.Resetting.{Resetting}
use Rattle.bd_machine.specs.declared.state.Stage.{Stage}
use Rattle.bd_machine.specs.declared.state.Stage.TheVariants as stages
use Rattle.bd_machine.specs.declared.state.Trip.{Trip}
use Rattle.bd_machine.specs.declared.state.Trip.TheVariants as trips
use Rattle.bd_machine.specs.Aborts.{stopped}
use Rattle.bd_machine.specs.Admission.{is_gone}
use Rattle.bd_machine.specs.Asked.{owes_removal}
use Rattle.bd_machine.specs.BlockMap.{below, home, size_of}
use Rattle.bd_machine.specs.Changes.{is_dropped}
use Rattle.bd_machine.specs.Events.{decided_by, paid, owing, with_due, alone, closed_by, born, all_born, got_by, put_down_by, put_paid, dropped_by, removal_paid, with_reset, advanced, reset_finishes, freed_by, channel_due, removing, reset_begun, reset_thaws, injection_taken, drain_time, resizing, resized, change_reg, first_req}
use Rattle.bd_machine.specs.Guards.{change}
use Rattle.bd_machine.specs.Homes.{base_here, change_applied}
use Rattle.bd_machine.specs.Kept.{request_here, piece_here, walk_here}
use Rattle.bd_machine.specs.Limits.{arrived, departed, is_limited, next_limited, waits_at}
use Rattle.bd_machine.specs.Marks.{remarked, born_as, with_frozen, freeze_set, marking_of, removal_set, unmarked}
use Rattle.bd_machine.specs.declared.state.FreezeMark.TheVariants.{Not}
use Rattle.bd_machine.specs.Messages.{request_took, told_part, freezes, went, told_walk, taken_by, arrived_walk, closed_notice}
use Rattle.bd_machine.specs.Registry.{made, device_named}
use Rattle.bd_machine.specs.Same.{same_dev}
use Rattle.bd_machine.specs.Table.{look_up, write}
use Rattle.bd_machine.specs.Threads.{is_nobody}
use Rattle.bd_machine.specs.Users.{dev_of, is_base_handle}
use Rattle.bd_machine.specs.View.{View, Came, Change, id_of}
use Rattle.bd_machine.specs.Walks.{staged, numbered, over_nobody, begin_walk_with, begin_walk, time_of_walk, after_walk, is_at_end, walked, drain_threads, put_owed, marked_by, visited, walked_if_any, reset_of}
use Rattle.bd_machine.proofs.Tables.{look_up-write, IsSame}

pub dev_same : IsSame same_dev
dev_same = record { exact = λ a b h. ap dev_of (eqb-true a.0 b.0 h); same_self = λ a. eq-eqb a.0 a.0 refl }

-- these devices have the marks in the second part that they have in the first
module _ (Out : DevId → Type 0) where
  abbrev pub Holds : Part → Part → Type 0
  Holds p q = (d : DevId) → Out d → marking_of q d ≡ marking_of p d

  -- the device is none of these
  abbrev pub IsNone : DevId → Type 0
  IsNone dev = (d : DevId) → Out d → same_dev dev d ≡ false

  remarked_holds : (p : Part) (dev : DevId) (f : Marking → Marking) → IsNone dev → Holds p (remarked dev f p)
  remarked_holds p dev f none = λ d out.
      ap (λ (o : Option Marking). unwrap_or o unmarked)
      (look_up-write same_dev dev_same p.marked dev d (f (marking_of p dev)) ∙ ap (λ b. cond b (Some (f (marking_of p dev))) (look_up same_dev p.marked d)) (none d out))

  holds_then : (p q r : Part) → Holds p q → Holds q r → Holds p r
  holds_then p q r h k = λ d out. k d out ∙ h d out

  holds_cond : (b : Bool) (p q r : Part) → Holds p q → Holds p r → Holds p (cond b q r)
  holds_cond true p q r h k = h
  holds_cond false p q r h k = k

  change_cond : (b : Bool) (p : Part) (c d : Change) → Holds p c.part → Holds p d.part → Holds p (cond b c d).part
  change_cond true p c d h k = h
  change_cond false p c d h k = k

  -- ---- words

  closed_holds : (setup : Setup) (came : Came) (id : HandleId) (a : Answer) (p : Part) → Holds p (closed_by setup came id a p)
  closed_holds setup came id a p =
      holds_cond (is_base_handle setup id) p (paid (owes.Close id) p) (cond (is_gone p id) p (decided_by came a p)) (λ d out. refl)
      (holds_cond (is_gone p id) p p (decided_by came a p) (λ d out. refl) (λ d out. refl))

  born_holds : (frozen ds : List DevId) (p : Part) → AllByRecursion IsNone ds → Holds p (all_born frozen ds p)
  born_holds frozen [] p none = λ d out. refl
  born_holds frozen (x ∷ xs) p none = holds_then p (born frozen x p) (all_born frozen xs (born frozen x p)) (remarked_holds p x (with_frozen (born_as (list_any (same_dev x) frozen))) none.0) (born_holds frozen xs (born frozen x p) none.1)

  -- those of these whose channels are made are some of these
  made_none : (channels : DevId → Option ℕ) (ds : List DevId) → AllByRecursion IsNone ds → AllByRecursion IsNone (made channels ds)
  made_none channels [] none = tt
  made_none channels (x ∷ xs) none = go (is_some (channels x)) (made_none channels xs none.1)
    where
      go : (b : Bool) → AllByRecursion IsNone (made channels xs) → AllByRecursion IsNone (cond b [] (x ∷ made channels xs))
      go true rest = tt
      go false rest = (none.0, rest)

  got_holds : (setup : Setup) (v : View) (dev : DevId) (a : Answer) → AllByRecursion IsNone (below setup dev) → Holds v.part (got_by setup v dev a)
  got_holds setup v dev (answers.Got fresh frozen) none = born_holds frozen (made v.channels (below setup dev)) v.part (made_none v.channels (below setup dev) none)
  got_holds setup v dev _ none = λ d out. refl

  put_holds : (t : ℕ) (dev : DevId) (closing : Bool) (a : Answer) (p : Part) → Holds p (put_down_by t dev a (put_paid dev closing p))
  put_holds t dev true (answers.PutDown left) p = λ d out. refl
  put_holds t dev false (answers.PutDown left) p = λ d out. refl
  put_holds t dev true _ p = λ d out. refl
  put_holds t dev false _ p = λ d out. refl

  dropped_holds : (t : ℕ) (dev : DevId) (a : Answer) (p : Part) → IsNone dev → Holds p (dropped_by t dev a p)
  dropped_holds t dev (answers.Dropped what zero destruct) p none =
      let q : Part = cond (is_dropped what) (remarked dev (with_frozen Not) p) p in
      holds_then p q (with_due (channel_due t zero) q) (holds_cond (is_dropped what) p (remarked dev (with_frozen Not) p) p (remarked_holds p dev (with_frozen Not) none) (λ d out. refl)) (λ d out. refl)
  dropped_holds t dev _ p none = λ d out. refl

  removal_holds : (came : Came) (a : Answer) (o : Option ℕ) (p : Part) → Holds p (removal_paid came a o p)
  removal_holds came a None p = λ d out. refl
  removal_holds came a (Some n) p =
      holds_cond (owes_removal p (Some n)) p (paid (owes.Remove (record { 0 = n })) p) (decided_by came a p) (λ d out. refl) (λ d out. refl)

  finishes_holds : (dev : DevId) (a : Answer) (p : Part) → Holds p (reset_finishes dev a p)
  finishes_holds dev (answers.ResetFinished next) p = λ d out. refl
  finishes_holds dev _ p = λ d out. refl

  freed_holds : (a : Answer) (p : Part) → Holds p (freed_by a p)
  freed_holds (answers.Freed (Some id)) p = λ d out. refl
  freed_holds (answers.Freed None) p = λ d out. refl
  freed_holds _ p = λ d out. refl

  staged_holds : (req : Option ReqId) (stage : Stage) (p : Part) → Holds p (staged req stage p)
  staged_holds None stage p = λ d out. refl
  staged_holds (Some req) stage p = λ d out. refl

  abbrev pub SparesVisit : DevId → WalkKind → Type 0
  SparesVisit dev Drain = Unit {0}
  SparesVisit dev _ = IsNone dev

  marked_holds : (setup : Setup) (t : ℕ) (v : View) (walk : WalkId) (dev : DevId) (kind : WalkKind) → SparesVisit dev kind → Holds v.part (marked_by setup t v walk dev kind)
  marked_holds setup t v walk dev Freeze none =
      let set : Marking → Marking = freeze_set walk (time_of_walk (walk_here v walk)) in
      holds_cond _ v.part (remarked dev set v.part) v.part (remarked_holds v.part dev set none) (λ d out. refl)
  marked_holds setup t v walk dev Drain none = λ d out. refl
  marked_holds setup t v walk dev Thaw none = remarked_holds v.part dev (with_frozen Not) none
  marked_holds setup t v walk dev Removal none =
      let p : Part = remarked dev removal_set v.part in
      holds_then v.part p (put_owed setup t dev p) (remarked_holds v.part dev removal_set none) (holds_cond (is_limited setup dev && (home setup dev == t)) p (owing (owes.Put dev) p) p (λ d out. refl) (λ d out. refl))

  told_holds : (setup : Setup) (told : News) (p : Part) → Holds p (told_part setup told p)
  told_holds setup (news.Mark mark) p = λ d out. refl
  told_holds setup (news.Gone handle) p = λ d out. refl
  told_holds setup (news.Channel dev) p = λ d out. refl
  told_holds setup (news.Device dev) p = λ d out. refl
  told_holds setup (news.Go req threads) p = λ d out. refl
  told_holds setup (news.Grow dev blocks) p = λ d out. refl
  told_holds setup (news.Sized handle blocks) p = λ d out. refl

  -- ---- walks

  nobody_holds : (kind : WalkKind) (req : Option ReqId) (p : Part) → Holds p (over_nobody kind req p)
  nobody_holds Freeze req p = holds_then p (numbered 2 p) (staged req stages.Drained (numbered 2 p)) (λ d out. refl) (staged_holds req stages.Drained (numbered 2 p))
  nobody_holds Drain req p = holds_then p (numbered 1 p) (staged req stages.Drained (numbered 1 p)) (λ d out. refl) (staged_holds req stages.Drained (numbered 1 p))
  nobody_holds Thaw req p = holds_then p (numbered 1 p) (staged req stages.Thawed (numbered 1 p)) (λ d out. refl) (staged_holds req stages.Thawed (numbered 1 p))
  nobody_holds Removal req p = λ d out. refl

  begin_holds : (t : ℕ) (kind : WalkKind) (dev : DevId) (threads : ThreadSet) (req : Option ReqId) (time : ℕ) (c : Change) → Holds c.part (begin_walk_with t kind dev threads req time c).part
  begin_holds t kind dev threads req time c = change_cond (is_nobody threads) c.part _ _ (nobody_holds kind req c.part) (λ d out. refl)

  after_holds : (t : ℕ) (w : OpenWalk) (kind : WalkKind) (c : Change) → Holds c.part (after_walk t w kind c).part
  after_holds t w Freeze c =
      let d : Change = record { part = staged w.request stages.Draining c.part; moves = c.moves } in
      holds_then c.part d.part (begin_walk t Drain w.dev (drain_threads c.part w.request) w.request d).part (staged_holds w.request stages.Draining c.part) (begin_holds t Drain w.dev (drain_threads c.part w.request) w.request 0 d)
  after_holds t w Drain c = staged_holds w.request stages.Drained c.part
  after_holds t w Thaw c = staged_holds w.request stages.Thawed c.part
  after_holds t w Removal c = λ d out. refl

  walked_holds : (t : ℕ) (walk : WalkId) (w : OpenWalk) (p : Part) → Holds p (walked t walk w p).part
  walked_holds t walk w p = change_cond (is_at_end t walk w) p _ _ (after_holds t w w.kind _) (λ d out. refl)

  walked_if_holds : (t : ℕ) (walk : WalkId) (p : Part) (x : Option OpenWalk) → Holds p (walked_if_any t walk p x).part
  walked_if_holds t walk p None = λ d out. refl
  walked_if_holds t walk p (Some w) = walked_holds t walk (visited t w) p

  went_holds : (t : ℕ) (req : ReqId) (threads : ThreadSet) (x : Option Resetting) (c : Change) → Holds c.part (went t req threads x c).part
  went_holds t req threads None c = λ d out. refl
  went_holds t req threads (Some r) c =
      let d : Change = record { part = freezes req threads c.part; moves = c.moves } in
      holds_then c.part d.part (begin_walk_with t Freeze r.dev threads (Some req) r.time d).part (λ d out. refl) (begin_holds t Freeze r.dev threads (Some req) r.time d)

  told_walk_holds : (t : ℕ) (told : News) (c : Change) → Holds c.part (told_walk t told c).part
  told_walk_holds t (news.Go req threads) c = went_holds t req threads (reset_of c.part req) c
  told_walk_holds t (news.Mark mark) c = λ d out. refl
  told_walk_holds t (news.Gone handle) c = λ d out. refl
  told_walk_holds t (news.Channel dev) c = λ d out. refl
  told_walk_holds t (news.Device dev) c = λ d out. refl
  told_walk_holds t (news.Grow dev blocks) c = λ d out. refl
  told_walk_holds t (news.Sized handle blocks) c = λ d out. refl

  -- none of these devices is one whose marks the act may change
  abbrev pub SparesEvent : Setup → RegEvent → Type 0
  SparesEvent setup (events.GetChannel dev) = AllByRecursion IsNone (below setup dev)
  SparesEvent setup (events.DropChannel dev) = IsNone dev
  SparesEvent setup _ = Unit {0}

  abbrev pub Spares : Setup → Act → Type 0
  Spares setup (acts.Reg event a) = SparesEvent setup event
  Spares setup (acts.Visit walk dev kind) = SparesVisit dev kind
  Spares setup (acts.Grace walk until) = ⊥
  Spares setup (acts.Due walk now) = ⊥
  Spares setup _ = Unit {0}

  -- ---- messages taken

  arrived_holds : (p : Part) (req : ReqId) (o : Option DevId) → Holds p (arrived p req o)
  arrived_holds p req None = λ d out. refl
  arrived_holds p req (Some dev) = λ d out. refl

  came_holds : (setup : Setup) (req : ReqId) (r : OpenRequest) (trip : Trip) (p : Part) → Holds p (request_took setup req r trip p)
  came_holds setup req r trips.Out p = arrived_holds p req (next_limited setup r)
  came_holds setup req r trips.Own p = λ d out. refl
  came_holds setup req r trips.Passed p = λ d out. refl

  told_all : (setup : Setup) (t : ℕ) (p : Part) (told : News) (id : Id) → Holds p (told_walk t told (record { part = told_part setup told p; moves = closed_notice id told })).part
  told_all setup t p told id =
      let c : Change = record { part = told_part setup told p; moves = closed_notice id told } in holds_then p c.part (told_walk t told c).part (told_holds setup told p) (told_walk_holds t told c)

  taken_holds : (setup : Setup) (t : ℕ) (what : Token) (p : Part) (x : Option Kept) (id : Id) → Holds p (taken_by setup t what p x id).part
  taken_holds setup t what p None id = none what
    where
      none : (what : Token) → Holds p (taken_by setup t what p None id).part
      none (tokens.Request req) = λ d out. refl
      none _ = λ d out. refl
  taken_holds setup t (tokens.Request req) p (Some (keeps.Request r)) id = came_holds setup req r r.trip p
  taken_holds setup t (tokens.Walk walk) p (Some (keeps.Walk w)) id = walked_holds t walk (arrived_walk w) p
  taken_holds setup t (tokens.Request req) p (Some (keeps.Notice told)) id = told_all setup t p told id
  taken_holds setup t what p (Some (keeps.Notice told)) id = told_all setup t p told id
  taken_holds setup t _ p _ id = λ d out. refl

  -- ---- the registry's events

  removing_holds : (setup : Setup) (t : ℕ) (a : Answer) (p : Part) → Holds p (removing setup t a p).part
  removing_holds setup t (answers.Removing dev threads handles destruct) p =
      let c : Change = alone (with_due _ p) in
      holds_then p c.part (begin_walk t Removal dev threads None c).part (λ d out. refl) (begin_holds t Removal dev threads None 0 c)
  removing_holds setup t _ p = λ d out. refl

  begun_holds : (t : ℕ) (dev : DevId) (req : ReqId) (a : Answer) (p : Part) → Holds p (reset_begun t dev req a p).part
  begun_holds t dev req (answers.ResetStarted threads) p =
      let c : Change = alone (with_reset req dev stages.Freezing threads p) in
      let time : ℕ = drain_time p req in
      holds_then p c.part (begin_walk_with t Freeze dev threads (Some req) time c).part (λ d out. refl) (begin_holds t Freeze dev threads (Some req) time c)
  begun_holds t dev req _ p = λ d out. refl

  thaws_holds : (t : ℕ) (dev : DevId) (a : Answer) (p : Part) → Holds p (reset_thaws t dev a p).part
  thaws_holds t dev (answers.ResetEnded threads) p =
      let c : Change = alone (advanced dev stages.Drained stages.Thawing p) in
      holds_then p c.part (begin_walk t Thaw dev threads (first_req p.resets dev stages.Drained) c).part (λ d out. refl) (begin_holds t Thaw dev threads (first_req p.resets dev stages.Drained) 0 c)
  thaws_holds t dev _ p = λ d out. refl

  injection_holds : (v : View) (req : ReqId) (a : Answer) → Holds v.part (injection_taken v req a).part
  injection_holds v req (answers.Injected decision) = λ d out. refl
  injection_holds v req _ = λ d out. refl

  resizing_holds : (blocks : ℕ) (a : Answer) (p : Part) → Holds p (resizing blocks a p)
  resizing_holds blocks (answers.Resizing dev at) p = λ d out. refl
  resizing_holds blocks _ p = λ d out. refl

  resized_holds : (a : Answer) (p : Part) → Holds p (resized a p)
  resized_holds (answers.Resized handles blocks destruct) p = λ d out. refl
  resized_holds _ p = λ d out. refl

  reg_holds : (setup : Setup) (t : ℕ) (v : View) (came : Came) (event : RegEvent) (a : Answer) → Spares setup (acts.Reg event a) → Holds v.part (change_reg setup t v came event a).part
  reg_holds setup t v came (events.Open name write) a spares = λ d out. refl
  reg_holds setup t v came (events.Claim id kind) a spares = λ d out. refl
  reg_holds setup t v came (events.Close id) a spares = λ d out. closed_holds setup came id a v.part d out
  reg_holds setup t v came (events.GetChannel dev) a spares = got_holds setup v dev a spares
  reg_holds setup t v came (events.PutChannel dev closing) a spares = put_holds t dev closing a v.part
  reg_holds setup t v came (events.DropChannel dev) a spares = λ d out. dropped_holds t dev a (paid (owes.Drop dev) v.part) spares d out
  reg_holds setup t v came (events.BeginRemove name) a spares =
      let p : Part = removal_paid came a (device_named setup name) v.part in
      holds_then v.part p (removing setup t a p).part (removal_holds came a (device_named setup name) v.part) (removing_holds setup t a p)
  reg_holds setup t v came (events.BeginReset dev req) a spares = begun_holds t dev req a v.part
  reg_holds setup t v came (events.EndReset dev) a spares = thaws_holds t dev a v.part
  reg_holds setup t v came (events.FinishReset dev) a spares = finishes_holds dev a v.part
  reg_holds setup t v came (events.TakeInjection dev req op) a spares = injection_holds v req a
  reg_holds setup t v came (events.Destructed dev) a spares = λ d out. freed_holds a (paid (owes.Report dev) v.part) d out
  reg_holds setup t v came (events.BeginResize name blocks) a spares = λ d out. resizing_holds blocks a (decided_by came a v.part) d out
  reg_holds setup t v came (events.EndResize dev) a spares = λ d out. resized_holds a (paid (owes.EndResize dev) v.part) d out

  -- ---- acts

  applied_holds : (v : View) (req : ReqId) (k : ℕ) (dev : DevId) (end : ApplyEnd) (size : ℕ) (x : Option OpenPiece) (b : Option Base) → Holds v.part (change_applied v req k dev end size x b).part
  applied_holds v req k dev end size (Some p) (Some b) = λ d out. refl
  applied_holds v req k dev end size _ _ = λ d out. refl

  visit_holds : (setup : Setup) (t : ℕ) (v : View) (walk : WalkId) (dev : DevId) (kind : WalkKind) → SparesVisit dev kind → Holds v.part (walked_if_any t walk (marked_by setup t v walk dev kind) (walk_here v walk)).part
  visit_holds setup t v walk dev kind none =
      let p : Part = marked_by setup t v walk dev kind in
      holds_then v.part p (walked_if_any t walk p (walk_here v walk)).part (marked_holds setup t v walk dev kind none) (walked_if_holds t walk p (walk_here v walk))

  stopped_holds : (setup : Setup) (p : Part) (req : ReqId) (x : Option OpenRequest) → Holds p (stopped setup p req x)
  stopped_holds setup p req None = λ d out. refl
  stopped_holds setup p req (Some r) = go (waits_at setup r)
    where
      go : (o : Option DevId) → Holds p (departed p req o)
      go None = λ d out. refl
      go (Some dev) = λ d out. refl

  -- an act leaves the marks of these devices, where they are none that it may change
  pub marks_stay : (setup : Setup) (t : ℕ) (v : View) (act : Act) (came : Came) → Spares setup act → Holds v.part (change setup t v act came).part
  marks_stay setup t v (acts.Took source number what) came spares = λ d out. taken_holds setup t what (record v.part { taken = write ◌==◌ v.part.taken source (number + 1) }) came.message (id_of source t number what) d out
  marks_stay setup t v (acts.Reg event a) came spares = λ d out. reg_holds setup t v came event a spares d out
  marks_stay setup t v (acts.Apply req k dev end) came spares = λ d out. applied_holds v req k dev end (size_of setup dev) (piece_here v req k) (base_here v dev) d out
  marks_stay setup t v (acts.Visit walk dev kind) came spares = λ d out. visit_holds setup t v walk dev kind spares d out
  marks_stay setup t v (acts.Abort req cause) came spares = λ d out. stopped_holds setup v.part req (request_here v req) d out
  marks_stay setup t v (acts.Grace walk until) came spares = absurd spares
  marks_stay setup t v (acts.Due walk now) came spares = absurd spares
  marks_stay setup t v _ came spares = λ d out. refl
