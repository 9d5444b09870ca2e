-- The row of one reset on the thread that asked for it, and that a reset whose walks began doesn't wait any more.
use Rattle.std.proofs.Common.{◌≡◌, ℕ, ◌==◌, Bool, true, false, cond, not, ◌&&◌, List, [], ◌∷◌, ◌++◌, map, Option, Some, None, refl, sym, ◌∙◌, subst, append-nil}
use Rattle.std.specs.List.{filter, find}
use Rattle.bd_base.specs.declared.act.Act.{Act}
use Rattle.bd_base.specs.declared.act.Act.TheVariants as acts
use Rattle.bd_base.specs.declared.act.ApplyEnd.{ApplyEnd}
use Rattle.bd_base.specs.declared.act.Token.{Token}
use Rattle.bd_base.specs.declared.act.Token.TheVariants as tokens
use Rattle.bd_base.specs.declared.event.Answer.{Answer}
use Rattle.bd_base.specs.declared.event.Answer.TheVariants as answers
use Rattle.bd_base.specs.declared.event.RegEvent.{RegEvent}
use Rattle.bd_base.specs.declared.event.RegEvent.TheVariants as events
use Rattle.bd_base.specs.declared.id.DevId.{DevId}
use Rattle.bd_base.specs.declared.id.HandleId.{HandleId}
use Rattle.bd_base.specs.declared.id.ReqId.{ReqId}
use Rattle.bd_base.specs.declared.id.WalkId.{WalkId}
use Rattle.bd_base.specs.declared.request.WalkKind.{WalkKind}
use Rattle.bd_base.specs.declared.request.WalkKind.TheVariants.{Freeze, Drain, Thaw, Removal}
use Rattle.bd_base.specs.declared.setup.Setup.{Setup}
use Rattle.bd_base.specs.declared.thread_set.ThreadSet.{ThreadSet}
use Rattle.bd_machine.specs.declared.state.Base.{Base}
use Rattle.bd_machine.specs.declared.state.Id.{Id}
use Rattle.bd_machine.specs.declared.state.Kept.{Kept}
use Rattle.bd_machine.specs.declared.state.Kept.TheVariants as keeps
use Rattle.bd_machine.specs.declared.state.News.{News}
use Rattle.bd_machine.specs.declared.state.News.TheVariants as news
use Rattle.bd_machine.specs.declared.state.OpenPiece.{OpenPiece}
use Rattle.bd_machine.specs.declared.state.OpenRequest.{OpenRequest}
use Rattle.bd_machine.specs.declared.state.OpenWalk.{OpenWalk}
use Rattle.bd_machine.specs.declared.state.Owed.TheVariants as owes
use Rattle.bd_machine.specs.declared.state.Part.{Part}
use Rattle.bd_machine.specs.declared.state.Resetting.{Resetting}
use Rattle.bd_machine.specs.declared.state.Stage.{Stage}
use Rattle.bd_machine.specs.declared.state.Stage.TheVariants as stages
use Rattle.bd_machine.specs.declared.state.Trip.{Trip}
use Rattle.bd_machine.specs.declared.state.Trip.TheVariants as trips
use Rattle.bd_machine.specs.Aborts.{stopped}
use Rattle.bd_machine.specs.Admission.{is_gone}
use Rattle.bd_machine.specs.Asked.{owes_removal, is_reset_at}
use Rattle.bd_machine.specs.BlockMap.{below, home, size_of}
use Rattle.bd_machine.specs.Changes.{is_dropped}
use Rattle.bd_machine.specs.Events.{decided_by, paid, owing, with_due, alone, closed_by, born, all_born, got_by, put_paid, removal_paid, with_reset, advanced, freed_by, removing, reset_begun, reset_thaws, reset_finishes, injection_taken, drain_time, resizing, resized, change_reg, first_req, dropped_by, put_down_by}
use Rattle.bd_machine.specs.Guards.{change}
use Rattle.bd_machine.specs.Homes.{base_here, change_applied}
use Rattle.bd_machine.specs.Kept.{request_here, piece_here, walk_here}
use Rattle.bd_machine.specs.Limits.{arrived, departed, is_limited, next_limited, waits_at}
use Rattle.bd_machine.specs.declared.state.Marking.{Marking}
use Rattle.bd_machine.specs.declared.state.FreezeMark.TheVariants.{Not}
use Rattle.bd_machine.specs.Grace.{dev_if_any, ended, ending_mark, remarked_if_any, softened}
use Rattle.bd_machine.specs.Marks.{remarked, with_frozen, with_until, hardened, freeze_set, removal_set}
use Rattle.bd_machine.specs.Messages.{request_took, told_part, freezing, freezes, went, told_walk, taken_by, arrived_walk}
use Rattle.bd_machine.specs.Registry.{made, device_named}
use Rattle.bd_machine.specs.Threads.{is_nobody}
use Rattle.bd_machine.specs.Users.{is_base_handle}
use Rattle.bd_machine.specs.View.{View, Came, Change, id_of}
use Rattle.bd_machine.specs.Walks.{is_reset_of, at_stage, staged, numbered, over_nobody, begin_walk_with, time_of_walk, after_walk, is_at_end, walked, drain_threads, put_owed, marked_by, visited, walked_if_any, reset_of}
use Rattle.bd_machine.proofs.Laws.{filter_push, filter_twice, filter_map_commutes}
use Rattle.bd_machine.proofs.Tables.{request_same}
use Rattle.bd_law_runs.proofs.Fields.{taken_before}

-- the rows of a reset
abbrev pub mine : ReqId → List Resetting → List Resetting
mine reset rows = filter (is_reset_of reset) rows

abbrev pub is_queued : Stage → Bool
is_queued stages.Queued = true
is_queued _ = false

-- there is one row, and it doesn't wait
abbrev pub Begun : List Resetting → Type 0
Begun [] = ⊥
Begun (x ∷ []) = is_queued x.stage ≡ false
Begun (x ∷ y ∷ xs) = ⊥

pub mine_is : (reset : ReqId) (rows : List Resetting) (x : Resetting) (xs : List Resetting) → mine reset rows ≡ x ∷ xs → is_reset_of reset x ≡ true
mine_is reset [] x xs h = cc
mine_is reset (r ∷ rs) x xs h = go (is_reset_of reset r) refl h (mine_is reset rs x xs)
  where
    go : (b : Bool) → is_reset_of reset r ≡ b → cond b (r ∷ mine reset rs) (mine reset rs) ≡ x ∷ xs → (mine reset rs ≡ x ∷ xs → is_reset_of reset x ≡ true) → is_reset_of reset x ≡ true
    go true e h rest = let same : r ≡ x = cc in subst (λ (y : Resetting). is_reset_of reset y ≡ true) same e
    go false e h rest = rest h

-- the first row is the reset's
abbrev pub first_row : List Resetting → Option Resetting
first_row [] = None
first_row (x ∷ xs) = Some x

pub found_first : (reset : ReqId) (rows : List Resetting) → find (is_reset_of reset) rows ≡ first_row (mine reset rows)
found_first reset [] = refl
found_first reset (r ∷ rs) = go (is_reset_of reset r) (found_first reset rs)
  where
    go : (b : Bool) → find (is_reset_of reset) rs ≡ first_row (mine reset rs) → cond b (Some r) (find (is_reset_of reset) rs) ≡ first_row (cond b (r ∷ mine reset rs) (mine reset rs))
    go true ih = refl
    go false ih = ih

-- ---- what a word makes of the rows

pub at_stage_keeps : (reset req : ReqId) (stage : Stage) (x : Resetting) → is_reset_of reset (at_stage req stage x) ≡ is_reset_of reset x
at_stage_keeps reset req stage x = go (is_reset_of req x)
  where
    go : (b : Bool) → is_reset_of reset (cond b (record x { stage = stage }) x) ≡ is_reset_of reset x
    go true = refl
    go false = refl

pub freezing_keeps : (reset req : ReqId) (threads : ThreadSet) (x : Resetting) → is_reset_of reset (freezing req threads x) ≡ is_reset_of reset x
freezing_keeps reset req threads x = go (is_reset_of req x)
  where
    go : (b : Bool) → is_reset_of reset (cond b (record x { stage = stages.Freezing; threads = threads }) x) ≡ is_reset_of reset x
    go true = refl
    go false = refl

-- a reset that is at one stage of a device comes to another
abbrev pub moved_on : DevId → Stage → Stage → Resetting → Resetting
moved_on dev old new x = cond (is_reset_at dev old x) (record x { stage = new }) x

pub moved_on_keeps : (reset : ReqId) (dev : DevId) (old new : Stage) (x : Resetting) → is_reset_of reset (moved_on dev old new x) ≡ is_reset_of reset x
moved_on_keeps reset dev old new x = go (is_reset_at dev old x)
  where
    go : (b : Bool) → is_reset_of reset (cond b (record x { stage = new }) x) ≡ is_reset_of reset x
    go true = refl
    go false = refl

pub mine_staged : (reset req : ReqId) (stage : Stage) (p : Part) → mine reset (staged (Some req) stage p).resets ≡ map (at_stage req stage) (mine reset p.resets)
mine_staged reset req stage p = filter_map_commutes (is_reset_of reset) (at_stage req stage) (at_stage_keeps reset req stage) p.resets

pub mine_freezes : (reset req : ReqId) (threads : ThreadSet) (p : Part) → mine reset (freezes req threads p).resets ≡ map (freezing req threads) (mine reset p.resets)
mine_freezes reset req threads p = filter_map_commutes (is_reset_of reset) (freezing req threads) (freezing_keeps reset req threads) p.resets

pub mine_advanced : (reset : ReqId) (dev : DevId) (old new : Stage) (p : Part) → mine reset (advanced dev old new p).resets ≡ map (moved_on dev old new) (mine reset p.resets)
mine_advanced reset dev old new p = filter_map_commutes (is_reset_of reset) (moved_on dev old new) (moved_on_keeps reset dev old new) p.resets

pub mine_appended : (reset req : ReqId) (dev : DevId) (stage : Stage) (threads : ThreadSet) (p : Part)
    → mine reset (with_reset req dev stage threads p).resets ≡ mine reset p.resets ++ cond (is_reset_of reset (record { req = req; dev = dev; stage = stage; threads = threads; time = drain_time p req })) (record { req = req; dev = dev; stage = stage; threads = threads; time = drain_time p req } ∷ []) []
mine_appended reset req dev stage threads p = filter_push (is_reset_of reset) p.resets (record { req = req; dev = dev; stage = stage; threads = threads; time = drain_time p req })

-- ---- words that leave resets and what is due

pub record Leaves (p q : Part) : Type 0 where
  pub resets : q.resets ≡ p.resets
  pub due : q.due ≡ p.due

pub leaves_then : (p q r : Part) → Leaves p q → Leaves q r → Leaves p r
leaves_then p q r h k = record { resets = k.resets ∙ h.resets; due = k.due ∙ h.due }

leaves_cond : (b : Bool) (p q r : Part) → Leaves p q → Leaves p r → Leaves p (cond b q r)
leaves_cond true p q r h k = h
leaves_cond false p q r h k = k

pub closed_leaves : (setup : Setup) (came : Came) (id : HandleId) (a : Answer) (p : Part) → Leaves p (closed_by setup came id a p)
closed_leaves setup came id a p =
    leaves_cond (is_base_handle setup id) p (paid (owes.Close id) p) (cond (is_gone p id) p (decided_by came a p)) (record { resets = refl; due = refl })
    (leaves_cond (is_gone p id) p p (decided_by came a p) (record { resets = refl; due = refl }) (record { resets = refl; due = refl }))

born_leaves : (frozen ds : List DevId) (p : Part) → Leaves p (all_born frozen ds p)
born_leaves frozen [] p = record { resets = refl; due = refl }
born_leaves frozen (d ∷ ds) p = leaves_then p (born frozen d p) (all_born frozen ds (born frozen d p)) (record { resets = refl; due = refl }) (born_leaves frozen ds (born frozen d p))

pub got_leaves : (setup : Setup) (v : View) (dev : DevId) (a : Answer) → Leaves v.part (got_by setup v dev a)
got_leaves setup v dev (answers.Got fresh frozen) = born_leaves frozen (made v.channels (below setup dev)) v.part
got_leaves setup v dev _ = record { resets = refl; due = refl }

pub put_leaves : (dev : DevId) (closing : Bool) (p : Part) → Leaves p (put_paid dev closing p)
put_leaves dev closing p = leaves_cond closing p p (paid (owes.Put dev) p) (record { resets = refl; due = refl }) (record { resets = refl; due = refl })

pub dropped_leaves : (dev : DevId) (b : Bool) (p : Part) → Leaves p (cond b (remarked dev (with_frozen Not) p) p)
dropped_leaves dev b p = leaves_cond b p (remarked dev (with_frozen Not) p) p (record { resets = refl; due = refl }) (record { resets = refl; due = refl })

pub removal_leaves : (came : Came) (a : Answer) (o : Option ℕ) (p : Part) → Leaves p (removal_paid came a o p)
removal_leaves came a None p = record { resets = refl; due = refl }
removal_leaves came a (Some n) p =
    leaves_cond (owes_removal p (Some n)) p (paid (owes.Remove (record { 0 = n })) p) (decided_by came a p) (record { resets = refl; due = refl }) (record { resets = refl; due = refl })

pub freed_leaves : (a : Answer) (p : Part) → Leaves p (freed_by a p)
freed_leaves (answers.Freed (Some id)) p = record { resets = refl; due = refl }
freed_leaves (answers.Freed None) p = record { resets = refl; due = refl }
freed_leaves _ p = record { resets = refl; due = refl }

pub marked_leaves : (setup : Setup) (t : ℕ) (v : View) (walk : WalkId) (dev : DevId) (kind : WalkKind) → Leaves v.part (marked_by setup t v walk dev kind)
marked_leaves setup t v walk dev Freeze = leaves_cond _ v.part (remarked dev (freeze_set walk (time_of_walk (walk_here v walk))) v.part) v.part (record { resets = refl; due = refl }) (record { resets = refl; due = refl })
marked_leaves setup t v walk dev Drain = record { resets = refl; due = refl }
marked_leaves setup t v walk dev Thaw = record { resets = refl; due = refl }
marked_leaves setup t v walk dev Removal =
    let p : Part = remarked dev removal_set v.part in
    leaves_then v.part p (put_owed setup t dev p) (record { resets = refl; due = refl }) (leaves_cond (is_limited setup dev && (home setup dev == t)) p (owing (owes.Put dev) p) p (record { resets = refl; due = refl }) (record { resets = refl; due = refl }))

pub told_leaves : (setup : Setup) (told : News) (p : Part) → Leaves p (told_part setup told p)
told_leaves setup (news.Mark mark) p = record { resets = refl; due = refl }
told_leaves setup (news.Gone handle) p = record { resets = refl; due = refl }
told_leaves setup (news.Channel dev) p = record { resets = refl; due = refl }
told_leaves setup (news.Device dev) p = record { resets = refl; due = refl }
told_leaves setup (news.Go req threads) p = record { resets = refl; due = refl }
told_leaves setup (news.Grow dev blocks) p = record { resets = refl; due = refl }
told_leaves setup (news.Sized handle blocks) p = record { resets = refl; due = refl }

pub remarked_leaves : (o : Option DevId) (f : Marking → Marking) (p : Part) → Leaves p (remarked_if_any o f p)
remarked_leaves None f p = record { resets = refl; due = refl }
remarked_leaves (Some dev) f p = record { resets = refl; due = refl }

pub ended_leaves : (walk : WalkId) (now : ℕ) (p : Part) → Leaves p (ended walk now p)
ended_leaves walk now p =
    let q : Part = remarked_if_any (dev_if_any (ending_mark p walk)) hardened p in
    leaves_then p q (ended walk now p) (remarked_leaves (dev_if_any (ending_mark p walk)) hardened p) (record { resets = refl; due = refl })

arrived_leaves : (p : Part) (req : ReqId) (o : Option DevId) → Leaves p (arrived p req o)
arrived_leaves p req None = record { resets = refl; due = refl }
arrived_leaves p req (Some dev) = record { resets = refl; due = refl }

pub came_leaves : (setup : Setup) (req : ReqId) (r : OpenRequest) (trip : Trip) (p : Part) → Leaves p (request_took setup req r trip p)
came_leaves setup req r trips.Out p = arrived_leaves p req (next_limited setup r)
came_leaves setup req r trips.Own p = record { resets = refl; due = refl }
came_leaves setup req r trips.Passed p = record { resets = refl; due = refl }

departed_leaves : (p : Part) (req : ReqId) (o : Option DevId) → Leaves p (departed p req o)
departed_leaves p req None = record { resets = refl; due = refl }
departed_leaves p req (Some dev) = record { resets = refl; due = refl }

pub stopped_leaves : (setup : Setup) (p : Part) (req : ReqId) (x : Option OpenRequest) → Leaves p (stopped setup p req x)
stopped_leaves setup p req None = record { resets = refl; due = refl }
stopped_leaves setup p req (Some r) = departed_leaves p req (waits_at setup r)

pub applied_leaves : (v : View) (req : ReqId) (k : ℕ) (dev : DevId) (end : ApplyEnd) (size : ℕ) (x : Option OpenPiece) (b : Option Base) → Leaves v.part (change_applied v req k dev end size x b).part
applied_leaves v req k dev end size (Some p) (Some b) = record { resets = refl; due = refl }
applied_leaves v req k dev end size _ _ = record { resets = refl; due = refl }

-- ---- a reset that began doesn't wait again

module _ (reset : ReqId) where
  abbrev pub BegunIn : Part → Type 0
  BegunIn p = Begun (mine reset p.resets)

  pub begun_leaves : (p q : Part) → Leaves p q → BegunIn p → BegunIn q
  begun_leaves p q h b = subst (λ (rows : List Resetting). Begun (mine reset rows)) (sym h.resets) b

  map_begun : (f : Resetting → Resetting) → ((x : Resetting) → is_queued x.stage ≡ false → is_queued (f x).stage ≡ false) → (rows : List Resetting) → Begun rows → Begun (map f rows)
  map_begun f h [] b = b
  map_begun f h (x ∷ []) b = h x b
  map_begun f h (x ∷ y ∷ xs) b = b

  staged_begun : (req : Option ReqId) (stage : Stage) (p : Part) → is_queued stage ≡ false → BegunIn p → BegunIn (staged req stage p)
  staged_begun None stage p h b = b
  staged_begun (Some req) stage p h b = subst Begun (sym (mine_staged reset req stage p)) (map_begun (at_stage req stage) later (mine reset p.resets) b)
    where
      go : (x : Resetting) (c : Bool) → is_queued x.stage ≡ false → is_queued (cond c (record x { stage = stage }) x).stage ≡ false
      go x true k = h
      go x false k = k

      later : (x : Resetting) → is_queued x.stage ≡ false → is_queued (at_stage req stage x).stage ≡ false
      later x k = go x (is_reset_of req x) k

  freezes_begun : (req : ReqId) (threads : ThreadSet) (p : Part) → BegunIn p → BegunIn (freezes req threads p)
  freezes_begun req threads p b = subst Begun (sym (mine_freezes reset req threads p)) (map_begun (freezing req threads) (λ x k. go x (is_reset_of req x) k) (mine reset p.resets) b)
    where
      go : (x : Resetting) (c : Bool) → is_queued x.stage ≡ false → is_queued (cond c (record x { stage = stages.Freezing; threads = threads }) x).stage ≡ false
      go x true k = refl
      go x false k = k

  advanced_begun : (dev : DevId) (old new : Stage) (p : Part) → is_queued new ≡ false → BegunIn p → BegunIn (advanced dev old new p)
  advanced_begun dev old new p h b = subst Begun (sym (mine_advanced reset dev old new p)) (map_begun (moved_on dev old new) (λ x k. go x (is_reset_at dev old x) k) (mine reset p.resets) b)
    where
      go : (x : Resetting) (c : Bool) → is_queued x.stage ≡ false → is_queued (cond c (record x { stage = new }) x).stage ≡ false
      go x true k = h
      go x false k = k

  -- a row is made where the reset has none
  appended_begun : (req : ReqId) (dev : DevId) (stage : Stage) (threads : ThreadSet) (p : Part) → (req ≡ reset → mine reset p.resets ≡ []) → BegunIn p → BegunIn (with_reset req dev stage threads p)
  appended_begun req dev stage threads p none b = subst Begun (sym (mine_appended reset req dev stage threads p)) (go (is_reset_of reset new_row) refl)
    where
      new_row : Resetting
      new_row = record { req = req; dev = dev; stage = stage; threads = threads; time = drain_time p req }

      go : (c : Bool) → is_reset_of reset (record { req = req; dev = dev; stage = stage; threads = threads; time = drain_time p req }) ≡ c → Begun (mine reset p.resets ++ cond c (record { req = req; dev = dev; stage = stage; threads = threads; time = drain_time p req } ∷ []) [])
      go true e = absurd (subst Begun (none (request_same.exact req reset e)) b)
      go false e = subst Begun (sym (append-nil (mine reset p.resets))) b

  begun_cond : (c : Bool) (x y : Change) → BegunIn x.part → BegunIn y.part → BegunIn (cond c x y).part
  begun_cond true x y h k = h
  begun_cond false x y h k = k

  nobody_begun : (kind : WalkKind) (req : Option ReqId) (p : Part) → BegunIn p → BegunIn (over_nobody kind req p)
  nobody_begun Freeze req p b = staged_begun req stages.Drained (numbered 2 p) refl b
  nobody_begun Drain req p b = staged_begun req stages.Drained (numbered 1 p) refl b
  nobody_begun Thaw req p b = staged_begun req stages.Thawed (numbered 1 p) refl b
  nobody_begun Removal req p b = b

  pub begin_begun : (t : ℕ) (kind : WalkKind) (dev : DevId) (threads : ThreadSet) (req : Option ReqId) (time : ℕ) (c : Change) → BegunIn c.part → BegunIn (begin_walk_with t kind dev threads req time c).part
  begin_begun t kind dev threads req time c b = begun_cond (is_nobody threads) _ _ (nobody_begun kind req c.part b) b

  after_begun : (t : ℕ) (w : OpenWalk) (kind : WalkKind) (c : Change) → BegunIn c.part → BegunIn (after_walk t w kind c).part
  after_begun t w Freeze c b = begin_begun t Drain w.dev (drain_threads c.part w.request) w.request 0 (record { part = staged w.request stages.Draining c.part; moves = c.moves }) (staged_begun w.request stages.Draining c.part refl b)
  after_begun t w Drain c b = staged_begun w.request stages.Drained c.part refl b
  after_begun t w Thaw c b = staged_begun w.request stages.Thawed c.part refl b
  after_begun t w Removal c b = b

  walked_begun : (t : ℕ) (walk : WalkId) (w : OpenWalk) (p : Part) → BegunIn p → BegunIn (walked t walk w p).part
  walked_begun t walk w p b = begun_cond (is_at_end t walk w) _ _ (after_begun t w w.kind _ b) b

  walked_if_begun : (t : ℕ) (walk : WalkId) (p : Part) (x : Option OpenWalk) → BegunIn p → BegunIn (walked_if_any t walk p x).part
  walked_if_begun t walk p None b = b
  walked_if_begun t walk p (Some w) b = walked_begun t walk (visited t w) p b

  went_begun : (t : ℕ) (req : ReqId) (threads : ThreadSet) (x : Option Resetting) (c : Change) → BegunIn c.part → BegunIn (went t req threads x c).part
  went_begun t req threads None c b = b
  went_begun t req threads (Some r) c b = begin_begun t Freeze r.dev threads (Some req) r.time (record { part = freezes req threads c.part; moves = c.moves }) (freezes_begun req threads c.part b)

  told_begun : (t : ℕ) (told : News) (c : Change) → BegunIn c.part → BegunIn (told_walk t told c).part
  told_begun t (news.Go req threads) c b = went_begun t req threads (reset_of c.part req) c b
  told_begun t (news.Mark mark) c b = b
  told_begun t (news.Gone handle) c b = b
  told_begun t (news.Channel dev) c b = b
  told_begun t (news.Device dev) c b = b
  told_begun t (news.Grow dev blocks) c b = b
  told_begun t (news.Sized handle blocks) c b = b

  taken_begun : (setup : Setup) (t : ℕ) (what : Token) (p : Part) (x : Option Kept) (id : Id) → BegunIn p → BegunIn (taken_by setup t what p x id).part
  taken_begun setup t what p None id b = none what
    where
      none : (what : Token) → BegunIn (taken_by setup t what p None id).part
      none (tokens.Request req) = b
      none _ = b
  taken_begun setup t (tokens.Request req) p (Some (keeps.Request r)) id b = begun_leaves p _ (came_leaves setup req r r.trip p) b
  taken_begun setup t (tokens.Walk walk) p (Some (keeps.Walk w)) id b = walked_begun t walk (arrived_walk w) p b
  taken_begun setup t (tokens.Request req) p (Some (keeps.Notice told)) id b = told_begun t told _ (begun_leaves p _ (told_leaves setup told p) b)
  taken_begun setup t what p (Some (keeps.Notice told)) id b = told_begun t told _ (begun_leaves p _ (told_leaves setup told p) b)
  taken_begun setup t _ p _ id b = b

  put_begun : (t : ℕ) (dev : DevId) (a : Answer) (p : Part) → BegunIn p → BegunIn (put_down_by t dev a p)
  put_begun t dev (answers.PutDown left) p b = b
  put_begun t dev _ p b = b

  dropped_begun : (t : ℕ) (dev : DevId) (a : Answer) (p : Part) → BegunIn p → BegunIn (dropped_by t dev a p)
  dropped_begun t dev (answers.Dropped what zero destruct) p b = begun_leaves p _ (dropped_leaves dev (is_dropped what) p) b
  dropped_begun t dev _ p b = b

  removing_begun : (setup : Setup) (t : ℕ) (a : Answer) (p : Part) → BegunIn p → BegunIn (removing setup t a p).part
  removing_begun setup t (answers.Removing dev threads handles destruct) p b = begin_begun t Removal dev threads None 0 (alone (with_due _ p)) b
  removing_begun setup t _ p b = b

  reset_begun_begun : (t : ℕ) (dev : DevId) (req : ReqId) (a : Answer) (p : Part) → (req ≡ reset → mine reset p.resets ≡ []) → BegunIn p → BegunIn (reset_begun t dev req a p).part
  reset_begun_begun t dev req (answers.ResetStarted threads) p none b = begin_begun t Freeze dev threads (Some req) (drain_time p req) (alone (with_reset req dev stages.Freezing threads p)) (appended_begun req dev stages.Freezing threads p none b)
  reset_begun_begun t dev req _ p none b = appended_begun req dev stages.Queued (record { 0 = 0 }) p none b

  thaws_begun : (t : ℕ) (dev : DevId) (a : Answer) (p : Part) → BegunIn p → BegunIn (reset_thaws t dev a p).part
  thaws_begun t dev (answers.ResetEnded threads) p b = begin_begun t Thaw dev threads (first_req p.resets dev stages.Drained) 0 (alone (advanced dev stages.Drained stages.Thawing p)) (advanced_begun dev stages.Drained stages.Thawing p refl b)
  thaws_begun t dev _ p b = b

  finishes_begun : (dev : DevId) (a : Answer) (p : Part) → BegunIn p → BegunIn (reset_finishes dev a p)
  finishes_begun dev (answers.ResetFinished next) p b = advanced_begun dev stages.Thawed stages.Finished p refl b
  finishes_begun dev _ p b = b

  injection_begun : (v : View) (req : ReqId) (a : Answer) → BegunIn v.part → BegunIn (injection_taken v req a).part
  injection_begun v req (answers.Injected decision) b = b
  injection_begun v req _ b = b

  resizing_begun : (blocks : ℕ) (a : Answer) (p : Part) → BegunIn p → BegunIn (resizing blocks a p)
  resizing_begun blocks (answers.Resizing dev home) p b = b
  resizing_begun blocks _ p b = b

  resized_begun : (a : Answer) (p : Part) → BegunIn p → BegunIn (resized a p)
  resized_begun (answers.Resized handles blocks destruct) p b = b
  resized_begun _ p b = b

  -- where an event begins this reset, the thread has no row of it
  abbrev pub BeginsNew : Act → Part → Type 0
  BeginsNew (acts.Reg (events.BeginReset dev req) a) p = req ≡ reset → mine reset p.resets ≡ []
  BeginsNew _ p = Unit {0}

  reg_begun : (setup : Setup) (t : ℕ) (v : View) (came : Came) (event : RegEvent) (a : Answer) → BeginsNew (acts.Reg event a) v.part → BegunIn v.part → BegunIn (change_reg setup t v came event a).part
  reg_begun setup t v came (events.Close id) a new b = begun_leaves v.part _ (closed_leaves setup came id a v.part) b
  reg_begun setup t v came (events.GetChannel dev) a new b = begun_leaves v.part _ (got_leaves setup v dev a) b
  reg_begun setup t v came (events.PutChannel dev closing) a new b = put_begun t dev a (put_paid dev closing v.part) (begun_leaves v.part _ (put_leaves dev closing v.part) b)
  reg_begun setup t v came (events.DropChannel dev) a new b = dropped_begun t dev a (paid (owes.Drop dev) v.part) b
  reg_begun setup t v came (events.BeginRemove name) a new b = removing_begun setup t a (removal_paid came a (device_named setup name) v.part) (begun_leaves v.part _ (removal_leaves came a (device_named setup name) v.part) b)
  reg_begun setup t v came (events.BeginReset dev req) a new b = reset_begun_begun t dev req a v.part new b
  reg_begun setup t v came (events.EndReset dev) a new b = thaws_begun t dev a v.part b
  reg_begun setup t v came (events.FinishReset dev) a new b = finishes_begun dev a v.part b
  reg_begun setup t v came (events.TakeInjection dev req op) a new b = injection_begun v req a b
  reg_begun setup t v came (events.Destructed dev) a new b = begun_leaves (paid (owes.Report dev) v.part) _ (freed_leaves a (paid (owes.Report dev) v.part)) b
  reg_begun setup t v came (events.BeginResize name blocks) a new b = resizing_begun blocks a (decided_by came a v.part) b
  reg_begun setup t v came (events.EndResize dev) a new b = resized_begun a (paid (owes.EndResize dev) v.part) b
  reg_begun setup t v came _ a new b = b

  -- the reset is completed
  abbrev pub Completes : Act → Type 0
  Completes (acts.Complete req status shown) = req ≡ reset
  Completes _ = ⊥

  pub begun_stays : (setup : Setup) (t : ℕ) (v : View) (act : Act) (came : Came) → (Completes act → ⊥) → BeginsNew act v.part → BegunIn v.part → BegunIn (change setup t v act came).part
  begun_stays setup t v (acts.Complete req status shown) came open_yet new b = subst Begun (filter_twice (λ r. not (is_reset_of req r)) (is_reset_of reset) v.part.resets) (go (mine reset v.part.resets) refl b)
    where
      left : (x : Resetting) (c : Bool) → is_reset_of reset x ≡ true → is_reset_of req x ≡ c → is_queued x.stage ≡ false → Begun (cond (not c) (x ∷ []) [])
      left x true e f k = absurd (open_yet (sym (request_same.exact x.req req f) ∙ request_same.exact x.req reset e))
      left x false e f k = k

      go : (rows : List Resetting) → mine reset v.part.resets ≡ rows → Begun rows → Begun (filter (λ r. not (is_reset_of req r)) rows)
      go [] e b = b
      go (x ∷ []) e b = left x (is_reset_of req x) (mine_is reset v.part.resets x [] e) refl b
      go (x ∷ y ∷ xs) e b = absurd b
  begun_stays setup t v (acts.Took source number what) came open_yet new b = taken_begun setup t what (taken_before v.part source number) came.message (id_of source t number what) b
  begun_stays setup t v (acts.Reg event a) came open_yet new b = reg_begun setup t v came event a new b
  begun_stays setup t v (acts.Apply req k dev end) came open_yet new b = begun_leaves v.part _ (applied_leaves v req k dev end (size_of setup dev) (piece_here v req k) (base_here v dev)) b
  begun_stays setup t v (acts.Visit walk dev kind) came open_yet new b = walked_if_begun t walk (marked_by setup t v walk dev kind) (walk_here v walk) (begun_leaves v.part _ (marked_leaves setup t v walk dev kind) b)
  begun_stays setup t v (acts.Abort req cause) came open_yet new b = begun_leaves v.part _ (stopped_leaves setup v.part req (request_here v req)) b
  begun_stays setup t v (acts.Grace walk until) came open_yet new b = begun_leaves v.part _ (remarked_leaves (softened walk v.part.prior) (with_until until) v.part) b
  begun_stays setup t v (acts.Due walk now) came open_yet new b = begun_leaves v.part _ (ended_leaves walk now v.part) b
  begun_stays setup t v _ came open_yet new b = b
