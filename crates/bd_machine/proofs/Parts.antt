-- What the words for changes of a part leave of it: what was put, the number of the next request, what was destructed, what bases store, and the open requests.
use Rattle.std.proofs.Common.{◌≡◌, ℕ, ◌+◌, ◌==◌, ◌≤◌, Bool, true, false, cond, not, ◌&&◌, List, [], ◌∷◌, filter, Option, Some, None, refl, sym, ◌∙◌, ap, arith, le_of_eq}
use Rattle.bd_base.specs.declared.event.Answer.{Answer}
use Rattle.bd_base.specs.declared.event.Answer.TheVariants as answers
use Rattle.bd_base.specs.declared.event.RegEvent.{RegEvent}
use Rattle.bd_base.specs.declared.event.RegEvent.TheVariants as events
use Rattle.bd_base.specs.declared.act.Act.{Act}
use Rattle.bd_base.specs.declared.act.Act.TheVariants as acts
use Rattle.bd_base.specs.declared.act.Token.{Token}
use Rattle.bd_base.specs.declared.act.Token.TheVariants as tokens
use Rattle.bd_base.specs.declared.id.DevId.{DevId}
use Rattle.bd_base.specs.declared.id.HandleId.{HandleId}
use Rattle.bd_base.specs.declared.id.ReqId.{ReqId}
use Rattle.bd_base.specs.declared.id.WalkId.{WalkId}
use Rattle.bd_base.specs.declared.request.WalkKind.{WalkKind}
use Rattle.bd_base.specs.declared.request.WalkKind.TheVariants.{Freeze, Drain, Thaw, Removal}
use Rattle.bd_base.specs.declared.setup.Setup.{Setup}
use Rattle.bd_base.specs.declared.thread_set.ThreadSet.{ThreadSet}
use Rattle.bd_machine.specs.declared.state.Base.{Base}
use Rattle.bd_machine.specs.declared.state.Id.{Id}
use Rattle.bd_machine.specs.declared.state.Kept.{Kept}
use Rattle.bd_machine.specs.declared.state.Kept.TheVariants as keeps
use Rattle.bd_machine.specs.declared.state.News.{News}
use Rattle.bd_machine.specs.declared.state.News.TheVariants as news
use Rattle.bd_machine.specs.declared.state.Open.{Open}
use Rattle.bd_machine.specs.declared.state.OpenPiece.{OpenPiece}
use Rattle.bd_machine.specs.declared.state.OpenRequest.{OpenRequest}
use Rattle.bd_machine.specs.declared.state.OpenWalk.{OpenWalk}
use Rattle.bd_machine.specs.declared.state.Owed.TheVariants as owes
use Rattle.bd_machine.specs.declared.state.Part.{Part}
use Rattle.bd_machine.specs.declared.state.Progress.{Progress}
use Rattle.bd_machine.specs.declared.state.Progress.TheVariants.{Held, Out, Served}
use Rattle.bd_machine.specs.declared.state.Resetting.{Resetting}
use Rattle.bd_machine.specs.declared.state.Stage.{Stage}
use Rattle.bd_machine.specs.declared.state.Stage.TheVariants as stages
use Rattle.bd_machine.specs.declared.state.Trip.{Trip}
use Rattle.bd_machine.specs.declared.state.Trip.TheVariants as trips
use Rattle.bd_machine.specs.Aborts.{stopped}
use Rattle.bd_machine.specs.Asked.{owes_removal}
use Rattle.bd_machine.specs.Admission.{is_gone}
use Rattle.bd_machine.specs.BlockMap.{below, home}
use Rattle.bd_machine.specs.Events.{decided_by, paid, owing, with_due, alone, closed_by, born, all_born, got_by, put_down_by, put_paid, dropped_by, removal_paid, with_reset, advanced, reset_finishes, freed_by, drain_time, resizing, resized, device_due, destruct_of, channel_due, removing, reset_begun, reset_thaws, injection_taken, change_reg, first_req}
use Rattle.bd_machine.specs.Changes.{is_dropped}
use Rattle.bd_machine.specs.Guards.{change_by}
use Rattle.bd_machine.specs.Homes.{is_base, without_last}
use Rattle.bd_machine.specs.Kept.{request_here, walk_here}
use Rattle.bd_machine.specs.Laws.{Stored, stored, stored_of}
use Rattle.bd_machine.specs.Limits.{arrived, departed, next_limited, waits_at, is_limited, is_limit, joined, left_by, charged_by_way, bytes_if_any, way_if_any}
use Rattle.bd_machine.specs.Timeslices.{Timing, timing_of, timings}
use Rattle.bd_machine.specs.declared.state.Limited.{Limited}
use Rattle.bd_base.specs.declared.request.Way.{Way}
use Rattle.bd_machine.specs.declared.state.FreezeMark.TheVariants.{Not}
use Rattle.bd_machine.specs.declared.state.Marking.{Marking}
use Rattle.bd_machine.specs.Grace.{dev_if_any, ended, ending_mark, remarked_if_any, softened}
use Rattle.bd_machine.specs.Marks.{remarked, with_frozen, with_until, hardened, freeze_set, removal_set}
use Rattle.bd_machine.specs.Messages.{queued, bases_took, request_took, told_part, freezes, went, told_walk, taken_by, arrived_walk, closed_notice}
use Rattle.bd_machine.specs.Registry.{made, device_named}
use Rattle.bd_machine.specs.Same.{same_request}
use Rattle.bd_machine.specs.Table.{change_first, write}
use Rattle.bd_machine.specs.Threads.{is_nobody}
use Rattle.bd_machine.specs.Users.{is_base_handle}
use Rattle.bd_machine.specs.View.{View, Came, Change, id_of}
use Rattle.bd_machine.specs.Walks.{staged, numbered, over_nobody, begin_walk_with, begin_walk, after_walk, is_at_end, walked, drain_threads, put_owed, time_of_walk, marked_by, visited, walked_if_any, reset_of}

-- what most acts leave of a part
pub record Core : Type 0 where
  pub put : List (ℕ × ℕ)
  pub next_request : ℕ
  pub destructed : List DevId
  pub contents : List Stored
  pub taken : List (ℕ × ℕ)
  pub next : ℕ
  pub timings : List Timing
  pub requests : List Open

abbrev pub core : Part → Core
core p = record { put = p.put; next_request = p.next_request; destructed = p.destructed; contents = stored p.bases; taken = p.taken; next = p.next; timings = timings p.limited; requests = p.requests }

-- the second part is the first, but for what else changes
pub record Keeps (p q : Part) : Type 0 where
  pub rest : core q ≡ core p
  pub walks : q.next_walk ≡ p.next_walk

-- the same, where walks may have begun
pub record Grows (p q : Part) : Type 0 where
  pub rest : core q ≡ core p
  pub walks : p.next_walk ≤ q.next_walk

pub keeps_then : (p q r : Part) → Keeps p q → Keeps q r → Keeps p r
keeps_then p q r h k = record { rest = k.rest ∙ h.rest; walks = k.walks ∙ h.walks }

pub grows_of : (p q : Part) → Keeps p q → Grows p q
grows_of p q h = record { rest = h.rest; walks = le_of_eq (sym h.walks) }

-- first a change that keeps, then one by which walks begin
pub grows_then : (p q r : Part) → Keeps p q → Grows q r → Grows p r
grows_then p q r h k = record { rest = k.rest ∙ h.rest; walks = go p.next_walk q.next_walk r.next_walk h.walks k.walks }
  where
    go : (a b c : ℕ) → b ≡ a → b ≤ c → a ≤ c
    go a b c e h = omega arith

pub keeps_cond : (b : Bool) (p q r : Part) → Keeps p q → Keeps p r → Keeps p (cond b q r)
keeps_cond true p q r h k = h
keeps_cond false p q r h k = k

pub grows_cond : (b : Bool) (p : Part) (c d : Change) → Grows p c.part → Grows p d.part → Grows p (cond b c d).part
grows_cond true p c d h k = h
grows_cond false p c d h k = k

-- ---- words that keep

decided_keeps : (came : Came) (a : Answer) (p : Part) → Keeps p (decided_by came a p)
decided_keeps came a p = record { rest = refl; walks = refl }

closed_keeps : (setup : Setup) (came : Came) (id : HandleId) (a : Answer) (p : Part) → Keeps p (closed_by setup came id a p)
closed_keeps setup came id a p =
    keeps_cond (is_base_handle setup id) p (paid (owes.Close id) p) (cond (is_gone p id) p (decided_by came a p)) (record { rest = refl; walks = refl })
    (keeps_cond (is_gone p id) p p (decided_by came a p) (record { rest = refl; walks = refl }) (decided_keeps came a p))

all_born_keeps : (frozen ds : List DevId) (p : Part) → Keeps p (all_born frozen ds p)
all_born_keeps frozen [] p = record { rest = refl; walks = refl }
all_born_keeps frozen (d ∷ ds) p = keeps_then p (born frozen d p) (all_born frozen ds (born frozen d p)) (record { rest = refl; walks = refl }) (all_born_keeps frozen ds (born frozen d p))

got_keeps : (setup : Setup) (v : View) (dev : DevId) (a : Answer) → Keeps v.part (got_by setup v dev a)
got_keeps setup v dev (answers.Got fresh frozen) = all_born_keeps frozen (made v.channels (below setup dev)) v.part
got_keeps setup v dev _ = record { rest = refl; walks = refl }

put_paid_keeps : (dev : DevId) (closing : Bool) (p : Part) → Keeps p (put_paid dev closing p)
put_paid_keeps dev closing p = keeps_cond closing p p (paid (owes.Put dev) p) (record { rest = refl; walks = refl }) (record { rest = refl; walks = refl })

put_down_keeps : (t : ℕ) (dev : DevId) (a : Answer) (p : Part) → Keeps p (put_down_by t dev a p)
put_down_keeps t dev (answers.PutDown left) p = record { rest = refl; walks = refl }
put_down_keeps t dev _ p = record { rest = refl; walks = refl }

dropped_keeps : (t : ℕ) (dev : DevId) (a : Answer) (p : Part) → Keeps p (dropped_by t dev a p)
dropped_keeps t dev (answers.Dropped what zero destruct) p =
    let q : Part = cond (is_dropped what) (remarked dev (with_frozen Not) p) p in
    keeps_then p q (with_due (channel_due t zero) q) (keeps_cond (is_dropped what) p (remarked dev (with_frozen Not) p) p (record { rest = refl; walks = refl }) (record { rest = refl; walks = refl })) (record { rest = refl; walks = refl })
dropped_keeps t dev _ p = record { rest = refl; walks = refl }

pub removal_paid_keeps : (came : Came) (a : Answer) (o : Option ℕ) (p : Part) → Keeps p (removal_paid came a o p)
removal_paid_keeps came a None p = record { rest = refl; walks = refl }
removal_paid_keeps came a (Some n) p =
    keeps_cond (owes_removal p (Some n)) p (paid (owes.Remove (record { 0 = n })) p) (decided_by came a p) (record { rest = refl; walks = refl }) (record { rest = refl; walks = refl })

finishes_keeps : (dev : DevId) (a : Answer) (p : Part) → Keeps p (reset_finishes dev a p)
finishes_keeps dev (answers.ResetFinished next) p = record { rest = refl; walks = refl }
finishes_keeps dev _ p = record { rest = refl; walks = refl }

freed_keeps : (a : Answer) (p : Part) → Keeps p (freed_by a p)
freed_keeps (answers.Freed (Some id)) p = record { rest = refl; walks = refl }
freed_keeps (answers.Freed None) p = record { rest = refl; walks = refl }
freed_keeps _ p = record { rest = refl; walks = refl }

pub staged_keeps : (req : Option ReqId) (stage : Stage) (p : Part) → Keeps p (staged req stage p)
staged_keeps None stage p = record { rest = refl; walks = refl }
staged_keeps (Some req) stage p = record { rest = refl; walks = refl }

put_owed_keeps : (setup : Setup) (t : ℕ) (dev : DevId) (p : Part) → Keeps p (put_owed setup t dev p)
put_owed_keeps setup t dev p = keeps_cond (is_limited setup dev && (home setup dev == t)) p (owing (owes.Put dev) p) p (record { rest = refl; walks = refl }) (record { rest = refl; walks = refl })

pub marked_keeps : (setup : Setup) (t : ℕ) (v : View) (walk : WalkId) (dev : DevId) (kind : WalkKind) → Keeps v.part (marked_by setup t v walk dev kind)
marked_keeps setup t v walk dev Freeze =
    keeps_cond _ v.part (remarked dev (freeze_set walk (time_of_walk (walk_here v walk))) v.part) v.part (record { rest = refl; walks = refl }) (record { rest = refl; walks = refl })
marked_keeps setup t v walk dev Drain = record { rest = refl; walks = refl }
marked_keeps setup t v walk dev Thaw = record { rest = refl; walks = refl }
marked_keeps setup t v walk dev Removal = keeps_then v.part (remarked dev removal_set v.part) (put_owed setup t dev (remarked dev removal_set v.part)) (record { rest = refl; walks = refl }) (put_owed_keeps setup t dev (remarked dev removal_set v.part))

abbrev with_timings : Part → List Timing → Core
with_timings p rows = record { put = p.put; next_request = p.next_request; destructed = p.destructed; contents = stored p.bases; taken = p.taken; next = p.next; timings = rows; requests = p.requests }

timing_stays : (dev : DevId) (f : Limited → Limited) → ((l : Limited) → timing_of (f l) ≡ timing_of l) → (rows : List Limited) → timings (change_first (is_limit dev) f rows) ≡ timings rows
timing_stays dev f h [] = refl
timing_stays dev f h (l ∷ ls) = go (is_limit dev l) (timing_stays dev f h ls)
  where
    go : (c : Bool) → timings (change_first (is_limit dev) f ls) ≡ timings ls → timings (cond c (f l ∷ ls) (l ∷ change_first (is_limit dev) f ls)) ≡ timings (l ∷ ls)
    go true ih = ap (λ x. x ∷ timings ls) (h l)
    go false ih = ap (λ xs. timing_of l ∷ xs) ih

charged_timing : (setup : Setup) (dev : DevId) (bytes : ℕ) (way : Option Way) (l : Limited) → timing_of (charged_by_way setup dev bytes way l) ≡ timing_of l
charged_timing setup dev bytes None l = refl
charged_timing setup dev bytes (Some way) l = refl

departed_keeps : (p : Part) (req : ReqId) (o : Option DevId) → Keeps p (departed p req o)
departed_keeps p req None = record { rest = refl; walks = refl }
departed_keeps p req (Some dev) = record { rest = ap (with_timings p) (timing_stays dev (left_by req) (λ l. refl) p.limited); walks = refl }

pub stopped_keeps : (setup : Setup) (p : Part) (req : ReqId) (x : Option OpenRequest) → Keeps p (stopped setup p req x)
stopped_keeps setup p req None = record { rest = refl; walks = refl }
stopped_keeps setup p req (Some r) = departed_keeps p req (waits_at setup r)

arrived_keeps : (p : Part) (req : ReqId) (o : Option DevId) → Keeps p (arrived p req o)
arrived_keeps p req None = record { rest = refl; walks = refl }
arrived_keeps p req (Some dev) = record { rest = ap (with_timings p) (timing_stays dev (joined req) (λ l. refl) p.limited); walks = refl }

request_took_keeps : (setup : Setup) (req : ReqId) (r : OpenRequest) (trip : Trip) (p : Part) → Keeps p (request_took setup req r trip p)
request_took_keeps setup req r trips.Out p = arrived_keeps p req (next_limited setup r)
request_took_keeps setup req r trips.Own p = record { rest = refl; walks = refl }
request_took_keeps setup req r trips.Passed p = record { rest = refl; walks = refl }

pub told_keeps : (setup : Setup) (told : News) (p : Part) → Keeps p (told_part setup told p)
told_keeps setup (news.Mark mark) p = record { rest = refl; walks = refl }
told_keeps setup (news.Gone handle) p = record { rest = refl; walks = refl }
told_keeps setup (news.Channel dev) p = record { rest = refl; walks = refl }
told_keeps setup (news.Device dev) p = record { rest = refl; walks = refl }
told_keeps setup (news.Go req threads) p = record { rest = refl; walks = refl }
told_keeps setup (news.Grow dev blocks) p = record { rest = refl; walks = refl }
told_keeps setup (news.Sized handle blocks) p = record { rest = refl; walks = refl }

remarked_if_keeps : (o : Option DevId) (f : Marking → Marking) (p : Part) → Keeps p (remarked_if_any o f p)
remarked_if_keeps None f p = record { rest = refl; walks = refl }
remarked_if_keeps (Some dev) f p = record { rest = refl; walks = refl }

ended_keeps : (walk : WalkId) (now : ℕ) (p : Part) → Keeps p (ended walk now p)
ended_keeps walk now p =
    let q : Part = remarked_if_any (dev_if_any (ending_mark p walk)) hardened p in
    keeps_then p q (ended walk now p) (remarked_if_keeps (dev_if_any (ending_mark p walk)) hardened p) (record { rest = refl; walks = refl })

-- ---- walks

more : (a n : ℕ) → a ≤ a + n
more a n = omega arith

staged_grows : (n : ℕ) (req : Option ReqId) (stage : Stage) (p : Part) → Grows p (staged req stage (numbered n p))
staged_grows n None stage p = record { rest = refl; walks = more p.next_walk n }
staged_grows n (Some req) stage p = record { rest = refl; walks = more p.next_walk n }

nobody_grows : (kind : WalkKind) (req : Option ReqId) (p : Part) → Grows p (over_nobody kind req p)
nobody_grows Freeze req p = staged_grows 2 req stages.Drained p
nobody_grows Drain req p = staged_grows 1 req stages.Drained p
nobody_grows Thaw req p = staged_grows 1 req stages.Thawed p
nobody_grows Removal req p = record { rest = refl; walks = more p.next_walk 1 }

pub begin_grows : (t : ℕ) (kind : WalkKind) (dev : DevId) (threads : ThreadSet) (req : Option ReqId) (time : ℕ) (c : Change) → Grows c.part (begin_walk_with t kind dev threads req time c).part
begin_grows t kind dev threads req time c =
    grows_cond (is_nobody threads) c.part _ _ (nobody_grows kind req c.part) (record { rest = refl; walks = more c.part.next_walk 1 })

pub after_grows : (t : ℕ) (w : OpenWalk) (kind : WalkKind) (c : Change) → Grows c.part (after_walk t w kind c).part
after_grows t w Freeze c =
    let d : Change = record { part = staged w.request stages.Draining c.part; moves = c.moves } in
    grows_then c.part d.part (begin_walk t Drain w.dev (drain_threads c.part w.request) w.request d).part (staged_keeps w.request stages.Draining c.part) (begin_grows t Drain w.dev (drain_threads c.part w.request) w.request 0 d)
after_grows t w Drain c = grows_of c.part _ (staged_keeps w.request stages.Drained c.part)
after_grows t w Thaw c = grows_of c.part _ (staged_keeps w.request stages.Thawed c.part)
after_grows t w Removal c = record { rest = refl; walks = le_of_eq refl }

pub walked_grows : (t : ℕ) (walk : WalkId) (w : OpenWalk) (p : Part) → Grows p (walked t walk w p).part
walked_grows t walk w p = grows_cond (is_at_end t walk w) p _ _ (after_grows t w w.kind _) (record { rest = refl; walks = le_of_eq refl })

walked_if_grows : (t : ℕ) (walk : WalkId) (p : Part) (x : Option OpenWalk) → Grows p (walked_if_any t walk p x).part
walked_if_grows t walk p None = record { rest = refl; walks = le_of_eq refl }
walked_if_grows t walk p (Some w) = walked_grows t walk (visited t w) p

went_grows : (t : ℕ) (req : ReqId) (threads : ThreadSet) (x : Option Resetting) (c : Change) → Grows c.part (went t req threads x c).part
went_grows t req threads None c = record { rest = refl; walks = le_of_eq refl }
went_grows t req threads (Some r) c =
    let d : Change = record { part = freezes req threads c.part; moves = c.moves } in
    grows_then c.part d.part (begin_walk_with t Freeze r.dev threads (Some req) r.time d).part (record { rest = refl; walks = refl }) (begin_grows t Freeze r.dev threads (Some req) r.time d)

told_walk_grows : (t : ℕ) (told : News) (c : Change) → Grows c.part (told_walk t told c).part
told_walk_grows t (news.Go req threads) c = went_grows t req threads (reset_of c.part req) c
told_walk_grows t (news.Mark mark) c = record { rest = refl; walks = le_of_eq refl }
told_walk_grows t (news.Gone handle) c = record { rest = refl; walks = le_of_eq refl }
told_walk_grows t (news.Channel dev) c = record { rest = refl; walks = le_of_eq refl }
told_walk_grows t (news.Device dev) c = record { rest = refl; walks = le_of_eq refl }
told_walk_grows t (news.Grow dev blocks) c = record { rest = refl; walks = le_of_eq refl }
told_walk_grows t (news.Sized handle blocks) c = record { rest = refl; walks = le_of_eq refl }

-- ---- bases whose queue alone changes

queue_contents : (dev : DevId) (f : Base → Base) → ((b : Base) → stored_of (f b) ≡ stored_of b) → (bases : List Base) → stored (change_first (is_base dev) f bases) ≡ stored bases
queue_contents dev f h [] = refl
queue_contents dev f h (b ∷ bs) = go (is_base dev b) (queue_contents dev f h bs)
  where
    go : (c : Bool) → stored (change_first (is_base dev) f bs) ≡ stored bs → stored (cond c (f b ∷ bs) (b ∷ change_first (is_base dev) f bs)) ≡ stored (b ∷ bs)
    go true ih = ap (λ x. x ∷ stored bs) (h b)
    go false ih = ap (λ xs. stored_of b ∷ xs) ih

took_contents : (p : OpenPiece) (progress : Progress) (req : ReqId) (k : ℕ) (bases : List Base) → stored (bases_took p progress req k bases) ≡ stored bases
took_contents p Out req k bases = queue_contents p.base (queued req k) (λ b. refl) bases
took_contents p Held req k bases = refl
took_contents p Served req k bases = refl

abbrev with_contents : Part → List Stored → Core
with_contents p contents = record { put = p.put; next_request = p.next_request; destructed = p.destructed; contents = contents; taken = p.taken; next = p.next; timings = timings p.limited; requests = p.requests }

pub taken_grows : (setup : Setup) (t : ℕ) (what : Token) (p : Part) (x : Option Kept) (id : Id) → Grows p (taken_by setup t what p x id).part
taken_grows setup t what p None id = record { rest = refl; walks = le_of_eq refl }
taken_grows setup t (tokens.Request req) p (Some (keeps.Request r)) id = grows_of p _ (request_took_keeps setup req r r.trip p)
taken_grows setup t (tokens.Piece req k) p (Some (keeps.Piece q)) id = record { rest = ap (with_contents p) (took_contents q q.progress req k p.bases); walks = le_of_eq refl }
taken_grows setup t (tokens.Walk walk) p (Some (keeps.Walk w)) id = walked_grows t walk (arrived_walk w) p
taken_grows setup t what p (Some (keeps.Notice told)) id =
    let c : Change = record { part = told_part setup told p; moves = closed_notice id told } in
    grows_then p c.part (told_walk t told c).part (told_keeps setup told p) (told_walk_grows t told c)
taken_grows setup t _ p _ id = record { rest = refl; walks = le_of_eq refl }

-- ---- the registry's events

removing_grows : (setup : Setup) (t : ℕ) (a : Answer) (p : Part) → Grows p (removing setup t a p).part
removing_grows setup t (answers.Removing dev threads handles destruct) p =
    let c : Change = alone (with_due _ p) in
    grows_then p c.part (begin_walk t Removal dev threads None c).part (record { rest = refl; walks = refl }) (begin_grows t Removal dev threads None 0 c)
removing_grows setup t _ p = record { rest = refl; walks = le_of_eq refl }

reset_begun_grows : (t : ℕ) (dev : DevId) (req : ReqId) (a : Answer) (p : Part) → Grows p (reset_begun t dev req a p).part
reset_begun_grows t dev req (answers.ResetStarted threads) p =
    let c : Change = alone (with_reset req dev stages.Freezing threads p) in
    let time : ℕ = drain_time p req in
    grows_then p c.part (begin_walk_with t Freeze dev threads (Some req) time c).part (record { rest = refl; walks = refl }) (begin_grows t Freeze dev threads (Some req) time c)
reset_begun_grows t dev req _ p = record { rest = refl; walks = le_of_eq refl }

reset_thaws_grows : (t : ℕ) (dev : DevId) (a : Answer) (p : Part) → Grows p (reset_thaws t dev a p).part
reset_thaws_grows t dev (answers.ResetEnded threads) p =
    let c : Change = alone (advanced dev stages.Drained stages.Thawing p) in
    grows_then p c.part (begin_walk t Thaw dev threads (first_req p.resets dev stages.Drained) c).part (record { rest = refl; walks = refl }) (begin_grows t Thaw dev threads (first_req p.resets dev stages.Drained) 0 c)
reset_thaws_grows t dev _ p = record { rest = refl; walks = le_of_eq refl }

injection_grows : (v : View) (req : ReqId) (a : Answer) → Grows v.part (injection_taken v req a).part
injection_grows v req (answers.Injected decision) = record { rest = refl; walks = le_of_eq refl }
injection_grows v req _ = record { rest = refl; walks = le_of_eq refl }

resizing_keeps : (blocks : ℕ) (a : Answer) (p : Part) → Keeps p (resizing blocks a p)
resizing_keeps blocks (answers.Resizing dev home) p = record { rest = refl; walks = refl }
resizing_keeps blocks _ p = record { rest = refl; walks = refl }

resized_keeps : (a : Answer) (p : Part) → Keeps p (resized a p)
resized_keeps (answers.Resized handles blocks destruct) p = record { rest = refl; walks = refl }
resized_keeps _ p = record { rest = refl; walks = refl }

pub reg_grows : (setup : Setup) (t : ℕ) (v : View) (came : Came) (event : RegEvent) (a : Answer) → Grows v.part (change_reg setup t v came event a).part
reg_grows setup t v came (events.Open name write) a = record { rest = refl; walks = le_of_eq refl }
reg_grows setup t v came (events.Claim id kind) a = record { rest = refl; walks = le_of_eq refl }
reg_grows setup t v came (events.Close id) a =
    grows_of v.part _ (keeps_then v.part (closed_by setup came id a v.part) _ (closed_keeps setup came id a v.part) (record { rest = refl; walks = refl }))
reg_grows setup t v came (events.GetChannel dev) a = grows_of v.part _ (got_keeps setup v dev a)
reg_grows setup t v came (events.PutChannel dev closing) a =
    grows_of v.part _ (keeps_then v.part (put_paid dev closing v.part) _ (put_paid_keeps dev closing v.part) (put_down_keeps t dev a (put_paid dev closing v.part)))
reg_grows setup t v came (events.DropChannel dev) a =
    grows_of v.part _ (keeps_then v.part (dropped_by t dev a (paid (owes.Drop dev) v.part)) _
    (keeps_then v.part (paid (owes.Drop dev) v.part) _ (record { rest = refl; walks = refl }) (dropped_keeps t dev a (paid (owes.Drop dev) v.part)))
    (record { rest = refl; walks = refl }))
reg_grows setup t v came (events.BeginRemove name) a =
    let p : Part = removal_paid came a (device_named setup name) v.part in
    grows_then v.part p (removing setup t a p).part (removal_paid_keeps came a (device_named setup name) v.part) (removing_grows setup t a p)
reg_grows setup t v came (events.BeginReset dev req) a = reset_begun_grows t dev req a v.part
reg_grows setup t v came (events.EndReset dev) a = reset_thaws_grows t dev a v.part
reg_grows setup t v came (events.FinishReset dev) a = grows_of v.part _ (finishes_keeps dev a v.part)
reg_grows setup t v came (events.TakeInjection dev req op) a = injection_grows v req a
reg_grows setup t v came (events.Destructed dev) a =
    grows_of v.part _ (keeps_then v.part (paid (owes.Report dev) v.part) _ (record { rest = refl; walks = refl }) (freed_keeps a (paid (owes.Report dev) v.part)))
reg_grows setup t v came (events.BeginResize name blocks) a =
    let p : Part = decided_by came a v.part in
    grows_of v.part _ (keeps_then v.part p (resizing blocks a p) (decided_keeps came a v.part) (resizing_keeps blocks a p))
reg_grows setup t v came (events.EndResize dev) a =
    let p : Part = paid (owes.EndResize dev) v.part in
    let q : Part = resized a p in
    grows_of v.part _ (keeps_then v.part p _ (record { rest = refl; walks = refl }) (keeps_then p q (with_due (device_due setup (destruct_of a)) q) (resized_keeps a p) (record { rest = refl; walks = refl })))

-- ---- acts

-- an act other than Put, Accept, Apply, Destruct, Tick and Grow
abbrev pub is_plain : Act → Bool
is_plain (acts.Put to number what) = false
is_plain (acts.Accept dev lba handle req op count) = false
is_plain (acts.Apply req k dev end) = false
is_plain (acts.Destruct dev digest) = false
is_plain (acts.Tick dev now slices) = false
is_plain (acts.Grow dev blocks) = false
is_plain _ = true

pub visit_grows : (setup : Setup) (t : ℕ) (v : View) (walk : WalkId) (dev : DevId) (kind : WalkKind) → Grows v.part (walked_if_any t walk (marked_by setup t v walk dev kind) (walk_here v walk)).part
visit_grows setup t v walk dev kind =
    let p : Part = marked_by setup t v walk dev kind in
    grows_then v.part p (walked_if_any t walk p (walk_here v walk)).part (marked_keeps setup t v walk dev kind) (walked_if_grows t walk p (walk_here v walk))

-- how many messages were taken from each thread, after an act
abbrev pub taken_by_act : Act → List (ℕ × ℕ) → List (ℕ × ℕ)
taken_by_act (acts.Took source number what) taken = write ◌==◌ taken source (number + 1)
taken_by_act _ taken = taken

-- the place of the next line, after an act
abbrev pub next_by_act : Act → ℕ → ℕ
next_by_act (acts.Script line outcome) next = next + 1
next_by_act _ next = next

-- the open requests, after an act
abbrev pub requests_by_act : Act → List Open → List Open
requests_by_act (acts.Complete req status shown) requests = filter (λ r. not (same_request r.id req)) requests
requests_by_act _ requests = requests

-- the part with the act's message counted as taken, its line as done, and its request as completed
abbrev pub counted : Act → Part → Part
counted act p = record p { taken = taken_by_act act p.taken; next = next_by_act act p.next; requests = requests_by_act act p.requests }

pub plain_grows : (setup : Setup) (t : ℕ) (v : View) (act : Act) (came : Came) → is_plain act ≡ true → Grows (counted act v.part) (change_by setup t v act came).part
plain_grows setup t v (acts.Put to number what) came h = cc
plain_grows setup t v (acts.Accept dev lba handle req op count) came h = cc
plain_grows setup t v (acts.Apply req k dev end) came h = cc
plain_grows setup t v (acts.Destruct dev digest) came h = cc
plain_grows setup t v (acts.Tick dev now slices) came h = cc
plain_grows setup t v (acts.Grow dev blocks) came h = cc
plain_grows setup t v (acts.Let req dev now) came h =
    let bytes : ℕ = bytes_if_any setup (request_here v req) in
    let way : Option Way = way_if_any (request_here v req) in
    record {
      rest = ap (with_timings v.part) (timing_stays dev (λ l. left_by req (charged_by_way setup dev bytes way l)) (λ l. charged_timing setup dev bytes way l) v.part.limited);
      walks = le_of_eq refl;
    }
plain_grows setup t v (acts.Took source number what) came h = taken_grows setup t what (record v.part { taken = write ◌==◌ v.part.taken source (number + 1) }) came.message (id_of source t number what)
plain_grows setup t v (acts.Reg event a) came h = reg_grows setup t v came event a
plain_grows setup t v (acts.NoMem req k dev) came h = record { rest = ap (with_contents v.part) (queue_contents dev without_last (λ b. refl) v.part.bases); walks = le_of_eq refl }
plain_grows setup t v (acts.Abort req cause) came h = grows_of v.part _ (stopped_keeps setup v.part req (request_here v req))
plain_grows setup t v (acts.Visit walk dev kind) came h = visit_grows setup t v walk dev kind
plain_grows setup t v (acts.Grace walk until) came h = grows_of v.part _ (remarked_if_keeps (softened walk v.part.prior) (with_until until) v.part)
plain_grows setup t v (acts.Due walk now) came h = grows_of v.part _ (ended_keeps walk now v.part)
plain_grows setup t v _ came h = record { rest = refl; walks = le_of_eq refl }
