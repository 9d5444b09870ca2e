-- Acts that leave the marks of devices on their thread: all but five.
use Rattle.std.proofs.Common.{◌≡◌, ℕ, ◌+◌, ◌==◌, Bool, true, false, cond, Option, Some, None, refl, ◌∙◌}
use Rattle.bd_base.specs.declared.act.Act.{Act}
use Rattle.bd_base.specs.declared.act.Act.TheVariants as acts
use Rattle.bd_base.specs.declared.act.ApplyEnd.{ApplyEnd}
use Rattle.bd_base.specs.declared.act.Token.{Token}
use Rattle.bd_base.specs.declared.act.Token.TheVariants as tokens
use Rattle.bd_base.specs.declared.event.Answer.{Answer}
use Rattle.bd_base.specs.declared.event.Answer.TheVariants as answers
use Rattle.bd_base.specs.declared.event.RegEvent.{RegEvent}
use Rattle.bd_base.specs.declared.event.RegEvent.TheVariants as events
use Rattle.bd_base.specs.declared.id.DevId.{DevId}
use Rattle.bd_base.specs.declared.id.HandleId.{HandleId}
use Rattle.bd_base.specs.declared.id.ReqId.{ReqId}
use Rattle.bd_base.specs.declared.id.WalkId.{WalkId}
use Rattle.bd_base.specs.declared.request.WalkKind.{WalkKind}
use Rattle.bd_base.specs.declared.request.WalkKind.TheVariants.{Freeze, Drain, Thaw, Removal}
use Rattle.bd_base.specs.declared.setup.Setup.{Setup}
use Rattle.bd_base.specs.declared.thread_set.ThreadSet.{ThreadSet}
use Rattle.bd_machine.specs.declared.state.Base.{Base}
use Rattle.bd_machine.specs.declared.state.Id.{Id}
use Rattle.bd_machine.specs.declared.state.Kept.{Kept}
use Rattle.bd_machine.specs.declared.state.Kept.TheVariants as keeps
use Rattle.bd_machine.specs.declared.state.News.{News}
use Rattle.bd_machine.specs.declared.state.News.TheVariants as news
use Rattle.bd_machine.specs.declared.state.OpenPiece.{OpenPiece}
use Rattle.bd_machine.specs.declared.state.OpenRequest.{OpenRequest}
use Rattle.bd_machine.specs.declared.state.OpenWalk.{OpenWalk}
use Rattle.bd_machine.specs.declared.state.Owed.TheVariants as owes
use Rattle.bd_machine.specs.declared.state.Part.{Part}
use Rattle.bd_machine.specs.declared.state.Resetting.{Resetting}
use Rattle.bd_machine.specs.declared.state.Stage.{Stage}
use Rattle.bd_machine.specs.declared.state.Stage.TheVariants as stages
use Rattle.bd_machine.specs.declared.state.Trip.{Trip}
use Rattle.bd_machine.specs.declared.state.Trip.TheVariants as trips
use Rattle.bd_machine.specs.Aborts.{stopped}
use Rattle.bd_machine.specs.Admission.{is_gone}
use Rattle.bd_machine.specs.Asked.{owes_removal}
use Rattle.bd_machine.specs.BlockMap.{size_of}
use Rattle.bd_machine.specs.Events.{decided_by, paid, with_due, alone, closed_by, put_down_by, put_paid, removal_paid, with_reset, advanced, reset_finishes, freed_by, removing, reset_begun, reset_thaws, injection_taken, drain_time, resizing, resized, change_reg, first_req}
use Rattle.bd_machine.specs.Guards.{change_by}
use Rattle.bd_machine.specs.Homes.{base_here, change_applied}
use Rattle.bd_machine.specs.Kept.{request_here, piece_here, walk_here}
use Rattle.bd_machine.specs.Limits.{arrived, departed, next_limited, waits_at}
use Rattle.bd_machine.specs.Messages.{request_took, told_part, freezes, went, told_walk, taken_by, arrived_walk, closed_notice}
use Rattle.bd_machine.specs.Registry.{device_named}
use Rattle.bd_machine.specs.Table.{write}
use Rattle.bd_machine.specs.Threads.{is_nobody}
use Rattle.bd_machine.specs.Users.{is_base_handle}
use Rattle.bd_machine.specs.View.{View, Came, Change, id_of}
use Rattle.bd_machine.specs.Walks.{staged, numbered, over_nobody, begin_walk_with, begin_walk, after_walk, is_at_end, walked, drain_threads, marked_by, change_visit, visited, walked_if_any, reset_of}

-- the second part has the marks of the first
abbrev pub Keeps : Part → Part → Type 0
Keeps p q = q.marked ≡ p.marked

keeps_then : (p q r : Part) → Keeps p q → Keeps q r → Keeps p r
keeps_then p q r h k = k ∙ h

keeps_cond : (b : Bool) (p q r : Part) → Keeps p q → Keeps p r → Keeps p (cond b q r)
keeps_cond true p q r h k = h
keeps_cond false p q r h k = k

change_cond : (b : Bool) (p : Part) (c d : Change) → Keeps p c.part → Keeps p d.part → Keeps p (cond b c d).part
change_cond true p c d h k = h
change_cond false p c d h k = k

-- ---- words

closed_keeps : (setup : Setup) (came : Came) (id : HandleId) (a : Answer) (p : Part) → Keeps p (closed_by setup came id a p)
closed_keeps setup came id a p =
    keeps_cond (is_base_handle setup id) p (paid (owes.Close id) p) (cond (is_gone p id) p (decided_by came a p)) refl
    (keeps_cond (is_gone p id) p p (decided_by came a p) refl refl)

put_keeps : (t : ℕ) (dev : DevId) (closing : Bool) (a : Answer) (p : Part) → Keeps p (put_down_by t dev a (put_paid dev closing p))
put_keeps t dev true (answers.PutDown left) p = refl
put_keeps t dev false (answers.PutDown left) p = refl
put_keeps t dev true _ p = refl
put_keeps t dev false _ p = refl

removal_keeps : (came : Came) (a : Answer) (o : Option ℕ) (p : Part) → Keeps p (removal_paid came a o p)
removal_keeps came a None p = refl
removal_keeps came a (Some n) p =
    keeps_cond (owes_removal p (Some n)) p (paid (owes.Remove (record { 0 = n })) p) (decided_by came a p) refl refl

finishes_keeps : (dev : DevId) (a : Answer) (p : Part) → Keeps p (reset_finishes dev a p)
finishes_keeps dev (answers.ResetFinished next) p = refl
finishes_keeps dev _ p = refl

freed_keeps : (a : Answer) (p : Part) → Keeps p (freed_by a p)
freed_keeps (answers.Freed (Some id)) p = refl
freed_keeps (answers.Freed None) p = refl
freed_keeps _ p = refl

staged_keeps : (req : Option ReqId) (stage : Stage) (p : Part) → Keeps p (staged req stage p)
staged_keeps None stage p = refl
staged_keeps (Some req) stage p = refl

told_keeps : (setup : Setup) (told : News) (p : Part) → Keeps p (told_part setup told p)
told_keeps setup (news.Mark mark) p = refl
told_keeps setup (news.Gone handle) p = refl
told_keeps setup (news.Channel dev) p = refl
told_keeps setup (news.Device dev) p = refl
told_keeps setup (news.Go req threads) p = refl
told_keeps setup (news.Grow dev blocks) p = refl
told_keeps setup (news.Sized handle blocks) p = refl

-- ---- walks

nobody_keeps : (kind : WalkKind) (req : Option ReqId) (p : Part) → Keeps p (over_nobody kind req p)
nobody_keeps Freeze req p = keeps_then p (numbered 2 p) (staged req stages.Drained (numbered 2 p)) refl (staged_keeps req stages.Drained (numbered 2 p))
nobody_keeps Drain req p = keeps_then p (numbered 1 p) (staged req stages.Drained (numbered 1 p)) refl (staged_keeps req stages.Drained (numbered 1 p))
nobody_keeps Thaw req p = keeps_then p (numbered 1 p) (staged req stages.Thawed (numbered 1 p)) refl (staged_keeps req stages.Thawed (numbered 1 p))
nobody_keeps Removal req p = refl

begin_keeps : (t : ℕ) (kind : WalkKind) (dev : DevId) (threads : ThreadSet) (req : Option ReqId) (time : ℕ) (c : Change) → Keeps c.part (begin_walk_with t kind dev threads req time c).part
begin_keeps t kind dev threads req time c = change_cond (is_nobody threads) c.part _ _ (nobody_keeps kind req c.part) refl

after_keeps : (t : ℕ) (w : OpenWalk) (kind : WalkKind) (c : Change) → Keeps c.part (after_walk t w kind c).part
after_keeps t w Freeze c =
    let d : Change = record { part = staged w.request stages.Draining c.part; moves = c.moves } in
    keeps_then c.part d.part (begin_walk t Drain w.dev (drain_threads c.part w.request) w.request d).part (staged_keeps w.request stages.Draining c.part) (begin_keeps t Drain w.dev (drain_threads c.part w.request) w.request 0 d)
after_keeps t w Drain c = staged_keeps w.request stages.Drained c.part
after_keeps t w Thaw c = staged_keeps w.request stages.Thawed c.part
after_keeps t w Removal c = refl

walked_keeps : (t : ℕ) (walk : WalkId) (w : OpenWalk) (p : Part) → Keeps p (walked t walk w p).part
walked_keeps t walk w p = change_cond (is_at_end t walk w) p _ _ (after_keeps t w w.kind _) refl

walked_if_keeps : (t : ℕ) (walk : WalkId) (p : Part) (x : Option OpenWalk) → Keeps p (walked_if_any t walk p x).part
walked_if_keeps t walk p None = refl
walked_if_keeps t walk p (Some w) = walked_keeps t walk (visited t w) p

went_keeps : (t : ℕ) (req : ReqId) (threads : ThreadSet) (x : Option Resetting) (c : Change) → Keeps c.part (went t req threads x c).part
went_keeps t req threads None c = refl
went_keeps t req threads (Some r) c =
    let d : Change = record { part = freezes req threads c.part; moves = c.moves } in
    keeps_then c.part d.part (begin_walk_with t Freeze r.dev threads (Some req) r.time d).part refl (begin_keeps t Freeze r.dev threads (Some req) r.time d)

told_walk_keeps : (t : ℕ) (told : News) (c : Change) → Keeps c.part (told_walk t told c).part
told_walk_keeps t (news.Go req threads) c = went_keeps t req threads (reset_of c.part req) c
told_walk_keeps t (news.Mark mark) c = refl
told_walk_keeps t (news.Gone handle) c = refl
told_walk_keeps t (news.Channel dev) c = refl
told_walk_keeps t (news.Device dev) c = refl
told_walk_keeps t (news.Grow dev blocks) c = refl
told_walk_keeps t (news.Sized handle blocks) c = refl

-- ---- messages taken

arrived_keeps : (p : Part) (req : ReqId) (o : Option DevId) → Keeps p (arrived p req o)
arrived_keeps p req None = refl
arrived_keeps p req (Some dev) = refl

came_keeps : (setup : Setup) (req : ReqId) (r : OpenRequest) (trip : Trip) (p : Part) → Keeps p (request_took setup req r trip p)
came_keeps setup req r trips.Out p = arrived_keeps p req (next_limited setup r)
came_keeps setup req r trips.Own p = refl
came_keeps setup req r trips.Passed p = refl

told_all : (setup : Setup) (t : ℕ) (p : Part) (told : News) (id : Id) → Keeps p (told_walk t told (record { part = told_part setup told p; moves = closed_notice id told })).part
told_all setup t p told id =
    let c : Change = record { part = told_part setup told p; moves = closed_notice id told } in keeps_then p c.part (told_walk t told c).part (told_keeps setup told p) (told_walk_keeps t told c)

taken_keeps : (setup : Setup) (t : ℕ) (what : Token) (p : Part) (x : Option Kept) (id : Id) → Keeps p (taken_by setup t what p x id).part
taken_keeps setup t what p None id = none what
  where
    none : (what : Token) → Keeps p (taken_by setup t what p None id).part
    none (tokens.Request req) = refl
    none _ = refl
taken_keeps setup t (tokens.Request req) p (Some (keeps.Request r)) id = came_keeps setup req r r.trip p
taken_keeps setup t (tokens.Walk walk) p (Some (keeps.Walk w)) id = walked_keeps t walk (arrived_walk w) p
taken_keeps setup t (tokens.Request req) p (Some (keeps.Notice told)) id = told_all setup t p told id
taken_keeps setup t what p (Some (keeps.Notice told)) id = told_all setup t p told id
taken_keeps setup t _ p _ id = refl

-- ---- the registry's events

removing_keeps : (setup : Setup) (t : ℕ) (a : Answer) (p : Part) → Keeps p (removing setup t a p).part
removing_keeps setup t (answers.Removing dev threads handles destruct) p =
    let c : Change = alone (with_due _ p) in
    keeps_then p c.part (begin_walk t Removal dev threads None c).part refl (begin_keeps t Removal dev threads None 0 c)
removing_keeps setup t _ p = refl

begun_keeps : (t : ℕ) (dev : DevId) (req : ReqId) (a : Answer) (p : Part) → Keeps p (reset_begun t dev req a p).part
begun_keeps t dev req (answers.ResetStarted threads) p =
    let c : Change = alone (with_reset req dev stages.Freezing threads p) in
    let time : ℕ = drain_time p req in
    keeps_then p c.part (begin_walk_with t Freeze dev threads (Some req) time c).part refl (begin_keeps t Freeze dev threads (Some req) time c)
begun_keeps t dev req _ p = refl

thaws_keeps : (t : ℕ) (dev : DevId) (a : Answer) (p : Part) → Keeps p (reset_thaws t dev a p).part
thaws_keeps t dev (answers.ResetEnded threads) p =
    let c : Change = alone (advanced dev stages.Drained stages.Thawing p) in
    keeps_then p c.part (begin_walk t Thaw dev threads (first_req p.resets dev stages.Drained) c).part refl (begin_keeps t Thaw dev threads (first_req p.resets dev stages.Drained) 0 c)
thaws_keeps t dev _ p = refl

injection_keeps : (v : View) (req : ReqId) (a : Answer) → Keeps v.part (injection_taken v req a).part
injection_keeps v req (answers.Injected decision) = refl
injection_keeps v req _ = refl

resizing_keeps : (blocks : ℕ) (a : Answer) (p : Part) → Keeps p (resizing blocks a p)
resizing_keeps blocks (answers.Resizing dev at) p = refl
resizing_keeps blocks _ p = refl

resized_keeps : (a : Answer) (p : Part) → Keeps p (resized a p)
resized_keeps (answers.Resized handles blocks destruct) p = refl
resized_keeps _ p = refl

abbrev pub sets_by_event : RegEvent → Bool
sets_by_event (events.GetChannel dev) = true
sets_by_event (events.DropChannel dev) = true
sets_by_event _ = false

reg_keeps : (setup : Setup) (t : ℕ) (v : View) (came : Came) (event : RegEvent) (a : Answer) → sets_by_event event ≡ false → Keeps v.part (change_reg setup t v came event a).part
reg_keeps setup t v came (events.Open name write) a h = refl
reg_keeps setup t v came (events.Claim id kind) a h = refl
reg_keeps setup t v came (events.Close id) a h = closed_keeps setup came id a v.part
reg_keeps setup t v came (events.GetChannel dev) a h = cc
reg_keeps setup t v came (events.PutChannel dev closing) a h = put_keeps t dev closing a v.part
reg_keeps setup t v came (events.DropChannel dev) a h = cc
reg_keeps setup t v came (events.BeginRemove name) a h =
    let p : Part = removal_paid came a (device_named setup name) v.part in
    keeps_then v.part p (removing setup t a p).part (removal_keeps came a (device_named setup name) v.part) (removing_keeps setup t a p)
reg_keeps setup t v came (events.BeginReset dev req) a h = begun_keeps t dev req a v.part
reg_keeps setup t v came (events.EndReset dev) a h = thaws_keeps t dev a v.part
reg_keeps setup t v came (events.FinishReset dev) a h = finishes_keeps dev a v.part
reg_keeps setup t v came (events.TakeInjection dev req op) a h = injection_keeps v req a
reg_keeps setup t v came (events.Destructed dev) a h = freed_keeps a (paid (owes.Report dev) v.part)
reg_keeps setup t v came (events.BeginResize name blocks) a h = resizing_keeps blocks a (decided_by came a v.part)
reg_keeps setup t v came (events.EndResize dev) a h = resized_keeps a (paid (owes.EndResize dev) v.part)

-- ---- acts

applied_keeps : (v : View) (req : ReqId) (k : ℕ) (dev : DevId) (end : ApplyEnd) (size : ℕ) (x : Option OpenPiece) (b : Option Base) → Keeps v.part (change_applied v req k dev end size x b).part
applied_keeps v req k dev end size (Some p) (Some b) = refl
applied_keeps v req k dev end size _ _ = refl

stopped_keeps : (setup : Setup) (p : Part) (req : ReqId) (x : Option OpenRequest) → Keeps p (stopped setup p req x)
stopped_keeps setup p req None = refl
stopped_keeps setup p req (Some r) = go (waits_at setup r)
  where
    go : (o : Option DevId) → Keeps p (departed p req o)
    go None = refl
    go (Some dev) = refl

-- ---- acts that set no mark

-- a mark may be set, taken or changed by the act
abbrev pub sets_marks : Act → Bool
sets_marks (acts.Visit walk dev kind) = true
sets_marks (acts.Grace walk until) = true
sets_marks (acts.Due walk now) = true
sets_marks (acts.Reg event a) = sets_by_event event
sets_marks _ = false

-- no other changes the marks
pub marks_stay : (setup : Setup) (t : ℕ) (v : View) (act : Act) (came : Came) → sets_marks act ≡ false → Keeps v.part (change_by setup t v act came).part
marks_stay setup t v (acts.Took source number what) came h = taken_keeps setup t what (record v.part { taken = write ◌==◌ v.part.taken source (number + 1) }) came.message (id_of source t number what)
marks_stay setup t v (acts.Reg event a) came h = reg_keeps setup t v came event a h
marks_stay setup t v (acts.Apply req k dev end) came h = applied_keeps v req k dev end (size_of setup dev) (piece_here v req k) (base_here v dev)
marks_stay setup t v (acts.Visit walk dev kind) came h = cc
marks_stay setup t v (acts.Abort req cause) came h = stopped_keeps setup v.part req (request_here v req)
marks_stay setup t v (acts.Grace walk until) came h = cc
marks_stay setup t v (acts.Due walk now) came h = cc
marks_stay setup t v _ came h = refl

-- ---- what a visit leaves

-- a walk that goes on leaves the marks that its visit set
pub walk_stays : (setup : Setup) (t : ℕ) (v : View) (walk : WalkId) (dev : DevId) (kind : WalkKind) → (change_visit setup t v walk dev kind).part.marked ≡ (marked_by setup t v walk dev kind).marked
walk_stays setup t v walk dev kind = walked_if_keeps t walk (marked_by setup t v walk dev kind) (walk_here v walk)
