-- What each act leaves of a part's open requests and of its limited devices.
use Rattle.std.proofs.Common.{◌≡◌, ℕ, ◌+◌, ◌==◌, Bool, true, false, cond, not, ◌&&◌, List, [], ◌∷◌, ◌++◌, Option, Some, None, refl, ◌∙◌}
use Rattle.std.specs.List.{filter}
use Rattle.bd_base.specs.declared.act.Act.{Act}
use Rattle.bd_base.specs.declared.act.Act.TheVariants as acts
use Rattle.bd_base.specs.declared.act.ApplyEnd.{ApplyEnd}
use Rattle.bd_base.specs.declared.act.Token.{Token}
use Rattle.bd_base.specs.declared.act.Token.TheVariants as tokens
use Rattle.bd_base.specs.declared.event.Answer.{Answer}
use Rattle.bd_base.specs.declared.event.Answer.TheVariants as answers
use Rattle.bd_base.specs.declared.event.RegEvent.{RegEvent}
use Rattle.bd_base.specs.declared.event.RegEvent.TheVariants as events
use Rattle.bd_base.specs.declared.id.DevId.{DevId}
use Rattle.bd_base.specs.declared.id.HandleId.{HandleId}
use Rattle.bd_base.specs.declared.id.ReqId.{ReqId}
use Rattle.bd_base.specs.declared.id.WalkId.{WalkId}
use Rattle.bd_base.specs.declared.request.WalkKind.{WalkKind}
use Rattle.bd_base.specs.declared.request.WalkKind.TheVariants.{Freeze, Drain, Thaw, Removal}
use Rattle.bd_base.specs.declared.setup.Setup.{Setup}
use Rattle.bd_base.specs.declared.thread_set.ThreadSet.{ThreadSet}
use Rattle.bd_machine.specs.declared.state.Base.{Base}
use Rattle.bd_machine.specs.declared.state.Id.{Id}
use Rattle.bd_machine.specs.declared.state.Kept.{Kept}
use Rattle.bd_machine.specs.declared.state.Kept.TheVariants as keeps
use Rattle.bd_machine.specs.declared.state.Limited.{Limited}
use Rattle.bd_machine.specs.declared.state.News.{News}
use Rattle.bd_machine.specs.declared.state.News.TheVariants as news
use Rattle.bd_machine.specs.declared.state.Open.{Open}
use Rattle.bd_machine.specs.declared.state.OpenPiece.{OpenPiece}
use Rattle.bd_machine.specs.declared.state.OpenRequest.{OpenRequest}
use Rattle.bd_machine.specs.declared.state.OpenWalk.{OpenWalk}
use Rattle.bd_machine.specs.declared.state.Owed.TheVariants as owes
use Rattle.bd_machine.specs.declared.state.Part.{Part}
use Rattle.bd_machine.specs.declared.state.Resetting.{Resetting}
use Rattle.bd_machine.specs.declared.state.Stage.{Stage}
use Rattle.bd_machine.specs.declared.state.Stage.TheVariants as stages
use Rattle.bd_machine.specs.declared.state.Trip.{Trip}
use Rattle.bd_machine.specs.declared.state.Trip.TheVariants as trips
use Rattle.bd_machine.specs.Aborts.{stopped}
use Rattle.bd_machine.specs.Admission.{is_gone}
use Rattle.bd_machine.specs.Asked.{owes_removal}
use Rattle.bd_machine.specs.BlockMap.{below, home, size_of}
use Rattle.bd_machine.specs.Changes.{is_dropped}
use Rattle.bd_machine.specs.Events.{decided_by, paid, owing, with_due, alone, closed_by, born, all_born, got_by, put_down_by, put_paid, dropped_by, removal_paid, with_reset, advanced, reset_finishes, freed_by, channel_due, removing, reset_begun, reset_thaws, injection_taken, drain_time, resizing, resized, change_reg, first_req}
use Rattle.bd_machine.specs.Guards.{change}
use Rattle.bd_machine.specs.Homes.{base_here, change_applied}
use Rattle.bd_machine.specs.Kept.{request_here, piece_here, walk_here}
use Rattle.bd_machine.specs.Limits.{arrived, departed, is_limited, next_limited, waits_at}
use Rattle.bd_machine.specs.declared.state.Marking.{Marking}
use Rattle.bd_machine.specs.declared.state.FreezeMark.TheVariants.{Not}
use Rattle.bd_machine.specs.Grace.{dev_if_any, ended, ending_mark, remarked_if_any, softened}
use Rattle.bd_machine.specs.Marks.{remarked, with_frozen, with_until, hardened, freeze_set, removal_set}
use Rattle.bd_machine.specs.Messages.{request_took, told_part, freezes, went, told_walk, taken_by, arrived_walk, closed_notice}
use Rattle.bd_machine.specs.Registry.{made, device_named}
use Rattle.bd_machine.specs.Same.{same_request}
use Rattle.bd_machine.specs.Table.{write}
use Rattle.bd_machine.specs.Threads.{is_nobody}
use Rattle.bd_machine.specs.Users.{is_base_handle}
use Rattle.bd_machine.specs.View.{View, Came, Change, id_of}
use Rattle.bd_machine.specs.Walks.{staged, numbered, over_nobody, begin_walk_with, begin_walk, time_of_walk, after_walk, is_at_end, walked, drain_threads, put_owed, marked_by, visited, walked_if_any, reset_of}

-- the second part has the open requests and the limited devices of the first
pub record Holds (p q : Part) : Type 0 where
  pub requests : q.requests ≡ p.requests
  pub limited : q.limited ≡ p.limited

abbrev unchanged : (p q : Part) → q.requests ≡ p.requests → q.limited ≡ p.limited → Holds p q
unchanged p q h k = record { requests = h; limited = k }

holds_then : (p q r : Part) → Holds p q → Holds q r → Holds p r
holds_then p q r h k = record { requests = k.requests ∙ h.requests; limited = k.limited ∙ h.limited }

holds_cond : (b : Bool) (p q r : Part) → Holds p q → Holds p r → Holds p (cond b q r)
holds_cond true p q r h k = h
holds_cond false p q r h k = k

change_cond : (b : Bool) (p : Part) (c d : Change) → Holds p c.part → Holds p d.part → Holds p (cond b c d).part
change_cond true p c d h k = h
change_cond false p c d h k = k

-- ---- words

closed_holds : (setup : Setup) (came : Came) (id : HandleId) (a : Answer) (p : Part) → Holds p (closed_by setup came id a p)
closed_holds setup came id a p =
    holds_cond (is_base_handle setup id) p (paid (owes.Close id) p) (cond (is_gone p id) p (decided_by came a p)) (unchanged _ _ refl refl)
    (holds_cond (is_gone p id) p p (decided_by came a p) (unchanged _ _ refl refl) (unchanged _ _ refl refl))

born_holds : (frozen ds : List DevId) (p : Part) → Holds p (all_born frozen ds p)
born_holds frozen [] p = unchanged _ _ refl refl
born_holds frozen (d ∷ ds) p = holds_then p (born frozen d p) (all_born frozen ds (born frozen d p)) (unchanged _ _ refl refl) (born_holds frozen ds (born frozen d p))

got_holds : (setup : Setup) (v : View) (dev : DevId) (a : Answer) → Holds v.part (got_by setup v dev a)
got_holds setup v dev (answers.Got fresh frozen) = born_holds frozen (made v.channels (below setup dev)) v.part
got_holds setup v dev _ = unchanged _ _ refl refl

put_holds : (t : ℕ) (dev : DevId) (closing : Bool) (a : Answer) (p : Part) → Holds p (put_down_by t dev a (put_paid dev closing p))
put_holds t dev true (answers.PutDown left) p = unchanged _ _ refl refl
put_holds t dev false (answers.PutDown left) p = unchanged _ _ refl refl
put_holds t dev true _ p = unchanged _ _ refl refl
put_holds t dev false _ p = unchanged _ _ refl refl

dropped_holds : (t : ℕ) (dev : DevId) (a : Answer) (p : Part) → Holds p (dropped_by t dev a p)
dropped_holds t dev (answers.Dropped what zero destruct) p =
    let q : Part = cond (is_dropped what) (remarked dev (with_frozen Not) p) p in
    holds_then p q (with_due (channel_due t zero) q) (holds_cond (is_dropped what) p (remarked dev (with_frozen Not) p) p (unchanged _ _ refl refl) (unchanged _ _ refl refl)) (unchanged _ _ refl refl)
dropped_holds t dev _ p = unchanged _ _ refl refl

removal_holds : (came : Came) (a : Answer) (o : Option ℕ) (p : Part) → Holds p (removal_paid came a o p)
removal_holds came a None p = unchanged _ _ refl refl
removal_holds came a (Some n) p =
    holds_cond (owes_removal p (Some n)) p (paid (owes.Remove (record { 0 = n })) p) (decided_by came a p) (unchanged _ _ refl refl) (unchanged _ _ refl refl)

finishes_holds : (dev : DevId) (a : Answer) (p : Part) → Holds p (reset_finishes dev a p)
finishes_holds dev (answers.ResetFinished next) p = unchanged _ _ refl refl
finishes_holds dev _ p = unchanged _ _ refl refl

freed_holds : (a : Answer) (p : Part) → Holds p (freed_by a p)
freed_holds (answers.Freed (Some id)) p = unchanged _ _ refl refl
freed_holds (answers.Freed None) p = unchanged _ _ refl refl
freed_holds _ p = unchanged _ _ refl refl

staged_holds : (req : Option ReqId) (stage : Stage) (p : Part) → Holds p (staged req stage p)
staged_holds None stage p = unchanged _ _ refl refl
staged_holds (Some req) stage p = unchanged _ _ refl refl

marked_holds : (setup : Setup) (t : ℕ) (v : View) (walk : WalkId) (dev : DevId) (kind : WalkKind) → Holds v.part (marked_by setup t v walk dev kind)
marked_holds setup t v walk dev Freeze = holds_cond _ v.part (remarked dev (freeze_set walk (time_of_walk (walk_here v walk))) v.part) v.part (unchanged _ _ refl refl) (unchanged _ _ refl refl)
marked_holds setup t v walk dev Drain = unchanged _ _ refl refl
marked_holds setup t v walk dev Thaw = unchanged _ _ refl refl
marked_holds setup t v walk dev Removal =
    let p : Part = remarked dev removal_set v.part in
    holds_then v.part p (put_owed setup t dev p) (unchanged _ _ refl refl) (holds_cond (is_limited setup dev && (home setup dev == t)) p (owing (owes.Put dev) p) p (unchanged _ _ refl refl) (unchanged _ _ refl refl))

told_holds : (setup : Setup) (told : News) (p : Part) → Holds p (told_part setup told p)
told_holds setup (news.Mark mark) p = unchanged _ _ refl refl
told_holds setup (news.Gone handle) p = unchanged _ _ refl refl
told_holds setup (news.Channel dev) p = unchanged _ _ refl refl
told_holds setup (news.Device dev) p = unchanged _ _ refl refl
told_holds setup (news.Go req threads) p = unchanged _ _ refl refl
told_holds setup (news.Grow dev blocks) p = unchanged _ _ refl refl
told_holds setup (news.Sized handle blocks) p = unchanged _ _ refl refl

remarked_holds : (o : Option DevId) (f : Marking → Marking) (p : Part) → Holds p (remarked_if_any o f p)
remarked_holds None f p = unchanged _ _ refl refl
remarked_holds (Some dev) f p = unchanged _ _ refl refl

ended_holds : (walk : WalkId) (now : ℕ) (p : Part) → Holds p (ended walk now p)
ended_holds walk now p =
    let q : Part = remarked_if_any (dev_if_any (ending_mark p walk)) hardened p in
    holds_then p q (ended walk now p) (remarked_holds (dev_if_any (ending_mark p walk)) hardened p) (unchanged _ _ refl refl)

-- ---- walks

nobody_holds : (kind : WalkKind) (req : Option ReqId) (p : Part) → Holds p (over_nobody kind req p)
nobody_holds Freeze req p = holds_then p (numbered 2 p) (staged req stages.Drained (numbered 2 p)) (unchanged _ _ refl refl) (staged_holds req stages.Drained (numbered 2 p))
nobody_holds Drain req p = holds_then p (numbered 1 p) (staged req stages.Drained (numbered 1 p)) (unchanged _ _ refl refl) (staged_holds req stages.Drained (numbered 1 p))
nobody_holds Thaw req p = holds_then p (numbered 1 p) (staged req stages.Thawed (numbered 1 p)) (unchanged _ _ refl refl) (staged_holds req stages.Thawed (numbered 1 p))
nobody_holds Removal req p = unchanged _ _ refl refl

begin_holds : (t : ℕ) (kind : WalkKind) (dev : DevId) (threads : ThreadSet) (req : Option ReqId) (time : ℕ) (c : Change) → Holds c.part (begin_walk_with t kind dev threads req time c).part
begin_holds t kind dev threads req time c = change_cond (is_nobody threads) c.part _ _ (nobody_holds kind req c.part) (unchanged _ _ refl refl)

after_holds : (t : ℕ) (w : OpenWalk) (kind : WalkKind) (c : Change) → Holds c.part (after_walk t w kind c).part
after_holds t w Freeze c =
    let d : Change = record { part = staged w.request stages.Draining c.part; moves = c.moves } in
    holds_then c.part d.part (begin_walk t Drain w.dev (drain_threads c.part w.request) w.request d).part (staged_holds w.request stages.Draining c.part) (begin_holds t Drain w.dev (drain_threads c.part w.request) w.request 0 d)
after_holds t w Drain c = staged_holds w.request stages.Drained c.part
after_holds t w Thaw c = staged_holds w.request stages.Thawed c.part
after_holds t w Removal c = unchanged _ _ refl refl

walked_holds : (t : ℕ) (walk : WalkId) (w : OpenWalk) (p : Part) → Holds p (walked t walk w p).part
walked_holds t walk w p = change_cond (is_at_end t walk w) p _ _ (after_holds t w w.kind _) (unchanged _ _ refl refl)

walked_if_holds : (t : ℕ) (walk : WalkId) (p : Part) (x : Option OpenWalk) → Holds p (walked_if_any t walk p x).part
walked_if_holds t walk p None = unchanged _ _ refl refl
walked_if_holds t walk p (Some w) = walked_holds t walk (visited t w) p

went_holds : (t : ℕ) (req : ReqId) (threads : ThreadSet) (x : Option Resetting) (c : Change) → Holds c.part (went t req threads x c).part
went_holds t req threads None c = unchanged _ _ refl refl
went_holds t req threads (Some r) c =
    let d : Change = record { part = freezes req threads c.part; moves = c.moves } in
    holds_then c.part d.part (begin_walk_with t Freeze r.dev threads (Some req) r.time d).part (unchanged _ _ refl refl) (begin_holds t Freeze r.dev threads (Some req) r.time d)

told_walk_holds : (t : ℕ) (told : News) (c : Change) → Holds c.part (told_walk t told c).part
told_walk_holds t (news.Go req threads) c = went_holds t req threads (reset_of c.part req) c
told_walk_holds t (news.Mark mark) c = unchanged _ _ refl refl
told_walk_holds t (news.Gone handle) c = unchanged _ _ refl refl
told_walk_holds t (news.Channel dev) c = unchanged _ _ refl refl
told_walk_holds t (news.Device dev) c = unchanged _ _ refl refl
told_walk_holds t (news.Grow dev blocks) c = unchanged _ _ refl refl
told_walk_holds t (news.Sized handle blocks) c = unchanged _ _ refl refl

-- ---- messages taken

-- the limited devices after a request came, by its trip
abbrev pub limited_came : Setup → ReqId → OpenRequest → Trip → Part → List Limited
limited_came setup req r trips.Out p = (arrived p req (next_limited setup r)).limited
limited_came setup req r _ p = p.limited

abbrev pub limited_took : Setup → Token → Part → Option Kept → List Limited
limited_took setup (tokens.Request req) p (Some (keeps.Request r)) = limited_came setup req r r.trip p
limited_took setup _ p _ = p.limited

-- what a message that is taken leaves
pub record Takes (setup : Setup) (what : Token) (p : Part) (x : Option Kept) (q : Part) : Type 0 where
  pub requests : q.requests ≡ p.requests
  pub limited : q.limited ≡ limited_took setup what p x

came_limited : (setup : Setup) (req : ReqId) (r : OpenRequest) (trip : Trip) (p : Part) → (request_took setup req r trip p).limited ≡ limited_came setup req r trip p
came_limited setup req r trips.Out p = refl
came_limited setup req r trips.Own p = refl
came_limited setup req r trips.Passed p = refl

arrived_requests : (p : Part) (req : ReqId) (o : Option DevId) → (arrived p req o).requests ≡ p.requests
arrived_requests p req None = refl
arrived_requests p req (Some dev) = refl

came_requests : (setup : Setup) (req : ReqId) (r : OpenRequest) (trip : Trip) (p : Part) → (request_took setup req r trip p).requests ≡ p.requests
came_requests setup req r trips.Out p = arrived_requests p req (next_limited setup r)
came_requests setup req r trips.Own p = refl
came_requests setup req r trips.Passed p = refl

taken_holds : (setup : Setup) (t : ℕ) (what : Token) (p : Part) (x : Option Kept) (id : Id) → Takes setup what p x (taken_by setup t what p x id).part
taken_holds setup t what p None id = none what
  where
    none : (what : Token) → Takes setup what p None (taken_by setup t what p None id).part
    none (tokens.Request req) = record { requests = refl; limited = refl }
    none _ = record { requests = refl; limited = refl }
taken_holds setup t (tokens.Request req) p (Some (keeps.Request r)) id = record { requests = came_requests setup req r r.trip p; limited = came_limited setup req r r.trip p }
taken_holds setup t (tokens.Walk walk) p (Some (keeps.Walk w)) id = let h = walked_holds t walk (arrived_walk w) p in record { requests = h.requests; limited = h.limited }
taken_holds setup t (tokens.Request req) p (Some (keeps.Notice told)) id = record { requests = (told_all told).requests; limited = (told_all told).limited }
  where
    told_all : (told : News) → Holds p (told_walk t told (record { part = told_part setup told p; moves = closed_notice id told })).part
    told_all told = let c : Change = record { part = told_part setup told p; moves = closed_notice id told } in holds_then p c.part (told_walk t told c).part (told_holds setup told p) (told_walk_holds t told c)
taken_holds setup t what p (Some (keeps.Notice told)) id = record { requests = (told_all told).requests; limited = (told_all told).limited }
  where
    told_all : (told : News) → Holds p (told_walk t told (record { part = told_part setup told p; moves = closed_notice id told })).part
    told_all told = let c : Change = record { part = told_part setup told p; moves = closed_notice id told } in holds_then p c.part (told_walk t told c).part (told_holds setup told p) (told_walk_holds t told c)
taken_holds setup t _ p _ id = record { requests = refl; limited = refl }

-- ---- the registry's events

removing_holds : (setup : Setup) (t : ℕ) (a : Answer) (p : Part) → Holds p (removing setup t a p).part
removing_holds setup t (answers.Removing dev threads handles destruct) p =
    let c : Change = alone (with_due _ p) in
    holds_then p c.part (begin_walk t Removal dev threads None c).part (unchanged _ _ refl refl) (begin_holds t Removal dev threads None 0 c)
removing_holds setup t _ p = unchanged _ _ refl refl

begun_holds : (t : ℕ) (dev : DevId) (req : ReqId) (a : Answer) (p : Part) → Holds p (reset_begun t dev req a p).part
begun_holds t dev req (answers.ResetStarted threads) p =
    let c : Change = alone (with_reset req dev stages.Freezing threads p) in
    let time : ℕ = drain_time p req in
    holds_then p c.part (begin_walk_with t Freeze dev threads (Some req) time c).part (unchanged _ _ refl refl) (begin_holds t Freeze dev threads (Some req) time c)
begun_holds t dev req _ p = unchanged _ _ refl refl

thaws_holds : (t : ℕ) (dev : DevId) (a : Answer) (p : Part) → Holds p (reset_thaws t dev a p).part
thaws_holds t dev (answers.ResetEnded threads) p =
    let c : Change = alone (advanced dev stages.Drained stages.Thawing p) in
    holds_then p c.part (begin_walk t Thaw dev threads (first_req p.resets dev stages.Drained) c).part (unchanged _ _ refl refl) (begin_holds t Thaw dev threads (first_req p.resets dev stages.Drained) 0 c)
thaws_holds t dev _ p = unchanged _ _ refl refl

injection_holds : (v : View) (req : ReqId) (a : Answer) → Holds v.part (injection_taken v req a).part
injection_holds v req (answers.Injected decision) = unchanged _ _ refl refl
injection_holds v req _ = unchanged _ _ refl refl

resizing_holds : (blocks : ℕ) (a : Answer) (p : Part) → Holds p (resizing blocks a p)
resizing_holds blocks (answers.Resizing dev home) p = unchanged _ _ refl refl
resizing_holds blocks _ p = unchanged _ _ refl refl

resized_holds : (a : Answer) (p : Part) → Holds p (resized a p)
resized_holds (answers.Resized handles blocks destruct) p = unchanged _ _ refl refl
resized_holds _ p = unchanged _ _ refl refl

reg_holds : (setup : Setup) (t : ℕ) (v : View) (came : Came) (event : RegEvent) (a : Answer) → Holds v.part (change_reg setup t v came event a).part
reg_holds setup t v came (events.Open name write) a = unchanged _ _ refl refl
reg_holds setup t v came (events.Claim id kind) a = unchanged _ _ refl refl
reg_holds setup t v came (events.Close id) a = holds_then v.part (closed_by setup came id a v.part) _ (closed_holds setup came id a v.part) (unchanged _ _ refl refl)
reg_holds setup t v came (events.GetChannel dev) a = got_holds setup v dev a
reg_holds setup t v came (events.PutChannel dev closing) a = put_holds t dev closing a v.part
reg_holds setup t v came (events.DropChannel dev) a =
    holds_then v.part (dropped_by t dev a (paid (owes.Drop dev) v.part)) _
    (holds_then v.part (paid (owes.Drop dev) v.part) _ (unchanged _ _ refl refl) (dropped_holds t dev a (paid (owes.Drop dev) v.part)))
    (unchanged _ _ refl refl)
reg_holds setup t v came (events.BeginRemove name) a =
    let p : Part = removal_paid came a (device_named setup name) v.part in
    holds_then v.part p (removing setup t a p).part (removal_holds came a (device_named setup name) v.part) (removing_holds setup t a p)
reg_holds setup t v came (events.BeginReset dev req) a = begun_holds t dev req a v.part
reg_holds setup t v came (events.EndReset dev) a = thaws_holds t dev a v.part
reg_holds setup t v came (events.FinishReset dev) a = finishes_holds dev a v.part
reg_holds setup t v came (events.TakeInjection dev req op) a = injection_holds v req a
reg_holds setup t v came (events.Destructed dev) a =
    holds_then v.part (paid (owes.Report dev) v.part) _ (unchanged _ _ refl refl) (freed_holds a (paid (owes.Report dev) v.part))
reg_holds setup t v came (events.BeginResize name blocks) a =
    holds_then v.part (decided_by came a v.part) _ (unchanged _ _ refl refl) (resizing_holds blocks a (decided_by came a v.part))
reg_holds setup t v came (events.EndResize dev) a =
    holds_then v.part (resized a (paid (owes.EndResize dev) v.part)) _
    (holds_then v.part (paid (owes.EndResize dev) v.part) _ (unchanged _ _ refl refl) (resized_holds a (paid (owes.EndResize dev) v.part)))
    (unchanged _ _ refl refl)

-- ---- acts

-- the open requests after an act
abbrev pub requests_after : Act → List Open → List Open
requests_after (acts.Accept dev lba handle req op count) rows = rows ++ record { id = req; handle = handle; dev = dev; op = op } ∷ []
requests_after (acts.Complete req status shown) rows = filter (λ r. not (same_request r.id req)) rows
requests_after _ rows = rows

-- an act that leaves the limited devices
abbrev pub leaves_limited : Act → Bool
leaves_limited (acts.Took source number what) = false
leaves_limited (acts.Let req dev now) = false
leaves_limited (acts.Tick dev now slices) = false
leaves_limited (acts.Abort req cause) = false
leaves_limited _ = true

applied_holds : (v : View) (req : ReqId) (k : ℕ) (dev : DevId) (end : ApplyEnd) (size : ℕ) (x : Option OpenPiece) (b : Option Base) → Holds v.part (change_applied v req k dev end size x b).part
applied_holds v req k dev end size (Some p) (Some b) = unchanged _ _ refl refl
applied_holds v req k dev end size _ _ = unchanged _ _ refl refl

visit_holds : (setup : Setup) (t : ℕ) (v : View) (walk : WalkId) (dev : DevId) (kind : WalkKind) → Holds v.part (walked_if_any t walk (marked_by setup t v walk dev kind) (walk_here v walk)).part
visit_holds setup t v walk dev kind =
    let p : Part = marked_by setup t v walk dev kind in
    holds_then v.part p (walked_if_any t walk p (walk_here v walk)).part (marked_holds setup t v walk dev kind) (walked_if_holds t walk p (walk_here v walk))

-- what the part of the taker is before its message does something
abbrev pub taken_before : Part → ℕ → ℕ → Part
taken_before p source number = record p { taken = write ◌==◌ p.taken source (number + 1) }

stopped_requests : (setup : Setup) (p : Part) (req : ReqId) (x : Option OpenRequest) → (stopped setup p req x).requests ≡ p.requests
stopped_requests setup p req None = refl
stopped_requests setup p req (Some r) = go (waits_at setup r)
  where
    go : (o : Option DevId) → (departed p req o).requests ≡ p.requests
    go None = refl
    go (Some dev) = refl

-- an act's open requests
pub requests_are : (setup : Setup) (t : ℕ) (v : View) (act : Act) (came : Came) → (change setup t v act came).part.requests ≡ requests_after act v.part.requests
requests_are setup t v (acts.Took source number what) came = (taken_holds setup t what (taken_before v.part source number) came.message (id_of source t number what)).requests
requests_are setup t v (acts.Reg event a) came = (reg_holds setup t v came event a).requests
requests_are setup t v (acts.Apply req k dev end) came = (applied_holds v req k dev end (size_of setup dev) (piece_here v req k) (base_here v dev)).requests
requests_are setup t v (acts.Visit walk dev kind) came = (visit_holds setup t v walk dev kind).requests
requests_are setup t v (acts.Abort req cause) came = stopped_requests setup v.part req (request_here v req)
requests_are setup t v (acts.Grace walk until) came = (remarked_holds (softened walk v.part.prior) (with_until until) v.part).requests
requests_are setup t v (acts.Due walk now) came = (ended_holds walk now v.part).requests
requests_are setup t v _ came = refl

pub limited_stays : (setup : Setup) (t : ℕ) (v : View) (act : Act) (came : Came) → leaves_limited act ≡ true → (change setup t v act came).part.limited ≡ v.part.limited
limited_stays setup t v (acts.Took source number what) came h = cc
limited_stays setup t v (acts.Let req dev now) came h = cc
limited_stays setup t v (acts.Tick dev now slices) came h = cc
limited_stays setup t v (acts.Abort req cause) came h = cc
limited_stays setup t v (acts.Reg event a) came h = (reg_holds setup t v came event a).limited
limited_stays setup t v (acts.Apply req k dev end) came h = (applied_holds v req k dev end (size_of setup dev) (piece_here v req k) (base_here v dev)).limited
limited_stays setup t v (acts.Visit walk dev kind) came h = (visit_holds setup t v walk dev kind).limited
limited_stays setup t v (acts.Grace walk until) came h = (remarked_holds (softened walk v.part.prior) (with_until until) v.part).limited
limited_stays setup t v (acts.Due walk now) came h = (ended_holds walk now v.part).limited
limited_stays setup t v _ came h = refl

pub limited_taken : (setup : Setup) (t : ℕ) (v : View) (source number : ℕ) (what : Token) (came : Came) → (change setup t v (acts.Took source number what) came).part.limited ≡ limited_took setup what (taken_before v.part source number) came.message
limited_taken setup t v source number what came = (taken_holds setup t what (taken_before v.part source number) came.message (id_of source t number what)).limited
