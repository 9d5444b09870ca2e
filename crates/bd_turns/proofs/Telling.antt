-- Where the devices come from that a thread has to tell of, to destruct or to report: from an answer that names them, from a message, and from a Destruct.
use Rattle.std.proofs.Common.{◌≡◌, ℕ, ◌+◌, ◌==◌, Bool, true, false, cond, ◌&&◌, ◌||◌, ◌⊎◌, inl, inr, List, [], ◌∷◌, ◌++◌, map, Option, Some, None, option_map, refl, sym, ◌∙◌, ap, subst}
use Rattle.std.specs.List.{list_any, range_with_len}
use Rattle.bd_base.specs.declared.act.Act.{Act}
use Rattle.bd_base.specs.declared.act.Act.TheVariants as acts
use Rattle.bd_base.specs.declared.act.ApplyEnd.{ApplyEnd}
use Rattle.bd_base.specs.declared.act.Token.{Token}
use Rattle.bd_base.specs.declared.act.Token.TheVariants as tokens
use Rattle.bd_base.specs.declared.event.Answer.{Answer}
use Rattle.bd_base.specs.declared.event.Answer.TheVariants as answers
use Rattle.bd_base.specs.declared.event.RegEvent.{RegEvent}
use Rattle.bd_base.specs.declared.event.RegEvent.TheVariants as events
use Rattle.bd_base.specs.declared.id.DevId.{DevId}
use Rattle.bd_base.specs.declared.id.HandleId.{HandleId}
use Rattle.bd_base.specs.declared.id.ReqId.{ReqId}
use Rattle.bd_base.specs.declared.id.ThreadId.{ThreadId}
use Rattle.bd_base.specs.declared.id.WalkId.{WalkId}
use Rattle.bd_base.specs.declared.job.Job.{Job}
use Rattle.bd_base.specs.declared.job.Job.TheVariants as jobs
use Rattle.bd_base.specs.declared.request.WalkKind.{WalkKind}
use Rattle.bd_base.specs.declared.request.WalkKind.TheVariants.{Freeze, Drain, Thaw, Removal}
use Rattle.bd_base.specs.declared.setup.Setup.{Setup}
use Rattle.bd_base.specs.declared.thread_set.ThreadSet.{ThreadSet}
use Rattle.bd_machine.specs.declared.state.Base.{Base}
use Rattle.bd_machine.specs.declared.state.Due.{Due}
use Rattle.bd_machine.specs.declared.state.Handle.{Handle}
use Rattle.bd_machine.specs.declared.state.Id.{Id}
use Rattle.bd_machine.specs.declared.state.Kept.{Kept}
use Rattle.bd_machine.specs.declared.state.Kept.TheVariants as keeps
use Rattle.bd_machine.specs.declared.state.News.{News}
use Rattle.bd_machine.specs.declared.state.News.TheVariants as news
use Rattle.bd_machine.specs.declared.state.OpenPiece.{OpenPiece}
use Rattle.bd_machine.specs.declared.state.OpenRequest.{OpenRequest}
use Rattle.bd_machine.specs.declared.state.OpenWalk.{OpenWalk}
use Rattle.bd_machine.specs.declared.state.Owed.{Owed}
use Rattle.bd_machine.specs.declared.state.Owed.TheVariants as owes
use Rattle.bd_machine.specs.declared.state.Part.{Part}
use Rattle.bd_machine.specs.declared.state.Registry.{Registry}
use Rattle.bd_machine.specs.declared.state.Resetting.{Resetting}
use Rattle.bd_machine.specs.declared.state.Stage.{Stage}
use Rattle.bd_machine.specs.declared.state.Stage.TheVariants as stages
use Rattle.bd_machine.specs.declared.state.State.{State}
use Rattle.bd_machine.specs.declared.state.Trip.{Trip}
use Rattle.bd_machine.specs.declared.state.Trip.TheVariants as trips
use Rattle.bd_machine.specs.Aborts.{stopped}
use Rattle.bd_machine.specs.Admission.{is_gone}
use Rattle.bd_machine.specs.Asked.{owes_removal, job_of, next_line}
use Rattle.bd_machine.specs.BlockMap.{below, home, size_of}
use Rattle.bd_machine.specs.Changes.{is_dropped}
use Rattle.bd_machine.specs.Destruction.{named}
use Rattle.bd_machine.specs.Events.{decided_by, paid, owing, with_due, alone, device_due, channel_due, gone_due, go_due, closed_by, destruct_of, born, all_born, got_by, put_down_by, put_paid, dropped_by, removal_paid, with_reset, advanced, reset_finishes, freed_by, removing, reset_begun, reset_thaws, injection_taken, drain_time, due_to, resizing, resized, sized_due, change_reg, first_req}
use Rattle.bd_machine.specs.Homes.{base_here, change_applied, change_grow, is_told}
use Rattle.bd_machine.specs.Kept.{request_here, piece_here, walk_here}
use Rattle.bd_machine.specs.Limits.{arrived, departed, next_limited, waits_at, is_limited}
use Rattle.bd_machine.specs.declared.state.Marking.{Marking}
use Rattle.bd_machine.specs.declared.state.FreezeMark.TheVariants.{Not}
use Rattle.bd_machine.specs.Grace.{dev_if_any, ended, ending_mark, remarked_if_any, softened}
use Rattle.bd_machine.specs.Marks.{remarked, with_frozen, with_until, hardened, freeze_set, removal_set}
use Rattle.bd_machine.specs.Messages.{is_due_to, due_after, news_of, request_took, removals_owed, told_part, freezes, went, told_walk, taken_by, arrived_walk, closed_notice}
use Rattle.bd_machine.specs.Registry.{made, device_named, close_answer, drop_answer, end_resize_answer, growing_of, handle_of, references, is_count}
use Rattle.bd_machine.specs.Same.{same_answer, same_dev, same_owed, is_the}
use Rattle.bd_machine.specs.Scripts.{posted, mark_to}
use Rattle.bd_machine.specs.Step.{guards_in, change_in}
use Rattle.bd_machine.specs.Table.{without_first, write}
use Rattle.bd_machine.specs.Threads.{is_nobody}
use Rattle.bd_machine.specs.Users.{is_base_handle, users}
use Rattle.bd_machine.specs.View.{View, Came, Change, view, part_of, came_for, destructed_by, id_of}
use Rattle.bd_machine.specs.Walks.{staged, numbered, over_nobody, begin_walk_with, begin_walk, time_of_walk, after_walk, is_at_end, walked, drain_threads, put_owed, marked_by, visited, walked_if_any, reset_of}
use Rattle.bd_machine.proofs.Acts.{Passes, passed}
use Rattle.bd_turns.specs.Told.{is_device_kept, is_device_due}

abbrev pub is_device_if : DevId → Option Kept → Bool
is_device_if dev None = false
is_device_if dev (Some kept) = is_device_kept dev kept

-- ---- lists

pub any_append : {X : Type 0} (test : X → Bool) (xs ys : List X) → list_any test (xs ++ ys) ≡ true → (list_any test xs ≡ true) ⊎ (list_any test ys ≡ true)
any_append test [] ys h = inr h
any_append {X = X} test (x ∷ xs) ys h = go (test x) h (any_append test xs ys)
  where
    go : (b : Bool) → (b || list_any test (xs ++ ys)) ≡ true → (list_any test (xs ++ ys) ≡ true → (list_any test xs ≡ true) ⊎ (list_any test ys ≡ true)) → ((b || list_any test xs) ≡ true) ⊎ (list_any test ys ≡ true)
    go true h k = inl refl
    go false h k = k h

pub any_first : {X : Type 0} (test : X → Bool) (xs ys : List X) → list_any test ys ≡ false → list_any test (xs ++ ys) ≡ true → list_any test xs ≡ true
any_first test xs ys none h = go (any_append test xs ys h)
  where
    differ : {P : Type 0} (b : Bool) → b ≡ true → b ≡ false → P
    differ true p q = absurd (let x : true ≡ false = q in cc)
    differ false p q = absurd (let x : false ≡ true = p in cc)

    go : (list_any test xs ≡ true) ⊎ (list_any test ys ≡ true) → list_any test xs ≡ true
    go (inl k) = k
    go (inr k) = differ (list_any test ys) k none

pub any_without : {X : Type 0} (test other : X → Bool) (xs : List X) → list_any test (without_first other xs) ≡ true → list_any test xs ≡ true
any_without test other [] h = h
any_without {X = X} test other (x ∷ xs) h = go (other x) h (any_without test other xs)
  where
    more : (b : Bool) → (c : Bool) → c ≡ true → (b || c) ≡ true
    more true c e = refl
    more false c e = e

    same : (b c d : Bool) → (c ≡ true → d ≡ true) → (b || c) ≡ true → (b || d) ≡ true
    same true c d f e = refl
    same false c d f e = f e

    go : (b : Bool) → list_any test (cond b xs (x ∷ without_first other xs)) ≡ true → (list_any test (without_first other xs) ≡ true → list_any test xs ≡ true) → (test x || list_any test xs) ≡ true
    go true h k = more (test x) (list_any test xs) h
    go false h k = same (test x) (list_any test (without_first other xs)) (list_any test xs) k h

-- ---- parts

-- the second part has no more to tell, to destruct and to report than the first, but for these
pub record From (p q : Part) (names : Option DevId) (message : Option Kept) (destructs : Option DevId) : Type 0 where
  pub due : (dev : DevId) → list_any (is_device_due dev) q.due ≡ true → (list_any (is_device_due dev) p.due ≡ true) ⊎ (is_the same_dev dev names ≡ true)
  pub owed : (dev : DevId) → list_any (same_owed (owes.Destruct dev)) q.owed ≡ true → (list_any (same_owed (owes.Destruct dev)) p.owed ≡ true) ⊎ (is_device_if dev message ≡ true)
  pub reports : (dev : DevId) → list_any (same_owed (owes.Report dev)) q.owed ≡ true → (list_any (same_owed (owes.Report dev)) p.owed ≡ true) ⊎ (is_the same_dev dev destructs ≡ true)

pub record Less (p q : Part) : Type 0 where
  pub due : (dev : DevId) → list_any (is_device_due dev) q.due ≡ true → list_any (is_device_due dev) p.due ≡ true
  pub owed : (dev : DevId) → list_any (same_owed (owes.Destruct dev)) q.owed ≡ true → list_any (same_owed (owes.Destruct dev)) p.owed ≡ true
  pub reports : (dev : DevId) → list_any (same_owed (owes.Report dev)) q.owed ≡ true → list_any (same_owed (owes.Report dev)) p.owed ≡ true

-- the same to tell and to do
pub record Alike (p q : Part) : Type 0 where
  pub due_is : q.due ≡ p.due
  pub owed_is : q.owed ≡ p.owed

alike_then : (p q r : Part) → Alike p q → Alike q r → Alike p r
alike_then p q r h k = record { due_is = k.due_is ∙ h.due_is; owed_is = k.owed_is ∙ h.owed_is }

less_of : (p q : Part) → Alike p q → Less p q
less_of p q h = record {
  due = λ dev k. subst (λ (l : List Due). list_any (is_device_due dev) l ≡ true) h.due_is k;
  owed = λ dev k. subst (λ (l : List Owed). list_any (same_owed (owes.Destruct dev)) l ≡ true) h.owed_is k;
  reports = λ dev k. subst (λ (l : List Owed). list_any (same_owed (owes.Report dev)) l ≡ true) h.owed_is k;
}

less_then : (p q r : Part) → Less p q → Less q r → Less p r
less_then p q r h k = record { due = λ dev x. h.due dev (k.due dev x); owed = λ dev x. h.owed dev (k.owed dev x); reports = λ dev x. h.reports dev (k.reports dev x) }

less_cond : (b : Bool) (p q r : Part) → Less p q → Less p r → Less p (cond b q r)
less_cond true p q r h k = h
less_cond false p q r h k = k

alike_cond : (b : Bool) (p : Part) (c d : Change) → Alike p c.part → Alike p d.part → Alike p (cond b c d).part
alike_cond true p c d h k = h
alike_cond false p c d h k = k

from_of : (p q : Part) (a : Option DevId) (m : Option Kept) (d : Option DevId) → Less p q → From p q a m d
from_of p q a m d h = record { due = λ dev k. inl (h.due dev k); owed = λ dev k. inl (h.owed dev k); reports = λ dev k. inl (h.reports dev k) }

less_self : (p : Part) → Less p p
less_self p = record { due = λ dev h. h; owed = λ dev h. h; reports = λ dev h. h }

-- ---- words that bring nothing

paid_less : (o : Owed) (p : Part) → Less p (paid o p)
paid_less o p = record { due = λ dev h. h; owed = λ dev h. any_without (same_owed (owes.Destruct dev)) (same_owed o) p.owed h; reports = λ dev h. any_without (same_owed (owes.Report dev)) (same_owed o) p.owed h }

owing_less : (o : Owed) (p : Part) → ((dev : DevId) → (same_owed (owes.Destruct dev) o ≡ false) × (same_owed (owes.Report dev) o ≡ false)) → Less p (owing o p)
owing_less o p h = record {
  due = λ dev k. k;
  owed = λ dev k. any_first (same_owed (owes.Destruct dev)) p.owed (o ∷ []) (ap (λ b. b || false) (h dev).0) k;
  reports = λ dev k. any_first (same_owed (owes.Report dev)) p.owed (o ∷ []) (ap (λ b. b || false) (h dev).1) k;
}

due_less : (due : List Due) (p : Part) → ((dev : DevId) → list_any (is_device_due dev) due ≡ false) → Less p (with_due due p)
due_less due p h = record { due = λ dev k. any_first (is_device_due dev) p.due due (h dev) k; owed = λ dev k. k; reports = λ dev k. k }

channel_none : (t : ℕ) (x : Option DevId) (dev : DevId) → list_any (is_device_due dev) (channel_due t x) ≡ false
channel_none t None dev = refl
channel_none t (Some d) dev = refl

go_none : (x : Option (ReqId × ThreadSet)) (dev : DevId) → list_any (is_device_due dev) (go_due x) ≡ false
go_none None dev = refl
go_none (Some n) dev = refl

gone_none : (hs : List (HandleId × ThreadId)) (dev : DevId) → list_any (is_device_due dev) (map gone_due hs) ≡ false
gone_none [] dev = refl
gone_none (h ∷ hs) dev = gone_none hs dev

sized_none : (blocks : ℕ) (hs : List (HandleId × ThreadId)) (dev : DevId) → list_any (is_device_due dev) (map (sized_due blocks) hs) ≡ false
sized_none blocks [] dev = refl
sized_none blocks (h ∷ hs) dev = sized_none blocks hs dev

posted_none : (mark : List ℕ) (ts : List ℕ) (dev : DevId) → list_any (is_device_due dev) (map (mark_to mark) ts) ≡ false
posted_none mark [] dev = refl
posted_none mark (u ∷ ts) dev = posted_none mark ts dev

removals_none : (ds : List DevId) (dev : DevId) → (list_any (same_owed (owes.Destruct dev)) (removals_owed ds) ≡ false) × (list_any (same_owed (owes.Report dev)) (removals_owed ds) ≡ false)
removals_none [] dev = (refl, refl)
removals_none (d ∷ ds) dev = removals_none ds dev

-- a device that is told to its home
device_named_due : (setup : Setup) (x : Option DevId) (dev : DevId) → list_any (is_device_due dev) (device_due setup x) ≡ true → is_the same_dev dev x ≡ true
device_named_due setup None dev h = absurd (let y : false ≡ true = h in cc)
device_named_due setup (Some d) dev h = or_false (same_dev dev d) h
  where
    or_false : (b : Bool) → (b || false) ≡ true → b ≡ true
    or_false true h = refl
    or_false false h = h

from_device : (setup : Setup) (p q : Part) (x : Option DevId) (m : Option Kept) (d : Option DevId) → Less p q → From p (with_due (device_due setup x) q) x m d
from_device setup p q x m d h = record {
  due = λ dev k. at dev (any_append (is_device_due dev) q.due (device_due setup x) k);
  owed = λ dev k. inl (h.owed dev k);
  reports = λ dev k. inl (h.reports dev k);
}
  where
    at : (dev : DevId) → (list_any (is_device_due dev) q.due ≡ true) ⊎ (list_any (is_device_due dev) (device_due setup x) ≡ true) → (list_any (is_device_due dev) p.due ≡ true) ⊎ (is_the same_dev dev x ≡ true)
    at dev (inl k) = inl (h.due dev k)
    at dev (inr k) = inr (device_named_due setup x dev k)

from_then : (p q r : Part) (x : Option DevId) (m : Option Kept) (d : Option DevId) → From p q x m d → Less q r → From p r x m d
from_then p q r x m d h k = record { due = λ dev z. h.due dev (k.due dev z); owed = λ dev z. h.owed dev (k.owed dev z); reports = λ dev z. h.reports dev (k.reports dev z) }

-- ---- walks

same_as : (p : Part) → Alike p p
same_as p = record { due_is = refl; owed_is = refl }

staged_alike : (req : Option ReqId) (stage : Stage) (n : ℕ) (p : Part) → Alike p (staged req stage (numbered n p))
staged_alike None stage n p = record { due_is = refl; owed_is = refl }
staged_alike (Some req) stage n p = record { due_is = refl; owed_is = refl }

stage_alike : (req : Option ReqId) (stage : Stage) (p : Part) → Alike p (staged req stage p)
stage_alike None stage p = record { due_is = refl; owed_is = refl }
stage_alike (Some req) stage p = record { due_is = refl; owed_is = refl }

nobody_alike : (kind : WalkKind) (req : Option ReqId) (p : Part) → Alike p (over_nobody kind req p)
nobody_alike Freeze req p = staged_alike req stages.Drained 2 p
nobody_alike Drain req p = staged_alike req stages.Drained 1 p
nobody_alike Thaw req p = staged_alike req stages.Thawed 1 p
nobody_alike Removal req p = record { due_is = refl; owed_is = refl }

begin_alike : (t : ℕ) (kind : WalkKind) (dev : DevId) (threads : ThreadSet) (req : Option ReqId) (time : ℕ) (c : Change) → Alike c.part (begin_walk_with t kind dev threads req time c).part
begin_alike t kind dev threads req time c = alike_cond (is_nobody threads) c.part _ _ (nobody_alike kind req c.part) (record { due_is = refl; owed_is = refl })

after_alike : (t : ℕ) (w : OpenWalk) (kind : WalkKind) (c : Change) → Alike c.part (after_walk t w kind c).part
after_alike t w Freeze c =
    let d : Change = record { part = staged w.request stages.Draining c.part; moves = c.moves } in
    alike_then c.part d.part (begin_walk t Drain w.dev (drain_threads c.part w.request) w.request d).part (stage_alike w.request stages.Draining c.part) (begin_alike t Drain w.dev (drain_threads c.part w.request) w.request 0 d)
after_alike t w Drain c = stage_alike w.request stages.Drained c.part
after_alike t w Thaw c = stage_alike w.request stages.Thawed c.part
after_alike t w Removal c = same_as c.part

walked_alike : (t : ℕ) (walk : WalkId) (w : OpenWalk) (p : Part) → Alike p (walked t walk w p).part
walked_alike t walk w p = alike_cond (is_at_end t walk w) p _ _ (after_alike t w w.kind _) (same_as p)

walked_if_alike : (t : ℕ) (walk : WalkId) (p : Part) (x : Option OpenWalk) → Alike p (walked_if_any t walk p x).part
walked_if_alike t walk p None = same_as p
walked_if_alike t walk p (Some w) = walked_alike t walk (visited t w) p

went_alike : (t : ℕ) (req : ReqId) (threads : ThreadSet) (x : Option Resetting) (c : Change) → Alike c.part (went t req threads x c).part
went_alike t req threads None c = same_as c.part
went_alike t req threads (Some r) c =
    let d : Change = record { part = freezes req threads c.part; moves = c.moves } in
    alike_then c.part d.part (begin_walk_with t Freeze r.dev threads (Some req) r.time d).part (record { due_is = refl; owed_is = refl }) (begin_alike t Freeze r.dev threads (Some req) r.time d)

told_walk_alike : (t : ℕ) (told : News) (c : Change) → Alike c.part (told_walk t told c).part
told_walk_alike t (news.Go req threads) c = went_alike t req threads (reset_of c.part req) c
told_walk_alike t (news.Mark mark) c = same_as c.part
told_walk_alike t (news.Gone handle) c = same_as c.part
told_walk_alike t (news.Channel dev) c = same_as c.part
told_walk_alike t (news.Device dev) c = same_as c.part
told_walk_alike t (news.Grow dev blocks) c = same_as c.part
told_walk_alike t (news.Sized handle blocks) c = same_as c.part

put_owed_less : (setup : Setup) (t : ℕ) (dev : DevId) (p : Part) → Less p (put_owed setup t dev p)
put_owed_less setup t dev p = less_cond (is_limited setup dev && (home setup dev == t)) p (owing (owes.Put dev) p) p (owing_less (owes.Put dev) p (λ d. (refl, refl))) (less_self p)

marked_less : (setup : Setup) (t : ℕ) (v : View) (walk : WalkId) (dev : DevId) (kind : WalkKind) → Less v.part (marked_by setup t v walk dev kind)
marked_less setup t v walk dev Freeze = less_cond _ v.part (remarked dev (freeze_set walk (time_of_walk (walk_here v walk))) v.part) v.part (less_of v.part _ (record { due_is = refl; owed_is = refl })) (less_self v.part)
marked_less setup t v walk dev Drain = less_self v.part
marked_less setup t v walk dev Thaw = less_of v.part _ (record { due_is = refl; owed_is = refl })
marked_less setup t v walk dev Removal = less_then v.part (remarked dev removal_set v.part) (put_owed setup t dev (remarked dev removal_set v.part)) (less_of v.part _ (record { due_is = refl; owed_is = refl })) (put_owed_less setup t dev (remarked dev removal_set v.part))

remarked_alike : (o : Option DevId) (f : Marking → Marking) (p : Part) → Alike p (remarked_if_any o f p)
remarked_alike None f p = same_as p
remarked_alike (Some dev) f p = record { due_is = refl; owed_is = refl }

ended_alike : (walk : WalkId) (now : ℕ) (p : Part) → Alike p (ended walk now p)
ended_alike walk now p =
    let q : Part = remarked_if_any (dev_if_any (ending_mark p walk)) hardened p in
    alike_then p q (ended walk now p) (remarked_alike (dev_if_any (ending_mark p walk)) hardened p) (record { due_is = refl; owed_is = refl })

-- ---- messages

arrived_alike : (p : Part) (req : ReqId) (o : Option DevId) → Alike p (arrived p req o)
arrived_alike p req None = same_as p
arrived_alike p req (Some dev) = record { due_is = refl; owed_is = refl }

departed_alike : (p : Part) (req : ReqId) (o : Option DevId) → Alike p (departed p req o)
departed_alike p req None = same_as p
departed_alike p req (Some dev) = record { due_is = refl; owed_is = refl }

stopped_alike : (setup : Setup) (p : Part) (req : ReqId) (x : Option OpenRequest) → Alike p (stopped setup p req x)
stopped_alike setup p req None = same_as p
stopped_alike setup p req (Some r) = departed_alike p req (waits_at setup r)

request_alike : (setup : Setup) (req : ReqId) (r : OpenRequest) (trip : Trip) (p : Part) → Alike p (request_took setup req r trip p)
request_alike setup req r trips.Out p = arrived_alike p req (next_limited setup r)
request_alike setup req r trips.Own p = same_as p
request_alike setup req r trips.Passed p = same_as p

told_from : (setup : Setup) (told : News) (p : Part) → From p (told_part setup told p) None (Some (keeps.Notice told)) None
told_from setup (news.Mark mark) p = from_of p _ None _ None (less_of p _ (record { due_is = refl; owed_is = refl }))
told_from setup (news.Gone handle) p = from_of p _ None _ None (record {
  due = λ dev h. h;
  owed = λ dev h. any_first (same_owed (owes.Destruct dev)) p.owed (removals_owed (users setup handle)) (removals_none (users setup handle) dev).0 h;
  reports = λ dev h. any_first (same_owed (owes.Report dev)) p.owed (removals_owed (users setup handle)) (removals_none (users setup handle) dev).1 h;
})
told_from setup (news.Channel d) p = from_of p _ None _ None (owing_less (owes.Drop d) p (λ dev. (refl, refl)))
told_from setup (news.Device d) p = record {
  due = λ dev h. inl h;
  owed = λ dev h. at dev (any_append (same_owed (owes.Destruct dev)) p.owed (owes.Destruct d ∷ []) h);
  reports = λ dev h. inl (any_first (same_owed (owes.Report dev)) p.owed (owes.Destruct d ∷ []) refl h);
}
  where
    or_false : (b : Bool) → (b || false) ≡ true → b ≡ true
    or_false true h = refl
    or_false false h = h

    at : (dev : DevId) → (list_any (same_owed (owes.Destruct dev)) p.owed ≡ true) ⊎ ((same_dev dev d || false) ≡ true) → (list_any (same_owed (owes.Destruct dev)) p.owed ≡ true) ⊎ (same_dev dev d ≡ true)
    at dev (inl k) = inl k
    at dev (inr k) = inr (or_false (same_dev dev d) k)
told_from setup (news.Go req threads) p = from_of p _ None _ None (less_self p)
told_from setup (news.Grow d blocks) p = from_of p _ None _ None (owing_less (owes.Grow d blocks) p (λ dev. (refl, refl)))
told_from setup (news.Sized handle blocks) p = from_of p _ None _ None (less_of p _ (record { due_is = refl; owed_is = refl }))

notice_from : (setup : Setup) (t : ℕ) (told : News) (p : Part) (id : Id) → From p (told_walk t told (record { part = told_part setup told p; moves = closed_notice id told })).part None (Some (keeps.Notice told)) None
notice_from setup t told p id =
    let c : Change = record { part = told_part setup told p; moves = closed_notice id told } in
    from_then p c.part (told_walk t told c).part None (Some (keeps.Notice told)) None (told_from setup told p) (less_of c.part _ (told_walk_alike t told c))

taken_from : (setup : Setup) (t : ℕ) (what : Token) (p : Part) (x : Option Kept) (id : Id) → From p (taken_by setup t what p x id).part None x None
taken_from setup t what p None id = from_of p p None None None (less_self p)
taken_from setup t (tokens.Request req) p (Some (keeps.Request r)) id = from_of p _ None _ None (less_of p _ (request_alike setup req r r.trip p))
taken_from setup t (tokens.Piece req k) p (Some (keeps.Piece q)) id = from_of p _ None _ None (less_of p _ (record { due_is = refl; owed_is = refl }))
taken_from setup t (tokens.Walk walk) p (Some (keeps.Walk w)) id = from_of p _ None _ None (less_of p _ (walked_alike t walk (arrived_walk w) p))
taken_from setup t what p (Some (keeps.Notice told)) id = notice_from setup t told p id
taken_from setup t _ p _ id = from_of p p None _ None (less_self p)

-- ---- events

all_born_alike : (frozen ds : List DevId) (p : Part) → Alike p (all_born frozen ds p)
all_born_alike frozen [] p = same_as p
all_born_alike frozen (d ∷ ds) p = alike_then p (born frozen d p) (all_born frozen ds (born frozen d p)) (record { due_is = refl; owed_is = refl }) (all_born_alike frozen ds (born frozen d p))

got_alike : (setup : Setup) (v : View) (dev : DevId) (a : Answer) → Alike v.part (got_by setup v dev a)
got_alike setup v dev (answers.Got fresh frozen) = all_born_alike frozen (made v.channels (below setup dev)) v.part
got_alike setup v dev _ = same_as v.part

decided_alike : (came : Came) (a : Answer) (p : Part) → Alike p (decided_by came a p)
decided_alike came a p = record { due_is = refl; owed_is = refl }

closed_less : (setup : Setup) (came : Came) (id : HandleId) (a : Answer) (p : Part) → Less p (closed_by setup came id a p)
closed_less setup came id a p =
    less_cond (is_base_handle setup id) p (paid (owes.Close id) p) (cond (is_gone p id) p (decided_by came a p)) (paid_less (owes.Close id) p)
    (less_cond (is_gone p id) p p (decided_by came a p) (less_self p) (less_of p _ (decided_alike came a p)))

put_paid_less : (dev : DevId) (closing : Bool) (p : Part) → Less p (put_paid dev closing p)
put_paid_less dev closing p = less_cond closing p p (paid (owes.Put dev) p) (less_self p) (paid_less (owes.Put dev) p)

put_down_less : (t : ℕ) (dev : DevId) (a : Answer) (p : Part) → Less p (put_down_by t dev a p)
put_down_less t dev (answers.PutDown left) p = due_less (cond (left == 0) (channel_due t (Some dev)) []) p (λ d. go (left == 0) d)
  where
    go : (b : Bool) (d : DevId) → list_any (is_device_due d) (cond b (channel_due t (Some dev)) []) ≡ false
    go true d = refl
    go false d = refl
put_down_less t dev _ p = less_self p

dropped_less : (t : ℕ) (dev : DevId) (a : Answer) (p : Part) → Less p (dropped_by t dev a p)
dropped_less t dev (answers.Dropped what zero destruct) p =
    let q : Part = cond (is_dropped what) (remarked dev (with_frozen Not) p) p in
    less_then p q (with_due (channel_due t zero) q)
    (less_cond (is_dropped what) p (remarked dev (with_frozen Not) p) p (less_of p _ (record { due_is = refl; owed_is = refl })) (less_self p))
    (due_less (channel_due t zero) q (λ d. channel_none t zero d))
dropped_less t dev _ p = less_self p

removal_paid_less : (came : Came) (a : Answer) (o : Option ℕ) (p : Part) → Less p (removal_paid came a o p)
removal_paid_less came a None p = less_of p _ (decided_alike came a p)
removal_paid_less came a (Some n) p =
    less_cond (owes_removal p (Some n)) p (paid (owes.Remove (record { 0 = n })) p) (decided_by came a p) (paid_less (owes.Remove (record { 0 = n })) p) (less_of p _ (decided_alike came a p))

freed_less : (a : Answer) (p : Part) → Less p (freed_by a p)
freed_less (answers.Freed (Some id)) p = owing_less (owes.Close id) p (λ dev. (refl, refl))
freed_less (answers.Freed None) p = less_self p
freed_less _ p = less_self p

finishes_less : (dev : DevId) (a : Answer) (p : Part) → Less p (reset_finishes dev a p)
finishes_less dev (answers.ResetFinished next) p =
    let q : Part = advanced dev stages.Thawed stages.Finished p in
    less_then p q (with_due (go_due next) q) (less_of p q (record { due_is = refl; owed_is = refl })) (due_less (go_due next) q (λ d. go_none next d))
finishes_less dev _ p = less_self p

begun_alike : (t : ℕ) (dev : DevId) (req : ReqId) (a : Answer) (p : Part) → Alike p (reset_begun t dev req a p).part
begun_alike t dev req (answers.ResetStarted threads) p =
    let c : Change = alone (with_reset req dev stages.Freezing threads p) in
    let time : ℕ = drain_time p req in
    alike_then p c.part (begin_walk_with t Freeze dev threads (Some req) time c).part (record { due_is = refl; owed_is = refl }) (begin_alike t Freeze dev threads (Some req) time c)
begun_alike t dev req _ p = record { due_is = refl; owed_is = refl }

thaws_alike : (t : ℕ) (dev : DevId) (a : Answer) (p : Part) → Alike p (reset_thaws t dev a p).part
thaws_alike t dev (answers.ResetEnded threads) p =
    let c : Change = alone (advanced dev stages.Drained stages.Thawing p) in
    alike_then p c.part (begin_walk t Thaw dev threads (first_req p.resets dev stages.Drained) c).part (record { due_is = refl; owed_is = refl }) (begin_alike t Thaw dev threads (first_req p.resets dev stages.Drained) 0 c)
thaws_alike t dev _ p = same_as p

injection_alike : (v : View) (req : ReqId) (a : Answer) → Alike v.part (injection_taken v req a).part
injection_alike v req (answers.Injected decision) = same_as v.part
injection_alike v req _ = same_as v.part

resizing_less : (blocks : ℕ) (a : Answer) (p : Part) → Less p (resizing blocks a p)
resizing_less blocks (answers.Resizing dev at) p = due_less (due_to at.0 (news.Grow dev blocks)) p (λ d. refl)
resizing_less blocks _ p = less_self p

resized_less : (a : Answer) (p : Part) → Less p (resized a p)
resized_less (answers.Resized handles blocks destruct) p = due_less (map (sized_due blocks) handles) p (λ d. sized_none blocks handles d)
resized_less _ p = less_self p

-- what the answer to a removal names
removing_from : (setup : Setup) (t : ℕ) (name : List ℕ) (a : Answer) (p : Part) (m : Option Kept) → From p (removing setup t a p).part (named (acts.Reg (events.BeginRemove name) a)) m None
removing_from setup t name (answers.Removing dev threads handles destruct) p m =
    let q : Part = with_due (map gone_due handles ++ device_due setup destruct) p in
    from_then p q (begin_walk t Removal dev threads None (alone q)).part destruct m None
    (record {
      due = λ d k. at d (any_append (is_device_due d) p.due (map gone_due handles ++ device_due setup destruct) k);
      owed = λ d k. inl k;
      reports = λ d k. inl k;
    })
    (less_of q _ (begin_alike t Removal dev threads None 0 (alone q)))
  where
    later : (d : DevId) → (list_any (is_device_due d) (map gone_due handles) ≡ true) ⊎ (list_any (is_device_due d) (device_due setup destruct) ≡ true) → is_the same_dev d destruct ≡ true
    later d (inl k) = absurd (let x : false ≡ true = sym (gone_none handles d) ∙ k in cc)
    later d (inr k) = device_named_due setup destruct d k

    at : (d : DevId) → (list_any (is_device_due d) p.due ≡ true) ⊎ (list_any (is_device_due d) (map gone_due handles ++ device_due setup destruct) ≡ true) → (list_any (is_device_due d) p.due ≡ true) ⊎ (is_the same_dev d destruct ≡ true)
    at d (inl k) = inl k
    at d (inr k) = inr (later d (any_append (is_device_due d) (map gone_due handles) (device_due setup destruct) k))
removing_from setup t name _ p m = from_of p p None m None (less_self p)

wrong : {P : Type 0} → false ≡ true → P
wrong h = absurd (let x : false ≡ true = h in cc)

neither : {P : Type 0} (a x y : Answer) (b : Bool) → same_answer a x ≡ false → same_answer a y ≡ false → same_answer a (cond b x y) ≡ true → P
neither a x y true h k e = wrong (sym h ∙ e)
neither a x y false h k e = wrong (sym k ∙ e)

-- a close is answered by its own answer, or a refusal
close_named : (setup : Setup) (r : Registry) (t : ℕ) (id : HandleId) (o : Option Handle) (a : Answer) → same_answer a (close_answer setup r t id o) ≡ true → destruct_of a ≡ named (acts.Reg (events.Close id) a)
close_named setup r t id o (answers.Closed d) h = refl
close_named setup r t id None (answers.Dropped what zero d) h = wrong h
close_named setup r t id (Some hd) (answers.Dropped what zero d) h = neither (answers.Dropped what zero d) _ _ (hd.thread.0 == t) refl refl h
close_named setup r t id None (answers.Removing dev threads handles d) h = wrong h
close_named setup r t id (Some hd) (answers.Removing dev threads handles d) h = neither (answers.Removing dev threads handles d) _ _ (hd.thread.0 == t) refl refl h
close_named setup r t id None (answers.Resized handles blocks d) h = wrong h
close_named setup r t id (Some hd) (answers.Resized handles blocks d) h = neither (answers.Resized handles blocks d) _ _ (hd.thread.0 == t) refl refl h
close_named setup r t id o _ h = refl

drop_named : (setup : Setup) (r : Registry) (t : ℕ) (dev : DevId) (a : Answer) → same_answer a (drop_answer setup r t dev) ≡ true → destruct_of a ≡ named (acts.Reg (events.DropChannel dev) a)
drop_named setup r t dev (answers.Dropped what zero d) h = refl
drop_named setup r t dev (answers.Closed d) h = neither (answers.Closed d) _ _ (is_count 0 (references r t dev)) refl refl h
drop_named setup r t dev (answers.Removing x threads handles d) h = neither (answers.Removing x threads handles d) _ _ (is_count 0 (references r t dev)) refl refl h
drop_named setup r t dev (answers.Resized handles blocks d) h = neither (answers.Resized handles blocks d) _ _ (is_count 0 (references r t dev)) refl refl h
drop_named setup r t dev _ h = refl

resize_named : (setup : Setup) (r : Registry) (dev : DevId) (o : Option ℕ) (a : Answer) → same_answer a (end_resize_answer setup r dev o) ≡ true → destruct_of a ≡ named (acts.Reg (events.EndResize dev) a)
resize_named setup r dev o (answers.Resized handles blocks d) h = refl
resize_named setup r dev None (answers.Closed d) h = wrong h
resize_named setup r dev (Some n) (answers.Closed d) h = wrong h
resize_named setup r dev None (answers.Dropped what zero d) h = wrong h
resize_named setup r dev (Some n) (answers.Dropped what zero d) h = wrong h
resize_named setup r dev None (answers.Removing x threads handles d) h = wrong h
resize_named setup r dev (Some n) (answers.Removing x threads handles d) h = wrong h
resize_named setup r dev o _ h = refl

reg_from : (setup : Setup) (s : State) (t : ℕ) (came : Came) (event : RegEvent) (a : Answer) (m : Option Kept) → Passes (guards_in setup s t (acts.Reg event a)) → From (part_of s t) (change_reg setup t (view s t) came event a).part (named (acts.Reg event a)) m None
reg_from setup s t came (events.Open name write) a m h = from_of (part_of s t) _ None m None (less_of (part_of s t) _ (decided_alike came a (part_of s t)))
reg_from setup s t came (events.Claim id kind) a m h = from_of (part_of s t) _ None m None (less_of (part_of s t) _ (decided_alike came a (part_of s t)))
reg_from setup s t came (events.Close id) a m h =
    let p : Part = part_of s t in
    subst (λ (n : Option DevId). From p (with_due (device_due setup (destruct_of a)) (closed_by setup came id a p)) n m None)
    (close_named setup s.registry t id (handle_of s.registry.handles id) a (passed (guards_in setup s t (acts.Reg (events.Close id) a)) h).0)
    (from_device setup p (closed_by setup came id a p) (destruct_of a) m None (closed_less setup came id a p))
reg_from setup s t came (events.GetChannel dev) a m h = from_of (part_of s t) _ None m None (less_of (part_of s t) _ (got_alike setup (view s t) dev a))
reg_from setup s t came (events.PutChannel dev closing) a m h =
    let p : Part = part_of s t in
    from_of p _ None m None (less_then p (put_paid dev closing p) (put_down_by t dev a (put_paid dev closing p)) (put_paid_less dev closing p) (put_down_less t dev a (put_paid dev closing p)))
reg_from setup s t came (events.DropChannel dev) a m h =
    let p : Part = part_of s t in
    let q : Part = paid (owes.Drop dev) p in
    subst (λ (n : Option DevId). From p (with_due (device_due setup (destruct_of a)) (dropped_by t dev a q)) n m None)
    (drop_named setup s.registry t dev a (passed (guards_in setup s t (acts.Reg (events.DropChannel dev) a)) h).0)
    (from_device setup p (dropped_by t dev a q) (destruct_of a) m None (less_then p q (dropped_by t dev a q) (paid_less (owes.Drop dev) p) (dropped_less t dev a q)))
reg_from setup s t came (events.BeginRemove name) a m h =
    let p : Part = part_of s t in
    let q : Part = removal_paid came a (device_named setup name) p in
    before p q (removing setup t a q).part (named (acts.Reg (events.BeginRemove name) a)) (removal_paid_less came a (device_named setup name) p) (removing_from setup t name a q m)
  where
    left : {A B C : Type 0} → (A → C) → A ⊎ B → C ⊎ B
    left f (inl a) = inl (f a)
    left f (inr b) = inr b

    before : (p q r : Part) (n : Option DevId) → Less p q → From q r n m None → From p r n m None
    before p q r n l f = record { due = λ dev k. left (l.due dev) (f.due dev k); owed = λ dev k. left (l.owed dev) (f.owed dev k); reports = λ dev k. left (l.reports dev) (f.reports dev k) }
reg_from setup s t came (events.BeginReset dev req) a m h = from_of (part_of s t) _ None m None (less_of (part_of s t) _ (begun_alike t dev req a (part_of s t)))
reg_from setup s t came (events.EndReset dev) a m h = from_of (part_of s t) _ None m None (less_of (part_of s t) _ (thaws_alike t dev a (part_of s t)))
reg_from setup s t came (events.FinishReset dev) a m h = from_of (part_of s t) _ None m None (finishes_less dev a (part_of s t))
reg_from setup s t came (events.TakeInjection dev req op) a m h = from_of (part_of s t) _ None m None (less_of (part_of s t) _ (injection_alike (view s t) req a))
reg_from setup s t came (events.Destructed dev) a m h =
    let p : Part = part_of s t in
    let q : Part = paid (owes.Report dev) p in
    from_of p _ None m None (less_then p q (freed_by a q) (paid_less (owes.Report dev) p) (freed_less a q))
reg_from setup s t came (events.BeginResize name blocks) a m h =
    let p : Part = part_of s t in
    let q : Part = decided_by came a p in
    from_of p _ None m None (less_then p q (resizing blocks a q) (less_of p q (decided_alike came a p)) (resizing_less blocks a q))
reg_from setup s t came (events.EndResize dev) a m h =
    let p : Part = part_of s t in
    let q : Part = paid (owes.EndResize dev) p in
    subst (λ (n : Option DevId). From p (with_due (device_due setup (destruct_of a)) (resized a q)) n m None)
    (resize_named setup s.registry dev (growing_of s.registry dev) a (passed (guards_in setup s t (acts.Reg (events.EndResize dev) a)) h).0)
    (from_device setup p (resized a q) (destruct_of a) m None (less_then p q (resized a q) (paid_less (owes.EndResize dev) p) (resized_less a q)))

-- ---- acts

due_after_less : (to : ℕ) (x : Option News) (dev : DevId) (due : List Due) → list_any (is_device_due dev) (due_after to x due) ≡ true → list_any (is_device_due dev) due ≡ true
due_after_less to None dev due h = h
due_after_less to (Some sent) dev due h = any_without (is_device_due dev) (is_due_to to sent) due h

job_none : (setup : Setup) (job : Option Job) (dev : DevId) → list_any (is_device_due dev) (posted setup job) ≡ false
job_none setup None dev = refl
job_none setup (Some (jobs.Post mark)) dev = posted_none mark (range_with_len 0 setup.threads) dev
job_none setup (Some _) dev = refl

applied_alike : (v : View) (req : ReqId) (k : ℕ) (dev : DevId) (end : ApplyEnd) (size : ℕ) (x : Option OpenPiece) (b : Option Base) → Alike v.part (change_applied v req k dev end size x b).part
applied_alike v req k dev end size (Some p) (Some b) = record { due_is = refl; owed_is = refl }
applied_alike v req k dev end size _ _ = record { due_is = refl; owed_is = refl }

-- **From**: what an act brings a thread to tell, to destruct and to report
pub parts_from : (setup : Setup) (s : State) (t : ℕ) (act : Act) → Passes (guards_in setup s t act) → From (part_of s t) (change_in setup s t act).part (named act) (came_for setup s t act).message (destructed_by act)
parts_from setup s t (acts.Put to number what) h = record { due = λ dev k. inl (due_after_less to (news_of what) dev (part_of s t).due k); owed = λ dev k. inl k; reports = λ dev k. inl k }
parts_from setup s t (acts.Took source number what) h =
    let f = taken_from setup t what (record (part_of s t) { taken = write ◌==◌ (part_of s t).taken source (number + 1) }) (came_for setup s t (acts.Took source number what)).message (id_of source t number what) in
    record { due = f.due; owed = f.owed; reports = f.reports }
parts_from setup s t (acts.Reg event a) h = let f = reg_from setup s t (came_for setup s t (acts.Reg event a)) event a None h in record { due = f.due; owed = f.owed; reports = f.reports }
parts_from setup s t (acts.Apply req k dev end) h =
    let v : View = view s t in
    let f = less_of v.part _ (applied_alike v req k dev end (size_of setup dev) (piece_here v req k) (base_here v dev)) in
    record { due = λ d k. inl (f.due d k); owed = λ d k. inl (f.owed d k); reports = λ d k. inl (f.reports d k) }
parts_from setup s t (acts.Abort req cause) h =
    let v : View = view s t in
    let f = less_of v.part _ (stopped_alike setup v.part req (request_here v req)) in
    record { due = λ d k. inl (f.due d k); owed = λ d k. inl (f.owed d k); reports = λ d k. inl (f.reports d k) }
parts_from setup s t (acts.Visit walk dev kind) h =
    let v : View = view s t in
    let p : Part = marked_by setup t v walk dev kind in
    let f = less_then v.part p (walked_if_any t walk p (walk_here v walk)).part (marked_less setup t v walk dev kind) (less_of p _ (walked_if_alike t walk p (walk_here v walk))) in
    record { due = λ d k. inl (f.due d k); owed = λ d k. inl (f.owed d k); reports = λ d k. inl (f.reports d k) }
parts_from setup s t (acts.Script line outcome) h = let v : View = view s t in record {
  due = λ dev k. inl (any_first (is_device_due dev) (part_of s t).due (posted setup (option_map job_of (next_line setup t v.part))) (job_none setup (option_map job_of (next_line setup t v.part)) dev) k);
  owed = λ dev k. inl k;
  reports = λ dev k. inl k;
}
parts_from setup s t (acts.Destruct d digest) h =
    let told : Bool = is_told (view s t) d in
    record {
      due = λ dev k. inl k;
      owed = λ dev k. inl (any_without (same_owed (owes.Destruct dev)) (same_owed (owes.Destruct d)) (part_of s t).owed (any_first (same_owed (owes.Destruct dev)) (without_first (same_owed (owes.Destruct d)) (part_of s t).owed) (cond told (owes.Report d ∷ []) []) (none_more dev told) k));
      reports = λ dev k. at dev (any_append (same_owed (owes.Report dev)) (without_first (same_owed (owes.Destruct d)) (part_of s t).owed) (cond told (owes.Report d ∷ []) []) k);
    }
  where
    none_more : (dev : DevId) (b : Bool) → list_any (same_owed (owes.Destruct dev)) (cond b (owes.Report d ∷ []) []) ≡ false
    none_more dev true = refl
    none_more dev false = refl

    or_false : (b : Bool) → (b || false) ≡ true → b ≡ true
    or_false true h = refl
    or_false false h = h

    this : (dev : DevId) (b : Bool) → list_any (same_owed (owes.Report dev)) (cond b (owes.Report d ∷ []) []) ≡ true → same_dev dev d ≡ true
    this dev true k = or_false (same_dev dev d) k
    this dev false k = absurd (let x : false ≡ true = k in cc)

    at : (dev : DevId) → (list_any (same_owed (owes.Report dev)) (without_first (same_owed (owes.Destruct d)) (part_of s t).owed) ≡ true) ⊎ (list_any (same_owed (owes.Report dev)) (cond (is_told (view s t) d) (owes.Report d ∷ []) []) ≡ true) → (list_any (same_owed (owes.Report dev)) (part_of s t).owed ≡ true) ⊎ (same_dev dev d ≡ true)
    at dev (inl k) = inl (any_without (same_owed (owes.Report dev)) (same_owed (owes.Destruct d)) (part_of s t).owed k)
    at dev (inr k) = inr (this dev (is_told (view s t) d) k)
parts_from setup s t (acts.Grow dev blocks) h =
    let p : Part = part_of s t in
    let q : Part = paid (owes.Grow dev blocks) p in
    let f = less_then p q _ (paid_less (owes.Grow dev blocks) p) (less_then q (owing (owes.EndResize dev) q) _ (owing_less (owes.EndResize dev) q (λ d. (refl, refl))) (less_of (owing (owes.EndResize dev) q) (change_grow setup (view s t) dev blocks).part (record { due_is = refl; owed_is = refl }))) in
    record { due = λ d k. inl (f.due d k); owed = λ d k. inl (f.owed d k); reports = λ d k. inl (f.reports d k) }
parts_from setup s t (acts.Grace walk until) h =
    let p : Part = part_of s t in
    let f = less_of p _ (remarked_alike (softened walk p.prior) (with_until until) p) in
    record { due = λ d k. inl (f.due d k); owed = λ d k. inl (f.owed d k); reports = λ d k. inl (f.reports d k) }
parts_from setup s t (acts.Due walk now) h =
    let p : Part = part_of s t in
    let f = less_of p _ (ended_alike walk now p) in
    record { due = λ d k. inl (f.due d k); owed = λ d k. inl (f.owed d k); reports = λ d k. inl (f.reports d k) }
parts_from setup s t _ h = record { due = λ dev k. inl k; owed = λ dev k. inl k; reports = λ dev k. inl k }
