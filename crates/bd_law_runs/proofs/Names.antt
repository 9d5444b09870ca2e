-- A part's names, decisions and debts: no name is bound to a base handle, only base handles are closed as owed, and a put is owed by the home of a limited device alone, as often as a walk of its removal came.
use Rattle.std.proofs.Common.{◌≡◌, ℕ, ◌+◌, ◌≤◌, ◌==◌, Bool, true, false, cond, not, ◌&&◌, ◌||◌, List, [], ◌∷◌, ◌++◌, Option, Some, None, refl, sym, ap, subst, arith, le_refl}
use Rattle.std.specs.List.{AllByRecursion, list_any}
use Rattle.bd_base.specs.Name.{same_name}
use Rattle.bd_base.specs.declared.act.Act.{Act}
use Rattle.bd_base.specs.declared.act.Act.TheVariants as acts
use Rattle.bd_base.specs.declared.act.ApplyEnd.{ApplyEnd}
use Rattle.bd_base.specs.declared.act.Token.{Token}
use Rattle.bd_base.specs.declared.act.Token.TheVariants as tokens
use Rattle.bd_base.specs.declared.event.Answer.{Answer}
use Rattle.bd_base.specs.declared.event.Answer.TheVariants as answers
use Rattle.bd_base.specs.declared.event.RegEvent.{RegEvent}
use Rattle.bd_base.specs.declared.event.RegEvent.TheVariants as events
use Rattle.bd_base.specs.declared.id.DevId.{DevId}
use Rattle.bd_base.specs.declared.id.HandleId.{HandleId}
use Rattle.bd_base.specs.declared.id.ReqId.{ReqId}
use Rattle.bd_base.specs.declared.id.WalkId.{WalkId}
use Rattle.bd_base.specs.declared.job.Job.{Job}
use Rattle.bd_base.specs.declared.job.Job.TheVariants as jobs
use Rattle.bd_base.specs.declared.request.WalkKind.{WalkKind}
use Rattle.bd_base.specs.declared.request.WalkKind.TheVariants.{Freeze, Drain, Thaw, Removal}
use Rattle.bd_base.specs.declared.setup.Setup.{Setup}
use Rattle.bd_base.specs.declared.thread_set.ThreadSet.{ThreadSet}
use Rattle.bd_machine.specs.declared.state.Base.{Base}
use Rattle.bd_machine.specs.declared.state.Binding.{Binding}
use Rattle.bd_machine.specs.declared.state.Decided.{Decided}
use Rattle.bd_machine.specs.declared.state.Decided.TheVariants as decisions
use Rattle.bd_machine.specs.declared.state.Id.{Id}
use Rattle.bd_machine.specs.declared.state.Kept.{Kept}
use Rattle.bd_machine.specs.declared.state.Kept.TheVariants as keeps
use Rattle.bd_machine.specs.declared.state.News.{News}
use Rattle.bd_machine.specs.declared.state.News.TheVariants as news
use Rattle.bd_machine.specs.declared.state.OpenPiece.{OpenPiece}
use Rattle.bd_machine.specs.declared.state.OpenRequest.{OpenRequest}
use Rattle.bd_machine.specs.declared.state.OpenWalk.{OpenWalk}
use Rattle.bd_machine.specs.declared.state.Owed.{Owed}
use Rattle.bd_machine.specs.declared.state.Owed.TheVariants as owes
use Rattle.bd_machine.specs.declared.state.Part.{Part}
use Rattle.bd_machine.specs.declared.state.Resetting.{Resetting}
use Rattle.bd_machine.specs.declared.state.Stage.{Stage}
use Rattle.bd_machine.specs.declared.state.Stage.TheVariants as stages
use Rattle.bd_machine.specs.declared.state.Trip.{Trip}
use Rattle.bd_machine.specs.declared.state.Trip.TheVariants as trips
use Rattle.bd_machine.specs.Aborts.{stopped}
use Rattle.bd_machine.specs.Admission.{is_gone}
use Rattle.bd_machine.specs.Asked.{owes_removal}
use Rattle.bd_machine.specs.BlockMap.{below, home, size_of}
use Rattle.bd_machine.specs.Changes.{is_dropped}
use Rattle.bd_machine.specs.Events.{decision_of, decided_by, paid, owing, with_due, alone, closed_by, born, all_born, got_by, put_down_by, put_paid, dropped_by, removal_paid, with_reset, advanced, reset_finishes, freed_by, channel_due, removing, reset_begun, reset_thaws, injection_taken, drain_time, resizing, resized, change_reg, first_req}
use Rattle.bd_machine.specs.Guards.{change}
use Rattle.bd_machine.specs.Homes.{base_here, change_applied, change_grow, is_told}
use Rattle.bd_machine.specs.Kept.{request_here, piece_here, walk_here}
use Rattle.bd_machine.specs.Laws.{one_if}
use Rattle.bd_machine.specs.Limits.{arrived, departed, is_limited, next_limited, waits_at}
use Rattle.bd_machine.specs.declared.state.Marking.{Marking}
use Rattle.bd_machine.specs.declared.state.FreezeMark.TheVariants.{Not}
use Rattle.bd_machine.specs.Grace.{dev_if_any, ended, ending_mark, remarked_if_any, softened}
use Rattle.bd_machine.specs.Marks.{remarked, with_frozen, with_until, hardened, freeze_set, removal_set}
use Rattle.bd_machine.specs.Messages.{request_took, told_part, removals_owed, freezes, went, told_walk, taken_by, arrived_walk, closed_notice}
use Rattle.bd_machine.specs.Registry.{made, device_named}
use Rattle.bd_machine.specs.Same.{same_dev, same_owed}
use Rattle.bd_machine.specs.Scripts.{bound_after, unbound}
use Rattle.bd_machine.specs.Table.{without_first}
use Rattle.bd_machine.specs.Threads.{is_nobody}
use Rattle.bd_machine.specs.Users.{is_base_handle, users}
use Rattle.bd_machine.specs.View.{View, Came, Change, id_of}
use Rattle.bd_machine.specs.Walks.{staged, numbered, over_nobody, begin_walk_with, begin_walk, time_of_walk, after_walk, is_at_end, walked, drain_threads, put_owed, marked_by, visited, walked_if_any, reset_of}
use Rattle.bd_law_runs.proofs.Fields.{taken_before}
use Rattle.bd_law_runs.proofs.Sums.{count_in, in_push}

-- the home of a limited device still has to put its channel, so often
abbrev pub puts : Part → DevId → ℕ
puts p d = count_in (same_owed (owes.Put d)) p.owed

abbrev pub is_putter : Setup → ℕ → DevId → Bool
is_putter setup t d = is_limited setup d && (home setup d == t)

less_then : (a b c : ℕ) → a ≤ b → c ≤ a → c ≤ b
less_then a b c h k = omega arith

no_more : (a b : ℕ) → a ≤ b → a ≤ b + 0
no_more a b h = omega arith

first_less : {X : Type 0} (is drop : X → Bool) (xs : List X) → count_in is (without_first drop xs) ≤ count_in is xs
first_less is drop [] = omega arith
first_less is drop (x ∷ xs) = go (drop x) (first_less is drop xs)
  where
    go : (b : Bool) → count_in is (without_first drop xs) ≤ count_in is xs → count_in is (cond b xs (x ∷ without_first drop xs)) ≤ one_if (is x) + count_in is xs
    go true h = omega arith
    go false h = omega arith

pub first_gone : {X : Type 0} (is : X → Bool) (xs : List X) → list_any is xs ≡ true → count_in is (without_first is xs) + 1 ≤ count_in is xs
first_gone is [] h = cc
first_gone is (x ∷ xs) h = go (is x) refl h (first_gone is xs)
  where
    one : (a b : ℕ) → a ≡ 1 → b + 1 ≤ a + b
    one a b e = omega arith

    more : (a b c : ℕ) → b + 1 ≤ c → a + b + 1 ≤ a + c
    more a b c h = omega arith

    go : (b : Bool) → is x ≡ b → (b || list_any is xs) ≡ true → (list_any is xs ≡ true → count_in is (without_first is xs) + 1 ≤ count_in is xs) → count_in is (cond b xs (x ∷ without_first is xs)) + 1 ≤ one_if (is x) + count_in is xs
    go true e h ih = one (one_if (is x)) (count_in is xs) (ap one_if e)
    go false e h ih = more (one_if (is x)) (count_in is (without_first is xs)) (count_in is xs) (ih h)

module _ (setup : Setup) (t : ℕ) where
  abbrev pub BoundFine : List Binding → Type 0
  BoundFine rows = AllByRecursion (λ (b : Binding). is_base_handle setup b.handle ≡ false) rows

  abbrev pub DecidedFine : Option Decided → Type 0
  DecidedFine (Some (decisions.Opened id)) = is_base_handle setup id ≡ false
  DecidedFine _ = Unit {0}

  abbrev pub OwesFine : Owed → Type 0
  OwesFine (owes.Close id) = is_base_handle setup id ≡ true
  OwesFine (owes.Put d) = is_putter setup t d ≡ true
  OwesFine _ = Unit {0}

  abbrev pub OwedFine : List Owed → Type 0
  OwedFine rows = AllByRecursion OwesFine rows

  abbrev pub FineNames : Part → Type 0
  FineNames p = BoundFine p.bound × DecidedFine p.decided × OwedFine p.owed

  -- a part that is fine stays so, and no put is owed more
  pub record Tame (p q : Part) : Type 0 where
    pub fine : FineNames p → FineNames q
    pub puts_less : (d : DevId) → puts q d ≤ puts p d

  pub tame_then : (p q r : Part) → Tame p q → Tame q r → Tame p r
  tame_then p q r h k = record { fine = λ f. k.fine (h.fine f); puts_less = λ d. less_then (puts q d) (puts p d) (puts r d) (h.puts_less d) (k.puts_less d) }

  tame_cond : (b : Bool) (p q r : Part) → Tame p q → Tame p r → Tame p (cond b q r)
  tame_cond true p q r h k = h
  tame_cond false p q r h k = k

  tame_change : (b : Bool) (p : Part) (c d : Change) → Tame p c.part → Tame p d.part → Tame p (cond b c d).part
  tame_change true p c d h k = h
  tame_change false p c d h k = k

  -- the names, decision and debts are the same
  pub tame_same : (p q : Part) → q.bound ≡ p.bound → q.decided ≡ p.decided → q.owed ≡ p.owed → Tame p q
  tame_same p q b d o = record {
    fine = λ f. (subst BoundFine (sym b) f.0, subst DecidedFine (sym d) f.1, subst OwedFine (sym o) f.2);
    puts_less = λ x. subst (λ (rows : List Owed). count_in (same_owed (owes.Put x)) rows ≤ puts p x) (sym o) (le_refl (puts p x));
  }

  -- ---- debts

  owed_first : (is : Owed → Bool) (rows : List Owed) → OwedFine rows → OwedFine (without_first is rows)
  owed_first is [] f = tt
  owed_first is (x ∷ xs) f = go (is x) (owed_first is xs f.1)
    where
      go : (b : Bool) → OwedFine (without_first is xs) → OwedFine (cond b xs (x ∷ without_first is xs))
      go true h = f.1
      go false h = (f.0, h)

  owed_both : (xs ys : List Owed) → OwedFine xs → OwedFine ys → OwedFine (xs ++ ys)
  owed_both [] ys f g = g
  owed_both (x ∷ xs) ys f g = (f.0, owed_both xs ys f.1 g)

  paid_tame : (o : Owed) (p : Part) → Tame p (paid o p)
  paid_tame o p = record { fine = λ f. (f.0, f.1, owed_first (same_owed o) p.owed f.2); puts_less = λ d. first_less (same_owed (owes.Put d)) (same_owed o) p.owed }

  count_both : (is : Owed → Bool) (xs ys : List Owed) → count_in is ys ≡ 0 → count_in is (xs ++ ys) ≤ count_in is xs
  count_both is [] ys h = zero_of (count_in is ys) h
    where
      zero_of : (n : ℕ) → n ≡ 0 → n ≤ 0
      zero_of n h = omega arith
  count_both is (x ∷ xs) ys h = more (one_if (is x)) (count_in is (xs ++ ys)) (count_in is xs) (count_both is xs ys h)
    where
      more : (a b c : ℕ) → b ≤ c → a + b ≤ a + c
      more a b c h = omega arith

  -- what is owed besides puts
  owing_tame : (os : List Owed) (p : Part) → OwedFine os → ((d : DevId) → count_in (same_owed (owes.Put d)) os ≡ 0) → Tame p (record p { owed = p.owed ++ os })
  owing_tame os p f none = record { fine = λ g. (g.0, g.1, owed_both p.owed os g.2 f); puts_less = λ d. count_both (same_owed (owes.Put d)) p.owed os (none d) }

  -- ---- words

  -- an answer opens no base handle
  abbrev pub AnswerFine : Answer → Type 0
  AnswerFine (answers.Opened id d blocks) = is_base_handle setup id ≡ false
  AnswerFine _ = Unit {0}

  decided_tame : (came : Came) (a : Answer) (p : Part) → AnswerFine a → Tame p (decided_by came a p)
  decided_tame came a p h = record { fine = λ f. (f.0, by came.shut f.1, f.2); puts_less = λ d. le_refl (puts p d) }
    where
      answered : (a : Answer) → AnswerFine a → DecidedFine (decision_of a)
      answered (answers.Opened id d blocks) h = h
      answered (answers.Closed d) h = tt
      answered answers.Claimed h = tt
      answered (answers.Removing d ts hs x) h = tt
      answered (answers.Resizing d home) h = tt
      answered (answers.Refused e) h = tt
      answered _ h = tt

      by : (b : Bool) → DecidedFine p.decided → DecidedFine (cond b p.decided (decision_of a))
      by true f = f
      by false f = answered a h

  closed_tame : (came : Came) (id : HandleId) (a : Answer) (p : Part) → AnswerFine a → Tame p (closed_by setup came id a p)
  closed_tame came id a p h =
      tame_cond (is_base_handle setup id) p (paid (owes.Close id) p) (cond (is_gone p id) p (decided_by came a p)) (paid_tame (owes.Close id) p)
      (tame_cond (is_gone p id) p p (decided_by came a p) (tame_same p p refl refl refl) (decided_tame came a p h))

  born_tame : (frozen ds : List DevId) (p : Part) → Tame p (all_born frozen ds p)
  born_tame frozen [] p = tame_same p p refl refl refl
  born_tame frozen (d ∷ ds) p = tame_then p (born frozen d p) (all_born frozen ds (born frozen d p)) (tame_same _ _ refl refl refl) (born_tame frozen ds (born frozen d p))

  got_tame : (v : View) (dev : DevId) (a : Answer) → Tame v.part (got_by setup v dev a)
  got_tame v dev (answers.Got fresh frozen) = born_tame frozen (made v.channels (below setup dev)) v.part
  got_tame v dev _ = tame_same v.part v.part refl refl refl

  down_tame : (dev : DevId) (a : Answer) (p : Part) → Tame p (put_down_by t dev a p)
  down_tame dev (answers.PutDown left) p = tame_same _ _ refl refl refl
  down_tame dev _ p = tame_same p p refl refl refl

  put_tame : (dev : DevId) (closing : Bool) (p : Part) → Tame p (put_paid dev closing p)
  put_tame dev true p = tame_same p p refl refl refl
  put_tame dev false p = paid_tame (owes.Put dev) p

  dropped_tame : (dev : DevId) (a : Answer) (p : Part) → Tame p (dropped_by t dev a p)
  dropped_tame dev (answers.Dropped what zero destruct) p =
      let q : Part = cond (is_dropped what) (remarked dev (with_frozen Not) p) p in
      tame_then p q (with_due (channel_due t zero) q) (tame_cond (is_dropped what) p (remarked dev (with_frozen Not) p) p (tame_same _ _ refl refl refl) (tame_same p p refl refl refl)) (tame_same _ _ refl refl refl)
  dropped_tame dev _ p = tame_same p p refl refl refl

  removal_tame : (came : Came) (a : Answer) (o : Option ℕ) (p : Part) → AnswerFine a → Tame p (removal_paid came a o p)
  removal_tame came a None p h = decided_tame came a p h
  removal_tame came a (Some n) p h = tame_cond (owes_removal p (Some n)) p (paid (owes.Remove (record { 0 = n })) p) (decided_by came a p) (paid_tame (owes.Remove (record { 0 = n })) p) (decided_tame came a p h)

  finishes_tame : (dev : DevId) (a : Answer) (p : Part) → Tame p (reset_finishes dev a p)
  finishes_tame dev (answers.ResetFinished next) p = tame_same _ _ refl refl refl
  finishes_tame dev _ p = tame_same p p refl refl refl

  -- only base handles are freed
  abbrev pub FreesBase : Answer → Type 0
  FreesBase (answers.Freed (Some id)) = is_base_handle setup id ≡ true
  FreesBase _ = Unit {0}

  freed_tame : (a : Answer) (p : Part) → FreesBase a → Tame p (freed_by a p)
  freed_tame (answers.Freed (Some id)) p h = owing_tame (owes.Close id ∷ []) p (h, tt) (λ d. refl)
  freed_tame (answers.Freed None) p h = tame_same p p refl refl refl
  freed_tame _ p h = tame_same p p refl refl refl

  staged_tame : (req : Option ReqId) (stage : Stage) (p : Part) → Tame p (staged req stage p)
  staged_tame None stage p = tame_same p p refl refl refl
  staged_tame (Some req) stage p = tame_same _ _ refl refl refl

  told_tame : (told : News) (p : Part) → Tame p (told_part setup told p)
  told_tame (news.Mark mark) p = tame_same _ _ refl refl refl
  told_tame (news.Gone handle) p = tame_then p (record p { gone = p.gone ++ handle ∷ [] }) (told_part setup (news.Gone handle) p) (tame_same _ _ refl refl refl) (owing_tame (removals_owed (users setup handle)) (record p { gone = p.gone ++ handle ∷ [] }) (fine (users setup handle)) (λ d. none d (users setup handle)))
    where
      fine : (ds : List DevId) → OwedFine (removals_owed ds)
      fine [] = tt
      fine (d ∷ ds) = (tt, fine ds)

      none : (d : DevId) (ds : List DevId) → count_in (same_owed (owes.Put d)) (removals_owed ds) ≡ 0
      none d [] = refl
      none d (x ∷ ds) = ap (λ (n : ℕ). 0 + n) (none d ds)
  told_tame (news.Channel dev) p = owing_tame (owes.Drop dev ∷ []) p (tt, tt) (λ d. refl)
  told_tame (news.Device dev) p = owing_tame (owes.Destruct dev ∷ []) p (tt, tt) (λ d. refl)
  told_tame (news.Go req threads) p = tame_same p p refl refl refl
  told_tame (news.Grow dev blocks) p = owing_tame (owes.Grow dev blocks ∷ []) p (tt, tt) (λ d. refl)
  told_tame (news.Sized handle blocks) p = tame_same _ _ refl refl refl

  remarked_tame : (o : Option DevId) (f : Marking → Marking) (p : Part) → Tame p (remarked_if_any o f p)
  remarked_tame None f p = tame_same p p refl refl refl
  remarked_tame (Some dev) f p = tame_same _ _ refl refl refl

  ended_tame : (walk : WalkId) (now : ℕ) (p : Part) → Tame p (ended walk now p)
  ended_tame walk now p =
      let q : Part = remarked_if_any (dev_if_any (ending_mark p walk)) hardened p in
      tame_then p q (ended walk now p) (remarked_tame (dev_if_any (ending_mark p walk)) hardened p) (tame_same _ _ refl refl refl)

  -- ---- walks

  nobody_tame : (kind : WalkKind) (req : Option ReqId) (p : Part) → Tame p (over_nobody kind req p)
  nobody_tame Freeze req p = tame_then p (numbered 2 p) (staged req stages.Drained (numbered 2 p)) (tame_same _ _ refl refl refl) (staged_tame req stages.Drained (numbered 2 p))
  nobody_tame Drain req p = tame_then p (numbered 1 p) (staged req stages.Drained (numbered 1 p)) (tame_same _ _ refl refl refl) (staged_tame req stages.Drained (numbered 1 p))
  nobody_tame Thaw req p = tame_then p (numbered 1 p) (staged req stages.Thawed (numbered 1 p)) (tame_same _ _ refl refl refl) (staged_tame req stages.Thawed (numbered 1 p))
  nobody_tame Removal req p = tame_same _ _ refl refl refl

  begin_tame : (u : ℕ) (kind : WalkKind) (dev : DevId) (threads : ThreadSet) (req : Option ReqId) (time : ℕ) (c : Change) → Tame c.part (begin_walk_with u kind dev threads req time c).part
  begin_tame u kind dev threads req time c = tame_change (is_nobody threads) c.part _ _ (nobody_tame kind req c.part) (tame_same _ _ refl refl refl)

  after_tame : (u : ℕ) (w : OpenWalk) (kind : WalkKind) (c : Change) → Tame c.part (after_walk u w kind c).part
  after_tame u w Freeze c =
      let d : Change = record { part = staged w.request stages.Draining c.part; moves = c.moves } in
      tame_then c.part d.part (begin_walk u Drain w.dev (drain_threads c.part w.request) w.request d).part (staged_tame w.request stages.Draining c.part) (begin_tame u Drain w.dev (drain_threads c.part w.request) w.request 0 d)
  after_tame u w Drain c = staged_tame w.request stages.Drained c.part
  after_tame u w Thaw c = staged_tame w.request stages.Thawed c.part
  after_tame u w Removal c = tame_same c.part c.part refl refl refl

  walked_tame : (u : ℕ) (walk : WalkId) (w : OpenWalk) (p : Part) → Tame p (walked u walk w p).part
  walked_tame u walk w p = tame_change (is_at_end u walk w) p _ _ (after_tame u w w.kind _) (tame_same p p refl refl refl)

  pub walked_if_tame : (u : ℕ) (walk : WalkId) (p : Part) (x : Option OpenWalk) → Tame p (walked_if_any u walk p x).part
  walked_if_tame u walk p None = tame_same p p refl refl refl
  walked_if_tame u walk p (Some w) = walked_tame u walk (visited u w) p

  went_tame : (u : ℕ) (req : ReqId) (threads : ThreadSet) (x : Option Resetting) (c : Change) → Tame c.part (went u req threads x c).part
  went_tame u req threads None c = tame_same c.part c.part refl refl refl
  went_tame u req threads (Some r) c =
      let d : Change = record { part = freezes req threads c.part; moves = c.moves } in
      tame_then c.part d.part (begin_walk_with u Freeze r.dev threads (Some req) r.time d).part (tame_same _ _ refl refl refl) (begin_tame u Freeze r.dev threads (Some req) r.time d)

  told_walk_tame : (u : ℕ) (told : News) (c : Change) → Tame c.part (told_walk u told c).part
  told_walk_tame u (news.Go req threads) c = went_tame u req threads (reset_of c.part req) c
  told_walk_tame u (news.Mark mark) c = tame_same c.part c.part refl refl refl
  told_walk_tame u (news.Gone handle) c = tame_same c.part c.part refl refl refl
  told_walk_tame u (news.Channel dev) c = tame_same c.part c.part refl refl refl
  told_walk_tame u (news.Device dev) c = tame_same c.part c.part refl refl refl
  told_walk_tame u (news.Grow dev blocks) c = tame_same c.part c.part refl refl refl
  told_walk_tame u (news.Sized handle blocks) c = tame_same c.part c.part refl refl refl

  arrived_tame : (p : Part) (req : ReqId) (o : Option DevId) → Tame p (arrived p req o)
  arrived_tame p req None = tame_same p p refl refl refl
  arrived_tame p req (Some dev) = tame_same _ _ refl refl refl

  came_tame : (req : ReqId) (r : OpenRequest) (trip : Trip) (p : Part) → Tame p (request_took setup req r trip p)
  came_tame req r trips.Out p = arrived_tame p req (next_limited setup r)
  came_tame req r trips.Own p = tame_same p p refl refl refl
  came_tame req r trips.Passed p = tame_same p p refl refl refl

  notice_tame : (u : ℕ) (told : News) (p : Part) (id : Id) → Tame p (told_walk u told (record { part = told_part setup told p; moves = closed_notice id told })).part
  notice_tame u told p id = let c : Change = record { part = told_part setup told p; moves = closed_notice id told } in tame_then p c.part (told_walk u told c).part (told_tame told p) (told_walk_tame u told c)

  taken_tame : (u : ℕ) (what : Token) (p : Part) (x : Option Kept) (id : Id) → Tame p (taken_by setup u what p x id).part
  taken_tame u what p None id = none what
    where
      none : (what : Token) → Tame p (taken_by setup u what p None id).part
      none (tokens.Request req) = tame_same p p refl refl refl
      none _ = tame_same p p refl refl refl
  taken_tame u (tokens.Request req) p (Some (keeps.Request r)) id = came_tame req r r.trip p
  taken_tame u (tokens.Piece req k) p (Some (keeps.Piece q)) id = tame_same _ _ refl refl refl
  taken_tame u (tokens.Walk walk) p (Some (keeps.Walk w)) id = walked_tame u walk (arrived_walk w) p
  taken_tame u (tokens.Request req) p (Some (keeps.Notice told)) id = notice_tame u told p id
  taken_tame u what p (Some (keeps.Notice told)) id = notice_tame u told p id
  taken_tame u _ p _ id = tame_same p p refl refl refl

  -- ---- acts

  removing_tame : (a : Answer) (p : Part) → Tame p (removing setup t a p).part
  removing_tame (answers.Removing dev threads handles destruct) p =
      let c : Change = alone (with_due _ p) in
      tame_then p c.part (begin_walk t Removal dev threads None c).part (tame_same _ _ refl refl refl) (begin_tame t Removal dev threads None 0 c)
  removing_tame _ p = tame_same p p refl refl refl

  begun_tame : (dev : DevId) (req : ReqId) (a : Answer) (p : Part) → Tame p (reset_begun t dev req a p).part
  begun_tame dev req (answers.ResetStarted threads) p =
      let c : Change = alone (with_reset req dev stages.Freezing threads p) in
      let time : ℕ = drain_time p req in
      tame_then p c.part (begin_walk_with t Freeze dev threads (Some req) time c).part (tame_same _ _ refl refl refl) (begin_tame t Freeze dev threads (Some req) time c)
  begun_tame dev req _ p = tame_same _ _ refl refl refl

  thaws_tame : (dev : DevId) (a : Answer) (p : Part) → Tame p (reset_thaws t dev a p).part
  thaws_tame dev (answers.ResetEnded threads) p =
      let c : Change = alone (advanced dev stages.Drained stages.Thawing p) in
      tame_then p c.part (begin_walk t Thaw dev threads (first_req p.resets dev stages.Drained) c).part (tame_same _ _ refl refl refl) (begin_tame t Thaw dev threads (first_req p.resets dev stages.Drained) 0 c)
  thaws_tame dev _ p = tame_same p p refl refl refl

  injection_tame : (v : View) (req : ReqId) (a : Answer) → Tame v.part (injection_taken v req a).part
  injection_tame v req (answers.Injected decision) = tame_same _ _ refl refl refl
  injection_tame v req _ = tame_same v.part v.part refl refl refl

  resizing_tame : (blocks : ℕ) (a : Answer) (p : Part) → Tame p (resizing blocks a p)
  resizing_tame blocks (answers.Resizing dev home) p = tame_same _ _ refl refl refl
  resizing_tame blocks _ p = tame_same p p refl refl refl

  resized_tame : (a : Answer) (p : Part) → Tame p (resized a p)
  resized_tame (answers.Resized handles blocks destruct) p = tame_same _ _ refl refl refl
  resized_tame _ p = tame_same p p refl refl refl

  -- what is known of an event's answer
  abbrev pub EventFine : RegEvent → Answer → Type 0
  EventFine (events.Open name write) a = AnswerFine a
  EventFine (events.Claim id kind) a = AnswerFine a
  EventFine (events.Close id) a = AnswerFine a
  EventFine (events.BeginRemove name) a = AnswerFine a
  EventFine (events.Destructed dev) a = FreesBase a
  EventFine (events.BeginResize name blocks) a = AnswerFine a
  EventFine _ a = Unit {0}

  reg_tame : (v : View) (came : Came) (event : RegEvent) (a : Answer) → EventFine event a → Tame v.part (change_reg setup t v came event a).part
  reg_tame v came (events.Open name write) a h = decided_tame came a v.part h
  reg_tame v came (events.Claim id kind) a h = decided_tame came a v.part h
  reg_tame v came (events.Close id) a h = tame_then v.part (closed_by setup came id a v.part) _ (closed_tame came id a v.part h) (tame_same _ _ refl refl refl)
  reg_tame v came (events.GetChannel dev) a h = got_tame v dev a
  reg_tame v came (events.PutChannel dev closing) a h = tame_then v.part (put_paid dev closing v.part) (put_down_by t dev a (put_paid dev closing v.part)) (put_tame dev closing v.part) (down_tame dev a (put_paid dev closing v.part))
  reg_tame v came (events.DropChannel dev) a h =
      tame_then v.part (dropped_by t dev a (paid (owes.Drop dev) v.part)) _
      (tame_then v.part (paid (owes.Drop dev) v.part) _ (paid_tame (owes.Drop dev) v.part) (dropped_tame dev a (paid (owes.Drop dev) v.part)))
      (tame_same _ _ refl refl refl)
  reg_tame v came (events.BeginRemove name) a h =
      let p : Part = removal_paid came a (device_named setup name) v.part in
      tame_then v.part p (removing setup t a p).part (removal_tame came a (device_named setup name) v.part h) (removing_tame a p)
  reg_tame v came (events.BeginReset dev req) a h = begun_tame dev req a v.part
  reg_tame v came (events.EndReset dev) a h = thaws_tame dev a v.part
  reg_tame v came (events.FinishReset dev) a h = finishes_tame dev a v.part
  reg_tame v came (events.TakeInjection dev req op) a h = injection_tame v req a
  reg_tame v came (events.Destructed dev) a h = tame_then v.part (paid (owes.Report dev) v.part) _ (paid_tame (owes.Report dev) v.part) (freed_tame a (paid (owes.Report dev) v.part) h)
  reg_tame v came (events.BeginResize name blocks) a h = tame_then v.part (decided_by came a v.part) _ (decided_tame came a v.part h) (resizing_tame blocks a (decided_by came a v.part))
  reg_tame v came (events.EndResize dev) a h =
      tame_then v.part (resized a (paid (owes.EndResize dev) v.part)) _
      (tame_then v.part (paid (owes.EndResize dev) v.part) _ (paid_tame (owes.EndResize dev) v.part) (resized_tame a (paid (owes.EndResize dev) v.part)))
      (tame_same _ _ refl refl refl)

  applied_tame : (v : View) (req : ReqId) (k : ℕ) (dev : DevId) (end : ApplyEnd) (size : ℕ) (x : Option OpenPiece) (b : Option Base) → Tame v.part (change_applied v req k dev end size x b).part
  applied_tame v req k dev end size (Some p) (Some b) = tame_same _ _ refl refl refl
  applied_tame v req k dev end size _ _ = tame_same v.part v.part refl refl refl

  stopped_tame : (p : Part) (req : ReqId) (x : Option OpenRequest) → Tame p (stopped setup p req x)
  stopped_tame p req None = tame_same p p refl refl refl
  stopped_tame p req (Some r) = go (waits_at setup r)
    where
      go : (o : Option DevId) → Tame p (departed p req o)
      go None = tame_same p p refl refl refl
      go (Some dev) = tame_same _ _ refl refl refl

  destruct_tame : (v : View) (dev : DevId) (b : Bool) → Tame v.part (record v.part { destructed = v.part.destructed ++ dev ∷ []; owed = without_first (same_owed (owes.Destruct dev)) v.part.owed ++ cond b (owes.Report dev ∷ []) [] })
  destruct_tame v dev b =
      tame_then v.part (record (paid (owes.Destruct dev) v.part) { destructed = v.part.destructed ++ dev ∷ [] }) _
      (tame_then v.part (paid (owes.Destruct dev) v.part) _ (paid_tame (owes.Destruct dev) v.part) (tame_same _ _ refl refl refl))
      (owing_tame (cond b (owes.Report dev ∷ []) []) (record (paid (owes.Destruct dev) v.part) { destructed = v.part.destructed ++ dev ∷ [] }) (fine b) (λ d. none b d))
    where
      fine : (b : Bool) → OwedFine (cond b (owes.Report dev ∷ []) [])
      fine true = (tt, tt)
      fine false = tt

      none : (b : Bool) (d : DevId) → count_in (same_owed (owes.Put d)) (cond b (owes.Report dev ∷ []) []) ≡ 0
      none true d = refl
      none false d = refl

  grown_tame : (v : View) (dev : DevId) (blocks : ℕ) → Tame v.part (change_grow setup v dev blocks).part
  grown_tame v dev blocks =
      tame_then v.part (paid (owes.Grow dev blocks) v.part) _ (paid_tame (owes.Grow dev blocks) v.part)
      (tame_then (paid (owes.Grow dev blocks) v.part) (owing (owes.EndResize dev) (paid (owes.Grow dev blocks) v.part)) _ (owing_tame (owes.EndResize dev ∷ []) (paid (owes.Grow dev blocks) v.part) (tt, tt) (λ d. refl)) (tame_same _ _ refl refl refl))

  -- a line binds its name to what was opened
  bound_fine : (job : Option Job) (p : Part) → FineNames p → BoundFine (bound_after job p.decided p.bound)
  bound_fine job p f = go job p.decided f.1
    where
      fewer : (name : List ℕ) (rows : List Binding) → BoundFine rows → BoundFine (unbound name rows)
      fewer name [] f = tt
      fewer name (x ∷ xs) f = by (not (same_name x.name name)) (fewer name xs f.1)
        where
          by : (b : Bool) → BoundFine (unbound name xs) → BoundFine (cond b (x ∷ unbound name xs) (unbound name xs))
          by true h = (f.0, h)
          by false h = h

      push : (rows : List Binding) (x : Binding) → BoundFine rows → is_base_handle setup x.handle ≡ false → BoundFine (rows ++ x ∷ [])
      push [] x f h = (h, tt)
      push (y ∷ ys) x f h = (f.0, push ys x f.1 h)

      go : (job : Option Job) (d : Option Decided) → DecidedFine d → BoundFine (bound_after job d p.bound)
      go (Some (jobs.Open handle dev write)) (Some (decisions.Opened id)) h = push (unbound handle p.bound) (record { name = handle; handle = id }) (fewer handle p.bound f.0) h
      go (Some (jobs.Close handle)) (Some decisions.Closed) h = fewer handle p.bound f.0
      go _ _ h = f.0

  script_tame : (v : View) (job : Option Job) → FineNames v.part → BoundFine (bound_after job v.part.decided v.part.bound) × DecidedFine None × OwedFine v.part.owed
  script_tame v job f = (bound_fine job v.part f, tt, f.2)

  -- the answer of an event
  abbrev pub ActFine : Act → Type 0
  ActFine (acts.Reg event a) = EventFine event a
  ActFine _ = Unit {0}

  abbrev pub IsVisit : Act → Type 0
  IsVisit (acts.Visit walk dev Removal) = Unit {0}
  IsVisit _ = ⊥

  marked_tame : (v : View) (walk : WalkId) (dev : DevId) (kind : WalkKind) → (kind ≡ Removal → ⊥) → Tame v.part (marked_by setup t v walk dev kind)
  marked_tame v walk dev Freeze h = tame_cond _ v.part (remarked dev (freeze_set walk (time_of_walk (walk_here v walk))) v.part) v.part (tame_same _ _ refl refl refl) (tame_same v.part v.part refl refl refl)
  marked_tame v walk dev Drain h = tame_same v.part v.part refl refl refl
  marked_tame v walk dev Thaw h = tame_same _ _ refl refl refl
  marked_tame v walk dev Removal h = absurd (h refl)

  pub act_tame : (v : View) (act : Act) (came : Came) → ActFine act → (IsVisit act → ⊥) → Tame v.part (change setup t v act came).part
  act_tame v (acts.Took source number what) came a n =
      tame_then v.part (taken_before v.part source number) _ (tame_same _ _ refl refl refl)
      (tame_then (taken_before v.part source number) (taken_by setup t what (taken_before v.part source number) came.message (id_of source t number what)).part _ (taken_tame t what (taken_before v.part source number) came.message (id_of source t number what)) (tame_same _ _ refl refl refl))
  act_tame v (acts.Reg event x) came a n = tame_then v.part (change_reg setup t v came event x).part _ (reg_tame v came event x a) (tame_same _ _ refl refl refl)
  act_tame v (acts.Accept dev lba handle req op count) came a n = record { fine = λ f. (f.0, tt, f.2); puts_less = λ d. le_refl (puts v.part d) }
  act_tame v (acts.Refuse errno lba handle op count) came a n = record { fine = λ f. (f.0, tt, f.2); puts_less = λ d. le_refl (puts v.part d) }
  act_tame v (acts.Apply req k dev end) came a n = tame_then v.part (change_applied v req k dev end (size_of setup dev) (piece_here v req k) (base_here v dev)).part _ (applied_tame v req k dev end (size_of setup dev) (piece_here v req k) (base_here v dev)) (tame_same _ _ refl refl refl)
  act_tame v (acts.Abort req cause) came a n = tame_then v.part (stopped setup v.part req (request_here v req)) _ (stopped_tame v.part req (request_here v req)) (tame_same _ _ refl refl refl)
  act_tame v (acts.Visit walk dev kind) came a n = by kind n
    where
      all : (kind : WalkKind) → (kind ≡ Removal → ⊥) → Tame v.part (change setup t v (acts.Visit walk dev kind) came).part
      all kind ne = tame_then v.part (marked_by setup t v walk dev kind) _ (marked_tame v walk dev kind ne)
          (tame_then (marked_by setup t v walk dev kind) (walked_if_any t walk (marked_by setup t v walk dev kind) (walk_here v walk)).part _ (walked_if_tame t walk (marked_by setup t v walk dev kind) (walk_here v walk)) (tame_same _ _ refl refl refl))

      by : (kind : WalkKind) → (IsVisit (acts.Visit walk dev kind) → ⊥) → Tame v.part (change setup t v (acts.Visit walk dev kind) came).part
      by Freeze n = all Freeze (λ e. cc)
      by Drain n = all Drain (λ e. cc)
      by Thaw n = all Thaw (λ e. cc)
      by Removal n = absurd (n tt)
  act_tame v (acts.Destruct dev digest) came a n = tame_then v.part _ _ (destruct_tame v dev (is_told v dev)) (tame_same _ _ refl refl refl)
  act_tame v (acts.Script line outcome) came a n = record { fine = λ f. script_tame v _ f; puts_less = λ d. le_refl (puts v.part d) }
  act_tame v (acts.Grow dev blocks) came a n = tame_then v.part (change_grow setup v dev blocks).part _ (grown_tame v dev blocks) (tame_same _ _ refl refl refl)
  act_tame v (acts.Grace walk until) came a n = tame_then v.part (remarked_if_any (softened walk v.part.prior) (with_until until) v.part) _ (remarked_tame (softened walk v.part.prior) (with_until until) v.part) (tame_same _ _ refl refl refl)
  act_tame v (acts.Due walk now) came a n = tame_then v.part (ended walk now v.part) _ (ended_tame walk now v.part) (tame_same _ _ refl refl refl)
  act_tame v _ came a n = tame_same _ _ refl refl refl

  -- a visit of a removal adds a put at most, at the home of a limited device
  abbrev marked_removed : View → DevId → Part
  marked_removed v dev = put_owed setup t dev (remarked dev removal_set v.part)

  after_marked : (v : View) (walk : WalkId) (dev : DevId) (came : Came) → Tame (marked_removed v dev) (change setup t v (acts.Visit walk dev Removal) came).part
  after_marked v walk dev came = tame_then (marked_removed v dev) (walked_if_any t walk (marked_removed v dev) (walk_here v walk)).part _ (walked_if_tame t walk (marked_removed v dev) (walk_here v walk)) (tame_same _ _ refl refl refl)

  pub visit_fine : (v : View) (walk : WalkId) (dev : DevId) (came : Came) → FineNames v.part → FineNames (change setup t v (acts.Visit walk dev Removal) came).part
  visit_fine v walk dev came f = (after_marked v walk dev came).fine (by (is_putter setup t dev) refl)
    where
      by : (b : Bool) → is_putter setup t dev ≡ b → FineNames (cond b (owing (owes.Put dev) (remarked dev removal_set v.part)) (remarked dev removal_set v.part))
      by true e = (f.0, f.1, owed_both v.part.owed (owes.Put dev ∷ []) f.2 (e, tt))
      by false e = f

  -- the puts of one device
  pub visit_puts : (v : View) (walk : WalkId) (dev : DevId) (came : Came) (d : DevId) → puts (change setup t v (acts.Visit walk dev Removal) came).part d ≤ puts v.part d + one_if (is_putter setup t dev && same_dev d dev)
  visit_puts v walk dev came d =
      less_then (puts (marked_removed v dev) d) (puts v.part d + one_if (is_putter setup t dev && same_dev d dev)) (puts (change setup t v (acts.Visit walk dev Removal) came).part d)
      (by (is_putter setup t dev)) ((after_marked v walk dev came).puts_less d)
    where
      by : (b : Bool) → puts (cond b (owing (owes.Put dev) (remarked dev removal_set v.part)) (remarked dev removal_set v.part)) d ≤ puts v.part d + one_if (b && same_dev d dev)
      by true = same_as (count_in (same_owed (owes.Put d)) (v.part.owed ++ owes.Put dev ∷ [])) (puts v.part d + one_if (same_dev d dev)) (in_push (same_owed (owes.Put d)) v.part.owed (owes.Put dev))
        where
          same_as : (a b : ℕ) → a ≡ b → a ≤ b
          same_as a b e = omega arith
      by false = no_more (puts v.part d) (puts v.part d) (le_refl (puts v.part d))

  -- a put that is owed is paid
  pub put_paid_once : (v : View) (dev : DevId) (a : Answer) (came : Came) → list_any (same_owed (owes.Put dev)) v.part.owed ≡ true → puts (change setup t v (acts.Reg (events.PutChannel dev false) a) came).part dev + 1 ≤ puts v.part dev
  put_paid_once v dev a came h =
      more (puts (change setup t v (acts.Reg (events.PutChannel dev false) a) came).part dev) (puts (paid (owes.Put dev) v.part) dev) (puts v.part dev)
      ((down_tame dev a (paid (owes.Put dev) v.part)).puts_less dev) (first_gone (same_owed (owes.Put dev)) v.part.owed h)
    where
      more : (a b c : ℕ) → a ≤ b → b + 1 ≤ c → a + 1 ≤ c
      more a b c h k = omega arith
