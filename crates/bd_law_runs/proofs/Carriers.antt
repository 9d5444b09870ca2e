-- The walk of a removal that still has the home of a limited device to visit: no act makes another one.
use Rattle.std.specs.List.{AllByRecursion}
use Rattle.bd_base.specs.declared.act.Act.{Act}
use Rattle.bd_base.specs.declared.act.Act.TheVariants as acts
use Rattle.bd_base.specs.declared.act.ApplyEnd.{ApplyEnd}
use Rattle.bd_base.specs.declared.act.Token.{Token}
use Rattle.bd_base.specs.declared.act.Token.TheVariants as tokens
use Rattle.bd_base.specs.declared.event.Answer.{Answer}
use Rattle.bd_base.specs.declared.event.Answer.TheVariants as answers
use Rattle.bd_base.specs.declared.event.RegEvent.{RegEvent}
use Rattle.bd_base.specs.declared.event.RegEvent.TheVariants as events
use Rattle.bd_base.specs.declared.id.DevId.{DevId}
use Rattle.bd_base.specs.declared.id.ReqId.{ReqId}
use Rattle.bd_base.specs.declared.id.WalkId.{WalkId}
use Rattle.bd_base.specs.declared.request.WalkKind.{WalkKind}
use Rattle.bd_base.specs.declared.request.WalkKind.TheVariants.{Freeze, Drain, Thaw, Removal}
use Rattle.bd_base.specs.declared.setup.Setup.{Setup}
use Rattle.bd_base.specs.declared.thread_set.ThreadSet.{ThreadSet}
use Rattle.bd_machine.specs.declared.state.Base.{Base}
use Rattle.bd_machine.specs.declared.state.Extent.{Extent}
use Rattle.bd_machine.specs.declared.state.Id.{Id}
use Rattle.bd_machine.specs.declared.state.Id.TheVariants.{Request, Piece, Walk, Notice}
use Rattle.bd_machine.specs.declared.state.Kept.{Kept}
use Rattle.bd_machine.specs.declared.state.Kept.TheVariants as keeps
use Rattle.bd_machine.specs.declared.state.News.{News}
use Rattle.bd_machine.specs.declared.state.News.TheVariants as news
use Rattle.bd_machine.specs.declared.state.OpenPiece.{OpenPiece}
use Rattle.bd_machine.specs.declared.state.OpenRequest.{OpenRequest}
use Rattle.bd_machine.specs.declared.state.OpenWalk.{OpenWalk}
use Rattle.bd_machine.specs.declared.state.Part.{Part}
use Rattle.bd_machine.specs.declared.state.Resetting.{Resetting}
use Rattle.bd_machine.specs.declared.state.Stage.TheVariants as stages
use Rattle.bd_machine.specs.Aborts.{aborted}
use Rattle.bd_machine.specs.BlockMap.{size_of}
use Rattle.bd_machine.specs.Completion.{pieces_of}
use Rattle.bd_machine.specs.Delays.{held, released}
use Rattle.bd_machine.specs.Events.{alone, removal_paid, removing, reset_begun, reset_thaws, injection_taken, with_reset, advanced, first_req, drain_time, change_reg}
use Rattle.bd_machine.specs.Guards.{change}
use Rattle.bd_machine.specs.Homes.{base_here, change_applied, piece_edited, refused}
use Rattle.bd_machine.specs.Injections.{injected, pended, asked_once_more}
use Rattle.bd_machine.specs.Kept.{as_walk, request_here, piece_here, walk_here, edited}
use Rattle.bd_machine.specs.Messages.{sent, token_put, news_put, news_of, taken_by, told_part, told_walk, went, freezes, closed_notice, arrived_walk}
use Rattle.bd_machine.specs.Registry.{device_named}
use Rattle.bd_machine.specs.Requests.{extents_of, pieces_made, cut_into, closed_with, pieces_closed}
use Rattle.bd_machine.specs.Threads.{is_nobody}
use Rattle.bd_machine.specs.View.{View, Came, Move, Change, id_of}
use Rattle.bd_machine.specs.Walks.{begin_walk_with, after_walk, walked, walked_if_any, is_at_end, staged, drain_threads, marked_by, visited, reset_of}
use Rattle.std.proofs.Common.{◌≡◌, ℕ, ◌+◌, Bool, true, false, cond, ◌&&◌, ◌==◌, List, [], ◌∷◌, ◌++◌, Option, Some, None, refl, sym, ◌∙◌, ap, subst}
use Rattle.std.proofs.lemmas.Bool.{and_parts, and_from}
use Rattle.bd_machine.specs.declared.state.Place.{Place}
use Rattle.bd_machine.specs.declared.state.Place.TheVariants.{At, Ring, Nowhere}
use Rattle.bd_machine.specs.declared.state.Tracked.{Tracked}
use Rattle.bd_machine.specs.Limits.{passed}
use Rattle.bd_machine.specs.Same.{same_dev, same_id}
use Rattle.bd_machine.specs.Step.{moved}
use Rattle.bd_machine.specs.Table.{look_up}
use Rattle.bd_machine.specs.Threads.{has, without}
use Rattle.bd_machine.specs.View.{here_of, kept_on, message_of, kept_in}
use Rattle.bd_machine.proofs.Laws.{tracked, found-moved}
use Rattle.bd_machine.proofs.Tables.{id_same}
use Rattle.bd_law_runs.proofs.Fields.{taken_before}
use Rattle.bd_law_runs.proofs.Names.{is_putter}
use Rattle.bd_law_runs.proofs.Threads.{without_less, without_not}

abbrev pub is_removal : WalkKind → Bool
is_removal Removal = true
is_removal _ = false

differ : {b : Bool} → b ≡ true → b ≡ false → ⊥
differ h k = let e : true ≡ false = sym h ∙ k in cc

module _ (setup : Setup) (t : ℕ) (d : DevId) where
  -- the walk still has the thread to visit, where that puts the device's channel
  abbrev pub is_carrier : OpenWalk → Bool
  is_carrier w = is_putter setup t d && (same_dev w.dev d && (is_removal w.kind && has w.left t))

  abbrev pub kept_carries : Kept → Bool
  kept_carries (keeps.Walk w) = is_carrier w
  kept_carries _ = false

  abbrev pub carries : Option Tracked → Bool
  carries None = false
  carries (Some token) = kept_carries token.kept

  -- what is kept of a token isn't such a walk, or this holds
  abbrev pub OnlyIf : Kept → Type 0 → Type 0
  OnlyIf (keeps.Walk w) P = is_carrier w ≡ true → P
  OnlyIf _ P = Unit {0}

  only_if : (kept : Kept) (P : Type 0) → (kept_carries kept ≡ true → P) → OnlyIf kept P
  only_if (keeps.Walk w) P h = h
  only_if (keeps.Request r) P h = tt
  only_if (keeps.Piece p) P h = tt
  only_if (keeps.Notice n) P h = tt

  if_only : (kept : Kept) (P : Type 0) → OnlyIf kept P → kept_carries kept ≡ true → P
  if_only (keeps.Walk w) P h e = h e
  if_only (keeps.Request r) P h e = cc
  if_only (keeps.Piece p) P h e = cc
  if_only (keeps.Notice n) P h e = cc

  -- a visit takes a thread out
  pub visited_less : (u : ℕ) (w : OpenWalk) → is_carrier (visited u w) ≡ true → is_carrier w ≡ true
  visited_less u w h =
      let p = and_parts (is_putter setup t d) (same_dev w.dev d && (is_removal w.kind && has (without w.left u) t)) h in
      let q = and_parts (same_dev w.dev d) (is_removal w.kind && has (without w.left u) t) p.1 in
      let r = and_parts (is_removal w.kind) (has (without w.left u) t) q.1 in
      and_from (is_putter setup t d) (same_dev w.dev d && (is_removal w.kind && has w.left t)) p.0
      (and_from (same_dev w.dev d) (is_removal w.kind && has w.left t) q.0 (and_from (is_removal w.kind) (has w.left t) r.0 (without_less w.left u t r.1)))

  pub visited_not : (w : OpenWalk) → is_carrier (visited t w) ≡ true → ⊥
  visited_not w h =
      let p = and_parts (is_putter setup t d) (same_dev w.dev d && (is_removal w.kind && has (without w.left t) t)) h in
      let q = and_parts (same_dev w.dev d) (is_removal w.kind && has (without w.left t) t) p.1 in
      let r = and_parts (is_removal w.kind) (has (without w.left t) t) q.1 in
      without_not w.left t r.1

  module _ (u : ℕ) (Old : Id → Type 0) where
    abbrev pub AreOld : List Move → Type 0
    AreOld ms = AllByRecursion (λ (m : Move). OnlyIf m.kept (Old m.id)) ms

    both_old : (xs ys : List Move) → AreOld xs → AreOld ys → AreOld (xs ++ ys)
    both_old [] ys h k = k
    both_old (x ∷ xs) ys h k = (h.0, both_old xs ys h.1 k)

    old_cond : (b : Bool) (c e : Change) → AreOld c.moves → AreOld e.moves → AreOld (cond b c e).moves
    old_cond true c e h k = h
    old_cond false c e h k = k

    edited_old : (req : ReqId) (g : OpenRequest → OpenRequest) (x : Option OpenRequest) → AreOld (edited req g x)
    edited_old req g None = tt
    edited_old req g (Some r) = (tt, tt)

    sent_old : (kept : Kept) (P : Type 0) → OnlyIf kept P → OnlyIf (sent kept) P
    sent_old (keeps.Request r) P h = tt
    sent_old (keeps.Piece p) P h = tt
    sent_old (keeps.Walk w) P h = h
    sent_old (keeps.Notice n) P h = tt

    put_old : (to number : ℕ) (id : Id) (x : Option Kept) → ((kept : Kept) → x ≡ Some kept → OnlyIf kept (Old id)) → AreOld (token_put to number id x)
    put_old to number id None h = tt
    put_old to number id (Some kept) h = (sent_old kept (Old id) (h kept refl), tt)

    news_old : (to number : ℕ) (x : Option News) → AreOld (news_put to number (Notice u to number) x)
    news_old to number None = tt
    news_old to number (Some n) = (tt, tt)

    not_removal : (kind : WalkKind) (a b c : Bool) → is_removal kind ≡ false → (a && (b && (is_removal kind && c))) ≡ true → ⊥
    not_removal kind a b c h e =
        let p = and_parts a (b && (is_removal kind && c)) e in
        let q = and_parts b (is_removal kind && c) p.1 in
        differ (and_parts (is_removal kind) c q.1).0 h

    begin_old : (kind : WalkKind) (dev : DevId) (threads : ThreadSet) (req : Option ReqId) (time : ℕ) (c : Change) → is_removal kind ≡ false → AreOld c.moves → AreOld (begin_walk_with u kind dev threads req time c).moves
    begin_old kind dev threads req time c k h =
        old_cond (is_nobody threads) _ _ h (both_old c.moves _ h ((λ e. absurd (not_removal kind (is_putter setup t d) (same_dev dev d) (has threads t) k e)), tt))

    after_old : (w : OpenWalk) (kind : WalkKind) (c : Change) → AreOld c.moves → AreOld (after_walk u w kind c).moves
    after_old w Freeze c h = begin_old Drain w.dev (drain_threads c.part w.request) w.request 0 (record { part = staged w.request stages.Draining c.part; moves = c.moves }) refl h
    after_old w Drain c h = h
    after_old w Thaw c h = h
    after_old w Removal c h = h

    walked_old : (walk : WalkId) (w : OpenWalk) (p : Part) → (is_carrier w ≡ true → Old (Walk walk)) → AreOld (walked u walk w p).moves
    walked_old walk w p h = old_cond (is_at_end u walk w) _ _ (after_old w w.kind _ (h, tt)) (h, tt)

    walked_if_old : (walk : WalkId) (p : Part) (x : Option OpenWalk) → ((w : OpenWalk) → x ≡ Some w → is_carrier (visited u w) ≡ true → Old (Walk walk)) → AreOld (walked_if_any u walk p x).moves
    walked_if_old walk p None h = tt
    walked_if_old walk p (Some w) h = walked_old walk (visited u w) p (h w refl)

    went_old : (req : ReqId) (threads : ThreadSet) (x : Option Resetting) (c : Change) → AreOld c.moves → AreOld (went u req threads x c).moves
    went_old req threads None c h = h
    went_old req threads (Some r) c h = begin_old Freeze r.dev threads (Some req) r.time (record { part = freezes req threads c.part; moves = c.moves }) refl h

    told_old : (told : News) (c : Change) → AreOld c.moves → AreOld (told_walk u told c).moves
    told_old (news.Go req threads) c h = went_old req threads (reset_of c.part req) c h
    told_old (news.Mark mark) c h = h
    told_old (news.Gone handle) c h = h
    told_old (news.Channel dev) c h = h
    told_old (news.Device dev) c h = h
    told_old (news.Grow dev blocks) c h = h
    told_old (news.Sized handle blocks) c h = h

    notice_old : (id : Id) (told : News) (p : Part) → AreOld (told_walk u told (record { part = told_part setup told p; moves = closed_notice id told })).moves
    notice_old id told p = told_old told (record { part = told_part setup told p; moves = closed_notice id told }) (tt, tt)

    taken_old : (source number : ℕ) (what : Token) (p : Part) (x : Option Kept) → ((kept : Kept) → x ≡ Some kept → OnlyIf kept (Old (id_of source u number what))) → AreOld (taken_by setup u what p x (id_of source u number what)).moves
    taken_old source number what p None h = none what
      where
        none : (what : Token) → AreOld (taken_by setup u what p None (id_of source u number what)).moves
        none (tokens.Request req) = tt
        none _ = tt
    taken_old source number (tokens.Request req) p (Some (keeps.Request r)) h = (tt, tt)
    taken_old source number (tokens.Request req) p (Some (keeps.Notice told)) h = notice_old (id_of source u number (tokens.Request req)) told p
    taken_old source number (tokens.Piece req k) p (Some (keeps.Piece q)) h = (tt, tt)
    taken_old source number (tokens.Walk walk) p (Some (keeps.Walk w)) h = walked_old walk (arrived_walk w) p (h (keeps.Walk w) refl)
    taken_old source number what p (Some (keeps.Notice told)) h = notice_old (id_of source u number what) told p
    taken_old source number _ p _ h = tt

    begun_old : (dev : DevId) (req : ReqId) (a : Answer) (p : Part) → AreOld (reset_begun u dev req a p).moves
    begun_old dev req (answers.ResetStarted threads) p = begin_old Freeze dev threads (Some req) (drain_time p req) (alone (with_reset req dev stages.Freezing threads p)) refl tt
    begun_old dev req _ p = tt

    thaws_old : (dev : DevId) (a : Answer) (p : Part) → AreOld (reset_thaws u dev a p).moves
    thaws_old dev (answers.ResetEnded threads) p = begin_old Thaw dev threads (first_req p.resets dev stages.Drained) 0 (alone (advanced dev stages.Drained stages.Thawing p)) refl tt
    thaws_old dev _ p = tt

    -- a removal that begins
    abbrev pub BeginsOld : Act → View → Came → Type 0
    BeginsOld (acts.Reg (events.BeginRemove name) (answers.Removing dev threads handles destruct)) v came =
        (is_putter setup t d && same_dev dev d) ≡ true → Old (Walk (record { thread = u; seq = (removal_paid came (answers.Removing dev threads handles destruct) (device_named setup name) v.part).next_walk }))
    BeginsOld _ v came = Unit {0}

    removing_old : (v : View) (came : Came) (name : List ℕ) (a : Answer) → BeginsOld (acts.Reg (events.BeginRemove name) a) v came → AreOld (removing setup u a (removal_paid came a (device_named setup name) v.part)).moves
    removing_old v came name (answers.Removing dev threads handles destruct) h = old_cond (is_nobody threads) _ _ tt ((λ e. h (go e)), tt)
      where
        go : (is_putter setup t d && (same_dev dev d && (true && has threads t))) ≡ true → (is_putter setup t d && same_dev dev d) ≡ true
        go e =
            let p = and_parts (is_putter setup t d) (same_dev dev d && (true && has threads t)) e in
            and_from (is_putter setup t d) (same_dev dev d) p.0 (and_parts (same_dev dev d) (true && has threads t) p.1).0
    removing_old v came name _ h = tt

    injection_old : (v : View) (req : ReqId) (a : Answer) → AreOld (injection_taken v req a).moves
    injection_old v req (answers.Injected decision) = edited_old req asked_once_more (request_here v req)
    injection_old v req _ = tt

    reg_old : (v : View) (came : Came) (event : RegEvent) (a : Answer) → BeginsOld (acts.Reg event a) v came → AreOld (change_reg setup u v came event a).moves
    reg_old v came (events.BeginRemove name) a h = removing_old v came name a h
    reg_old v came (events.BeginReset dev req) a h = begun_old dev req a v.part
    reg_old v came (events.EndReset dev) a h = thaws_old dev a v.part
    reg_old v came (events.TakeInjection dev req op) a h = injection_old v req a
    reg_old v came _ a h = tt

    made_old : (req : ReqId) (r : OpenRequest) (k : ℕ) (xs : List Extent) → AreOld (pieces_made setup req r k xs)
    made_old req r k [] = tt
    made_old req r k (x ∷ xs) = (tt, made_old req r (k + 1) xs)

    cut_old : (req : ReqId) (n : ℕ) (x : Option OpenRequest) → AreOld (cut_into setup req n x)
    cut_old req n None = tt
    cut_old req n (Some r) = (tt, made_old req r 0 (extents_of setup r))

    pieces_old : (req : ReqId) (k : ℕ) (ps : List (Option OpenPiece)) → AreOld (pieces_closed req k ps)
    pieces_old req k [] = tt
    pieces_old req k (None ∷ ps) = pieces_old req (k + 1) ps
    pieces_old req k (Some p ∷ ps) = (tt, pieces_old req (k + 1) ps)

    closed_old : (v : View) (req : ReqId) (x : Option OpenRequest) → AreOld (closed_with v req x)
    closed_old v req None = tt
    closed_old v req (Some r) = (tt, pieces_old req 0 (pieces_of v req r))

    applied_old : (v : View) (req : ReqId) (k : ℕ) (dev : DevId) (end : ApplyEnd) (size : ℕ) (x : Option OpenPiece) (b : Option Base) → AreOld (change_applied v req k dev end size x b).moves
    applied_old v req k dev end size (Some p) (Some b) = (tt, tt)
    applied_old v req k dev end size _ _ = tt

    refused_old : (req : ReqId) (k : ℕ) (x : Option OpenPiece) → AreOld (piece_edited req k refused x)
    refused_old req k None = tt
    refused_old req k (Some p) = (tt, tt)

    -- what is known of the tokens here, of the message taken, and of a removal that begins
    pub record KnowsOld (v : View) (act : Act) (came : Came) : Type 0 where
      pub here : (id : Id) (kept : Kept) → v.here id ≡ Some kept → OnlyIf kept (Old id)
      pub brought : (source number : ℕ) (what : Token) (kept : Kept) → act ≡ acts.Took source number what → came.message ≡ Some kept → OnlyIf kept (Old (id_of source u number what))
      pub begins : BeginsOld act v came

    walk_is : (o : Option Kept) (w : OpenWalk) → as_walk o ≡ Some w → o ≡ Some (keeps.Walk w)
    walk_is None w h = cc
    walk_is (Some (keeps.Walk x)) w h = let same : x ≡ w = cc in ap (λ (y : OpenWalk). Some (keeps.Walk y)) same
    walk_is (Some (keeps.Request r)) w h = cc
    walk_is (Some (keeps.Piece p)) w h = cc
    walk_is (Some (keeps.Notice n)) w h = cc

    pub moves_old : (v : View) (act : Act) (came : Came) → KnowsOld v act came → AreOld (change setup u v act came).moves
    moves_old v act came h = go act h.brought h.begins
      where
        go : (act : Act) → ((source number : ℕ) (what : Token) (kept : Kept) → act ≡ acts.Took source number what → came.message ≡ Some kept → OnlyIf kept (Old (id_of source u number what))) → BeginsOld act v came → AreOld (change setup u v act came).moves
        go (acts.Accept dev lba handle req op count) b x = (tt, tt)
        go (acts.Put to number (tokens.Request req)) b x = put_old to number (Request req) (v.here (Request req)) (h.here (Request req))
        go (acts.Put to number (tokens.Piece req k)) b x = put_old to number (Piece req k) (v.here (Piece req k)) (h.here (Piece req k))
        go (acts.Put to number (tokens.Walk walk)) b x = put_old to number (Walk walk) (v.here (Walk walk)) (h.here (Walk walk))
        go (acts.Put to number what) b x = news_old to number (news_of what)
        go (acts.Took source number what) b x = taken_old source number what (taken_before v.part source number) came.message (λ kept e. b source number what kept refl e)
        go (acts.Reg event a) b x = reg_old v came event a x
        go (acts.Inject req dev decision) b x = edited_old req (injected decision) (request_here v req)
        go (acts.Pend req) b x = edited_old req pended (request_here v req)
        go (acts.Let req dev now) b x = edited_old req passed (request_here v req)
        go (acts.Hold req until) b x = edited_old req (held setup v.part until) (request_here v req)
        go (acts.Release req now) b x = edited_old req released (request_here v req)
        go (acts.Abort req cause) b x = edited_old req (aborted cause) (request_here v req)
        go (acts.Cut req n) b x = cut_old req n (request_here v req)
        go (acts.Apply req k dev end) b x = applied_old v req k dev end (size_of setup dev) (piece_here v req k) (base_here v dev)
        go (acts.NoMem req k dev) b x = refused_old req k (piece_here v req k)
        go (acts.Complete req status shown) b x = closed_old v req (request_here v req)
        go (acts.Visit walk dev kind) b x =
            walked_if_old walk (marked_by setup u v walk dev kind) (walk_here v walk) (λ w e c. h.here (Walk walk) (keeps.Walk w) (walk_is (v.here (Walk walk)) w e) (visited_less u w c))
        go _ b x = tt

    -- a token that carries after the moves is an old one
    pub carries_after : (ms : List Move) (ts : List (Id × Tracked)) → ((id : Id) → carries (look_up same_id ts id) ≡ true → Old id) → AreOld ms → (id : Id) → carries (look_up same_id (moved u ms ts) id) ≡ true → Old id
    carries_after [] ts h a = h
    carries_after (m ∷ ms) ts h a = carries_after ms (moved u (m ∷ []) ts) one a.1
      where
        go : (id : Id) (b : Bool) → same_id m.id id ≡ b → carries (cond b (Some (tracked u m)) (look_up same_id ts id)) ≡ true → Old id
        go id true e c = subst Old (id_same.exact m.id id e) (if_only m.kept (Old m.id) a.0 c)
        go id false e c = h id c

        one : (id : Id) → carries (look_up same_id (moved u (m ∷ []) ts) id) ≡ true → Old id
        one id c = go id (same_id m.id id) refl (subst (λ (o : Option Tracked). carries o ≡ true) (found-moved u m ts id) c)

  -- ---- what is here, and what a message brings

  pub here_only : (u : ℕ) (o : Option Tracked) (kept : Kept) (P : Type 0) → here_of u o ≡ Some kept → (carries o ≡ true → P) → OnlyIf kept P
  here_only u None kept P e h = cc
  here_only u (Some token) kept P e h = go token.place e
    where
      at : (b : Bool) → cond b (Some token.kept) None ≡ Some kept → OnlyIf kept P
      at true e = let same : token.kept ≡ kept = cc in subst (λ (k : Kept). OnlyIf k P) same (only_if token.kept P h)
      at false e = cc

      go : (p : Place) → kept_on u p token.kept ≡ Some kept → OnlyIf kept P
      go (At w) e = at (w == u) e
      go (Ring a b n) e = cc
      go Nowhere e = cc

  pub message_only : (a u n : ℕ) (o : Option Tracked) (kept : Kept) (P : Type 0) → message_of a u n o ≡ Some kept → (carries o ≡ true → P) → OnlyIf kept P
  message_only a u n None kept P e h = cc
  message_only a u n (Some token) kept P e h = go token.place e
    where
      at : (b : Bool) → cond b (Some token.kept) None ≡ Some kept → OnlyIf kept P
      at true e = let same : token.kept ≡ kept = cc in subst (λ (k : Kept). OnlyIf k P) same (only_if token.kept P h)
      at false e = cc

      go : (p : Place) → kept_in a u n p token.kept ≡ Some kept → OnlyIf kept P
      go (At w) e = cc
      go (Ring i j m) e = at ((i == a) && ((j == u) && (m == n))) e
      go Nowhere e = cc
