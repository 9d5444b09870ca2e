-- A reset's request is neither cut nor aborted nor failed: it completes once its row is finished.
use Rattle.std.proofs.Common.{◌≡◌, ℕ, ◌+◌, ◌==◌, Bool, true, false, cond, not, ◌&&◌, ◌||◌, ◌⊎◌, inl, inr, List, [], ◌∷◌, ◌++◌, Option, Some, None, is_none, is_some, unwrap_or, refl, sym, ◌∙◌, ap, subst}
use Rattle.std.specs.Prelude.{slice_get}
use Rattle.std.specs.List.{AllByRecursion, list_any}
use Rattle.std.proofs.lemmas.Bool.{and_parts, cases_eq}
use Rattle.bd_base.specs.declared.act.Act.{Act}
use Rattle.bd_base.specs.declared.act.Act.TheVariants as acts
use Rattle.bd_base.specs.declared.act.ApplyEnd.{ApplyEnd}
use Rattle.bd_base.specs.declared.act.Entry.{Entry}
use Rattle.bd_base.specs.declared.act.Token.{Token}
use Rattle.bd_base.specs.declared.act.Token.TheVariants as tokens
use Rattle.bd_base.specs.declared.event.Answer.{Answer}
use Rattle.bd_base.specs.declared.event.Answer.TheVariants as answers
use Rattle.bd_base.specs.declared.event.RegEvent.{RegEvent}
use Rattle.bd_base.specs.declared.event.RegEvent.TheVariants as events
use Rattle.bd_base.specs.declared.id.DevId.{DevId}
use Rattle.bd_base.specs.declared.id.ReqId.{ReqId}
use Rattle.bd_base.specs.declared.id.WalkId.{WalkId}
use Rattle.bd_base.specs.declared.request.Decision.{Decision}
use Rattle.bd_base.specs.declared.request.Op.{Op}
use Rattle.bd_base.specs.declared.request.Op.TheVariants as ops
use Rattle.bd_base.specs.declared.request.Shown.{Shown}
use Rattle.bd_base.specs.declared.request.Status.{Status}
use Rattle.bd_base.specs.declared.request.Status.TheVariants.{Success, Failed, Aborted}
use Rattle.bd_base.specs.declared.request.WalkKind.{WalkKind}
use Rattle.bd_base.specs.declared.request.WalkKind.TheVariants.{Freeze, Drain, Thaw, Removal}
use Rattle.bd_base.specs.declared.setup.Setup.{Setup}
use Rattle.bd_base.specs.declared.thread_set.ThreadSet.{ThreadSet}
use Rattle.bd_machine.specs.declared.state.Base.{Base}
use Rattle.bd_machine.specs.declared.state.Between.{Between}
use Rattle.bd_machine.specs.declared.state.Between.TheVariants.{Opening, Closing}
use Rattle.bd_machine.specs.declared.state.Extent.{Extent}
use Rattle.bd_machine.specs.declared.state.Id.{Id}
use Rattle.bd_machine.specs.declared.state.Id.TheVariants.{Request, Piece, Walk, Notice}
use Rattle.bd_machine.specs.declared.state.Kept.{Kept}
use Rattle.bd_machine.specs.declared.state.Kept.TheVariants as keeps
use Rattle.bd_machine.specs.declared.state.News.{News}
use Rattle.bd_machine.specs.declared.state.News.TheVariants as news
use Rattle.bd_machine.specs.declared.state.OpenPiece.{OpenPiece}
use Rattle.bd_machine.specs.declared.state.OpenRequest.{OpenRequest}
use Rattle.bd_machine.specs.declared.state.OpenWalk.{OpenWalk}
use Rattle.bd_machine.specs.declared.state.Part.{Part}
use Rattle.bd_machine.specs.declared.state.Place.{Place}
use Rattle.bd_machine.specs.declared.state.Place.TheVariants.{At, Ring, Nowhere}
use Rattle.bd_machine.specs.declared.state.Resetting.{Resetting}
use Rattle.bd_machine.specs.declared.state.Stage.TheVariants as stages
use Rattle.bd_machine.specs.declared.state.State.{State}
use Rattle.bd_machine.specs.declared.state.Prior.{Prior}
use Rattle.bd_machine.specs.declared.state.Prior.TheVariants.{Injection, Softening, Growth}
use Rattle.bd_machine.specs.declared.state.Tracked.{Tracked}
use Rattle.bd_machine.specs.Aborts.{aborted, is_stoppable, may_abort}
use Rattle.bd_machine.specs.Admission.{has_range}
use Rattle.bd_machine.specs.Asked.{asks_between}
use Rattle.bd_machine.specs.BlockMap.{size_of}
use Rattle.bd_machine.specs.Completion.{pieces_of, is_faulted}
use Rattle.bd_machine.specs.Delays.{held, released}
use Rattle.bd_machine.specs.Events.{alone, with_due, removal_paid, removing, reset_begun, reset_thaws, injection_taken, with_reset, advanced, first_req, drain_time, change_reg}
use Rattle.bd_machine.specs.Guards.{guards, change, prior_by, softens}
use Rattle.bd_machine.specs.Homes.{base_here, change_applied, piece_edited, refused}
use Rattle.bd_machine.specs.Injections.{injected, pended, asked_once_more, is_fail, is_taken, is_under_way, goes_on, has_every_decision, asks_injection, errors_below}
use Rattle.bd_machine.specs.Kept.{pieces_here, request_here, piece_here, walk_here, edited, is_at_own}
use Rattle.bd_machine.specs.Limits.{passed as let_pass, next_limited}
use Rattle.bd_machine.specs.Marks.{is_marked}
use Rattle.bd_machine.specs.Messages.{sent, token_put, news_put, news_of, taken_by, told_part, told_walk, went, freezes, closed_notice, arrived_walk}
use Rattle.bd_machine.specs.Registry.{device_named}
use Rattle.bd_machine.specs.Requests.{may_cut, may_complete, is_status_due, extents_of, pieces_made, cut_into, closed_with, pieces_closed}
use Rattle.bd_machine.specs.Same.{is_the, same_dev, same_decision, same_id, same_op, same_request}
use Rattle.bd_machine.specs.Statuses.{is_failed, is_finished, is_status, is_delay_left, is_success_due}
use Rattle.bd_machine.specs.Step.{guards_in, change_in, refusal, moved, after}
use Rattle.bd_machine.specs.Table.{look_up}
use Rattle.bd_machine.specs.Threads.{is_nobody}
use Rattle.bd_machine.specs.View.{View, Came, Move, Change, view, here_of, kept_on, part_of, message_of, kept_in, came_for, id_of}
use Rattle.bd_machine.specs.Walks.{is_reset, begin_walk_with, after_walk, walked, walked_if_any, is_at_end, staged, drain_threads, marked_by, visited, reset_of}
use Rattle.bd_machine.proofs.Acts.{Passes, passed, IsFresh}
use Rattle.bd_machine.proofs.Laws.{tracked, found-moved}
use Rattle.bd_machine.proofs.Steps.{allowed_passes, part_is, part_stays}
use Rattle.bd_machine.proofs.Tables.{id_same, request_same}
use Rattle.bd_law_runs.proofs.Fields.{taken_before}
use Rattle.bd_law_runs.proofs.Ledger.{tokens_after_is}
use Rattle.bd_law_runs.proofs.Moves.{request_is}

-- what is kept of a reset
abbrev pub IsBare : OpenRequest → Type 0
IsBare r = (is_reset r.op ≡ true) × (r.aborted ≡ None) × (r.pieces ≡ None) × (is_fail r.injected.last ≡ false)

abbrev pub KeptBare : Kept → Type 0
KeptBare (keeps.Request r) = IsBare r
KeptBare _ = Unit {0}

no_range : (op : Op) → is_reset op ≡ true → has_range op ≡ true → ⊥
no_range (ops.Reset time) h k = cc
no_range ops.Read h k = cc
no_range (ops.Write fill) h k = cc
no_range ops.Zeroes h k = cc
no_range ops.Unmap h k = cc
no_range ops.Flush h k = cc
no_range (ops.Abort seq) h k = cc

module _ (reset : ReqId) where
  -- a move of the reset leaves it bare
  abbrev BareMove : Id → Kept → Type 0
  BareMove (Request r) kept = r ≡ reset → KeptBare kept
  BareMove _ kept = Unit {0}

  abbrev BareMoves : List Move → Type 0
  BareMoves ms = AllByRecursion (λ (m : Move). BareMove m.id m.kept) ms

  both_bare : (xs ys : List Move) → BareMoves xs → BareMoves ys → BareMoves (xs ++ ys)
  both_bare [] ys h k = k
  both_bare (x ∷ xs) ys h k = (h.0, both_bare xs ys h.1 k)

  bare_cond : (b : Bool) (c d : Change) → BareMoves c.moves → BareMoves d.moves → BareMoves (cond b c d).moves
  bare_cond true c d h k = h
  bare_cond false c d h k = k

  edited_bare : (req : ReqId) (g : OpenRequest → OpenRequest) (x : Option OpenRequest) → ((r : OpenRequest) → x ≡ Some r → req ≡ reset → IsBare (g r)) → BareMoves (edited req g x)
  edited_bare req g None h = tt
  edited_bare req g (Some r) h = (h r refl, tt)

  sent_bare : (kept : Kept) → KeptBare kept → KeptBare (sent kept)
  sent_bare (keeps.Request r) h = h
  sent_bare (keeps.Piece p) h = tt
  sent_bare (keeps.Walk w) h = tt
  sent_bare (keeps.Notice n) h = tt

  put_bare : (to number : ℕ) (req : ReqId) (x : Option Kept) → ((kept : Kept) → x ≡ Some kept → req ≡ reset → KeptBare kept) → BareMoves (token_put to number (Request req) x)
  put_bare to number req None h = tt
  put_bare to number req (Some kept) h = ((λ o. sent_bare kept (h kept refl o)), tt)

  piece_bare : (to number : ℕ) (req : ReqId) (k : ℕ) (x : Option Kept) → BareMoves (token_put to number (Piece req k) x)
  piece_bare to number req k None = tt
  piece_bare to number req k (Some kept) = (tt, tt)

  walk_bare : (to number : ℕ) (w : WalkId) (x : Option Kept) → BareMoves (token_put to number (Walk w) x)
  walk_bare to number w None = tt
  walk_bare to number w (Some kept) = (tt, tt)

  news_bare : (t to number : ℕ) (x : Option News) → BareMoves (news_put to number (Notice t to number) x)
  news_bare t to number None = tt
  news_bare t to number (Some n) = (tt, tt)

  begin_bare : (t : ℕ) (kind : WalkKind) (dev : DevId) (threads : ThreadSet) (req : Option ReqId) (time : ℕ) (c : Change) → BareMoves c.moves → BareMoves (begin_walk_with t kind dev threads req time c).moves
  begin_bare t kind dev threads req time c h = bare_cond (is_nobody threads) _ _ h (both_bare c.moves _ h (tt, tt))

  after_bare : (t : ℕ) (w : OpenWalk) (kind : WalkKind) (c : Change) → BareMoves c.moves → BareMoves (after_walk t w kind c).moves
  after_bare t w Freeze c h = begin_bare t Drain w.dev (drain_threads c.part w.request) w.request 0 (record { part = staged w.request stages.Draining c.part; moves = c.moves }) h
  after_bare t w Drain c h = h
  after_bare t w Thaw c h = h
  after_bare t w Removal c h = h

  walked_bare : (t : ℕ) (walk : WalkId) (w : OpenWalk) (p : Part) → BareMoves (walked t walk w p).moves
  walked_bare t walk w p = bare_cond (is_at_end t walk w) _ _ (after_bare t w w.kind _ (tt, tt)) (tt, tt)

  walked_if_bare : (t : ℕ) (walk : WalkId) (p : Part) (x : Option OpenWalk) → BareMoves (walked_if_any t walk p x).moves
  walked_if_bare t walk p None = tt
  walked_if_bare t walk p (Some w) = walked_bare t walk (visited t w) p

  went_bare : (t : ℕ) (req : ReqId) (threads : ThreadSet) (x : Option Resetting) (c : Change) → BareMoves c.moves → BareMoves (went t req threads x c).moves
  went_bare t req threads None c h = h
  went_bare t req threads (Some r) c h = begin_bare t Freeze r.dev threads (Some req) r.time (record { part = freezes req threads c.part; moves = c.moves }) h

  told_bare : (t : ℕ) (told : News) (c : Change) → BareMoves c.moves → BareMoves (told_walk t told c).moves
  told_bare t (news.Go req threads) c h = went_bare t req threads (reset_of c.part req) c h
  told_bare t (news.Mark mark) c h = h
  told_bare t (news.Gone handle) c h = h
  told_bare t (news.Channel dev) c h = h
  told_bare t (news.Device dev) c h = h
  told_bare t (news.Grow dev blocks) c h = h
  told_bare t (news.Sized handle blocks) c h = h

  abbrev Brings : Token → Option Kept → Type 0
  Brings (tokens.Request req) x = (kept : Kept) → x ≡ Some kept → req ≡ reset → KeptBare kept
  Brings _ x = Unit {0}

  notice_bare : (setup : Setup) (t source number : ℕ) (what : Token) (told : News) (p : Part) → BareMove (id_of source t number what) (keeps.Notice told) → BareMoves (told_walk t told (record { part = told_part setup told p; moves = closed_notice (id_of source t number what) told })).moves
  notice_bare setup t source number what told p h = told_bare t told (record { part = told_part setup told p; moves = closed_notice (id_of source t number what) told }) (h, tt)

  taken_bare : (setup : Setup) (t source number : ℕ) (what : Token) (p : Part) (x : Option Kept) → Brings what x → BareMoves (taken_by setup t what p x (id_of source t number what)).moves
  taken_bare setup t source number what p None h = none what
    where
      none : (what : Token) → BareMoves (taken_by setup t what p None (id_of source t number what)).moves
      none (tokens.Request req) = tt
      none _ = tt
  taken_bare setup t source number (tokens.Request req) p (Some (keeps.Request r)) h = (h (keeps.Request r) refl, tt)
  taken_bare setup t source number (tokens.Request req) p (Some (keeps.Notice told)) h = notice_bare setup t source number (tokens.Request req) told p (λ o. tt)
  taken_bare setup t source number (tokens.Piece req k) p (Some (keeps.Piece q)) h = (tt, tt)
  taken_bare setup t source number (tokens.Walk walk) p (Some (keeps.Walk w)) h = walked_bare t walk (arrived_walk w) p
  taken_bare setup t source number (tokens.Piece req k) p (Some (keeps.Notice told)) h = notice_bare setup t source number (tokens.Piece req k) told p tt
  taken_bare setup t source number (tokens.Walk walk) p (Some (keeps.Notice told)) h = notice_bare setup t source number (tokens.Walk walk) told p tt
  taken_bare setup t source number what p (Some (keeps.Notice told)) h = notice_bare setup t source number what told p tt
  taken_bare setup t source number _ p _ h = tt

  removing_bare : (setup : Setup) (t : ℕ) (a : Answer) (p : Part) → BareMoves (removing setup t a p).moves
  removing_bare setup t (answers.Removing dev threads handles destruct) p = begin_bare t Removal dev threads None 0 (alone (with_due _ p)) tt
  removing_bare setup t _ p = tt

  begun_bare : (t : ℕ) (dev : DevId) (req : ReqId) (a : Answer) (p : Part) → BareMoves (reset_begun t dev req a p).moves
  begun_bare t dev req (answers.ResetStarted threads) p = begin_bare t Freeze dev threads (Some req) (drain_time p req) (alone (with_reset req dev stages.Freezing threads p)) tt
  begun_bare t dev req _ p = tt

  thaws_bare : (t : ℕ) (dev : DevId) (a : Answer) (p : Part) → BareMoves (reset_thaws t dev a p).moves
  thaws_bare t dev (answers.ResetEnded threads) p = begin_bare t Thaw dev threads (first_req p.resets dev stages.Drained) 0 (alone (advanced dev stages.Drained stages.Thawing p)) tt
  thaws_bare t dev _ p = tt

  injection_bare : (v : View) (req : ReqId) (a : Answer) → ((r : OpenRequest) → request_here v req ≡ Some r → req ≡ reset → IsBare r) → BareMoves (injection_taken v req a).moves
  injection_bare v req (answers.Injected decision) h = edited_bare req asked_once_more (request_here v req) h
  injection_bare v req _ h = tt

  reg_bare : (setup : Setup) (t : ℕ) (v : View) (came : Came) (event : RegEvent) (a : Answer) → ((req : ReqId) (r : OpenRequest) → request_here v req ≡ Some r → req ≡ reset → IsBare r) → BareMoves (change_reg setup t v came event a).moves
  reg_bare setup t v came (events.BeginRemove name) a h = removing_bare setup t a (removal_paid came a (device_named setup name) v.part)
  reg_bare setup t v came (events.BeginReset dev req) a h = begun_bare t dev req a v.part
  reg_bare setup t v came (events.EndReset dev) a h = thaws_bare t dev a v.part
  reg_bare setup t v came (events.TakeInjection dev req op) a h = injection_bare v req a (h req)
  reg_bare setup t v came _ a h = tt

  made_bare : (setup : Setup) (req : ReqId) (r : OpenRequest) (k : ℕ) (xs : List Extent) → BareMoves (pieces_made setup req r k xs)
  made_bare setup req r k [] = tt
  made_bare setup req r k (x ∷ xs) = (tt, made_bare setup req r (k + 1) xs)

  pieces_bare : (req : ReqId) (k : ℕ) (ps : List (Option OpenPiece)) → BareMoves (pieces_closed req k ps)
  pieces_bare req k [] = tt
  pieces_bare req k (None ∷ ps) = pieces_bare req (k + 1) ps
  pieces_bare req k (Some p ∷ ps) = (tt, pieces_bare req (k + 1) ps)

  closed_bare : (v : View) (req : ReqId) (x : Option OpenRequest) → ((r : OpenRequest) → x ≡ Some r → req ≡ reset → IsBare r) → BareMoves (closed_with v req x)
  closed_bare v req None h = tt
  closed_bare v req (Some r) h = (h r refl, pieces_bare req 0 (pieces_of v req r))

  applied_bare : (v : View) (req : ReqId) (k : ℕ) (dev : DevId) (end : ApplyEnd) (size : ℕ) (x : Option OpenPiece) (b : Option Base) → BareMoves (change_applied v req k dev end size x b).moves
  applied_bare v req k dev end size (Some p) (Some b) = (tt, tt)
  applied_bare v req k dev end size _ _ = tt

  refused_bare : (req : ReqId) (k : ℕ) (x : Option OpenPiece) → BareMoves (piece_edited req k refused x)
  refused_bare req k None = tt
  refused_bare req k (Some p) = (tt, tt)

  -- ---- one act

  -- no decision was taken for the reset
  abbrev pub NotTaken : Option Prior → Type 0
  NotTaken (Some (Injection taken)) = taken.req ≡ reset → ⊥
  NotTaken _ = Unit {0}

  -- what is accepted under the reset's id is a reset
  abbrev pub AcceptsReset : Act → Type 0
  AcceptsReset (acts.Accept dev lba handle req op count) = req ≡ reset → is_reset op ≡ true
  AcceptsReset _ = Unit {0}

  module _ (setup : Setup) (t : ℕ) (v : View) (came : Came) where
    under_way : (req : ReqId) (r : OpenRequest) → is_under_way setup t v req r ≡ true → has_range r.op ≡ true
    under_way req r h =
        (and_parts (is_at_own t req r) (has_range r.op)
        (and_parts (is_at_own t req r && has_range r.op) (is_none r.pieces)
        (and_parts (is_at_own t req r && has_range r.op && is_none r.pieces) (is_none r.aborted)
        (and_parts (is_at_own t req r && has_range r.op && is_none r.pieces && is_none r.aborted) (not (is_marked setup v.part r))
        (and_parts (is_at_own t req r && has_range r.op && is_none r.pieces && is_none r.aborted && not (is_marked setup v.part r)) (is_none (next_limited setup r))
        (and_parts (is_at_own t req r && has_range r.op && is_none r.pieces && is_none r.aborted && not (is_marked setup v.part r) && is_none (next_limited setup r)) (goes_on r.injected.last) h).0).0).0).0).0).1

    cut_ranged : (req : ReqId) (x : Option OpenRequest) → may_cut setup t v req x ≡ true → (r : OpenRequest) → x ≡ Some r → has_range r.op ≡ true
    cut_ranged req None h r e = cc
    cut_ranged req (Some q) h r e = let same : q ≡ r = cc in subst (λ (y : OpenRequest). has_range y.op ≡ true) same (under_way req q (and_parts (is_under_way setup t v req q) (has_every_decision setup q) h).0)

    abort_ranged : (req : ReqId) (x : Option OpenRequest) → may_abort v req x ≡ true → (r : OpenRequest) → x ≡ Some r → has_range r.op ≡ true
    abort_ranged req None h r e = cc
    abort_ranged req (Some q) h r e =
        let same : q ≡ r = cc in
        subst (λ (y : OpenRequest). has_range y.op ≡ true) same
        (and_parts (has_range q.op) (is_none q.aborted) (and_parts (has_range q.op && is_none q.aborted) (not (is_fail q.injected.last)) (and_parts (has_range q.op && is_none q.aborted && not (is_fail q.injected.last)) (is_stoppable v req q) h).0).0).0

    asked_ranged : (dev : DevId) (req : ReqId) (op : Op) (x : Option OpenRequest) → asks_injection setup t v dev req op x ≡ true → (r : OpenRequest) × ((x ≡ Some r) × (has_range r.op ≡ true))
    asked_ranged dev req op None h = cc
    asked_ranged dev req op (Some q) h = (
      q,
      (
        refl,
        under_way req q
            (and_parts (is_under_way setup t v req q) (same_op q.op op)
            (and_parts (is_under_way setup t v req q && same_op q.op op) (q.injected.asked == q.injected.count)
            (and_parts (is_under_way setup t v req q && same_op q.op op && (q.injected.asked == q.injected.count)) (is_the same_dev dev (slice_get (errors_below setup q.dev) q.injected.count)) h).0).0).0,
      ),
    )

    -- what is here and what the message brings is bare
    record Bares (act : Act) : Type 0 where
      here : (kept : Kept) → v.here (Request reset) ≡ Some kept → KeptBare kept
      brought : (source number : ℕ) (kept : Kept) → act ≡ acts.Took source number (tokens.Request reset) → came.message ≡ Some kept → KeptBare kept
      taken : NotTaken v.part.prior
      accepts : AcceptsReset act
      passes : Passes (guards setup t v act came)

    moves_bare : (act : Act) → Bares act → BareMoves (change setup t v act came).moves
    moves_bare act b = go act b.brought b.accepts b.passes
      where
        kept_here : (req : ReqId) (kept : Kept) → v.here (Request req) ≡ Some kept → req ≡ reset → KeptBare kept
        kept_here req kept e o = b.here kept (subst (λ (q : ReqId). v.here (Request q) ≡ Some kept) o e)

        here : (req : ReqId) (r : OpenRequest) → request_here v req ≡ Some r → req ≡ reset → IsBare r
        here req r e o = kept_here req (keeps.Request r) (request_is (v.here (Request req)) r e) o

        not_taken : (req : ReqId) (dev : DevId) (decision : Decision) (x : Option Prior) → NotTaken x → is_taken req dev decision x ≡ true → req ≡ reset → ⊥
        not_taken req dev decision None n h o = cc
        not_taken req dev decision (Some (Softening walk d)) n h o = cc
        not_taken req dev decision (Some (Growth d)) n h o = cc
        not_taken req dev decision (Some (Injection x)) n h o =
            let p = and_parts (same_request x.req req) (same_dev x.dev dev) (and_parts (same_request x.req req && same_dev x.dev dev) (same_decision x.decision decision) h).0 in
            n (request_same.exact x.req req p.0 ∙ o)

        cut_bare : (req : ReqId) (n : ℕ) (x : Option OpenRequest) → request_here v req ≡ x → ((r : OpenRequest) → x ≡ Some r → has_range r.op ≡ true) → BareMoves (cut_into setup req n x)
        cut_bare req n None e h = tt
        cut_bare req n (Some r) e h = ((λ o. absurd (no_range r.op (here req r e o).0 (h r refl))), made_bare setup req r 0 (extents_of setup r))

        go : (act : Act) → ((source number : ℕ) (kept : Kept) → act ≡ acts.Took source number (tokens.Request reset) → came.message ≡ Some kept → KeptBare kept) → AcceptsReset act → Passes (guards setup t v act came) → BareMoves (change setup t v act came).moves
        go (acts.Accept dev lba handle req op count) m a h = ((λ o. (a o, refl, refl, refl)), tt)
        go (acts.Put to number (tokens.Request req)) m a h = put_bare to number req (v.here (Request req)) (kept_here req)
        go (acts.Put to number (tokens.Piece req k)) m a h = piece_bare to number req k (v.here (Piece req k))
        go (acts.Put to number (tokens.Walk walk)) m a h = walk_bare to number walk (v.here (Walk walk))
        go (acts.Put to number what) m a h = news_bare t to number (news_of what)
        go (acts.Took source number (tokens.Request req)) m a h =
            taken_bare setup t source number (tokens.Request req) (taken_before v.part source number) came.message
            (λ kept e o. m source number kept (ap (λ (q : ReqId). acts.Took source number (tokens.Request q)) o) e)
        go (acts.Took source number (tokens.Piece req k)) m a h = taken_bare setup t source number (tokens.Piece req k) (taken_before v.part source number) came.message tt
        go (acts.Took source number (tokens.Walk walk)) m a h = taken_bare setup t source number (tokens.Walk walk) (taken_before v.part source number) came.message tt
        go (acts.Took source number what) m a h = taken_bare setup t source number what (taken_before v.part source number) came.message tt
        go (acts.Reg event x) m a h = reg_bare setup t v came event x here
        go (acts.Inject req dev decision) m a h = edited_bare req (injected decision) (request_here v req) (λ r e o. absurd (not_taken req dev decision v.part.prior b.taken (passed (guards setup t v (acts.Inject req dev decision) came) h).0 o))
        go (acts.Pend req) m a h = edited_bare req pended (request_here v req) (here req)
        go (acts.Let req dev now) m a h = edited_bare req let_pass (request_here v req) (here req)
        go (acts.Hold req until) m a h = edited_bare req (held setup v.part until) (request_here v req) (here req)
        go (acts.Release req now) m a h = edited_bare req released (request_here v req) (here req)
        go (acts.Abort req cause) m a h =
            edited_bare req (aborted cause) (request_here v req) (λ r e o. absurd (no_range r.op (here req r e o).0 (abort_ranged req (request_here v req) (passed (guards setup t v (acts.Abort req cause) came) h).0 r e)))
        go (acts.Cut req n) m a h = cut_bare req n (request_here v req) refl (cut_ranged req (request_here v req) (passed (guards setup t v (acts.Cut req n) came) h).0)
        go (acts.Apply req k dev end) m a h = applied_bare v req k dev end (size_of setup dev) (piece_here v req k) (base_here v dev)
        go (acts.NoMem req k dev) m a h = refused_bare req k (piece_here v req k)
        go (acts.Complete req status shown) m a h = closed_bare v req (request_here v req) (here req)
        go (acts.Visit walk dev kind) m a h = walked_if_bare t walk (marked_by setup t v walk dev kind) (walk_here v walk)
        go _ m a h = tt

    -- a decision isn't taken for a reset
    taken_bare_on : (act : Act) → Bares act → NotTaken (change setup t v act came).part.prior
    taken_bare_on act b = go act b.passes
      where
        no_and : (b : Bool) → (b && false) ≡ true → ⊥
        no_and true e = cc
        no_and false e = cc

        asked : (dev : DevId) (req : ReqId) (op : Op) (o : Option Between) → asks_between setup t v came (events.TakeInjection dev req op) o ≡ true → asks_injection setup t v dev req op (request_here v req) ≡ true
        asked dev req op None h = h
        asked dev req op (Some (Opening u x)) h = absurd (no_and (u == t) h)
        asked dev req op (Some (Closing u x)) h = absurd (no_and (u == t) h)

        clash : (req : ReqId) → (r : OpenRequest) × ((request_here v req ≡ Some r) × (has_range r.op ≡ true)) → req ≡ reset → ⊥
        clash req (r, (e, ranged)) o = no_range r.op (b.here (keeps.Request r) (subst (λ (q : ReqId). v.here (Request q) ≡ Some (keeps.Request r)) o (request_is (v.here (Request req)) r e))).0 ranged

        go : (act : Act) → Passes (guards setup t v act came) → NotTaken (prior_by v act)
        go (acts.Reg (events.TakeInjection dev req op) (answers.Injected decision)) h =
            λ o. clash req (asked_ranged dev req op (request_here v req) (asked dev req op came.between (passed (guards setup t v (acts.Reg (events.TakeInjection dev req op) (answers.Injected decision)) came) h).1.0)) o
        go (acts.Visit walk dev kind) h = softened (softens v walk dev kind) walk dev
          where
            softened : (b : Bool) (walk : WalkId) (dev : DevId) → NotTaken (cond b (Some (Softening walk dev)) None)
            softened true walk dev = tt
            softened false walk dev = tt
        go _ h = tt

    -- a reset completes once it is finished
    finished_by : (status : Status) (shown : Option Shown) → Bares (acts.Complete reset status shown) → is_finished (reset_of v.part reset) ≡ true
    finished_by status shown b = go (request_here v reset) refl (passed (guards setup t v (acts.Complete reset status shown) came) b.passes).0 (passed (guards setup t v (acts.Complete reset status shown) came) b.passes).1.0
      where
        no_pieces : (r : OpenRequest) → r.pieces ≡ None → list_any is_faulted (pieces_of v reset r) ≡ false
        no_pieces r e = ap (λ (o : Option ℕ). list_any is_faulted (pieces_here v reset (unwrap_or o 0))) e

        not_failed : (r : OpenRequest) → IsBare r → is_failed r (pieces_of v reset r) ≡ false
        not_failed r h = ap (λ a. a || list_any is_faulted (pieces_of v reset r)) h.3 ∙ no_pieces r h.2

        by_op : (r : OpenRequest) (op : Op) → is_reset op ≡ true → is_success_due v reset r op ≡ true → is_finished (reset_of v.part reset) ≡ true
        by_op r (ops.Reset time) h k = k
        by_op r ops.Read h k = cc
        by_op r (ops.Write fill) h k = cc
        by_op r ops.Zeroes h k = cc
        by_op r ops.Unmap h k = cc
        by_op r ops.Flush h k = cc
        by_op r (ops.Abort seq) h k = cc

        clash : {b : Bool} → b ≡ true → b ≡ false → ⊥
        clash p q = let no : true ≡ false = sym p ∙ q in cc

        by_status : (r : OpenRequest) (status : Status) → IsBare r → is_status v reset r status ≡ true → is_finished (reset_of v.part reset) ≡ true
        by_status r Failed h k = absurd (clash k (not_failed r h))
        by_status r Aborted h k =
            let p = and_parts (not (is_failed r (pieces_of v reset r))) (is_some r.aborted) k in
            absurd (clash p.1 (ap is_some h.1))
        by_status r Success h k =
            let p = and_parts (not (is_failed r (pieces_of v reset r)) && not (is_some r.aborted)) (is_success_due v reset r r.op) k in
            by_op r r.op h.0 p.1

        go : (x : Option OpenRequest) → request_here v reset ≡ x → may_complete t v reset x ≡ true → is_status_due setup v reset status x ≡ true → is_finished (reset_of v.part reset) ≡ true
        go None e h k = cc
        go (Some r) e h k =
            let bare : IsBare r = b.here (keeps.Request r) (request_is (v.here (Request reset)) r e) in
            by_status r status bare (and_parts (not (is_delay_left setup r)) (is_status v reset r status) k).1

  -- ---- runs

  abbrev TokenBare : Option Tracked → Type 0
  TokenBare None = Unit {0}
  TokenBare (Some token) = KeptBare token.kept

  -- the reset is bare wherever it is, and nobody took a decision for it
  pub record IsBareIn (s : State) : Type 0 where
    pub token : TokenBare (look_up same_id s.tokens (Request reset))
    pub taken : (u : ℕ) → NotTaken (part_of s u).prior

  here_bare : (t : ℕ) (o : Option Tracked) (kept : Kept) → here_of t o ≡ Some kept → TokenBare o → KeptBare kept
  here_bare t None kept e h = cc
  here_bare t (Some token) kept e h = go token.place e
    where
      at : (b : Bool) → cond b (Some token.kept) None ≡ Some kept → KeptBare kept
      at true e = let same : token.kept ≡ kept = cc in subst KeptBare same h
      at false e = cc

      go : (p : Place) → kept_on t p token.kept ≡ Some kept → KeptBare kept
      go (At u) e = at (u == t) e
      go (Ring a b n) e = cc
      go Nowhere e = cc

  message_bare : (a t n : ℕ) (o : Option Tracked) (kept : Kept) → message_of a t n o ≡ Some kept → TokenBare o → KeptBare kept
  message_bare a t n None kept e h = cc
  message_bare a t n (Some token) kept e h = go token.place e
    where
      at : (b : Bool) → cond b (Some token.kept) None ≡ Some kept → KeptBare kept
      at true e = let same : token.kept ≡ kept = cc in subst KeptBare same h
      at false e = cc

      go : (p : Place) → kept_in a t n p token.kept ≡ Some kept → KeptBare kept
      go (At u) e = cc
      go (Ring i j m) e = at ((i == a) && ((j == t) && (m == n))) e
      go Nowhere e = cc

  moved_bare : (t : ℕ) (ms : List Move) (ts : List (Id × Tracked)) → TokenBare (look_up same_id ts (Request reset)) → BareMoves ms → TokenBare (look_up same_id (moved t ms ts) (Request reset))
  moved_bare t [] ts h a = h
  moved_bare t (m ∷ ms) ts h a = moved_bare t ms (moved t (m ∷ []) ts) (subst TokenBare (sym (found-moved t m ts (Request reset))) (go (same_id m.id (Request reset)) refl)) a.1
    where
      go : (b : Bool) → same_id m.id (Request reset) ≡ b → TokenBare (cond b (Some (tracked t m)) (look_up same_id ts (Request reset)))
      go true e = let f : BareMove (Request reset) m.kept = subst (λ (i : Id). BareMove i m.kept) (id_same.exact m.id (Request reset) e) a.0 in f refl
      go false e = h

  bares_in : (setup : Setup) (s : State) (e : Entry) → refusal setup s e ≡ None → AcceptsReset e.act → IsBareIn s → Bares setup e.thread (view s e.thread) (came_for setup s e.thread e.act) e.act
  bares_in setup s e allowed accepts h = record {
    here = λ kept f. here_bare e.thread (look_up same_id s.tokens (Request reset)) kept f h.token;
    brought = λ source number kept is f. message_bare source e.thread number (look_up same_id s.tokens (Request reset)) kept (subst (λ (a : Act). (came_for setup s e.thread a).message ≡ Some kept) is f) h.token;
    taken = h.taken e.thread;
    accepts = accepts;
    passes = allowed_passes setup s e allowed;
  }

  pub bare_on : (setup : Setup) (s : State) (e : Entry) → IsFresh s → refusal setup s e ≡ None → AcceptsReset e.act → IsBareIn s → IsBareIn (after setup s e)
  bare_on setup s e fresh allowed accepts h = record {
    token = subst (λ (ts : List (Id × Tracked)). TokenBare (look_up same_id ts (Request reset))) (sym (tokens_after_is setup s e))
        (moved_bare e.thread (change_in setup s e.thread e.act).moves s.tokens h.token (moves_bare setup e.thread (view s e.thread) (came_for setup s e.thread e.act) e.act (bares_in setup s e allowed accepts h)));
    taken = λ u. go u (cases_eq e.thread u);
  }
    where
      go : (u : ℕ) → (e.thread ≡ u) ⊎ (e.thread ≡ u → ⊥) → NotTaken (part_of (after setup s e) u).prior
      go u (inl same) =
          subst (λ (w : ℕ). NotTaken (part_of (after setup s e) w).prior) same
          (subst (λ (p : Part). NotTaken p.prior) (sym (part_is setup s e fresh allowed)) (taken_bare_on setup e.thread (view s e.thread) (came_for setup s e.thread e.act) e.act (bares_in setup s e allowed accepts h)))
      go u (inr ne) = subst (λ (p : Part). NotTaken p.prior) (sym (part_stays setup s e fresh allowed u ne)) (h.taken u)

  -- at its Complete the reset is finished
  pub finished_at : (setup : Setup) (s : State) (e : Entry) (status : Status) (shown : Option Shown) → refusal setup s e ≡ None → e.act ≡ acts.Complete reset status shown → IsBareIn s → is_finished (reset_of (part_of s e.thread) reset) ≡ true
  finished_at setup s e status shown allowed is h =
      let passes : Passes (guards_in setup s e.thread (acts.Complete reset status shown)) = subst (λ (a : Act). Passes (guards_in setup s e.thread a)) is (allowed_passes setup s e allowed) in
      finished_by setup e.thread (view s e.thread) (came_for setup s e.thread (acts.Complete reset status shown)) status shown
      (record {
        here = λ kept f. here_bare e.thread (look_up same_id s.tokens (Request reset)) kept f h.token;
        brought = λ source number kept g f. absurd (other source number g);
        taken = h.taken e.thread;
        accepts = tt;
        passes = passes;
      })
    where
      other : (source number : ℕ) → acts.Complete reset status shown ≡ acts.Took source number (tokens.Request reset) → ⊥
      other source number g = cc
