-- What an act makes of requests: each keeps the device, the type and the count that it was accepted with.
use Rattle.std.proofs.Common.{◌≡◌, ℕ, ◌+◌, Bool, true, false, cond, List, [], ◌∷◌, ◌++◌, Option, Some, None, refl, sym, ◌∙◌, ap}
use Rattle.std.specs.List.{AllByRecursion}
use Rattle.bd_base.specs.declared.act.Act.{Act}
use Rattle.bd_base.specs.declared.act.Act.TheVariants as acts
use Rattle.bd_base.specs.declared.act.ApplyEnd.{ApplyEnd}
use Rattle.bd_base.specs.declared.act.Token.{Token}
use Rattle.bd_base.specs.declared.act.Token.TheVariants as tokens
use Rattle.bd_base.specs.declared.event.Answer.{Answer}
use Rattle.bd_base.specs.declared.event.Answer.TheVariants as answers
use Rattle.bd_base.specs.declared.event.RegEvent.{RegEvent}
use Rattle.bd_base.specs.declared.event.RegEvent.TheVariants as events
use Rattle.bd_base.specs.declared.id.DevId.{DevId}
use Rattle.bd_base.specs.declared.id.ReqId.{ReqId}
use Rattle.bd_base.specs.declared.id.WalkId.{WalkId}
use Rattle.bd_base.specs.declared.request.WalkKind.{WalkKind}
use Rattle.bd_base.specs.declared.request.WalkKind.TheVariants.{Freeze, Drain, Thaw, Removal}
use Rattle.bd_base.specs.declared.setup.Setup.{Setup}
use Rattle.bd_base.specs.declared.thread_set.ThreadSet.{ThreadSet}
use Rattle.bd_machine.specs.declared.state.Base.{Base}
use Rattle.bd_machine.specs.declared.state.Extent.{Extent}
use Rattle.bd_machine.specs.declared.state.Id.{Id}
use Rattle.bd_machine.specs.declared.state.Id.TheVariants.{Request, Piece, Walk, Notice}
use Rattle.bd_machine.specs.declared.state.Kept.{Kept}
use Rattle.bd_machine.specs.declared.state.Kept.TheVariants as keeps
use Rattle.bd_machine.specs.declared.state.News.{News}
use Rattle.bd_machine.specs.declared.state.News.TheVariants as news
use Rattle.bd_machine.specs.declared.state.OpenPiece.{OpenPiece}
use Rattle.bd_machine.specs.declared.state.OpenRequest.{OpenRequest}
use Rattle.bd_machine.specs.declared.state.OpenWalk.{OpenWalk}
use Rattle.bd_machine.specs.declared.state.Part.{Part}
use Rattle.bd_machine.specs.declared.state.Resetting.{Resetting}
use Rattle.bd_machine.specs.declared.state.Stage.TheVariants as stages
use Rattle.bd_machine.specs.Aborts.{aborted}
use Rattle.bd_machine.specs.BlockMap.{size_of}
use Rattle.bd_machine.specs.Completion.{pieces_of}
use Rattle.bd_machine.specs.Delays.{held, released}
use Rattle.bd_machine.specs.Events.{alone, with_due, removal_paid, removing, reset_begun, reset_thaws, injection_taken, with_reset, advanced, first_req, drain_time, change_reg}
use Rattle.bd_machine.specs.Guards.{change}
use Rattle.bd_machine.specs.Homes.{base_here, change_applied, piece_edited, refused}
use Rattle.bd_machine.specs.Injections.{injected, pended, asked_once_more}
use Rattle.bd_machine.specs.Kept.{as_request, request_here, piece_here, walk_here, edited}
use Rattle.bd_machine.specs.Limits.{passed}
use Rattle.bd_machine.specs.Messages.{sent, token_put, news_put, news_of, taken_by, told_part, told_walk, went, freezes, closed_notice, arrived_walk}
use Rattle.bd_machine.specs.Registry.{device_named}
use Rattle.bd_machine.specs.Requests.{extents_of, pieces_made, cut_into, closed_with, pieces_closed}
use Rattle.bd_machine.specs.Threads.{is_nobody}
use Rattle.bd_machine.specs.View.{View, Came, Move, Change, id_of}
use Rattle.bd_machine.specs.Walks.{begin_walk_with, after_walk, walked, walked_if_any, is_at_end, staged, drain_threads, marked_by, visited, reset_of}
use Rattle.bd_machine.proofs.Tables.{request_same}
use Rattle.bd_law_runs.specs.Ledger.{Accepted, requests_by}
use Rattle.bd_law_runs.proofs.Fields.{taken_before}

-- what is kept of a request, as it was accepted
abbrev pub asked_of : Kept → Option Accepted
asked_of (keeps.Request r) = Some (record { dev = r.dev; op = r.op; count = r.count })
asked_of _ = None

-- what is kept of a request is what was accepted
abbrev pub Alike : (ReqId → Option Accepted) → Id → Kept → Type 0
Alike f (Request r) kept = asked_of kept ≡ f r
Alike f _ kept = Unit {0}

abbrev pub AreAlike : (ReqId → Option Accepted) → List Move → Type 0
AreAlike f ms = AllByRecursion (λ (m : Move). Alike f m.id m.kept) ms

pub request_is : (o : Option Kept) (r : OpenRequest) → as_request o ≡ Some r → o ≡ Some (keeps.Request r)
request_is None r h = cc
request_is (Some (keeps.Request q)) r h = let same : q ≡ r = cc in ap (λ (x : OpenRequest). Some (keeps.Request x)) same
request_is (Some (keeps.Piece p)) r h = cc
request_is (Some (keeps.Walk w)) r h = cc
request_is (Some (keeps.Notice n)) r h = cc

module _ (f : ReqId → Option Accepted) where
  both_alike : (xs ys : List Move) → AreAlike f xs → AreAlike f ys → AreAlike f (xs ++ ys)
  both_alike [] ys h k = k
  both_alike (x ∷ xs) ys h k = (h.0, both_alike xs ys h.1 k)

  alike_cond : (b : Bool) (c d : Change) → AreAlike f c.moves → AreAlike f d.moves → AreAlike f (cond b c d).moves
  alike_cond true c d h k = h
  alike_cond false c d h k = k

  edited_alike : (req : ReqId) (g : OpenRequest → OpenRequest) → ((r : OpenRequest) → asked_of (keeps.Request (g r)) ≡ asked_of (keeps.Request r)) → (x : Option OpenRequest) → ((r : OpenRequest) → x ≡ Some r → asked_of (keeps.Request r) ≡ f req) → AreAlike f (edited req g x)
  edited_alike req g same None h = tt
  edited_alike req g same (Some r) h = (same r ∙ h r refl, tt)

  sent_asks : (kept : Kept) → asked_of (sent kept) ≡ asked_of kept
  sent_asks (keeps.Request r) = refl
  sent_asks (keeps.Piece p) = refl
  sent_asks (keeps.Walk w) = refl
  sent_asks (keeps.Notice n) = refl

  put_alike : (to number : ℕ) (req : ReqId) (x : Option Kept) → ((kept : Kept) → x ≡ Some kept → asked_of kept ≡ f req) → AreAlike f (token_put to number (Request req) x)
  put_alike to number req None h = tt
  put_alike to number req (Some kept) h = (sent_asks kept ∙ h kept refl, tt)

  piece_put : (to number : ℕ) (req : ReqId) (k : ℕ) (x : Option Kept) → AreAlike f (token_put to number (Piece req k) x)
  piece_put to number req k None = tt
  piece_put to number req k (Some kept) = (tt, tt)

  walk_put : (to number : ℕ) (w : WalkId) (x : Option Kept) → AreAlike f (token_put to number (Walk w) x)
  walk_put to number w None = tt
  walk_put to number w (Some kept) = (tt, tt)

  news_alike : (t to number : ℕ) (x : Option News) → AreAlike f (news_put to number (Notice t to number) x)
  news_alike t to number None = tt
  news_alike t to number (Some n) = (tt, tt)

  begin_alike : (t : ℕ) (kind : WalkKind) (dev : DevId) (threads : ThreadSet) (req : Option ReqId) (time : ℕ) (c : Change) → AreAlike f c.moves → AreAlike f (begin_walk_with t kind dev threads req time c).moves
  begin_alike t kind dev threads req time c h = alike_cond (is_nobody threads) _ _ h (both_alike c.moves _ h (tt, tt))

  after_alike : (t : ℕ) (w : OpenWalk) (kind : WalkKind) (c : Change) → AreAlike f c.moves → AreAlike f (after_walk t w kind c).moves
  after_alike t w Freeze c h = begin_alike t Drain w.dev (drain_threads c.part w.request) w.request 0 (record { part = staged w.request stages.Draining c.part; moves = c.moves }) h
  after_alike t w Drain c h = h
  after_alike t w Thaw c h = h
  after_alike t w Removal c h = h

  walked_alike : (t : ℕ) (walk : WalkId) (w : OpenWalk) (p : Part) → AreAlike f (walked t walk w p).moves
  walked_alike t walk w p = alike_cond (is_at_end t walk w) _ _ (after_alike t w w.kind _ (tt, tt)) (tt, tt)

  walked_if_alike : (t : ℕ) (walk : WalkId) (p : Part) (x : Option OpenWalk) → AreAlike f (walked_if_any t walk p x).moves
  walked_if_alike t walk p None = tt
  walked_if_alike t walk p (Some w) = walked_alike t walk (visited t w) p

  went_alike : (t : ℕ) (req : ReqId) (threads : ThreadSet) (x : Option Resetting) (c : Change) → AreAlike f c.moves → AreAlike f (went t req threads x c).moves
  went_alike t req threads None c h = h
  went_alike t req threads (Some r) c h = begin_alike t Freeze r.dev threads (Some req) r.time (record { part = freezes req threads c.part; moves = c.moves }) h

  told_alike : (t : ℕ) (told : News) (c : Change) → AreAlike f c.moves → AreAlike f (told_walk t told c).moves
  told_alike t (news.Go req threads) c h = went_alike t req threads (reset_of c.part req) c h
  told_alike t (news.Mark mark) c h = h
  told_alike t (news.Gone handle) c h = h
  told_alike t (news.Channel dev) c h = h
  told_alike t (news.Device dev) c h = h
  told_alike t (news.Grow dev blocks) c h = h
  told_alike t (news.Sized handle blocks) c h = h

  -- what a message brings is what was accepted
  abbrev Brings : Token → Option Kept → Type 0
  Brings (tokens.Request req) x = (kept : Kept) → x ≡ Some kept → asked_of kept ≡ f req
  Brings _ x = Unit {0}

  notice_alike : (setup : Setup) (t source number : ℕ) (what : Token) (told : News) (p : Part) → Alike f (id_of source t number what) (keeps.Notice told) → AreAlike f (told_walk t told (record { part = told_part setup told p; moves = closed_notice (id_of source t number what) told })).moves
  notice_alike setup t source number what told p h = told_alike t told (record { part = told_part setup told p; moves = closed_notice (id_of source t number what) told }) (h, tt)

  taken_alike : (setup : Setup) (t source number : ℕ) (what : Token) (p : Part) (x : Option Kept) → Brings what x → AreAlike f (taken_by setup t what p x (id_of source t number what)).moves
  taken_alike setup t source number what p None h = none what
    where
      none : (what : Token) → AreAlike f (taken_by setup t what p None (id_of source t number what)).moves
      none (tokens.Request req) = tt
      none _ = tt
  taken_alike setup t source number (tokens.Request req) p (Some (keeps.Request r)) h = (h (keeps.Request r) refl, tt)
  taken_alike setup t source number (tokens.Request req) p (Some (keeps.Notice told)) h = notice_alike setup t source number (tokens.Request req) told p (h (keeps.Notice told) refl)
  taken_alike setup t source number (tokens.Request req) p (Some (keeps.Piece q)) h = tt
  taken_alike setup t source number (tokens.Request req) p (Some (keeps.Walk w)) h = tt
  taken_alike setup t source number (tokens.Piece req k) p (Some (keeps.Piece q)) h = (tt, tt)
  taken_alike setup t source number (tokens.Piece req k) p (Some (keeps.Notice told)) h = notice_alike setup t source number (tokens.Piece req k) told p tt
  taken_alike setup t source number (tokens.Walk walk) p (Some (keeps.Walk w)) h = walked_alike t walk (arrived_walk w) p
  taken_alike setup t source number (tokens.Walk walk) p (Some (keeps.Notice told)) h = notice_alike setup t source number (tokens.Walk walk) told p tt
  taken_alike setup t source number what p (Some (keeps.Notice told)) h = notice_alike setup t source number what told p tt
  taken_alike setup t source number _ p _ h = tt

  removing_alike : (setup : Setup) (t : ℕ) (a : Answer) (p : Part) → AreAlike f (removing setup t a p).moves
  removing_alike setup t (answers.Removing dev threads handles destruct) p = begin_alike t Removal dev threads None 0 (alone (with_due _ p)) tt
  removing_alike setup t _ p = tt

  begun_alike : (t : ℕ) (dev : DevId) (req : ReqId) (a : Answer) (p : Part) → AreAlike f (reset_begun t dev req a p).moves
  begun_alike t dev req (answers.ResetStarted threads) p = begin_alike t Freeze dev threads (Some req) (drain_time p req) (alone (with_reset req dev stages.Freezing threads p)) tt
  begun_alike t dev req _ p = tt

  thaws_alike : (t : ℕ) (dev : DevId) (a : Answer) (p : Part) → AreAlike f (reset_thaws t dev a p).moves
  thaws_alike t dev (answers.ResetEnded threads) p = begin_alike t Thaw dev threads (first_req p.resets dev stages.Drained) 0 (alone (advanced dev stages.Drained stages.Thawing p)) tt
  thaws_alike t dev _ p = tt

  injection_alike : (v : View) (req : ReqId) (a : Answer) → ((r : OpenRequest) → request_here v req ≡ Some r → asked_of (keeps.Request r) ≡ f req) → AreAlike f (injection_taken v req a).moves
  injection_alike v req (answers.Injected decision) h = edited_alike req asked_once_more (λ r. refl) (request_here v req) h
  injection_alike v req _ h = tt

  reg_alike : (setup : Setup) (t : ℕ) (v : View) (came : Came) (event : RegEvent) (a : Answer) → ((req : ReqId) (r : OpenRequest) → request_here v req ≡ Some r → asked_of (keeps.Request r) ≡ f req) → AreAlike f (change_reg setup t v came event a).moves
  reg_alike setup t v came (events.BeginRemove name) a h = removing_alike setup t a (removal_paid came a (device_named setup name) v.part)
  reg_alike setup t v came (events.BeginReset dev req) a h = begun_alike t dev req a v.part
  reg_alike setup t v came (events.EndReset dev) a h = thaws_alike t dev a v.part
  reg_alike setup t v came (events.TakeInjection dev req op) a h = injection_alike v req a (h req)
  reg_alike setup t v came _ a h = tt

  made_alike : (setup : Setup) (req : ReqId) (r : OpenRequest) (k : ℕ) (xs : List Extent) → AreAlike f (pieces_made setup req r k xs)
  made_alike setup req r k [] = tt
  made_alike setup req r k (x ∷ xs) = (tt, made_alike setup req r (k + 1) xs)

  cut_alike : (setup : Setup) (req : ReqId) (n : ℕ) (x : Option OpenRequest) → ((r : OpenRequest) → x ≡ Some r → asked_of (keeps.Request r) ≡ f req) → AreAlike f (cut_into setup req n x)
  cut_alike setup req n None h = tt
  cut_alike setup req n (Some r) h = (h r refl, made_alike setup req r 0 (extents_of setup r))

  pieces_alike : (req : ReqId) (k : ℕ) (ps : List (Option OpenPiece)) → AreAlike f (pieces_closed req k ps)
  pieces_alike req k [] = tt
  pieces_alike req k (None ∷ ps) = pieces_alike req (k + 1) ps
  pieces_alike req k (Some p ∷ ps) = (tt, pieces_alike req (k + 1) ps)

  closed_alike : (v : View) (req : ReqId) (x : Option OpenRequest) → ((r : OpenRequest) → x ≡ Some r → asked_of (keeps.Request r) ≡ f req) → AreAlike f (closed_with v req x)
  closed_alike v req None h = tt
  closed_alike v req (Some r) h = (h r refl, pieces_alike req 0 (pieces_of v req r))

  applied_alike : (v : View) (req : ReqId) (k : ℕ) (dev : DevId) (end : ApplyEnd) (size : ℕ) (x : Option OpenPiece) (b : Option Base) → AreAlike f (change_applied v req k dev end size x b).moves
  applied_alike v req k dev end size (Some p) (Some b) = (tt, tt)
  applied_alike v req k dev end size _ _ = tt

  refused_alike : (req : ReqId) (k : ℕ) (x : Option OpenPiece) → AreAlike f (piece_edited req k refused x)
  refused_alike req k None = tt
  refused_alike req k (Some p) = (tt, tt)

-- what the tokens here and the message taken are
pub record AreAsked (f : ReqId → Option Accepted) (v : View) (act : Act) (came : Came) : Type 0 where
  pub here : (req : ReqId) (kept : Kept) → v.here (Request req) ≡ Some kept → asked_of kept ≡ f req
  pub brought : (source number : ℕ) (req : ReqId) (kept : Kept) → act ≡ acts.Took source number (tokens.Request req) → came.message ≡ Some kept → asked_of kept ≡ f req

pub moves_alike : (f : ReqId → Option Accepted) (setup : Setup) (t : ℕ) (v : View) (act : Act) (came : Came) → AreAsked f v act came → AreAlike (requests_by act f) (change setup t v act came).moves
moves_alike f setup t v act came h = go act h.brought
  where
    asked : (req : ReqId) (r : OpenRequest) → request_here v req ≡ Some r → asked_of (keeps.Request r) ≡ f req
    asked req r e = h.here req (keeps.Request r) (request_is (v.here (Request req)) r e)

    go : (act : Act) → ((source number : ℕ) (req : ReqId) (kept : Kept) → act ≡ acts.Took source number (tokens.Request req) → came.message ≡ Some kept → asked_of kept ≡ f req) → AreAlike (requests_by act f) (change setup t v act came).moves
    go (acts.Accept dev lba handle req op count) b =
        let new : Option Accepted = Some (record { dev = dev; op = op; count = count }) in
        (sym (ap (λ c. cond c new (f req)) (request_same.same_self req)), tt)
    go (acts.Put to number (tokens.Request req)) b = put_alike f to number req (v.here (Request req)) (h.here req)
    go (acts.Put to number (tokens.Piece req k)) b = piece_put f to number req k (v.here (Piece req k))
    go (acts.Put to number (tokens.Walk walk)) b = walk_put f to number walk (v.here (Walk walk))
    go (acts.Put to number what) b = news_alike f t to number (news_of what)
    go (acts.Took source number (tokens.Request req)) b = taken_alike f setup t source number (tokens.Request req) (taken_before v.part source number) came.message (λ kept e. b source number req kept refl e)
    go (acts.Took source number (tokens.Piece req k)) b = taken_alike f setup t source number (tokens.Piece req k) (taken_before v.part source number) came.message tt
    go (acts.Took source number (tokens.Walk walk)) b = taken_alike f setup t source number (tokens.Walk walk) (taken_before v.part source number) came.message tt
    go (acts.Took source number what) b = taken_alike f setup t source number what (taken_before v.part source number) came.message tt
    go (acts.Reg event a) b = reg_alike f setup t v came event a asked
    go (acts.Inject req dev decision) b = edited_alike f req (injected decision) (λ r. refl) (request_here v req) (asked req)
    go (acts.Pend req) b = edited_alike f req pended (λ r. refl) (request_here v req) (asked req)
    go (acts.Let req dev now) b = edited_alike f req passed (λ r. refl) (request_here v req) (asked req)
    go (acts.Hold req until) b = edited_alike f req (held setup v.part until) (λ r. refl) (request_here v req) (asked req)
    go (acts.Release req now) b = edited_alike f req released (λ r. refl) (request_here v req) (asked req)
    go (acts.Abort req cause) b = edited_alike f req (aborted cause) (λ r. refl) (request_here v req) (asked req)
    go (acts.Cut req n) b = cut_alike f setup req n (request_here v req) (asked req)
    go (acts.Apply req k dev end) b = applied_alike f v req k dev end (size_of setup dev) (piece_here v req k) (base_here v dev)
    go (acts.NoMem req k dev) b = refused_alike f req k (piece_here v req k)
    go (acts.Complete req status shown) b = closed_alike f v req (request_here v req) (asked req)
    go (acts.Visit walk dev kind) b = walked_if_alike f t walk (marked_by setup t v walk dev kind) (walk_here v walk)
    go _ b = tt
