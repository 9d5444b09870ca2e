-- Which tokens an act moves: those of walks and notices, and of the request that it names.
use Rattle.std.proofs.Common.{◌≡◌, ℕ, ◌+◌, Bool, true, false, cond, List, [], ◌∷◌, ◌++◌, Option, Some, None, refl, sym, ◌∙◌, ap}
use Rattle.std.specs.List.{AllByRecursion}
use Rattle.bd_base.specs.declared.act.Act.{Act}
use Rattle.bd_base.specs.declared.act.Act.TheVariants as acts
use Rattle.bd_base.specs.declared.act.ApplyEnd.{ApplyEnd}
use Rattle.bd_base.specs.declared.act.Token.{Token}
use Rattle.bd_base.specs.declared.act.Token.TheVariants as tokens
use Rattle.bd_base.specs.declared.event.Answer.{Answer}
use Rattle.bd_base.specs.declared.event.Answer.TheVariants as answers
use Rattle.bd_base.specs.declared.event.RegEvent.{RegEvent}
use Rattle.bd_base.specs.declared.event.RegEvent.TheVariants as events
use Rattle.bd_base.specs.declared.id.DevId.{DevId}
use Rattle.bd_base.specs.declared.id.ReqId.{ReqId}
use Rattle.bd_base.specs.declared.id.WalkId.{WalkId}
use Rattle.bd_base.specs.declared.request.WalkKind.{WalkKind}
use Rattle.bd_base.specs.declared.request.WalkKind.TheVariants.{Freeze, Drain, Thaw, Removal}
use Rattle.bd_base.specs.declared.setup.Setup.{Setup}
use Rattle.bd_base.specs.declared.thread_set.ThreadSet.{ThreadSet}
use Rattle.bd_machine.specs.declared.state.Base.{Base}
use Rattle.bd_machine.specs.declared.state.Extent.{Extent}
use Rattle.bd_machine.specs.declared.state.Id.{Id}
use Rattle.bd_machine.specs.declared.state.Id.TheVariants as ids
use Rattle.bd_machine.specs.declared.state.Kept.{Kept}
use Rattle.bd_machine.specs.declared.state.Kept.TheVariants as keeps
use Rattle.bd_machine.specs.declared.state.News.{News}
use Rattle.bd_machine.specs.declared.state.News.TheVariants as news
use Rattle.bd_machine.specs.declared.state.Open.{Open}
use Rattle.bd_machine.specs.declared.state.OpenPiece.{OpenPiece}
use Rattle.bd_machine.specs.declared.state.OpenRequest.{OpenRequest}
use Rattle.bd_machine.specs.declared.state.OpenWalk.{OpenWalk}
use Rattle.bd_machine.specs.declared.state.Part.{Part}
use Rattle.bd_machine.specs.declared.state.Resetting.{Resetting}
use Rattle.bd_machine.specs.declared.state.Stage.TheVariants as stages
use Rattle.bd_machine.specs.Alone.{held_after, held_by}
use Rattle.bd_machine.specs.BlockMap.{size_of}
use Rattle.bd_machine.specs.Completion.{pieces_of}
use Rattle.bd_machine.specs.Events.{alone, with_due, removing, reset_begun, reset_thaws, with_reset, advanced, first_req, injection_taken, drain_time, change_reg, removal_paid}
use Rattle.bd_machine.specs.Guards.{change}
use Rattle.bd_machine.specs.Homes.{base_here, change_applied, piece_edited}
use Rattle.bd_machine.specs.Kept.{edited, piece_here, request_here, walk_here}
use Rattle.bd_machine.specs.Messages.{arrived_walk, closed_notice, freezes, news_put, taken_by, told_part, told_walk, token_put, went}
use Rattle.bd_machine.specs.Registry.{device_named}
use Rattle.bd_machine.specs.Requests.{closed_with, cut_into, extents_of, pieces_closed, pieces_made}
use Rattle.bd_machine.specs.Same.{same_id, same_request}
use Rattle.bd_machine.specs.Threads.{is_nobody}
use Rattle.bd_machine.specs.View.{View, Came, Change, Move, id_of}
use Rattle.bd_machine.specs.Walks.{after_walk, begin_walk_with, drain_threads, is_at_end, marked_by, reset_of, staged, visited, walked, walked_if_any}
use Rattle.bd_machine.proofs.Tables.{id_same}
use Rattle.bd_touched.specs.Reach.{reach_of, reaches}

-- the token is the request, or a piece of it
abbrev pub is_about : ReqId → Id → Bool
is_about req (ids.Request r) = same_request r req
is_about req (ids.Piece r k) = same_request r req
is_about req (ids.Walk walk) = false
is_about req (ids.Notice sender receiver number) = false

module _ (req : ReqId) where
  abbrev IsApart : Move → Type 0
  IsApart m = is_about req m.id ≡ false

  -- none of these moves is of the request or a piece of it
  abbrev pub AreApart : List Move → Type 0
  AreApart ms = AllByRecursion IsApart ms

  apart_push : (ms : List Move) (m : Move) → AreApart ms → IsApart m → AreApart (ms ++ m ∷ [])
  apart_push [] m h k = (k, tt)
  apart_push (x ∷ xs) m h k = (h.0, apart_push xs m h.1 k)

  apart_cond : (b : Bool) (c d : Change) → AreApart c.moves → AreApart d.moves → AreApart (cond b c d).moves
  apart_cond true c d h k = h
  apart_cond false c d h k = k

  -- ---- walks

  begin_apart : (t : ℕ) (kind : WalkKind) (dev : DevId) (threads : ThreadSet) (by : Option ReqId) (time : ℕ) (c : Change) → AreApart c.moves → AreApart (begin_walk_with t kind dev threads by time c).moves
  begin_apart t kind dev threads by time c h = apart_cond (is_nobody threads) _ _ h (apart_push c.moves _ h refl)

  after_apart : (t : ℕ) (w : OpenWalk) (kind : WalkKind) (c : Change) → AreApart c.moves → AreApart (after_walk t w kind c).moves
  after_apart t w Freeze c h = begin_apart t Drain w.dev (drain_threads c.part w.request) w.request 0 (record { part = staged w.request stages.Draining c.part; moves = c.moves }) h
  after_apart t w Drain c h = h
  after_apart t w Thaw c h = h
  after_apart t w Removal c h = h

  walked_apart : (t : ℕ) (walk : WalkId) (w : OpenWalk) (p : Part) → AreApart (walked t walk w p).moves
  walked_apart t walk w p = apart_cond (is_at_end t walk w) _ _ (after_apart t w w.kind _ (refl, tt)) (refl, tt)

  walked_if_apart : (t : ℕ) (walk : WalkId) (p : Part) (x : Option OpenWalk) → AreApart (walked_if_any t walk p x).moves
  walked_if_apart t walk p None = tt
  walked_if_apart t walk p (Some w) = walked_apart t walk (visited t w) p

  went_apart : (t : ℕ) (by : ReqId) (threads : ThreadSet) (x : Option Resetting) (c : Change) → AreApart c.moves → AreApart (went t by threads x c).moves
  went_apart t by threads None c h = h
  went_apart t by threads (Some r) c h = begin_apart t Freeze r.dev threads (Some by) r.time (record { part = freezes by threads c.part; moves = c.moves }) h

  told_apart : (t : ℕ) (told : News) (c : Change) → AreApart c.moves → AreApart (told_walk t told c).moves
  told_apart t (news.Go by threads) c h = went_apart t by threads (reset_of c.part by) c h
  told_apart t (news.Mark mark) c h = h
  told_apart t (news.Gone handle) c h = h
  told_apart t (news.Channel dev) c h = h
  told_apart t (news.Device dev) c h = h
  told_apart t (news.Grow dev blocks) c h = h
  told_apart t (news.Sized handle blocks) c h = h

  -- ---- other requests and their pieces

  edited_apart : (r : ReqId) (f : OpenRequest → OpenRequest) (x : Option OpenRequest) → same_request r req ≡ false → AreApart (edited r f x)
  edited_apart r f None n = tt
  edited_apart r f (Some x) n = (n, tt)

  piece_apart : (r : ReqId) (k : ℕ) (f : OpenPiece → OpenPiece) (x : Option OpenPiece) → same_request r req ≡ false → AreApart (piece_edited r k f x)
  piece_apart r k f None n = tt
  piece_apart r k f (Some p) n = (n, tt)

  made_apart : (setup : Setup) (r : ReqId) (x : OpenRequest) (k : ℕ) (xs : List Extent) → same_request r req ≡ false → AreApart (pieces_made setup r x k xs)
  made_apart setup r x k [] n = tt
  made_apart setup r x k (e ∷ es) n = (n, made_apart setup r x (k + 1) es n)

  cut_apart : (setup : Setup) (r : ReqId) (count : ℕ) (x : Option OpenRequest) → same_request r req ≡ false → AreApart (cut_into setup r count x)
  cut_apart setup r count None n = tt
  cut_apart setup r count (Some x) n = (n, made_apart setup r x 0 (extents_of setup x) n)

  pieces_apart : (r : ReqId) (k : ℕ) (ps : List (Option OpenPiece)) → same_request r req ≡ false → AreApart (pieces_closed r k ps)
  pieces_apart r k [] n = tt
  pieces_apart r k (None ∷ ps) n = pieces_apart r (k + 1) ps n
  pieces_apart r k (Some p ∷ ps) n = (n, pieces_apart r (k + 1) ps n)

  closed_apart : (v : View) (r : ReqId) (x : Option OpenRequest) → same_request r req ≡ false → AreApart (closed_with v r x)
  closed_apart v r None n = tt
  closed_apart v r (Some x) n = (n, pieces_apart r 0 (pieces_of v r x) n)

  applied_apart : (v : View) (r : ReqId) (k : ℕ) (dev : DevId) (end : ApplyEnd) (size : ℕ) (x : Option OpenPiece) (b : Option Base) → same_request r req ≡ false
      → AreApart (change_applied v r k dev end size x b).moves
  applied_apart v r k dev end size (Some p) (Some b) n = (n, tt)
  applied_apart v r k dev end size (Some p) None n = tt
  applied_apart v r k dev end size None b n = tt

  -- ---- messages

  put_apart : (to number : ℕ) (id : Id) (x : Option Kept) → is_about req id ≡ false → AreApart (token_put to number id x)
  put_apart to number id None n = tt
  put_apart to number id (Some kept) n = (n, tt)

  news_apart : (to number : ℕ) (id : Id) (x : Option News) → is_about req id ≡ false → AreApart (news_put to number id x)
  news_apart to number id None n = tt
  news_apart to number id (Some sent) n = (n, tt)

  -- the token that a message brings is another one, and so is that of the walk that comes with it
  taken_apart : (setup : Setup) (t : ℕ) (what : Token) (p : Part) (x : Option Kept) (id : Id) → is_about req id ≡ false → AreApart (taken_by setup t what p x id).moves
  taken_apart setup t what p None id n = none what
    where
      none : (what : Token) → AreApart (taken_by setup t what p None id).moves
      none (tokens.Request r) = tt
      none _ = tt
  taken_apart setup t (tokens.Request r) p (Some (keeps.Request x)) id n = (n, tt)
  taken_apart setup t (tokens.Piece r k) p (Some (keeps.Piece x)) id n = (n, tt)
  taken_apart setup t (tokens.Walk walk) p (Some (keeps.Walk w)) id n = walked_apart t walk (arrived_walk w) p
  taken_apart setup t (tokens.Request r) p (Some (keeps.Notice told)) id n = told_apart t told (record { part = told_part setup told p; moves = closed_notice id told }) (n, tt)
  taken_apart setup t what p (Some (keeps.Notice told)) id n = told_apart t told (record { part = told_part setup told p; moves = closed_notice id told }) (n, tt)
  taken_apart setup t _ p _ id n = tt

  -- ---- the registry's events

  removing_apart : (setup : Setup) (t : ℕ) (a : Answer) (p : Part) → AreApart (removing setup t a p).moves
  removing_apart setup t (answers.Removing dev threads handles destruct) p = begin_apart t Removal dev threads None 0 (alone (with_due _ p)) tt
  removing_apart setup t _ p = tt

  begun_apart : (t : ℕ) (dev : DevId) (by : ReqId) (a : Answer) (p : Part) → AreApart (reset_begun t dev by a p).moves
  begun_apart t dev by (answers.ResetStarted threads) p = begin_apart t Freeze dev threads (Some by) (drain_time p by) (alone (with_reset by dev stages.Freezing threads p)) tt
  begun_apart t dev by _ p = tt

  thaws_apart : (t : ℕ) (dev : DevId) (a : Answer) (p : Part) → AreApart (reset_thaws t dev a p).moves
  thaws_apart t dev (answers.ResetEnded threads) p = begin_apart t Thaw dev threads (first_req p.resets dev stages.Drained) 0 (alone (advanced dev stages.Drained stages.Thawing p)) tt
  thaws_apart t dev _ p = tt

  injection_apart : (v : View) (r : ReqId) (a : Answer) → same_request r req ≡ false → AreApart (injection_taken v r a).moves
  injection_apart v r (answers.Injected decision) n = edited_apart r _ (request_here v r) n
  injection_apart v r _ n = tt

  -- ---- an act that doesn't reach the request

  module _ (setup : Setup) (t : ℕ) (v : View) (came : Came) (o : Open) (own : o.id ≡ req) where
    other : (r : ReqId) → same_request r o.id ≡ false → same_request r req ≡ false
    other r n = sym (ap (same_request r) own) ∙ n

    reg_apart : (event : RegEvent) (a : Answer) → reaches setup (reach_of (acts.Reg event a)) o ≡ false → AreApart (change_reg setup t v came event a).moves
    reg_apart (events.Open name write) a n = tt
    reg_apart (events.Claim id kind) a n = tt
    reg_apart (events.Close id) a n = tt
    reg_apart (events.GetChannel dev) a n = tt
    reg_apart (events.PutChannel dev closing) a n = tt
    reg_apart (events.DropChannel dev) a n = tt
    reg_apart (events.BeginRemove name) a n = removing_apart setup t a (removal_paid came a (device_named setup name) v.part)
    reg_apart (events.BeginReset dev by) a n = begun_apart t dev by a v.part
    reg_apart (events.EndReset dev) a n = thaws_apart t dev a v.part
    reg_apart (events.FinishReset dev) a n = tt
    reg_apart (events.TakeInjection dev r op) a n = injection_apart v r a (other r n)
    reg_apart (events.Destructed dev) a n = tt
    reg_apart (events.BeginResize name blocks) a n = tt
    reg_apart (events.EndResize dev) a n = tt

    sent_apart : (to number : ℕ) (what : Token) → reaches setup (reach_of (acts.Put to number what)) o ≡ false → AreApart (change setup t v (acts.Put to number what) came).moves
    sent_apart to number (tokens.Request r) n = put_apart to number _ (v.here (ids.Request r)) (other r n)
    sent_apart to number (tokens.Piece r k) n = put_apart to number _ (v.here (ids.Piece r k)) (other r n)
    sent_apart to number (tokens.Walk walk) n = put_apart to number _ (v.here (ids.Walk walk)) refl
    sent_apart to number (tokens.Mark mark) n = (refl, tt)
    sent_apart to number (tokens.Gone handle) n = (refl, tt)
    sent_apart to number (tokens.Channel dev) n = (refl, tt)
    sent_apart to number (tokens.Device dev) n = (refl, tt)
    sent_apart to number (tokens.Go r threads) n = (refl, tt)
    sent_apart to number (tokens.Grow dev blocks) n = (refl, tt)
    sent_apart to number (tokens.Sized handle blocks) n = (refl, tt)

    came_apart : (source number : ℕ) (what : Token) → reaches setup (reach_of (acts.Took source number what)) o ≡ false → is_about req (id_of source t number what) ≡ false
    came_apart source number (tokens.Request r) n = other r n
    came_apart source number (tokens.Piece r k) n = other r n
    came_apart source number (tokens.Walk walk) n = refl
    came_apart source number (tokens.Mark mark) n = refl
    came_apart source number (tokens.Gone handle) n = refl
    came_apart source number (tokens.Channel dev) n = refl
    came_apart source number (tokens.Device dev) n = refl
    came_apart source number (tokens.Go r threads) n = refl
    came_apart source number (tokens.Grow dev blocks) n = refl
    came_apart source number (tokens.Sized handle blocks) n = refl

    pub act_apart : (act : Act) → reaches setup (reach_of act) o ≡ false → AreApart (change setup t v act came).moves
    act_apart (acts.Put to number what) n = sent_apart to number what n
    act_apart (acts.Took source number what) n = taken_apart setup t what _ came.message (id_of source t number what) (came_apart source number what n)
    act_apart (acts.Reg event a) n = reg_apart event a n
    act_apart (acts.Accept dev lba handle r op count) n = (other r n, tt)
    act_apart (acts.Refuse errno lba handle op count) n = tt
    act_apart (acts.Inject r dev decision) n = edited_apart r _ (request_here v r) (other r n)
    act_apart (acts.Pend r) n = edited_apart r _ (request_here v r) (other r n)
    act_apart (acts.Let r dev now) n = edited_apart r _ (request_here v r) (other r n)
    act_apart (acts.Cut r pieces) n = cut_apart setup r pieces (request_here v r) (other r n)
    act_apart (acts.Apply r k dev end) n = applied_apart v r k dev end (size_of setup dev) (piece_here v r k) (base_here v dev) (other r n)
    act_apart (acts.NoMem r k dev) n = piece_apart r k _ (piece_here v r k) (other r n)
    act_apart (acts.Hold r until) n = edited_apart r _ (request_here v r) (other r n)
    act_apart (acts.Release r now) n = edited_apart r _ (request_here v r) (other r n)
    act_apart (acts.Abort r cause) n = edited_apart r _ (request_here v r) (other r n)
    act_apart (acts.Complete r status shown) n = closed_apart v r (request_here v r) (other r n)
    act_apart (acts.Visit walk dev kind) n = walked_if_apart t walk (marked_by setup t v walk dev kind) (walk_here v walk)
    act_apart (acts.Tick dev now slices) n = tt
    act_apart (acts.Destruct dev digest) n = tt
    act_apart (acts.Script line outcome) n = tt
    act_apart acts.Shutdown n = tt
    act_apart (acts.Grow dev blocks) n = tt
    act_apart (acts.Grace walk until) n = tt
    act_apart (acts.Due walk now) n = tt

  -- ---- what is here

  other_id : (m : Move) (id : Id) → IsApart m → is_about req id ≡ true → same_id m.id id ≡ false
  other_id m id apart about = go (same_id m.id id) refl
    where
      go : (b : Bool) → same_id m.id id ≡ b → b ≡ false
      go true e = let same : is_about req m.id ≡ is_about req id = ap (is_about req) (id_same.exact m.id id e) in let f : false ≡ true = sym apart ∙ same ∙ about in cc
      go false e = refl

  -- such moves leave what is here of the request and its pieces
  pub here_apart : (ms : List Move) (here : Id → Option Kept) (id : Id) → is_about req id ≡ true → AreApart ms → held_after ms here id ≡ here id
  here_apart [] here id about h = refl
  here_apart (m ∷ ms) here id about h =
      here_apart ms (λ j. cond (same_id m.id j) (held_by m.going m.kept) (here j)) id about h.1
      ∙ ap (λ b. cond b (held_by m.going m.kept) (here id)) (other_id m id h.0 about)
