-- **Put.** A thread puts a token last in the queue to a thread.
use Rattle.std.proofs.Common.{◌≡◌, ℕ, ◌+◌, Bool, true, cond, ◌==◌, List, [], ◌∷◌, ◌++◌, Option, Some, None, is_some, nat_lt, vec_len, refl, sym, ◌∙◌, ap, eq-eqb}
use Rattle.std.specs.Option.{option_map}
use Rattle.std.proofs.lemmas.Bool.{and_parts}
use Rattle.std.proofs.lemmas.Option.{same_Some}
use Rattle.bd_base.specs.declared.act.Act.TheVariants as acts
use Rattle.bd_base.specs.declared.act.Token.{Token}
use Rattle.bd_base.specs.declared.act.Token.TheVariants as tokens
use Rattle.bd_base.specs.declared.setup.Setup.{Setup}
use Rattle.bd_machine.specs.declared.state.Id.{Id}
use Rattle.bd_machine.specs.declared.state.Id.TheVariants as ids
use Rattle.bd_machine.specs.declared.state.Kept.{Kept}
use Rattle.bd_machine.specs.declared.state.Kept.TheVariants as keeps
use Rattle.bd_machine.specs.declared.state.News.{News}
use Rattle.bd_machine.specs.declared.state.News.TheVariants as news
use Rattle.bd_machine.specs.declared.state.OpenPiece.{OpenPiece}
use Rattle.bd_machine.specs.declared.state.OpenRequest.{OpenRequest}
use Rattle.bd_machine.specs.declared.state.OpenWalk.{OpenWalk}
use Rattle.bd_machine.specs.declared.state.Part.{Part}
use Rattle.bd_machine.specs.declared.state.Registry.{Registry}
use Rattle.bd_machine.specs.Alone.{held_after}
use Rattle.bd_machine.specs.Kept.{as_piece, as_request, as_walk}
use Rattle.bd_machine.specs.Messages.{count_at, due_after, is_token_here, may_go, may_piece_here_go, may_request_here_go, may_walk_go, moves_put, news_of, sent, token_put}
use Rattle.bd_machine.specs.Same.{same_id}
use Rattle.bd_machine.specs.Table.{write}
use Rattle.bd_machine.specs.View.{View, Move, To, id_of}
use Rattle.bd_turns.specs.declared.queue.Message.{Message}
use Rattle.bd_turns.specs.Local.{Local, sent_by}
use Rattle.bd_thread.specs.declared.links.Links.{Links}
use Rattle.bd_thread.specs.declared.thread.Thread.{Thread}
use Rattle.bd_thread.specs.Seen.{local, local_at, untaken}
use Rattle.bd_steps.specs.Sending.{kept_on_way}
use Rattle.bd_thread.specs.Sent.{may_put}
use Rattle.bd_thread.proofs.Going.{Steps, steps, local_eq, still_shut}

-- ---- what may go is here

request_some : (setup : Setup) (t to : ℕ) (v : View) (r : Option Kept) (req : _) → may_request_here_go setup t req (as_request r) to ≡ true → is_some r ≡ true
request_some setup t to v None req h = h
request_some setup t to v (Some kept) req h = refl

piece_some : (setup : Setup) (t to : ℕ) (v : View) (p : Option Kept) (req : _) → may_piece_here_go setup t v req (as_piece p) to ≡ true → is_some p ≡ true
piece_some setup t to v None req h = h
piece_some setup t to v (Some kept) req h = refl

walk_some : (to : ℕ) (w : Option Kept) (walk : _) → may_walk_go walk (as_walk w) to ≡ true → is_some w ≡ true
walk_some to None walk h = h
walk_some to (Some kept) walk h = refl

on_way_some : (o : Option Kept) → is_some o ≡ true → is_some (option_map sent o) ≡ true
on_way_some None h = h
on_way_some (Some kept) h = refl

-- what may go is kept on its way
pub sent_some : (setup : Setup) (t : ℕ) (v : View) (to number : ℕ) (what : Token) → may_go setup t v to what ≡ true → is_some (kept_on_way what (v.here (id_of t to number what))) ≡ true
sent_some setup t v to number (tokens.Request req) h = on_way_some (v.here (ids.Request req)) (request_some setup t to v (v.here (ids.Request req)) req h)
sent_some setup t v to number (tokens.Piece req k) h = on_way_some (v.here (ids.Piece req k)) (piece_some setup t to v (v.here (ids.Piece req k)) req h)
sent_some setup t v to number (tokens.Walk walk) h = on_way_some (v.here (ids.Walk walk)) (walk_some to (v.here (ids.Walk walk)) walk h)
sent_some setup t v to number (tokens.Mark mark) h = refl
sent_some setup t v to number (tokens.Go req threads) h = refl
sent_some setup t v to number (tokens.Gone handle) h = refl
sent_some setup t v to number (tokens.Channel dev) h = refl
sent_some setup t v to number (tokens.Device dev) h = refl
sent_some setup t v to number (tokens.Grow dev blocks) h = refl
sent_some setup t v to number (tokens.Sized handle blocks) h = refl

-- and what has to be here is
pub sent_here : (setup : Setup) (t : ℕ) (v : View) (to : ℕ) (what : Token) → may_go setup t v to what ≡ true → is_token_here v what ≡ true
sent_here setup t v to (tokens.Request req) h = go (as_request (v.here (ids.Request req))) h
  where
    go : (o : Option OpenRequest) → may_request_here_go setup t req o to ≡ true → is_some o ≡ true
    go None h = h
    go (Some r) h = refl
sent_here setup t v to (tokens.Piece req k) h = go (as_piece (v.here (ids.Piece req k))) h
  where
    go : (o : Option OpenPiece) → may_piece_here_go setup t v req o to ≡ true → is_some o ≡ true
    go None h = h
    go (Some p) h = refl
sent_here setup t v to (tokens.Walk walk) h = go (as_walk (v.here (ids.Walk walk))) h
  where
    go : (o : Option OpenWalk) → may_walk_go walk o to ≡ true → is_some o ≡ true
    go None h = h
    go (Some w) h = refl
sent_here setup t v to (tokens.Mark mark) h = refl
sent_here setup t v to (tokens.Go req threads) h = refl
sent_here setup t v to (tokens.Gone handle) h = refl
sent_here setup t v to (tokens.Channel dev) h = refl
sent_here setup t v to (tokens.Device dev) h = refl
sent_here setup t v to (tokens.Grow dev blocks) h = refl
sent_here setup t v to (tokens.Sized handle blocks) h = refl

-- ---- the one move of a Put

abbrev away : Id → Kept → ℕ → ℕ → List Move
away id kept to number = record { id = id; kept = kept; going = To to number } ∷ []

nothing_some : (kept : Kept) (ms : List Move) → ◌≡◌ {A = Option Kept} None (Some kept) → [] ≡ ms
nothing_some kept ms h = cc

-- a token that is here leaves
token_moves : (id : Id) (to number : ℕ) (kept : Kept) (o : Option Kept) → option_map sent o ≡ Some kept → token_put to number id o ≡ away id kept to number
token_moves id to number kept None h = nothing_some kept (away id kept to number) h
token_moves id to number kept (Some k) h = ap (λ (x : Kept). away id x to number) (same_Some (sent k) kept h)

-- what is sent once is made in the ring
news_moves : (t to number : ℕ) (kept : Kept) (told : News) → Some (keeps.Notice told) ≡ Some kept → away (ids.Notice t to number) (keeps.Notice told) to number ≡ away (ids.Notice t to number) kept to number
news_moves t to number kept told h = ap (λ (x : Kept). away (ids.Notice t to number) x to number) (same_Some (keeps.Notice told) kept h)

put_moves : (t : ℕ) (v : View) (to number : ℕ) (what : Token) (kept : Kept) → kept_on_way what (v.here (id_of t to number what)) ≡ Some kept → moves_put t v to number what ≡ away (id_of t to number what) kept to number
put_moves t v to number (tokens.Request req) kept h = token_moves (ids.Request req) to number kept (v.here (ids.Request req)) h
put_moves t v to number (tokens.Piece req k) kept h = token_moves (ids.Piece req k) to number kept (v.here (ids.Piece req k)) h
put_moves t v to number (tokens.Walk walk) kept h = token_moves (ids.Walk walk) to number kept (v.here (ids.Walk walk)) h
put_moves t v to number (tokens.Mark mark) kept h = news_moves t to number kept (news.Mark mark) h
put_moves t v to number (tokens.Go req threads) kept h = news_moves t to number kept (news.Go req threads) h
put_moves t v to number (tokens.Gone handle) kept h = news_moves t to number kept (news.Gone handle) h
put_moves t v to number (tokens.Channel dev) kept h = news_moves t to number kept (news.Channel dev) h
put_moves t v to number (tokens.Device dev) kept h = news_moves t to number kept (news.Device dev) h
put_moves t v to number (tokens.Grow dev blocks) kept h = news_moves t to number kept (news.Grow dev blocks) h
put_moves t v to number (tokens.Sized handle blocks) kept h = news_moves t to number kept (news.Sized handle blocks) h

pub put_steps : (setup : Setup) (t : ℕ) (p new : Part) (here here' : Id → Option Kept) (registry : Registry) (shut : Bool) (stamp : ℕ) (queues queues' : ℕ → List Message) (to number : ℕ) (what : Token) (kept : Kept)
    → number ≡ count_at p.put to
    → may_go setup t (local_at t p here registry shut stamp queues).view to what ≡ true
    → kept_on_way what (here (id_of t to number what)) ≡ Some kept
    → new ≡ record p { put = write ◌==◌ p.put to (number + 1); due = due_after to (news_of what) p.due }
    → here' ≡ (λ j. cond (same_id (id_of t to number what) j) None (here j))
    → queues' ≡ (λ r. cond (r == to) (queues r ++ record { sender = t; what = what; kept = kept } ∷ []) (queues r))
    → Steps setup t (local_at t p here registry shut stamp queues) (acts.Put to number what) (local_at t (untaken new) here' registry shut (stamp + 1) queues')
put_steps setup t p new here here' registry shut stamp queues queues' to number what kept next may goes part gone queued =
    let l : Local = local_at t p here registry shut stamp queues in
    let l' : Local = local_at t (untaken new) here' registry shut (stamp + 1) queues' in
    let moves : moves_put t l.view to number what ≡ away (id_of t to number what) kept to number = put_moves t l.view to number what kept goes in
    steps setup t l l' (acts.Put to number what) refl refl
    (eq-eqb number (count_at p.put to) next, (sent_here setup t l.view to what may, (may, tt)))
    (local_eq _ l'
    (ap untaken (sym part))
    (ap (λ (ms : List Move). held_after ms here) moves ∙ sym gone)
    refl refl refl (still_shut shut) refl
    (ap (λ (ms : List Move). λ r. cond (r == to) (queues r ++ sent_by t what ms) (queues r)) moves ∙ sym queued))

-- there is a queue, and the token may go there
pub may_parts : (t : Thread) (links : Links) (to : ℕ) (what : Token) → may_put t links to what ≡ true → (nat_lt to (vec_len links.queues) ≡ true) × (may_go t.setup.now t.me (local t links).view to what ≡ true)
may_parts t links to what h = and_parts (nat_lt to (vec_len links.queues)) (may_go t.setup.now t.me (local t links).view to what) h
