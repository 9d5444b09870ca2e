-- Act by act: a Put sends its token, a Took takes its token in, and every other act leaves queues and counts.
use Rattle.std.proofs.Common.{◌≡◌, ℕ, Bool, true, false, ◌||◌, ◌==◌, List, [], ◌∷◌, Option, Some, None, is_some, refl, sym, ◌∙◌, ap, subst}
use Rattle.std.specs.List.{list_any}
use Rattle.std.proofs.lemmas.Bool.{and_parts}
use Rattle.bd_base.specs.declared.act.Act.{Act}
use Rattle.bd_base.specs.declared.act.Act.TheVariants as acts
use Rattle.bd_base.specs.declared.act.ApplyEnd.{ApplyEnd}
use Rattle.bd_base.specs.declared.act.Token.{Token}
use Rattle.bd_base.specs.declared.act.Token.TheVariants as tokens
use Rattle.bd_base.specs.declared.id.DevId.{DevId}
use Rattle.bd_base.specs.declared.id.ReqId.{ReqId}
use Rattle.bd_base.specs.declared.setup.Setup.{Setup}
use Rattle.bd_machine.specs.declared.state.Base.{Base}
use Rattle.bd_machine.specs.declared.state.Id.{Id}
use Rattle.bd_machine.specs.declared.state.Kept.{Kept}
use Rattle.bd_machine.specs.declared.state.Kept.TheVariants as keeps
use Rattle.bd_machine.specs.declared.state.Due.{Due}
use Rattle.bd_machine.specs.declared.state.News.{News}
use Rattle.bd_machine.specs.declared.state.News.TheVariants as news
use Rattle.bd_machine.specs.declared.state.OpenPiece.{OpenPiece}
use Rattle.bd_machine.specs.Aborts.{aborted}
use Rattle.bd_machine.specs.BlockMap.{size_of}
use Rattle.bd_machine.specs.Delays.{held, released}
use Rattle.bd_machine.specs.Guards.{guards, change, change_by}
use Rattle.bd_machine.specs.Homes.{base_here, change_applied, refused}
use Rattle.bd_machine.specs.Injections.{injected, pended}
use Rattle.bd_machine.specs.Kept.{as_request, as_piece, as_walk, request_here, piece_here, walk_here}
use Rattle.bd_machine.specs.Limits.{passed as let_pass}
use Rattle.bd_machine.specs.Messages.{moves_put, token_put, brings, is_token_here, may_go, is_due_to}
use Rattle.bd_machine.specs.Same.{same_dev, same_news}
use Rattle.bd_machine.specs.View.{View, Came, Change, Move, To, took, id_of}
use Rattle.bd_machine.specs.Walks.{marked_by}
use Rattle.bd_machine.proofs.Acts.{Passes, passed, TakesFrom}
use Rattle.bd_machine.proofs.Parts.{Core, is_plain, taken_by_act, plain_grows}
use Rattle.bd_turns.specs.declared.queue.Message.{Message}
use Rattle.bd_machine.proofs.Tables.{dev_exact}
use Rattle.bd_turns.specs.Local.{queue_after}
use Rattle.bd_turns.specs.Told.{is_device, is_device_kept, is_device_due}
use Rattle.bd_turns.proofs.Homing.{AreHome, walked_if_home, edited_home, piece_home, cut_home, closed_home, applied_home, reg_home}

-- ---- put

abbrev pub put_move : ℕ → ℕ → ℕ → Token → Kept → Move
put_move t to number what kept = record { id = id_of t to number what; kept = kept; going = To to number }

-- the one token that a Put moves; a device that it tells of was due
pub record Sends (t : ℕ) (v : View) (to number : ℕ) (what : Token) : Type 0 where
  pub kept : Kept
  pub moves_are : moves_put t v to number what ≡ put_move t to number what kept ∷ []
  pub tells : (dev : DevId) → is_device_kept dev kept ≡ true → list_any (is_device_due dev) v.part.due ≡ true

none_goes : {P : Type 0} → false ≡ true → P
none_goes h = absurd (let x : false ≡ true = h in cc)

-- a token that is here is sent, and is no notice
record IsSent (to number : ℕ) (id : Id) (x : Option Kept) : Type 0 where
  kept : Kept
  moves_are : token_put to number id x ≡ record { id = id; kept = kept; going = To to number } ∷ []
  plain : (dev : DevId) → is_device_kept dev kept ≡ false

request_sent : (to number : ℕ) (id : Id) (x : Option Kept) → is_some (as_request x) ≡ true → IsSent to number id x
request_sent to number id None h = none_goes h
request_sent to number id (Some (keeps.Request r)) h = record { kept = _; moves_are = refl; plain = λ dev. refl }
request_sent to number id (Some (keeps.Piece p)) h = none_goes h
request_sent to number id (Some (keeps.Walk w)) h = none_goes h
request_sent to number id (Some (keeps.Notice n)) h = none_goes h

piece_sent : (to number : ℕ) (id : Id) (x : Option Kept) → is_some (as_piece x) ≡ true → IsSent to number id x
piece_sent to number id None h = none_goes h
piece_sent to number id (Some (keeps.Request r)) h = none_goes h
piece_sent to number id (Some (keeps.Piece p)) h = record { kept = _; moves_are = refl; plain = λ dev. refl }
piece_sent to number id (Some (keeps.Walk w)) h = none_goes h
piece_sent to number id (Some (keeps.Notice n)) h = none_goes h

walk_sent : (to number : ℕ) (id : Id) (x : Option Kept) → is_some (as_walk x) ≡ true → IsSent to number id x
walk_sent to number id None h = none_goes h
walk_sent to number id (Some (keeps.Request r)) h = none_goes h
walk_sent to number id (Some (keeps.Piece p)) h = none_goes h
walk_sent to number id (Some (keeps.Walk w)) h = record { kept = _; moves_are = refl; plain = λ dev. refl }
walk_sent to number id (Some (keeps.Notice n)) h = none_goes h

untold : {P : Type 0} (b : Bool) → b ≡ false → b ≡ true → P
untold true h k = none_goes (sym h)
untold false h k = none_goes k

-- a device's news that is due
due_told : (to : ℕ) (d dev : DevId) (due : List Due) → same_dev dev d ≡ true → list_any (is_due_to to (news.Device d)) due ≡ true → list_any (is_device_due dev) due ≡ true
due_told to d dev [] e h = none_goes h
due_told to d dev (x ∷ xs) e h = go (is_due_to to (news.Device d) x) refl h (due_told to d dev xs e)
  where
    first : (n : News) → same_news n (news.Device d) ≡ true → is_device dev n ≡ true
    first (news.Device c) k = subst (λ (x : DevId). same_dev dev x ≡ true) (sym (dev_exact c d k)) e
    first (news.Mark m) k = none_goes k
    first (news.Gone m) k = none_goes k
    first (news.Channel m) k = none_goes k
    first (news.Go m ts) k = none_goes k
    first (news.Grow m n) k = none_goes k
    first (news.Sized m n) k = none_goes k

    more : (b c : Bool) → c ≡ true → (b || c) ≡ true
    more true c k = refl
    more false c k = k

    go : (b : Bool) → is_due_to to (news.Device d) x ≡ b → (b || list_any (is_due_to to (news.Device d)) xs) ≡ true → (list_any (is_due_to to (news.Device d)) xs ≡ true → list_any (is_device_due dev) xs ≡ true) → (is_device_due dev x || list_any (is_device_due dev) xs) ≡ true
    go true k h rest = ap (λ b. b || list_any (is_device_due dev) xs) (first x.news (and_parts (x.receiver == to) (same_news x.news (news.Device d)) k).1)
    go false k h rest = more (is_device_due dev x) (list_any (is_device_due dev) xs) (rest h)

sends_by : (setup : Setup) (t : ℕ) (v : View) (to number : ℕ) (what : Token) → is_token_here v what ≡ true → may_go setup t v to what ≡ true → Sends t v to number what
sends_by setup t v to number (tokens.Request req) here goes = let i : Id = id_of t to number (tokens.Request req) in let p = request_sent to number i (v.here i) here in record { kept = p.kept; moves_are = p.moves_are; tells = λ dev k. untold (is_device_kept dev p.kept) (p.plain dev) k }
sends_by setup t v to number (tokens.Piece req k) here goes = let i : Id = id_of t to number (tokens.Piece req k) in let p = piece_sent to number i (v.here i) here in record { kept = p.kept; moves_are = p.moves_are; tells = λ dev k. untold (is_device_kept dev p.kept) (p.plain dev) k }
sends_by setup t v to number (tokens.Walk walk) here goes = let i : Id = id_of t to number (tokens.Walk walk) in let p = walk_sent to number i (v.here i) here in record { kept = p.kept; moves_are = p.moves_are; tells = λ dev k. untold (is_device_kept dev p.kept) (p.plain dev) k }
sends_by setup t v to number (tokens.Mark mark) here goes = record { kept = keeps.Notice (news.Mark mark); moves_are = refl; tells = λ dev k. none_goes k }
sends_by setup t v to number (tokens.Gone handle) here goes = record { kept = keeps.Notice (news.Gone handle); moves_are = refl; tells = λ dev k. none_goes k }
sends_by setup t v to number (tokens.Channel d) here goes = record { kept = keeps.Notice (news.Channel d); moves_are = refl; tells = λ dev k. none_goes k }
sends_by setup t v to number (tokens.Device d) here goes = record { kept = keeps.Notice (news.Device d); moves_are = refl; tells = λ dev k. due_told to d dev v.part.due k goes }
sends_by setup t v to number (tokens.Go req threads) here goes = record { kept = keeps.Notice (news.Go req threads); moves_are = refl; tells = λ dev k. none_goes k }
sends_by setup t v to number (tokens.Grow d blocks) here goes = record { kept = keeps.Notice (news.Grow d blocks); moves_are = refl; tells = λ dev k. none_goes k }
sends_by setup t v to number (tokens.Sized handle blocks) here goes = record { kept = keeps.Notice (news.Sized handle blocks); moves_are = refl; tells = λ dev k. none_goes k }

pub sends : (setup : Setup) (t : ℕ) (v : View) (came : Came) (to number : ℕ) (what : Token) → Passes (guards setup t v (acts.Put to number what) came) → Sends t v to number what
sends setup t v came to number what h =
    let ok = passed (guards setup t v (acts.Put to number what) came) h in
    sends_by setup t v to number what ok.1.0 ok.1.1.0

-- ---- took

pub brings_some : (what : Token) (o : Option Kept) → brings what o ≡ true → is_some o ≡ true
brings_some what (Some kept) h = refl
brings_some what None h = none_goes h

pub took_taken : (setup : Setup) (t : ℕ) (v : View) (came : Came) (source number : ℕ) (what : Token) → (change setup t v (acts.Took source number what) came).part.taken ≡ taken_by_act (acts.Took source number what) v.part.taken
took_taken setup t v came source number what = ap (λ (c : Core). c.taken) (plain_grows setup t v (acts.Took source number what) came refl).rest

pub took_put : (setup : Setup) (t : ℕ) (v : View) (came : Came) (source number : ℕ) (what : Token) → (change setup t v (acts.Took source number what) came).part.put ≡ v.part.put
took_put setup t v came source number what = ap (λ (c : Core). c.put) (plain_grows setup t v (acts.Took source number what) came refl).rest

-- ---- every other act

-- an act that puts and takes no message
pub record IsQuiet (t : ℕ) (v : View) (act : Act) (c : Change) : Type 0 where
  pub put_is : c.part.put ≡ v.part.put
  pub taken_is : c.part.taken ≡ v.part.taken
  pub none_taken : (a k : ℕ) → TakesFrom (took act) a k → ⊥
  pub homes : AreHome c.moves
  pub queue_is : (r : ℕ) (queue : List Message) → queue_after t act c.moves r queue ≡ queue

-- one that is plain
pub record IsStill (t : ℕ) (act : Act) : Type 0 where
  pub plain : is_plain act ≡ true
  pub taken : (table : List (ℕ × ℕ)) → taken_by_act act table ≡ table
  pub none_taken : (a k : ℕ) → TakesFrom (took act) a k → ⊥
  pub queue_is : (moves : List Move) (r : ℕ) (queue : List Message) → queue_after t act moves r queue ≡ queue

quiet_if : (setup : Setup) (t : ℕ) (v : View) (came : Came) (act : Act) → IsStill t act → AreHome (change_by setup t v act came).moves → IsQuiet t v act (change setup t v act came)
quiet_if setup t v came act still homes =
    let grows = plain_grows setup t v act came still.plain in
    record {
      put_is = ap (λ (c : Core). c.put) grows.rest;
      taken_is = ap (λ (c : Core). c.taken) grows.rest ∙ still.taken v.part.taken;
      none_taken = still.none_taken;
      homes = homes;
      queue_is = λ r queue. still.queue_is (change setup t v act came).moves r queue;
    }

applied_quiet : (setup : Setup) (t : ℕ) (v : View) (req : ReqId) (k : ℕ) (dev : DevId) (end : ApplyEnd) (size : ℕ) (x : Option OpenPiece) (b : Option Base) → ((change_applied v req k dev end size x b).part.put ≡ v.part.put) × ((change_applied v req k dev end size x b).part.taken ≡ v.part.taken)
applied_quiet setup t v req k dev end size (Some p) (Some b) = (refl, refl)
applied_quiet setup t v req k dev end size _ _ = (refl, refl)

-- what an act is
pub data Kind (setup : Setup) (t : ℕ) (v : View) (came : Came) (act : Act) : Type 0 where
  Puts : (to number : ℕ) (what : Token) → act ≡ acts.Put to number what → Kind setup t v came act
  Tooks : (source number : ℕ) (what : Token) → act ≡ acts.Took source number what → Kind setup t v came act
  Quiet : IsQuiet t v act (change setup t v act came) → Kind setup t v came act

pub kind_of : (setup : Setup) (t : ℕ) (v : View) (came : Came) (act : Act) → Kind setup t v came act
kind_of setup t v came (acts.Put to number what) = Puts to number what refl
kind_of setup t v came (acts.Took source number what) = Tooks source number what refl
kind_of setup t v came (acts.Accept dev lba handle req op count) = Quiet (record { put_is = refl; taken_is = refl; none_taken = λ a n h. h; homes = ((tt, refl), tt); queue_is = λ r q. refl })
kind_of setup t v came (acts.Destruct dev digest) = Quiet (record { put_is = refl; taken_is = refl; none_taken = λ a n h. h; homes = tt; queue_is = λ r q. refl })
kind_of setup t v came (acts.Apply req k dev end) =
    let p = applied_quiet setup t v req k dev end (size_of setup dev) (piece_here v req k) (base_here v dev) in
    Quiet (record { put_is = p.0; taken_is = p.1; none_taken = λ a n h. h; homes = applied_home v req k dev end (size_of setup dev) (piece_here v req k) (base_here v dev); queue_is = λ r q. refl })
kind_of setup t v came (acts.Reg event answer) = Quiet (quiet_if setup t v came (acts.Reg event answer) (record { plain = refl; taken = λ l. refl; none_taken = λ a n h. h; queue_is = λ ms r q. refl }) (reg_home setup t v came event answer))
kind_of setup t v came (acts.Inject req dev decision) = Quiet (quiet_if setup t v came (acts.Inject req dev decision) (record { plain = refl; taken = λ l. refl; none_taken = λ a n h. h; queue_is = λ ms r q. refl }) (edited_home req (injected decision) (request_here v req)))
kind_of setup t v came (acts.Pend req) = Quiet (quiet_if setup t v came (acts.Pend req) (record { plain = refl; taken = λ l. refl; none_taken = λ a n h. h; queue_is = λ ms r q. refl }) (edited_home req pended (request_here v req)))
kind_of setup t v came (acts.Let req dev now) = Quiet (quiet_if setup t v came (acts.Let req dev now) (record { plain = refl; taken = λ l. refl; none_taken = λ a n h. h; queue_is = λ ms r q. refl }) (edited_home req let_pass (request_here v req)))
kind_of setup t v came (acts.Cut req pieces) = Quiet (quiet_if setup t v came (acts.Cut req pieces) (record { plain = refl; taken = λ l. refl; none_taken = λ a n h. h; queue_is = λ ms r q. refl }) (cut_home setup req pieces (request_here v req)))
kind_of setup t v came (acts.NoMem req k dev) = Quiet (quiet_if setup t v came (acts.NoMem req k dev) (record { plain = refl; taken = λ l. refl; none_taken = λ a n h. h; queue_is = λ ms r q. refl }) (piece_home req k refused (piece_here v req k)))
kind_of setup t v came (acts.Hold req until) = Quiet (quiet_if setup t v came (acts.Hold req until) (record { plain = refl; taken = λ l. refl; none_taken = λ a n h. h; queue_is = λ ms r q. refl }) (edited_home req (held setup v.part until) (request_here v req)))
kind_of setup t v came (acts.Release req now) = Quiet (quiet_if setup t v came (acts.Release req now) (record { plain = refl; taken = λ l. refl; none_taken = λ a n h. h; queue_is = λ ms r q. refl }) (edited_home req released (request_here v req)))
kind_of setup t v came (acts.Abort req cause) = Quiet (quiet_if setup t v came (acts.Abort req cause) (record { plain = refl; taken = λ l. refl; none_taken = λ a n h. h; queue_is = λ ms r q. refl }) (edited_home req (aborted cause) (request_here v req)))
kind_of setup t v came (acts.Complete req status shown) = Quiet (quiet_if setup t v came (acts.Complete req status shown) (record { plain = refl; taken = λ l. refl; none_taken = λ a n h. h; queue_is = λ ms r q. refl }) (closed_home v req (request_here v req)))
kind_of setup t v came (acts.Visit walk dev kind) = Quiet (quiet_if setup t v came (acts.Visit walk dev kind) (record { plain = refl; taken = λ l. refl; none_taken = λ a n h. h; queue_is = λ ms r q. refl }) (walked_if_home t walk (marked_by setup t v walk dev kind) (walk_here v walk)))
kind_of setup t v came (acts.Refuse errno lba handle op count) = Quiet (quiet_if setup t v came (acts.Refuse errno lba handle op count) (record { plain = refl; taken = λ l. refl; none_taken = λ a n h. h; queue_is = λ ms r q. refl }) (tt))
kind_of setup t v came (acts.Grow dev blocks) = Quiet (record { put_is = refl; taken_is = refl; none_taken = λ a n h. h; homes = tt; queue_is = λ r q. refl })
kind_of setup t v came (acts.Grace walk until) = Quiet (quiet_if setup t v came (acts.Grace walk until) (record { plain = refl; taken = λ l. refl; none_taken = λ a n h. h; queue_is = λ ms r q. refl }) (tt))
kind_of setup t v came (acts.Due walk now) = Quiet (quiet_if setup t v came (acts.Due walk now) (record { plain = refl; taken = λ l. refl; none_taken = λ a n h. h; queue_is = λ ms r q. refl }) (tt))
kind_of setup t v came (acts.Tick dev now slices) = Quiet (record { put_is = refl; taken_is = refl; none_taken = λ a n h. h; homes = tt; queue_is = λ r q. refl })
kind_of setup t v came (acts.Script line outcome) = Quiet (quiet_if setup t v came (acts.Script line outcome) (record { plain = refl; taken = λ l. refl; none_taken = λ a n h. h; queue_is = λ ms r q. refl }) (tt))
kind_of setup t v came acts.Shutdown = Quiet (quiet_if setup t v came acts.Shutdown (record { plain = refl; taken = λ l. refl; none_taken = λ a n h. h; queue_is = λ ms r q. refl }) (tt))
