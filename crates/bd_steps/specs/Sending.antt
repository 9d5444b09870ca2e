-- Where a walk goes next, and what is kept of a token on its way.
use Rattle.std.specs.Prelude.{ℕ, cond, ◌&&◌, List, [], ◌∷◌, Option, Some, None, unwrap_or}
use Rattle.std.specs.Option.{option_map}
use Rattle.bd_base.specs.declared.act.Token.{Token}
use Rattle.bd_base.specs.declared.act.Token.TheVariants as tokens
use Rattle.bd_base.specs.declared.id.WalkId.{WalkId}
use Rattle.bd_machine.specs.declared.state.Due.{Due}
use Rattle.bd_machine.specs.declared.state.Kept.{Kept}
use Rattle.bd_machine.specs.declared.state.Kept.TheVariants as keeps
use Rattle.bd_machine.specs.declared.state.News.{News}
use Rattle.bd_machine.specs.declared.state.News.TheVariants as news
use Rattle.bd_machine.specs.declared.state.OpenWalk.{OpenWalk}
use Rattle.bd_machine.specs.Messages.{brings, news_of, sent}
use Rattle.bd_machine.specs.Threads.{first_of}
use Rattle.bd_machine.specs.Walks.{is_at_end}
use Rattle.bd_turns.specs.declared.queue.Message.{Message}
use Rattle.bd_links.specs.Queues.{is_full}

-- ---- walks

-- a walk is to be put to the least thread left, and then back to the one that began it
abbrev pub bound_for : WalkId → OpenWalk → List (ℕ × Token)
bound_for walk w = (unwrap_or (first_of w.left) walk.thread, tokens.Walk walk) ∷ []

-- a walk that goes on is to be put; one that ends isn't
abbrev pub goes_on : ℕ → WalkId → OpenWalk → List (ℕ × Token)
goes_on me walk w = cond (is_at_end me walk w) [] (bound_for walk w)

-- a walk that begins is to be put to where it goes first
abbrev pub sent_off : Option (WalkId × OpenWalk) → List (ℕ × Token)
sent_off None = []
sent_off (Some walk) = bound_for walk.0 walk.1

-- ---- messages

-- what is kept of a token on its way, where this is kept of it here: a request or a piece is out, or on its way back; what is sent once is only told
abbrev pub on_way : Option News → Option Kept → Option Kept
on_way None here = option_map sent here
on_way (Some told) here = Some (keeps.Notice told)

abbrev pub kept_on_way : Token → Option Kept → Option Kept
kept_on_way what here = on_way (news_of what) here

abbrev pub token_of : News → Token
token_of (news.Mark mark) = tokens.Mark mark
token_of (news.Gone handle) = tokens.Gone handle
token_of (news.Channel dev) = tokens.Channel dev
token_of (news.Device dev) = tokens.Device dev
token_of (news.Go req threads) = tokens.Go req threads
token_of (news.Grow dev blocks) = tokens.Grow dev blocks
token_of (news.Sized handle blocks) = tokens.Sized handle blocks

-- the first message that is due, and where it is to go, while the queue there isn't full
abbrev pub first_due : List (List Message) → List Due → Option (ℕ × Token)
first_due queues [] = None
first_due queues (d ∷ ds) = cond (is_full queues d.receiver) None (Some (d.receiver, token_of d.news))

-- the first message, where it brings the token that it names
abbrev pub first_brought : List Message → Option Message
first_brought [] = None
first_brought (m ∷ ms) = cond (brings m.what (Some m.kept)) (Some m) None
