-- What a thread took of one sender, of what it took of all.
use Rattle.std.proofs.Common.{◌≡◌, ℕ, ◌<◌, ◌≤◌, Bool, true, false, cond, ◌==◌, List, [], ◌∷◌, ◌++◌, filter, map, refl, sym, ◌∙◌, ap, subst, append_assoc, ne_eqb, arith}
use Rattle.std.specs.List.{AllByRecursion}
use Rattle.std.proofs.lemmas.List.{map-append}
use Rattle.bd_base.specs.declared.act.Act.{Act}
use Rattle.bd_base.specs.declared.act.Act.TheVariants as acts
use Rattle.bd_turns.specs.declared.queue.Message.{Message}
use Rattle.bd_turns.specs.declared.queue.Post.{Post}
use Rattle.bd_ring.specs.Posts.{sent_by}
use Rattle.bd_law_logs.specs.Rows.{Row, message_of, messages, posts}
use Rattle.bd_law_logs.specs.Fits.{taken, taken_in}
use Rattle.bd_law_logs.specs.Loose.{took_stamp, took_stamps, AreLower}
use Rattle.bd_law_logs.specs.Turning.{CarriesOne, HasItsMessage, took_all, took_from, took_in}
use Rattle.bd_law_threads.specs.Course.{stamp_of, take_stamp, take_stamps}

-- ---- messages

-- the messages of one sender
abbrev pub from_sender : ℕ → List Message → List Message
from_sender s ms = filter (λ m. m.sender == s) ms

-- of posts, they are those of the sender's posts
pub from_sender_of : (s : ℕ) (ps : List Post) → from_sender s (map message_of ps) ≡ map message_of (sent_by s ps)
from_sender_of s [] = refl
from_sender_of s (p ∷ ps) = go (p.message.sender == s) (from_sender_of s ps)
  where
    go : (b : Bool) → from_sender s (map message_of ps) ≡ map message_of (sent_by s ps)
        → cond b (p.message ∷ from_sender s (map message_of ps)) (from_sender s (map message_of ps)) ≡ map message_of (cond b (p ∷ sent_by s ps) (sent_by s ps))
    go true e = ap (λ (ms : List Message). p.message ∷ ms) e
    go false e = e

-- where all posts are of threads that exist, there are none of one that doesn't
pub none_sent : (threads s : ℕ) (ps : List Post) → threads ≤ s → AllByRecursion (λ m. m.message.sender < threads) ps → sent_by s ps ≡ []
none_sent threads s [] le h = refl
none_sent threads s (p ∷ ps) le h =
    ap (λ b. cond b (p ∷ sent_by s ps) (sent_by s ps)) (ne_eqb p.message.sender s (λ e. apart e)) ∙ none_sent threads s ps le h.1
  where
    apart : p.message.sender ≡ s → ⊥
    apart e = let low : p.message.sender < threads = h.0 in omega arith

-- what a row took of one sender, of what it took
took_step : (s : ℕ) (act : Act) (ps : List Post) (more : List Message) → CarriesOne act ps
    → from_sender s (took_in act (map message_of ps) ++ more) ≡ map message_of (taken_in s act ps) ++ from_sender s more
took_step s (acts.Took source number what) [] more h = absurd h
took_step s (acts.Took source number what) (p ∷ []) more h =
    subst (λ (k : ℕ). cond (p.message.sender == s) (p.message ∷ from_sender s more) (from_sender s more) ≡ map message_of (cond (k == s) (p ∷ []) []) ++ from_sender s more) h
    (go (p.message.sender == s))
  where
    go : (b : Bool) → cond b (p.message ∷ from_sender s more) (from_sender s more) ≡ map message_of (cond b (p ∷ []) []) ++ from_sender s more
    go true = refl
    go false = refl
took_step s (acts.Took source number what) (p ∷ q ∷ ps) more h = absurd h
took_step s _ ps more h = refl

-- what rows took of one sender, of what they took
pub took_is : (s : ℕ) (rows : List Row) → AllByRecursion HasItsMessage rows → from_sender s (took_all rows) ≡ took_from s rows
took_is s [] h = refl
took_is s (r ∷ rs) h =
    took_step s r.entry.act (posts r.post) (took_all rs) h.0
    ∙ ap (λ (ms : List Message). map message_of (taken_in s r.entry.act (posts r.post)) ++ ms) (took_is s rs h.1)
    ∙ sym (map-append message_of (taken_in s r.entry.act (posts r.post)) (taken s rs))

-- ---- stamps

-- what the rest of the rows keeps, by what the rest of the messages has
abbrev KeepsLower : ℕ → List Message → List ℕ → List ℕ → Type 0
KeepsLower s more stamps own = (left : List Post) → more ≡ map message_of left → AreLower (map stamp_of left) stamps → AreLower (map stamp_of (sent_by s left)) own

-- a row takes the first message with a higher stamp
lower_step : (s : ℕ) (act : Act) (n : ℕ) (ps : List Post) (more : List Message) (stamps own : List ℕ) (arrived : List Post) → CarriesOne act ps
    → took_in act (map message_of ps) ++ more ≡ map message_of arrived
    → AreLower (map stamp_of arrived) (take_stamp act n ++ stamps) → KeepsLower s more stamps own → AreLower (map stamp_of (sent_by s arrived)) (took_stamp s act n ++ own)
lower_step s (acts.Took source number what) n [] more stamps own arrived h e low keeps = absurd h
lower_step s (acts.Took source number what) n (p ∷ []) more stamps own [] h e low keeps = absurd (let bad : p.message ∷ more ≡ [] = e in cc)
lower_step s (acts.Took source number what) n (p ∷ []) more stamps own (a ∷ left) h e low keeps =
    subst (λ (k : ℕ). AreLower (map stamp_of (cond (a.message.sender == s) (a ∷ sent_by s left) (sent_by s left))) (cond (k == s) (n ∷ []) [] ++ own)) source_is
    (go (a.message.sender == s) (keeps left rest low.1))
  where
    both : p.message ∷ more ≡ a.message ∷ map message_of left
    both = e

    first : p.message ≡ a.message
    first = cc

    rest : more ≡ map message_of left
    rest = cc

    source_is : a.message.sender ≡ source
    source_is = sym (ap (λ (m : Message). m.sender) first) ∙ h

    go : (b : Bool) → AreLower (map stamp_of (sent_by s left)) own → AreLower (map stamp_of (cond b (a ∷ sent_by s left) (sent_by s left))) (cond b (n ∷ []) [] ++ own)
    go true k = (low.0, k)
    go false k = k
lower_step s (acts.Took source number what) n (p ∷ q ∷ ps) more stamps own arrived h e low keeps = absurd h
lower_step s _ n ps more stamps own arrived h e low keeps = keeps arrived e low

-- where rows took messages with higher stamps, they took those of each sender so
pub lower_of : (s : ℕ) (rows : List Row) (queue : List Message) (arrived : List Post) → AllByRecursion HasItsMessage rows → took_all rows ++ queue ≡ map message_of arrived
    → AreLower (map stamp_of arrived) (take_stamps rows) → AreLower (map stamp_of (sent_by s arrived)) (took_stamps s rows)
lower_of s [] queue arrived h e low = tt
lower_of s (r ∷ rs) queue arrived h e low =
    lower_step s r.entry.act r.entry.stamp (posts r.post) (took_all rs ++ queue) (take_stamps rs) (took_stamps s rs) arrived h.0
    (sym (append_assoc (took_in r.entry.act (messages r)) (took_all rs) queue) ∙ e) low (λ left is l. lower_of s rs queue left h.1 is l)
