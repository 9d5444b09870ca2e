-- Lists of rows, one after another: what is said of both is said of the whole, and what one row adds.
use Rattle.std.proofs.Common.{◌≡◌, ℕ, suc, ◌+◌, ◌<◌, ◌≤◌, Bool, true, false, cond, ◌==◌, List, [], ◌∷◌, ◌++◌, filter, length, map, Option, Some, None, refl, sym, ◌∙◌, ap, subst, append_assoc, append-nil, length-append, arith}
use Rattle.std.specs.List.{AllByRecursion}
use Rattle.std.proofs.lemmas.List.{map-append, length-map}
use Rattle.std.proofs.lemmas.List.Elements.{filter-append}
use Rattle.bd_base.specs.declared.act.Act.{Act}
use Rattle.bd_base.specs.declared.act.Act.TheVariants as acts
use Rattle.bd_base.specs.declared.act.Entry.{Entry}
use Rattle.bd_base.specs.declared.act.Token.{Token}
use Rattle.bd_base.specs.declared.setup.Setup.{Setup}
use Rattle.bd_machine.specs.declared.state.Registry.{Registry}
use Rattle.bd_machine.specs.Changes.{registry_after}
use Rattle.bd_machine.specs.Registry.{Question}
use Rattle.bd_machine.specs.Step.{is_shutdown}
use Rattle.bd_machine.specs.View.{View, Change, Move, asked}
use Rattle.bd_turns.specs.declared.queue.Message.{Message}
use Rattle.bd_turns.specs.declared.queue.Post.{Post}
use Rattle.bd_turns.specs.Local.{sent_by}
use Rattle.bd_log.specs.Merge.{entries_of}
use Rattle.bd_law_logs.specs.Rows.{Row, entry_of, entries, posts, message_of, messages, view_after, CarriesBy, Carries, Accepts}
use Rattle.bd_law_logs.specs.Journals.{is_event, events, events_by, registry_next, registry_by, between_for, followed_from, Event}
use Rattle.bd_law_logs.specs.Fits.{event_of, events_in, sent_in, sent}
use Rattle.bd_law_logs.specs.Loose.{put_stamp, put_stamps, AreLower}
use Rattle.bd_law_logs.specs.Turning.{put_to, took_in, took_all, CarriesOne, HasItsMessage}
use Rattle.bd_law_logs.proofs.Journal.{none_asked}
use Rattle.bd_law_threads.specs.Course.{stamp_of, take_stamp, take_stamps}
use Rattle.bd_law_threads.proofs.Lists.{lower_more}

-- ---- messages and stamps of rows

-- what two lists of rows took
pub took_all_on : (as' bs : List Row) → took_all (as' ++ bs) ≡ took_all as' ++ took_all bs
took_all_on [] bs = refl
took_all_on (r ∷ rs) bs = ap (λ (ms : List Message). took_in r.entry.act (messages r) ++ ms) (took_all_on rs bs) ∙ sym (append_assoc (took_in r.entry.act (messages r)) (took_all rs) (took_all bs))

-- the posts that they put
sent_on : (u : ℕ) (as' bs : List Row) → sent u (as' ++ bs) ≡ sent u as' ++ sent u bs
sent_on u [] bs = refl
sent_on u (r ∷ rs) bs = ap (λ (ps : List Post). sent_in u r.entry.act (posts r.post) ++ ps) (sent_on u rs bs) ∙ sym (append_assoc (sent_in u r.entry.act (posts r.post)) (sent u rs) (sent u bs))

-- what they put
pub put_to_on : (u : ℕ) (as' bs : List Row) → put_to u (as' ++ bs) ≡ put_to u as' ++ put_to u bs
put_to_on u as' bs = ap (λ (ps : List Post). map message_of ps) (sent_on u as' bs) ∙ map-append message_of (sent u as') (sent u bs)

-- the stamps of their Puts
pub put_stamps_on : (u : ℕ) (as' bs : List Row) → put_stamps u (as' ++ bs) ≡ put_stamps u as' ++ put_stamps u bs
put_stamps_on u [] bs = refl
put_stamps_on u (r ∷ rs) bs =
    ap (λ (ns : List ℕ). put_stamp u r.entry.act r.entry.stamp ++ ns) (put_stamps_on u rs bs)
    ∙ sym (append_assoc (put_stamp u r.entry.act r.entry.stamp) (put_stamps u rs) (put_stamps u bs))

-- the stamps of their Tooks
pub take_stamps_on : (as' bs : List Row) → take_stamps (as' ++ bs) ≡ take_stamps as' ++ take_stamps bs
take_stamps_on [] bs = refl
take_stamps_on (r ∷ rs) bs =
    ap (λ (ns : List ℕ). take_stamp r.entry.act r.entry.stamp ++ ns) (take_stamps_on rs bs)
    ∙ sym (append_assoc (take_stamp r.entry.act r.entry.stamp) (take_stamps rs) (take_stamps bs))

-- rows that have their messages took as many as there are stamps of Tooks
pub take_lengths : (rows : List Row) → AllByRecursion HasItsMessage rows → length (take_stamps rows) ≡ length (took_all rows)
take_lengths [] h = refl
take_lengths (r ∷ rs) h = step r.entry.act r.entry.stamp r.post (take_stamps rs) (took_all rs) h.0 (take_lengths rs h.1)
  where
    step : (act : Act) (n : ℕ) (o : Option Post) (ns : List ℕ) (ms : List Message) → CarriesOne act (posts o) → length ns ≡ length ms
        → length (take_stamp act n ++ ns) ≡ length (took_in act (map message_of (posts o)) ++ ms)
    step (acts.Took source number what) n None ns ms one e = absurd one
    step (acts.Took source number what) n (Some p) ns ms one e = ap suc e
    step _ n o ns ms one e = e

-- a row has as many stamps of a Put to a thread as it has posts to it
put_one : (r : ℕ) (act : Act) (n : ℕ) (o : Option Post) → CarriesOne act (posts o) → length (put_stamp r act n) ≡ length (sent_in r act (posts o))
put_one r (acts.Put to number what) n None h = absurd h
put_one r (acts.Put to number what) n (Some p) h = go (to == r)
  where
    go : (b : Bool) → length (cond b (n ∷ []) []) ≡ length (cond b (p ∷ []) [])
    go true = refl
    go false = refl
put_one r _ n o h = refl

-- so have rows
sent_count : (r : ℕ) (rows : List Row) → AllByRecursion HasItsMessage rows → length (put_stamps r rows) ≡ length (sent r rows)
sent_count r [] h = refl
sent_count r (x ∷ xs) h =
    let one = put_one r x.entry.act x.entry.stamp x.post h.0 in
    let more = sent_count r xs h.1 in
    let left = length-append (put_stamp r x.entry.act x.entry.stamp) (put_stamps r xs) in
    let right = length-append (sent_in r x.entry.act (posts x.post)) (sent r xs) in
    omega arith

-- to each message that rows put to a thread there is one stamp
pub put_count : (r : ℕ) (rows : List Row) → AllByRecursion HasItsMessage rows → length (put_stamps r rows) ≡ length (put_to r rows)
put_count r rows h = sent_count r rows h ∙ sym (length-map (sent r rows) message_of)

-- a stamp of a Put within the last, before others within it
put_within : (r last : ℕ) (act : Act) (n : ℕ) (rest : List ℕ) → n ≤ last → AllByRecursion (λ k. k ≤ last) rest → AllByRecursion (λ k. k ≤ last) (put_stamp r act n ++ rest)
put_within r last (acts.Put to number what) n rest le h = go (to == r)
  where
    go : (b : Bool) → AllByRecursion (λ k. k ≤ last) (cond b (n ∷ []) [] ++ rest)
    go true = (le, h)
    go false = h
put_within r last _ n rest le h = h

-- the stamps of what rows put are within the last where the rows' are
pub puts_within : (r last : ℕ) (rows : List Row) → AllByRecursion (λ x. x.entry.stamp ≤ last) rows → AllByRecursion (λ k. k ≤ last) (put_stamps r rows)
puts_within r last [] h = tt
puts_within r last (x ∷ xs) h = put_within r last x.entry.act x.entry.stamp (put_stamps r xs) h.0 (puts_within r last xs h.1)

-- ---- entries and the registry

-- the entries of two lists of rows
pub entries_on : (as' bs : List Row) → entries (as' ++ bs) ≡ entries as' ++ entries bs
entries_on as' bs = map-append entry_of as' bs

-- their events
pub events_on : (as' bs : List Row) → events (entries (as' ++ bs)) ≡ events (entries as') ++ events (entries bs)
events_on as' bs = ap events (map-append entry_of as' bs) ∙ filter-append is_event (entries as') (entries bs)

-- each with what had to follow
pub events_in_on : (as' bs : List Row) → events_in (as' ++ bs) ≡ events_in as' ++ events_in bs
events_in_on as' bs =
    ap (λ (rows : List Row). map event_of rows) (filter-append (λ r. is_event r.entry) as' bs)
    ∙ map-append event_of (filter (λ r. is_event r.entry) as') (filter (λ r. is_event r.entry) bs)

-- the registry that two lists of entries leave
pub registry_on : (setup : Setup) (registry : Registry) (xs ys : List Entry) → registry_by setup registry (xs ++ ys) ≡ registry_by setup (registry_by setup registry xs) ys
registry_on setup registry [] ys = refl
registry_on setup registry (x ∷ xs) ys = registry_on setup (registry_next setup registry x) xs ys

-- the entries that are no events leave the registry as it is
pub registry_of_events : (setup : Setup) (registry : Registry) (es : List Entry) → registry_by setup registry (events es) ≡ registry_by setup registry es
registry_of_events setup registry [] = refl
registry_of_events setup registry (e ∷ es) = go (is_event e) refl (λ g. registry_of_events setup g es)
  where
    go : (b : Bool) → is_event e ≡ b → ((g : Registry) → registry_by setup g (events es) ≡ registry_by setup g es)
        → registry_by setup registry (cond b (e ∷ events es) (events es)) ≡ registry_by setup (registry_after setup registry e.thread (asked e.act)) es
    go true is rest = rest (registry_after setup registry e.thread (asked e.act))
    go false is rest = rest registry ∙ sym (ap (λ (o : Option Question). registry_by setup (registry_after setup registry e.thread o) es) (none_asked (asked e.act) (is_shutdown e.act) is))

-- what had to follow at each of two lists of entries
pub followed_on : (setup : Setup) (registry : Registry) (xs ys : List Entry)
    → followed_from setup registry (xs ++ ys) ≡ followed_from setup registry xs ++ followed_from setup (registry_by setup registry xs) ys
followed_on setup registry [] ys = refl
followed_on setup registry (x ∷ xs) ys = ap (λ (js : List Event). record { entry = x; between = between_for registry x } ∷ js) (followed_on setup (registry_next setup registry x) xs ys)

-- nothing had to follow for a thread of which there are no entries
pub none_followed : (setup : Setup) (registry : Registry) (t : ℕ) (es : List Entry) → entries_of t es ≡ [] → events_by t (followed_from setup registry es) ≡ []
none_followed setup registry t [] h = refl
none_followed setup registry t (e ∷ es) h = go (e.thread == t) h (λ k. none_followed setup (registry_next setup registry e) t es k)
  where
    more : List Event
    more = followed_from setup (registry_next setup registry e) es

    go : (b : Bool) → cond b (e ∷ entries_of t es) (entries_of t es) ≡ [] → (entries_of t es ≡ [] → events_by t more ≡ [])
        → cond b (record { entry = e; between = between_for registry e } ∷ events_by t more) (events_by t more) ≡ []
    go true k rest = absurd (let bad : e ∷ entries_of t es ≡ [] = k in cc)
    go false k rest = rest k

-- ---- rows that are accepted

-- rows are accepted one list after another
pub accepts_on : (setup : Setup) (shut : Bool) (t : ℕ) (u v w : View) (as' bs : List Row) → Accepts setup shut t u as' v → Accepts setup shut t v bs w → Accepts setup shut t u (as' ++ bs) w
accepts_on setup shut t u v w [] bs h k = subst (λ (x : View). Accepts setup shut t x bs w) (sym h) k
accepts_on setup shut t u v w (r ∷ rs) bs h k = (h.0, h.1, h.2, h.3, accepts_on setup shut t (view_after setup shut t u r) v w rs bs h.4 k)

-- ---- one row

-- messages with this stamp
abbrev pub at_stamp : ℕ → List Message → List Post
at_stamp n ms = map (λ m. record { message = m; stamp = n }) ms

-- are those messages
pub messages_at : (n : ℕ) (ms : List Message) → map message_of (at_stamp n ms) ≡ ms
messages_at n [] = refl
messages_at n (m ∷ ms) = ap (λ (xs : List Message). m ∷ xs) (messages_at n ms)

-- the stamps of what a row put are those of its Put
pub stamps_at : (u : ℕ) (r : Row) → HasItsMessage r → map stamp_of (at_stamp r.entry.stamp (put_to u (r ∷ []))) ≡ put_stamps u (r ∷ [])
stamps_at u r h = go r.entry.act r.entry.stamp r.post h
  where
    go : (act : Act) (n : ℕ) (o : Option Post) → CarriesOne act (posts o) → map stamp_of (at_stamp n (map message_of (sent_in u act (posts o) ++ []))) ≡ put_stamp u act n ++ []
    go (acts.Put to number what) n None one = absurd one
    go (acts.Put to number what) n (Some p) one = by (to == u)
      where
        by : (b : Bool) → map stamp_of (at_stamp n (map message_of (cond b (p ∷ []) [] ++ []))) ≡ cond b (n ∷ []) [] ++ []
        by true = refl
        by false = refl
    go _ n o one = refl

-- a Put's messages are from its thread
moved_senders : (t : ℕ) (what : Token) (moves : List Move) → AllByRecursion (λ m. m.sender ≡ t) (sent_by t what moves)
moved_senders t what [] = tt
moved_senders t what (m ∷ ms) = (refl, moved_senders t what ms)

-- what a row of a thread put is from that thread
pub put_senders : (setup : Setup) (shut : Bool) (t : ℕ) (v : View) (r : Row) (u : ℕ) → Carries setup shut t v r → AllByRecursion (λ m. m.sender ≡ t) (put_to u (r ∷ []))
put_senders setup shut t v r u h = go r.entry.act _ r.post h
  where
    go : (act : Act) (c : Change) (o : Option Post) → CarriesBy act t c (map message_of (posts o)) → AllByRecursion (λ m. m.sender ≡ t) (map message_of (sent_in u act (posts o) ++ []))
    go (acts.Put to number what) c o carries = by (to == u)
      where
        all : AllByRecursion (λ m. m.sender ≡ t) (map message_of (posts o))
        all = subst (λ (ms : List Message). AllByRecursion (λ m. m.sender ≡ t) ms) (sym carries) (moved_senders t what c.moves)

        by : (b : Bool) → AllByRecursion (λ m. m.sender ≡ t) (map message_of (cond b (posts o) [] ++ []))
        by true = subst (λ (ps : List Post). AllByRecursion (λ m. m.sender ≡ t) (map message_of ps)) (sym (append-nil (posts o))) all
        by false = tt
    go _ c o carries = tt

-- a row whose Took took the first of a queue, where all that came has lower stamps
pub lower_row : (t n : ℕ) (act : Act) (o : Option Post) (queue left : List Message) (xs ys : List ℕ) → CarriesOne act (posts o)
    → (took_in act (map message_of (posts o)) ++ []) ++ left ≡ queue ++ map message_of (sent_in t act (posts o) ++ []) → length ys + length queue ≡ length xs
    → AllByRecursion (λ x. x < n) xs → AreLower xs ys → AreLower xs (ys ++ (take_stamp act n ++ []))
lower_row t n (acts.Took source number what) None queue left xs ys one is sizes all h = absurd one
lower_row t n (acts.Took source number what) (Some p) queue left xs ys one is sizes all h = lower_more n xs ys h all (some queue is sizes)
  where
    some : (q : List Message) → p.message ∷ left ≡ q ++ [] → length ys + length q ≡ length xs → length ys < length xs
    some [] e size = (let bad : p.message ∷ left ≡ [] = e in cc)
    some (m ∷ ms) e size = omega arith
lower_row t n _ o queue left xs ys one is sizes all h = subst (λ (zs : List ℕ). AreLower xs zs) (sym (append-nil ys)) h
