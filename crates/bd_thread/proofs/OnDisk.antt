-- Apply by a disk, over what it holds.
use Rattle.std.proofs.Common.{◌≡◌, ℕ, ◌+◌, ◌&&◌, ◌||◌, ◌==◌, Bool, true, false, cond, List, [], ◌∷◌, find, length, vec_len, Option, Some, None, option_and_then, refl, sym, ◌∙◌, ap, ap₂, subst}
use Rattle.std.specs.List.{AllByRecursion}
use Rattle.std.specs.Option.{option_map}
use Rattle.std.proofs.lemmas.List.{length-append}
use Rattle.bd_base.specs.declared.act.Act.TheVariants as acts
use Rattle.bd_base.specs.declared.act.ApplyEnd.{ApplyEnd}
use Rattle.bd_base.specs.declared.act.ApplyEnd.TheVariants as ends
use Rattle.bd_base.specs.declared.act.Entry.{Entry}
use Rattle.bd_base.specs.declared.id.DevId.{DevId}
use Rattle.bd_base.specs.declared.id.ReqId.{ReqId}
use Rattle.bd_base.specs.declared.setup.Setup.{Setup}
use Rattle.bd_machine.specs.declared.state.Base.{Base}
use Rattle.bd_machine.specs.declared.state.Content.{Content}
use Rattle.bd_machine.specs.declared.state.Id.{Id}
use Rattle.bd_machine.specs.declared.state.Id.TheVariants as ids
use Rattle.bd_machine.specs.declared.state.Kept.{Kept}
use Rattle.bd_machine.specs.declared.state.Kept.TheVariants as keeps
use Rattle.bd_machine.specs.declared.state.OpenPiece.{OpenPiece}
use Rattle.bd_machine.specs.declared.state.Part.{Part}
use Rattle.bd_machine.specs.declared.state.Registry.{Registry}
use Rattle.bd_machine.specs.BlockMap.{is_aio, size_of}
use Rattle.bd_machine.specs.Guards.{noted}
use Rattle.bd_machine.specs.Homes.{applied, change_applied, is_base, is_done_or, is_first_at, is_home, read_by, served}
use Rattle.bd_machine.specs.Kept.{as_piece}
use Rattle.bd_machine.specs.Same.{same_dev, same_id}
use Rattle.bd_machine.specs.Table.{change_first}
use Rattle.bd_machine.specs.View.{Change}
use Rattle.bd_turns.specs.declared.queue.Message.{Message}
use Rattle.bd_turns.specs.Local.{Local, carried_local}
use Rattle.bd_law_disks.specs.Over.{change_over, contents_over, contents_then, local_over}
use Rattle.bd_law_disks.specs.Told.{contents_after}
use Rattle.bd_home.specs.Serving.{served_as}
use Rattle.bd_links.specs.Entries.{entry_at, longer}
use Rattle.bd_links.specs.Queues.{queues_of}
use Rattle.bd_tokens.specs.Tokens.{here_in}
use Rattle.bd_steps.specs.Serving.{may_hold}
use Rattle.bd_machine.specs.declared.state.Open.{Open}
use Rattle.bd_machine.specs.Marks.{marking_of}
use Rattle.bd_machine.specs.Same.{same_request}
use Rattle.bd_machine.proofs.Tables.{request_same}
use Rattle.bd_touched.specs.Looks.{is_looked_at}
use Rattle.bd_held.specs.Holds.{HoldKey}
use Rattle.bd_touched.specs.Reach.{is_touched, Covers}
use Rattle.bd_touched.specs.Rests.{rests}
use Rattle.bd_touched.proofs.Looking.{all_so}
use Rattle.bd_touched.proofs.Rested.{rests_too, ShowsAlike}
use Rattle.bd_thread.specs.Looking.{sight, IsLookedAfter}
use Rattle.bd_thread.specs.declared.links.Links.{Links}
use Rattle.bd_thread.specs.declared.thread.Thread.{Thread}
use Rattle.bd_thread.specs.Disks.{disk_due, piece_on_disk, NoPieceOnDisk}
use Rattle.bd_thread.specs.Given.{contents_once, held_as, IsReadBy, IsServedAs, ServesAs, ServesAsBy, ServesOver}
use Rattle.bd_thread.specs.Over.{WentOver}
use Rattle.bd_thread.specs.Requests.{KeepsTickets}
use Rattle.bd_thread.specs.Seen.{block_size, local, local_at, untaken}
use Rattle.bd_thread.specs.Timely.{slices_at}
use Rattle.bd_thread.specs.Waits.{Idles}
use Rattle.bd_thread.specs.Work.{AsksNothing}
use Rattle.bd_thread.proofs.Applies.{apply_steps, at_home}
use Rattle.bd_thread.proofs.Going.{still_shut, Steps}
use Rattle.bd_thread.proofs.Idle.{more}
use Rattle.bd_thread.proofs.Over.{over_none}
use Rattle.bd_thread.proofs.Tickets.{same_tickets}
use Rattle.bd_thread.proofs.Timing.{timely_plain}

not_true : {Q : Type 0} → false ≡ true → Q
not_true e = cc

any_end : (end : ApplyEnd) → is_done_or true end ≡ true
any_end ends.Done = refl
any_end ends.Fault = refl

-- ---- what the thread sees, and what the disks hold, after the Apply

module _ (setup : Setup) (t : ℕ) (part : Part) (here : Id → Option Kept) (registry : Registry) (shut : Bool) (stamp : ℕ) (queues : ℕ → List Message) (req : ReqId) (k : ℕ) (dev : DevId) (end : ApplyEnd) (contents : DevId → Content)
    (q : OpenPiece) (is : here (ids.Piece req k) ≡ Some (keeps.Piece q)) (aio : is_aio setup dev ≡ true) where
  abbrev local_now : Local
  local_now = local_at t part here registry shut stamp queues

  abbrev apply : Entry
  apply = entry_at t (stamp + 1) (acts.Apply req k dev end)

  abbrev bases : List Base
  bases = change_first (is_base dev) (applied end q) part.bases

  abbrev local_then : Option (List ℕ) → Bool → Local
  local_then read s = local_at t (untaken (record part { bases = bases })) (λ j. cond (same_id (ids.Piece req k) j) (Some (keeps.Piece (served_as end read q))) (here j)) registry s (stamp + 1) queues

  -- the piece read what the disk holds
  local_is : (b : Base) (read : Option (List ℕ)) → find (is_base dev) part.bases ≡ Some b → read ≡ read_by end (size_of setup dev) (contents dev) q
      → local_over setup t contents local_now apply ≡ local_then read shut
  unfolding local_over
  local_is b read found reads =
      let over : Option OpenPiece → Change → Local = λ o c. carried_local setup t local_now apply (change_over setup contents (acts.Apply req k dev end) o c) in
      let change : Option Kept → Option Base → Change = λ o c. noted None (change_applied local_now.view req k dev end (size_of setup dev) (as_piece o) c) in
      ap (λ (v : Bool). over (cond v (as_piece (here (ids.Piece req k))) None) (change (here (ids.Piece req k)) (find (is_base dev) part.bases))) aio
      ∙ ap (λ (o : Option Kept). over (as_piece o) (change o (find (is_base dev) part.bases))) is
      ∙ ap (λ (c : Option Base). over (Some q) (change (Some (keeps.Piece q)) c)) found
      ∙ ap (λ (r : Option (List ℕ)). local_then r (shut || false)) (sym reads)
      ∙ ap (local_then read) (still_shut shut)

  contents_are : contents_then setup contents local_now apply ≡ contents_after dev end q contents
  contents_are =
      ap (λ (v : Bool). contents_over (acts.Apply req k dev end) (cond v (as_piece (here (ids.Piece req k))) None) contents) aio
      ∙ ap (λ (o : Option Kept). contents_over (acts.Apply req k dev end) (as_piece o) contents) is

-- **Apply**, with the end that the disk gave, where the piece read what the disk holds
pub served_as_over : (old : Thread) (before : Links) (new : Thread) (after : Links) (req : ReqId) (k : ℕ) (dev : DevId) (end : ApplyEnd) (read : Option (List ℕ)) (s : IsServedAs req k dev end read old before new after)
    → is_home old.setup.now old.me dev ≡ true
    → is_aio old.setup.now dev ≡ true
    → may_hold old.setup.now dev (find (is_base dev) old.part.bases) ≡ true
    → is_first_at req k (find (is_base dev) old.part.bases) ≡ true
    → here_in old.held.items (ids.Piece req k) ≡ Some (keeps.Piece s.piece)
    → same_dev s.piece.base dev ≡ true
    → (contents : DevId → Content) → read ≡ read_by end (block_size old dev) (contents dev) s.piece
    → WentOver contents (contents_after dev end s.piece contents) old before new after
served_as_over old before new after req k dev end read s home aio holds first here on contents reads = go (find (is_base dev) old.part.bases) refl
  where
    go : (c : Option Base) → find (is_base dev) old.part.bases ≡ c → WentOver contents (contents_after dev end s.piece contents) old before new after
    go None found = not_true (sym (ap (is_first_at req k) found) ∙ first)
    go (Some b) found =
        let setup : Setup = old.setup.now in
        let size : ℕ = size_of setup dev in
        let now : Id → Option Kept = here_in old.held.items in
        let n : ℕ = length before.entries in
        let queues : ℕ → List Message = queues_of before.queues.items in
        let all : List Base = change_first (is_base dev) (applied end s.piece) old.part.bases in
        let kept : OpenPiece → Id → Option Kept = λ p. λ j. cond (same_id (ids.Piece req k) j) (Some (keeps.Piece p)) (now j) in
        let steps : Steps setup old.me (local old before) (acts.Apply req k dev end) (local_at old.me (untaken (record old.part { bases = all })) (kept (served end size s.piece b)) before.registry.state before.shut (n + 1) queues) =
        apply_steps setup old.me old.part now before.registry.state before.shut n queues req k dev end s.piece size (served end size s.piece b) all (kept (served end size s.piece b))
        (at_home setup old.me dev home) refl first here on holds (ap (λ (f : Bool). is_done_or f end) aio ∙ any_end end) refl (ap (option_map (served end size s.piece)) found) refl
        in
        let there : (m : ℕ) → Local = λ m. local_at old.me (untaken (record old.part { bases = all })) (kept (served_as end read s.piece)) before.registry.state before.shut m queues in
        let longest : List Entry = longer old.me before.entries (acts.Apply req k dev end) in
        let counted : n + 1 ≡ length longest = sym (length-append before.entries _) in
        let me : new.me ≡ old.me = ap (λ (t : Thread). t.me) s.thread in
        let part : new.part ≡ untaken (record old.part { bases = all }) = ap (λ (t : Thread). t.part) s.thread in
        let same : there (length longest) ≡ local new after =
        λ i. local_at (sym me i) (sym part i) (sym s.held i) (sym s.links i).registry.state (sym s.links i).shut (length (sym s.links i).entries) (queues_of (sym s.links i).queues.items)
        in
        record {
          me = me;
          setup = ap (λ (t : Thread). t.setup) s.thread;
          queues = ap (λ (l : Links). vec_len l.queues) s.links;
          rows = ap (λ (l : Links). l.registry.setup) s.links;
          entries = entry_at old.me (n + 1) (acts.Apply req k dev end) ∷ [];
          added = ap (λ (l : Links). l.entries) s.links;
          leads = (
            refl,
            refl,
            steps.allowed,
            (
              contents_are setup old.me old.part now before.registry.state before.shut n queues req k dev end contents s.piece here aio,
              local_is setup old.me old.part now before.registry.state before.shut n queues req k dev end contents s.piece here aio b read found reads ∙ ap there counted ∙ same,
            ),
          );
          timely = timely_plain old new (entry_at old.me (n + 1) (acts.Apply req k dev end)) refl (ap (λ (t : Thread). t.time) s.thread) (λ d. ap (λ (p : Part). slices_at p d) part);
          held = tt;
        }

-- the same, of the piece that is next on the device's disk
pub serves_over : (old : Thread) (before : Links) (new : Thread) (after : Links) (req : ReqId) (k : ℕ) (dev : DevId) (end : ApplyEnd) (read : Option (List ℕ)) (s : IsServedAs req k dev end read old before new after)
    → disk_due old dev ≡ Some (ids.Piece req k)
    → is_home old.setup.now old.me dev ≡ true
    → is_aio old.setup.now dev ≡ true
    → may_hold old.setup.now dev (find (is_base dev) old.part.bases) ≡ true
    → is_first_at req k (find (is_base dev) old.part.bases) ≡ true
    → here_in old.held.items (ids.Piece req k) ≡ Some (keeps.Piece s.piece)
    → same_dev s.piece.base dev ≡ true
    → ServesOver dev end read old before new after
serves_over old before new after req k dev end read s due home aio holds first here on contents reads =
    let next : piece_on_disk old dev ≡ Some s.piece =
    ap (λ (o : Option Id). option_and_then (λ (id : Id). as_piece (here_in old.held.items id)) o) due ∙ ap as_piece here
    in
    subst (λ (o : Option OpenPiece). WentOver contents (contents_once dev end o contents) old before new after) (sym next)
    (served_as_over old before new after req k dev end read s home aio holds first here on contents
    (subst (λ (o : Option OpenPiece). IsReadBy end read (block_size old dev) (contents dev) o) next reads))

-- where none is next nothing is read
pub serves_none_over : (old : Thread) (before : Links) (dev : DevId) (end : ApplyEnd) (read : Option (List ℕ)) → disk_due old dev ≡ None → ServesOver dev end read old before old before
serves_none_over old before dev end read none contents reads =
    let next : piece_on_disk old dev ≡ None = ap (λ (o : Option Id). option_and_then (λ (id : Id). as_piece (here_in old.held.items id)) o) none in
    subst (λ (o : Option OpenPiece). WentOver contents (contents_once dev end o contents) old before old before) (sym next) (over_none contents old before)

pub served_as_tickets : (old : Thread) (before : Links) (new : Thread) (after : Links) (req : ReqId) (k : ℕ) (dev : DevId) (end : ApplyEnd) (read : Option (List ℕ)) → IsServedAs req k dev end read old before new after → KeepsTickets old → KeepsTickets new
served_as_tickets old before new after req k dev end read s keeps =
    same_tickets old new (ap (λ (t : Thread). t.purse.ids) s.thread) (ap (λ (t : Thread). t.part.requests) s.thread) (ap (λ (t : Thread). t.part.next_request) s.thread) keeps

-- its request is to be looked at, and of the others nothing changed
pub served_as_looks : (old : Thread) (before : Links) (new : Thread) (after : Links) (req : ReqId) (k : ℕ) (dev : DevId) (end : ApplyEnd) (read : Option (List ℕ)) → IsServedAs req k dev end read old before new after
    → new.touched.holds ≡ old.touched.holds → Covers old.touched new.touched → is_touched new.touched req ≡ true → IsLookedAfter old → IsLookedAfter new
served_as_looks old before new after req k dev end read s kept covers named looks =
    subst (λ (os : List Open). AllByRecursion (λ (o : Open). (o.id.thread ≡ new.me) × (is_looked_at new.setup.now new.me [] new.touched (sight new) o ≡ true)) os) (sym (ap (λ (t : Thread). t.part.requests) s.thread))
    (all_so (λ (o : Open). (o.id.thread ≡ old.me) × (is_looked_at old.setup.now old.me [] old.touched (sight old) o ≡ true)) (λ (o : Open). (o.id.thread ≡ new.me) × (is_looked_at new.setup.now new.me [] new.touched (sight new) o ≡ true))
    old.part.requests (λ o h. (h.0 ∙ sym (ap (λ (t : Thread). t.me) s.thread), by_name o (same_request req o.id) refl h.1)) looks)
  where
    alike : (o : Open) → same_request req o.id ≡ false → ShowsAlike old.setup.now o (sight old) (sight new)
    alike o other = record {
      request = ap (λ (here : Id → Option Kept). here (ids.Request o.id)) s.held;
      piece = λ j. ap (λ (here : Id → Option Kept). here (ids.Piece o.id j)) s.held ∙ ap (λ b. cond (b && (k == j)) (Some (keeps.Piece (served_as end read s.piece))) (here_in old.held.items (ids.Piece o.id j))) other;
      marks = λ work d lower. ap (λ (t : Thread). marking_of t.part d) s.thread;
    }

    rested : (o : Open) → same_request req o.id ≡ false → rests old.setup.now old.me (sight old) old.touched.holds o ≡ true → rests new.setup.now new.me (sight new) new.touched.holds o ≡ true
    rested o other h =
        ap₂ (λ (x : Setup) (u : ℕ). rests x u (sight new) new.touched.holds o) (ap (λ (t : Thread). t.setup.now) s.thread) (ap (λ (t : Thread). t.me) s.thread)
        ∙ ap (λ (n : List HoldKey). rests old.setup.now old.me (sight new) n o) kept
        ∙ rests_too old.setup.now old.me old.touched.holds o (sight old) (sight new) (alike o other) h

    by_touch : (o : Open) (b : Bool) → is_touched old.touched o.id ≡ b → same_request req o.id ≡ false → b || false || rests old.setup.now old.me (sight old) old.touched.holds o ≡ true → is_looked_at new.setup.now new.me [] new.touched (sight new) o ≡ true
    by_touch o true e other h = ap (λ b. b || false || rests new.setup.now new.me (sight new) new.touched.holds o) (covers o.id e)
    by_touch o false e other h = last (is_touched new.touched o.id) (rests new.setup.now new.me (sight new) new.touched.holds o) (rested o other h)
      where
        last : (a c : Bool) → c ≡ true → a || false || c ≡ true
        last true c h = refl
        last false c h = h

    by_name : (o : Open) (b : Bool) → same_request req o.id ≡ b → is_looked_at old.setup.now old.me [] old.touched (sight old) o ≡ true → is_looked_at new.setup.now new.me [] new.touched (sight new) o ≡ true
    by_name o true e h = ap (λ b. b || false || rests new.setup.now new.me (sight new) new.touched.holds o) (subst (λ (r : ReqId). is_touched new.touched r ≡ true) (request_same.exact req o.id e) named)
    by_name o false e h = by_touch o (is_touched old.touched o.id) refl e h

pub served_as_adds : (old : Thread) (before : Links) (new : Thread) (after : Links) (req : ReqId) (k : ℕ) (dev : DevId) (end : ApplyEnd) (read : Option (List ℕ)) → IsServedAs req k dev end read old before new after → Idles (NoPieceOnDisk dev) old before new after
served_as_adds old before new after req k dev end read s few = absurd (more old.me before after (acts.Apply req k dev end) (ap (λ (l : Links). l.entries) s.links) few)

pub served_as_alone : (old : Thread) (before : Links) (new : Thread) (after : Links) (req : ReqId) (k : ℕ) (dev : DevId) (end : ApplyEnd) (read : Option (List ℕ)) → IsServedAs req k dev end read old before new after → AsksNothing before after
served_as_alone old before new after req k dev end read s = record {
  registry = ap (λ (l : Links). l.registry) s.links;
  entries = entry_at old.me (length before.entries + 1) (acts.Apply req k dev end) ∷ [];
  added = ap (λ (l : Links). l.entries) s.links;
  none_asks = refl;
}

-- where none is next nothing changes
pub serves_none_as : (old : Thread) (before : Links) (dev : DevId) (end : ApplyEnd) (read : Option (List ℕ)) → disk_due old dev ≡ None → ServesAs dev end read old before old before false
serves_none_as old before dev end read none = subst (ServesAsBy dev end read old before old before false) (sym none) (refl, refl, refl)

-- where one is, it is served
pub serves_one_as : (old : Thread) (before : Links) (new : Thread) (after : Links) (req : ReqId) (k : ℕ) (dev : DevId) (end : ApplyEnd) (read : Option (List ℕ)) → disk_due old dev ≡ Some (ids.Piece req k) → IsServedAs req k dev end read old before new after → ServesAs dev end read old before new after true
serves_one_as old before new after req k dev end read due s = subst (ServesAsBy dev end read old before new after true) (sym due) (refl, s)

-- ---- what is kept of it

-- the piece that was served is kept
pub held_by : (req : ReqId) (k : ℕ) (dev : DevId) (end : ApplyEnd) (read : Option (List ℕ)) (t : Thread) (p : OpenPiece) (piece : OpenPiece) (now : Id → Option Kept)
    → option_map (λ b. served_as end read p) (find (is_base dev) t.part.bases) ≡ Some piece
    → now ≡ (λ j. cond (same_id (ids.Piece req k) j) (Some (keeps.Piece piece)) (here_in t.held.items j))
    → now ≡ held_as req k end read p (here_in t.held.items)
held_by req k dev end read t p piece now is held =
    let here : Id → Option Kept = here_in t.held.items in
    held ∙ ap (λ (q : OpenPiece). λ (j : Id). cond (same_id (ids.Piece req k) j) (Some (keeps.Piece q)) (here j)) (go (find (is_base dev) t.part.bases) is)
  where
    go : (o : Option Base) → option_map (λ b. served_as end read p) o ≡ Some piece → piece ≡ served_as end read p
    go None h = cc
    go (Some b) h = cc
