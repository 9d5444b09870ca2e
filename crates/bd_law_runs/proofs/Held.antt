-- What a state keeps of a reset, from entry to entry.
use Rattle.std.proofs.Common.{◌≡◌, ℕ, zero, suc, Bool, true, false, cond, ◌&&◌, ◌||◌, ◌==◌, List, [], ◌∷◌, ◌++◌, drop, Option, Some, None, is_none, refl, sym, ◌∙◌, ap, subst, eqb-true}
use Rattle.std.specs.Prelude.{slice_get}
use Rattle.std.specs.List.{AllByRecursion, list_any}
use Rattle.std.proofs.lemmas.Bool.{and_parts}
use Rattle.bd_base.specs.declared.act.Act.{Act}
use Rattle.bd_base.specs.declared.act.Act.TheVariants as acts
use Rattle.bd_base.specs.declared.act.Entry.{Entry}
use Rattle.bd_base.specs.declared.event.Answer.{Answer}
use Rattle.bd_base.specs.declared.event.Answer.TheVariants as answers
use Rattle.bd_base.specs.declared.event.RegEvent.{RegEvent}
use Rattle.bd_base.specs.declared.event.RegEvent.TheVariants as events
use Rattle.bd_base.specs.declared.id.DevId.{DevId}
use Rattle.bd_base.specs.declared.id.ReqId.{ReqId}
use Rattle.bd_base.specs.declared.request.WalkKind.{WalkKind}
use Rattle.bd_base.specs.declared.request.WalkKind.TheVariants.{Freeze, Drain, Thaw, Removal}
use Rattle.bd_base.specs.declared.setup.Setup.{Setup}
use Rattle.bd_base.specs.declared.thread_set.ThreadSet.{ThreadSet}
use Rattle.bd_machine.specs.declared.state.Between.{Between}
use Rattle.bd_machine.specs.declared.state.Between.TheVariants.{Opening, Closing}
use Rattle.bd_machine.specs.declared.state.Device.{Device}
use Rattle.bd_machine.specs.declared.state.Due.{Due}
use Rattle.bd_machine.specs.declared.state.Id.{Id}
use Rattle.bd_machine.specs.declared.state.Kept.{Kept}
use Rattle.bd_machine.specs.declared.state.Kept.TheVariants as keeps
use Rattle.bd_machine.specs.declared.state.News.{News}
use Rattle.bd_machine.specs.declared.state.News.TheVariants as news
use Rattle.bd_machine.specs.declared.state.Open.{Open}
use Rattle.bd_machine.specs.declared.state.Place.{Place}
use Rattle.bd_machine.specs.declared.state.Place.TheVariants.{At, Ring, Nowhere}
use Rattle.bd_machine.specs.declared.state.ResetState.TheVariants as resets
use Rattle.bd_machine.specs.declared.state.Resetting.{Resetting}
use Rattle.bd_machine.specs.declared.state.Stage.{Stage}
use Rattle.bd_machine.specs.declared.state.Stage.TheVariants as stages
use Rattle.bd_machine.specs.declared.state.Standing.TheVariants as standings
use Rattle.bd_machine.specs.declared.state.State.{State}
use Rattle.bd_machine.specs.declared.state.Tracked.{Tracked}
use Rattle.bd_machine.specs.Asked.{asks_event, asks_between, is_new_reset}
use Rattle.bd_base.specs.declared.request.Errno.TheVariants.{NoDev, Inval}
use Rattle.bd_machine.specs.Changes.{devices_after, with_standing, with_reset, with_waiting, without_next, less_injection, begun_growing, grown_to}
use Rattle.bd_machine.specs.Registry.{threads_of, begin_reset_answer, finish_reset_answer, next_reset, is_destructed_standing, is_idle_reset, is_thawing_reset}
use Rattle.bd_machine.specs.Same.{same_id, same_dev, same_request, same_threads, same_answer}
use Rattle.bd_machine.specs.Step.{guards_in, moved, after}
use Rattle.bd_machine.specs.Table.{look_up, change_at}
use Rattle.bd_machine.specs.View.{Came, Move, view, here_of, kept_on, part_of, message_of, kept_in, came_for}
use Rattle.bd_machine.specs.Walks.{is_reset, reset_of}
use Rattle.bd_machine.proofs.Acts.{Passes, passed}
use Rattle.bd_machine.proofs.Laws.{tracked, found-moved}
use Rattle.bd_machine.proofs.Tables.{request_same, dev_exact}
use Rattle.bd_law_runs.proofs.Covered.{Covers, AtStage, RowsFine, ByKind, NewsFine, KeptFine, DueFine, MovesFine, Asks}
use Rattle.bd_law_runs.proofs.Rows.{mine, first_row, found_first, BegunIn}

-- ---- fewer threads are busy, and more may be said of the device

module _ (reset : ReqId) (D E : DevId → Type 0) (busy less : ℕ → Bool) (more : (d : DevId) → D d → E d) (fewer : (u : ℕ) → less u ≡ true → busy u ≡ true) where
  stage_fewer : (stage : Stage) (threads : ThreadSet) → AtStage reset D busy stage threads → AtStage reset E less stage threads
  stage_fewer stages.Queued threads a = tt
  stage_fewer stages.Freezing threads a = λ u b. a u (fewer u b)
  stage_fewer stages.Draining threads a = λ u b. a u (fewer u b)
  stage_fewer stages.Drained threads a = λ u b. a u (fewer u b)
  stage_fewer stages.Thawing threads a = λ u b. a u (fewer u b)
  stage_fewer stages.Thawed threads a = λ u b. a u (fewer u b)
  stage_fewer stages.Finished threads a = λ u b. a u (fewer u b)

  pub rows_fewer : (t : ℕ) (rows : List Resetting) → RowsFine reset D busy t rows → RowsFine reset E less t rows
  rows_fewer t [] r = tt
  rows_fewer t (x ∷ []) r = (r.0, more x.dev r.1, stage_fewer x.stage x.threads r.2)
  rows_fewer t (x ∷ y ∷ xs) r = r

  news_fewer : (n : News) → NewsFine reset D busy n → NewsFine reset E less n
  news_fewer (news.Go r threads) k = λ o u b. k o u (fewer u b)
  news_fewer (news.Mark m) k = tt
  news_fewer (news.Gone m) k = tt
  news_fewer (news.Channel m) k = tt
  news_fewer (news.Device m) k = tt
  news_fewer (news.Grow m n) k = tt
  news_fewer (news.Sized m n) k = tt

  kind_fewer : (kind : WalkKind) (left : ThreadSet) → ByKind reset D busy kind left → ByKind reset E less kind left
  kind_fewer Freeze left k = tt
  kind_fewer Drain left k = λ u b. k u (fewer u b)
  kind_fewer Thaw left k = λ u b. k u (fewer u b)
  kind_fewer Removal left k = tt

  pub kept_fewer : (G H : Type 0) → (G → H) → (kept : Kept) → KeptFine reset D busy G kept → KeptFine reset E less H kept
  kept_fewer G H f (keeps.Walk w) k = λ o. (f (k o).0, more w.dev (k o).1, kind_fewer w.kind w.left (k o).2)
  kept_fewer G H f (keeps.Notice n) k = news_fewer n k
  kept_fewer G H f (keeps.Request r) k = tt
  kept_fewer G H f (keeps.Piece p) k = tt

  pub due_fewer : (due : List Due) → DueFine reset D busy due → DueFine reset E less due
  due_fewer [] d = tt
  due_fewer (x ∷ xs) d = (news_fewer x.news d.0, due_fewer xs d.1)

  pub moves_fewer : (G H : Type 0) → (G → H) → (ms : List Move) → MovesFine reset D busy G ms → MovesFine reset E less H ms
  moves_fewer G H f [] k = tt
  moves_fewer G H f (m ∷ ms) k = (kept_fewer G H f m.kept k.0, moves_fewer G H f ms k.1)

-- ---- what a state keeps

module _ (reset : ReqId) (D : DevId → Type 0) where
  abbrev pub TokenFine : (ℕ → Bool) → Type 0 → Option Tracked → Type 0
  TokenFine busy G None = Unit {0}
  TokenFine busy G (Some token) = KeptFine reset D busy G token.kept

  -- an open request is its thread's, and the reset is of such a device
  abbrev pub OwnFine : ℕ → List Open → Type 0
  OwnFine t rows = AllByRecursion (λ (o : Open). (o.id.thread ≡ t) × (o.id ≡ reset → D o.dev)) rows

  -- the reset waits at such a device alone
  abbrev pub WaitsFine : ℕ → Option Device → Type 0
  WaitsFine n None = Unit {0}
  WaitsFine n (Some device) = AllByRecursion (λ (r : ReqId). r ≡ reset → D (record { 0 = n })) device.waiting

  pub record Held (busy : ℕ → Bool) (s : State) : Type 0 where
    pub rows : (u : ℕ) → RowsFine reset D busy u (mine reset (part_of s u).resets)
    pub due : (u : ℕ) → DueFine reset D busy (part_of s u).due
    pub tokens : (id : Id) → TokenFine busy (BegunIn reset (part_of s reset.thread)) (look_up same_id s.tokens id)
    pub own : (u : ℕ) → OwnFine u (part_of s u).requests
    pub waiting : (n : ℕ) → WaitsFine n (slice_get s.registry.devices n)

-- more may be said of the device
pub held_more : (reset : ReqId) (D E : DevId → Type 0) (busy : ℕ → Bool) → ((d : DevId) → D d → E d) → (s : State) → Held reset D busy s → Held reset E busy s
held_more reset D E busy more s h = record {
  rows = λ u. rows_fewer reset D E busy busy more (λ u b. b) u (mine reset (part_of s u).resets) (h.rows u);
  due = λ u. due_fewer reset D E busy busy more (λ u b. b) (part_of s u).due (h.due u);
  tokens = λ id. token (look_up same_id s.tokens id) (h.tokens id);
  own = λ u. own (part_of s u).requests u (h.own u);
  waiting = λ n. waits n (slice_get s.registry.devices n) (h.waiting n);
}
  where
    token : (o : Option Tracked) → TokenFine reset D busy (BegunIn reset (part_of s reset.thread)) o → TokenFine reset E busy (BegunIn reset (part_of s reset.thread)) o
    token None k = tt
    token (Some x) k = kept_fewer reset D E busy busy more (λ u b. b) (BegunIn reset (part_of s reset.thread)) (BegunIn reset (part_of s reset.thread)) (λ g. g) x.kept k

    own : (rows : List Open) (u : ℕ) → OwnFine reset D u rows → OwnFine reset E u rows
    own [] u k = tt
    own (o ∷ os) u k = ((k.0.0, (λ e. more o.dev (k.0.1 e))), own os u k.1)

    all : (n : ℕ) (rs : List ReqId) → AllByRecursion (λ (r : ReqId). r ≡ reset → D (record { 0 = n })) rs → AllByRecursion (λ (r : ReqId). r ≡ reset → E (record { 0 = n })) rs
    all n [] k = tt
    all n (r ∷ rs) k = ((λ e. more (record { 0 = n }) (k.0 e)), all n rs k.1)

    waits : (n : ℕ) (o : Option Device) → WaitsFine reset D n o → WaitsFine reset E n o
    waits n None k = tt
    waits n (Some d) k = all n d.waiting k

-- ---- tokens

module _ (reset : ReqId) (D : DevId → Type 0) (busy : ℕ → Bool) (G : Type 0) where
  pub here_fine : (t : ℕ) (o : Option Tracked) (kept : Kept) → here_of t o ≡ Some kept → TokenFine reset D busy G o → KeptFine reset D busy G kept
  here_fine t None kept e h = cc
  here_fine t (Some token) kept e h = go token.place e
    where
      at : (b : Bool) → cond b (Some token.kept) None ≡ Some kept → KeptFine reset D busy G kept
      at true e = let same : token.kept ≡ kept = cc in subst (KeptFine reset D busy G) same h
      at false e = cc

      go : (p : Place) → kept_on t p token.kept ≡ Some kept → KeptFine reset D busy G kept
      go (At u) e = at (u == t) e
      go (Ring a b n) e = cc
      go Nowhere e = cc

  pub message_fine : (a t n : ℕ) (o : Option Tracked) (kept : Kept) → message_of a t n o ≡ Some kept → TokenFine reset D busy G o → KeptFine reset D busy G kept
  message_fine a t n None kept e h = cc
  message_fine a t n (Some token) kept e h = go token.place e
    where
      at : (b : Bool) → cond b (Some token.kept) None ≡ Some kept → KeptFine reset D busy G kept
      at true e = let same : token.kept ≡ kept = cc in subst (KeptFine reset D busy G) same h
      at false e = cc

      go : (p : Place) → kept_in a t n p token.kept ≡ Some kept → KeptFine reset D busy G kept
      go (At u) e = cc
      go (Ring i j m) e = at ((i == a) && ((j == t) && (m == n))) e
      go Nowhere e = cc

  pub moved_fine : (t : ℕ) (ms : List Move) (tokens : List (Id × Tracked)) → ((id : Id) → TokenFine reset D busy G (look_up same_id tokens id)) → MovesFine reset D busy G ms → (id : Id) → TokenFine reset D busy G (look_up same_id (moved t ms tokens) id)
  moved_fine t [] tokens h a = h
  moved_fine t (m ∷ ms) tokens h a = moved_fine t ms (moved t (m ∷ []) tokens) one a.1
    where
      go : (id : Id) (b : Bool) → TokenFine reset D busy G (cond b (Some (tracked t m)) (look_up same_id tokens id))
      go id true = a.0
      go id false = h id

      one : (id : Id) → TokenFine reset D busy G (look_up same_id (moved t (m ∷ []) tokens) id)
      one id = subst (TokenFine reset D busy G) (sym (found-moved t m tokens id)) (go id (same_id m.id id))

-- ---- resets that wait in the registry

module _ (reset : ReqId) (D : DevId → Type 0) where
  abbrev pub Waits : ℕ → List ReqId → Type 0
  Waits n rs = AllByRecursion (λ (r : ReqId). r ≡ reset → D (record { 0 = n })) rs

  waits_at : (n k j : ℕ) (f : Device → Device) → ((d : Device) → n ≡ k → Waits j d.waiting → Waits j (f d).waiting) → (ds : List Device) → WaitsFine reset D j (slice_get ds k) → WaitsFine reset D j (slice_get (change_at n f ds) k)
  waits_at n k j f keeps [] h = h
  waits_at zero zero j f keeps (d ∷ ds) h = keeps d refl h
  waits_at zero (suc k) j f keeps (d ∷ ds) h = h
  waits_at (suc n) zero j f keeps (d ∷ ds) h = h
  waits_at (suc n) (suc k) j f keeps (d ∷ ds) h = waits_at n k j f (λ d e. keeps d (ap suc e)) ds h

  waits_push : (n : ℕ) (rs : List ReqId) (r : ReqId) → Waits n rs → (r ≡ reset → D (record { 0 = n })) → Waits n (rs ++ r ∷ [])
  waits_push n [] r h k = (k, tt)
  waits_push n (x ∷ rs) r h k = (h.0, waits_push n rs r h.1 k)

  waits_drop : (n : ℕ) (rs : List ReqId) → Waits n rs → Waits n (drop 1 rs)
  waits_drop n [] h = tt
  waits_drop n (x ∷ rs) h = h.1

  abbrev pub Begins : RegEvent → Type 0
  Begins (events.BeginReset d r) = r ≡ reset → D d
  Begins _ = Unit {0}

  pub waits_after : (ds : List Device) (event : RegEvent) (a : Answer) → Begins event → (k : ℕ) → WaitsFine reset D k (slice_get ds k) → WaitsFine reset D k (slice_get (devices_after ds event a) k)
  waits_after ds event (answers.Removing d threads handles destruct) b k h = waits_at d.0 k k (with_standing standings.Removing) (λ d e w. w) ds h
  waits_after ds (events.Destructed d) (answers.Freed close) b k h = waits_at d.0 k k (with_standing standings.Destructed) (λ d e w. w) ds h
  waits_after ds (events.BeginReset d req) (answers.ResetStarted threads) b k h = waits_at d.0 k k (with_reset resets.Running) (λ d e w. w) ds h
  waits_after ds (events.BeginReset d req) answers.ResetQueued b k h =
      waits_at d.0 k k (with_waiting req) (λ x e w. waits_push k x.waiting req w (λ o. subst (λ (n : ℕ). D (record { 0 = n })) e (b o))) ds h
  waits_after ds (events.EndReset d) (answers.ResetEnded threads) b k h = waits_at d.0 k k (with_reset resets.Thawing) (λ d e w. w) ds h
  waits_after ds (events.FinishReset d) (answers.ResetFinished (Some next)) b k h = waits_at d.0 k k without_next (λ x e w. waits_drop k x.waiting w) ds h
  waits_after ds (events.FinishReset d) (answers.ResetFinished None) b k h = waits_at d.0 k k (with_reset resets.Idle) (λ d e w. w) ds h
  waits_after ds (events.TakeInjection d req op) (answers.Injected decision) b k h = waits_at d.0 k k (less_injection op) (λ d e w. w) ds h
  waits_after ds (events.BeginResize name blocks) (answers.Resizing d home) b k h = waits_at d.0 k k (begun_growing blocks) (λ d e w. w) ds h
  waits_after ds (events.EndResize d) (answers.Resized handles blocks destruct) b k h = waits_at d.0 k k (grown_to blocks) (λ d e w. w) ds h
  waits_after ds _ _ b k h = h

-- ---- what the registry names

same_set : (a b : ThreadSet) → same_threads a b ≡ true → a ≡ b
same_set a b h = ap (λ (n : ℕ). let x : ThreadSet = record { 0 = n } in x) (eqb-true a.0 b.0 h)

-- each answer that names the threads of the reset's walks names every busy one
module _ (reset : ReqId) (D : DevId → Type 0) (busy : ℕ → Bool) where
  abbrev pub Named : Act → Type 0
  Named (acts.Reg (events.BeginReset d r) a) = (threads : ThreadSet) → a ≡ answers.ResetStarted threads → r ≡ reset → D d → Covers reset D busy threads
  Named (acts.Reg (events.FinishReset d) a) = (threads : ThreadSet) → a ≡ answers.ResetFinished (Some (reset, threads)) → D d → Covers reset D busy threads
  Named _ = Unit {0}

module _ (setup : Setup) (s : State) (e : Entry) (reset : ReqId) (D : DevId → Type 0) (busy : ℕ → Bool) (held : Held reset D busy s) where
  empty_rows : (rows : List Resetting) → first_row rows ≡ None → rows ≡ []
  empty_rows [] h = refl
  empty_rows (x ∷ xs) h = cc

  none_here : (o : Option Resetting) → is_none o ≡ true → o ≡ None
  none_here None h = refl
  none_here (Some x) h = cc

  -- the open reset that begins
  asker : (t : ℕ) (d : DevId) (r : ReqId) (rows : List Open) → OwnFine reset D t rows → list_any (λ o. same_request o.id r && same_dev o.dev d && is_reset o.op) rows ≡ true → r ≡ reset → (t ≡ reset.thread) × D d
  asker t d r [] own h o = cc
  asker t d r (x ∷ xs) own h o = go (same_request x.id r && same_dev x.dev d && is_reset x.op) refl h (asker t d r xs own.1)
    where
      go : (b : Bool) → (same_request x.id r && same_dev x.dev d && is_reset x.op) ≡ b → (b || list_any (λ o. same_request o.id r && same_dev o.dev d && is_reset o.op) xs) ≡ true
          → (list_any (λ o. same_request o.id r && same_dev o.dev d && is_reset o.op) xs ≡ true → r ≡ reset → (t ≡ reset.thread) × D d) → (t ≡ reset.thread) × D d
      go true f h rest =
          let p = and_parts (same_request x.id r && same_dev x.dev d) (is_reset x.op) f in
          let q = and_parts (same_request x.id r) (same_dev x.dev d) p.0 in
          let is : x.id ≡ reset = request_same.exact x.id r q.0 ∙ o in
          (sym own.0.0 ∙ ap (λ (i : ReqId). i.thread) is, subst D (dev_exact x.dev d q.1) (own.0.1 is))
      go false f h rest = rest h o

  begins_freely : (t : ℕ) (d : DevId) (r : ReqId) (came : Came) (o : Option Between) → came.between ≡ o → asks_event setup t (view s t) came (events.BeginReset d r) ≡ true → (o ≡ None) × (is_new_reset (part_of s t) d r ≡ true)
  begins_freely t d r came o f h = go o (subst (λ (x : Option Between). asks_between setup t (view s t) came (events.BeginReset d r) x ≡ true) f h)
    where
      no_and : (b : Bool) → (b && false) ≡ true → ⊥
      no_and true e = cc
      no_and false e = cc

      go : (o : Option Between) → asks_between setup t (view s t) came (events.BeginReset d r) o ≡ true → (o ≡ None) × (is_new_reset (part_of s t) d r ≡ true)
      go None h = (refl, h)
      go (Some (Opening u x)) h = absurd (no_and (u == t) h)
      go (Some (Closing u x)) h = absurd (no_and (u == t) h)

  finishes_freely : (t : ℕ) (d : DevId) (came : Came) (o : Option Between) → came.between ≡ o → asks_event setup t (view s t) came (events.FinishReset d) ≡ true → o ≡ None
  finishes_freely t d came o f h = go o (subst (λ (x : Option Between). asks_between setup t (view s t) came (events.FinishReset d) x ≡ true) f h)
    where
      no_and : (b : Bool) → (b && false) ≡ true → ⊥
      no_and true e = cc
      no_and false e = cc

      go : (o : Option Between) → asks_between setup t (view s t) came (events.FinishReset d) o ≡ true → o ≡ None
      go None h = refl
      go (Some (Opening u x)) h = absurd (no_and (u == t) h)
      go (Some (Closing u x)) h = absurd (no_and (u == t) h)

  started_is : (threads all : ThreadSet) (o : Option Device) → same_answer (answers.ResetStarted threads) (begin_reset_answer all o) ≡ true → threads ≡ all
  started_is threads all None h = cc
  started_is threads all (Some d) h = go (is_destructed_standing d.standing) (is_idle_reset d.reset) h
    where
      go : (a b : Bool) → same_answer (answers.ResetStarted threads) (cond a (answers.Refused NoDev) (cond b (answers.ResetStarted all) answers.ResetQueued)) ≡ true → threads ≡ all
      go true b h = cc
      go false true h = same_set threads all h
      go false false h = cc

  -- the reset that goes on waited at the device
  finished_is : (n : ℕ) (threads all : ThreadSet) (o : Option Device) → WaitsFine reset D n o → same_answer (answers.ResetFinished (Some (reset, threads))) (finish_reset_answer all o) ≡ true → D (record { 0 = n }) × (threads ≡ all)
  finished_is n threads all None w h = cc
  finished_is n threads all (Some d) w h = go (is_thawing_reset d.reset) h
    where
      at : (rs : List ReqId) → AllByRecursion (λ (r : ReqId). r ≡ reset → D (record { 0 = n })) rs → same_answer (answers.ResetFinished (Some (reset, threads))) (answers.ResetFinished (next_reset all rs)) ≡ true → D (record { 0 = n }) × (threads ≡ all)
      at [] w h = cc
      at (r ∷ rs) w h =
          let p = and_parts (same_request reset r) (same_threads threads all) h in
          (w.0 (sym (request_same.exact reset r p.0)), same_set threads all p.1)

      go : (a : Bool) → same_answer (answers.ResetFinished (Some (reset, threads))) (cond a (answers.ResetFinished (next_reset all d.waiting)) (answers.Refused Inval)) ≡ true → D (record { 0 = n }) × (threads ≡ all)
      go true h = at d.waiting w h
      go false h = cc

  pub asks_of : (t : ℕ) (act : Act) → Passes (guards_in setup s t act) → Named reset D busy act → Asks reset D busy (BegunIn reset (part_of s reset.thread)) (BegunIn reset (part_of (after setup s e) reset.thread)) t act (part_of s t)
  asks_of t (acts.Reg (events.BeginReset d r) a) h named =
      let act : Act = acts.Reg (events.BeginReset d r) a in
      let ok = passed (guards_in setup s t act) h in
      let free = begins_freely t d r (came_for setup s t act) s.registry.between refl ok.1.0 in
      let p = and_parts (list_any (λ o. same_request o.id r && same_dev o.dev d && is_reset o.op) (part_of s t).requests) (is_none (reset_of (part_of s t) r)) free.1 in (
        (λ o. let q = asker t d r (part_of s t).requests (held.own t) p.0 o in
            (q.0, q.1, empty_rows (mine reset (part_of s t).resets) (sym (found_first reset (part_of s t).resets) ∙ ap (λ (i : ReqId). reset_of (part_of s t) i) (sym o) ∙ none_here (reset_of (part_of s t) r) p.1))),
        (λ threads f o. named threads f o (asker t d r (part_of s t).requests (held.own t) p.0 o).1),
      )
  asks_of t (acts.Reg (events.FinishReset d) a) h named = λ threads f.
      let act : Act = acts.Reg (events.FinishReset d) a in
      let ok = passed (guards_in setup s t act) h in
      let q = finished_is d.0 threads (threads_of setup s.registry d) (slice_get s.registry.devices d.0) (held.waiting d.0) (subst (λ (x : Answer). same_answer x (finish_reset_answer (threads_of setup s.registry d) (slice_get s.registry.devices d.0)) ≡ true) f ok.0) in
      named threads f q.0
  asks_of t _ h named = tt

  -- the registry names every thread that has a channel
  pub named_of : (t : ℕ) (act : Act) → Passes (guards_in setup s t act) → ((d : DevId) → D d → s.registry.between ≡ None → Covers reset D busy (threads_of setup s.registry d)) → Named reset D busy act
  named_of t (acts.Reg (events.BeginReset d r) a) h cov = λ threads f o has_dev.
      let act : Act = acts.Reg (events.BeginReset d r) a in
      let ok = passed (guards_in setup s t act) h in
      let free = begins_freely t d r (came_for setup s t act) s.registry.between refl ok.1.0 in
      let same : threads ≡ threads_of setup s.registry d = started_is threads (threads_of setup s.registry d) (slice_get s.registry.devices d.0) (subst (λ (x : Answer). same_answer x (begin_reset_answer (threads_of setup s.registry d) (slice_get s.registry.devices d.0)) ≡ true) f ok.0) in
      subst (Covers reset D busy) (sym same) (cov d has_dev free.0)
  named_of t (acts.Reg (events.FinishReset d) a) h cov = λ threads f has_dev.
      let act : Act = acts.Reg (events.FinishReset d) a in
      let ok = passed (guards_in setup s t act) h in
      let free = finishes_freely t d (came_for setup s t act) s.registry.between refl ok.1.0 in
      let q = finished_is d.0 threads (threads_of setup s.registry d) (slice_get s.registry.devices d.0) (held.waiting d.0) (subst (λ (x : Answer). same_answer x (finish_reset_answer (threads_of setup s.registry d) (slice_get s.registry.devices d.0)) ≡ true) f ok.0) in
      subst (Covers reset D busy) (sym q.1) (cov d has_dev free)
  named_of t _ h cov = tt
