-- What each act keeps of a reset: its walks cover every thread that still has an older request open over the device.
use Rattle.std.proofs.Common.{◌≡◌, ℕ, ◌+◌, ◌==◌, Bool, true, false, cond, not, ◌&&◌, ◌||◌, ◌⊎◌, inl, inr, List, [], ◌∷◌, ◌++◌, map, Option, Some, None, refl, sym, ◌∙◌, ap, subst, append-nil, eqb-true}
use Rattle.std.specs.List.{AllByRecursion, filter, list_any, range_with_len}
use Rattle.std.proofs.lemmas.Bool.{and_parts, cases_eq}
use Rattle.bd_base.specs.declared.act.Act.{Act}
use Rattle.bd_base.specs.declared.act.Act.TheVariants as acts
use Rattle.bd_base.specs.declared.act.ApplyEnd.{ApplyEnd}
use Rattle.bd_base.specs.declared.act.Token.{Token}
use Rattle.bd_base.specs.declared.act.Token.TheVariants as tokens
use Rattle.bd_base.specs.declared.event.Answer.{Answer}
use Rattle.bd_base.specs.declared.event.Answer.TheVariants as answers
use Rattle.bd_base.specs.declared.event.RegEvent.{RegEvent}
use Rattle.bd_base.specs.declared.event.RegEvent.TheVariants as events
use Rattle.bd_base.specs.declared.id.DevId.{DevId}
use Rattle.bd_base.specs.declared.id.HandleId.{HandleId}
use Rattle.bd_base.specs.declared.id.ReqId.{ReqId}
use Rattle.bd_base.specs.declared.id.ThreadId.{ThreadId}
use Rattle.bd_base.specs.declared.id.WalkId.{WalkId}
use Rattle.bd_base.specs.declared.job.Job.{Job}
use Rattle.bd_base.specs.declared.job.Job.TheVariants as jobs
use Rattle.bd_base.specs.declared.request.WalkKind.{WalkKind}
use Rattle.bd_base.specs.declared.request.WalkKind.TheVariants.{Freeze, Drain, Thaw, Removal}
use Rattle.bd_base.specs.declared.setup.Setup.{Setup}
use Rattle.bd_base.specs.declared.thread_set.ThreadSet.{ThreadSet}
use Rattle.bd_machine.specs.declared.state.Base.{Base}
use Rattle.bd_machine.specs.declared.state.Due.{Due}
use Rattle.bd_machine.specs.declared.state.Extent.{Extent}
use Rattle.bd_machine.specs.declared.state.Id.{Id}
use Rattle.bd_machine.specs.declared.state.Id.TheVariants.{Request, Piece, Walk, Notice}
use Rattle.bd_machine.specs.declared.state.Kept.{Kept}
use Rattle.bd_machine.specs.declared.state.Kept.TheVariants as keeps
use Rattle.bd_machine.specs.declared.state.News.{News}
use Rattle.bd_machine.specs.declared.state.News.TheVariants as news
use Rattle.bd_machine.specs.declared.state.OpenPiece.{OpenPiece}
use Rattle.bd_machine.specs.declared.state.OpenRequest.{OpenRequest}
use Rattle.bd_machine.specs.declared.state.OpenWalk.{OpenWalk}
use Rattle.bd_machine.specs.declared.state.Owed.TheVariants as owes
use Rattle.bd_machine.specs.declared.state.Part.{Part}
use Rattle.bd_machine.specs.declared.state.Resetting.{Resetting}
use Rattle.bd_machine.specs.declared.state.Stage.{Stage}
use Rattle.bd_machine.specs.declared.state.Stage.TheVariants as stages
use Rattle.bd_machine.specs.Asked.{is_reset_at}
use Rattle.bd_machine.specs.BlockMap.{size_of}
use Rattle.bd_machine.specs.Changes.{is_dropped}
use Rattle.bd_machine.specs.Completion.{pieces_of}
use Rattle.bd_machine.specs.Events.{paid, with_due, device_due, channel_due, gone_due, go_due, alone, closed_by, got_by, put_paid, put_down_by, dropped_by, destruct_of, removal_paid, with_reset, advanced, freed_by, removing, reset_begun, reset_thaws, reset_finishes, injection_taken, drain_time, decided_by, due_to, resizing, resized, sized_due, change_reg, first_req}
use Rattle.bd_machine.specs.Aborts.{aborted}
use Rattle.bd_machine.specs.Delays.{held, released}
use Rattle.bd_machine.specs.Guards.{guards, change, change_by, prior_by, noted}
use Rattle.bd_machine.specs.declared.state.Prior.{Prior}
use Rattle.bd_machine.specs.Homes.{base_here, change_applied, piece_edited, refused}
use Rattle.bd_machine.specs.Injections.{injected, pended, asked_once_more}
use Rattle.bd_machine.specs.Limits.{passed as let_pass}
use Rattle.bd_machine.specs.Kept.{request_here, piece_here, walk_here, edited, as_walk}
use Rattle.bd_machine.specs.declared.state.FreezeMark.TheVariants.{Not}
use Rattle.bd_machine.specs.Grace.{softened}
use Rattle.bd_machine.specs.Marks.{remarked, with_frozen, with_until}
use Rattle.bd_machine.specs.Messages.{change_put, may_go, sent, token_put, news_put, news_of, is_due, is_due_to, due_after, request_took, told_part, freezing, freezes, went, told_walk, taken_by, arrived_walk, closed_notice}
use Rattle.bd_machine.specs.Registry.{device_named}
use Rattle.bd_machine.specs.Requests.{extents_of, pieces_made, cut_into, closed_with, pieces_closed}
use Rattle.bd_machine.specs.Same.{is_the, same_dev, same_news, same_request, same_stage, same_threads, same_walk_kind}
use Rattle.bd_machine.specs.Scripts.{posted, mark_to}
use Rattle.bd_machine.specs.Table.{without_first}
use Rattle.bd_machine.specs.Threads.{first_of, has, is_nobody, without}
use Rattle.bd_machine.specs.View.{View, Came, Move, Here, Closed, Change, id_of}
use Rattle.bd_machine.specs.Walks.{is_reset_of, at_stage, staged, numbered, over_nobody, begin_walk_with, after_walk, walked, threads_if_any, drain_threads, is_drained, is_next_visit, marked_by, visited, walked_if_any, reset_of}
use Rattle.bd_machine.proofs.Acts.{Passes, passed}
use Rattle.bd_machine.proofs.Laws.{filter_twice}
use Rattle.bd_machine.proofs.Tables.{request_same, dev_exact}
use Rattle.bd_law_runs.proofs.Fields.{taken_before}
use Rattle.bd_law_runs.proofs.Rows.{mine, mine_is, first_row, found_first, is_queued, Begun, BegunIn, mine_staged, mine_freezes, mine_advanced, mine_appended, moved_on, Leaves, closed_leaves, got_leaves, put_leaves, dropped_leaves, removal_leaves, freed_leaves, marked_leaves, told_leaves, came_leaves, stopped_leaves, remarked_leaves, ended_leaves, applied_leaves, begin_begun, begun_leaves}
use Rattle.bd_law_runs.proofs.Threads.{nobody_has, without_has}

-- ---- what is said of a reset, whose device D names

module _ (reset : ReqId) (D : DevId → Type 0) (busy : ℕ → Bool) where
  -- each thread with an older request is in the set
  abbrev pub Covers : ThreadSet → Type 0
  Covers threads = (u : ℕ) → busy u ≡ true → has threads u ≡ true

  -- no thread has an older request
  abbrev pub Quiet : Type 0
  Quiet = (u : ℕ) → busy u ≡ true → ⊥

  abbrev pub AtStage : Stage → ThreadSet → Type 0
  AtStage stages.Queued threads = Unit {0}
  AtStage stages.Freezing threads = Covers threads
  AtStage stages.Draining threads = Covers threads
  AtStage _ threads = Quiet

  abbrev pub RowsFine : ℕ → List Resetting → Type 0
  RowsFine t [] = Unit {0}
  RowsFine t (x ∷ []) = (t ≡ reset.thread) × D x.dev × AtStage x.stage x.threads
  RowsFine t (x ∷ y ∷ xs) = ⊥

  abbrev pub IsOurs : Option ReqId → Type 0
  IsOurs None = ⊥
  IsOurs (Some r) = r ≡ reset

  abbrev pub ByKind : WalkKind → ThreadSet → Type 0
  ByKind Freeze left = Unit {0}
  ByKind Drain left = Covers left
  ByKind Thaw left = Quiet
  ByKind Removal left = Unit {0}

  abbrev pub NewsFine : News → Type 0
  NewsFine (news.Go r threads) = r ≡ reset → Covers threads
  NewsFine _ = Unit {0}

  -- a walk of the reset began, which G says
  abbrev pub KeptFine : Type 0 → Kept → Type 0
  KeptFine G (keeps.Walk w) = IsOurs w.request → G × D w.dev × ByKind w.kind w.left
  KeptFine G (keeps.Notice told) = NewsFine told
  KeptFine G _ = Unit {0}

  abbrev pub DueFine : List Due → Type 0
  DueFine due = AllByRecursion (λ (d : Due). NewsFine d.news) due

  abbrev pub MovesFine : Type 0 → List Move → Type 0
  MovesFine G ms = AllByRecursion (λ (m : Move). KeptFine G m.kept) ms

  pub covers_of : (stage : Stage) (threads : ThreadSet) → is_queued stage ≡ false → AtStage stage threads → Covers threads
  covers_of stages.Queued threads h a = cc
  covers_of stages.Freezing threads h a = a
  covers_of stages.Draining threads h a = a
  covers_of stages.Drained threads h a = λ u b. absurd (a u b)
  covers_of stages.Thawing threads h a = λ u b. absurd (a u b)
  covers_of stages.Thawed threads h a = λ u b. absurd (a u b)
  covers_of stages.Finished threads h a = λ u b. absurd (a u b)

  nobody_quiet : (threads : ThreadSet) → is_nobody threads ≡ true → Covers threads → Quiet
  nobody_quiet threads n c = λ u b. nobody_has threads u n (c u b)

  both_due : (xs ys : List Due) → DueFine xs → DueFine ys → DueFine (xs ++ ys)
  both_due [] ys h k = k
  both_due (x ∷ xs) ys h k = (h.0, both_due xs ys h.1 k)

  both_moves : (G : Type 0) (xs ys : List Move) → MovesFine G xs → MovesFine G ys → MovesFine G (xs ++ ys)
  both_moves G [] ys h k = k
  both_moves G (x ∷ xs) ys h k = (h.0, both_moves G xs ys h.1 k)

  -- ---- one thread's act: B says that a walk of the reset had begun before, and N that one has after

  module _ (B N : Type 0) (t : ℕ) where
    pub record Fine (c : Change) : Type 0 where
      pub rows : RowsFine t (mine reset c.part.resets)
      pub due : DueFine c.part.due
      pub moves : MovesFine N c.moves

    fine_cond : (b : Bool) (c d : Change) → Fine c → Fine d → Fine (cond b c d)
    fine_cond true c d h k = h
    fine_cond false c d h k = k

    -- a part that has the rows of another
    rows_leave : (p q : Part) → Leaves p q → RowsFine t (mine reset p.resets) → RowsFine t (mine reset q.resets)
    rows_leave p q h r = subst (λ (rows : List Resetting). RowsFine t (mine reset rows)) (sym h.resets) r

    due_leaves : (p q : Part) → Leaves p q → DueFine p.due → DueFine q.due
    due_leaves p q h d = subst DueFine (sym h.due) d

    staged_fine : (r : Option ReqId) (stage : Stage) (p : Part) → RowsFine t (mine reset p.resets) → (IsOurs r → (x : Resetting) → mine reset p.resets ≡ x ∷ [] → AtStage stage x.threads) → RowsFine t (mine reset (staged r stage p).resets)
    staged_fine None stage p rows claim = rows
    staged_fine (Some r) stage p rows claim = subst (RowsFine t) (sym (mine_staged reset r stage p)) (go (mine reset p.resets) refl rows)
      where
        one : (x : Resetting) (b : Bool) → is_reset_of r x ≡ b → mine reset p.resets ≡ x ∷ [] → RowsFine t (x ∷ []) → RowsFine t (cond b (record x { stage = stage }) x ∷ [])
        one x true e f rows = (rows.0, rows.1, claim (sym (request_same.exact x.req r e) ∙ request_same.exact x.req reset (mine_is reset p.resets x [] f)) x f)
        one x false e f rows = rows

        go : (xs : List Resetting) → mine reset p.resets ≡ xs → RowsFine t xs → RowsFine t (map (at_stage r stage) xs)
        go [] f rows = tt
        go (x ∷ []) f rows = one x (is_reset_of r x) refl f rows
        go (x ∷ y ∷ xs) f rows = rows

    -- what a walk that begins needs: for nobody the reset's rows go on at once
    nobody_fine : (kind : WalkKind) (r : Option ReqId) (p : Part) → RowsFine t (mine reset p.resets) → (IsOurs r → (x : Resetting) → mine reset p.resets ≡ x ∷ [] → Quiet) → RowsFine t (mine reset (over_nobody kind r p).resets)
    nobody_fine Freeze r p rows quiet = staged_fine r stages.Drained (numbered 2 p) rows quiet
    nobody_fine Drain r p rows quiet = staged_fine r stages.Drained (numbered 1 p) rows quiet
    nobody_fine Thaw r p rows quiet = staged_fine r stages.Thawed (numbered 1 p) rows quiet
    nobody_fine Removal r p rows quiet = rows

    nobody_due : (kind : WalkKind) (r : Option ReqId) (p : Part) → DueFine p.due → DueFine (over_nobody kind r p).due
    nobody_due kind None p d = none kind
      where
        none : (kind : WalkKind) → DueFine (over_nobody kind None p).due
        none Freeze = d
        none Drain = d
        none Thaw = d
        none Removal = d
    nobody_due kind (Some r) p d = some kind
      where
        some : (kind : WalkKind) → DueFine (over_nobody kind (Some r) p).due
        some Freeze = d
        some Drain = d
        some Thaw = d
        some Removal = d

    begin_fine : (kind : WalkKind) (d : DevId) (threads : ThreadSet) (r : Option ReqId) (time : ℕ) (c : Change) → Fine c
        → (IsOurs r → is_nobody threads ≡ false → N × D d × ByKind kind threads)
        → (IsOurs r → is_nobody threads ≡ true → (x : Resetting) → mine reset c.part.resets ≡ x ∷ [] → Quiet)
        → Fine (begin_walk_with t kind d threads r time c)
    begin_fine kind d threads r time c fine some quiet = go (is_nobody threads) refl
      where
        go : (b : Bool) → is_nobody threads ≡ b → Fine (cond b (record { part = over_nobody kind r c.part; moves = c.moves })
            (record { part = numbered 1 c.part; moves = c.moves ++ record { id = Walk (record { thread = t; seq = c.part.next_walk }); kept = keeps.Walk (record { dev = d; kind = kind; left = threads; request = r; taken = false; time = time }); going = Here } ∷ [] }))
        go true e = record { rows = nobody_fine kind r c.part fine.rows (λ o. quiet o e); due = nobody_due kind r c.part fine.due; moves = fine.moves }
        go false e = record { rows = fine.rows; due = fine.due; moves = both_moves N c.moves _ fine.moves ((λ o. some o e), tt) }

    staged_due : (r : Option ReqId) (stage : Stage) (p : Part) → DueFine p.due → DueFine (staged r stage p).due
    staged_due None stage p d = d
    staged_due (Some r) stage p d = d

    -- what is known of a walk that is here: it may stay, or end
    abbrev Walking : OpenWalk → WalkKind → Type 0
    Walking w kind = IsOurs w.request → (B × N) × D w.dev × ByKind kind w.left

    row_covers : (p : Part) (x : Resetting) → RowsFine t (mine reset p.resets) → (t ≡ reset.thread → B → BegunIn reset p) → B → mine reset p.resets ≡ x ∷ [] → Covers x.threads
    row_covers p x rows at b e =
        let r : RowsFine t (x ∷ []) = subst (RowsFine t) e rows in
        covers_of x.stage x.threads (subst Begun e (at r.0 b)) r.2

    froze_fine : (w : OpenWalk) (c : Change) → Fine c → (t ≡ reset.thread → B → BegunIn reset c.part) → Walking w Freeze → Fine (after_walk t w Freeze c)
    froze_fine w c fine at k = begin_fine Drain w.dev (drain_threads c.part w.request) w.request 0 (record { part = staged w.request stages.Draining c.part; moves = c.moves })
        (record {
          rows = staged_fine w.request stages.Draining c.part fine.rows (λ o x e. row_covers c.part x fine.rows at (k o).0.0 e);
          due = staged_due w.request stages.Draining c.part fine.due;
          moves = fine.moves;
        })
        (λ o e. ((k o).0.1, (k o).1, covered w.request o (k o).0.0 e))
        (λ o e x f. nobody_quiet (drain_threads c.part w.request) e (all_covered w.request o (k o).0.0 x f))
      where
        at_row : (rows : List Resetting) → mine reset c.part.resets ≡ rows → B → is_nobody (threads_if_any (first_row rows)) ≡ false → Covers (threads_if_any (first_row rows))
        at_row [] e b n = cc
        at_row (x ∷ []) e b n = row_covers c.part x fine.rows at b e
        at_row (x ∷ y ∷ xs) e b n = absurd (subst (RowsFine t) e fine.rows)

        some_row : (rows : List Resetting) → mine reset c.part.resets ≡ rows → B → (r : ReqId) (x : Resetting) → map (at_stage r stages.Draining) rows ≡ x ∷ [] → Covers (threads_if_any (first_row rows))
        some_row [] e b r x f = cc
        some_row (y ∷ []) e b r x f = row_covers c.part y fine.rows at b e
        some_row (y ∷ z ∷ xs) e b r x f = absurd (subst (RowsFine t) e fine.rows)

        covered : (r : Option ReqId) → IsOurs r → B → is_nobody (drain_threads c.part r) ≡ false → Covers (drain_threads c.part r)
        covered None o b e = absurd o
        covered (Some r) o b e =
            let same : drain_threads c.part (Some r) ≡ threads_if_any (first_row (mine reset c.part.resets)) = ap (λ (q : ReqId). drain_threads c.part (Some q)) o ∙ ap threads_if_any (found_first reset c.part.resets) in
            subst Covers (sym same) (at_row (mine reset c.part.resets) refl b (subst (λ (s : ThreadSet). is_nobody s ≡ false) same e))

        all_covered : (r : Option ReqId) → IsOurs r → B → (x : Resetting) → mine reset (staged r stages.Draining c.part).resets ≡ x ∷ [] → Covers (drain_threads c.part r)
        all_covered None o b x f = absurd o
        all_covered (Some r) o b x f =
            let same : drain_threads c.part (Some r) ≡ threads_if_any (first_row (mine reset c.part.resets)) = ap (λ (q : ReqId). drain_threads c.part (Some q)) o ∙ ap threads_if_any (found_first reset c.part.resets) in
            subst Covers (sym same) (some_row (mine reset c.part.resets) refl b r x (sym (mine_staged reset r stages.Draining c.part) ∙ f))

    after_fine : (w : OpenWalk) (kind : WalkKind) (c : Change) → is_nobody w.left ≡ true → Fine c → (t ≡ reset.thread → B → BegunIn reset c.part) → Walking w kind → Fine (after_walk t w kind c)
    after_fine w Freeze c n fine at k = froze_fine w c fine at k
    after_fine w Drain c n fine at k = record {
      rows = staged_fine w.request stages.Drained c.part fine.rows (λ o x e. nobody_quiet w.left n (k o).2);
      due = staged_due w.request stages.Drained c.part fine.due;
      moves = fine.moves;
    }
    after_fine w Thaw c n fine at k = record {
      rows = staged_fine w.request stages.Thawed c.part fine.rows (λ o x e. (k o).2);
      due = staged_due w.request stages.Thawed c.part fine.due;
      moves = fine.moves;
    }
    after_fine w Removal c n fine at k = fine

    walked_fine : (walk : WalkId) (w : OpenWalk) (p : Part) → RowsFine t (mine reset p.resets) → DueFine p.due → (t ≡ reset.thread → B → BegunIn reset p) → Walking w w.kind → Fine (walked t walk w p)
    walked_fine walk w p rows due at k = go (is_nobody w.left) (walk.thread == t) refl
      where
        kept : KeptFine N (keeps.Walk w)
        kept = λ o. ((k o).0.1, (k o).1, (k o).2)

        go : (a b : Bool) → is_nobody w.left ≡ a → Fine (cond (a && b) (after_walk t w w.kind (record { part = p; moves = record { id = Walk walk; kept = keeps.Walk w; going = Closed } ∷ [] })) (record { part = p; moves = record { id = Walk walk; kept = keeps.Walk w; going = Here } ∷ [] }))
        go true true e = after_fine w w.kind (record { part = p; moves = record { id = Walk walk; kept = keeps.Walk w; going = Closed } ∷ [] }) e (record { rows = rows; due = due; moves = (λ o. ((k o).0.1, (k o).1, (k o).2), tt) }) at k
        go true false e = record { rows = rows; due = due; moves = (λ o. ((k o).0.1, (k o).1, (k o).2), tt) }
        go false b e = record { rows = rows; due = due; moves = (λ o. ((k o).0.1, (k o).1, (k o).2), tt) }

    -- ---- messages

    freezes_fine : (r : ReqId) (threads : ThreadSet) (p : Part) → RowsFine t (mine reset p.resets) → (r ≡ reset → Covers threads) → RowsFine t (mine reset (freezes r threads p).resets)
    freezes_fine r threads p rows told = subst (RowsFine t) (sym (mine_freezes reset r threads p)) (go (mine reset p.resets) refl rows)
      where
        one : (x : Resetting) (b : Bool) → is_reset_of r x ≡ b → mine reset p.resets ≡ x ∷ [] → RowsFine t (x ∷ []) → RowsFine t (cond b (record x { stage = stages.Freezing; threads = threads }) x ∷ [])
        one x true e f rows = (rows.0, rows.1, told (sym (request_same.exact x.req r e) ∙ request_same.exact x.req reset (mine_is reset p.resets x [] f)))
        one x false e f rows = rows

        go : (xs : List Resetting) → mine reset p.resets ≡ xs → RowsFine t xs → RowsFine t (map (freezing r threads) xs)
        go [] f rows = tt
        go (x ∷ []) f rows = one x (is_reset_of r x) refl f rows
        go (x ∷ y ∷ xs) f rows = rows

    -- the reset's row freezes
    freezes_begin : (threads : ThreadSet) (p : Part) (x : Resetting) → mine reset p.resets ≡ x ∷ [] → BegunIn reset (freezes reset threads p)
    freezes_begin threads p x e = subst Begun (sym (mine_freezes reset reset threads p ∙ ap (map (freezing reset threads)) e)) (go (is_reset_of reset x) (mine_is reset p.resets x [] e))
      where
        go : (b : Bool) → b ≡ true → is_queued (cond b (record x { stage = stages.Freezing; threads = threads }) x).stage ≡ false
        go true e = refl
        go false e = cc

    abbrev Owns : Change → Type 0
    Owns c = t ≡ reset.thread → BegunIn reset c.part → N

    went_fine : (r : ReqId) (threads : ThreadSet) (o : Option Resetting) (c : Change) → reset_of c.part r ≡ o → Fine c → (r ≡ reset → Covers threads) → Owns (went t r threads o c) → Fine (went t r threads o c)
    went_fine r threads None c f fine told own = fine
    went_fine r threads (Some row) c f fine told own =
        begin_fine Freeze row.dev threads (Some r) row.time (record { part = freezes r threads c.part; moves = c.moves })
        (record { rows = freezes_fine r threads c.part fine.rows told; due = fine.due; moves = fine.moves })
        (λ o e. by_row (mine reset c.part.resets) refl o (first o))
        (λ o e x f. nobody_quiet threads e (told o))
      where
        first : r ≡ reset → first_row (mine reset c.part.resets) ≡ Some row
        first o = sym (found_first reset c.part.resets) ∙ ap (λ (q : ReqId). reset_of c.part q) (sym o) ∙ f

        by_row : (rows : List Resetting) → mine reset c.part.resets ≡ rows → r ≡ reset → first_row rows ≡ Some row → N × D row.dev × Unit {0}
        by_row [] e o g = cc
        by_row (x ∷ []) e o g =
            let fine_row : RowsFine t (x ∷ []) = subst (RowsFine t) e fine.rows in
            let same : x ≡ row = cc in
            let begun : BegunIn reset (freezes r threads c.part) = subst (λ (q : ReqId). BegunIn reset (freezes q threads c.part)) (sym o) (freezes_begin threads c.part x e) in
            (own fine_row.0 (begin_begun reset t Freeze row.dev threads (Some r) row.time (record { part = freezes r threads c.part; moves = c.moves }) begun), subst (λ (y : Resetting). D y.dev) same fine_row.1, tt)
        by_row (x ∷ y ∷ xs) e o g = absurd (subst (RowsFine t) e fine.rows)

    told_fine : (told : News) (c : Change) → Fine c → NewsFine told → Owns (told_walk t told c) → Fine (told_walk t told c)
    told_fine (news.Go r threads) c fine n own = went_fine r threads (reset_of c.part r) c refl fine n own
    told_fine (news.Mark mark) c fine n own = fine
    told_fine (news.Gone handle) c fine n own = fine
    told_fine (news.Channel d) c fine n own = fine
    told_fine (news.Device d) c fine n own = fine
    told_fine (news.Grow d blocks) c fine n own = fine
    told_fine (news.Sized handle blocks) c fine n own = fine

    notice_fine : (setup : Setup) (told : News) (p : Part) (id : Id) → RowsFine t (mine reset p.resets) → DueFine p.due → NewsFine told → Owns (told_walk t told (record { part = told_part setup told p; moves = closed_notice id told })) → Fine (told_walk t told (record { part = told_part setup told p; moves = closed_notice id told }))
    notice_fine setup told p id rows due n own =
        told_fine told (record { part = told_part setup told p; moves = closed_notice id told })
        (record { rows = rows_leave p (told_part setup told p) (told_leaves setup told p) rows; due = due_leaves p (told_part setup told p) (told_leaves setup told p) due; moves = (n, tt) }) n own

    taken_fine : (setup : Setup) (what : Token) (p : Part) (x : Option Kept) (id : Id) → RowsFine t (mine reset p.resets) → DueFine p.due → (t ≡ reset.thread → B → BegunIn reset p) → ((kept : Kept) → x ≡ Some kept → KeptFine (B × N) kept)
        → Owns (taken_by setup t what p x id) → Fine (taken_by setup t what p x id)
    taken_fine setup what p None id rows due at k own = none what
      where
        none : (what : Token) → Fine (taken_by setup t what p None id)
        none (tokens.Request req) = record { rows = rows; due = due; moves = tt }
        none _ = record { rows = rows; due = due; moves = tt }
    taken_fine setup (tokens.Request req) p (Some (keeps.Request r)) id rows due at k own =
        record { rows = rows_leave p (request_took setup req r r.trip p) (came_leaves setup req r r.trip p) rows; due = due_leaves p (request_took setup req r r.trip p) (came_leaves setup req r r.trip p) due; moves = (tt, tt) }
    taken_fine setup (tokens.Request req) p (Some (keeps.Notice told)) id rows due at k own = notice_fine setup told p id rows due (k (keeps.Notice told) refl) own
    taken_fine setup (tokens.Piece req j) p (Some (keeps.Piece q)) id rows due at k own = record { rows = rows; due = due; moves = (tt, tt) }
    taken_fine setup (tokens.Walk walk) p (Some (keeps.Walk w)) id rows due at k own = walked_fine walk (arrived_walk w) p rows due at (k (keeps.Walk w) refl)
    taken_fine setup what p (Some (keeps.Notice told)) id rows due at k own = notice_fine setup told p id rows due (k (keeps.Notice told) refl) own
    taken_fine setup _ p _ id rows due at k own = record { rows = rows; due = due; moves = tt }

    -- ---- puts

    kept_sent : (kept : Kept) → KeptFine (B × N) kept → KeptFine N (sent kept)
    kept_sent (keeps.Request r) k = tt
    kept_sent (keeps.Piece p) k = tt
    kept_sent (keeps.Walk w) k = λ o. ((k o).0.1, (k o).1, (k o).2)
    kept_sent (keeps.Notice n) k = k

    put_fine : (to number : ℕ) (id : Id) (x : Option Kept) → ((kept : Kept) → x ≡ Some kept → KeptFine (B × N) kept) → MovesFine N (token_put to number id x)
    put_fine to number id None k = tt
    put_fine to number id (Some kept) k = (kept_sent kept (k kept refl), tt)

    same_go : (a b : News) → same_news a b ≡ true → NewsFine a → NewsFine b
    same_go (news.Go q s) (news.Go r u) h k =
        let p = and_parts (same_request q r) (same_threads s u) h in
        let same : s ≡ u = ap (λ (n : ℕ). let x : ThreadSet = record { 0 = n } in x) (eqb-true s.0 u.0 p.1) in
        λ o. subst Covers same (k (request_same.exact q r p.0 ∙ o))
    same_go (news.Mark m) (news.Go r u) h k = cc
    same_go (news.Gone m) (news.Go r u) h k = cc
    same_go (news.Channel m) (news.Go r u) h k = cc
    same_go (news.Device m) (news.Go r u) h k = cc
    same_go (news.Grow m n) (news.Go r u) h k = cc
    same_go (news.Sized m n) (news.Go r u) h k = cc
    same_go a (news.Mark m) h k = tt
    same_go a (news.Gone m) h k = tt
    same_go a (news.Channel m) h k = tt
    same_go a (news.Device m) h k = tt
    same_go a (news.Grow m n) h k = tt
    same_go a (news.Sized m n) h k = tt

    due_fine : (to : ℕ) (told : News) (due : List Due) → list_any (is_due_to to told) due ≡ true → DueFine due → NewsFine told
    due_fine to told [] h d = cc
    due_fine to told (x ∷ xs) h d = go (is_due_to to told x) refl h (due_fine to told xs)
      where
        go : (b : Bool) → is_due_to to told x ≡ b → (b || list_any (is_due_to to told) xs) ≡ true → (list_any (is_due_to to told) xs ≡ true → DueFine xs → NewsFine told) → NewsFine told
        go true e h rest = same_go x.news told (and_parts (x.receiver == to) (same_news x.news told) e).1 d.0
        go false e h rest = rest h d.1

    fewer_due : (is : Due → Bool) (due : List Due) → DueFine due → DueFine (without_first is due)
    fewer_due is [] d = tt
    fewer_due is (x ∷ xs) d = go (is x) (fewer_due is xs d.1)
      where
        go : (b : Bool) → DueFine (without_first is xs) → DueFine (cond b xs (x ∷ without_first is xs))
        go true rest = d.1
        go false rest = (d.0, rest)

    due_left : (to : ℕ) (o : Option News) (due : List Due) → DueFine due → DueFine (due_after to o due)
    due_left to None due d = d
    due_left to (Some told) due d = fewer_due (is_due_to to told) due d

    news_fine : (p : Part) (to number : ℕ) (id : Id) (o : Option News) → is_due p to o ≡ true → DueFine p.due → MovesFine N (news_put to number id o)
    news_fine p to number id None h d = tt
    news_fine p to number id (Some told) h d = (due_fine to told p.due h d, tt)

    -- ---- the registry's events

    device_fine : (setup : Setup) (o : Option DevId) → DueFine (device_due setup o)
    device_fine setup None = tt
    device_fine setup (Some d) = (tt, tt)

    channel_fine : (o : Option DevId) → DueFine (channel_due t o)
    channel_fine None = tt
    channel_fine (Some d) = (tt, tt)

    gone_fine : (hs : List (HandleId × ThreadId)) → DueFine (map gone_due hs)
    gone_fine [] = tt
    gone_fine (h ∷ hs) = (tt, gone_fine hs)

    marks_fine : (mark : List ℕ) (us : List ℕ) → DueFine (map (mark_to mark) us)
    marks_fine mark [] = tt
    marks_fine mark (u ∷ us) = (tt, marks_fine mark us)

    alone_leaves : (p q : Part) → Leaves p q → RowsFine t (mine reset p.resets) → DueFine p.due → Fine (alone q)
    alone_leaves p q h rows due = record { rows = rows_leave p q h rows; due = due_leaves p q h due; moves = tt }

    put_down_fine : (d : DevId) (a : Answer) (p : Part) → RowsFine t (mine reset p.resets) → DueFine p.due → Fine (alone (put_down_by t d a p))
    put_down_fine d (answers.PutDown left) p rows due = record { rows = rows; due = both_due p.due (cond (left == 0) (channel_due t (Some d)) []) due (go (left == 0)); moves = tt }
      where
        go : (b : Bool) → DueFine (cond b (channel_due t (Some d)) [])
        go true = (tt, tt)
        go false = tt
    put_down_fine d _ p rows due = record { rows = rows; due = due; moves = tt }

    dropped_fine : (setup : Setup) (d : DevId) (a : Answer) (p : Part) → RowsFine t (mine reset p.resets) → DueFine p.due → Fine (alone (with_due (device_due setup (destruct_of a)) (dropped_by t d a p)))
    dropped_fine setup d a p rows due = go a
      where
        go : (a : Answer) → Fine (alone (with_due (device_due setup (destruct_of a)) (dropped_by t d a p)))
        go (answers.Dropped what zero destruct) =
            let l = dropped_leaves d (is_dropped what) p in
            record {
              rows = rows_leave p (cond (is_dropped what) (remarked d (with_frozen Not) p) p) l rows;
              due = both_due _ (device_due setup destruct) (both_due _ (channel_due t zero) (due_leaves p (cond (is_dropped what) (remarked d (with_frozen Not) p) p) l due) (channel_fine zero)) (device_fine setup destruct);
              moves = tt;
            }
        go a = record { rows = rows; due = both_due p.due (device_due setup (destruct_of a)) due (device_fine setup (destruct_of a)); moves = tt }

    removing_fine : (setup : Setup) (a : Answer) (p : Part) → RowsFine t (mine reset p.resets) → DueFine p.due → Fine (removing setup t a p)
    removing_fine setup (answers.Removing d threads handles destruct) p rows due =
        begin_fine Removal d threads None 0 (alone (with_due (map gone_due handles ++ device_due setup destruct) p))
        (record { rows = rows; due = both_due p.due (map gone_due handles ++ device_due setup destruct) due (both_due (map gone_due handles) (device_due setup destruct) (gone_fine handles) (device_fine setup destruct)); moves = tt })
        (λ o e. absurd o) (λ o e x f. absurd o)
    removing_fine setup _ p rows due = record { rows = rows; due = due; moves = tt }

    appended_fine : (r : ReqId) (d : DevId) (stage : Stage) (threads : ThreadSet) (p : Part) → RowsFine t (mine reset p.resets) → (r ≡ reset → (t ≡ reset.thread) × D d × (mine reset p.resets ≡ [])) → (r ≡ reset → AtStage stage threads) → RowsFine t (mine reset (with_reset r d stage threads p).resets)
    appended_fine r d stage threads p rows new at = subst (RowsFine t) (sym (mine_appended reset r d stage threads p)) (go (is_reset_of reset (record { req = r; dev = d; stage = stage; threads = threads; time = drain_time p r })) refl)
      where
        go : (b : Bool) → is_reset_of reset (record { req = r; dev = d; stage = stage; threads = threads; time = drain_time p r }) ≡ b → RowsFine t (mine reset p.resets ++ cond b (record { req = r; dev = d; stage = stage; threads = threads; time = drain_time p r } ∷ []) [])
        go true e =
            let o : r ≡ reset = request_same.exact r reset e in
            let row : Resetting = record { req = r; dev = d; stage = stage; threads = threads; time = drain_time p r } in
            subst (λ (xs : List Resetting). RowsFine t (xs ++ row ∷ [])) (sym (new o).2) ((new o).0, (new o).1, at o)
        go false e = subst (RowsFine t) (sym (append-nil (mine reset p.resets))) rows

    begun_fine : (d : DevId) (r : ReqId) (a : Answer) (p : Part) → RowsFine t (mine reset p.resets) → DueFine p.due → (r ≡ reset → (t ≡ reset.thread) × D d × (mine reset p.resets ≡ [])) → ((threads : ThreadSet) → a ≡ answers.ResetStarted threads → r ≡ reset → Covers threads)
        → Owns (reset_begun t d r a p) → Fine (reset_begun t d r a p)
    begun_fine d r (answers.ResetStarted threads) p rows due new named own =
        begin_fine Freeze d threads (Some r) (drain_time p r) (alone (with_reset r d stages.Freezing threads p))
        (record { rows = appended_fine r d stages.Freezing threads p rows new (named threads refl); due = due; moves = tt })
        (λ o e. (own (new o).0 (begin_begun reset t Freeze d threads (Some r) (drain_time p r) (alone (with_reset r d stages.Freezing threads p)) (begun o)), (new o).1, tt))
        (λ o e x f. nobody_quiet threads e (named threads refl o))
      where
        begun : r ≡ reset → BegunIn reset (with_reset r d stages.Freezing threads p)
        begun o =
            let row : Resetting = record { req = r; dev = d; stage = stages.Freezing; threads = threads; time = drain_time p r } in
            let is : is_reset_of reset row ≡ true = subst (λ (q : ReqId). same_request q reset ≡ true) (sym o) (request_same.same_self reset) in
            subst Begun (sym (mine_appended reset r d stages.Freezing threads p ∙ ap (λ (xs : List Resetting). xs ++ cond (is_reset_of reset row) (row ∷ []) []) (new o).2 ∙ ap (λ b. cond b (row ∷ []) []) is)) refl
    begun_fine d r a p rows due new named own = other a
      where
        queued : Fine (alone (with_reset r d stages.Queued (record { 0 = 0 }) p))
        queued = record { rows = appended_fine r d stages.Queued (record { 0 = 0 }) p rows new (λ o. tt); due = due; moves = tt }

        other : (a : Answer) → Fine (alone (with_reset r d stages.Queued (record { 0 = 0 }) p))
        other a = queued

    is_drained_stage : (stage : Stage) (threads : ThreadSet) → same_stage stage stages.Drained ≡ true → AtStage stage threads → Quiet
    is_drained_stage stages.Drained threads h a = a
    is_drained_stage stages.Queued threads h a = cc
    is_drained_stage stages.Freezing threads h a = cc
    is_drained_stage stages.Draining threads h a = cc
    is_drained_stage stages.Thawing threads h a = a
    is_drained_stage stages.Thawed threads h a = a
    is_drained_stage stages.Finished threads h a = a

    is_thawed_stage : (stage : Stage) (threads : ThreadSet) → same_stage stage stages.Thawed ≡ true → AtStage stage threads → Quiet
    is_thawed_stage stages.Thawed threads h a = a
    is_thawed_stage stages.Queued threads h a = cc
    is_thawed_stage stages.Freezing threads h a = cc
    is_thawed_stage stages.Draining threads h a = cc
    is_thawed_stage stages.Drained threads h a = a
    is_thawed_stage stages.Thawing threads h a = a
    is_thawed_stage stages.Finished threads h a = a

    advanced_fine : (d : DevId) (old new : Stage) (p : Part) → ((stage : Stage) (threads : ThreadSet) → same_stage stage old ≡ true → AtStage stage threads → AtStage new threads) → RowsFine t (mine reset p.resets) → RowsFine t (mine reset (advanced d old new p).resets)
    advanced_fine d old new p on rows = subst (RowsFine t) (sym (mine_advanced reset d old new p)) (go (mine reset p.resets) rows)
      where
        one : (x : Resetting) (b : Bool) → is_reset_at d old x ≡ b → RowsFine t (x ∷ []) → RowsFine t (cond b (record x { stage = new }) x ∷ [])
        one x true e rows = (rows.0, rows.1, on x.stage x.threads (and_parts (same_dev x.dev d) (same_stage x.stage old) e).1 rows.2)
        one x false e rows = rows

        go : (xs : List Resetting) → RowsFine t xs → RowsFine t (map (moved_on d old new) xs)
        go [] rows = tt
        go (x ∷ []) rows = one x (is_reset_at d old x) refl rows
        go (x ∷ y ∷ xs) rows = rows

    -- the first reset at a stage is a row of its own
    first_is : (d : DevId) (stage : Stage) (rows : List Resetting) → IsOurs (first_req rows d stage) → list_any (is_reset_at d stage) (mine reset rows) ≡ true
    first_is d stage [] o = absurd o
    first_is d stage (r ∷ rs) o = go (is_reset_at d stage r) refl o (first_is d stage rs)
      where
        kept : (b : Bool) → list_any (is_reset_at d stage) (mine reset rs) ≡ true → list_any (is_reset_at d stage) (cond b (r ∷ mine reset rs) (mine reset rs)) ≡ true
        kept true h = or_true (is_reset_at d stage r) (list_any (is_reset_at d stage) (mine reset rs)) h
          where
            or_true : (a b : Bool) → b ≡ true → (a || b) ≡ true
            or_true true b e = refl
            or_true false b e = e
        kept false h = h

        here : is_reset_at d stage r ≡ true → (b : Bool) → b ≡ true → list_any (is_reset_at d stage) (cond b (r ∷ mine reset rs) (mine reset rs)) ≡ true
        here e true f = ap (λ c. c || list_any (is_reset_at d stage) (mine reset rs)) e
        here e false f = cc

        go : (b : Bool) → is_reset_at d stage r ≡ b → IsOurs (cond b (Some r.req) (first_req rs d stage)) → (IsOurs (first_req rs d stage) → list_any (is_reset_at d stage) (mine reset rs) ≡ true) → list_any (is_reset_at d stage) (mine reset (r ∷ rs)) ≡ true
        go true e o rest = here e (is_reset_of reset r) (subst (λ (q : ReqId). same_request q reset ≡ true) (sym o) (request_same.same_self reset))
        go false e o rest = kept (is_reset_of reset r) (rest o)

    thaws_fine : (d : DevId) (a : Answer) (p : Part) → RowsFine t (mine reset p.resets) → DueFine p.due → Owns (reset_thaws t d a p) → Fine (reset_thaws t d a p)
    thaws_fine d (answers.ResetEnded threads) p rows due own =
        begin_fine Thaw d threads (first_req p.resets d stages.Drained) 0 (alone (advanced d stages.Drained stages.Thawing p))
        (record { rows = advanced_fine d stages.Drained stages.Thawing p is_drained_stage rows; due = due; moves = tt })
        (λ o e. by_row (mine reset p.resets) refl (first_is d stages.Drained p.resets o))
        (λ o e x f. (by_row (mine reset p.resets) refl (first_is d stages.Drained p.resets o)).2)
      where
        not_queued : (stage : Stage) → same_stage stage stages.Drained ≡ true → is_queued stage ≡ false
        not_queued stages.Queued h = cc
        not_queued stages.Freezing h = refl
        not_queued stages.Draining h = refl
        not_queued stages.Drained h = refl
        not_queued stages.Thawing h = refl
        not_queued stages.Thawed h = refl
        not_queued stages.Finished h = refl

        begun : (x : Resetting) (b : Bool) → is_queued x.stage ≡ false → is_queued (cond b (record x { stage = stages.Thawing }) x).stage ≡ false
        begun x true h = refl
        begun x false h = h

        or_false : (b : Bool) → (b || false) ≡ true → b ≡ true
        or_false true h = refl
        or_false false h = cc

        by_row : (xs : List Resetting) → mine reset p.resets ≡ xs → list_any (is_reset_at d stages.Drained) xs ≡ true → N × D d × Quiet
        by_row [] e h = cc
        by_row (x ∷ []) e h =
            let r : RowsFine t (x ∷ []) = subst (RowsFine t) e rows in
            let q = and_parts (same_dev x.dev d) (same_stage x.stage stages.Drained) (or_false (is_reset_at d stages.Drained x) h) in
            let later : BegunIn reset (advanced d stages.Drained stages.Thawing p) =
            subst Begun (sym (mine_advanced reset d stages.Drained stages.Thawing p ∙ ap (map (moved_on d stages.Drained stages.Thawing)) e)) (begun x (is_reset_at d stages.Drained x) (not_queued x.stage q.1)) in
            (own r.0 (begin_begun reset t Thaw d threads (first_req p.resets d stages.Drained) 0 (alone (advanced d stages.Drained stages.Thawing p)) later), subst D (dev_exact x.dev d q.0) r.1, is_drained_stage x.stage x.threads q.1 r.2)
        by_row (x ∷ y ∷ xs) e h = absurd (subst (RowsFine t) e rows)
    thaws_fine d _ p rows due own = record { rows = rows; due = due; moves = tt }

    finishes_fine : (d : DevId) (a : Answer) (p : Part) → RowsFine t (mine reset p.resets) → DueFine p.due → ((threads : ThreadSet) → a ≡ answers.ResetFinished (Some (reset, threads)) → Covers threads) → Fine (alone (reset_finishes d a p))
    finishes_fine d (answers.ResetFinished next) p rows due told = record { rows = advanced_fine d stages.Thawed stages.Finished p is_thawed_stage rows; due = both_due p.due (go_due next) due (go next told); moves = tt }
      where
        go : (next : Option (ReqId × ThreadSet)) → ((threads : ThreadSet) → answers.ResetFinished next ≡ answers.ResetFinished (Some (reset, threads)) → Covers threads) → DueFine (go_due next)
        go None told = tt
        go (Some (r, threads)) told = ((λ o. told threads (ap (λ (q : ReqId). answers.ResetFinished (Some (q, threads))) o)), tt)
    finishes_fine d _ p rows due told = record { rows = rows; due = due; moves = tt }

    resizing_fine : (blocks : ℕ) (a : Answer) (p : Part) → RowsFine t (mine reset p.resets) → DueFine p.due → Fine (alone (resizing blocks a p))
    resizing_fine blocks (answers.Resizing d home) p rows due = record { rows = rows; due = both_due p.due (due_to home.0 (news.Grow d blocks)) due (tt, tt); moves = tt }
    resizing_fine blocks _ p rows due = record { rows = rows; due = due; moves = tt }

    sized_fine : (blocks : ℕ) (hs : List (HandleId × ThreadId)) → DueFine (map (sized_due blocks) hs)
    sized_fine blocks [] = tt
    sized_fine blocks (h ∷ hs) = (tt, sized_fine blocks hs)

    resized_fine : (a : Answer) (p : Part) → RowsFine t (mine reset p.resets) → DueFine p.due → Fine (alone (resized a p))
    resized_fine (answers.Resized handles blocks destruct) p rows due = record { rows = rows; due = both_due p.due (map (sized_due blocks) handles) due (sized_fine blocks handles); moves = tt }
    resized_fine _ p rows due = record { rows = rows; due = due; moves = tt }

    -- ---- acts

    edited_fine : (r : ReqId) (f : OpenRequest → OpenRequest) (x : Option OpenRequest) → MovesFine N (edited r f x)
    edited_fine r f None = tt
    edited_fine r f (Some q) = (tt, tt)

    injection_fine : (v : View) (r : ReqId) (a : Answer) → RowsFine t (mine reset v.part.resets) → DueFine v.part.due → Fine (injection_taken v r a)
    injection_fine v r (answers.Injected decision) rows due = record { rows = rows; due = due; moves = edited_fine r asked_once_more (request_here v r) }
    injection_fine v r _ rows due = record { rows = rows; due = due; moves = tt }

    made_fine : (setup : Setup) (req : ReqId) (r : OpenRequest) (k : ℕ) (xs : List Extent) → MovesFine N (pieces_made setup req r k xs)
    made_fine setup req r k [] = tt
    made_fine setup req r k (x ∷ xs) = (tt, made_fine setup req r (k + 1) xs)

    cut_fine : (setup : Setup) (req : ReqId) (n : ℕ) (x : Option OpenRequest) → MovesFine N (cut_into setup req n x)
    cut_fine setup req n None = tt
    cut_fine setup req n (Some r) = (tt, made_fine setup req r 0 (extents_of setup r))

    pieces_fine : (req : ReqId) (k : ℕ) (ps : List (Option OpenPiece)) → MovesFine N (pieces_closed req k ps)
    pieces_fine req k [] = tt
    pieces_fine req k (None ∷ ps) = pieces_fine req (k + 1) ps
    pieces_fine req k (Some p ∷ ps) = (tt, pieces_fine req (k + 1) ps)

    closed_fine : (v : View) (req : ReqId) (x : Option OpenRequest) → MovesFine N (closed_with v req x)
    closed_fine v req None = tt
    closed_fine v req (Some r) = (tt, pieces_fine req 0 (pieces_of v req r))

    applied_moves : (v : View) (req : ReqId) (k : ℕ) (d : DevId) (end : ApplyEnd) (size : ℕ) (x : Option OpenPiece) (b : Option Base) → MovesFine N (change_applied v req k d end size x b).moves
    applied_moves v req k d end size (Some p) (Some b) = (tt, tt)
    applied_moves v req k d end size _ _ = tt

    refused_fine : (req : ReqId) (k : ℕ) (x : Option OpenPiece) → MovesFine N (piece_edited req k refused x)
    refused_fine req k None = tt
    refused_fine req k (Some p) = (tt, tt)

    posted_fine : (setup : Setup) (o : Option Job) → DueFine (posted setup o)
    posted_fine setup (Some (jobs.Post mark)) = marks_fine mark (range_with_len 0 setup.threads)
    posted_fine setup _ = tt

    completed_rows : (req : ReqId) (p : Part) → RowsFine t (mine reset p.resets) → RowsFine t (mine reset (filter (λ r. not (is_reset_of req r)) p.resets))
    completed_rows req p rows = subst (RowsFine t) (filter_twice (λ r. not (is_reset_of req r)) (is_reset_of reset) p.resets) (go (mine reset p.resets) rows)
      where
        one : (x : Resetting) (b : Bool) → RowsFine t (x ∷ []) → RowsFine t (cond (not b) (x ∷ []) [])
        one x true r = tt
        one x false r = r

        go : (xs : List Resetting) → RowsFine t xs → RowsFine t (filter (λ r. not (is_reset_of req r)) xs)
        go [] r = tt
        go (x ∷ []) r = one x (is_reset_of req x) r
        go (x ∷ y ∷ xs) r = absurd r

    -- what an event that begins or finishes a reset needs
    abbrev pub Asks : Act → Part → Type 0
    Asks (acts.Reg (events.BeginReset d r) a) p = (r ≡ reset → (t ≡ reset.thread) × D d × (mine reset p.resets ≡ [])) × ((threads : ThreadSet) → a ≡ answers.ResetStarted threads → r ≡ reset → Covers threads)
    Asks (acts.Reg (events.FinishReset d) a) p = (threads : ThreadSet) → a ≡ answers.ResetFinished (Some (reset, threads)) → Covers threads
    Asks _ p = Unit {0}

    noted_fine : (o : Option Prior) (c : Change) → Fine c → Fine (noted o c)
    noted_fine o c f = record { rows = f.rows; due = f.due; moves = f.moves }

    -- what is known before an act
    pub record Known (setup : Setup) (v : View) (act : Act) (came : Came) : Type 0 where
      pub passes : Passes (guards setup t v act came)
      pub rows : RowsFine t (mine reset v.part.resets)
      pub due : DueFine v.part.due
      pub begun : t ≡ reset.thread → B → BegunIn reset v.part
      pub here : (id : Id) (kept : Kept) → v.here id ≡ Some kept → KeptFine (B × N) kept
      pub brought : (kept : Kept) → came.message ≡ Some kept → KeptFine (B × N) kept
      pub drained : (d : DevId) → D d → is_drained setup v.part d Drain ≡ true → busy t ≡ true → ⊥
      pub asks : Asks act v.part
      pub owns : Owns (change setup t v act came)

    walk_is : (o : Option Kept) (w : OpenWalk) → as_walk o ≡ Some w → o ≡ Some (keeps.Walk w)
    walk_is None w h = cc
    walk_is (Some (keeps.Walk x)) w h = let same : x ≡ w = cc in ap (λ (y : OpenWalk). Some (keeps.Walk y)) same
    walk_is (Some (keeps.Request r)) w h = cc
    walk_is (Some (keeps.Piece p)) w h = cc
    walk_is (Some (keeps.Notice n)) w h = cc

    module _ (setup : Setup) (v : View) (came : Came) where
      reg_fine : (event : RegEvent) (a : Answer) → Known setup v (acts.Reg event a) came → Fine (change_reg setup t v came event a)
      reg_fine (events.Open name write) a k = record { rows = k.rows; due = k.due; moves = tt }
      reg_fine (events.Claim id kind) a k = record { rows = k.rows; due = k.due; moves = tt }
      reg_fine (events.Close id) a k =
          let l = closed_leaves setup came id a v.part in
          record { rows = rows_leave v.part (closed_by setup came id a v.part) l k.rows; due = both_due _ (device_due setup (destruct_of a)) (due_leaves v.part (closed_by setup came id a v.part) l k.due) (device_fine setup (destruct_of a)); moves = tt }
      reg_fine (events.GetChannel d) a k = alone_leaves v.part (got_by setup v d a) (got_leaves setup v d a) k.rows k.due
      reg_fine (events.PutChannel d closing) a k =
          let l = put_leaves d closing v.part in
          put_down_fine d a (put_paid d closing v.part) (rows_leave v.part (put_paid d closing v.part) l k.rows) (due_leaves v.part (put_paid d closing v.part) l k.due)
      reg_fine (events.DropChannel d) a k = dropped_fine setup d a (paid (owes.Drop d) v.part) k.rows k.due
      reg_fine (events.BeginRemove name) a k =
          let q : Part = removal_paid came a (device_named setup name) v.part in
          let l = removal_leaves came a (device_named setup name) v.part in
          removing_fine setup a q (rows_leave v.part q l k.rows) (due_leaves v.part q l k.due)
      reg_fine (events.BeginReset d r) a k = begun_fine d r a v.part k.rows k.due k.asks.0 k.asks.1 k.owns
      reg_fine (events.EndReset d) a k = thaws_fine d a v.part k.rows k.due k.owns
      reg_fine (events.FinishReset d) a k = finishes_fine d a v.part k.rows k.due k.asks
      reg_fine (events.TakeInjection d r op) a k = injection_fine v r a k.rows k.due
      reg_fine (events.Destructed d) a k = alone_leaves (paid (owes.Report d) v.part) (freed_by a (paid (owes.Report d) v.part)) (freed_leaves a (paid (owes.Report d) v.part)) k.rows k.due
      reg_fine (events.BeginResize name blocks) a k = resizing_fine blocks a (decided_by came a v.part) k.rows k.due
      reg_fine (events.EndResize d) a k =
          let f = resized_fine a (paid (owes.EndResize d) v.part) k.rows k.due in
          record { rows = f.rows; due = both_due _ (device_due setup (destruct_of a)) f.due (device_fine setup (destruct_of a)); moves = tt }

      visit_fine : (walk : WalkId) (d : DevId) (kind : WalkKind) → Known setup v (acts.Visit walk d kind) came → Fine (walked_if_any t walk (marked_by setup t v walk d kind) (walk_here v walk))
      visit_fine walk d kind k = go (walk_here v walk) refl (ok.0)
        where
          ok : AllByRecursion (λ (g : ℕ × Bool). g.1 ≡ true) (guards setup t v (acts.Visit walk d kind) came)
          ok = passed (guards setup t v (acts.Visit walk d kind) came) k.passes

          left_kind : (w : OpenWalk) (wk : WalkKind) → same_walk_kind wk kind ≡ true → D w.dev → same_dev w.dev d ≡ true → ByKind wk w.left → ByKind wk (without w.left t)
          left_kind w Freeze e ours is c = tt
          left_kind w Drain e ours is c = λ u b. other u b (cases_eq u t)
            where
              drains : (x : WalkKind) → same_walk_kind Drain x ≡ true → is_drained setup v.part d x ≡ true → is_drained setup v.part d Drain ≡ true
              drains Drain e h = h
              drains Freeze e h = cc
              drains Thaw e h = cc
              drains Removal e h = cc

              other : (u : ℕ) → busy u ≡ true → (u ≡ t) ⊎ (u ≡ t → ⊥) → has (without w.left t) u ≡ true
              other u b (inl same) = absurd (k.drained d (subst D (dev_exact w.dev d is) ours) (drains kind e (passed (guards setup t v (acts.Visit walk d kind) came) k.passes).1.0) (subst (λ (n : ℕ). busy n ≡ true) same b))
              other u b (inr ne) = without_has w.left t u ne (c u b)
          left_kind w Thaw e ours is c = c
          left_kind w Removal e ours is c = tt

          go : (x : Option OpenWalk) → walk_here v walk ≡ x → is_next_visit t d kind x ≡ true → Fine (walked_if_any t walk (marked_by setup t v walk d kind) x)
          go None e h = cc
          go (Some w) e h =
              let p = and_parts (w.taken && is_the ◌==◌ t (first_of w.left) && same_dev w.dev d) (same_walk_kind w.kind kind) h in
              let q = and_parts (w.taken && is_the ◌==◌ t (first_of w.left)) (same_dev w.dev d) p.0 in
              let l = marked_leaves setup t v walk d kind in
              let part : Part = marked_by setup t v walk d kind in
              let ours : KeptFine (B × N) (keeps.Walk w) = k.here (Walk walk) (keeps.Walk w) (walk_is (v.here (Walk walk)) w e) in
              walked_fine walk (visited t w) part (rows_leave v.part part l k.rows) (due_leaves v.part part l k.due)
              (λ same b. begun_leaves reset v.part part l (k.begun same b))
              (λ o. ((ours o).0, (ours o).1, left_kind w w.kind p.1 (ours o).1 q.1 (ours o).2))

      act_fine : (act : Act) → Known setup v act came → Fine (change_by setup t v act came)
      act_fine (acts.Put to number what) k = go what (passed (guards setup t v (acts.Put to number what) came) k.passes).1.1.0
        where
          go : (what : Token) → may_go setup t v to what ≡ true → Fine (change_put setup t v to number what)
          go (tokens.Request req) h = record { rows = k.rows; due = k.due; moves = put_fine to number (Request req) (v.here (Request req)) (k.here (Request req)) }
          go (tokens.Piece req j) h = record { rows = k.rows; due = k.due; moves = put_fine to number (Piece req j) (v.here (Piece req j)) (k.here (Piece req j)) }
          go (tokens.Walk walk) h = record { rows = k.rows; due = k.due; moves = put_fine to number (Walk walk) (v.here (Walk walk)) (k.here (Walk walk)) }
          go what h = record { rows = k.rows; due = due_left to (news_of what) v.part.due k.due; moves = news_fine v.part to number (Notice t to number) (news_of what) h k.due }
      act_fine (acts.Took source number what) k = taken_fine setup what (taken_before v.part source number) came.message (id_of source t number what) k.rows k.due k.begun k.brought k.owns
      act_fine (acts.Reg event a) k = reg_fine event a k
      act_fine (acts.Accept d lba handle req op count) k = record { rows = k.rows; due = k.due; moves = (tt, tt) }
      act_fine (acts.Refuse errno lba handle op count) k = record { rows = k.rows; due = k.due; moves = tt }
      act_fine (acts.Inject req d decision) k = record { rows = k.rows; due = k.due; moves = edited_fine req (injected decision) (request_here v req) }
      act_fine (acts.Pend req) k = record { rows = k.rows; due = k.due; moves = edited_fine req pended (request_here v req) }
      act_fine (acts.Let req d now) k = record { rows = k.rows; due = k.due; moves = edited_fine req let_pass (request_here v req) }
      act_fine (acts.Cut req n) k = record { rows = k.rows; due = k.due; moves = cut_fine setup req n (request_here v req) }
      act_fine (acts.Apply req j d end) k =
          let l = applied_leaves v req j d end (size_of setup d) (piece_here v req j) (base_here v d) in
          record {
            rows = rows_leave v.part _ l k.rows;
            due = due_leaves v.part _ l k.due;
            moves = applied_moves v req j d end (size_of setup d) (piece_here v req j) (base_here v d);
          }
      act_fine (acts.NoMem req j d) k = record { rows = k.rows; due = k.due; moves = refused_fine req j (piece_here v req j) }
      act_fine (acts.Hold req until) k = record { rows = k.rows; due = k.due; moves = edited_fine req (held setup v.part until) (request_here v req) }
      act_fine (acts.Release req now) k = record { rows = k.rows; due = k.due; moves = edited_fine req released (request_here v req) }
      act_fine (acts.Abort req cause) k =
          let l = stopped_leaves setup v.part req (request_here v req) in
          record { rows = rows_leave v.part _ l k.rows; due = due_leaves v.part _ l k.due; moves = edited_fine req (aborted cause) (request_here v req) }
      act_fine (acts.Complete req status shown) k = record { rows = completed_rows req v.part k.rows; due = k.due; moves = closed_fine v req (request_here v req) }
      act_fine (acts.Visit walk d kind) k = visit_fine walk d kind k
      act_fine (acts.Tick d now slices) k = record { rows = k.rows; due = k.due; moves = tt }
      act_fine (acts.Destruct d digest) k = record { rows = k.rows; due = k.due; moves = tt }
      act_fine (acts.Script line outcome) k = record { rows = k.rows; due = both_due v.part.due _ k.due (posted_fine setup _); moves = tt }
      act_fine (acts.Grow d blocks) k = record { rows = k.rows; due = k.due; moves = tt }
      act_fine (acts.Grace walk until) k = alone_leaves v.part _ (remarked_leaves (softened walk v.part.prior) (with_until until) v.part) k.rows k.due
      act_fine (acts.Due walk now) k = alone_leaves v.part _ (ended_leaves walk now v.part) k.rows k.due
      act_fine acts.Shutdown k = record { rows = k.rows; due = k.due; moves = tt }

      pub change_fine : (act : Act) → Known setup v act came → Fine (change setup t v act came)
      change_fine act k = noted_fine (prior_by v act) (change_by setup t v act came) (act_fine act k)
