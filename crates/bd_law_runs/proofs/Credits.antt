-- A limited device's home puts its channel once: while the device is live, while the walk of its removal still has the home to visit, or while the put is owed.
use Rattle.std.proofs.Common.{◌≡◌, ℕ, zero, suc, ◌+◌, ◌-◌, ◌≤◌, Bool, true, false, cond, ◌&&◌, ◌==◌, ◌⊎◌, inl, inr, List, [], ◌∷◌, Option, Some, None, is_some, refl, sym, ◌∙◌, ap, subst, eqb-true, arith, le_refl}
use Rattle.std.specs.Prelude.{slice_get}
use Rattle.std.specs.List.{AllByRecursion, list_any, find, range_with_len}
use Rattle.std.proofs.lemmas.Bool.{and_parts, and_from, cases_eq}
use Rattle.bd_base.specs.declared.act.Act.{Act}
use Rattle.bd_base.specs.declared.act.Act.TheVariants as acts
use Rattle.bd_base.specs.declared.act.Entry.{Entry}
use Rattle.bd_base.specs.declared.event.Answer.{Answer}
use Rattle.bd_base.specs.declared.event.Answer.TheVariants as answers
use Rattle.bd_base.specs.declared.event.RegEvent.TheVariants as events
use Rattle.bd_base.specs.declared.id.DevId.{DevId}
use Rattle.bd_base.specs.declared.id.WalkId.{WalkId}
use Rattle.bd_base.specs.declared.request.WalkKind.{WalkKind}
use Rattle.bd_base.specs.declared.request.WalkKind.TheVariants.{Freeze, Drain, Thaw, Removal}
use Rattle.bd_base.specs.declared.setup.Setup.{Setup}
use Rattle.bd_machine.specs.declared.state.Id.{Id}
use Rattle.bd_machine.specs.declared.state.Id.TheVariants.{Walk}
use Rattle.bd_machine.specs.declared.state.Kept.{Kept}
use Rattle.bd_machine.specs.declared.state.Kept.TheVariants as keeps
use Rattle.bd_machine.specs.declared.state.OpenWalk.{OpenWalk}
use Rattle.bd_machine.specs.declared.state.Owed.TheVariants as owes
use Rattle.bd_machine.specs.declared.state.Part.{Part}
use Rattle.bd_machine.specs.declared.state.State.{State}
use Rattle.bd_machine.specs.declared.state.Tracked.{Tracked}
use Rattle.bd_machine.specs.declared.state.Between.{Between}
use Rattle.bd_machine.specs.declared.state.Device.{Device}
use Rattle.bd_machine.specs.declared.state.Registry.{Registry}
use Rattle.bd_machine.specs.declared.state.Standing.TheVariants as standings
use Rattle.bd_machine.specs.Asked.{asks_between}
use Rattle.bd_machine.specs.Changes.{registry_after, with_standing}
use Rattle.bd_machine.specs.Destruction.{is_removing_of}
use Rattle.bd_machine.specs.Events.{removal_paid}
use Rattle.bd_machine.specs.Kept.{as_walk, walk_here}
use Rattle.bd_machine.specs.Laws.{one_if}
use Rattle.bd_machine.specs.Registry.{is_live, is_live_standing, standing_if_any, device_named, remove_answer}
use Rattle.bd_machine.specs.Same.{same_dev, same_id, same_owed, same_answer, same_walk_kind, is_the}
use Rattle.bd_machine.specs.Step.{guards_in, change_in, refusal, moved, after}
use Rattle.bd_machine.specs.Table.{look_up, change_at}
use Rattle.bd_machine.specs.Threads.{first_of, has}
use Rattle.bd_machine.specs.View.{Change, Move, Going, Here, Closed, asked, kept_on, view, came_for, part_of, here_of, id_of}
use Rattle.bd_machine.specs.Walks.{is_next_visit, visited, walked, after_walk, is_at_end, walked_if_any, marked_by}
use Rattle.bd_machine.proofs.Acts.{Passes, passed, IsFresh}
use Rattle.bd_machine.proofs.Destruction.{step_stays}
use Rattle.bd_machine.specs.declared.state.Place.{Place}
use Rattle.bd_machine.specs.declared.state.Place.TheVariants.{At, Ring, Nowhere}
use Rattle.bd_machine.proofs.Laws.{tracked, found-moved}
use Rattle.bd_machine.proofs.Tables.{id_same, dev_exact}
use Rattle.bd_machine.proofs.Steps.{allowed_passes, part_is, part_stays}
use Rattle.bd_law_runs.proofs.Carriers.{is_removal, is_carrier, kept_carries, carries, BeginsOld, moves_old, carries_after, here_only, message_only, visited_not}
use Rattle.bd_law_runs.proofs.Counted.{freely}
use Rattle.bd_law_runs.proofs.Facts.{removed_live}
use Rattle.bd_law_runs.proofs.Ledger.{tokens_after_is}
use Rattle.bd_law_runs.proofs.Names.{is_putter, puts, ActFine, IsVisit, act_tame, visit_puts, put_paid_once}

differ : {b : Bool} → b ≡ true → b ≡ false → ⊥
differ h k = let e : true ≡ false = sym h ∙ k in cc

abbrev pub IsWalk : Option WalkId → Id → Type 0
IsWalk None id = ⊥
IsWalk (Some w) id = id ≡ Walk w

-- the device's home puts its channel this often at most: what is owed, the one walk that still visits the home, and the removal that is still to begin
pub record Credit (setup : Setup) (t : ℕ) (d : DevId) (s : State) (extra : ℕ) : Type 0 where
  pub walk : Option WalkId
  pub only : (id : Id) → carries setup t d (look_up same_id s.tokens id) ≡ true → IsWalk walk id
  pub total : puts (part_of s t) d + one_if (is_some walk) + one_if (is_putter setup t d && is_live s.registry d) ≤ extra
  pub most : extra ≤ 1

-- the put of the device by this thread
abbrev pub is_put_by_home : DevId → Act → Bool
is_put_by_home d (acts.Reg (events.PutChannel dev false) a) = same_dev dev d
is_put_by_home d _ = false

pub registry_is : (setup : Setup) (s : State) (e : Entry) → (after setup s e).registry ≡ registry_after setup s.registry e.thread (asked e.act)
unfolding after
registry_is setup s e = refl

-- a device whose removal begins isn't live
gone_now : (ds : List Device) (n : ℕ) → is_live_standing (standing_if_any (slice_get (change_at n (with_standing standings.Removing) ds) n)) ≡ false
gone_now [] n = refl
gone_now (x ∷ xs) zero = refl
gone_now (x ∷ xs) (suc n) = gone_now xs n

-- ---- the walk that visits

find_passes : (is : ℕ → Bool) (us : List ℕ) (t : ℕ) → is_the ◌==◌ t (find is us) ≡ true → is t ≡ true
find_passes is [] t h = cc
find_passes is (u ∷ us) t h = go (is u) refl h (find_passes is us t)
  where
    go : (b : Bool) → is u ≡ b → is_the ◌==◌ t (cond b (Some u) (find is us)) ≡ true → (is_the ◌==◌ t (find is us) ≡ true → is t ≡ true) → is t ≡ true
    go true e h rest = subst (λ (n : ℕ). is n ≡ true) (sym (eqb-true t u h)) e
    go false e h rest = rest h

removal_is : (kind : WalkKind) → same_walk_kind kind Removal ≡ true → kind ≡ Removal
removal_is Removal h = refl
removal_is Freeze h = cc
removal_is Drain h = cc
removal_is Thaw h = cc

-- a walk of a removal makes one move
removal_moves : (u : ℕ) (walk : WalkId) (w : OpenWalk) (p : Part) → w.kind ≡ Removal → (g : Going) × ((walked u walk w p).moves ≡ record { id = Walk walk; kept = keeps.Walk w; going = g } ∷ [])
removal_moves u walk w p k = go (is_at_end u walk w)
  where
    c : Change
    c = record { part = p; moves = record { id = Walk walk; kept = keeps.Walk w; going = Closed } ∷ [] }

    by : (kind : WalkKind) → kind ≡ Removal → (after_walk u w kind (record { part = p; moves = record { id = Walk walk; kept = keeps.Walk w; going = Closed } ∷ [] })).moves ≡ record { id = Walk walk; kept = keeps.Walk w; going = Closed } ∷ []
    by Removal e = refl
    by Freeze e = cc
    by Drain e = refl
    by Thaw e = refl

    go : (b : Bool) → (g : Going) × ((cond b (after_walk u w w.kind (record { part = p; moves = record { id = Walk walk; kept = keeps.Walk w; going = Closed } ∷ [] })) (record { part = p; moves = record { id = Walk walk; kept = keeps.Walk w; going = Here } ∷ [] })).moves ≡ record { id = Walk walk; kept = keeps.Walk w; going = g } ∷ [])
    go true = (Closed, by w.kind k)
    go false = (Here, refl)

here_carries : (setup : Setup) (t : ℕ) (d : DevId) (u : ℕ) (o : Option Tracked) (w : OpenWalk) → as_walk (here_of u o) ≡ Some w → carries setup t d o ≡ is_carrier setup t d w
here_carries setup t d u None w e = cc
here_carries setup t d u (Some token) w e = go token.place e
  where
    by : (kept : Kept) → as_walk (Some kept) ≡ Some w → kept_carries setup t d kept ≡ is_carrier setup t d w
    by (keeps.Walk x) e = let same : x ≡ w = cc in ap (is_carrier setup t d) same
    by (keeps.Request r) e = cc
    by (keeps.Piece p) e = cc
    by (keeps.Notice n) e = cc

    at : (b : Bool) → as_walk (cond b (Some token.kept) None) ≡ Some w → kept_carries setup t d token.kept ≡ is_carrier setup t d w
    at true e = by token.kept e
    at false e = cc

    go : (p : Place) → as_walk (kept_on u p token.kept) ≡ Some w → kept_carries setup t d token.kept ≡ is_carrier setup t d w
    go (At x) e = at (x == u) e
    go (Ring a b n) e = cc
    go Nowhere e = cc

module _ (setup : Setup) (t : ℕ) (d : DevId) (s : State) (e : Entry) (fresh : IsFresh s) (allowed : refusal setup s e ≡ None) (act_fine : ActFine setup e.thread e.act) where
  -- what is live was live
  live_before : is_live (after setup s e).registry d ≡ true → is_live s.registry d ≡ true
  live_before h = go (is_live s.registry d) refl
    where
      go : (b : Bool) → is_live s.registry d ≡ b → b ≡ true
      go true k = refl
      go false k = absurd (differ h (step_stays setup d s e k))

  live_less : one_if (is_putter setup t d && is_live (after setup s e).registry d) ≤ one_if (is_putter setup t d && is_live s.registry d)
  live_less = go (is_putter setup t d) (is_live (after setup s e).registry d) (is_live s.registry d) live_before
    where
      go : (p a b : Bool) → (a ≡ true → b ≡ true) → one_if (p && a) ≤ one_if (p && b)
      go false a b h = omega arith
      go true false b h = omega arith
      go true true true h = omega arith
      go true true false h = let no : false ≡ true = h refl in cc

  -- the tokens that carry, where each was such a walk
  only_after : (Old : Id → Type 0) → ((id : Id) → carries setup t d (look_up same_id s.tokens id) ≡ true → Old id) → BeginsOld setup t d e.thread Old e.act (view s e.thread) (came_for setup s e.thread e.act)
      → (id : Id) → carries setup t d (look_up same_id (after setup s e).tokens id) ≡ true → Old id
  only_after Old only begins id c =
      carries_after setup t d e.thread Old (change_in setup s e.thread e.act).moves s.tokens only
      (moves_old setup t d e.thread Old (view s e.thread) e.act (came_for setup s e.thread e.act)
      (record {
        here = λ i kept h. here_only setup t d e.thread (look_up same_id s.tokens i) kept (Old i) h (only i);
        brought = λ source number what kept is h. message_only setup t d source e.thread number (look_up same_id s.tokens (id_of source e.thread number what)) kept (Old (id_of source e.thread number what))
            (subst (λ (a : Act). (came_for setup s e.thread a).message ≡ Some kept) is h) (only (id_of source e.thread number what));
        begins = begins;
      }))
      id (subst (λ (ts : List (Id × Tracked)). carries setup t d (look_up same_id ts id) ≡ true) (tokens_after_is setup s e) c)

  -- the puts that are owed: none comes but by a visit
  puts_less : (e.thread ≡ t → IsVisit setup t e.act → ⊥) → puts (part_of (after setup s e) t) d ≤ puts (part_of s t) d
  puts_less n = go (cases_eq e.thread t)
    where
      own : (IsVisit setup e.thread e.act → ⊥) → puts (part_of (after setup s e) e.thread) d ≤ puts (part_of s e.thread) d
      own k = subst (λ (p : Part). puts p d ≤ puts (part_of s e.thread) d) (sym (part_is setup s e fresh allowed)) ((act_tame setup e.thread (view s e.thread) e.act (came_for setup s e.thread e.act) act_fine k).puts_less d)

      go : (e.thread ≡ t) ⊎ (e.thread ≡ t → ⊥) → puts (part_of (after setup s e) t) d ≤ puts (part_of s t) d
      go (inl same) = subst (λ (u : ℕ). puts (part_of (after setup s e) u) d ≤ puts (part_of s u) d) same (own (λ v. n same v))
      go (inr ne) = subst (λ (p : Part). puts p d ≤ puts (part_of s t) d) (sym (part_stays setup s e fresh allowed t ne)) (le_refl (puts (part_of s t) d))

  -- an act that neither begins the removal, nor visits the home, nor puts
  plain : (extra : ℕ) (c : Credit setup t d s extra) → (e.thread ≡ t → IsVisit setup t e.act → ⊥) → BeginsOld setup t d e.thread (IsWalk c.walk) e.act (view s e.thread) (came_for setup s e.thread e.act) → Credit setup t d (after setup s e) extra
  plain extra c n b = record {
    walk = c.walk;
    only = only_after (IsWalk c.walk) c.only b;
    total = sums (puts (part_of (after setup s e) t) d) (puts (part_of s t) d) (one_if (is_some c.walk)) (one_if (is_putter setup t d && is_live (after setup s e).registry d)) (one_if (is_putter setup t d && is_live s.registry d)) extra (puts_less n) live_less c.total;
    most = c.most;
  }
    where
      sums : (a b w x y z : ℕ) → a ≤ b → x ≤ y → b + w + y ≤ z → a + w + x ≤ z
      sums a b w x y z h k l = omega arith

  -- ---- the removal begins

  abbrev new_walk : List ℕ → Answer → WalkId
  new_walk name a = record { thread = e.thread; seq = (removal_paid (came_for setup s e.thread (acts.Reg (events.BeginRemove name) a)) a (device_named setup name) (part_of s e.thread)).next_walk }

  begins_removal : (extra : ℕ) (c : Credit setup t d s extra) (name : List ℕ) (a : Answer) → e.act ≡ acts.Reg (events.BeginRemove name) a → is_removing_of d (acts.Reg (events.BeginRemove name) a) ≡ true → is_putter setup t d ≡ true → Credit setup t d (after setup s e) extra
  begins_removal extra c name a is removing putter = go c.walk refl
    where
      answered : same_answer a (remove_answer setup s.registry (device_named setup name)) ≡ true
      answered = (passed (guards_in setup s e.thread (acts.Reg (events.BeginRemove name) a)) (subst (λ (x : Act). Passes (guards_in setup s e.thread x)) is (allowed_passes setup s e allowed))).0

      live : is_live s.registry d ≡ true
      live = removed_live setup s.registry (device_named setup name) a d removing answered

      total : puts (part_of s t) d + one_if (is_some c.walk) + 1 ≤ extra
      total = subst (λ (b : Bool). puts (part_of s t) d + one_if (is_some c.walk) + one_if b ≤ extra) (and_from (is_putter setup t d) (is_live s.registry d) putter live) c.total

      dead : is_live (after setup s e).registry d ≡ false
      dead = ap (λ (r : Registry). is_live r d) (registry_is setup s e ∙ ap (λ (x : Act). registry_after setup s.registry e.thread (asked x)) is) ∙ by a removing
        where
          by : (a : Answer) → is_removing_of d (acts.Reg (events.BeginRemove name) a) ≡ true → is_live (registry_after setup s.registry e.thread (asked (acts.Reg (events.BeginRemove name) a))) d ≡ false
          by (answers.Removing dev threads handles destruct) m =
              subst (λ (n : ℕ). is_live_standing (standing_if_any (slice_get (change_at dev.0 (with_standing standings.Removing) s.registry.devices) n)) ≡ false) (eqb-true dev.0 d.0 m) (gone_now s.registry.devices dev.0)
          by _ m = cc

      not_visit : e.thread ≡ t → IsVisit setup t e.act → ⊥
      not_visit same v = subst (IsVisit setup t) is v

      none : (n x : ℕ) → n + 1 + 1 ≤ x → x ≤ 1 → ⊥
      none n x h k = omega arith

      sums : (a b x y : ℕ) → a ≤ b → y ≡ 0 → b + 0 + 1 ≤ x → a + 1 + y ≤ x
      sums a b x y h e k = omega arith

      dead_sum : one_if (is_putter setup t d && is_live (after setup s e).registry d) ≡ 0
      dead_sum = ap (λ b. one_if (is_putter setup t d && b)) dead ∙ zero_of (is_putter setup t d)
        where
          zero_of : (b : Bool) → one_if (b && false) ≡ 0
          zero_of true = refl
          zero_of false = refl

      go : (o : Option WalkId) → c.walk ≡ o → Credit setup t d (after setup s e) extra
      go (Some w) f = absurd (none (puts (part_of s t) d) extra (subst (λ (o : Option WalkId). puts (part_of s t) d + one_if (is_some o) + 1 ≤ extra) f total) c.most)
      go None f = record {
        walk = Some (new_walk name a);
        only = only_after (IsWalk (Some (new_walk name a))) (λ id k. absurd (subst (λ (o : Option WalkId). IsWalk o id) f (c.only id k)))
            (subst (λ (x : Act). BeginsOld setup t d e.thread (IsWalk (Some (new_walk name a))) x (view s e.thread) (came_for setup s e.thread x)) (sym is) (fits a refl));
        total = sums (puts (part_of (after setup s e) t) d) (puts (part_of s t) d) extra (one_if (is_putter setup t d && is_live (after setup s e).registry d)) (puts_less not_visit) dead_sum
            (subst (λ (o : Option WalkId). puts (part_of s t) d + one_if (is_some o) + 1 ≤ extra) f total);
        most = c.most;
      }
        where
          fits : (b : Answer) → b ≡ a → BeginsOld setup t d e.thread (IsWalk (Some (new_walk name a))) (acts.Reg (events.BeginRemove name) b) (view s e.thread) (came_for setup s e.thread (acts.Reg (events.BeginRemove name) b))
          fits (answers.Removing dev threads handles destruct) q = λ _. ap (λ (x : Answer). Walk (new_walk name x)) q
          fits _ q = tt

  -- ---- the walk visits the home

  visits_home : (extra : ℕ) (c : Credit setup t d s extra) (walk : WalkId) (dev : DevId) → e.act ≡ acts.Visit walk dev Removal → e.thread ≡ t → is_putter setup t d ≡ true → same_dev d dev ≡ true → Credit setup t d (after setup s e) extra
  visits_home extra c walk dev is same putter on = go (walk_here (view s e.thread) walk) refl ok.0
    where
      ok : AllByRecursion (λ (g : ℕ × Bool). g.1 ≡ true) (guards_in setup s e.thread (acts.Visit walk dev Removal))
      ok = passed (guards_in setup s e.thread (acts.Visit walk dev Removal)) (subst (λ (x : Act). Passes (guards_in setup s e.thread x)) is (allowed_passes setup s e allowed))

      puts_one : puts (part_of (after setup s e) t) d ≤ puts (part_of s t) d + 1
      puts_one =
          subst (λ (u : ℕ). puts (part_of (after setup s e) u) d ≤ puts (part_of s u) d + 1) same
          (subst (λ (p : Part). puts p d ≤ puts (part_of s e.thread) d + 1) (sym (part_is setup s e fresh allowed ∙ ap (λ (x : Act). (change_in setup s e.thread x).part) is))
          (at_most (puts (change_in setup s e.thread (acts.Visit walk dev Removal)).part d) (puts (part_of s e.thread) d) (is_putter setup e.thread dev && same_dev d dev) (visit_puts setup e.thread (view s e.thread) walk dev (came_for setup s e.thread (acts.Visit walk dev Removal)) d)))
        where
          at_most : (a b : ℕ) (q : Bool) → a ≤ b + one_if q → a ≤ b + 1
          at_most a b true h = h
          at_most a b false h = omega arith

      with_walk : (w : OpenWalk) → walk_here (view s e.thread) walk ≡ Some w → is_next_visit e.thread dev Removal (Some w) ≡ true → (o : Option WalkId) → c.walk ≡ o → Credit setup t d (after setup s e) extra
      with_walk w f h o g = by o (subst (λ (x : Option WalkId). IsWalk x (Walk walk)) g (c.only (Walk walk) carried)) g
        where
          p : (w.taken && is_the ◌==◌ e.thread (first_of w.left) && same_dev w.dev dev ≡ true) × (same_walk_kind w.kind Removal ≡ true)
          p = and_parts (w.taken && is_the ◌==◌ e.thread (first_of w.left) && same_dev w.dev dev) (same_walk_kind w.kind Removal) h

          q : (w.taken && is_the ◌==◌ e.thread (first_of w.left) ≡ true) × (same_dev w.dev dev ≡ true)
          q = and_parts (w.taken && is_the ◌==◌ e.thread (first_of w.left)) (same_dev w.dev dev) p.0

          visits : has w.left t ≡ true
          visits = subst (λ (u : ℕ). has w.left u ≡ true) same (find_passes (has w.left) (range_with_len 0 16) e.thread (and_parts w.taken (is_the ◌==◌ e.thread (first_of w.left)) q.0).1)

          kind : w.kind ≡ Removal
          kind = removal_is w.kind p.1

          device : same_dev w.dev d ≡ true
          device = subst (λ (x : DevId). same_dev w.dev x ≡ true) (sym (dev_exact d dev on)) q.1

          is_one : is_carrier setup t d w ≡ true
          is_one =
              and_from (is_putter setup t d) (same_dev w.dev d && (is_removal w.kind && has w.left t)) putter
              (and_from (same_dev w.dev d) (is_removal w.kind && has w.left t) device (and_from (is_removal w.kind) (has w.left t) (ap is_removal kind) visits))

          carried : carries setup t d (look_up same_id s.tokens (Walk walk)) ≡ true
          carried = here_carries setup t d e.thread (look_up same_id s.tokens (Walk walk)) w f ∙ is_one

          moves : (g : Going) × ((change_in setup s e.thread (acts.Visit walk dev Removal)).moves ≡ record { id = Walk walk; kept = keeps.Walk (visited e.thread w); going = g } ∷ [])
          moves =
              let m = removal_moves e.thread walk (visited e.thread w) (marked_by setup e.thread (view s e.thread) walk dev Removal) kind in
              (m.0, ap (λ (x : Option OpenWalk). (walked_if_any e.thread walk (marked_by setup e.thread (view s e.thread) walk dev Removal) x).moves) f ∙ m.1)

          tokens : (after setup s e).tokens ≡ moved e.thread (record { id = Walk walk; kept = keeps.Walk (visited e.thread w); going = moves.0 } ∷ []) s.tokens
          tokens = tokens_after_is setup s e ∙ ap (λ (x : Act). moved e.thread (change_in setup s e.thread x).moves s.tokens) is ∙ ap (λ (ms : List Move). moved e.thread ms s.tokens) moves.1

          none_left : (id : Id) → IsWalk o (Walk walk) → carries setup t d (look_up same_id (after setup s e).tokens id) ≡ true → ⊥
          none_left id at k =
              let m : Move = record { id = Walk walk; kept = keeps.Walk (visited e.thread w); going = moves.0 } in
              split (same_id (Walk walk) id) refl
              (subst (λ (x : Option Tracked). carries setup t d x ≡ true) (found-moved e.thread m s.tokens id) (subst (λ (ts : List (Id × Tracked)). carries setup t d (look_up same_id ts id) ≡ true) tokens k))
            where
              walks : (o : Option WalkId) → IsWalk o (Walk walk) → IsWalk o id → id ≡ Walk walk
              walks None a b = absurd a
              walks (Some x) a b = b ∙ sym a

              split : (b : Bool) → same_id (Walk walk) id ≡ b → carries setup t d (cond b (Some (tracked e.thread (record { id = Walk walk; kept = keeps.Walk (visited e.thread w); going = moves.0 }))) (look_up same_id s.tokens id)) ≡ true → ⊥
              split true x k = visited_not setup t d w (subst (λ (u : ℕ). is_carrier setup t d (visited u w) ≡ true) same k)
              split false x k =
                  let is_it : id ≡ Walk walk = walks o at (subst (λ (y : Option WalkId). IsWalk y id) g (c.only id k)) in
                  differ (subst (λ (y : Id). same_id (Walk walk) y ≡ true) (sym is_it) (id_same.same_self (Walk walk))) x

          sums : (a b x y z : ℕ) → a ≤ b + 1 → x ≤ y → b + 1 + y ≤ z → a + 0 + x ≤ z
          sums a b x y z h k l = omega arith

          by : (o' : Option WalkId) → IsWalk o' (Walk walk) → c.walk ≡ o' → Credit setup t d (after setup s e) extra
          by None a g' = absurd a
          by (Some x) a g' = record {
            walk = None;
            only = λ id k. none_left id (subst (λ (y : Option WalkId). IsWalk y (Walk walk)) (sym g' ∙ g) a) k;
            total = sums (puts (part_of (after setup s e) t) d) (puts (part_of s t) d) (one_if (is_putter setup t d && is_live (after setup s e).registry d)) (one_if (is_putter setup t d && is_live s.registry d)) extra puts_one live_less
                (subst (λ (y : Option WalkId). puts (part_of s t) d + one_if (is_some y) + one_if (is_putter setup t d && is_live s.registry d) ≤ extra) g' c.total);
            most = c.most;
          }

      go : (x : Option OpenWalk) → walk_here (view s e.thread) walk ≡ x → is_next_visit e.thread dev Removal x ≡ true → Credit setup t d (after setup s e) extra
      go None f h = cc
      go (Some w) f h = with_walk w f h c.walk refl

  -- ---- the home puts

  owes_put : (dev : DevId) (a : Answer) → e.act ≡ acts.Reg (events.PutChannel dev false) a → list_any (same_owed (owes.Put dev)) (part_of s e.thread).owed ≡ true
  owes_put dev a is =
      let act : Act = acts.Reg (events.PutChannel dev false) a in
      let ok = passed (guards_in setup s e.thread (acts.Reg (events.PutChannel dev false) a)) (subst (λ (x : Act). Passes (guards_in setup s e.thread x)) is (allowed_passes setup s e allowed)) in
      let none : s.registry.between ≡ None = freely setup e.thread (view s e.thread) (came_for setup s e.thread (acts.Reg (events.PutChannel dev false) a)) (events.PutChannel dev false) s.registry.between refl ok.1.0 in
      subst (λ (o : Option Between). asks_between setup e.thread (view s e.thread) (came_for setup s e.thread (acts.Reg (events.PutChannel dev false) a)) (events.PutChannel dev false) o ≡ true) none ok.1.0

  one_put : (dev : DevId) (a : Answer) → e.act ≡ acts.Reg (events.PutChannel dev false) a → e.thread ≡ t → same_dev dev d ≡ true → puts (part_of (after setup s e) t) d + 1 ≤ puts (part_of s t) d
  one_put dev a is same on =
      subst (λ (u : ℕ). puts (part_of (after setup s e) u) d + 1 ≤ puts (part_of s u) d) same
      (subst (λ (p : Part). puts p d + 1 ≤ puts (part_of s e.thread) d) (sym (part_is setup s e fresh allowed ∙ ap (λ (x : Act). (change_in setup s e.thread x).part) is))
      (subst (λ (x : DevId). puts (change_in setup s e.thread (acts.Reg (events.PutChannel dev false) a)).part x + 1 ≤ puts (part_of s e.thread) x) (dev_exact dev d on)
      (put_paid_once setup e.thread (view s e.thread) dev a (came_for setup s e.thread (acts.Reg (events.PutChannel dev false) a)) (owes_put dev a is))))

  puts_by_home : (extra : ℕ) (c : Credit setup t d s extra) (dev : DevId) (a : Answer) → e.act ≡ acts.Reg (events.PutChannel dev false) a → e.thread ≡ t → same_dev dev d ≡ true → Credit setup t d (after setup s e) (extra - 1)
  puts_by_home extra c dev a is same on = record {
    walk = c.walk;
    only = only_after (IsWalk c.walk) c.only (subst (λ (x : Act). BeginsOld setup t d e.thread (IsWalk c.walk) x (view s e.thread) (came_for setup s e.thread x)) (sym is) tt);
    total = sums (puts (part_of (after setup s e) t) d) (puts (part_of s t) d) (one_if (is_some c.walk)) (one_if (is_putter setup t d && is_live (after setup s e).registry d)) (one_if (is_putter setup t d && is_live s.registry d)) extra (one_put dev a is same on) live_less c.total;
    most = less extra c.most;
  }
    where
      sums : (a b w x y z : ℕ) → a + 1 ≤ b → x ≤ y → b + w + y ≤ z → a + w + x ≤ z - 1
      sums a b w x y z h k l = omega arith

      less : (x : ℕ) → x ≤ 1 → x - 1 ≤ 1
      less x h = omega arith

  -- the home puts only while there is something to put
  pub credit_pays : (extra : ℕ) (c : Credit setup t d s extra) (dev : DevId) (a : Answer) → e.act ≡ acts.Reg (events.PutChannel dev false) a → e.thread ≡ t → same_dev dev d ≡ true → 1 ≤ extra
  credit_pays extra c dev a is same on =
      enough (puts (part_of (after setup s e) t) d) (puts (part_of s t) d) (one_if (is_some c.walk)) (one_if (is_putter setup t d && is_live s.registry d)) extra (one_put dev a is same on) c.total
    where
      enough : (a b w y z : ℕ) → a + 1 ≤ b → b + w + y ≤ z → 1 ≤ z
      enough a b w y z h k = omega arith

  -- ---- every act

  -- a visit of another device, or of no limited device's home
  visits_other : (extra : ℕ) (c : Credit setup t d s extra) (walk : WalkId) (dev : DevId) → e.act ≡ acts.Visit walk dev Removal → e.thread ≡ t → (is_putter setup t dev && same_dev d dev) ≡ false → Credit setup t d (after setup s e) extra
  visits_other extra c walk dev is same k = record {
    walk = c.walk;
    only = only_after (IsWalk c.walk) c.only (subst (λ (x : Act). BeginsOld setup t d e.thread (IsWalk c.walk) x (view s e.thread) (came_for setup s e.thread x)) (sym is) tt);
    total = sums (puts (part_of (after setup s e) t) d) (puts (part_of s t) d) (one_if (is_some c.walk)) (one_if (is_putter setup t d && is_live (after setup s e).registry d)) (one_if (is_putter setup t d && is_live s.registry d)) extra none_more live_less c.total;
    most = c.most;
  }
    where
      sums : (a b w x y z : ℕ) → a ≤ b + 0 → x ≤ y → b + w + y ≤ z → a + w + x ≤ z
      sums a b w x y z h k l = omega arith

      none_more : puts (part_of (after setup s e) t) d ≤ puts (part_of s t) d + 0
      none_more =
          subst (λ (b : Bool). puts (part_of (after setup s e) t) d ≤ puts (part_of s t) d + one_if b) k
          (subst (λ (u : ℕ). puts (part_of (after setup s e) u) d ≤ puts (part_of s u) d + one_if (is_putter setup u dev && same_dev d dev)) same
          (subst (λ (p : Part). puts p d ≤ puts (part_of s e.thread) d + one_if (is_putter setup e.thread dev && same_dev d dev)) (sym (part_is setup s e fresh allowed ∙ ap (λ (x : Act). (change_in setup s e.thread x).part) is))
          (visit_puts setup e.thread (view s e.thread) walk dev (came_for setup s e.thread (acts.Visit walk dev Removal)) d)))

  visits : (extra : ℕ) (c : Credit setup t d s extra) (walk : WalkId) (dev : DevId) → e.act ≡ acts.Visit walk dev Removal → (e.thread ≡ t) ⊎ (e.thread ≡ t → ⊥) → Credit setup t d (after setup s e) extra
  visits extra c walk dev is (inr ne) = plain extra c (λ same v. ne same) (subst (λ (x : Act). BeginsOld setup t d e.thread (IsWalk c.walk) x (view s e.thread) (came_for setup s e.thread x)) (sym is) tt)
  visits extra c walk dev is (inl same) = go (is_putter setup t dev) (same_dev d dev) refl refl
    where
      go : (p q : Bool) → is_putter setup t dev ≡ p → same_dev d dev ≡ q → Credit setup t d (after setup s e) extra
      go true true f g = visits_home extra c walk dev is same (subst (λ (x : DevId). is_putter setup t x ≡ true) (sym (dev_exact d dev g)) f) g
      go true false f g = visits_other extra c walk dev is same (ap (λ b. is_putter setup t dev && b) g ∙ none (is_putter setup t dev))
        where
          none : (b : Bool) → (b && false) ≡ false
          none true = refl
          none false = refl
      go false q f g = visits_other extra c walk dev is same (ap (λ b. b && same_dev d dev) f)

  removals : (extra : ℕ) (c : Credit setup t d s extra) (name : List ℕ) (a : Answer) → e.act ≡ acts.Reg (events.BeginRemove name) a → Credit setup t d (after setup s e) extra
  removals extra c name a is = go (is_putter setup t d) (is_removing_of d (acts.Reg (events.BeginRemove name) a)) refl refl
    where
      not_visit : e.thread ≡ t → IsVisit setup t e.act → ⊥
      not_visit same v = subst (IsVisit setup t) is v

      other : ((is_putter setup t d && is_removing_of d (acts.Reg (events.BeginRemove name) a)) ≡ true → ⊥) → Credit setup t d (after setup s e) extra
      other no_it = plain extra c not_visit (subst (λ (x : Act). BeginsOld setup t d e.thread (IsWalk c.walk) x (view s e.thread) (came_for setup s e.thread x)) (sym is) (by a no_it))
        where
          by : (a : Answer) → ((is_putter setup t d && is_removing_of d (acts.Reg (events.BeginRemove name) a)) ≡ true → ⊥) → BeginsOld setup t d e.thread (IsWalk c.walk) (acts.Reg (events.BeginRemove name) a) (view s e.thread) (came_for setup s e.thread (acts.Reg (events.BeginRemove name) a))
          by (answers.Removing dev threads handles destruct) n = λ h. absurd (n h)
          by _ n = tt

      go : (p q : Bool) → is_putter setup t d ≡ p → is_removing_of d (acts.Reg (events.BeginRemove name) a) ≡ q → Credit setup t d (after setup s e) extra
      go true true f g = begins_removal extra c name a is g f
      go true false f g = other (λ h. differ (and_parts (is_putter setup t d) (is_removing_of d (acts.Reg (events.BeginRemove name) a)) h).1 g)
      go false q f g = other (λ h. differ (and_parts (is_putter setup t d) (is_removing_of d (acts.Reg (events.BeginRemove name) a)) h).0 f)

  pub credit_after : (extra : ℕ) → Credit setup t d s extra → Credit setup t d (after setup s e) (extra - one_if ((e.thread == t) && is_put_by_home d e.act))
  credit_after extra c = go e.act refl
    where
      same_extra : (b : Bool) → extra - one_if (b && false) ≡ extra
      same_extra true = omega arith
      same_extra false = omega arith

      kept : Credit setup t d (after setup s e) extra → Credit setup t d (after setup s e) (extra - one_if ((e.thread == t) && false))
      kept k = subst (λ (n : ℕ). Credit setup t d (after setup s e) n) (sym (same_extra (e.thread == t))) k

      easy : (act : Act) → e.act ≡ act → (IsVisit setup t act → ⊥) → BeginsOld setup t d e.thread (IsWalk c.walk) act (view s e.thread) (came_for setup s e.thread act) → Credit setup t d (after setup s e) extra
      easy act is n b =
          plain extra c (λ same v. n (subst (IsVisit setup t) is v))
          (subst (λ (x : Act). BeginsOld setup t d e.thread (IsWalk c.walk) x (view s e.thread) (came_for setup s e.thread x)) (sym is) b)

      puts_or : (dev : DevId) (a : Answer) → e.act ≡ acts.Reg (events.PutChannel dev false) a → (p q : Bool) → (e.thread == t) ≡ p → same_dev dev d ≡ q → Credit setup t d (after setup s e) (extra - one_if (p && q))
      puts_or dev a is true true f g = puts_by_home extra c dev a is (eqb-true e.thread t f) g
      puts_or dev a is true false f g = subst (λ (n : ℕ). Credit setup t d (after setup s e) n) (sym (same_extra true)) (easy (acts.Reg (events.PutChannel dev false) a) is (λ v. v) tt)
      puts_or dev a is false q f g = subst (λ (n : ℕ). Credit setup t d (after setup s e) n) (sym (same_extra false)) (easy (acts.Reg (events.PutChannel dev false) a) is (λ v. v) tt)

      go : (act : Act) → e.act ≡ act → Credit setup t d (after setup s e) (extra - one_if ((e.thread == t) && is_put_by_home d act))
      go (acts.Visit walk dev Removal) is = kept (visits extra c walk dev is (cases_eq e.thread t))
      go (acts.Reg (events.BeginRemove name) a) is = kept (removals extra c name a is)
      go (acts.Reg (events.PutChannel dev false) a) is = puts_or dev a is (e.thread == t) (same_dev dev d) refl refl
      go act is = kept (easy act is (λ v. v) tt)
