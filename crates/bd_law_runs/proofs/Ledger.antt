-- In every run each device keeps its budget.
use Rattle.std.proofs.Common.{◌≡◌, ℕ, zero, suc, ◌*◌, ◌≤◌, Bool, true, false, cond, ◌&&◌, ◌==◌, ◌⊎◌, inl, inr, nat_le, List, [], ◌∷◌, map, get_or, Option, Some, None, refl, sym, ◌∙◌, ap, subst, eqb-true, eq-eqb}
use Rattle.std.specs.Prelude.{option_map}
use Rattle.std.specs.List.{find, range_with_len}
use Rattle.std.proofs.lemmas.Bool.{and_parts, cases_eq}
use Rattle.bd_base.specs.declared.act.Act.{Act}
use Rattle.bd_base.specs.declared.act.Act.TheVariants as acts
use Rattle.bd_base.specs.declared.act.Entry.{Entry}
use Rattle.bd_base.specs.declared.act.Token.{Token}
use Rattle.bd_base.specs.declared.act.Token.TheVariants as tokens
use Rattle.bd_base.specs.declared.id.DevId.{DevId}
use Rattle.bd_base.specs.declared.id.ReqId.{ReqId}
use Rattle.bd_base.specs.declared.request.Way.{Way}
use Rattle.bd_base.specs.declared.setup.Setup.{Setup}
use Rattle.bd_machine.specs.declared.state.Id.{Id}
use Rattle.bd_machine.specs.declared.state.Id.TheVariants.{Request}
use Rattle.bd_machine.specs.declared.state.Kept.{Kept}
use Rattle.bd_machine.specs.declared.state.Kept.TheVariants as keeps
use Rattle.bd_machine.specs.declared.state.Left.{Left}
use Rattle.bd_machine.specs.declared.state.Limited.{Limited}
use Rattle.bd_machine.specs.declared.state.OpenRequest.{OpenRequest}
use Rattle.bd_machine.specs.declared.state.Part.{Part}
use Rattle.bd_machine.specs.declared.state.Place.{Place}
use Rattle.bd_machine.specs.declared.state.Place.TheVariants.{At, Ring, Nowhere}
use Rattle.bd_machine.specs.declared.state.State.{State}
use Rattle.bd_machine.specs.declared.state.Tracked.{Tracked}
use Rattle.bd_machine.specs.declared.state.Trip.{Trip}
use Rattle.bd_machine.specs.declared.state.Trip.TheVariants as trips
use Rattle.bd_machine.specs.Aborts.{stopped}
use Rattle.bd_machine.specs.BlockMap.{home, size_of}
use Rattle.bd_machine.specs.Budget.{quotas_of, one_quota, may_pass, renewed}
use Rattle.bd_machine.specs.Content.{Told}
use Rattle.bd_machine.specs.Guards.{guards, change}
use Rattle.bd_machine.specs.Kept.{request_here}
use Rattle.bd_machine.specs.Limits.{rates_of, way_of, way_if_any, bytes_if_any, is_limit, limited_here, is_next_in_line, may_pass_by, is_tick_due, charged_by_way, joined, left_by, arrived, departed, next_limited, waits_at, ticked}
use Rattle.bd_machine.specs.Run.{IsRunFrom}
use Rattle.bd_machine.specs.Same.{same_id, same_dev, same_request}
use Rattle.bd_machine.specs.Start.{start, part_at_start, limited_at_start, limited_devices}
use Rattle.bd_machine.specs.Step.{guards_in, change_in, refusal, moved, after}
use Rattle.bd_machine.specs.Table.{look_up, change_first}
use Rattle.bd_machine.specs.View.{View, Came, Move, view, here_of, kept_on, part_of, blank_part, message_of, kept_in, came_for}
use Rattle.bd_machine.proofs.Acts.{Passes, passed, IsFresh, new_id}
use Rattle.bd_machine.proofs.Complete.{fresh_start}
use Rattle.bd_machine.proofs.Laws.{tracked, found-moved}
use Rattle.bd_machine.proofs.Steps.{allowed_passes, fresh_after, part_is, part_stays}
use Rattle.bd_machine.proofs.Tables.{id_same, request_same, dev_exact}
use Rattle.bd_machine.proofs.Timeslices.{some_start_fits}
use Rattle.bd_law_runs.specs.Ledger as ledger
use Rattle.bd_law_runs.specs.Ledger.{Accepted, Ledger, first_ledger, requests_by, charged_way, charged_for, ledger_by, is_enough_left, may_be_let, IsWithin, AreWithin, BudgetIsKept}
use Rattle.bd_law_runs.proofs.Fields.{leaves_limited, limited_stays, limited_taken, limited_took, limited_came, taken_before}
use Rattle.bd_law_runs.proofs.Moves.{asked_of, Alike, AreAlike, AreAsked, moves_alike, request_is}

differ : {b : Bool} → b ≡ true → b ≡ false → ⊥
differ h k = let no : true ≡ false = sym h ∙ k in cc

pub tokens_after_is : (setup : Setup) (s : State) (e : Entry) → (after setup s e).tokens ≡ moved e.thread (change_in setup s e.thread e.act).moves s.tokens
unfolding after
tokens_after_is setup s e = refl

-- ---- what was accepted

-- a token of a request is as the request was accepted
abbrev pub AsTold : Option Tracked → Option Accepted → Type 0
AsTold None o = Unit {0}
AsTold (Some token) o = asked_of token.kept ≡ o

abbrev pub AreTold : List (Id × Tracked) → (ReqId → Option Accepted) → Type 0
AreTold tokens f = (r : ReqId) → AsTold (look_up same_id tokens (Request r)) (f r)

here_told : (t : ℕ) (o : Option Tracked) (kept : Kept) (x : Option Accepted) → here_of t o ≡ Some kept → AsTold o x → asked_of kept ≡ x
here_told t None kept x e h = cc
here_told t (Some token) kept x e h = go token.place e
  where
    at : (b : Bool) → cond b (Some token.kept) None ≡ Some kept → asked_of kept ≡ x
    at true e = let same : token.kept ≡ kept = cc in ap asked_of (sym same) ∙ h
    at false e = cc

    go : (p : Place) → kept_on t p token.kept ≡ Some kept → asked_of kept ≡ x
    go (At u) e = at (u == t) e
    go (Ring a b n) e = cc
    go Nowhere e = cc

message_told : (a t n : ℕ) (o : Option Tracked) (kept : Kept) (x : Option Accepted) → message_of a t n o ≡ Some kept → AsTold o x → asked_of kept ≡ x
message_told a t n None kept x e h = cc
message_told a t n (Some token) kept x e h = go token.place e
  where
    at : (b : Bool) → cond b (Some token.kept) None ≡ Some kept → asked_of kept ≡ x
    at true e = let same : token.kept ≡ kept = cc in ap asked_of (sym same) ∙ h
    at false e = cc

    go : (p : Place) → kept_in a t n p token.kept ≡ Some kept → asked_of kept ≡ x
    go (At u) e = cc
    go (Ring i j m) e = at ((i == a) && ((j == t) && (m == n))) e
    go Nowhere e = cc

moved_told : (t : ℕ) (f : ReqId → Option Accepted) (ms : List Move) (tokens : List (Id × Tracked)) → AreTold tokens f → AreAlike f ms → AreTold (moved t ms tokens) f
moved_told t f [] tokens h a = h
moved_told t f (m ∷ ms) tokens h a = moved_told t f ms (moved t (m ∷ []) tokens) one a.1
  where
    go : (r : ReqId) (b : Bool) → same_id m.id (Request r) ≡ b → AsTold (cond b (Some (tracked t m)) (look_up same_id tokens (Request r))) (f r)
    go r true e = let same : m.id ≡ Request r = id_same.exact m.id (Request r) e in subst (λ (i : Id). Alike f i m.kept) same a.0
    go r false e = h r

    one : AreTold (moved t (m ∷ []) tokens) f
    one r = subst (λ (o : Option Tracked). AsTold o (f r)) (sym (found-moved t m tokens (Request r))) (go r (same_id m.id (Request r)) refl)

pub asked_in : (setup : Setup) (s : State) (t : ℕ) (act : Act) (f : ReqId → Option Accepted) → AreTold s.tokens f → AreAsked f (view s t) act (came_for setup s t act)
asked_in setup s t act f h = record {
  here = λ req kept e. here_told t (look_up same_id s.tokens (Request req)) kept (f req) e (h req);
  brought = λ source number req kept is e. message_told source t number (look_up same_id s.tokens (Request req)) kept (f req) (subst (λ (a : Act). (came_for setup s t a).message ≡ Some kept) is e) (h req);
}

-- a request that is accepted isn't there yet
told_before : (setup : Setup) (s : State) (t : ℕ) (act : Act) (f : ReqId → Option Accepted) → IsFresh s → Passes (guards_in setup s t act) → AreTold s.tokens f → AreTold s.tokens (requests_by act f)
told_before setup s t (acts.Accept dev lba handle req op count) f fresh h told = λ r. go r (same_request req r) refl
  where
    none : look_up same_id s.tokens (Request req) ≡ None
    none =
        let p = new_id t (view s t) req (passed (guards_in setup s t (acts.Accept dev lba handle req op count)) h).1.1.0 in
        fresh.requests req (subst (λ (u : ℕ). (part_of s u).next_request ≤ req.seq) (sym p.0) p.1)

    go : (r : ReqId) (b : Bool) → same_request req r ≡ b → AsTold (look_up same_id s.tokens (Request r)) (cond b (Some (record { dev = dev; op = op; count = count })) (f r))
    go r true e =
        let new : Option Accepted = Some (record { dev = dev; op = op; count = count }) in
        subst (λ (o : Option Tracked). AsTold o new) (sym (subst (λ (q : ReqId). look_up same_id s.tokens (Request q) ≡ None) (request_same.exact req r e) none)) tt
    go r false e = told r
told_before setup s t _ f fresh h told = told

-- **after an entry** the tokens are as their requests were accepted, that one with them
pub told_after : (setup : Setup) (s : State) (e : Entry) (f : ReqId → Option Accepted) → IsFresh s → refusal setup s e ≡ None → AreTold s.tokens f → AreTold (after setup s e).tokens (requests_by e.act f)
told_after setup s e f fresh allowed told =
    subst (λ (ts : List (Id × Tracked)). AreTold ts (requests_by e.act f)) (sym (tokens_after_is setup s e))
    (moved_told e.thread (requests_by e.act f) (change_in setup s e.thread e.act).moves s.tokens (told_before setup s e.thread e.act f fresh (allowed_passes setup s e allowed) told)
    (moves_alike f setup e.thread (view s e.thread) e.act (came_for setup s e.thread e.act) (asked_in setup s e.thread e.act f told)))

-- ---- a device's row

rows_changed : (d dev : DevId) (g : Limited → Limited) → ((l : Limited) → (g l).dev ≡ l.dev) → (rows : List Limited)
    → find (is_limit dev) (change_first (is_limit d) g rows) ≡ cond (same_dev d dev) (option_map g (find (is_limit dev) rows)) (find (is_limit dev) rows)
rows_changed d dev g keeps [] = go (same_dev d dev)
  where
    go : (b : Bool) → None ≡ cond b (option_map g None) None
    go true = refl
    go false = refl
rows_changed d dev g keeps (x ∷ xs) = go (is_limit d x) (is_limit dev x) (same_dev d dev) refl refl refl (rows_changed d dev g keeps xs)
  where
    rest : Option Limited
    rest = find (is_limit dev) (change_first (is_limit d) g xs)

    old : Option Limited
    old = find (is_limit dev) xs

    same : (b c : Bool) → is_limit d x ≡ true → is_limit dev x ≡ b → same_dev d dev ≡ c → b ≡ c
    same b c h e k = sym e ∙ ap (λ (y : DevId). same_dev y dev) (dev_exact x.dev d h) ∙ k

    first : (b : Bool) → is_limit dev x ≡ b → cond (same_dev (g x).dev dev) (Some (g x)) (find (is_limit dev) xs) ≡ cond b (option_map g (cond b (Some x) (find (is_limit dev) xs))) (cond b (Some x) (find (is_limit dev) xs))
    first true e = ap (λ b. cond b (Some (g x)) (find (is_limit dev) xs)) (ap (λ (y : DevId). same_dev y dev) (keeps x) ∙ e)
    first false e = ap (λ b. cond b (Some (g x)) (find (is_limit dev) xs)) (ap (λ (y : DevId). same_dev y dev) (keeps x) ∙ e)

    go : (a b c : Bool) → is_limit d x ≡ a → is_limit dev x ≡ b → same_dev d dev ≡ c
        → find (is_limit dev) (change_first (is_limit d) g xs) ≡ cond c (option_map g (find (is_limit dev) xs)) (find (is_limit dev) xs)
        → find (is_limit dev) (cond a (g x ∷ xs) (x ∷ change_first (is_limit d) g xs)) ≡ cond c (option_map g (cond b (Some x) (find (is_limit dev) xs))) (cond b (Some x) (find (is_limit dev) xs))
    go true b c ea eb ec ih = subst (λ (y : Bool). cond (same_dev (g x).dev dev) (Some (g x)) (find (is_limit dev) xs) ≡ cond y (option_map g (cond b (Some x) (find (is_limit dev) xs))) (cond b (Some x) (find (is_limit dev) xs))) (same b c ea eb ec) (first b eb)
    go false true true ea eb ec ih = absurd (differ (subst (λ (y : DevId). same_dev x.dev y ≡ true) (dev_exact x.dev dev eb ∙ sym (dev_exact d dev ec)) (eq-eqb x.dev.0 x.dev.0 refl)) ea)
    go false true false ea eb ec ih = ap (λ b. cond b (Some x) (find (is_limit dev) (change_first (is_limit d) g xs))) eb
    go false false c ea eb ec ih = ap (λ b. cond b (Some x) (find (is_limit dev) (change_first (is_limit d) g xs))) eb ∙ ih

found_dev : (dev : DevId) (rows : List Limited) (row : Limited) → find (is_limit dev) rows ≡ Some row → row.dev ≡ dev
found_dev dev [] row f = cc
found_dev dev (x ∷ xs) row f = go (is_limit dev x) refl f (found_dev dev xs row)
  where
    go : (b : Bool) → is_limit dev x ≡ b → cond b (Some x) (find (is_limit dev) xs) ≡ Some row → (find (is_limit dev) xs ≡ Some row → row.dev ≡ dev) → row.dev ≡ dev
    go true e f rest = let same : x ≡ row = cc in ap (λ (y : Limited). y.dev) (sym same) ∙ dev_exact x.dev dev e
    go false e f rest = rest f

-- this much is left at the device's row
abbrev IsLeft : DevId → List Limited → Left → Type 0
IsLeft dev rows left = (row : Limited) → find (is_limit dev) rows ≡ Some row → row.left ≡ left

-- a change of the rows of a device, by which so much is left
left_changed : (d dev : DevId) (g : Limited → Limited) (rows : List Limited) (old new : Left) → ((l : Limited) → (g l).dev ≡ l.dev)
    → (same_dev d dev ≡ true → (l : Limited) → find (is_limit dev) rows ≡ Some l → (g l).left ≡ new) → (same_dev d dev ≡ false → old ≡ new)
    → IsLeft dev rows old → IsLeft dev (change_first (is_limit d) g rows) new
left_changed d dev g rows old new keeps hit miss is row e = go (same_dev d dev) refl (find (is_limit dev) rows) refl (sym (rows_changed d dev g keeps rows) ∙ e)
  where
    go : (b : Bool) → same_dev d dev ≡ b → (o : Option Limited) → find (is_limit dev) rows ≡ o → cond b (option_map g o) o ≡ Some row → row.left ≡ new
    go true b (Some l) k e = let same : g l ≡ row = cc in ap (λ (r : Limited). r.left) (sym same) ∙ hit b l k
    go true b None k e = cc
    go false b o k e = is row (k ∙ e) ∙ miss b

-- a change of rows that leaves what is left
left_kept : (d dev : DevId) (g : Limited → Limited) (rows : List Limited) (old : Left) → ((l : Limited) → (g l).dev ≡ l.dev) → ((l : Limited) → (g l).left ≡ l.left) → IsLeft dev rows old → IsLeft dev (change_first (is_limit d) g rows) old
left_kept d dev g rows old keeps same is = left_changed d dev g rows old old keeps (λ b l e. same l ∙ is l e) (λ b. refl) is

-- ---- acts of the device's home

module _ (setup : Setup) (dev : DevId) where
  abbrev left_of : Act → Ledger → Left
  left_of act l = ledger.left_by setup dev act l

  steady : (act : Act) (l : Ledger) → leaves_limited act ≡ true → left_of act l ≡ l.left
  steady (acts.Let req d now) l h = cc
  steady (acts.Tick d now slices) l h = cc
  steady _ l h = refl

  came_left : (req : ReqId) (o : Option DevId) (p : Part) (left : Left) → IsLeft dev p.limited left → IsLeft dev (arrived p req o).limited left
  came_left req None p left is = is
  came_left req (Some d) p left is = left_kept d dev (joined req) p.limited left (λ l. refl) (λ l. refl) is

  gone_left : (req : ReqId) (o : Option DevId) (p : Part) (left : Left) → IsLeft dev p.limited left → IsLeft dev (departed p req o).limited left
  gone_left req None p left is = is
  gone_left req (Some d) p left is = left_kept d dev (left_by req) p.limited left (λ l. refl) (λ l. refl) is

  trip_left : (req : ReqId) (r : OpenRequest) (trip : Trip) (p : Part) (left : Left) → IsLeft dev p.limited left → IsLeft dev (limited_came setup req r trip p) left
  trip_left req r trips.Out p left is = came_left req (next_limited setup r) p left is
  trip_left req r trips.Own p left is = is
  trip_left req r trips.Passed p left is = is

  took_left : (what : Token) (x : Option Kept) (p : Part) (left : Left) → IsLeft dev p.limited left → IsLeft dev (limited_took setup what p x) left
  took_left (tokens.Request req) (Some (keeps.Request r)) p left is = trip_left req r r.trip p left is
  took_left (tokens.Request req) (Some (keeps.Piece q)) p left is = is
  took_left (tokens.Request req) (Some (keeps.Walk w)) p left is = is
  took_left (tokens.Request req) (Some (keeps.Notice n)) p left is = is
  took_left (tokens.Request req) None p left is = is
  took_left _ x p left is = is

  stopped_left : (req : ReqId) (x : Option OpenRequest) (p : Part) (left : Left) → IsLeft dev p.limited left → IsLeft dev (stopped setup p req x).limited left
  stopped_left req None p left is = is
  stopped_left req (Some r) p left is = gone_left req (waits_at setup r) p left is

  charged_dev : (d : DevId) (bytes : ℕ) (way : Option Way) (l : Limited) → (charged_by_way setup d bytes way l).dev ≡ l.dev
  charged_dev d bytes None l = refl
  charged_dev d bytes (Some way) l = refl

  charged_left : (bytes : ℕ) (way : Option Way) (l : Limited) → (charged_by_way setup dev bytes way l).left ≡ charged_way setup dev bytes way l.left
  charged_left bytes None l = refl
  charged_left bytes (Some way) l = refl

  -- a Let finds its request here
  let_here : (t : ℕ) (v : View) (req : ReqId) (d : DevId) (now : ℕ) (came : Came) → Passes (guards setup t v (acts.Let req d now) came)
      → (home setup d ≡ t) × ((r : OpenRequest) × ((request_here v req ≡ Some r) × (may_pass_by setup d (way_of r.op) (limited_here v.part d) ≡ true)))
  let_here t v req d now came h =
      let ok = passed (guards setup t v (acts.Let req d now) came) h in
      let p = and_parts (home setup d == t) (is_next_in_line setup v req d (request_here v req)) ok.0 in
      let q = and_parts (may_pass_by setup d (way_if_any (request_here v req)) (limited_here v.part d)) (nat_le v.part.moments.last now) ok.1.0 in
      (eqb-true (home setup d) t p.0, go (request_here v req) p.1 q.0)
    where
      go : (x : Option OpenRequest) → is_next_in_line setup v req d x ≡ true → may_pass_by setup d (way_if_any x) (limited_here v.part d) ≡ true
          → (r : OpenRequest) × ((x ≡ Some r) × (may_pass_by setup d (way_of r.op) (limited_here v.part d) ≡ true))
      go None h k = cc
      go (Some r) h k = (r, (refl, k))

  tick_home : (t : ℕ) (v : View) (d : DevId) (now slices : ℕ) (came : Came) → Passes (guards setup t v (acts.Tick d now slices) came) → home setup d ≡ t
  tick_home t v d now slices came h =
      let ok = passed (guards setup t v (acts.Tick d now slices) came) h in
      let p = and_parts ((home setup d == t) && nat_le v.part.moments.last now) (is_tick_due v.part.moments now slices (limited_here v.part d)) ok.0 in
      eqb-true (home setup d) t (and_parts (home setup d == t) (nat_le v.part.moments.last now) p.0).0

  let_left : (t : ℕ) (v : View) (req : ReqId) (d : DevId) (now : ℕ) (came : Came) (l : Ledger) → Passes (guards setup t v (acts.Let req d now) came) → AreAsked l.requests v (acts.Let req d now) came → IsLeft dev v.part.limited l.left → IsLeft dev (change setup t v (acts.Let req d now) came).part.limited (left_of (acts.Let req d now) l)
  let_left t v req d now came l h asked is = go (let_here t v req d now came h).1
    where
      go : (r : OpenRequest) × ((request_here v req ≡ Some r) × (may_pass_by setup d (way_of r.op) (limited_here v.part d) ≡ true)) → IsLeft dev (change setup t v (acts.Let req d now) came).part.limited (left_of (acts.Let req d now) l)
      go (r, (e, k)) =
          let told : Some (record { dev = r.dev; op = r.op; count = r.count }) ≡ l.requests req = asked.here req (keeps.Request r) (request_is (v.here (Request req)) r e) in
          let g : Limited → Limited = λ row. left_by req (charged_by_way setup d (bytes_if_any setup (request_here v req)) (way_if_any (request_here v req)) row) in
          left_changed d dev g v.part.limited l.left (left_of (acts.Let req d now) l) (λ row. charged_dev d (bytes_if_any setup (request_here v req)) (way_if_any (request_here v req)) row)
          (λ b row f.
          ap (λ (x : DevId). (charged_by_way setup x (bytes_if_any setup (request_here v req)) (way_if_any (request_here v req)) row).left) (dev_exact d dev b)
          ∙ ap (λ (x : Option OpenRequest). (charged_by_way setup dev (bytes_if_any setup x) (way_if_any x) row).left) e
          ∙ charged_left (r.count * size_of setup r.dev) (way_of r.op) row
          ∙ ap (charged_way setup dev (r.count * size_of setup r.dev) (way_of r.op)) (is row f)
          ∙ ap (λ (x : Option Accepted). charged_for setup dev x l.left) told
          ∙ sym (ap (λ c. cond c (charged_for setup dev (l.requests req) l.left) l.left) b))
          (λ b. sym (ap (λ c. cond c (charged_for setup dev (l.requests req) l.left) l.left) b)) is

  tick_left : (t : ℕ) (v : View) (d : DevId) (now slices : ℕ) (came : Came) (l : Ledger) → IsLeft dev v.part.limited l.left → IsLeft dev (change setup t v (acts.Tick d now slices) came).part.limited (left_of (acts.Tick d now slices) l)
  tick_left t v d now slices came l is =
      left_changed d dev (ticked setup v.part.moments now slices) v.part.limited l.left (left_of (acts.Tick d now slices) l) (λ row. refl)
      (λ b row f.
      ap (λ (x : DevId). renewed (quotas_of (rates_of setup x)) slices row.left) (found_dev dev v.part.limited row f)
      ∙ ap (renewed (quotas_of (rates_of setup dev)) slices) (is row f)
      ∙ sym (ap (λ c. cond c (renewed (quotas_of (rates_of setup dev)) slices l.left) l.left) b))
      (λ b. sym (ap (λ c. cond c (renewed (quotas_of (rates_of setup dev)) slices l.left) l.left) b)) is

  -- what is left at the home after an act of it
  left_after : (t : ℕ) (v : View) (act : Act) (came : Came) (l : Ledger) → Passes (guards setup t v act came) → AreAsked l.requests v act came → IsLeft dev v.part.limited l.left → IsLeft dev (change setup t v act came).part.limited (left_of act l)
  left_after t v act came l h asked is = go (leaves_limited act) refl
    where
      others : (act : Act) → leaves_limited act ≡ false → Passes (guards setup t v act came) → AreAsked l.requests v act came → IsLeft dev (change setup t v act came).part.limited (left_of act l)
      others (acts.Took source number what) e h asked =
          subst (λ (rows : List Limited). IsLeft dev rows l.left) (sym (limited_taken setup t v source number what came)) (took_left what came.message (taken_before v.part source number) l.left is)
      others (acts.Let req d now) e h asked = let_left t v req d now came l h asked is
      others (acts.Tick d now slices) e h asked = tick_left t v d now slices came l is
      others (acts.Abort req cause) e h asked = stopped_left req (request_here v req) v.part l.left is
      others _ e h asked = cc

      go : (b : Bool) → leaves_limited act ≡ b → IsLeft dev (change setup t v act came).part.limited (left_of act l)
      go true e =
          subst (λ (left : Left). IsLeft dev (change setup t v act came).part.limited left) (sym (steady act l e))
          (subst (λ (rows : List Limited). IsLeft dev rows l.left) (sym (limited_stays setup t v act came e)) is)
      go false e = others act e h asked

  -- an act of another thread leaves what is left
  left_elsewhere : (t : ℕ) (v : View) (act : Act) (came : Came) (l : Ledger) → (t ≡ home setup dev → ⊥) → Passes (guards setup t v act came) → left_of act l ≡ l.left
  left_elsewhere t v (acts.Let req d now) came l ne h = go (same_dev d dev) refl
    where
      go : (b : Bool) → same_dev d dev ≡ b → cond b (charged_for setup dev (l.requests req) l.left) l.left ≡ l.left
      go true e = absurd (ne (sym (let_here t v req d now came h).0 ∙ ap (home setup) (dev_exact d dev e)))
      go false e = refl
  left_elsewhere t v (acts.Tick d now slices) came l ne h = go (same_dev d dev) refl
    where
      go : (b : Bool) → same_dev d dev ≡ b → cond b (renewed (quotas_of (rates_of setup dev)) slices l.left) l.left ≡ l.left
      go true e = absurd (ne (sym (tick_home t v d now slices came h) ∙ ap (home setup) (dev_exact d dev e)))
      go false e = refl
  left_elsewhere t v _ came l ne h = refl

  -- ---- runs

  -- the ledger is that of the state
  record Agrees (s : State) (l : Ledger) : Type 0 where
    told : AreTold s.tokens l.requests
    left : IsLeft dev (part_of s (home setup dev)).limited l.left

  within : (s : State) (e : Entry) (l : Ledger) → refusal setup s e ≡ None → Agrees s l → IsWithin setup dev l e.act
  within s e l allowed agrees = go e.act (allowed_passes setup s e allowed) (asked_in setup s e.thread e.act l.requests agrees.told)
    where
      enough : (d : DevId) (way : Option Way) (o : Option Limited) (left : Left) → ((row : Limited) → o ≡ Some row → row.left ≡ left) → may_pass_by setup d way o ≡ true → is_enough_left setup d left way ≡ true
      enough d (Some way) (Some row) left is h = subst (λ (x : Left). may_pass (quotas_of (rates_of setup d)) x way ≡ true) (is row refl) h
      enough d (Some way) None left is h = cc
      enough d None o left is h = cc

      go : (act : Act) → Passes (guards_in setup s e.thread act) → AreAsked l.requests (view s e.thread) act (came_for setup s e.thread act) → IsWithin setup dev l act
      go (acts.Let req d now) h asked = λ same. found same (let_here e.thread (view s e.thread) req d now (came_for setup s e.thread (acts.Let req d now)) h)
        where
          found : same_dev d dev ≡ true → (home setup d ≡ e.thread) × ((r : OpenRequest) × ((request_here (view s e.thread) req ≡ Some r) × (may_pass_by setup d (way_of r.op) (limited_here (part_of s e.thread) d) ≡ true)))
              → may_be_let setup dev l.left (l.requests req) ≡ true
          found same (at, (r, (here, k))) =
              let is_dev : d ≡ dev = dev_exact d dev same in
              let told : Some (record { dev = r.dev; op = r.op; count = r.count }) ≡ l.requests req = asked.here req (keeps.Request r) (request_is ((view s e.thread).here (Request req)) r here) in
              let k_dev : may_pass_by setup dev (way_of r.op) (limited_here (part_of s (home setup dev)) dev) ≡ true =
              subst (λ (u : ℕ). may_pass_by setup dev (way_of r.op) (limited_here (part_of s u) dev) ≡ true) (sym at ∙ ap (home setup) is_dev) (subst (λ (x : DevId). may_pass_by setup x (way_of r.op) (limited_here (part_of s e.thread) x) ≡ true) is_dev k) in
              subst (λ (x : Option Accepted). may_be_let setup dev l.left x ≡ true) told (enough dev (way_of r.op) (limited_here (part_of s (home setup dev)) dev) l.left agrees.left k_dev)
      go _ h asked = tt

  agrees_after : (s : State) (e : Entry) (l : Ledger) → IsFresh s → refusal setup s e ≡ None → Agrees s l → Agrees (after setup s e) (ledger_by setup dev e.act l)
  agrees_after s e l fresh allowed agrees = record { told = told_after setup s e l.requests fresh allowed agrees.told; left = place (cases_eq e.thread (home setup dev)) }
    where
      h : Passes (guards_in setup s e.thread e.act)
      h = allowed_passes setup s e allowed

      came : Came
      came = came_for setup s e.thread e.act

      asked : AreAsked l.requests (view s e.thread) e.act (came_for setup s e.thread e.act)
      asked = asked_in setup s e.thread e.act l.requests agrees.told

      place : (e.thread ≡ home setup dev) ⊎ (e.thread ≡ home setup dev → ⊥) → IsLeft dev (part_of (after setup s e) (home setup dev)).limited (left_of e.act l)
      place (inl same) =
          let is : IsLeft dev (part_of s e.thread).limited l.left = subst (λ (u : ℕ). IsLeft dev (part_of s u).limited l.left) (sym same) agrees.left in
          let own : IsLeft dev (change_in setup s e.thread e.act).part.limited (left_of e.act l) =
          left_after e.thread (view s e.thread) e.act (came_for setup s e.thread e.act) l (allowed_passes setup s e allowed) (asked_in setup s e.thread e.act l.requests agrees.told) is in
          subst (λ (u : ℕ). IsLeft dev (part_of (after setup s e) u).limited (left_of e.act l)) same (subst (λ (p : Part). IsLeft dev p.limited (left_of e.act l)) (sym (part_is setup s e fresh allowed)) own)
      place (inr ne) =
          subst (λ (left : Left). IsLeft dev (part_of (after setup s e) (home setup dev)).limited left) (sym (left_elsewhere e.thread (view s e.thread) e.act (came_for setup s e.thread e.act) l ne (allowed_passes setup s e allowed)))
          (subst (λ (p : Part). IsLeft dev p.limited l.left) (sym (part_stays setup s e fresh allowed (home setup dev) ne)) agrees.left)

  all_within : (s : State) (es : List Entry) (l : Ledger) → IsFresh s → IsRunFrom setup s es → Agrees s l → AreWithin setup dev l es
  all_within s [] l fresh run agrees = tt
  all_within s (e ∷ es) l fresh run agrees =
      (within s e l run.0 agrees, all_within (after setup s e) es (ledger_by setup dev e.act l) (fresh_after setup s e fresh run.0) run.1 (agrees_after s e l fresh run.0 agrees))

  -- at the start one quota is left
  first_rows : (ds : List DevId) → IsLeft dev (map (limited_at_start setup) ds) (one_quota (quotas_of (rates_of setup dev)))
  first_rows [] row e = cc
  first_rows (d ∷ ds) row e = go (same_dev d dev) refl e (first_rows ds row)
    where
      go : (b : Bool) → same_dev d dev ≡ b → cond b (Some (limited_at_start setup d)) (find (is_limit dev) (map (limited_at_start setup) ds)) ≡ Some row
          → (find (is_limit dev) (map (limited_at_start setup) ds) ≡ Some row → row.left ≡ one_quota (quotas_of (rates_of setup dev))) → row.left ≡ one_quota (quotas_of (rates_of setup dev))
      go true b e rest = let same : limited_at_start setup d ≡ row = cc in ap (λ (l : Limited). l.left) (sym same) ∙ ap (λ (x : DevId). one_quota (quotas_of (rates_of setup x))) (dev_exact d dev b)
      go false b e rest = rest e

  first_parts : (told : Told) (us : List ℕ) (i : ℕ) → IsLeft dev (get_or (map (part_at_start setup told) us) i blank_part).limited (one_quota (quotas_of (rates_of setup dev)))
  first_parts told [] i row e = cc
  first_parts told (u ∷ us) zero row e = first_rows (limited_devices setup u) row e
  first_parts told (u ∷ us) (suc i) row e = first_parts told us i row e

  agrees_first : (told : Told) → Agrees (start setup told) (first_ledger setup dev)
  agrees_first told = record { told = λ r. tt; left = first_parts told (range_with_len 0 setup.threads) (home setup dev) }

pub budget_is_kept : BudgetIsKept
budget_is_kept setup told es run dev = record {
  some_start = some_start_fits setup told es run dev;
  lets_within = all_within setup dev (start setup told) es (first_ledger setup dev) (fresh_start setup told) run (agrees_first setup dev told);
}
