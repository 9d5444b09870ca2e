-- The lines that a thread did are a prefix of its script, and in a complete run each script goes as far as it can: it is blocked at the Shutdown, and no line is done after it.
use Rattle.std.proofs.Common.{◌≡◌, ℕ, zero, suc, ◌+◌, ◌<◌, ◌≤◌, Bool, true, false, not, cond, ◌&&◌, ◌||◌, ◌==◌, ◌⊎◌, inl, inr, List, [], ◌∷◌, ◌++◌, length, map, take, get_or, Option, Some, None, refl, sym, ◌∙◌, ap, subst, eqb-true, eq-eqb, ne_eqb, append-nil, append_assoc, add-one, arith}
use Rattle.std.specs.List.{cons_option, list_all, range_with_len, slice_get}
use Rattle.std.proofs.lemmas.Bool.{and_parts, cases_eq}
use Rattle.std.proofs.lemmas.List.{map-append, length-set}
use Rattle.std.proofs.lemmas.List.Elements.{filter_map-append}
use Rattle.std.proofs.lemmas.List.FromFn.{length-map-range_with_len}
use Rattle.bd_base.specs.declared.act.Act.{Act}
use Rattle.bd_base.specs.declared.act.Act.TheVariants as acts
use Rattle.bd_base.specs.declared.act.ApplyEnd.{ApplyEnd}
use Rattle.bd_base.specs.declared.act.Entry.{Entry}
use Rattle.bd_base.specs.declared.id.DevId.{DevId}
use Rattle.bd_base.specs.declared.id.ReqId.{ReqId}
use Rattle.bd_base.specs.declared.job.Line.{Line}
use Rattle.bd_base.specs.declared.setup.Setup.{Setup}
use Rattle.bd_machine.specs.declared.guard.TheConstants.{UNBUILT, IN_ORDER, AT_REST, SCRIPTS_BLOCKED}
use Rattle.bd_machine.specs.declared.state.Base.{Base}
use Rattle.bd_machine.specs.declared.state.OpenPiece.{OpenPiece}
use Rattle.bd_machine.specs.declared.state.Part.{Part}
use Rattle.bd_machine.specs.declared.state.State.{State}
use Rattle.bd_machine.specs.Asked.{is_script_blocked, lines_of, next_line}
use Rattle.bd_machine.specs.BlockMap.{size_of}
use Rattle.bd_machine.specs.Content.{Told}
use Rattle.bd_machine.specs.Guards.{guards, change, is_built}
use Rattle.bd_machine.specs.Homes.{base_here, change_applied}
use Rattle.bd_machine.specs.Kept.{piece_here}
use Rattle.bd_machine.specs.Laws.{one_if, count_of}
use Rattle.bd_machine.specs.Lines.{LinesArePrefix, ScriptsGoAsFar, GoesAsFar, line_of_act, line_by, lines_done, number_of, shutdown_at}
use Rattle.bd_machine.specs.Rest.{are_all_taken, are_all_put, are_all_completed, are_walks_ended, are_all_done, are_gone_closed, are_all_pended, is_at_rest, are_scripts_blocked}
use Rattle.bd_machine.specs.Run.{IsRunFrom, after_all, is_destructed, is_nothing_left}
use Rattle.bd_machine.specs.Scripts.{is_line}
use Rattle.bd_machine.specs.Start.{start, part_at_start}
use Rattle.bd_machine.specs.Step.{IsAllowed, is_in_order, is_shutdown, guards_in, change_in, after}
use Rattle.bd_machine.specs.View.{View, Came, view, came_for, part_of, blank_part}
use Rattle.bd_machine.proofs.Acts.{Passes, passed}
use Rattle.bd_machine.proofs.Laws.{part-own, part-other}
use Rattle.bd_machine.proofs.Parts.{Core, is_plain, next_by_act, plain_grows}
use Rattle.bd_machine.proofs.Steps.{allowed_passes, allowed_thread}

-- ---- a line more

one_more : (lines : List Line) (n : ℕ) (line : Line) → slice_get lines n ≡ Some line → take (suc n) lines ≡ take n lines ++ line ∷ []
one_more [] n line h = cc
one_more (x ∷ lines) zero line h = let same : x ≡ line = cc in ap (λ y. y ∷ []) same
one_more (x ∷ lines) (suc n) line h = ap (λ ys. x ∷ ys) (one_more lines n line h)

-- the numbers of the first n lines
abbrev numbers_to : List Line → ℕ → List ℕ
numbers_to lines n = map number_of (take n lines)

line_more : (lines : List Line) (n number : ℕ) (o : Option Line) → slice_get lines n ≡ o → is_line number o ≡ true → numbers_to lines n ++ number ∷ [] ≡ numbers_to lines (n + 1)
line_more lines n number None e h = cc
line_more lines n number (Some line) e h =
    ap (λ m. numbers_to lines n ++ m ∷ []) (sym (eqb-true line.number number h))
    ∙ sym (map-append number_of (take n lines) (line ∷ []))
    ∙ ap (map number_of) (sym (one_more lines n line e))
    ∙ ap (numbers_to lines) (sym (add-one n))

-- ---- act by act

abbrev is_script : Act → Bool
is_script (acts.Script line outcome) = true
is_script _ = false

applied_next : (v : View) (req : ReqId) (k : ℕ) (dev : DevId) (end : ApplyEnd) (size : ℕ) (x : Option OpenPiece) (b : Option Base) → (change_applied v req k dev end size x b).part.next ≡ v.part.next
applied_next v req k dev end size (Some p) (Some b) = refl
applied_next v req k dev end size _ _ = refl

next_same : (act : Act) (n : ℕ) → is_script act ≡ false → next_by_act act n ≡ n
next_same (acts.Script line outcome) n e = cc
next_same _ n e = refl

next_stays : (setup : Setup) (t : ℕ) (v : View) (act : Act) (came : Came) → is_script act ≡ false → (change setup t v act came).part.next ≡ v.part.next
next_stays setup t v act came still = go (is_plain act) refl
  where
    others : (act : Act) → is_plain act ≡ false → (change setup t v act came).part.next ≡ v.part.next
    others (acts.Put to number what) e = refl
    others (acts.Accept dev lba handle req op count) e = refl
    others (acts.Destruct dev digest) e = refl
    others (acts.Tick dev now slices) e = refl
    others (acts.Grow dev blocks) e = refl
    others (acts.Apply req k dev end) e = applied_next v req k dev end (size_of setup dev) (piece_here v req k) (base_here v dev)
    others _ e = cc

    go : (b : Bool) → is_plain act ≡ b → (change setup t v act came).part.next ≡ v.part.next
    go true e = ap (λ (c : Core). c.next) (plain_grows setup t v act came e).rest ∙ next_same act v.part.next still
    go false e = others act e

line_none : (act : Act) → is_script act ≡ false → line_of_act act ≡ None
line_none (acts.Script line outcome) e = cc
line_none _ e = refl

line_by_script : (setup : Setup) (t : ℕ) (v : View) (act : Act) (came : Came) → Passes (guards setup t v act came) → is_script act ≡ true
    → numbers_to (lines_of setup t) v.part.next ++ cons_option (line_of_act act) [] ≡ numbers_to (lines_of setup t) (change setup t v act came).part.next
line_by_script setup t v (acts.Script line outcome) came h e =
    let ok = passed (guards setup t v (acts.Script line outcome) came) h in
    line_more (lines_of setup t) v.part.next line (next_line setup t v.part) refl (and_parts (is_line line (next_line setup t v.part)) (not came.shut) ok.0).0
line_by_script setup t v _ came h e = cc

line_by_act : (setup : Setup) (t : ℕ) (v : View) (act : Act) (came : Came) → Passes (guards setup t v act came)
    → numbers_to (lines_of setup t) v.part.next ++ cons_option (line_of_act act) [] ≡ numbers_to (lines_of setup t) (change setup t v act came).part.next
line_by_act setup t v act came h = go (is_script act) refl
  where
    go : (b : Bool) → is_script act ≡ b → numbers_to (lines_of setup t) v.part.next ++ cons_option (line_of_act act) [] ≡ numbers_to (lines_of setup t) (change setup t v act came).part.next
    go true e = line_by_script setup t v act came h e
    go false e =
        ap (λ o. numbers_to (lines_of setup t) v.part.next ++ cons_option o []) (line_none act e)
        ∙ append-nil _ ∙ ap (numbers_to (lines_of setup t)) (sym (next_stays setup t v act came e))

-- ---- entry by entry

abbrev numbers_at : Setup → ℕ → State → List ℕ
numbers_at setup t s = numbers_to (lines_of setup t) (part_of s t).next

own_lines : (setup : Setup) (s : State) (e : Entry) → IsAllowed setup s e → numbers_at setup e.thread s ++ cons_option (line_by e.thread e) [] ≡ numbers_at setup e.thread (after setup s e)
unfolding after
own_lines setup s e allowed =
    ap (λ b. numbers_at setup e.thread s ++ cons_option (cond b (line_of_act e.act) None) []) (eq-eqb e.thread e.thread refl)
    ∙ line_by_act setup e.thread (view s e.thread) e.act (came_for setup s e.thread e.act) (allowed_passes setup s e allowed)
    ∙ ap (λ (p : Part). numbers_to (lines_of setup e.thread) p.next) (sym (part-own setup s e (change_in setup s e.thread e.act) (allowed_thread setup s e allowed)))

other_lines : (setup : Setup) (s : State) (e : Entry) (t : ℕ) → (e.thread ≡ t → ⊥) → numbers_at setup t s ++ cons_option (line_by t e) [] ≡ numbers_at setup t (after setup s e)
unfolding after
other_lines setup s e t ne =
    ap (λ b. numbers_at setup t s ++ cons_option (cond b (line_of_act e.act) None) []) (ne_eqb e.thread t ne)
    ∙ append-nil _
    ∙ ap (λ (p : Part). numbers_to (lines_of setup t) p.next) (sym (part-other setup s e (change_in setup s e.thread e.act) t ne))

step_lines : (setup : Setup) (s : State) (e : Entry) (t : ℕ) → IsAllowed setup s e → numbers_at setup t s ++ cons_option (line_by t e) [] ≡ numbers_at setup t (after setup s e)
step_lines setup s e t allowed = go (cases_eq e.thread t)
  where
    go : (e.thread ≡ t) ⊎ (e.thread ≡ t → ⊥) → numbers_at setup t s ++ cons_option (line_by t e) [] ≡ numbers_at setup t (after setup s e)
    go (inl same) = subst (λ (u : ℕ). numbers_at setup u s ++ cons_option (line_by u e) [] ≡ numbers_at setup u (after setup s e)) same (own_lines setup s e allowed)
    go (inr ne) = other_lines setup s e t ne

cons_on : (xs : List ℕ) (o : Option ℕ) (ys : List ℕ) → xs ++ cons_option o ys ≡ (xs ++ cons_option o []) ++ ys
cons_on xs None ys = ap (λ zs. zs ++ ys) (sym (append-nil xs))
cons_on xs (Some x) ys = sym (append_assoc xs (x ∷ []) ys)

run_lines : (setup : Setup) (s : State) (es : List Entry) (t : ℕ) → IsRunFrom setup s es → numbers_at setup t s ++ lines_done t es ≡ numbers_at setup t (after_all setup s es)
run_lines setup s [] t run = append-nil _
run_lines setup s (e ∷ es) t run =
    cons_on (numbers_at setup t s) (line_by t e) (lines_done t es)
    ∙ ap (λ ns. ns ++ lines_done t es) (step_lines setup s e t run.0)
    ∙ run_lines setup (after setup s e) es t run.1

first_line : (setup : Setup) (told : Told) (us : List ℕ) (t : ℕ) → (get_or (map (part_at_start setup told) us) t blank_part).next ≡ 0
first_line setup told [] t = refl
first_line setup told (u ∷ us) zero = refl
first_line setup told (u ∷ us) (suc t) = first_line setup told us t

-- **Prefix**: the lines done are the script's first ones
pub lines_are_prefix : LinesArePrefix
lines_are_prefix setup told es t run =
    ap (λ n. numbers_to (lines_of setup t) n ++ lines_done t es) (sym (first_line setup told (range_with_len 0 setup.threads) t))
    ∙ run_lines setup (start setup told) es t run

pub shut_after : (setup : Setup) (s : State) (e : Entry) → s.shut ≡ true → (after setup s e).shut ≡ true
unfolding after
shut_after setup s e h = ap (λ b. b || is_shutdown e.act) h

threads_stay : (setup : Setup) (s : State) (e : Entry) → length (after setup s e).parts ≡ length s.parts
unfolding after
threads_stay setup s e = length-set s.parts e.thread (change_in setup s e.thread e.act).part

-- ---- after a Shutdown

not_both : (b : Bool) → b ≡ true → not b ≡ true → ⊥
not_both true h k = cc
not_both false h k = cc

-- what the guards of an allowed Shutdown say
record Shuts (setup : Setup) (s : State) (e : Entry) : Type 0 where
  is_thread : e.thread ≡ 0
  not_yet : not s.shut ≡ true
  blocked : are_scripts_blocked setup s ≡ true

shutdown_says : (setup : Setup) (s : State) (stamp t : ℕ) → IsAllowed setup s (record { stamp = stamp; thread = t; act = acts.Shutdown }) → Shuts setup s (record { stamp = stamp; thread = t; act = acts.Shutdown })
shutdown_says setup s stamp t h =
    let e : Entry = record { stamp = stamp; thread = t; act = acts.Shutdown } in
    let ok = passed ((UNBUILT, is_built e.act) ∷ (IN_ORDER, is_in_order s e) ∷ (AT_REST, is_at_rest setup s t) ∷ (SCRIPTS_BLOCKED, are_scripts_blocked setup s) ∷ []) h in
    let a : Bool = (t == 0) && not s.shut in
    let p = and_parts (a && are_all_put s && are_all_taken s && are_all_done s && are_gone_closed setup s && are_walks_ended s) (are_all_pended setup s) ok.1.1.0 in
    let q = and_parts (a && are_all_put s && are_all_taken s && are_all_done s && are_gone_closed setup s) (are_walks_ended s) p.0 in
    let r = and_parts (a && are_all_put s && are_all_taken s && are_all_done s) (are_gone_closed setup s) q.0 in
    let w = and_parts (a && are_all_put s && are_all_taken s) (are_all_done s) r.0 in
    let x = and_parts (a && are_all_put s) (are_all_taken s) w.0 in
    let y = and_parts a (are_all_put s) x.0 in
    let u = and_parts (t == 0) (not s.shut) y.0 in
    record { is_thread = eqb-true t 0 u.0; not_yet = u.1; blocked = ok.1.1.1.0 }

-- after a Shutdown none is allowed
none_shuts : (setup : Setup) (s : State) (stamp t : ℕ) (act : Act) → s.shut ≡ true → IsAllowed setup s (record { stamp = stamp; thread = t; act = act }) → is_shutdown act ≡ false
none_shuts setup s stamp t acts.Shutdown shut h = absurd (not_both s.shut shut (shutdown_says setup s stamp t h).not_yet)
none_shuts setup s stamp t _ shut h = refl

count_shut : (setup : Setup) (s : State) (es : List Entry) → s.shut ≡ true → IsRunFrom setup s es → count_of is_shutdown es ≡ 0
count_shut setup s [] shut run = refl
count_shut setup s (e ∷ es) shut run =
    sum (one_if (is_shutdown e.act)) (count_of is_shutdown es) (ap one_if (none_shuts setup s e.stamp e.thread e.act shut run.0)) (count_shut setup (after setup s e) es (shut_after setup s e shut) run.1)
  where
    sum : (a b : ℕ) → a ≡ 0 → b ≡ 0 → a + b ≡ 0
    sum a b p q = omega arith

-- after a Shutdown no line is done
no_line : (setup : Setup) (s : State) (t : ℕ) (act : Act) → s.shut ≡ true → Passes (guards_in setup s t act) → line_of_act act ≡ None
no_line setup s t (acts.Script line outcome) shut h =
    let ok = passed (guards_in setup s t (acts.Script line outcome)) h in
    absurd (not_both s.shut shut (and_parts (is_line line (next_line setup t (view s t).part)) (not s.shut) ok.0).1)
no_line setup s t _ shut h = refl

not_by : (t : ℕ) (e : Entry) → line_of_act e.act ≡ None → line_by t e ≡ None
not_by t e h = ap (λ o. cond (e.thread == t) o None) h ∙ either (e.thread == t)
  where
    either : (b : Bool) → cond b (line_of_act acts.Shutdown) None ≡ None
    either true = refl
    either false = refl

none_done : (setup : Setup) (s : State) (es : List Entry) (t : ℕ) → s.shut ≡ true → IsRunFrom setup s es → lines_done t es ≡ []
none_done setup s [] t shut run = refl
none_done setup s (e ∷ es) t shut run =
    ap (λ o. cons_option o (lines_done t es)) (not_by t e (no_line setup s e.thread e.act shut (allowed_passes setup s e run.0)))
    ∙ none_done setup (after setup s e) es t (shut_after setup s e shut) run.1

-- ---- the Shutdown of a run that ends with one

pub record Parted (setup : Setup) (s : State) (es : List Entry) : Type 0 where
  pub before : List Entry
  pub stamp : ℕ
  pub rest : List Entry
  pub entries : es ≡ before ++ shutdown_at stamp ∷ rest
  pub run : IsRunFrom setup s before
  pub none_before : count_of is_shutdown before ≡ 0
  pub allowed : IsAllowed setup (after_all setup s before) (shutdown_at stamp)
  pub run_rest : IsRunFrom setup (after setup (after_all setup s before) (shutdown_at stamp)) rest

not_shut_after : (setup : Setup) (s : State) (e : Entry) → s.shut ≡ false → is_shutdown e.act ≡ false → (after setup s e).shut ≡ false
unfolding after
not_shut_after setup s e h k = ap (λ b. b || is_shutdown e.act) h ∙ k

is_the_shutdown : (act : Act) → is_shutdown act ≡ true → act ≡ acts.Shutdown
is_the_shutdown acts.Shutdown h = refl
is_the_shutdown _ h = cc

module _ (setup : Setup) where
  parted : (s : State) (es : List Entry) → s.shut ≡ false → IsRunFrom setup s es → (after_all setup s es).shut ≡ true → Parted setup s es
  parted s [] h run shut = absurd (not_both s.shut shut (ap not h))
  parted s (e ∷ es) h run shut = go (is_shutdown e.act) refl (λ k. parted (after setup s e) es (not_shut_after setup s e h k) run.1 shut)
    where
      go : (b : Bool) → is_shutdown e.act ≡ b → (is_shutdown e.act ≡ false → Parted setup (after setup s e) es) → Parted setup s (e ∷ es)
      go true k later =
          let named : e ≡ record { stamp = e.stamp; thread = e.thread; act = acts.Shutdown } = ap (λ (a : Act). let x : Entry = record { stamp = e.stamp; thread = e.thread; act = a } in x) (is_the_shutdown e.act k) in
          let says = shutdown_says setup s e.stamp e.thread (subst (λ (x : Entry). IsAllowed setup s x) named run.0) in
          let same : e ≡ shutdown_at e.stamp = named ∙ ap (λ (t : ℕ). let x : Entry = record { stamp = e.stamp; thread = t; act = acts.Shutdown } in x) says.is_thread in
          record {
            before = [];
            stamp = e.stamp;
            rest = es;
            entries = ap (λ (x : Entry). x ∷ es) same;
            run = tt;
            none_before = refl;
            allowed = subst (λ (x : Entry). IsAllowed setup s x) same run.0;
            run_rest = subst (λ (x : Entry). IsRunFrom setup (after setup s x) es) same run.1;
          }
      go false k later =
          let p = later k in
          record {
            before = e ∷ p.before;
            stamp = p.stamp;
            rest = p.rest;
            entries = ap (λ (xs : List Entry). e ∷ xs) p.entries;
            run = (run.0, p.run);
            none_before = sum (one_if (is_shutdown e.act)) (count_of is_shutdown p.before) (ap one_if k) p.none_before;
            allowed = p.allowed;
            run_rest = p.run_rest;
          }
        where
          sum : (a b : ℕ) → a ≡ 0 → b ≡ 0 → a + b ≡ 0
          sum a b p q = omega arith

-- ---- the whole

count_on : (fs gs : List Entry) → count_of is_shutdown (fs ++ gs) ≡ count_of is_shutdown fs + count_of is_shutdown gs
count_on [] gs = zero (count_of is_shutdown gs)
  where
    zero : (a : ℕ) → a ≡ 0 + a
    zero a = omega arith
count_on (f ∷ fs) gs = sum (one_if (is_shutdown f.act)) (count_of is_shutdown (fs ++ gs)) (count_of is_shutdown fs) (count_of is_shutdown gs) (count_on fs gs)
  where
    sum : (a x b c : ℕ) → x ≡ b + c → a + x ≡ a + b + c
    sum a x b c p = omega arith

all_at : (p : ℕ → Bool) (k a n : ℕ) → list_all p (range_with_len a k) ≡ true → a ≤ n → n < a + k → p n ≡ true
all_at p zero a n h low high = absurd (omega arith)
all_at p (suc k) a n h low high = go (cases_eq a n) (all_at p k (a + 1) n (and_parts (p a) (list_all p (range_with_len (a + 1) k)) h).1)
  where
    above : (a ≡ n → ⊥) → a + 1 ≤ n
    above ne = grind arith

    less : n < a + 1 + k
    less = omega arith

    go : (a ≡ n) ⊎ (a ≡ n → ⊥) → (a + 1 ≤ n → n < a + 1 + k → p n ≡ true) → p n ≡ true
    go (inl same) rest = subst (λ (m : ℕ). p m ≡ true) same (and_parts (p a) (list_all p (range_with_len (a + 1) k)) h).0
    go (inr ne) rest = rest (above ne) less

parts_stay : (setup : Setup) (s : State) (es : List Entry) → length (after_all setup s es).parts ≡ length s.parts
parts_stay setup s [] = refl
parts_stay setup s (e ∷ es) = parts_stay setup (after setup s e) es ∙ threads_stay setup s e

shut_by : (setup : Setup) (s : State) (stamp : ℕ) → (after setup s (shutdown_at stamp)).shut ≡ true
unfolding after
shut_by setup s stamp = either s.shut
  where
    either : (b : Bool) → (b || true) ≡ true
    either true = refl
    either false = refl

module _ (setup : Setup) (told : Told) (es : List Entry) (t : ℕ) (is_thread : t < setup.threads) (p : Parted setup (start setup told) es) where
  abbrev at_shutdown : State
  at_shutdown = after_all setup (start setup told) p.before

  threads_are : length at_shutdown.parts ≡ setup.threads
  threads_are = parts_stay setup (start setup told) p.before ∙ length-map-range_with_len (part_at_start setup told) 0 setup.threads

  blocked_here : is_script_blocked setup t (view at_shutdown t) ≡ true
  blocked_here =
      let here : t < 0 + length at_shutdown.parts = below (length at_shutdown.parts) threads_are in
      let low : 0 ≤ t = omega arith in
      all_at (λ u. is_script_blocked setup u (view at_shutdown u)) (length at_shutdown.parts) 0 t (shutdown_says setup at_shutdown p.stamp 0 p.allowed).blocked low here
    where
      below : (n : ℕ) → n ≡ setup.threads → t < 0 + n
      below n h = omega arith

  shut : (after setup at_shutdown (shutdown_at p.stamp)).shut ≡ true
  shut = shut_by setup at_shutdown p.stamp

  none_later : lines_done t p.rest ≡ []
  none_later = none_done setup (after setup at_shutdown (shutdown_at p.stamp)) p.rest t shut p.run_rest

  done_before : lines_done t es ≡ lines_done t p.before
  done_before =
      ap (lines_done t) p.entries
      ∙ filter_map-append (line_by t) p.before (shutdown_at p.stamp ∷ p.rest)
      ∙ ap (λ o. lines_done t p.before ++ cons_option o (lines_done t p.rest)) (not_by t (shutdown_at p.stamp) refl)
      ∙ ap (λ ns. lines_done t p.before ++ ns) none_later
      ∙ append-nil _

  once : count_of is_shutdown es ≡ 1
  once =
      ap (count_of is_shutdown) p.entries
      ∙ count_on p.before (shutdown_at p.stamp ∷ p.rest)
      ∙ sum (count_of is_shutdown p.before) (count_of is_shutdown p.rest) p.none_before (count_shut setup (after setup at_shutdown (shutdown_at p.stamp)) p.rest shut p.run_rest)
    where
      sum : (a b : ℕ) → a ≡ 0 → b ≡ 0 → a + (1 + b) ≡ 1
      sum a b p q = omega arith

  goes_as_far : GoesAsFar setup told es t
  goes_as_far = record {
    before = p.before;
    stamp = p.stamp;
    rest = p.rest;
    entries = p.entries;
    one_shutdown = once;
    blocked = blocked_here;
    done = done_before ∙ lines_are_prefix setup told p.before t p.run;
    none_after = none_later;
  }

-- **As far as it can**: at the one Shutdown each script is blocked, and no line is done after it
pub scripts_go_as_far : ScriptsGoAsFar
scripts_go_as_far setup told es t is_thread complete =
    let s : State = after_all setup (start setup told) es in
    let d : Bool = list_all (is_destructed setup s) (range_with_len 0 (length setup.devices)) in
    let p = and_parts (s.shut && d && are_all_completed s && are_all_taken s && are_walks_ended s) (is_nothing_left s) complete.1 in
    let q = and_parts (s.shut && d && are_all_completed s && are_all_taken s) (are_walks_ended s) p.0 in
    let u = and_parts (s.shut && d && are_all_completed s) (are_all_taken s) q.0 in
    let w = and_parts (s.shut && d) (are_all_completed s) u.0 in
    let r = and_parts s.shut d w.0 in
    goes_as_far setup told es t is_thread (parted setup (start setup told) es refl complete.0 r.0)
