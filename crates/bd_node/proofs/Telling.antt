-- What the answers of turns tell of the entries that they added.
use Rattle.std.proofs.Common.{◌≡◌, ℕ, suc, ◌+◌, ◌<◌, Bool, true, false, ◌||◌, ◌-◌, List, [], ◌∷◌, ◌++◌, length, map, set, sum_by, Some, refl, sym, ◌∙◌, ap, subst, length-append, Result, Ok, Err, arith}
use Rattle.std.specs.List.{slice_get}
use Rattle.std.proofs.lemmas.List.Sums.{sum_by-cons, sum_by-set}
use Rattle.std.proofs.lemmas.List.{map-set}
use Rattle.std.proofs.lemmas.Option.{get_or_from_slice_get, slice_get-map, slice_get_within}
use Rattle.std.specs.Option.{option_map}
use Rattle.std.specs.Prelude.{IfOk, OnOk}
use Rattle.bd_base.specs.declared.act.Entry.{Entry}
use Rattle.bd_base.specs.declared.setup.Setup.{Setup}
use Rattle.bd_log.specs.Merge.{entries_of, Part}
use Rattle.bd_thread.specs.declared.turn.Turned.{Turned}
use Rattle.bd_thread.specs.declared.turn.Turned.TheVariants.{Moved, Quiet}
use Rattle.bd_wires.specs.declared.wires.Passes.{Passes}
use Rattle.bd_worker.specs.declared.seat.Seat.{Seat}
use Rattle.bd_worker.specs.Seats.{made_by, HasMoved, Tells}
use Rattle.bd_node.specs.Starting.{AreNewSeats}
use Rattle.bd_node.specs.Whole.{log_with}
use Rattle.bd_worker.proofs.Places.{has_at, is_below}

-- a sum over what is made of each
pub sum_by_map : {X Y : Type 0} (g : Y → ℕ) (f : X → Y) (xs : List X) → sum_by g (map f xs) ≡ sum_by (λ x. g (f x)) xs
sum_by_map g f [] = refl
sum_by_map g f (x ∷ xs) = sum_by-cons g (f x) (map f xs) ∙ ap (λ (n : ℕ). g (f x) + n) (sum_by_map g f xs) ∙ sym (sum_by-cons (λ x. g (f x)) x xs)

-- more by what both have besides
tells_besides : (n before after : ℕ) (turned : Turned) → Tells before after turned → Tells (n + before) (n + after) turned
tells_besides n before after Quiet e = ap (λ (m : ℕ). n + m) e
tells_besides n before after (Moved m) e = let is : after ≡ before + m = e.1 in (e.0, omega arith)

-- as much more among all as one has more
pub tells_among : {D : Type 0} → (trace : List Entry) (seats : List (Seat D)) (i : ℕ) (s s' : Seat D) (turned : Turned) → slice_get seats i ≡ Some s → s'.worker.log.thread ≡ s.worker.log.thread → Tells (made_by s) (made_by s') turned
    → Tells (sum_by (λ p. length p.entries) (map (log_with trace) seats)) (sum_by (λ p. length p.entries) (map (log_with trace) (set seats i s'))) turned
tells_among {D} trace seats i s s' turned at same told =
    subst (λ (ps : List Part). Tells (sum_by size parts) (sum_by size ps) turned) (sym (map-set (log_with trace) seats i s')) (go turned more)
  where
    size : Part → ℕ
    size p = length p.entries

    parts : List Part
    parts = map (log_with trace) seats

    here : slice_get parts i ≡ Some (log_with trace s)
    here = slice_get-map (log_with trace) seats i ∙ ap (option_map (log_with trace)) at

    both : sum_by size (set parts i (log_with trace s')) + size (log_with trace s) ≡ sum_by size parts + size (log_with trace s')
    both =
        subst (λ (p : Part). sum_by size (set parts i (log_with trace s')) + size p ≡ sum_by size parts + size (log_with trace s')) (get_or_from_slice_get parts i (log_with trace s) (log_with trace s) here)
        (sum_by-set size parts i (log_with trace s') (log_with trace s) (slice_get_within parts i (log_with trace s) here))

    -- what was handed out of it before is the same
    more : Tells (size (log_with trace s)) (size (log_with trace s')) turned
    more =
        let gone : List Entry = entries_of s.worker.log.thread trace in
        let old : size (log_with trace s) ≡ length gone + made_by s = length-append gone s.worker.log.entries in
        let new : size (log_with trace s') ≡ length gone + made_by s' =
        ap (λ (t : ℕ). length (entries_of t trace ++ s'.worker.log.entries)) same ∙ length-append gone s'.worker.log.entries in
        subst (λ (n : ℕ). Tells n (size (log_with trace s')) turned) (sym old)
        (subst (λ (n : ℕ). Tells (length gone + made_by s) n turned) (sym new) (tells_besides (length gone) (made_by s) (made_by s') turned told))

    go : (turned : Turned) → Tells (size (log_with trace s)) (size (log_with trace s')) turned → Tells (sum_by size parts) (sum_by size (set parts i (log_with trace s'))) turned
    go Quiet e = let q : size (log_with trace s') ≡ size (log_with trace s) = e in omega (arith, both)
    go (Moved n) e = let q : size (log_with trace s') ≡ size (log_with trace s) + n = e.1 in (e.0, omega (arith, both))

-- what holds of a result where two facts hold of it
pub both_if : {A E : Type 0} (r : Result A E) (P Q R : A → Type 0) → ((x : A) → P x → Q x → R x) → IfOk r P → IfOk r Q → IfOk r R
both_if (Ok x) P Q R f p q = f x p q
both_if (Err e) P Q R f p q = tt

pub both_ok : {A E : Type 0} (r : Result A E) (P : Type 0) (Q R : A → Type 0) → (P → (x : A) → Q x → R x) → OnOk r P → IfOk r Q → IfOk r R
both_ok (Ok x) P Q R f p q = f p x q
both_ok (Err e) P Q R f p q = tt

-- what holds anyway holds of an answer
pub ok_of : {A E P : Type 0} (r : Result A E) → P → OnOk r P
ok_of (Ok x) p = p
ok_of (Err e) p = tt

pub moved_more : (a b c : ℕ) (m t : Bool) → HasMoved a b m → HasMoved b c t → HasMoved a c (m || t)
moved_more a b c true true p q = let x : a < b = p in let y : b < c = q in omega arith
moved_more a b c true false p q = let x : a < b = p in let y : c ≡ b = q in omega arith
moved_more a b c false true p q = let x : b ≡ a = p in let y : b < c = q in omega arith
moved_more a b c false false p q = let x : b ≡ a = p in let y : c ≡ b = q in omega arith

-- where no seat made any, all made none
pub none_made : {D : Type 0} → (seats : List (Seat D)) → ((i : ℕ) (s : Seat D) → slice_get seats i ≡ Some s → made_by s ≡ 0) → sum_by made_by seats ≡ 0
none_made [] h = refl
none_made (s ∷ ss) h =
    let first : made_by s ≡ 0 = h 0 s refl in
    let rest : sum_by made_by ss ≡ 0 = none_made ss (λ i u e. h (suc i) u e) in
    let both : sum_by made_by (s ∷ ss) ≡ made_by s + sum_by made_by ss = sum_by-cons made_by s ss in
    omega arith

pub new_made_none : {D : Type 0} → (setup : Setup) (passes : List Passes) (seats : List (Seat D)) → length seats ≡ length passes → AreNewSeats setup passes seats → sum_by made_by seats ≡ 0
new_made_none setup passes seats len new = none_made seats (λ i s h.
    let q = has_at passes i (subst (λ (n : ℕ). i < n) len (is_below seats i s h)) in
    ap (λ (es : List Entry). length es) (new.each i s q.0 h q.1).log_entries)

-- with no trace all is in the logs
pub made_in_logs : {D : Type 0} → (trace : List Entry) (seats : List (Seat D)) → trace ≡ [] → sum_by (λ p. length p.entries) (map (log_with trace) seats) ≡ sum_by made_by seats
made_in_logs trace seats none = subst (λ (es : List Entry). sum_by (λ p. length p.entries) (map (log_with es) seats) ≡ sum_by made_by seats) (sym none) (sum_by_map (λ p. length p.entries) (log_with []) seats)
