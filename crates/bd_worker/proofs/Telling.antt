-- What the answer of a turn tells of the entries that it added.
use Rattle.std.proofs.Common.{◌≡◌, ℕ, suc, ◌+◌, ◌<◌, ◌≤◌, Bool, true, false, cond, ◌==◌, ◌-◌, ◌⊎◌, inl, inr, eqb-true, eq-eqb, List, [], ◌∷◌, ◌++◌, length, refl, sym, ◌∙◌, ap, subst, length-append, arith}
use Rattle.std.proofs.lemmas.Bool.{cases_lt, true≢false}
use Rattle.bd_base.specs.declared.act.Entry.{Entry}
use Rattle.bd_law_threads.specs.Course.{acts_of, restamped}
use Rattle.bd_log.specs.Log.{Written}
use Rattle.bd_seat.specs.Taking.{Appends}
use Rattle.bd_thread.specs.Moves.{turned_of}
use Rattle.bd_thread.specs.declared.turn.Turned.{Turned}
use Rattle.bd_thread.specs.declared.turn.Turned.TheVariants.{Moved, Quiet}
use Rattle.bd_worker.specs.declared.seat.Seat.{Seat}
use Rattle.bd_worker.specs.Seats.{Tells}

length-restamped : (t last : ℕ) (es : List Entry) → length (restamped t last (acts_of es)) ≡ length es
length-restamped t last [] = refl
length-restamped t last (e ∷ es) = ap suc (length-restamped t (last + 1) es)

tells_more : (before n : ℕ) → Tells before (before + n) (turned_of 0 n)
tells_more before n = go (0 == n) refl (cases_lt 0 n)
  where
    go : (b : Bool) → (0 == n) ≡ b → (0 < n) ⊎ (n ≤ 0) → Tells before (before + n) (cond b Quiet (Moved (n - 0)))
    go true e q = let same : 0 ≡ n = eqb-true 0 n e in omega arith
    go false e (inl lt) = (omega arith, omega arith)
    go false e (inr le) = absurd (true≢false (sym (eq-eqb 0 n (omega arith)) ∙ e))

-- a log that has what a turn did tells it
pub tells_appended : (log log' : Written) (es : List Entry) (turned : Turned) → turned ≡ turned_of 0 (length es) → Appends log (restamped log.thread log.last (acts_of es)) log'
    → Tells (length log.entries) (length log'.entries) turned
tells_appended log log' es turned is appends =
    subst (λ (u : Turned). Tells (length log.entries) (length log'.entries) u) (sym is)
    (subst (λ (n : ℕ). Tells (length log.entries) n (turned_of 0 (length es))) (sym many) (tells_more (length log.entries) (length es)))
  where
    many : length log'.entries ≡ length log.entries + length es
    many =
        let a : length log'.entries ≡ length (log.entries ++ restamped log.thread log.last (acts_of es)) = ap (λ (xs : List Entry). length xs) appends.entries in
        let b : length (log.entries ++ restamped log.thread log.last (acts_of es)) ≡ length log.entries + length (restamped log.thread log.last (acts_of es)) = length-append log.entries (restamped log.thread log.last (acts_of es)) in
        let c : length (restamped log.thread log.last (acts_of es)) ≡ length es = length-restamped log.thread log.last es in
        omega arith
