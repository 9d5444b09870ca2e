-- The moments and timeslices of a worker's log, and what a turn leaves of the moments of its thread.
use Rattle.std.proofs.Common.{◌≡◌, ℕ, ◌+◌, ◌<◌, ◌≤◌, Bool, true, false, cond, max, List, [], ◌∷◌, Option, Some, None, refl, sym, ◌∙◌, ap, subst, arith}
use Rattle.std.specs.List.{AllByRecursion}
use Rattle.std.specs.Prelude.{IfSome}
use Rattle.bd_base.specs.declared.act.Entry.{Entry}
use Rattle.bd_base.specs.declared.id.DevId.{DevId}
use Rattle.bd_law_threads.specs.Course.{acts_of, restamped}
use Rattle.bd_machine.specs.Timeslices.{slices_of, Fits}
use Rattle.bd_outside.specs.Clock.{IsWithin, Moments}
use Rattle.bd_thread.specs.declared.thread.Thread.{Thread}
use Rattle.bd_thread.specs.Seen.{time_of}
use Rattle.bd_thread.specs.Timely.{moment_named, slices_at, slices_in, AreTimely, HadTurn, IsBetween, IsOnTime}
use Rattle.bd_thread.proofs.OnTime.{named_all, told_begun}
use Rattle.bd_worker.specs.Seats.{AreTimesWithin}

-- ---- other stamps

named_restamped : (P : ℕ → Type 0) (t last : ℕ) (es : List Entry) → AllByRecursion (λ e. IfSome (moment_named e.act) P) es → AllByRecursion (λ e. IfSome (moment_named e.act) P) (restamped t last (acts_of es))
named_restamped P t last [] h = tt
named_restamped P t last (e ∷ es) h = (h.0, named_restamped P t (last + 1) es h.1)

slices_restamped : (dev : DevId) (t last : ℕ) (es : List Entry) → slices_in dev (restamped t last (acts_of es)) ≡ slices_in dev es
slices_restamped dev t last [] = refl
slices_restamped dev t last (e ∷ es) = ap (λ n. slices_of dev e.act + n) (slices_restamped dev t (last + 1) es)

fits_restamped : (dev : DevId) (start before t last : ℕ) (es : List Entry) → Fits dev start before es → Fits dev start before (restamped t last (acts_of es))
fits_restamped dev start before t last [] h = tt
fits_restamped dev start before t last (e ∷ es) h = (h.0, fits_restamped dev start (before + slices_of dev e.act) t (last + 1) es h.1)

pub timely_restamped : (t last : ℕ) (es : List Entry) (old new : Thread) → AreTimely es old new → AreTimely (restamped t last (acts_of es)) old new
timely_restamped t last es old new h = record {
  time = h.time;
  named = named_restamped (λ n. n ≡ (time_of old).moment) t last es h.named;
  fits = λ dev. fits_restamped dev (time_of old).start (slices_at old.part dev) t last es (h.fits dev);
  slices = λ dev. h.slices dev ∙ ap (λ n. slices_at old.part dev + n) (sym (slices_restamped dev t last es));
}

-- ---- a clock's moments

-- the greater of two that a clock tells
within_max : (range : Option Moments) (m n : ℕ) → IsWithin range m → IsWithin range n → IsWithin range (max m n)
within_max None m n a b = tt
within_max (Some r) m n a b = (omega (arith, a.0), omega (arith, a.1, b.1))

-- a turn began
begun_within : (range : Option Moments) (now start moment : ℕ) (given : Bool) → IsWithin range now → AreTimesWithin range given start moment → AreTimesWithin range true (cond given start (max moment now)) (max moment now)
begun_within range now start moment true a h = (h.0, within_max range moment now h.1 a)
begun_within range now start moment false a h = let first : max moment now ≡ now = omega (arith, h) in let is : IsWithin range (max moment now) = subst (IsWithin range) (sym first) a in (is, is)

-- a turn's moment is one that the clock tells, where those before were
pub turn_within : (range : Option Moments) (now : ℕ) (old new : Thread) → HadTurn now old new → IsWithin range now
    → AreTimesWithin range (time_of old).given (time_of old).start (time_of old).moment
    → AreTimesWithin range (time_of new).given (time_of new).start (time_of new).moment
turn_within range now old new turned a h =
    let given : (time_of new).given ≡ true = ap (λ t. t.given) turned in
    let start : (time_of new).start ≡ cond (time_of old).given (time_of old).start (max (time_of old).moment now) = ap (λ t. t.start) turned in
    let moment : (time_of new).moment ≡ max (time_of old).moment now = ap (λ t. t.moment) turned in
    subst (λ (b : Bool). AreTimesWithin range b (time_of new).start (time_of new).moment) (sym given)
    (subst (λ (n : ℕ). AreTimesWithin range true n (time_of new).moment) (sym start)
    (subst (λ (n : ℕ). AreTimesWithin range true (cond (time_of old).given (time_of old).start (max (time_of old).moment now)) n) (sym moment)
    (begun_within range now (time_of old).start (time_of old).moment (time_of old).given a h)))

-- a moment between two that a clock tells
within_between : (range : Option Moments) (low high n : ℕ) → IsWithin range low → IsWithin range high → (low ≤ n) × (n ≤ high) → IsWithin range n
within_between None low high n a b between = tt
within_between (Some r) low high n a b between = (omega (arith, a.0, between.0), omega (arith, b.1, between.1))

-- all moments that a thread named are such as the clock tells
pub named_within : (range : Option Moments) (t : Thread) (es : List Entry) → IsOnTime t es → AreTimesWithin range (time_of t).given (time_of t).start (time_of t).moment
    → AllByRecursion (λ e. IfSome (moment_named e.act) (IsWithin range)) es
named_within range t es h times = named_all t es (IsWithin range) h (λ given n between. by given (subst (λ (b : Bool). AreTimesWithin range b (time_of t).start (time_of t).moment) given times) n between)
  where
    by : (time_of t).given ≡ true → AreTimesWithin range true (time_of t).start (time_of t).moment → (n : ℕ) → IsBetween (time_of t) n → IsWithin range n
    by given k n between = within_between range (time_of t).start (time_of t).moment n k.0 k.1 between

-- no moment of a thread is greater than the greatest that the clock tells
pub moment_most : (r : Moments) (given : Bool) (start moment : ℕ) → AreTimesWithin (Some r) given start moment → moment ≤ r.greatest
moment_most r true start moment h = h.1.1
moment_most r false start moment h = omega (arith, h)

-- and so is the one since which the timeslices passed that it told
pub start_within : (range : Option Moments) (t : Thread) (es : List Entry) (dev : DevId) → IsOnTime t es → 0 < slices_in dev es → AreTimesWithin range (time_of t).given (time_of t).start (time_of t).moment
    → IsWithin range (time_of t).start
start_within range t es dev h some times = (subst (λ (b : Bool). AreTimesWithin range b (time_of t).start (time_of t).moment) (told_begun t es dev h some) times).0
