-- How pieces of a file come together.
use Rattle.std.proofs.Common.{◌≡◌, ℕ, ◌+◌, ◌<◌, ◌≤◌, List, ◌++◌, length, take, drop, refl, sym, ◌∙◌, ap, subst, length-append, arith}
use Rattle.std.proofs.Math.Seq.{take-add}
use Rattle.std.proofs.lemmas.List.{length-take, append-nil, take_all, take-take}
use Rattle.bd_outside.specs.File.{Told, Untold, NoFile, Content, GivesPiece, ReadsAt, IsWhole}
use Rattle.bd_outside.specs.Host.{HostState, IsLater, FailsAt, Misses}
use Rattle.bd_report.proofs.WritingLemmas.{rises_from}
use Rattle.bd_top.specs.Files.{IsRead, IsTooLong}

-- these bytes are a prefix of the file, where it is told
abbrev pub IsFront : Told → List ℕ → Type 0
IsFront Untold all = Unit {0}
IsFront NoFile all = Unit {0}
IsFront (Content file) all = all ≡ take (length all) file

-- ---- states of a host

pub later_same : (a : HostState) → IsLater a a
later_same a = record { told = λ name. refl; faults = λ name. omega arith; absences = λ name. omega arith }

pub later_then : (a b c : HostState) → IsLater a b → IsLater b c → IsLater a c
later_then a b c p q = record {
  told = λ name. q.told name ∙ p.told name;
  faults = λ name. omega (arith, p.faults name, q.faults name);
  absences = λ name. omega (arith, p.absences name, q.absences name);
}

pub fails_from : (a b c : HostState) (name : List ℕ) → IsLater a b → FailsAt b c name → FailsAt a c name
fails_from a b c name p q = rises_from (a.faults name) (b.faults name) (c.faults name) (p.faults name) q

pub misses_from : (a b c : HostState) (name : List ℕ) → IsLater a b → Misses b c name → Misses a c name
misses_from a b c name p q = rises_from (a.absences name) (b.absences name) (c.absences name) (p.absences name) q

-- ---- pieces of a file

front_more_in : (file all chunk : List ℕ) (n m : ℕ) → all ≡ take (length all) file → ReadsAt file (length all) n chunk → m ≤ n → all ++ take m chunk ≡ take (length (all ++ take m chunk)) file
front_more_in file all chunk n m front given le =
    let same : take m chunk ≡ take m (drop (length all) file) = sym (take-take m n chunk le) ∙ ap (take m) given.same ∙ take-take m n (drop (length all) file) le in
    let inside : m ≤ length (drop (length all) file) = omega (arith, given.inside) in
    let count : length (take m chunk) ≡ m = ap length same ∙ omega (arith, length-take m (drop (length all) file)) in
    let total : length (all ++ take m chunk) ≡ length all + m = omega (arith, length-append all (take m chunk), count) in
    ap (λ z. z ++ take m chunk) front ∙ ap (λ z. take (length all) file ++ z) same ∙ sym (take-add (length all) m file) ∙ sym (ap (λ k. take k file) total)

front_more_at : (t : Told) (all chunk : List ℕ) (n m : ℕ) → IsFront t all → GivesPiece t (length all) n chunk → m ≤ n → IsFront t (all ++ take m chunk)
front_more_at Untold all chunk n m front given le = tt
front_more_at NoFile all chunk n m front given le = tt
front_more_at (Content file) all chunk n m front given le = front_more_in file all chunk n m front given le

-- a piece read after a prefix, or a prefix of such a piece
pub front_more : (t u : Told) (all chunk : List ℕ) (n m : ℕ) → u ≡ t → IsFront t all → GivesPiece u (length all) n chunk → m ≤ n → IsFront t (all ++ take m chunk)
front_more t u all chunk n m e front given le =
    let P : Told → Type 0 = λ x. GivesPiece x (length all) n chunk in
    front_more_at t all chunk n m front (subst P e given) le

front_end_at : (t : Told) (all chunk : List ℕ) (n : ℕ) → IsFront t all → GivesPiece t (length all) n chunk → n ≡ 0 → 0 < length chunk → IsWhole t all
front_end_at Untold all chunk n front given zero some = tt
front_end_at NoFile all chunk n front given zero some = given
front_end_at (Content file) all chunk n front given zero some = front ∙ take_all (length all) file (given.end_only zero some)

-- the file's end
pub front_end : (t u : Told) (all chunk : List ℕ) (n m : ℕ) → u ≡ t → IsFront t all → GivesPiece u (length all) n chunk → n ≡ 0 → m ≤ n → 0 < length chunk → length all ≤ 8388608 → IsRead t (all ++ take m chunk)
front_end t u all chunk n m e front given zero le some short =
    let P : Told → Type 0 = λ x. GivesPiece x (length all) n chunk in
    let nothing : m ≡ 0 = omega arith in
    let Q : List ℕ → Type 0 = IsRead t in
    let R : ℕ → Type 0 = λ k. IsRead t (all ++ take k chunk) in
    let read : IsRead t all = record { whole = front_end_at t all chunk n front (subst P e given) zero some; short = omega arith } in
    subst R (sym nothing) (subst Q (sym (append-nil all)) read)

-- a prefix that is longer than a file may be, of a file that some piece came from
pub front_over : (t u : Told) (all chunk : List ℕ) (at n : ℕ) → u ≡ t → GivesPiece u at n chunk → IsFront t all → length all ≡ 8388609 → IsTooLong t
front_over t u all chunk at n e given front size = front_over_at t all chunk at n (let P : Told → Type 0 = λ x. GivesPiece x at n chunk in subst P e given) front size
  where
    front_over_at : (t : Told) (all chunk : List ℕ) (at n : ℕ) → GivesPiece t at n chunk → IsFront t all → length all ≡ 8388609 → IsTooLong t
    front_over_at Untold all chunk at n given front size = tt
    front_over_at NoFile all chunk at n given front size = given
    front_over_at (Content file) all chunk at n given front size = omega (arith, ap length front, length-take (length all) file)
