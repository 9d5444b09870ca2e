-- Where nothing can be done for the line of a limited device at any place, nothing can be done for any.
use Rattle.std.proofs.Common.{◌≡◌, ◌⊎◌, inl, inr, ℕ, zero, suc, ◌+◌, ◌<◌, ◌≤◌, Bool, true, false, cond, ◌&&◌, ◌==◌, nat_le, nat_lt, List, [], ◌∷◌, length, find, is_none, slice_get, Option, Some, None, refl, sym, ◌∙◌, ap, subst, arith}
use Rattle.std.proofs.lemmas.Bool.{cases_lt}
use Rattle.std.proofs.lemmas.Option.{same_Some, slice_get_past}
use Rattle.bd_base.specs.declared.id.DevId.{DevId}
use Rattle.bd_base.specs.declared.id.ReqId.{ReqId}
use Rattle.bd_machine.specs.declared.guard.TheConstants.{TICK_DUE}
use Rattle.bd_machine.specs.declared.state.Limited.{Limited}
use Rattle.bd_machine.specs.BlockMap.{home}
use Rattle.bd_machine.specs.Budget.{may_have_passed}
use Rattle.bd_machine.specs.Limits.{is_limit, is_tick_due, limited_here, starts_left, waiting_for, waiting_if_any}
use Rattle.bd_machine.specs.Step.{first_failing}
use Rattle.bd_machine.proofs.Tables.{dev_exact}
use Rattle.bd_thread.specs.declared.links.Links.{Links}
use Rattle.bd_thread.specs.declared.thread.Thread.{Thread}
use Rattle.bd_thread.specs.Limits.{head_of, head_stop_of, let_due_of, line_at, line_on, may_tick, slices_now, tick_due_of, NoLimit, NoLimitAt, NoLimitBelow, NoLimitOn}
use Rattle.bd_thread.specs.Waits.{Idles}
use Rattle.bd_thread.proofs.Idle.{idle_so}
use Rattle.bd_thread.proofs.Unserved.{empty_or, none_some}

-- ---- the first line of a device stands at a place

dev_is : (dev : DevId) (l : Limited) → is_limit dev l ≡ true → l.dev ≡ dev
dev_is dev l is = dev_exact l.dev dev is

first_found : {Q : Type 0} (dev : DevId) (ls : List Limited) (l : Limited) → find (is_limit dev) ls ≡ Some l → ((i : ℕ) → slice_get ls i ≡ Some l → l.dev ≡ dev → Q) → Q
first_found dev [] l found k = none_some found
first_found {Q = Q} dev (y ∷ ys) l found k = go (is_limit dev y) refl found (λ later. first_found dev ys l later (λ i at is. k (suc i) at is))
  where
    go : (t : Bool) → is_limit dev y ≡ t → cond t (Some y) (find (is_limit dev) ys) ≡ Some l → (find (is_limit dev) ys ≡ Some l → Q) → Q
    go true is f later = k zero f (subst (λ (x : Limited). x.dev ≡ dev) (same_Some y l f) (dev_is dev y is))
    go false is f later = later f

-- ---- a line in which none waits

tells_none : (home_is later some passed : Bool) (waits : Bool) → waits ≡ false → is_none (first_failing ((TICK_DUE, home_is && later && (some && waits && passed)) ∷ [])) ≡ false
tells_none true true true passed false e = refl
tells_none true true false passed waits e = refl
tells_none true false some passed waits e = refl
tells_none false later some passed waits e = refl
tells_none true true true passed true e = cc

none_tell : (dev : DevId) (l : Limited) (t : Thread) (links : Links) (o : Option Limited) → limited_here t.part dev ≡ o → o ≡ Some l → l.waiting ≡ [] → tick_due_of t links dev o ≡ None
none_tell dev l t links None is e empty = none_some e
none_tell dev l t links (Some x) is e empty =
    let none : nat_lt 0 (length x.waiting) ≡ false = ap (λ (y : Limited). nat_lt 0 (length y.waiting)) (same_Some x l e) ∙ ap (λ (reqs : List ReqId). nat_lt 0 (length reqs)) empty in
    let may : may_tick t links dev (slices_now t x) ≡ false =
    ap (λ (o : Option Limited). is_none (first_failing ((TICK_DUE, (home t.setup.now dev == t.me) && nat_le t.part.moments.last t.time.moment && is_tick_due t.part.moments t.time.moment (slices_now t x) o) ∷ []))) is
    ∙ tells_none (home t.setup.now dev == t.me) (nat_le t.part.moments.last t.time.moment) (nat_lt 0 (slices_now t x)) (may_have_passed t.time.moment (x.slices + slices_now t x) (starts_left t.part.moments t.time.moment x.starts)) (nat_lt 0 (length x.waiting)) none in
    ap (λ b. cond b (Some (slices_now t x)) None) may

-- nothing can be done for it
empty_line : (dev : DevId) (l : Limited) (t : Thread) (links : Links) → limited_here t.part dev ≡ Some l → l.waiting ≡ [] → NoLimitOn dev t links
empty_line dev l t links is empty =
    let none : waiting_for t.part dev ≡ [] = ap waiting_if_any is ∙ empty in
    record {
      head = ap (λ (reqs : List ReqId). head_stop_of t links (head_of reqs)) none;
      tick = none_tell dev l t links (limited_here t.part dev) refl is empty;
      pass = ap (λ (reqs : List ReqId). let_due_of t links dev (head_of reqs)) none;
    }

-- ---- the lines of a thread

-- in a line that isn't empty a request waits
waits : (place : ℕ) (t : Thread) (l : Limited) → slice_get t.part.limited place ≡ Some l → (length l.waiting == 0) ≡ false → line_at place t ≡ Some l.dev
waits place t l here some = ap line_on here ∙ ap (λ (none : Bool). cond none None (Some l.dev)) some

-- nothing at any place, so nothing for any
pub none_limited : (t : Thread) (links : Links) → ((place : ℕ) → NoLimitAt place t links) → NoLimit t links
none_limited t links at i x here = go (limited_here t.part x.dev) refl
  where
    on : (l : Limited) → limited_here t.part x.dev ≡ Some l → (k : ℕ) → slice_get t.part.limited k ≡ Some l → l.dev ≡ x.dev → (l.waiting ≡ []) ⊎ ((length l.waiting == 0) ≡ false) → NoLimitOn x.dev t links
    on l is k found same (inl empty) = empty_line x.dev l t links is empty
    on l is k found same (inr some) = subst (λ (d : DevId). NoLimitOn d t links) same (at k l.dev (waits k t l found some))

    go : (o : Option Limited) → limited_here t.part x.dev ≡ o → NoLimitOn x.dev t links
    go None is = record {
      head = ap (λ (reqs : List ReqId). head_stop_of t links (head_of reqs)) (ap waiting_if_any is);
      tick = ap (tick_due_of t links x.dev) is;
      pass = ap (λ (reqs : List ReqId). let_due_of t links x.dev (head_of reqs)) (ap waiting_if_any is);
    }
    go (Some l) is = first_found x.dev t.part.limited l is (λ k found same. on l is k found same (empty_or l.waiting))

-- nothing at a place where none waits
pub limits_none : (place : ℕ) (t : Thread) (links : Links) → line_at place t ≡ None → NoLimitAt place t links
limits_none place t links none dev found = none_some (sym none ∙ found)

-- nothing at a place where nothing is for its device
pub limits_on : (place : ℕ) (dev : DevId) (t : Thread) (links : Links) → line_at place t ≡ Some dev → NoLimitOn dev t links → NoLimitAt place t links
limits_on place dev t links at on d found = subst (λ (x : DevId). NoLimitOn x t links) (same_Some dev d (sym at ∙ found)) on

-- all places
pub limits_all : (count : ℕ) (o : Thread) (a : Links) (n : Thread) (c : Links) → length o.part.limited ≤ count → Idles (NoLimitBelow count) o a n c → Idles NoLimit o a n c
limits_all count o a n c whole f = idle_so {P = NoLimitBelow count} {Q = NoLimit} o a n c (λ below. none_limited o a (λ place. go below place (cases_lt place count))) f
  where
    go : NoLimitBelow count o a → (place : ℕ) → (place < count) ⊎ (count ≤ place) → NoLimitAt place o a
    go below place (inl lower) = below place lower
    go below place (inr upper) = limits_none place o a (ap line_on (slice_get_past o.part.limited place (omega (arith, whole, upper))))
