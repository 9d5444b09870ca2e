-- What a thread waits for where it worked alone.
use Rattle.std.proofs.Common.{◌≡◌, ◌-◌, ◌<◌, Bool, true, false, cond, ◌==◌, nat_lt, List, [], ◌∷◌, length, Option, Some, None, refl, sym, ◌∙◌, ap, subst, eqb-true, lt-ltb, arith}
use Rattle.bd_base.specs.declared.id.ReqId.{ReqId}
use Rattle.bd_thread.specs.declared.links.Links.{Links}
use Rattle.bd_thread.specs.declared.thread.Thread.{Thread}
use Rattle.bd_thread.specs.declared.turn.Turned.{Turned}
use Rattle.bd_thread.specs.declared.turn.Turned.TheVariants.{Moved, Quiet}
use Rattle.bd_thread.specs.Acted.{Acted}
use Rattle.bd_thread.specs.Calls.{Finds, NoneAsks}
use Rattle.bd_touched.specs.Reach.{Touches}
use Rattle.bd_thread.specs.Grace.{NoDue}
use Rattle.bd_thread.specs.Limits.{NoLimit}
use Rattle.bd_thread.specs.Looking.{LooksAt}
use Rattle.bd_thread.specs.Moves.{turned_of}
use Rattle.bd_thread.specs.Waits.{Idles, IsIdle, IsStill, NoDestruct, NoMessage, NoPiece, NoRefusal, NoRetry, NoStep, NothingToPost, NothingToSend, NothingToServe, StandsBut}
use Rattle.bd_thread.specs.Walking.{NoVisit}
use Rattle.bd_thread.specs.Work.{calls_with, IsWaitingAlone, NoLineAlone, QuietsAlone}
use Rattle.bd_thread.proofs.Going.{acted_then}
use Rattle.bd_thread.proofs.Idle.{idle_last, idle_then}

-- all that a thread waits for that worked alone, and an open request that waits for a decision, if there is one
pub record WaitsBut (Where : Thread → Type 0) (found : Option ReqId) (t : Thread) (links : Links) : Type 0 where
  pub message : NoMessage t links
  pub refusal : NoRefusal t links
  pub retry : NoRetry t links
  pub piece : NoPiece t links
  pub mark : NoDue t links
  pub limit : NoLimit t links
  pub walk : NoVisit t links
  pub line : NoLineAlone t links
  pub device : NoDestruct t links
  pub outbox : NothingToSend t links
  pub due : NothingToPost t links
  pub request : Where t → NoStep t links
  pub finds : Where t → Finds found t links

-- one part of the work after the other
pub work_idle : {Where : Thread → Type 0} (found : Option ReqId) (o : Thread) (a : Links) (p1 : Thread) (l1 : Links) (p2 : Thread) (l2 : Links) (p3 : Thread) (l3 : Links) (p4 : Thread) (l4 : Links) (p5 : Thread) (l5 : Links) (p6 : Thread) (l6 : Links) (p7 : Thread) (l7 : Links) (p8 : Thread) (l8 : Links) (n : Thread) (c : Links)
    → Acted o a p1 l1
    → Acted p1 l1 p2 l2
    → Acted p2 l2 p3 l3
    → Acted p3 l3 p4 l4
    → Acted p4 l4 p5 l5
    → Acted p5 l5 p6 l6
    → Acted p6 l6 p7 l7
    → Acted p7 l7 p8 l8
    → Acted p8 l8 n c
    → Idles NoMessage o a p1 l1
    → Idles NoRetry p1 l1 p2 l2
    → Idles NothingToServe p2 l2 p3 l3
    → Idles NoLineAlone p3 l3 p4 l4
    → Idles NoDestruct p4 l4 p5 l5
    → Idles NothingToSend p5 l5 p6 l6
    → Idles NothingToPost p6 l6 p7 l7
    → (length a.entries ≡ length l7.entries → Idles (StandsBut Where found) p7 l7 p8 l8)
    → (length a.entries ≡ length l8.entries → Idles NoRefusal p8 l8 n c)
    → Idles (WaitsBut Where found) o a n c
work_idle {Where} found o a p1 l1 p2 l2 p3 l3 p4 l4 p5 l5 p6 l6 p7 l7 p8 l8 n c acted0 acted1 acted2 acted3 acted4 acted5 acted6 acted7 acted8 message retry piece line device outbox due request refusal =
    let so1 : Idles (λ t links. NoMessage t links × NoRetry t links) o a p2 l2 =
    idle_then o a p1 l1 p2 l2 acted0 acted1 (λ first next. (first, next)) message retry in
    let both1 = acted_then o a p1 l1 p2 l2 acted0 acted1 in
    let so2 : Idles (λ t links. NoMessage t links × NoRetry t links × NothingToServe t links) o a p3 l3 =
    idle_then o a p2 l2 p3 l3 both1 acted2 (λ so next. (so.0, so.1, next)) so1 piece in
    let both2 = acted_then o a p2 l2 p3 l3 both1 acted2 in
    let so3 : Idles (λ t links. NoMessage t links × NoRetry t links × NothingToServe t links × NoLineAlone t links) o a p4 l4 =
    idle_then o a p3 l3 p4 l4 both2 acted3 (λ so next. (so.0, so.1, so.2, next)) so2 line in
    let both3 = acted_then o a p3 l3 p4 l4 both2 acted3 in
    let so4 : Idles (λ t links. NoMessage t links × NoRetry t links × NothingToServe t links × NoLineAlone t links × NoDestruct t links) o a p5 l5 =
    idle_then o a p4 l4 p5 l5 both3 acted4 (λ so next. (so.0, so.1, so.2, so.3, next)) so3 device in
    let both4 = acted_then o a p4 l4 p5 l5 both3 acted4 in
    let so5 : Idles (λ t links. NoMessage t links × NoRetry t links × NothingToServe t links × NoLineAlone t links × NoDestruct t links × NothingToSend t links) o a p6 l6 =
    idle_then o a p5 l5 p6 l6 both4 acted5 (λ so next. (so.0, so.1, so.2, so.3, so.4, next)) so4 outbox in
    let both5 = acted_then o a p5 l5 p6 l6 both4 acted5 in
    let so6 : Idles (λ t links. NoMessage t links × NoRetry t links × NothingToServe t links × NoLineAlone t links × NoDestruct t links × NothingToSend t links × NothingToPost t links) o a p7 l7 =
    idle_then o a p6 l6 p7 l7 both5 acted6 (λ so next. (so.0, so.1, so.2, so.3, so.4, so.5, next)) so5 due in
    let both6 = acted_then o a p6 l6 p7 l7 both5 acted6 in
    let so7 : Idles (λ t links. NoMessage t links × NoRetry t links × NothingToServe t links × NoLineAlone t links × NoDestruct t links × NothingToSend t links × NothingToPost t links × StandsBut Where found t links) o a p8 l8 =
    idle_last o a p7 l7 p8 l8 both6 acted7 (λ so next. (so.0, so.1, so.2, so.3, so.4, so.5, so.6, next)) so6 request in
    idle_last o a p8 l8 n c (acted_then o a p7 l7 p8 l8 both6 acted7) acted8
    (λ so next. record { message = so.0; retry = so.1; piece = so.2.piece; mark = so.2.mark; limit = so.2.limit; walk = so.2.walk; line = so.3; device = so.4; outbox = so.5; due = so.6; request = so.7.none; finds = so.7.finds; refusal = next }) so7 refusal

-- where that is noted, or something was before, it waits for all but what is noted
waits_alone : {Where : Thread → Type 0} (found : Option ReqId) (t : Thread) (links : Links) (u : Thread) → (Where (record t { calls = u.calls; touched = u.touched }) → Where t) → u.calls.items ≡ calls_with found t.calls.items → WaitsBut Where found t links → IsWaitingAlone Where (record t { calls = u.calls; touched = u.touched }) links
waits_alone found t links u where_so noted w = record {
  message = w.message;
  refusal = w.refusal;
  retry = w.retry;
  piece = w.piece;
  mark = w.mark;
  limit = λ i l at. record { head = (w.limit i l at).head; tick = (w.limit i l at).tick; pass = (w.limit i l at).pass };
  walk = w.walk;
  line = record { submission = w.line.submission; outcome = w.line.outcome };
  device = w.device;
  outbox = w.outbox;
  due = w.due;
  request = λ looked i o at.
      let n = w.request (where_so looked) i o at in
      record { step = n.step; named = n.named; still = record { release = n.still.release; hold = n.still.hold; completion = n.still.completion }; out = n.out };
  call = λ looked none. by found t.calls.items (w.finds (where_so looked)) (subst (λ (xs : List ReqId). nat_lt 0 (length xs) ≡ false) noted none);
}
  where
    some : {Q : Type 0} (x : ReqId) (xs : List ReqId) → nat_lt 0 (length (x ∷ xs)) ≡ false → Q
    some x xs h = absurd (let more : 0 < length (x ∷ xs) = omega arith in let is = lt-ltb 0 (length (x ∷ xs)) more in let no = sym is ∙ h in cc)

    by : (f : Option ReqId) (before : List ReqId) → Finds f t links → nat_lt 0 (length (calls_with f before)) ≡ false → NoneAsks t links
    by None before finds h = finds
    by (Some req) [] finds h = some req [] h
    by (Some req) (x ∷ xs) finds h = some x xs h

-- quiet is answered where no entry was added, and what was found is noted
pub quiet_alone_by : (found : Option ReqId) (o b : Thread) (x : Touches) (a : Links) (n : Thread) (c : Links) (u : Thread) (turned : Turned)
    → turned ≡ turned_of (length a.entries) (length c.entries)
    → x ≡ o.touched
    → b ≡ record o { touched = b.touched }
    → u ≡ record n { calls = u.calls; touched = u.touched }
    → (turned ≡ Quiet → u.calls.items ≡ calls_with found n.calls.items)
    → Idles (WaitsBut (LooksAt x) found) b a n c
    → QuietsAlone o a u c turned
quiet_alone_by found o b x a n c u turned e was began is noted h = subst (QuietsAlone o a u c) (sym e) (go (length a.entries == length c.entries) refl)
  where
    with_calls : Thread → Thread
    with_calls t = record t { calls = u.calls; touched = u.touched }

    still : IsIdle (WaitsBut (LooksAt x) found) b a n c → u.calls.items ≡ calls_with found n.calls.items → IsStill (IsWaitingAlone (LooksAt o.touched)) o a u c
    still i calls =
        let thread-is : u ≡ with_calls b = is ∙ ap with_calls i.thread in
        record {
          thread = thread-is ∙ ap with_calls began;
          links = i.links;
          waits = subst (λ (y : Touches). IsWaitingAlone (LooksAt y) u c) was
              (subst (λ (t : Thread). IsWaitingAlone (LooksAt x) t c) (sym thread-is)
              (subst (λ (l : Links). IsWaitingAlone (LooksAt x) (with_calls b) l) (sym i.links)
              (waits_alone {Where = LooksAt x} found b a u (λ looks. looks) (calls ∙ ap (λ (t : Thread). calls_with found t.calls.items) i.thread) i.waits)));
        }

    go : (b : Bool) → (length a.entries == length c.entries) ≡ b → QuietsAlone o a u c (cond b Quiet (Moved (length c.entries - length a.entries)))
    go true same =
        let k : length a.entries ≡ length c.entries = eqb-true (length a.entries) (length c.entries) same in
        still (h (omega (arith, k))) (noted (e ∙ ap (λ b. cond b Quiet (Moved (length c.entries - length a.entries))) same))
    go false same = tt
