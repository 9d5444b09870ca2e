-- Answers that the rules take for the same are the same.
use Rattle.std.proofs.Common.{◌≡◌, ℕ, Bool, true, false, ◌&&◌, ◌==◌, List, [], ◌∷◌, Option, Some, None, refl, ◌∙◌, ap, ap₂, eqb-true}
use Rattle.std.specs.Bool.{beq}
use Rattle.std.specs.Cmp.Lexicographic.{pointwise}
use Rattle.std.proofs.lemmas.Bool.{and_parts}
use Rattle.bd_base.specs.declared.id.DevId.{DevId}
use Rattle.bd_base.specs.declared.id.HandleId.{HandleId}
use Rattle.bd_base.specs.declared.id.ReqId.{ReqId}
use Rattle.bd_base.specs.declared.id.ThreadId.{ThreadId}
use Rattle.bd_base.specs.declared.thread_set.ThreadSet.{ThreadSet}
use Rattle.bd_base.specs.declared.event.Answer.{Answer}
use Rattle.bd_base.specs.declared.event.Answer.TheVariants as answers
use Rattle.bd_base.specs.declared.event.Dropped.{Dropped}
use Rattle.bd_base.specs.declared.event.Dropped.TheVariants as dropped
use Rattle.bd_base.specs.declared.request.Decision.{Decision}
use Rattle.bd_base.specs.declared.request.Decision.TheVariants as decisions
use Rattle.bd_base.specs.declared.request.Errno.{Errno}
use Rattle.bd_base.specs.declared.request.Errno.TheVariants.{Perm, BadDesc, Busy, Exists, NoDev, Inval, NotSup}
use Rattle.bd_machine.specs.Same.{same_answer, same_decision, same_dev, same_dropped, same_errno, same_handle, same_holder, same_if_any, same_next_reset, same_threads}
use Rattle.bd_machine.proofs.Tables.{dev_exact, request_same}

-- a test of a pair that is never met
never : {P : Type 0} → false ≡ true → P
never h = absurd (let x : false ≡ true = h in cc)

bool_exact : (a b : Bool) → beq a b ≡ true → a ≡ b
bool_exact true true h = refl
bool_exact false false h = refl
bool_exact true false h = never h
bool_exact false true h = never h

handle_exact : (a b : HandleId) → same_handle a b ≡ true → a ≡ b
handle_exact a b h = ap (λ (n : ℕ). let x : HandleId = record { 0 = n } in x) (eqb-true a.0 b.0 h)

threads_exact : (a b : ThreadSet) → same_threads a b ≡ true → a ≡ b
threads_exact a b h = ap (λ (n : ℕ). let x : ThreadSet = record { 0 = n } in x) (eqb-true a.0 b.0 h)

holder_exact : (a b : HandleId × ThreadId) → same_holder a b ≡ true → a ≡ b
holder_exact a b h =
    let p = and_parts (same_handle a.0 b.0) (a.1.0 == b.1.0) h in
    ap₂ (λ (x : HandleId) (n : ℕ). let y : ThreadId = record { 0 = n } in let z : HandleId × ThreadId = (x, y) in z) (handle_exact a.0 b.0 p.0) (eqb-true a.1.0 b.1.0 p.1)

next_exact : (a b : ReqId × ThreadSet) → same_next_reset a b ≡ true → a ≡ b
next_exact a b h =
    let p = and_parts (a.0.thread == b.0.thread && (a.0.seq == b.0.seq)) (same_threads a.1 b.1) h in
    ap₂ (λ (x : ReqId) (y : ThreadSet). let z : ReqId × ThreadSet = (x, y) in z) (request_same.exact a.0 b.0 p.0) (threads_exact a.1 b.1 p.1)

if_any_exact : {X : Type 0} (same : X → X → Bool) → ((a b : X) → same a b ≡ true → a ≡ b) → (a b : Option X) → same_if_any same a b ≡ true → a ≡ b
if_any_exact same exact (Some a) (Some b) h = ap Some (exact a b h)
if_any_exact same exact None None h = refl
if_any_exact same exact (Some a) None h = never h
if_any_exact same exact None (Some b) h = never h

pointwise_exact : {X : Type 0} (same : X → X → Bool) → ((a b : X) → same a b ≡ true → a ≡ b) → (xs ys : List X) → pointwise same xs ys ≡ true → xs ≡ ys
pointwise_exact same exact [] [] h = refl
pointwise_exact same exact (x ∷ xs) (y ∷ ys) h =
    let p = and_parts (same x y) (pointwise same xs ys) h in
    ap₂ (λ a as'. a ∷ as') (exact x y p.0) (pointwise_exact same exact xs ys p.1)
pointwise_exact same exact (x ∷ xs) [] h = never h
pointwise_exact same exact [] (y ∷ ys) h = never h

dropped_exact : (a b : Dropped) → same_dropped a b ≡ true → a ≡ b
dropped_exact dropped.Kept dropped.Kept h = refl
dropped_exact dropped.Gone dropped.Gone h = refl
dropped_exact dropped.Last dropped.Last h = refl
dropped_exact _ _ h = never h

decision_exact : (a b : Decision) → same_decision a b ≡ true → a ≡ b
decision_exact decisions.Pass decisions.Pass h = refl
decision_exact decisions.Fail decisions.Fail h = refl
decision_exact decisions.Pend decisions.Pend h = refl
decision_exact decisions.Corrupt decisions.Corrupt h = refl
decision_exact _ _ h = never h

errno_exact : (a b : Errno) → same_errno a b ≡ true → a ≡ b
errno_exact Perm Perm h = refl
errno_exact BadDesc BadDesc h = refl
errno_exact Busy Busy h = refl
errno_exact Exists Exists h = refl
errno_exact NoDev NoDev h = refl
errno_exact Inval Inval h = refl
errno_exact NotSup NotSup h = refl
errno_exact _ _ h = never h

pub answer_exact : (a b : Answer) → same_answer a b ≡ true → a ≡ b
answer_exact (answers.Opened h d n) (answers.Opened h' d' n') e =
    let p = and_parts (same_handle h h' && same_dev d d') (n == n') e in
    let q = and_parts (same_handle h h') (same_dev d d') p.0 in
    ap₂ (λ (x : HandleId) (y : DevId). answers.Opened x y n) (handle_exact h h' q.0) (dev_exact d d' q.1) ∙ ap (answers.Opened h' d') (eqb-true n n' p.1)
answer_exact (answers.Closed d) (answers.Closed d') e = ap answers.Closed (if_any_exact same_dev dev_exact d d' e)
answer_exact answers.Claimed answers.Claimed e = refl
answer_exact (answers.Got f ds) (answers.Got f' ds') e =
    let p = and_parts (beq f f') (pointwise same_dev ds ds') e in
    ap₂ answers.Got (bool_exact f f' p.0) (pointwise_exact same_dev dev_exact ds ds' p.1)
answer_exact (answers.PutDown n) (answers.PutDown n') e = ap answers.PutDown (eqb-true n n' e)
answer_exact (answers.Dropped w z d) (answers.Dropped w' z' d') e =
    let p = and_parts (same_dropped w w' && same_if_any same_dev z z') (same_if_any same_dev d d') e in
    let q = and_parts (same_dropped w w') (same_if_any same_dev z z') p.0 in
    ap (λ (x : Dropped). answers.Dropped x z d) (dropped_exact w w' q.0)
    ∙ ap₂ (λ (x y : Option DevId). answers.Dropped w' x y) (if_any_exact same_dev dev_exact z z' q.1) (if_any_exact same_dev dev_exact d d' p.1)
answer_exact (answers.Removing v ts hs d) (answers.Removing v' ts' hs' d') e =
    let p = and_parts (same_dev v v' && same_threads ts ts' && pointwise same_holder hs hs') (same_if_any same_dev d d') e in
    let q = and_parts (same_dev v v' && same_threads ts ts') (pointwise same_holder hs hs') p.0 in
    let r = and_parts (same_dev v v') (same_threads ts ts') q.0 in
    ap₂ (λ (x : DevId) (y : ThreadSet). answers.Removing x y hs d) (dev_exact v v' r.0) (threads_exact ts ts' r.1)
    ∙ ap₂ (λ (x : List (HandleId × ThreadId)) (y : Option DevId). answers.Removing v' ts' x y) (pointwise_exact same_holder holder_exact hs hs' q.1) (if_any_exact same_dev dev_exact d d' p.1)
answer_exact (answers.ResetStarted ts) (answers.ResetStarted ts') e = ap answers.ResetStarted (threads_exact ts ts' e)
answer_exact answers.ResetQueued answers.ResetQueued e = refl
answer_exact (answers.ResetEnded ts) (answers.ResetEnded ts') e = ap answers.ResetEnded (threads_exact ts ts' e)
answer_exact (answers.ResetFinished n) (answers.ResetFinished n') e = ap answers.ResetFinished (if_any_exact same_next_reset next_exact n n' e)
answer_exact (answers.Injected d) (answers.Injected d') e = ap answers.Injected (decision_exact d d' e)
answer_exact (answers.Freed h) (answers.Freed h') e = ap answers.Freed (if_any_exact same_handle handle_exact h h' e)
answer_exact (answers.Resizing d t) (answers.Resizing d' t') e =
    let p = and_parts (same_dev d d') (t.0 == t'.0) e in
    ap₂ (λ (x : DevId) (n : ℕ). let y : ThreadId = record { 0 = n } in answers.Resizing x y) (dev_exact d d' p.0) (eqb-true t.0 t'.0 p.1)
answer_exact (answers.Resized hs n d) (answers.Resized hs' n' d') e =
    let p = and_parts (pointwise same_holder hs hs' && (n == n')) (same_if_any same_dev d d') e in
    let q = and_parts (pointwise same_holder hs hs') (n == n') p.0 in
    ap₂ (λ (x : List (HandleId × ThreadId)) (y : ℕ). answers.Resized x y d) (pointwise_exact same_holder holder_exact hs hs' q.0) (eqb-true n n' q.1)
    ∙ ap (answers.Resized hs' n') (if_any_exact same_dev dev_exact d d' p.1)
answer_exact (answers.Refused a) (answers.Refused b) e = ap answers.Refused (errno_exact a b e)
answer_exact _ _ e = never e
