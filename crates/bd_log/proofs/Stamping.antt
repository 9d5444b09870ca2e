-- Entries with the stamps after the last one: one more of a list, and all of them in a log.
use Rattle.std.proofs.Common.{◌≡◌, ℕ, zero, suc, ◌+◌, ◌<◌, List, [], ◌∷◌, ◌++◌, length, take, drop, slice_index_or, slice_set, refl, sym, ◌∙◌, ap, subst, append_assoc, append-nil, arith}
use Rattle.std.proofs.lemmas.List.{get_or_default}
use Rattle.bd_base.specs.declared.act.Act.{Act}
use Rattle.bd_base.specs.declared.act.Entry.{Entry}
use Rattle.bd_log.specs.Log.{stamped, IsLog}
use Rattle.bd_log.proofs.Parts.{log_push}

abbrev entry : ℕ → ℕ → Act → Entry
entry stamp thread act = record { stamp = stamp; thread = thread; act = act }

of_parts : (e : Entry) (stamp thread : ℕ) (act : Act) → e.stamp ≡ stamp → e.thread ≡ thread → e.act ≡ act → e ≡ entry stamp thread act
of_parts e stamp thread act at own same =
    ap (λ (n : ℕ). entry n e.thread e.act) at ∙ ap (λ (t : ℕ). entry stamp t e.act) own ∙ ap (λ (a : Act). entry stamp thread a) same

-- the first n have their stamps, and now one more
more : (thread last : ℕ) (xs : List Entry) (n : ℕ) (x : Entry) → n < length xs → x.stamp ≡ last + n + 1 → x.thread ≡ thread → x.act ≡ (slice_index_or xs n x).act
    → slice_set (stamped thread last (take n xs) ++ drop n xs) n x ≡ stamped thread last (take (n + 1) xs) ++ drop (n + 1) xs
more thread last [] n x lt stamp own act = absurd (omega arith)
more thread last (y ∷ ys) zero x lt stamp own act = ap (λ (e : Entry). e ∷ ys) (of_parts x (last + 1) thread y.act (omega arith) own act)
more thread last (y ∷ ys) (suc n) x lt stamp own act =
    let is : suc (n + 1) ≡ suc n + 1 = omega arith in
    subst (λ (m : ℕ). slice_set (stamped thread last (take (suc n) (y ∷ ys)) ++ drop (suc n) (y ∷ ys)) (suc n) x ≡ stamped thread last (take m (y ∷ ys)) ++ drop m (y ∷ ys)) is
    (ap (λ (es : List Entry). entry (last + 1) thread y.act ∷ es) (more thread (last + 1) ys n x (omega arith) (omega arith) own act))

-- the next one is as it was
next_is : (thread last : ℕ) (xs : List Entry) (n : ℕ) (d : Entry) → n < length xs → slice_index_or (stamped thread last (take n xs) ++ drop n xs) n d ≡ slice_index_or xs n d
next_is thread last [] n d lt = absurd (omega arith)
next_is thread last (y ∷ ys) zero d lt = refl
next_is thread last (y ∷ ys) (suc n) d lt = next_is thread (last + 1) ys n d (omega arith)

pub stamped_more : (thread last : ℕ) (xs es : List Entry) (n : ℕ) (x d : Entry)
    → n < length xs
    → es ≡ stamped thread last (take n xs) ++ drop n xs
    → x.stamp ≡ last + n + 1
    → x.thread ≡ thread
    → x.act ≡ (slice_index_or es n d).act
    → slice_set es n x ≡ stamped thread last (take (n + 1) xs) ++ drop (n + 1) xs
stamped_more thread last xs es n x d lt is stamp own act =
    ap (λ (l : List Entry). slice_set l n x) is
    ∙ more thread last xs n x lt stamp own
    (act ∙ ap (λ (e : Entry). e.act) (ap (λ (l : List Entry). slice_index_or l n d) is ∙ next_is thread last xs n d lt ∙ get_or_default xs n d x lt))

-- a log with all of them
pub log_all : (thread last last' : ℕ) (xs ys : List Entry) → IsLog thread last xs → last' ≡ last + length ys → IsLog thread last' (xs ++ stamped thread last ys)
log_all thread last last' xs [] h is =
    let same : last ≡ last' = omega arith in
    subst (λ (n : ℕ). IsLog thread n (xs ++ [])) same (subst (λ (es : List Entry). IsLog thread last es) (sym (append-nil xs)) h)
log_all thread last last' xs (y ∷ ys) h is =
    let e : Entry = record { stamp = last + 1; thread = thread; act = y.act } in
    subst (λ (es : List Entry). IsLog thread last' es) (append_assoc xs (e ∷ []) (stamped thread (last + 1) ys))
    (log_all thread (last + 1) last' (xs ++ e ∷ []) ys (log_push thread last xs e h refl refl) (omega arith))
