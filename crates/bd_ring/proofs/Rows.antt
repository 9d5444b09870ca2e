-- A thread writes its next row.
use Rattle.std.proofs.Common.{◌≡◌, ℕ, ◌+◌, List, [], ◌∷◌, ◌++◌, length, drop, refl, ap, ◌∙◌, add-one}
use Rattle.std.proofs.lemmas.List.Elements.{All-cons, All-nil}
use Rattle.std.proofs.lemmas.List.{drop_at}
use Rattle.bd_base.specs.declared.act.Entry.{Entry}
use Rattle.bd_ring.specs.SlotRule.{AddsOwn}
use Rattle.bd_ring.specs.Counting.{row_at, first_rows}

pub adds_one : (thread : ℕ) (seen journal : List Entry) (row : Entry) → journal ≡ seen ++ row ∷ [] → row.thread ≡ thread → AddsOwn thread seen journal
adds_one thread seen journal row is own = (row ∷ [], is, All-cons (λ (r : Entry). r.thread ≡ thread) row [] own (All-nil (λ (r : Entry). r.thread ≡ thread)))

pub wrote_one : (wrote seen journal : List Entry) (row : Entry) (thread n : ℕ) → journal ≡ seen ++ row ∷ [] → row ≡ row_at thread n → wrote ≡ first_rows thread n → wrote ++ drop (length seen) journal ≡ first_rows thread (n + 1)
wrote_one wrote seen journal row thread n is own h =
    rw add-one ((λ i. h i ++ (ap (drop (length seen)) is ∙ drop_at seen (row ∷ []) (length seen) refl ∙ ap (λ r. r ∷ []) own) i))
