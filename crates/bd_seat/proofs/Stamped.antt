-- Acts that are appended at once: they are those of the entries, with the stamps after the last one, and none of them asks the registry.
use Rattle.std.proofs.Common.{◌≡◌, ℕ, ◌+◌, Bool, cond, List, [], ◌∷◌, ◌++◌, length, refl, ◌∙◌, ap, arith}
use Rattle.bd_base.specs.declared.act.Entry.{Entry}
use Rattle.bd_log.specs.Log.{Written, stamped}
use Rattle.bd_law_logs.specs.Journals.{events}
use Rattle.bd_law_threads.specs.Course.{acts_of, restamped}
use Rattle.bd_seat.specs.Taking.{AppendsAlone}
use Rattle.bd_seat.proofs.TakenOver.{none_first}

stamped_is : (thread last : ℕ) (es : List Entry) → stamped thread last es ≡ restamped thread last (acts_of es)
stamped_is thread last [] = refl
stamped_is thread last (e ∷ es) = ap (λ (xs : List Entry). record { stamp = last + 1; thread = thread; act = e.act } ∷ xs) (stamped_is thread (last + 1) es)

count_is : (thread last : ℕ) (es : List Entry) → length (restamped thread last (acts_of es)) ≡ length es
count_is thread last [] = refl
count_is thread last (e ∷ es) = let rest : length (restamped thread (last + 1) (acts_of es)) ≡ length es = count_is thread (last + 1) es in omega arith

none_stamped : (thread last : ℕ) (es : List Entry) → events es ≡ [] → events (restamped thread last (acts_of es)) ≡ []
none_stamped thread last [] none = refl
none_stamped thread last (e ∷ es) none =
    let x : Entry = record { stamp = last + 1; thread = thread; act = e.act } in
    ap (λ (b : Bool). cond b (x ∷ events (restamped thread (last + 1) (acts_of es))) (events (restamped thread (last + 1) (acts_of es)))) (none_first e es none).0
    ∙ none_stamped thread (last + 1) es (none_first e es none).1

pub alone_all : (log log' : Written) (es : List Entry)
    → events es ≡ []
    → log'.entries ≡ log.entries ++ stamped log.thread log.last es
    → log'.last ≡ log.last + length es
    → log'.thread ≡ log.thread
    → AppendsAlone log (restamped log.thread log.last (acts_of es)) log'
alone_all log log' es none entries last thread =
    let count : length (restamped log.thread log.last (acts_of es)) ≡ length es = count_is log.thread log.last es in
    record {
      log_is = record { thread = thread; entries = entries ∙ ap (λ (xs : List Entry). log.entries ++ xs) (stamped_is log.thread log.last es); last = omega (arith, count, last) };
      none_asks = none_stamped log.thread log.last es none;
    }
