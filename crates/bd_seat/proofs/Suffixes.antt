-- A journal, after its first rows.
use Rattle.std.proofs.Common.{◌≡◌, ℕ, zero, suc, ◌-◌, List, [], ◌∷◌, length, take, drop, refl, sym, ◌∙◌, ap}
use Rattle.std.proofs.Math.Seq.{take-length}
use Rattle.std.proofs.lemmas.List.{length-drop}
use Rattle.bd_base.specs.declared.act.Entry.{Entry}
use Rattle.bd_base.specs.declared.setup.Setup.{Setup}
use Rattle.bd_machine.specs.declared.state.Registry.{Registry}
use Rattle.bd_law_logs.specs.Journals.{registry_by, registry_next, IsReplay}

-- the rows after the first are a replay from what those leave
pub replay_after : (setup : Setup) (r : Registry) (n : ℕ) (es : List Entry) → IsReplay setup r es → IsReplay setup (registry_by setup r (take n es)) (drop n es)
replay_after setup r zero es h = h
replay_after setup r (suc n) [] h = h
replay_after setup r (suc n) (e ∷ es) h = replay_after setup (registry_next setup r e) n es h.1

-- and leave then what all rows leave
pub by_after : (setup : Setup) (r : Registry) (n : ℕ) (es : List Entry) → registry_by setup (registry_by setup r (take n es)) (drop n es) ≡ registry_by setup r es
by_after setup r zero es = refl
by_after setup r (suc n) [] = refl
by_after setup r (suc n) (e ∷ es) = by_after setup (registry_next setup r e) n es

-- as many rows as there are after the first are all of these
pub whole_after : (n : ℕ) (es : List Entry) → take (length es - n) (drop n es) ≡ drop n es
whole_after n es = ap (λ (k : ℕ). take k (drop n es)) (sym (length-drop n es)) ∙ take-length (drop n es)
