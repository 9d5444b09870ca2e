-- One command that waits, against the definition of all of them.
use Rattle.std.proofs.Common.{◌≡◌, ◌∙◌, ℕ, zero, suc, ◌<◌, length, Option, Some, ap, refl, arith}
use Rattle.std.specs.Prelude.{Err, slice_get}
use Rattle.bd_base.specs.declared.request.Errno.{Errno}
use Rattle.bd_building.specs.Progress.{Outcome, Progress, ready, resumed, resumed_at, settled, settled_within, then_on}

-- what is ready is done, and then the rest is settled
settles : (n : ℕ) (progress : Progress) (place : ℕ) → ready progress ≡ Some place → length progress.waiting ≡ suc n → settled progress ≡ then_on (resumed progress place (slice_get progress.waiting place)) (settled_within n)
settles n progress place is_ready more =
    ap (λ (k : ℕ). settled_within k progress) more ∙ ap (λ (o : Option ℕ). resumed_at (settled_within n) progress o) is_ready

-- what is ready is refused, and so is the whole
pub settles_refused : (progress : Progress) (refusal : ℕ × Errno) (place : ℕ) → ready progress ≡ Some place → place < length progress.waiting → resumed progress place (slice_get progress.waiting place) ≡ Err refusal → settled progress ≡ Err refusal
settles_refused progress refusal place is_ready within refused = go (length progress.waiting) refl within where
  go : (n : ℕ) → length progress.waiting ≡ n → place < n → settled progress ≡ Err refusal
  go zero is below = absurd (omega arith)
  go (suc n) is below = settles n progress place is_ready is ∙ ap (λ (o : Outcome). then_on o (settled_within n)) refused
