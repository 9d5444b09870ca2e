-- Why a push is refused.
use Rattle.std.proofs.Common.{◌≡◌, ◌≢◌, ℕ, Result, Err, sym, ◌∙◌}
use Rattle.bd_log.specs.declared.log.LogError.{LogError}
use Rattle.bd_log.specs.declared.log.LogError.TheVariants.{OutOfMemory, StampsSpent}

-- where the last stamp is the greatest number, that is why
pub not_spent : (last : ℕ) (r : Result ℕ LogError) → r ≡ Err OutOfMemory
    → (last ≡ 340282366920938463463374607431768211455 → r ≡ Err (StampsSpent 340282366920938463463374607431768211455))
    → last ≢ 340282366920938463463374607431768211455
not_spent last r memory spent = λ at. clash (sym memory ∙ spent at)
  where
    clash : {n : ℕ} → (let l : Result ℕ LogError = Err OutOfMemory in l) ≡ Err (StampsSpent n) → ⊥
    clash h = cc
