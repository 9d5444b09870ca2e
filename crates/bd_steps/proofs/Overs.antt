-- The open requests that a mark of a device may stop.
use Rattle.std.proofs.Common.{◌≡◌, Bool, true, false, cond, ◌||◌, List, [], ◌∷◌, ◌++◌, filter, map, refl, sym, ◌∙◌, ap, append_assoc, append-nil}
use Rattle.std.specs.List.{list_any}
use Rattle.bd_base.specs.declared.id.DevId.{DevId}
use Rattle.bd_base.specs.declared.id.ReqId.{ReqId}
use Rattle.bd_base.specs.declared.setup.Setup.{Setup}
use Rattle.bd_machine.specs.declared.state.Open.{Open}
use Rattle.bd_machine.specs.Walks.{is_kept_waiting}
use Rattle.bd_steps.specs.Stopping.{open_over}

-- the first and then the others
over_first : (setup : Setup) (dev : DevId) (o : Open) (os : List Open) → open_over setup dev (o ∷ os) ≡ open_over setup dev (o ∷ []) ++ open_over setup dev os
over_first setup dev o os = go (is_kept_waiting setup dev o)
  where
    go : (b : Bool) → map (λ (x : Open). x.id) (cond b (o ∷ filter (is_kept_waiting setup dev) os) (filter (is_kept_waiting setup dev) os)) ≡ map (λ (x : Open). x.id) (cond b (o ∷ []) []) ++ open_over setup dev os
    go true = refl
    go false = refl

-- one more is added
pub over_on : (setup : Setup) (dev : DevId) (o : Open) (left next : List Open) (ids now total : List ReqId) → left ≡ o ∷ next → now ≡ ids ++ open_over setup dev (o ∷ []) → ids ++ open_over setup dev left ≡ total
    → now ++ open_over setup dev next ≡ total
over_on setup dev o left next ids now total at added h =
    ap (λ (xs : List ReqId). xs ++ open_over setup dev next) added
    ∙ append_assoc ids (open_over setup dev (o ∷ [])) (open_over setup dev next)
    ∙ ap (λ (xs : List ReqId). ids ++ xs) (sym (over_first setup dev o next) ∙ sym (ap (open_over setup dev) at))
    ∙ h

-- none is there
pub over_none : (setup : Setup) (dev : DevId) (os : List Open) → list_any (is_kept_waiting setup dev) os ≡ false → open_over setup dev os ≡ []
over_none setup dev [] h = refl
over_none setup dev (o ∷ os) h = go (is_kept_waiting setup dev o) h (over_none setup dev os)
  where
    go : (b : Bool) → b || list_any (is_kept_waiting setup dev) os ≡ false → (list_any (is_kept_waiting setup dev) os ≡ false → open_over setup dev os ≡ [])
        → map (λ (x : Open). x.id) (cond b (o ∷ filter (is_kept_waiting setup dev) os) (filter (is_kept_waiting setup dev) os)) ≡ []
    go true k rest = cc
    go false k rest = rest k

pub over_nothing : (setup : Setup) (dev : DevId) (os : List Open) (ids : List ReqId) → list_any (is_kept_waiting setup dev) os ≡ false → ids ≡ ids ++ open_over setup dev os
over_nothing setup dev os ids h = sym (append-nil ids) ∙ ap (λ (xs : List ReqId). ids ++ xs) (sym (over_none setup dev os h))

-- one that is over the device, and one that isn't
pub over_one : (setup : Setup) (dev : DevId) (o : Open) (ids : List ReqId) → is_kept_waiting setup dev o ≡ true → ids ++ o.id ∷ [] ≡ ids ++ open_over setup dev (o ∷ [])
over_one setup dev o ids h = ap (λ (b : Bool). ids ++ map (λ (x : Open). x.id) (cond b (o ∷ []) [])) (sym h)

pub over_other : (setup : Setup) (dev : DevId) (o : Open) (ids : List ReqId) → is_kept_waiting setup dev o ≡ false → ids ≡ ids ++ open_over setup dev (o ∷ [])
over_other setup dev o ids h = sym (append-nil ids) ∙ ap (λ (b : Bool). ids ++ map (λ (x : Open). x.id) (cond b (o ∷ []) [])) (sym h)
