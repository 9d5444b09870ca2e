-- Of the causes of one configuration that is refused there is one.
use Rattle.std.proofs.Common.{◌≡◌, ℕ, ◌+◌, ◌⊎◌, inl, inr, Bool, true, false, List, [], ◌∷◌, Option, None, Some, refl, sym, ◌∙◌, ap, subst}
use Rattle.std.specs.Prelude.{ℤ, ◌&&◌, if◌then◌else◌, Result, Ok, Err}
use Rattle.std.specs.List.{list_all}
use Rattle.serde_json.specs.Data.{Data}
use Rattle.bd_base.specs.Errno.{number_of}
use Rattle.bd_base.specs.declared.request.Errno.{Errno}
use Rattle.bd_config.specs.Commands.{minus}
use Rattle.bd_config.specs.Config.{IsJson, IsShapeError, IsMethodError, HasShape, first_outside, shape_fault, first_refused, answers_of}
use Rattle.bd_config.specs.Shape.{subsystems_of, is_subsystem}
use Rattle.bd_config.proofs.Exact.{config_once, config_has_shape, config_has_commands}
use Rattle.bd_config.specs.declared.command.Command.{Command}
use Rattle.bd_outside.specs.File.{Told}
use Rattle.bd_top.specs.declared.configure.ConfigureError.{ConfigureError}
use Rattle.bd_top.specs.declared.configure.ConfigureError.TheVariants.{OutOfMemory, Text, Shape, Method}
use Rattle.bd_top.specs.Configure.{CauseBy, IsRefused, IsRefusedAnyhow, IsUndone}

-- the same index and the same code
abbrev Same : ℕ → ℤ → ℕ → ℤ → Type 0
Same i c j d = ◌≡◌ {A = ℕ × ℤ} (i, c) (j, d)

-- ---- one value, one first place

abbrev some_or : {X : Type 0} → X → Option X → X
some_or other None = other
some_or other (Some x) = x

one_of : {X : Type 0} (o : Option X) (x y : X) → o ≡ Some x → o ≡ Some y → x ≡ y
one_of o x y p q = ap (some_or x) (sym p ∙ q)

same_value : (bytes : List ℕ) (v w : Data) → IsJson bytes v → IsJson bytes w → v ≡ w
same_value bytes v w a b = one_of _ v w a.reads b.reads

shape_once : (bytes : List ℕ) (m n : ℕ) → IsShapeError bytes m → IsShapeError bytes n → m ≡ n
shape_once bytes m n p q = one_of _ m n p.first (ap (λ v. shape_fault (subsystems_of v)) (same_value bytes _ _ p.json q.json) ∙ q.first)

same_subsystems : (v w : Data) (a b : List Data) → v ≡ w → HasShape v a → HasShape w b → a ≡ b
same_subsystems v w a b e p q = one_of _ a b p.found (ap subsystems_of e ∙ q.found)

method_once : (bytes : List ℕ) (i j : ℕ) (c d : ℤ) → IsMethodError bytes i c → IsMethodError bytes j d → Same i c j d
method_once bytes i j c d p q =
    let e : p.refuses.subsystems ≡ q.refuses.subsystems = same_subsystems _ _ _ _ (same_value bytes _ _ p.json q.json) p.refuses.shape q.refuses.shape in
    one_of _ (i, c) (j, d) p.refuses.first (ap (λ s. first_refused 0 (answers_of s)) e ∙ q.refuses.first)

inside : (place : ℕ) (ds : List Data) → list_all is_subsystem ds ≡ true → first_outside place ds ≡ None
inside place [] e = refl
inside place (d ∷ ds) e = go (is_subsystem d) (inside (place + 1) ds) e where
  go : (b : Bool) → (list_all is_subsystem ds ≡ true → first_outside (place + 1) ds ≡ None) → (b && list_all is_subsystem ds) ≡ true → (if b then first_outside (place + 1) ds else Some place) ≡ None
  go true rest h = rest h
  go false rest h = absurd (cc)

none_is_some : {X : Type 0} (o : Option X) (x : X) → o ≡ None → o ≡ Some x → ⊥
none_is_some o x none some =
    let both : None ≡ Some x = sym none ∙ some in
    absurd (cc)

shape_or_method : (bytes : List ℕ) (n i : ℕ) (c : ℤ) → IsShapeError bytes n → IsMethodError bytes i c → ⊥
shape_or_method bytes n i c p q =
    let found : subsystems_of p.value ≡ Some q.refuses.subsystems = ap subsystems_of (same_value bytes _ _ p.json q.json) ∙ q.refuses.shape.found in
    none_is_some (shape_fault (subsystems_of p.value)) n (ap shape_fault found ∙ inside 1 q.refuses.subsystems q.refuses.shape.each) p.first

-- ---- one command that isn't done

ok_is_err : {X Y : Type 0} (r : Result X Y) (x : X) (y : Y) → r ≡ Ok x → r ≡ Err y → ⊥
ok_is_err {X = X} {Y = Y} r x y ok err =
    let both : ◌≡◌ {A = Result X Y} (Ok x) (Err y) = sym ok ∙ err in
    absurd (cc)

abbrev err_or : {X Y : Type 0} → Y → Result X Y → Y
err_or other (Ok x) = other
err_or other (Err y) = y

one_err : {X Y : Type 0} (r : Result X Y) (y z : Y) → r ≡ Err y → r ≡ Err z → y ≡ z
one_err r y z p q = ap (err_or y) (sym p ∙ q)

json_of : (Refused : List Command → ℕ → ℤ → Type 0) (bytes : List ℕ) (i : ℕ) (c : ℤ) → CauseBy Refused bytes (Method i c) → (value : Data) × IsJson bytes value
json_of Refused bytes i c (inl p) = (p.value, p.json)
json_of Refused bytes i c (inr p) = (p.asks.value, p.asks.json)

no_shape : (Refused : List Command → ℕ → ℤ → Type 0) (bytes : List ℕ) (n i : ℕ) (c : ℤ) → IsShapeError bytes n → CauseBy Refused bytes (Method i c) → ⊥
no_shape Refused bytes n i c p (inl q) = shape_or_method bytes n i c p q
no_shape Refused bytes n i c p (inr q) = config_has_shape bytes q.commands n q.asks p

-- two refusals of one list of commands are one, whatever blocks its disks have in the one of them
pub refused_once : (threads : ℕ) (told : List ℕ → Told) (commands : List Command) (i j : ℕ) (c d : ℤ) → IsRefusedAnyhow threads told commands i c → IsRefused threads told commands j d → Same i c j d
refused_once threads told commands i j c d p q =
    let same : ◌≡◌ {A = ℕ × Errno} (i, p.errno) (j, q.errno) = one_err _ (i, p.errno) (j, q.errno) (p.first q.disks q.may) q.first in
    let index : i ≡ j = ap (λ (r : ℕ × Errno). r.0) same in
    let code : c ≡ d = p.is ∙ ap (λ (r : ℕ × Errno). minus (number_of r.1)) same ∙ sym q.is in
    cc

module _ (P Q : List Command → ℕ → ℤ → Type 0) (once : (commands : List Command) (i j : ℕ) (c d : ℤ) → P commands i c → Q commands j d → Same i c j d) where
  undone_once : (bytes : List ℕ) (i j : ℕ) (c d : ℤ) → IsUndone P bytes i c → IsUndone Q bytes j d → Same i c j d
  undone_once bytes i j c d p q =
      let R : List Command → Type 0 = λ commands. Q commands j d in
      once p.commands i j c d p.why (subst R (config_once bytes q.commands p.commands q.asks p.asks) q.why)

  -- ---- one cause

  same_method : (i j : ℕ) (c d : ℤ) → Same i c j d → Method i c ≡ Method j d
  same_method i j c d e = ap (λ (r : ℕ × ℤ). Method r.0 r.1) e

  method_cause_once : (bytes : List ℕ) (i j : ℕ) (c d : ℤ) → CauseBy P bytes (Method i c) → CauseBy Q bytes (Method j d) → Same i c j d
  method_cause_once bytes i j c d (inl p) (inl q) = method_once bytes i j c d p q
  method_cause_once bytes i j c d (inl p) (inr q) = absurd (config_has_commands bytes q.commands i c q.asks p)
  method_cause_once bytes i j c d (inr p) (inl q) = absurd (config_has_commands bytes p.commands j d p.asks q)
  method_cause_once bytes i j c d (inr p) (inr q) = undone_once bytes i j c d p q

  -- two causes of one configuration are one, but for want of memory
  pub one_cause : (bytes : List ℕ) (a b : ConfigureError) → CauseBy P bytes a → CauseBy Q bytes b → (a ≡ b) ⊎ ((a ≡ OutOfMemory) ⊎ (b ≡ OutOfMemory))
  one_cause bytes OutOfMemory b p q = inr (inl refl)
  one_cause bytes Text OutOfMemory p q = inr (inr refl)
  one_cause bytes Text Text p q = inl refl
  one_cause bytes Text (Shape n) p q = absurd (p q.value q.json)
  one_cause bytes Text (Method i c) p q = let json = json_of Q bytes i c q in absurd (p json.0 json.1)
  one_cause bytes (Shape m) OutOfMemory p q = inr (inr refl)
  one_cause bytes (Shape m) Text p q = absurd (q p.value p.json)
  one_cause bytes (Shape m) (Shape n) p q = inl (ap Shape (shape_once bytes m n p q))
  one_cause bytes (Shape m) (Method i c) p q = absurd (no_shape Q bytes m i c p q)
  one_cause bytes (Method i c) OutOfMemory p q = inr (inr refl)
  one_cause bytes (Method i c) Text p q = let json = json_of P bytes i c p in absurd (q json.0 json.1)
  one_cause bytes (Method i c) (Shape n) p q = absurd (no_shape P bytes n i c q p)
  one_cause bytes (Method i c) (Method j d) p q = inl (same_method i j c d (method_cause_once bytes i j c d p q))
