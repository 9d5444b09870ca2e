-- One text has one meaning: what is in the form is read, and isn't refused.
use Rattle.std.proofs.Common.{◌≡◌, ℕ, ◌+◌, true, false, List, [], ◌∷◌, Bool, Option, None, Some, refl, ap, sym, subst, ◌∙◌}
use Rattle.std.specs.Prelude.{ℤ, ◌&&◌, if◌then◌else◌, map, Result, Ok, Err, IfOk, IsErrOf, MatchResult}
use Rattle.std.specs.List.{list_all}
use Rattle.std.proofs.lemmas.Option.{none-some}
use Rattle.serde_json.specs.Data.{Data}
use Rattle.bd_config.specs.Shape.{subsystems_of, is_subsystem}
use Rattle.bd_config.specs.Config.{IsJson, HasShape, first_outside, shape_fault, IsShapeError, answers_of, AsksFor, IsConfig, first_refused, Refuses, IsMethodError}
use Rattle.bd_config.specs.declared.command.Command.{Command}
use Rattle.bd_config.specs.declared.config.ConfigError.{ConfigError}
use Rattle.bd_config.specs.declared.config.ConfigError.TheVariants.{OutOfMemory, Text, Shape, Method}
use Rattle.bd_config.proofs.CommandLemmas.{none_refused, commands_same}

abbrev some_or : {X : Type 0} → X → Option X → X
some_or other None = other
some_or other (Some x) = x

some_same : {X : Type 0} (x y : X) → Some x ≡ Some y → x ≡ y
some_same x y e = ap (some_or x) e

same_value : (bytes : List ℕ) (v w : Data) → IsJson bytes v → IsJson bytes w → v ≡ w
same_value bytes v w a b = some_same v w (sym a.reads ∙ b.reads)

same_subsystems : (value : Data) (a b : List Data) → HasShape value a → HasShape value b → a ≡ b
same_subsystems value a b p q = some_same a b (sym p.found ∙ q.found)

true_not_false : true ≡ false → ⊥
true_not_false e = cc

-- none is outside exactly where each is a subsystem
pub each_inside : (place : ℕ) (ds : List Data) → first_outside place ds ≡ None → list_all is_subsystem ds ≡ true
each_inside place [] e = refl
each_inside place (d ∷ ds) e = go (is_subsystem d) (each_inside (place + 1) ds) e where
  go : (b : Bool) → (first_outside (place + 1) ds ≡ None → list_all is_subsystem ds ≡ true) → (if b then first_outside (place + 1) ds else Some place) ≡ None → (b && list_all is_subsystem ds) ≡ true
  go true rest inside = rest inside
  go false rest inside = absurd (none-some place (sym inside))

none_outside : (place : ℕ) (ds : List Data) → list_all is_subsystem ds ≡ true → first_outside place ds ≡ None
none_outside place [] e = refl
none_outside place (d ∷ ds) e = go (is_subsystem d) (none_outside (place + 1) ds) e where
  go : (b : Bool) → (list_all is_subsystem ds ≡ true → first_outside (place + 1) ds ≡ None) → (b && list_all is_subsystem ds) ≡ true → (if b then first_outside (place + 1) ds else Some place) ≡ None
  go true rest inside = rest inside
  go false rest inside = absurd (true_not_false (sym inside))

pub config_once : (bytes : List ℕ) (a b : List Command) → IsConfig bytes a → IsConfig bytes b → a ≡ b
config_once bytes a b p q =
    let asks : AsksFor p.value b = subst (λ v. AsksFor v b) (same_value bytes _ _ q.json p.json) q.asks in
    let e : answers_of p.asks.subsystems ≡ answers_of asks.subsystems = ap answers_of (same_subsystems p.value _ _ p.asks.shape asks.shape) in
    commands_same a b (sym p.asks.each ∙ e ∙ asks.each)

pub config_has_shape : (bytes : List ℕ) (commands : List Command) (place : ℕ) → IsConfig bytes commands → IsShapeError bytes place → ⊥
config_has_shape bytes commands place p q =
    let e : subsystems_of q.value ≡ Some p.asks.subsystems = ap subsystems_of (same_value bytes _ _ q.json p.json) ∙ p.asks.shape.found in
    none-some place (sym (none_outside 1 p.asks.subsystems p.asks.shape.each) ∙ sym (ap shape_fault e) ∙ q.first)

pub config_has_commands : (bytes : List ℕ) (commands : List Command) (index : ℕ) (code : ℤ) → IsConfig bytes commands → IsMethodError bytes index code → ⊥
config_has_commands bytes commands index code p q =
    let refuses : Refuses p.value index code = subst (λ v. Refuses v index code) (same_value bytes _ _ q.json p.json) q.refuses in
    let e : answers_of p.asks.subsystems ≡ answers_of refuses.subsystems = ap answers_of (same_subsystems p.value _ _ p.asks.shape refuses.shape) in
    none-some (index, code) (sym (none_refused 0 commands) ∙ ap (first_refused 0) (sym p.asks.each ∙ e) ∙ refuses.first)

-- commands that the answers give make the value a configuration that asks for them
pub asks_if_read : {V : Type 0} (items : V → List Command) (r : Result V ConfigError) (value : Data) (subsystems : List Data) → HasShape value subsystems → IfOk r (λ v. answers_of subsystems ≡ map Ok (items v)) → IfOk r (λ v. AsksFor value (items v))
asks_if_read items (Ok v) value subsystems shape each = record { subsystems = subsystems; shape = shape; each = each }
asks_if_read items (Err fault) value subsystems shape each = tt

-- whatever is read of a configuration is what it asks for, and only memory can be wanting
pub reads_what_is_asked : {V : Type 0} (items : V → List Command) (bytes : List ℕ) (r : Result V ConfigError) (value : Data) → IsJson bytes value → IfOk r (λ v. AsksFor value (items v)) → ¬ IsErrOf r Text → ((place : ℕ) → IsErrOf r (Shape place) → shape_fault (subsystems_of value) ≡ Some place) → ((index : ℕ) (code : ℤ) → IsErrOf r (Method index code) → Refuses value index code) → (asked : List Command) → IsConfig bytes asked → MatchResult r (λ v. items v ≡ asked) (λ fault. fault ≡ OutOfMemory)
reads_what_is_asked items bytes (Ok v) value json ok text shape method asked config = config_once bytes (items v) asked (record { value = value; json = json; asks = ok }) config
reads_what_is_asked items bytes (Err OutOfMemory) value json ok text shape method asked config = refl
reads_what_is_asked items bytes (Err Text) value json ok text shape method asked config = absurd (text refl)
reads_what_is_asked items bytes (Err (Shape place)) value json ok text shape method asked config =
    absurd (config_has_shape bytes asked place config (record { value = value; json = json; first = shape place refl }))
reads_what_is_asked items bytes (Err (Method index code)) value json ok text shape method asked config =
    absurd (config_has_commands bytes asked index code config (record { value = value; json = json; refuses = method index code refl }))

-- ---- the parts of a refusal

abbrev code_in : {V : Type 0} → ℤ → Result V ConfigError → ℤ
code_in other (Ok v) = other
code_in other (Err OutOfMemory) = other
code_in other (Err Text) = other
code_in other (Err (Shape place)) = other
code_in other (Err (Method index code)) = code

pub method_code : {V : Type 0} (i j : ℕ) (a b : ℤ) → ◌≡◌ {A = Result V ConfigError} (Err (Method i a)) (Err (Method j b)) → a ≡ b
method_code {V = V} i j a b e = ap (λ (r : Result V ConfigError). code_in a r) e

abbrev index_in : {V : Type 0} → ℕ → Result V ConfigError → ℕ
index_in other (Ok v) = other
index_in other (Err OutOfMemory) = other
index_in other (Err Text) = other
index_in other (Err (Shape place)) = other
index_in other (Err (Method index code)) = index

pub method_index : {V : Type 0} (i j : ℕ) (a b : ℤ) → ◌≡◌ {A = Result V ConfigError} (Err (Method i a)) (Err (Method j b)) → i ≡ j
method_index {V = V} i j a b e = ap (λ (r : Result V ConfigError). index_in i r) e
