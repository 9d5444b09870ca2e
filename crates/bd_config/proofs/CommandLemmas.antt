-- Reading calls one after another, against the answers of all calls.
use Rattle.std.proofs.Common.{◌≡◌, ℕ, ◌+◌, List, [], ◌∷◌, ◌++◌, length, Option, None, Some, refl, ap, sym, subst, ◌∙◌}
use Rattle.std.specs.Bool.{⊤}
use Rattle.std.specs.Prelude.{ℤ, map, is_some, true, false, Result, Ok, Err}
use Rattle.std.proofs.lemmas.List.{append-nil, length-append}
use Rattle.serde_json.specs.Data.{Data}
use Rattle.bd_config.specs.Commands.{answer_of}
use Rattle.bd_config.specs.Config.{refused_before, first_refused, read_on, commands_from}
use Rattle.bd_config.specs.declared.command.Command.{Command}

-- ---- results

abbrev ok_or : {T E : Type 0} → T → Result T E → T
ok_or other (Ok value) = value
ok_or other (Err fault) = other

abbrev err_or : {T E : Type 0} → E → Result T E → E
err_or other (Ok value) = other
err_or other (Err fault) = fault

ok_same : {T E : Type 0} (x y : T) → ◌≡◌ {A = Result T E} (Ok x) (Ok y) → x ≡ y
ok_same {T = T} {E = E} x y e = ap (λ (r : Result T E). ok_or x r) e

err_same : {T E : Type 0} (x y : E) → ◌≡◌ {A = Result T E} (Err x) (Err y) → x ≡ y
err_same {T = T} {E = E} x y e = ap (λ (r : Result T E). err_or x r) e

abbrev IsOkay : {T E : Type 0} → Result T E → Type 0
IsOkay (Ok value) = ⊤
IsOkay (Err fault) = ⊥

pub ok_not_err : {T E : Type 0} (x : T) (fault : E) → Ok x ≡ Err fault → ⊥
ok_not_err x fault e = subst IsOkay e tt

err_not_ok : {T E : Type 0} (x : T) (fault : E) → Err fault ≡ Ok x → ⊥
err_not_ok x fault e = ok_not_err x fault (sym e)

-- ---- calls in two parts

-- where the first part is read, the second goes on from it
pub reads_first : (before : List Command) (calls more : List Data) (commands : List Command) → commands_from before calls ≡ Ok commands → commands_from before (calls ++ more) ≡ commands_from commands more
reads_first before [] more commands e = ap (λ b. commands_from b more) (ok_same before commands e)
reads_first before (call ∷ calls) more commands e = go (answer_of call) (λ command. reads_first (before ++ command ∷ []) calls more commands) e where
  go : (answer : Result Command ℤ) → ((command : Command) → commands_from (before ++ command ∷ []) calls ≡ Ok commands → commands_from (before ++ command ∷ []) (calls ++ more) ≡ commands_from commands more) → read_on before (λ b. commands_from b calls) answer ≡ Ok commands → read_on before (λ b. commands_from b (calls ++ more)) answer ≡ commands_from commands more
  go (Ok command) rest read = rest command read
  go (Err code) rest read = absurd (err_not_ok _ _ read)

-- where the first part is refused, so is the whole
pub refuses_first : (before : List Command) (calls more : List Data) (fault : ℕ × ℤ) → commands_from before calls ≡ Err fault → commands_from before (calls ++ more) ≡ Err fault
refuses_first before [] more fault e = absurd (ok_not_err _ _ e)
refuses_first before (call ∷ calls) more fault e = go (answer_of call) (λ command. refuses_first (before ++ command ∷ []) calls more fault) e where
  go : (answer : Result Command ℤ) → ((command : Command) → commands_from (before ++ command ∷ []) calls ≡ Err fault → commands_from (before ++ command ∷ []) (calls ++ more) ≡ Err fault) → read_on before (λ b. commands_from b calls) answer ≡ Err fault → read_on before (λ b. commands_from b (calls ++ more)) answer ≡ Err fault
  go (Ok command) rest refused = rest command refused
  go (Err code) rest refused = refused

-- ---- the answers of all calls

map_snoc : (before : List Command) (command : Command) (answers : List (Result Command ℤ)) → map Ok (before ++ command ∷ []) ++ answers ≡ map Ok before ++ Ok command ∷ answers
map_snoc [] command answers = refl
map_snoc (b ∷ before) command answers = ap (λ more. Ok b ∷ more) (map_snoc before command answers)

-- what is read is what the calls are answered
pub reads_answers : (before : List Command) (calls : List Data) (commands : List Command) → commands_from before calls ≡ Ok commands → map Ok before ++ map answer_of calls ≡ map Ok commands
reads_answers before [] commands e = append-nil _ ∙ ap (map Ok) (ok_same before commands e)
reads_answers before (call ∷ calls) commands e = go (answer_of call) (λ command. reads_answers (before ++ command ∷ []) calls commands) e where
  go : (answer : Result Command ℤ) → ((command : Command) → commands_from (before ++ command ∷ []) calls ≡ Ok commands → map Ok (before ++ command ∷ []) ++ map answer_of calls ≡ map Ok commands) → read_on before (λ b. commands_from b calls) answer ≡ Ok commands → map Ok before ++ answer ∷ map answer_of calls ≡ map Ok commands
  go (Ok command) rest read = sym (map_snoc before command (map answer_of calls)) ∙ rest command read
  go (Err code) rest read = absurd (err_not_ok _ _ read)

length_snoc : (before : List Command) (command : Command) → length (before ++ command ∷ []) ≡ length before + 1
length_snoc before command = length-append before (command ∷ [])

-- what is refused is the first refusal
pub refuses_answers : (before : List Command) (calls : List Data) (fault : ℕ × ℤ) → commands_from before calls ≡ Err fault → first_refused (length before) (map answer_of calls) ≡ Some fault
refuses_answers before [] fault e = absurd (ok_not_err _ _ e)
refuses_answers before (call ∷ calls) fault e = go (answer_of call) (λ command. refuses_answers (before ++ command ∷ []) calls fault) e where
  go : (answer : Result Command ℤ) → ((command : Command) → commands_from (before ++ command ∷ []) calls ≡ Err fault → first_refused (length (before ++ command ∷ [])) (map answer_of calls) ≡ Some fault) → read_on before (λ b. commands_from b calls) answer ≡ Err fault → refused_before (length before) answer (first_refused (length before + 1) (map answer_of calls)) ≡ Some fault
  go (Ok command) rest refused = subst (λ index. first_refused index (map answer_of calls) ≡ Some fault) (length_snoc before command) (rest command refused)
  go (Err code) rest refused = ap Some (err_same _ _ refused)

-- commands alone have no refusal
pub none_refused : (index : ℕ) (commands : List Command) → first_refused index (map Ok commands) ≡ None
none_refused index [] = refl
none_refused index (command ∷ commands) = none_refused (index + 1) commands

abbrev values_of : List (Result Command ℤ) → List Command
values_of [] = []
values_of (Ok command ∷ answers) = command ∷ values_of answers
values_of (Err code ∷ answers) = values_of answers

values_of_map : (commands : List Command) → values_of (map Ok commands) ≡ commands
values_of_map [] = refl
values_of_map (command ∷ commands) = ap (λ more. command ∷ more) (values_of_map commands)

-- lists with the same answers are the same
pub commands_same : (a b : List Command) → map {B = Result Command ℤ} Ok a ≡ map Ok b → a ≡ b
commands_same a b e = sym (values_of_map a) ∙ ap values_of e ∙ values_of_map b

true_not_false : true ≡ false → ⊥
true_not_false e = cc

-- no code is left over
pub none_left : (code : Option ℤ) → is_some code ≡ false → code ≡ None
none_left None e = refl
none_left (Some code) e = absurd (true_not_false e)
