use Rattle.std.proofs.Common.{List, ℕ, subst}
use Rattle.bd_config.specs.Config.{IsConfig}
use Rattle.bd_top.specs.Configure.{CommandsCause}
use Rattle.bd_top.specs.declared.configure.ConfigureError.{ConfigureError}
use Rattle.bd_top.specs.Exercise.{built_in}
use Rattle.bd_top.proofs.BuiltIn.{is_text, has_shape, has_commands}
use Rattle.bd_top.proofs.exercise.commands.Goals as goal

pub unreachable-requires : goal.unreachable-requires
unreachable-requires c =
    is_text
    (subst (λ (why : ConfigureError). CommandsCause built_in why) c.in-Err-Text.field-0-is
    (subst (λ (bytes : List ℕ). CommandsCause bytes c.in-Err-Text.field-0) c.as_bytes.ensures.value c.in-Err-Text.ensures.cause))

pub unreachable-requires-in-Err-Shape : goal.unreachable-requires-in-Err-Shape
unreachable-requires-in-Err-Shape c =
    has_shape c.in-Err-Shape.field-0-0
    (subst (λ (why : ConfigureError). CommandsCause built_in why) c.in-Err-Shape.field-0-is
    (subst (λ (bytes : List ℕ). CommandsCause bytes c.in-Err-Shape.field-0) c.as_bytes.ensures.value c.in-Err-Shape.ensures.cause))

pub unreachable-requires-in-Err-Method : goal.unreachable-requires-in-Err-Method
unreachable-requires-in-Err-Method c =
    has_commands c.in-Err-Method.field-0-0 c.in-Err-Method.field-0-1
    (subst (λ (why : ConfigureError). CommandsCause built_in why) c.in-Err-Method.field-0-is
    (subst (λ (bytes : List ℕ). CommandsCause bytes c.in-Err-Method.field-0) c.as_bytes.ensures.value c.in-Err-Method.ensures.cause))

pub returns-in-Ok-clause-config : goal.returns-in-Ok-clause-config
returns-in-Ok-clause-config c = subst (λ (bytes : List ℕ). IsConfig bytes c.in-Ok.commands.items) c.as_bytes.ensures.value c.in-Ok.ensures.ok
