use Rattle.std.proofs.Common.{rules, ◌≡◌, map, None, sym}
use Rattle.serde_json.specs.View.{view}
use Rattle.bd_config.specs.Config.{HasShape, first_outside}
use Rattle.bd_config.proofs.Exact.{asks_if_read, each_inside}
use Rattle.bd_config.proofs.config.read_value.Goals as goal

pub returns-clause-ok : goal.returns-clause-ok
returns-clause-ok c =
    let subsystems = map view c.in-Some.subsystems.now in
    let none : first_outside 1 subsystems ≡ None = search rules in
    let shape : HasShape (view c.args.value.now) subsystems = record { found = sym c.in-Some.ensures; each = each_inside 1 subsystems none } in
    asks_if_read (λ v. v.items) c.read_commands.result (view c.args.value.now) subsystems shape c.read_commands.ensures.ok

pub returns-clause-method : goal.returns-clause-method
returns-clause-method c = λ index code e.
    let subsystems = map view c.in-Some.subsystems.now in
    let none : first_outside 1 subsystems ≡ None = search rules in
    let shape : HasShape (view c.args.value.now) subsystems = record { found = sym c.in-Some.ensures; each = each_inside 1 subsystems none } in
    record { subsystems = subsystems; shape = shape; first = c.read_commands.ensures.method index code e }
