use Rattle.std.proofs.Common.{◌∙◌, List, ap, sym, filter}
use Rattle.bd_machine.specs.declared.state.Handle.{Handle}
use Rattle.bd_machine.specs.Registry.{handle_of, is_on}
use Rattle.bd_registry.proofs.Keeping.{found, missed}
use Rattle.bd_registry.proofs.handles.Handles.find.Goals as goal

pub returns-in-Some : goal.returns-in-Some
returns-in-Some c = λ hs keeps.
    c.find_on.ensures
    ∙ ap (λ (xs : List Handle). handle_of (filter (is_on c.in-Some.dev) xs) c.args.id) c.on.ensures
    ∙ found c.args.self.now c.args.id c.in-Some.dev hs keeps (sym c.device_of.ensures ∙ c.in-Some.is)

pub returns-in-None : goal.returns-in-None
returns-in-None c = λ hs keeps. missed c.args.self.now.devices c.args.id hs (sym c.device_of.ensures ∙ c.in-None.is) keeps.numbered
