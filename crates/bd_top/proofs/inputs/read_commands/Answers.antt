use Rattle.std.proofs.Common.{List, ℕ, sym, subst}
use Rattle.bd_top.specs.Configure.{CommandsCause}
use Rattle.bd_top.specs.Run.{FileCause}
use Rattle.bd_top.proofs.FileCauses.{of_config}
use Rattle.bd_top.proofs.inputs.read_commands.Goals as goal

pub returns-clause-cause : goal.returns-clause-cause
returns-clause-cause g c jobs threads =
    let P : List ℕ → Type 0 = λ bytes. CommandsCause bytes c.in-Err-commands_of.error in
    subst (FileCause (g.H.Host.state c.args.host.now) (g.H.Host.state c.read_file.new.host) c.args.name.now jobs threads) (sym c.config_fault.ensures)
    (of_config (g.H.Host.state c.args.host.now) (g.H.Host.state c.read_file.new.host) c.args.name.now jobs threads c.in-Ok.bytes c.in-Err-commands_of.error c.in-Ok.ensures.read (subst P c.as_slice.ensures c.in-Err-commands_of.ensures.cause))
