use Rattle.std.proofs.Common.{rules, IfErr}
use Rattle.std.proofs.lemmas.Result.{IfErr-weaker}
use Rattle.bd_top.specs.Run.{FileCause}
use Rattle.bd_top.proofs.FileCauses.{of_doing}
use Rattle.bd_top.proofs.inputs.read_devices.Goals as goal

pub returns-in_err-commands-clause-cause : goal.returns-in_err-commands-clause-cause
returns-in_err-commands-clause-cause g c jobs =
    let known : IfErr c.read_commands.result (FileCause (g.H.Host.state c.args.host.now) (g.H.Host.state c.read_commands.new.host) c.args.name.now jobs c.args.threads) = c.read_commands.ensures.cause jobs c.args.threads in
    search rules

pub returns-clause-cause : goal.returns-clause-cause
returns-clause-cause g c jobs =
    IfErr-weaker _ _ _
    (of_doing (g.H.Host.state c.args.host.now) (g.H.Host.state c.read_commands.new.host) (g.H.Host.state c.open_devices.new.host) c.args.name.now jobs c.args.threads c.in_ok-commands.commands.items c.in_ok-commands.ensures.commands c.read_commands.ensures.later)
    c.open_devices.ensures.cause
