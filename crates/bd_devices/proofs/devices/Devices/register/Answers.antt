use Rattle.std.proofs.Common.{◌≡◌, Some, sym, subst}
use Rattle.bd_base.specs.declared.setup.Setup.{Setup}
use Rattle.bd_devices.specs.Devices.{register_refusal}
use Rattle.bd_devices.proofs.devices.Devices.register.Goals as goal

pub returns-in-Some-clause-cause : goal.returns-in-Some-clause-cause
returns-in-Some-clause-cause c = subst (λ (s : Setup). register_refusal s c.args.row ≡ Some c.in-Some.errno) c.self.view_is (sym c.in-Some.ensures)
