use Rattle.std.proofs.Common.{◌≡◌, ◌∙◌, length, None, ap, sym, subst}
use Rattle.bd_base.specs.declared.setup.Setup.{Setup}
use Rattle.bd_devices.specs.Devices.{register_refusal}
use Rattle.bd_devices.proofs.Naming.{is_added}
use Rattle.bd_devices.proofs.devices.Devices.add.Goals as goal

pub invariant_of-self-in-Ok-1 : goal.invariant_of-self-in-Ok-1
invariant_of-self-in-Ok-1 c =
    is_added c.self.inside.names c.add.new.self c.self.inside.setup c.args.row c.in_ok-name.name c.args.place c.push.new.self c.in_ok-rates.rates c.in_ok-injections.injections
    c.self.invariant (subst (λ (s : Setup). register_refusal s c.args.row ≡ None) (sym c.self.view_is) c.requires.free) c.in_ok-name.ensures (c.requires.place ∙ ap (λ (s : Setup). length s.devices) (sym c.self.view_is)) c.in-Ok.ensures.ok c.in_ok-push.ensures.ok c.in_ok-rates.ensures c.in_ok-injections.ensures
