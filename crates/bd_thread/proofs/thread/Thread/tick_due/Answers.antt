use Rattle.std.proofs.Common.{ℕ, ◌-◌, cond, is_none, Option, Some, None, sym, ◌∙◌, ap, ap₂, option_copied}
use Rattle.bd_machine.specs.Budget.{slices_passed}
use Rattle.bd_machine.specs.Limits.{guards_tick}
use Rattle.bd_machine.specs.Step.{first_failing}
use Rattle.bd_machine.specs.View.{View}
use Rattle.bd_thread.specs.Limits.{tick_due_of}
use Rattle.bd_thread.proofs.Limiting.{tick_by}
use Rattle.bd_thread.proofs.thread.Thread.tick_due.Goals as goal

pub returns-in_default : goal.returns-in_default
returns-in_default c = sym (ap (tick_due_of c.args.self.now c.args.links.now c.args.dev) (sym c.limited_here.ensures ∙ ap option_copied c.in_default.is))

pub returns-in-None : goal.returns-in-None
returns-in-None c =
    let t = c.args.self.now in
    let here = sym c.limited_here.ensures ∙ ap option_copied c.in-Some.is in
    let slices = c.slices_due-slices.ensures.due ∙ ap₂ (λ (start now : ℕ). slices_passed start now - c.in-Some.limited.now.slices) c.start.ensures c.moment-now.ensures in
    let failing = c.in_ok-refused_tick.ensures ∙ ap₂ (λ (v : View) (n : ℕ). first_failing (guards_tick t.setup.now t.me v c.args.dev n c.slices_due-slices.result)) c.seen-seen.ensures c.moment-now.ensures in
    sym (ap (λ (o : Option ℕ). cond (is_none o) (Some c.slices_due-slices.result) None) c.in-None.is) ∙ tick_by t c.args.links.now c.args.dev c.in-Some.limited.now c.slices_due-slices.result _ here slices failing

pub returns-in-Some-2 : goal.returns-in-Some-2
returns-in-Some-2 c =
    let t = c.args.self.now in
    let here = sym c.limited_here.ensures ∙ ap option_copied c.in-Some.is in
    let slices = c.slices_due-slices.ensures.due ∙ ap₂ (λ (start now : ℕ). slices_passed start now - c.in-Some.limited.now.slices) c.start.ensures c.moment-now.ensures in
    let failing = c.in_ok-refused_tick.ensures ∙ ap₂ (λ (v : View) (n : ℕ). first_failing (guards_tick t.setup.now t.me v c.args.dev n c.slices_due-slices.result)) c.seen-seen.ensures c.moment-now.ensures in
    sym (ap (λ (o : Option ℕ). cond (is_none o) (Some c.slices_due-slices.result) None) c.in-Some-2.is) ∙ tick_by t c.args.links.now c.args.dev c.in-Some.limited.now c.slices_due-slices.result _ here slices failing
