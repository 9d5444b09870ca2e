use Rattle.std.proofs.Common.{sym, ◌∙◌, ap₂}
use Rattle.bd_steps.specs.Sending.{first_due}
use Rattle.bd_thread.proofs.Alone.{puts_alone}
use Rattle.bd_thread.proofs.Idle.{both_ok, idle_here, puts_idle}
use Rattle.bd_thread.proofs.Waiting.{due_waits, full_waits}
use Rattle.bd_thread.proofs.thread.Thread.put_due.Goals as goal

pub returns-in_default-clause-quiet : goal.returns-in_default-clause-quiet
returns-in_default-clause-quiet c =
    let none = sym (c.in_ok-to.ensures ∙ ap₂ first_due c.as_slice-queues.ensures.value c.as_slice.ensures) ∙ c.in_default.is in
    idle_here c.args.self.now c.args.links.now (full_waits c.args.self.now c.args.links.now none)

pub returns-clause-quiet : goal.returns-clause-quiet
returns-clause-quiet c =
    let first = sym (c.in_ok-to.ensures ∙ ap₂ first_due c.as_slice-queues.ensures.value c.as_slice.ensures) ∙ c.in-Some.is in
    both_ok c.put.result (λ acted put puts. puts_idle _ _ _ _ _ _ _ (λ stays. due_waits c.args.self.now c.args.links.now (c.in-Some.to, c.in-Some.what) first stays) puts) c.put.ensures.acted c.put.ensures.puts

pub returns-clause-alone : goal.returns-clause-alone
returns-clause-alone c = both_ok c.put.result (λ keeps put puts. puts_alone _ _ _ _ _ _ _ keeps puts) c.put.ensures.keeps c.put.ensures.puts
