use Rattle.std.proofs.Common.{◌≡◌, ◌∙◌, ◌+◌, ◌++◌, ◌∷◌, [], ap, sym, arith, append_assoc, List}
use Rattle.std.proofs.lemmas.List.{append-nil}
use Rattle.bd_jobs.specs.declared.steps.Step.{Step}
use Rattle.bd_jobs.specs.declared.steps.Step.TheVariants.{Writes, Reads, Waits}
use Rattle.bd_jobs.specs.Generated.{writes, reads}
use Rattle.bd_jobs.proofs.GeneratedLemmas.{writes-none, writes-more, reads-none, reads-more, added}
use Rattle.bd_jobs.proofs.steps.add_group.Goals as goal

pub loop-i-init : goal.loop-i-init
loop-i-init c = sym (append-nil c.args.steps.now.items) ∙ ap (λ steps. c.args.steps.now.items ++ steps) (sym (writes-none c.args.first))

pub loop-i-preserved : goal.loop-i-preserved
loop-i-preserved c =
    added c.args.steps.now.items c.loop-i.steps.items c.push.new.self.items (writes c.args.first c.loop-i.i) (Writes (c.args.first + c.loop-i.i) ∷ []) (writes c.args.first (c.loop-i.i + 1))
    c.loop-i.invariant c.in_ok-push.ensures.items (writes-more c.args.first c.loop-i.i)

pub loop-i-2-init : goal.loop-i-2-init
loop-i-2-init c =
    let end : c.loop-i.i ≡ c.args.count = omega arith in
    let written : List Step = writes c.args.first c.args.count ++ Waits ∷ [] in
    added c.args.steps.now.items c.loop-i.steps.items c.push-2.new.self.items (writes c.args.first c.args.count) (Waits ∷ []) (written ++ reads c.args.first 0)
    (c.loop-i.invariant ∙ ap (λ i. c.args.steps.now.items ++ writes c.args.first i) end)
    c.in_ok-push-2.ensures.items
    (ap (λ steps. written ++ steps) (reads-none c.args.first) ∙ append-nil written)

pub loop-i-2-preserved : goal.loop-i-2-preserved
loop-i-2-preserved c =
    let written : List Step = writes c.args.first c.args.count ++ Waits ∷ [] in
    let read : Step = Reads (c.args.first + c.loop-i-2.i) in
    added c.args.steps.now.items c.loop-i-2.steps.items c.push-in-loop-i-2.new.self.items (written ++ reads c.args.first c.loop-i-2.i) (read ∷ []) (written ++ reads c.args.first (c.loop-i-2.i + 1))
    c.loop-i-2.invariant c.in_ok-push-3.ensures.items
    (ap (λ steps. written ++ steps) (reads-more c.args.first c.loop-i-2.i) ∙ sym (append_assoc written (reads c.args.first c.loop-i-2.i) (read ∷ [])))
