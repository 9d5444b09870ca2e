use Rattle.std.proofs.Common.{rules, ◌≡◌, ◌+◌, ◌≤◌, length, replicate, ℕ, List, sym, ◌∙◌, ap, subst}
use Rattle.std.proofs.lemmas.List.{length-replicate}
use Rattle.bd_pages.specs.Bytes.{written}
use Rattle.bd_pages.specs.Leaf.{Leaf}
use Rattle.bd_pages.proofs.Splices.{zeros_stay}
use Rattle.bd_pages.proofs.page.Page.clear.Goals as goal

-- without memory it is zeros, and stays so
pub returns-in-None : goal.returns-in-None
returns-in-None c =
    let old = c.args.self.now in
    let zeros : ℕ → List ℕ = λ n. replicate n 0 in
    let blank : old.bytes ≡ zeros c.self.inside.len = sym (ap (λ (p : Leaf). p.bytes) c.self.view_is) ∙ c.self.invariant.zeros (c.self.invariant.kept (search rules)) in
    let inside : c.args.at + c.args.n ≤ c.self.inside.len = subst (λ (m : ℕ). c.args.at + c.args.n ≤ m) (ap length blank ∙ length-replicate c.self.inside.len 0) c.requires in
    c.self.view_is
    ∙ ap (λ (b : List ℕ). let p : Leaf = record { bytes = b; ready = old.ready; taken = old.taken } in p)
    (blank ∙ sym (zeros_stay c.args.at c.args.n c.self.inside.len inside) ∙ sym (ap (λ (b : List ℕ). written c.args.at (zeros c.args.n) b) blank))
