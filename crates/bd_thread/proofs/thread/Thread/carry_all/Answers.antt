use Rattle.std.proofs.Common.{◌≡◌, ℕ, [], false, sym, ◌∙◌, subst, drop}
use Rattle.bd_held.specs.Holds.{has_due}
use Rattle.bd_thread.proofs.Idle.{idle_here}
use Rattle.bd_thread.proofs.Limiting.{bare_stands}
use Rattle.bd_thread.proofs.Looked.{look_acted, look_expired, look_named, stands_looked}
use Rattle.bd_thread.proofs.thread.Thread.carry_all.Goals as goal

pub returns-then-is_bare-clause-quiet : goal.returns-then-is_bare-clause-quiet
returns-then-is_bare-clause-quiet c = λ same. idle_here _ _ (bare_stands c.args.self.now c.args.links.now (sym c.is_bare.ensures ∙ c.if-is_bare.true))

pub returns-clause-scanned : goal.returns-clause-scanned
returns-clause-scanned c = λ within keeps looks.
    let t = c.args.self.now in
    let a = c.args.links.now in
    let old = c.expire.new.self in
    let new = c.name_all.new.self in
    let expired = look_expired (drop c.args.entries a.entries) c.args.touched.now old t c.expire.ensures.covers c.expire.ensures.keeps looks in
    c.settle.ensures (c.in_ok-found.ensures.tickets keeps)
    (look_acted c.args.entries new t a c.carry_named.new.self c.carry_named.new.links c.in_ok-found.ensures.acted within
    (look_named (drop c.args.entries a.entries) old new t c.in_ok-name_all.ensures.holds c.in_ok-name_all.ensures.same expired))

pub returns-clause-quiet : goal.returns-clause-quiet
returns-clause-quiet c = λ at few.
    let t = c.args.self.now in
    let a = c.args.links.now in
    let old = c.expire.new.self in
    let new = c.name_all.new.self in
    let i = c.in_ok-found.ensures.quiet at few in
    let early = subst (λ (n : ℕ). has_due n old.holds ≡ false) c.moment.ensures c.expire.ensures.none in
    let stands = stands_looked old new c.in_ok-found.found t a early c.in_ok-name_all.ensures.named c.in_ok-name_all.ensures.same i.waits in
    record {
      thread = i.thread;
      links = i.links;
      waits = record {
        none = λ looks. stands.none (look_expired [] c.args.touched.now old t c.expire.ensures.covers c.expire.ensures.keeps looks);
        finds = λ looks. stands.finds (look_expired [] c.args.touched.now old t c.expire.ensures.covers c.expire.ensures.keeps looks);
      };
    }
