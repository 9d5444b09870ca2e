use Rattle.std.proofs.Common.{not, filter, sym, ◌∙◌, ap, rules}
use Rattle.std.proofs.lemmas.Fn.{filter_same}
use Rattle.bd_machine.specs.Same.{same_request}
use Rattle.bd_machine.specs.declared.state.Open.{Open}
use Rattle.bd_machine.proofs.Opens.{taken_is, taken_regular}
use Rattle.bd_machine.proofs.open_list.OpenList.remove.Goals as goal

pub returns-in_default : goal.returns-in_default
returns-in_default c =
    filter_same _ (λ (o : Open). not (same_request o.id c.args.req)) _ (λ x b f' t. search rules) _ _ c.retain.ensures.filtered
    ∙ ap (filter (λ (o : Open). not (same_request o.id c.args.req))) (c.in_default.ensures.none ∙ c.self.view_is)

pub invariant_of-self-2 : goal.invariant_of-self-2
invariant_of-self-2 c =
    taken_regular c.args.req c.self.inside.items.items c.take_out.new.items.items c.self.inside.counts.items c.uncount.new.counts.items c.self.inside.handles c.remove.new.self c.self.inside.next c.in-Some.request
    c.self.invariant c.in-Some.ensures.some c.uncount.ensures.less c.uncount.ensures.len c.remove.ensures

pub returns : goal.returns
returns c =
    taken_is c.args.req c.self.inside.items.items c.take_out.new.items.items c.self.inside.counts.items c.self.inside.handles c.self.inside.next c.in-Some.request
    (sym c.is_some.ensures ∙ c.in-Some.ensures.rises) c.self.invariant c.in-Some.ensures.some
    ∙ ap (filter (λ (o : Open). not (same_request o.id c.args.req))) c.self.view_is
