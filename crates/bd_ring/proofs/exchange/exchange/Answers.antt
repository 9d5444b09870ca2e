use Rattle.std.proofs.Common.{◌≡◌, List, [], get_or, length, rules, ap, sym, ◌∙◌, arith}
use Rattle.std.proofs.lemmas.List.{length-map}
use Rattle.bd_turns.specs.declared.queue.Post.{Post}
use Rattle.bd_ring.specs.Posts.{sent_by}
use Rattle.bd_ring.specs.Rings.{Receiver}
use Rattle.bd_ring.proofs.NewSenders.{length-first_senders, are_new, are_senders, put_of}
use Rattle.bd_ring.proofs.exchange.exchange.Goals as goal

pub join-sends-requires-after_bounds : goal.join-sends-requires-after_bounds
join-sends-requires-after_bounds g c κs within =
    let made = c.in_ok-ring.ensures.take in
    ((are_new c.in_ok-ring.ring.ring c.args.senders c.args.senders c.in_ok-ring.sends.items c.in_ok-ring.ensures.sends, search rules), (ap (λ (t : Receiver). t.ring) made, ap (λ (t : Receiver). t.taken) made))

pub settle-settled-requires-clause-each : goal.settle-settled-requires-clause-each
settle-settled-requires-clause-each g c =
    let first = c.join-sends.ensures.first in
    are_senders _ c.args.senders c.args.senders c.args.count c.in_ok-ring.sends.items c.join-sends.result.0.items c.in_ok-ring.ensures.sends (sym c.join-sends.result.0.ok.0 ∙ first.0 ∙ c.in_ok-ring.sends.ok.0) first.1

pub settle-settled-requires-clause-all : goal.settle-settled-requires-clause-all
settle-settled-requires-clause-all g c =
    c.join-sends.ensures.first.0 ∙ c.in_ok-ring.sends.ok.0 ∙ ap length c.in_ok-ring.ensures.sends ∙ length-first_senders c.in_ok-ring.ring.ring c.args.senders c.args.senders
    ∙ sym (c.join-sends.ensures.second.1 ∙ ap (λ (t : Receiver). t.senders) c.in_ok-ring.ensures.take)

pub returns-in-None-next : goal.returns-in-None-next
returns-in-None-next g c =
    let first = c.join-sends.ensures.first in
    let len : length c.join-sends.result.0.items ≡ length c.in_ok-ring.sends.items = sym c.join-sends.result.0.ok.0 ∙ first.0 ∙ c.in_ok-ring.sends.ok.0 in
    let puts = c.loop.invariant.puts ∙ c.settle-settled.ensures.puts in
    let n : length c.loop.settled.puts ≡ c.args.senders = ap length puts ∙ length-map c.join-sends.result.0.items (λ s. s.put) ∙ len ∙ ap length c.in_ok-ring.ensures.sends ∙ length-first_senders c.in_ok-ring.ring.ring c.args.senders c.args.senders in
    λ k lt. ap (sent_by k) (sym c.loop.invariant.taken) ∙ c.in-None-next.ensures.next.1 k (omega arith) ∙ ap (λ (l : List (List Post)). get_or l k []) puts
    ∙ put_of c.in_ok-ring.ring.ring c.args.senders c.args.senders c.args.count c.in_ok-ring.sends.items c.join-sends.result.0.items c.in_ok-ring.ensures.sends len first.1 k lt
