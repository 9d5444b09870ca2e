use Rattle.std.proofs.Common.{Bool, not, refl, sym, subst}
use Rattle.bd_thread.specs.Moves.{CarriesIf}
use Rattle.bd_thread.proofs.Alone.{alone_none}
use Rattle.bd_thread.proofs.Going.{acted_then}
use Rattle.bd_thread.proofs.Limiting.{set_out_acted, set_out_tickets}
use Rattle.bd_thread.proofs.Noted.{sets_only}
use Rattle.bd_thread.proofs.thread.Thread.request_came.Goals as goal

pub returns-then-is_set_out : goal.returns-then-is_set_out
returns-then-is_set_out c =
    let o = c.args.self.now in
    let a = c.args.links.now in
    let u = c.set_out.new.self in
    let out = sets_only c.args.req o a u a c.in_ok-is_set_out.is_set_out c.in_ok-is_set_out.ensures in
    record {
      acted = set_out_acted o a u out;
      tickets = set_out_tickets o u out;
      came = record {
        middle = u;
        done = c.in_ok-is_set_out.is_set_out;
        sets = c.in_ok-is_set_out.ensures;
        rest = subst (λ (b : Bool). CarriesIf (not b) c.args.req u a u a) (sym c.if-is_set_out.true) (refl, refl);
        alone = alone_none _;
      };
    }

pub returns : goal.returns
returns c =
    let o = c.args.self.now in
    let a = c.args.links.now in
    let u = c.set_out.new.self in
    let n = c.carry.new.self in
    let d = c.carry.new.links in
    let out = sets_only c.args.req o a u a c.in_ok-is_set_out.is_set_out c.in_ok-is_set_out.ensures in
    let gone = c.in_ok-_asks.ensures in
    record {
      acted = acted_then o a u a n d (set_out_acted o a u out) gone.acted;
      tickets = λ keeps. gone.tickets (set_out_tickets o u out keeps);
      came = record {
        middle = u;
        done = c.in_ok-is_set_out.is_set_out;
        sets = c.in_ok-is_set_out.ensures;
        rest = subst (λ (b : Bool). CarriesIf (not b) c.args.req u a n d) (sym c.if-is_set_out.false) (record { asks = c.in_ok-_asks._asks; stands = gone.quiet });
        alone = gone.alone;
      };
    }
