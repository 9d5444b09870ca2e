use Rattle.std.proofs.Common.{Bool, refl, sym, subst, arith, eq-eqb, ne_eqb}
use Rattle.bd_thread.specs.Begins.{SetsOutIf}
use Rattle.bd_thread.proofs.Alone.{cuts_alone}
use Rattle.bd_thread.proofs.Going.{acted_then}
use Rattle.bd_thread.proofs.Limiting.{set_out_acted, set_out_tickets}
use Rattle.bd_thread.proofs.Noted.{sets_only}
use Rattle.bd_thread.proofs.thread.Thread.cut_or_note.Goals as goal

pub returns-in_ok-set_out : goal.returns-in_ok-set_out
returns-in_ok-set_out c =
    let o = c.args.self.now in
    let a = c.args.links.now in
    let req = c.args.req in
    let m = c.cut.new.self in
    let b = c.cut.new.links in
    let u = c.set_out.new.self in
    let cut = c.in_ok-pieces.ensures in
    let sets = c.in_ok-set_out.ensures in
    let out = sets_only req m b u b c.in_ok-set_out.field-0 sets in
    record {
      acted = acted_then o a m b u b cut.acted (set_out_acted m b u out);
      tickets = λ keeps. set_out_tickets m u out (cut.tickets keeps);
      begins = record {
        pieces = c.in_ok-pieces.pieces;
        middle = m;
        shared = b;
        cuts = cut.cut;
        rest = subst (λ (none : Bool). SetsOutIf none req m b u b) (sym (eq-eqb c.in_ok-pieces.pieces 0 c.if-pieces-eq0.true)) (record { done = c.in_ok-set_out.field-0; sets = sets });
      };
      alone = cuts_alone req o a m b c.in_ok-pieces.pieces cut.cut;
    }

pub returns-else-pieces-eq0-clause-begins : goal.returns-else-pieces-eq0-clause-begins
returns-else-pieces-eq0-clause-begins c = record {
  pieces = c.in_ok-pieces.pieces;
  middle = c.cut.new.self;
  shared = c.cut.new.links;
  cuts = c.in_ok-pieces.ensures.cut;
  rest = subst (λ (none : Bool). SetsOutIf none c.args.req c.cut.new.self c.cut.new.links c.cut.new.self c.cut.new.links)
      (sym (ne_eqb c.in_ok-pieces.pieces 0 (λ zero. omega (arith, zero, c.if-pieces-eq0.false)))) (refl, refl);
}
