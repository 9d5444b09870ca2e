use Rattle.std.proofs.Common.{◌≡◌, ◌-◌, ◌&&◌, ◌||◌, map}
use Rattle.std.specs.List.{list_all, list_any, range_with_len}
use Rattle.bd_machine.specs.Completion.{is_back, is_done, is_faulted}
use Rattle.bd_machine.specs.Kept.{piece_here, pieces_here}
use Rattle.bd_flight.proofs.ends.piece_ends.Given as goal

abbrev pub invariant-loop-k : goal.invariant-loop-k
invariant-loop-k g l = record {
  back : list_all is_back (map (piece_here (g.S.Sees.view_of l.seen) l.req) (range_with_len l.k (l.n - l.k))) ≡ list_all is_back (pieces_here (g.S.Sees.view_of l.seen) l.req l.n);
  done : (l.ends.all_done && list_all is_done (map (piece_here (g.S.Sees.view_of l.seen) l.req) (range_with_len l.k (l.n - l.k)))) ≡ list_all is_done (pieces_here (g.S.Sees.view_of l.seen) l.req l.n);
  faulted : (l.ends.any_faulted || list_any is_faulted (map (piece_here (g.S.Sees.view_of l.seen) l.req) (range_with_len l.k (l.n - l.k)))) ≡ list_any is_faulted (pieces_here (g.S.Sees.view_of l.seen) l.req l.n);
}
