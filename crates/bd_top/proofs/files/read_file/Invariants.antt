use Rattle.std.proofs.Common.{◌≡◌, ◌≤◌, length}
use Rattle.bd_outside.specs.Host.{IsLater}
use Rattle.bd_top.proofs.FileLemmas.{IsFront}
use Rattle.bd_top.proofs.files.read_file.Given as goal

abbrev pub invariant-loop-turn : goal.invariant-loop-turn
invariant-loop-turn g l =
    IsFront ((g.H.Host.state l.fn.host).told l.name) l.all
    × IsLater (g.H.Host.state l.fn.host) (g.H.Host.state l.host)
    × (l._turn ≤ length l.all)
    × (length l.all ≤ 8388608)
    × ((g.H.Host.state l.host).openings ≡ (g.H.Host.state l.fn.host).openings)
