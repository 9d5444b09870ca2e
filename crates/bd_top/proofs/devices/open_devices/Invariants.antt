use Rattle.std.proofs.Common.{◌≡◌, ℕ, List, length}
use Rattle.std.specs.Prelude.{All}
use Rattle.std.specs.Vec.Iter.{into_iter_items, into_iter_len}
use Rattle.bd_config.specs.Commands.{IsOpenable}
use Rattle.bd_outside.specs.File.{Told}
use Rattle.bd_outside.specs.Host.{IsLater}
use Rattle.bd_top.specs.DiskRows.{StandOpen, TellsSo}
use Rattle.bd_top.proofs.Opening.{IsOnWay}
use Rattle.bd_top.proofs.devices.open_devices.Given as goal

abbrev pub invariant-loop-command : goal.invariant-loop-command
invariant-loop-command g l = record {
  way : IsOnWay (g.H.Host.state l.fn.host).told l.threads l.fn.commands.items l.index l.opened.devices (into_iter_items l.command-iterator);
  later : IsLater (g.H.Host.state l.fn.host) (g.H.Host.state l.host);
  disks : length l.opened.disks.threads ≡ l.threads;
  counted : into_iter_len l.command-iterator ≡ length (into_iter_items l.command-iterator);
  openable : All IsOpenable (into_iter_items l.command-iterator);
  stand : (told : List ℕ → Told) → TellsSo (g.H.Host.state l.fn.host) told → StandOpen g.H.Disk.Disk.state told (g.H.Host.state l.fn.host).openings l.opened.devices l.opened.disks (g.H.Host.state l.host);
}
