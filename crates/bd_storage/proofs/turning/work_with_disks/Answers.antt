use Rattle.std.proofs.Common.{refl}
use Rattle.bd_storage.specs.Serving.{moment}
use Rattle.bd_storage.proofs.Turned.{turn_alone_with, turn_with}
use Rattle.bd_storage.proofs.turning.work_with_disks.Goals as goal

pub returns-clause-over : goal.returns-clause-over
returns-clause-over g c = turn_with g.D.Disk.state _ _ _ _ _ _ _ _ c.in_ok-serve_all.ensures.over c.in_ok-work.ensures.acted

pub returns-clause-alone : goal.returns-clause-alone
returns-clause-alone g c = turn_alone_with g.D.Disk.state _ _ _ _ _ _ _ _ c.in_ok-serve_all.ensures.over c.in_ok-serve_all.ensures.alone c.in_ok-work.ensures.alone

pub returns-clause-serves : goal.returns-clause-serves
returns-clause-serves g c = record {
  middle = moment c.serve_all.new.disks c.serve_all.new.thread c.serve_all.new.links;
  served = c.in_ok-serve_all.ensures.serves;
  disks = refl;
  acted = c.in_ok-work.ensures.acted;
}
