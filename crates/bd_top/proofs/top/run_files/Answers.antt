use Rattle.bd_node.specs.Disks.{told_of}
use Rattle.bd_top.proofs.top.run_files.Goals as goal

pub returns-in-Ok-clause-done : goal.returns-in-Ok-clause-done
returns-in-Ok-clause-done g c =
    let old = g.H.Host.state c.args.host.now in
    record {
      setup = c.in_ok-ready.ready.setup;
      meant = c.in_ok-ready.ensures.setup;
      contents = told_of g.H.Disk.Disk.state c.in_ok-ready.ready.setup c.in_ok-ready.ready.disks.threads;
      played = c.in-Ok.ensures.played c.in_ok-ready.ensures.alone c.in_ok-ready.ensures.earlier;
      disks = c.in-Ok.ensures.disks old.told old.openings c.in_ok-ready.ensures.alone c.in_ok-ready.ensures.opened;
    }

pub returns-in-Ok-clause-closed : goal.returns-in-Ok-clause-closed
returns-in-Ok-clause-closed g c =
    let old = g.H.Host.state c.args.host.now in
    c.play_and_report.ensures.closed old.told old.openings c.in_ok-ready.ensures.opened

pub returns-in-Err-clause-closed : goal.returns-in-Err-clause-closed
returns-in-Err-clause-closed g c =
    let old = g.H.Host.state c.args.host.now in
    c.play_and_report.ensures.closed old.told old.openings c.in_ok-ready.ensures.opened

pub returns-in-Ok-clause-starts : goal.returns-in-Ok-clause-starts
returns-in-Ok-clause-starts g c = c.in-Ok.ensures.starts c.in_ok-ready.ensures.alone
