use Rattle.bd_storage.proofs.Turned.{one_with, with_none}
use Rattle.bd_storage.proofs.Turns.{one_served}
use Rattle.bd_storage.proofs.serving.serve_one.Goals as goal

pub returns-clause-serves : goal.returns-clause-serves
returns-clause-serves g c =
    one_served g.D.Disk.state c.args.dev c.in-Some.piece.now c.in_ok-given.given.end c.in_ok-given.given.read c.block_size-size.result c.args.disks.now c.serve.new.self c.args.thread.now c.args.links.now c.serve_as_given.new.self c.serve_as_given.new.links c.serve_as_given.result
    c.in-Some.ensures c.block_size-size.ensures c.in_ok-given.ensures.does c.serve_as_given.ensures.serves

pub returns-clause-over : goal.returns-clause-over
returns-clause-over g c =
    one_with g.D.Disk.state c.args.dev c.in-Some.piece.now c.in_ok-given.given.end c.in_ok-given.given.read c.block_size-size.result c.args.disks.now c.serve.new.self c.args.thread.now c.args.links.now c.serve_as_given.new.self c.serve_as_given.new.links c.serve_as_given.result
    c.in-Some.ensures c.block_size-size.ensures c.in_ok-given.ensures.does c.serve_as_given.ensures.over c.serve_as_given.ensures.serves

pub returns-in_default-clause-over : goal.returns-in_default-clause-over
returns-in_default-clause-over g c = with_none g.D.Disk.state _ _ _

pub returns-then-not-can_serve-clause-over : goal.returns-then-not-can_serve-clause-over
returns-then-not-can_serve-clause-over g c = with_none g.D.Disk.state _ _ _
