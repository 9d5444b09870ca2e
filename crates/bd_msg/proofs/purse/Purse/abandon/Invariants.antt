use Rattle.std.specs.VecDeque.{deque_len}
use Rattle.bd_msg.proofs.purse.Purse.abandon.Given as goal

abbrev pub decreases-loop-ticket : goal.decreases-loop-ticket
decreases-loop-ticket l = deque_len l.tickets
