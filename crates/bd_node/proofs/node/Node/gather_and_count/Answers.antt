use Rattle.bd_node.proofs.node.Node.gather_and_count.Goals as goal

pub returns-clause-stats : goal.returns-clause-stats
returns-clause-stats g c = c.stats.ensures _ _ c.in_ok-gather.ensures.node.node.counted
