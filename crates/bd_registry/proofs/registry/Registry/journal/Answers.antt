use Rattle.std.proofs.Common.{subst}
use Rattle.bd_registry.proofs.Registers.{IsInOrder, in_order}
use Rattle.bd_registry.proofs.registry.Registry.journal.Goals as goal

pub returns-clause-rises : goal.returns-clause-rises
returns-clause-rises c = (subst IsInOrder c.self.view_is (in_order c.self.inside.setup c.self.inside.journal.items c.self.inside.last c.self.inside.names c.self.inside.tables c.self.invariant.0)).rises

pub returns-clause-ordered : goal.returns-clause-ordered
returns-clause-ordered c = (subst IsInOrder c.self.view_is (in_order c.self.inside.setup c.self.inside.journal.items c.self.inside.last c.self.inside.names c.self.inside.tables c.self.invariant.0)).ordered

pub returns-clause-within : goal.returns-clause-within
returns-clause-within c = (subst IsInOrder c.self.view_is (in_order c.self.inside.setup c.self.inside.journal.items c.self.inside.last c.self.inside.names c.self.inside.tables c.self.invariant.0)).within

pub returns-clause-events : goal.returns-clause-events
returns-clause-events c = (subst IsInOrder c.self.view_is (in_order c.self.inside.setup c.self.inside.journal.items c.self.inside.last c.self.inside.names c.self.inside.tables c.self.invariant.0)).events

pub returns-clause-replay : goal.returns-clause-replay
returns-clause-replay c = (subst IsInOrder c.self.view_is (in_order c.self.inside.setup c.self.inside.journal.items c.self.inside.last c.self.inside.names c.self.inside.tables c.self.invariant.0)).replay

pub returns-clause-followed : goal.returns-clause-followed
returns-clause-followed c = (subst IsInOrder c.self.view_is (in_order c.self.inside.setup c.self.inside.journal.items c.self.inside.last c.self.inside.names c.self.inside.tables c.self.invariant.0)).followed

pub returns-clause-leaves : goal.returns-clause-leaves
returns-clause-leaves c = (subst IsInOrder c.self.view_is (in_order c.self.inside.setup c.self.inside.journal.items c.self.inside.last c.self.inside.names c.self.inside.tables c.self.invariant.0)).leaves
