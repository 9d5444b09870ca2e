use Rattle.std.proofs.Common.{◌≡◌, ◌&&◌, drop, filter}
use Rattle.std.specs.List.{list_any}
use Rattle.bd_machine.specs.Asked.{may_close, may_close_on}
use Rattle.bd_machine.specs.Registry.{is_on}
use Rattle.bd_machine.specs.Same.{same_dev}
use Rattle.bd_machine.specs.View.{is_of}
use Rattle.bd_rule_view.specs.Came.{came_shut}
use Rattle.bd_rule_script.proofs.events.may_close_on.Given as goal

-- the handle is sought in what is left
abbrev pub invariant-loop-h : goal.invariant-loop-h
invariant-loop-h g l =
    list_any (λ h. same_dev h.dev l.dev && may_close l.setup l.thread (g.S.Sees.view_of l.seen) (came_shut l.shut) h.id) (filter (is_of (g.S.Sees.thread_of l.seen)) (filter (is_on l.dev) (drop l.h-index l.h-items)))
    ≡ may_close_on l.setup l.thread (g.S.Sees.view_of l.seen) (came_shut l.shut) l.dev
