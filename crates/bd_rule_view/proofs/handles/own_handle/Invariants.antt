use Rattle.std.proofs.Common.{◌≡◌, drop, filter}
use Rattle.bd_machine.specs.Registry.{handle_of}
use Rattle.bd_machine.specs.View.{is_of}
use Rattle.bd_rule_view.proofs.handles.own_handle.Given as goal

-- the handle is sought in what is left
abbrev pub invariant-loop-h : goal.invariant-loop-h
invariant-loop-h l = handle_of (filter (is_of l.thread) (drop l.h-index l.handles)) l.id ≡ handle_of (filter (is_of l.thread) l.handles) l.id
