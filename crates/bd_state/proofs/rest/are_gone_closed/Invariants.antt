use Rattle.std.proofs.Common.{◌≡◌, drop}
use Rattle.std.specs.List.{list_any}
use Rattle.bd_machine.specs.Rest.{is_left_open}
use Rattle.bd_state.proofs.rest.are_gone_closed.Given as goal

-- some handle waits exactly where one of those that are left does
abbrev pub invariant-loop-handle : goal.invariant-loop-handle
invariant-loop-handle l = list_any (is_left_open l.setup l.state) (drop l.handle-index l.state.registry.handles) ≡ list_any (is_left_open l.setup l.state) l.state.registry.handles
