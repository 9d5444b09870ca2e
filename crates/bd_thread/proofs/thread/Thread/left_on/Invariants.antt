use Rattle.std.proofs.Common.{◌≡◌, drop, filter, find}
use Rattle.bd_machine.specs.Registry.{is_on}
use Rattle.bd_machine.specs.View.{is_of}
use Rattle.bd_thread.specs.Endings.{is_left, left_on}
use Rattle.bd_thread.proofs.thread.Thread.left_on.Given as goal

-- the handle is sought in what is left
abbrev pub invariant-loop-h : goal.invariant-loop-h
invariant-loop-h l = find (is_left l.self l.links) (filter (is_of l.self.me) (filter (is_on l.dev) (drop l.h-index l.h-items))) ≡ left_on l.dev l.self l.links
