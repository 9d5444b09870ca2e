-- What a thread does by itself: after Shutdown thread 0 removes the devices that are left, and each thread closes the handles whose remove event it took, device by device.
use Rattle.std.specs.Prelude.{Bool, ◌&&◌, filter, find, Option}
use Rattle.bd_base.specs.declared.event.RegEvent.{RegEvent}
use Rattle.bd_base.specs.declared.id.DevId.{DevId}
use Rattle.bd_machine.specs.declared.state.Handle.{Handle}
use Rattle.bd_machine.specs.Admission.{is_gone}
use Rattle.bd_machine.specs.Registry.{is_on}
use Rattle.bd_thread.specs.declared.links.Links.{Links}
use Rattle.bd_thread.specs.declared.thread.Thread.{Thread}
use Rattle.bd_steps.specs.Duties.{owes_nothing as owes_none}
use Rattle.bd_steps.specs.Duties.{removal_after}
use Rattle.bd_thread.specs.Lines.{if_asked, may_close, AsksBy, ClosesBy}
use Rattle.bd_thread.specs.Seen.{view_of}

-- the remove event of the handle was taken, and it may be closed
abbrev pub is_left : Thread → Links → Handle → Bool
is_left t links h = is_gone t.part h.id && may_close t links h

-- the first of the thread's handles on the device that it closes by itself
abbrev pub left_on : DevId → Thread → Links → Option Handle
left_on dev t links = find (is_left t links) (filter (is_on dev) (view_of t links).handles)

-- the thread owes nothing, and it took no remove event
abbrev pub owes_nothing : Thread → Bool
owes_nothing t = owes_none t.part

-- ---- after Shutdown

-- the removal of a device that is left, after Shutdown on thread 0
abbrev pub removal_left : Thread → Links → DevId → Option RegEvent
removal_left t links dev = removal_after t.setup.now links.registry.state t.me links.shut dev

-- the same, where the thread may ask it
abbrev pub removal_due : DevId → Thread → Links → Option RegEvent
removal_due dev t links = if_asked t links (removal_left t links dev)

abbrev pub RemovesLeft : Thread → Links → Thread → Links → DevId → Bool → Type 0
RemovesLeft old before new after dev removed = AsksBy old before new after removed (removal_due dev old before)

-- the channel of one handle on the device was put, and where that was granted it was closed, where one is left; else nothing changes
abbrev pub ClosesLeft : Thread → Links → Thread → Links → DevId → Bool → Type 0
ClosesLeft old before new after dev closed = ClosesBy old before new after closed (left_on dev old before)
