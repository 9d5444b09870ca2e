-- What is said of the destruction of a device.
use Rattle.std.specs.Prelude.{◌≡◌, Bool, true, false, List, ℕ, find, Option, Some}
use Rattle.bd_base.specs.declared.act.Act.TheVariants as acts
use Rattle.bd_base.specs.declared.id.DevId.{DevId}
use Rattle.bd_blocks.specs.Digests.{digest_due}
use Rattle.bd_machine.specs.BlockMap.{is_malloc}
use Rattle.bd_machine.specs.Homes.{is_base, may_destruct}
use Rattle.bd_rule_view.specs.Came.{came_free}
use Rattle.bd_links.specs.Entries.{longer}
use Rattle.bd_thread.specs.declared.links.Links.{Links}
use Rattle.bd_thread.specs.declared.thread.Thread.{Thread}
use Rattle.bd_thread.specs.Seen.{view_of}

-- the rules let the thread destruct the device: one that it was told to destruct is free, whatever the others do
abbrev pub may_device_go : Thread → Links → DevId → Bool
may_device_go t links dev = may_destruct t.setup.now t.me (view_of t links) (came_free true) dev

-- one Destruct entry where the device may go and what it shows is here, else nothing changes
abbrev pub DestructAdded : Thread → Links → Thread → Links → DevId → Bool → Bool → Option (Option (List ℕ)) → Type 0
DestructAdded old before new after dev done true (Some digest) = (done ≡ true) × (after.entries ≡ longer old.me before.entries (acts.Destruct dev digest))
DestructAdded old before new after dev done _ _ = (done ≡ false) × ((new ≡ old) × (after ≡ before))

abbrev pub Destructs : Thread → Links → Thread → Links → DevId → Bool → Type 0
Destructs old before new after dev done =
    DestructAdded old before new after dev done (may_device_go old before dev) (digest_due (is_malloc old.setup.now dev) (find (is_base dev) old.part.bases))
