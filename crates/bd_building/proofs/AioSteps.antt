-- What a command adds to the devices that lie on a file, and what such a device is in its setup.
use Rattle.std.proofs.Common.{◌≡◌, ℕ, zero, suc, ◌+◌, ◌<◌, ◌≤◌, Bool, true, false, cond, List, [], ◌∷◌, ◌++◌, length, map, drop, remove, Option, None, Some, is_some, refl, sym, ◌∙◌, ap, subst, append_assoc, append-nil, length-append, arith}
use Rattle.std.specs.Bool.{⊤}
use Rattle.std.specs.List.{AllByRecursion, range_with_len}
use Rattle.std.specs.Prelude.{Result, Ok, Err, slice_get}
use Rattle.std.proofs.lemmas.Option.{same_Some, slice_get_within}
use Rattle.bd_base.specs.declared.device.DevRow.{DevRow}
use Rattle.bd_base.specs.declared.device.ErrKind.{ErrKind}
use Rattle.bd_base.specs.declared.device.IoSet.{IoSet}
use Rattle.bd_base.specs.declared.device.Kind.{Kind}
use Rattle.bd_base.specs.declared.device.Kind.TheVariants as kinds
use Rattle.bd_base.specs.declared.device.RateSet.{RateSet}
use Rattle.bd_base.specs.declared.id.DevId.{DevId}
use Rattle.bd_base.specs.declared.request.Errno.{Errno}
use Rattle.bd_base.specs.declared.setup.Setup.{Setup}
use Rattle.bd_config.specs.declared.command.Command.{Command}
use Rattle.bd_config.specs.declared.command.Command.TheVariants as commands
use Rattle.bd_devices.specs.Devices.{register_refusal, with_device}
use Rattle.bd_machine.specs.BlockMap.{base_of, base_of_row, dev_of_block, has_kind, is_aio, is_aio_kind, is_base_kind, is_error, row_of, size_of, size_of_row}
use Rattle.bd_machine.specs.Registry.{device_named}
use Rattle.bd_machine.specs.Users.{dev_of}
use Rattle.bd_stack.proofs.Downwards.{last_alone}
use Rattle.bd_building.specs.AioDevices.{AioDevice, AllWaitForBase, AreBasesAlone, Grows, IsPlain, aio_at, aio_devices, aio_from, aio_of}
use Rattle.bd_building.specs.Made.{cause_of, made, registered, registered_if, with_devices, with_injection_at, with_limits_at}
use Rattle.bd_building.specs.Progress.{Outcome, Progress, begun, must_wait, nothing_yet, put_off, ready, resumed, resumed_at, settled, settled_within, stepped, then_on, with_setup, without}
use Rattle.bd_building.specs.Rows.{base_name_of, base_named, devices_of, part_at, part_blocks, parts_that_fit, split_over, whole_over}
use Rattle.bd_building.specs.declared.base.Base.{Base}
use Rattle.bd_building.specs.declared.waiter.Waiter.{Waiter}

-- ---- rows

-- no malloc, null or aio device among these rows stands on another
abbrev Alone : List DevRow → Type 0
Alone rows = (n : ℕ) (row : DevRow) → slice_get rows n ≡ Some row → is_base_kind row.kind ≡ true → row.base ≡ None

alone_both : (rows more : List DevRow) → Alone rows → Alone more → Alone (rows ++ more)
alone_both [] more all also n row at base = also n row at base
alone_both (first ∷ rows) more all also zero row at base = all zero row at base
alone_both (first ∷ rows) more all also (suc n) row at base = alone_both rows more (λ k r. all (suc k) r) also n row at base

alone_none : Alone []
alone_none n row at base = cc

alone_one : (first : DevRow) → (is_base_kind first.kind ≡ true → first.base ≡ None) → Alone (first ∷ [])
alone_one first fine zero row at base = subst (λ (r : DevRow). is_base_kind r.kind ≡ true → r.base ≡ None) (same_Some first row at) fine base
alone_one first fine (suc n) row at base = cc

-- rows of which none is of a base device
abbrev AreOver : List DevRow → Type 0
AreOver rows = AllByRecursion (λ (row : DevRow). is_base_kind row.kind ≡ false) rows

over_alone : (rows : List DevRow) → AreOver rows → Alone rows
over_alone [] over n row at base = cc
over_alone (first ∷ rows) over zero row at base =
    let other : is_base_kind row.kind ≡ false = subst (λ (r : DevRow). is_base_kind r.kind ≡ false) (same_Some first row at) over.0 in
    cc
over_alone (first ∷ rows) over (suc n) row at base = over_alone rows over.1 n row at base

aio_is_base : (kind : Kind) → is_aio_kind kind ≡ true → is_base_kind kind ≡ true
aio_is_base kinds.Aio is = refl
aio_is_base kinds.Malloc is = refl
aio_is_base kinds.Null is = refl
aio_is_base kinds.Passthru is = cc
aio_is_base (kinds.Part shift) is = cc
aio_is_base (kinds.Delay average_read p99_read average_write p99_write) is = cc
aio_is_base kinds.Error is = cc

-- ---- the aio devices among them

aio_both : (n : ℕ) (rows more : List DevRow) → aio_from n (rows ++ more) ≡ aio_from n rows ++ aio_from (n + length rows) more
aio_both n [] more = ap (λ (k : ℕ). aio_from k more) (omega arith)
aio_both n (row ∷ rows) more = go (is_aio_kind row.kind) (aio_both (n + 1) rows more ∙ ap (λ (k : ℕ). aio_from (n + 1) rows ++ aio_from k more) (omega arith)) where
  go : (b : Bool) → aio_from (n + 1) (rows ++ more) ≡ aio_from (n + 1) rows ++ aio_from (n + length (row ∷ rows)) more
      → cond b (aio_at n row ∷ aio_from (n + 1) (rows ++ more)) (aio_from (n + 1) (rows ++ more)) ≡ cond b (aio_at n row ∷ aio_from (n + 1) rows) (aio_from (n + 1) rows) ++ aio_from (n + length (row ∷ rows)) more
  go true rest = ap (λ (devices : List AioDevice). aio_at n row ∷ devices) rest
  go false rest = rest

aio_at_most : (n : ℕ) (rows : List DevRow) → length (aio_from n rows) ≤ length rows
aio_at_most n [] = omega arith
aio_at_most n (row ∷ rows) = go (is_aio_kind row.kind) (aio_at_most (n + 1) rows) where
  go : (b : Bool) → length (aio_from (n + 1) rows) ≤ length rows → length (cond b (aio_at n row ∷ aio_from (n + 1) rows) (aio_from (n + 1) rows)) ≤ suc (length rows)
  go true rest = omega arith
  go false rest = omega arith

over_none : (n : ℕ) (rows : List DevRow) → AreOver rows → aio_from n rows ≡ []
over_none n [] over = refl
over_none n (row ∷ rows) over = go (is_aio_kind row.kind) refl (over_none (n + 1) rows over.1) where
  go : (b : Bool) → is_aio_kind row.kind ≡ b → aio_from (n + 1) rows ≡ [] → cond b (aio_at n row ∷ aio_from (n + 1) rows) (aio_from (n + 1) rows) ≡ []
  go true is rest = let base : is_base_kind row.kind ≡ true = aio_is_base row.kind is in let other : is_base_kind row.kind ≡ false = over.0 in cc
  go false is rest = rest

-- ---- the rows of a command

whole_is_over : (group : ℕ) (kind : Kind) (name : List ℕ) (base : Option Base) → is_base_kind kind ≡ false → AreOver (whole_over group kind name base)
whole_is_over group kind name None other = tt
whole_is_over group kind name (Some base) other = (other, tt)

parts_are_over : (group : ℕ) (name : List ℕ) (base : Base) (blocks : ℕ) (numbers : List ℕ) → AreOver (map (part_at group name base blocks) numbers)
parts_are_over group name base blocks [] = tt
parts_are_over group name base blocks (i ∷ numbers) = (refl, parts_are_over group name base blocks numbers)

split_is_over : (group : ℕ) (name : List ℕ) (count megabytes : ℕ) (base : Option Base) → AreOver (split_over group name count megabytes base)
split_is_over group name count megabytes None = tt
split_is_over group name count megabytes (Some base) =
    parts_are_over group name base (part_blocks base count megabytes) (range_with_len 0 (parts_that_fit base count (part_blocks base count megabytes)))

rows_alone : (setup : Setup) (command : Command) (disk : ℕ) → Alone (devices_of setup command disk)
rows_alone setup (commands.Malloc name blocks size boundary depth) disk = alone_one _ (λ base. refl)
rows_alone setup (commands.Null name blocks size boundary depth) disk = alone_one _ (λ base. refl)
rows_alone setup (commands.Aio name file size depth) disk = alone_one _ (λ base. refl)
rows_alone setup (commands.Passthru base name) disk = over_alone _ (whole_is_over (length setup.devices) kinds.Passthru name (base_named setup base) refl)
rows_alone setup (commands.Split base count megabytes) disk = over_alone _ (split_is_over (length setup.devices) base count megabytes (base_named setup base))
rows_alone setup (commands.Delay base name average_read p99_read average_write p99_write) disk = over_alone _ (whole_is_over (length setup.devices) (kinds.Delay average_read p99_read average_write p99_write) name (base_named setup base) refl)
rows_alone setup (commands.Error base) disk = over_alone (devices_of setup (commands.Error base) disk) (whole_is_over (length setup.devices) kinds.Error _ (base_named setup base) refl)
rows_alone setup (commands.SetLimits name rates) disk = alone_none
rows_alone setup (commands.InjectError name types kind count) disk = alone_none
rows_alone setup commands.PassedOver disk = alone_none

rows_aio : (setup : Setup) (n : ℕ) (command : Command) (disk : ℕ) → aio_from n (devices_of setup command disk) ≡ aio_of n command disk
rows_aio setup n (commands.Malloc name blocks size boundary depth) disk = refl
rows_aio setup n (commands.Null name blocks size boundary depth) disk = refl
rows_aio setup n (commands.Aio name file size depth) disk = refl
rows_aio setup n (commands.Passthru base name) disk = over_none n _ (whole_is_over (length setup.devices) kinds.Passthru name (base_named setup base) refl)
rows_aio setup n (commands.Split base count megabytes) disk = over_none n _ (split_is_over (length setup.devices) base count megabytes (base_named setup base))
rows_aio setup n (commands.Delay base name average_read p99_read average_write p99_write) disk = over_none n _ (whole_is_over (length setup.devices) (kinds.Delay average_read p99_read average_write p99_write) name (base_named setup base) refl)
rows_aio setup n (commands.Error base) disk = over_none n (devices_of setup (commands.Error base) disk) (whole_is_over (length setup.devices) kinds.Error _ (base_named setup base) refl)
rows_aio setup n (commands.SetLimits name rates) disk = refl
rows_aio setup n (commands.InjectError name types kind count) disk = refl
rows_aio setup n commands.PassedOver disk = refl

-- a command that asks for devices over another makes no aio device
none_over : (n : ℕ) (command : Command) (disk : ℕ) → is_some (base_name_of command) ≡ true → aio_of n command disk ≡ []
none_over n (commands.Malloc name blocks size boundary depth) disk has = refl
none_over n (commands.Null name blocks size boundary depth) disk has = refl
none_over n (commands.Aio name file size depth) disk has = cc
none_over n (commands.Passthru base name) disk has = refl
none_over n (commands.Split base count megabytes) disk has = refl
none_over n (commands.Delay base name average_read p99_read average_write p99_write) disk has = refl
none_over n (commands.Error base) disk has = refl
none_over n (commands.SetLimits name rates) disk has = refl
none_over n (commands.InjectError name types kind count) disk has = refl
none_over n commands.PassedOver disk has = refl

-- ---- what a command makes

-- a setup, if there is one, has these devices
abbrev Has : List DevRow → Result Setup Errno → Type 0
Has rows (Ok setup) = setup.devices ≡ rows
Has rows (Err errno) = ⊤

if_registered : (rows : List DevRow) (o : Option Errno) (r : Result Setup Errno) → Has rows r → Has rows (registered_if o r)
if_registered rows None r has = has
if_registered rows (Some errno) r has = tt

all_registered : (setup : Setup) (rows : List DevRow) → Has (setup.devices ++ rows) (registered setup rows)
all_registered setup [] = sym (append-nil setup.devices)
all_registered setup (row ∷ rows) =
    if_registered (setup.devices ++ row ∷ rows) (register_refusal setup row) (registered (with_device setup row) rows)
    (subst (λ (all : List DevRow). Has all (registered (with_device setup row) rows)) (append_assoc setup.devices (row ∷ []) rows) (all_registered (with_device setup row) rows))

devices_made : (setup : Setup) (command : Command) (disk : ℕ) (rows : List DevRow) → Has (setup.devices ++ rows) (with_devices setup command disk rows)
devices_made setup command disk rows = if_registered (setup.devices ++ rows) (cause_of setup command disk rows) (registered setup rows) (all_registered setup rows)

limits_made : (setup : Setup) (rates : RateSet) (named : Option ℕ) → Has (setup.devices ++ []) (with_limits_at setup rates named)
limits_made setup rates None = tt
limits_made setup rates (Some n) = sym (append-nil setup.devices)

injection_if : (rows : List DevRow) (b : Bool) (setup : Setup) (errno : Errno) → setup.devices ≡ rows → Has rows (cond b (Ok setup) (Err errno))
injection_if rows true setup errno has = has
injection_if rows false setup errno has = tt

injection_made : (setup : Setup) (types : IoSet) (kind : ErrKind) (count : ℕ) (named : Option ℕ) → Has (setup.devices ++ []) (with_injection_at setup types kind count named)
injection_made setup types kind count None = tt
injection_made setup types kind count (Some n) = injection_if (setup.devices ++ []) (is_error setup (dev_of n)) _ _ (sym (append-nil setup.devices))

-- what a command makes has the devices that stood, and then those that it asks for
made_has : (setup : Setup) (command : Command) (disk : ℕ) → Has (setup.devices ++ devices_of setup command disk) (made setup command disk)
made_has setup (commands.SetLimits name rates) disk = limits_made setup rates (device_named setup name)
made_has setup (commands.InjectError name types kind count) disk = injection_made setup types kind count (device_named setup name)
made_has setup (commands.Malloc name blocks size boundary depth) disk = devices_made setup (commands.Malloc name blocks size boundary depth) disk (devices_of setup (commands.Malloc name blocks size boundary depth) disk)
made_has setup (commands.Null name blocks size boundary depth) disk = devices_made setup (commands.Null name blocks size boundary depth) disk (devices_of setup (commands.Null name blocks size boundary depth) disk)
made_has setup (commands.Aio name file size depth) disk = devices_made setup (commands.Aio name file size depth) disk (devices_of setup (commands.Aio name file size depth) disk)
made_has setup (commands.Passthru base name) disk = devices_made setup (commands.Passthru base name) disk (devices_of setup (commands.Passthru base name) disk)
made_has setup (commands.Split base count megabytes) disk = devices_made setup (commands.Split base count megabytes) disk (devices_of setup (commands.Split base count megabytes) disk)
made_has setup (commands.Delay base name average_read p99_read average_write p99_write) disk = devices_made setup (commands.Delay base name average_read p99_read average_write p99_write) disk (devices_of setup (commands.Delay base name average_read p99_read average_write p99_write) disk)
made_has setup (commands.Error base) disk = devices_made setup (commands.Error base) disk (devices_of setup (commands.Error base) disk)
made_has setup commands.PassedOver disk = devices_made setup commands.PassedOver disk (devices_of setup commands.PassedOver disk)

-- ---- commands that wait

wait_more : (waiting : List Waiter) (w : Waiter) → AllWaitForBase waiting → is_some (base_name_of w.command) ≡ true → AllWaitForBase (waiting ++ w ∷ [])
wait_more [] w all has = (has, tt)
wait_more (first ∷ waiting) w all has = (all.0, wait_more waiting w all.1 has)

wait_after : (waiting : List Waiter) (place : ℕ) → AllWaitForBase waiting → AllWaitForBase (drop place waiting)
wait_after waiting zero all = all
wait_after [] (suc place) all = tt
wait_after (first ∷ waiting) (suc place) all = wait_after waiting place all.1

wait_less : (waiting : List Waiter) (place : ℕ) → AllWaitForBase waiting → AllWaitForBase (remove waiting place)
wait_less [] zero all = tt
wait_less [] (suc place) all = tt
wait_less (first ∷ waiting) zero all = all.1
wait_less (first ∷ waiting) (suc place) all = (all.0, wait_less waiting place all.1)

wait_at : (waiting : List Waiter) (place : ℕ) (w : Waiter) → AllWaitForBase waiting → slice_get waiting place ≡ Some w → is_some (base_name_of w.command) ≡ true
wait_at [] place w all at = cc
wait_at (first ∷ waiting) zero w all at = subst (λ (x : Waiter). is_some (base_name_of x.command) ≡ true) (same_Some first w at) all.0
wait_at (first ∷ waiting) (suc place) w all at = wait_at waiting place w all.1 at

absent_some : (setup : Setup) (command : Command) → must_wait setup command ≡ true → is_some (base_name_of command) ≡ true
absent_some setup (commands.Malloc name blocks size boundary depth) waits = cc
absent_some setup (commands.Null name blocks size boundary depth) waits = cc
absent_some setup (commands.Aio name file size depth) waits = cc
absent_some setup (commands.Passthru base name) waits = refl
absent_some setup (commands.Split base count megabytes) waits = refl
absent_some setup (commands.Delay base name average_read p99_read average_write p99_write) waits = refl
absent_some setup (commands.Error base) waits = refl
absent_some setup (commands.SetLimits name rates) waits = cc
absent_some setup (commands.InjectError name types kind count) waits = cc
absent_some setup commands.PassedOver waits = cc

-- ---- progress

-- a progress, if there is one, adds these aio devices to those of the first
abbrev Reaches : Progress → List AioDevice → Outcome → Type 0
Reaches progress added (Ok next) = Grows progress added next
Reaches progress added (Err refusal) = ⊤

grows_none : (progress : Progress) → IsPlain progress → Grows progress [] progress
grows_none progress plain = record { plain = plain; more = omega arith; devices = sym (append-nil (aio_devices progress.setup)) }

grows_on : (progress middle next : Progress) (added : List AioDevice) → Grows progress added middle → Grows middle [] next → Grows progress added next
grows_on progress middle next added one two = record {
  plain = two.plain;
  more = let first : length progress.setup.devices + length added ≤ length middle.setup.devices = one.more in let second : length middle.setup.devices + 0 ≤ length next.setup.devices = two.more in omega arith;
  devices = two.devices ∙ append-nil (aio_devices middle.setup) ∙ one.devices;
}

reaches_on : (progress middle : Progress) (added : List AioDevice) (o : Outcome) → Grows progress added middle → Reaches middle [] o → Reaches progress added o
reaches_on progress middle added (Ok next) one two = grows_on progress middle next added one two
reaches_on progress middle added (Err refusal) one two = tt

then_reaches : (progress : Progress) (added : List AioDevice) (o : Outcome) (next : Progress → Outcome) → Reaches progress added o → ((p : Progress) → IsPlain p → Reaches p [] (next p)) → Reaches progress added (then_on o next)
then_reaches progress added (Ok middle) next one further = reaches_on progress middle added (next middle) one (further middle one.plain)
then_reaches progress added (Err refusal) next one further = tt

-- what a command makes adds its aio device, if it makes one, and leaves these commands to wait
setup_reaches : (progress left : Progress) (index : ℕ) (command : Command) (disk : ℕ) (r : Result Setup Errno) → IsPlain progress → AllWaitForBase left.waiting → Has (progress.setup.devices ++ devices_of progress.setup command disk) r
    → Reaches progress (aio_of (length progress.setup.devices) command disk) (with_setup left index r)
setup_reaches progress left index command disk (Err errno) plain waiting has = tt
setup_reaches progress left index command disk (Ok setup) plain waiting has = record {
  plain = record { waiting = waiting; alone = subst Alone (sym has) (alone_both progress.setup.devices rows plain.alone (rows_alone progress.setup command disk)) };
  more = subst (λ (all : List DevRow). length progress.setup.devices + length (aio_of (length progress.setup.devices) command disk) ≤ length all) (sym has) within;
  devices = ap (aio_from 0) has ∙ aio_both 0 progress.setup.devices rows ∙ ap (λ (devices : List AioDevice). aio_devices progress.setup ++ devices) (ap (λ (k : ℕ). aio_from k rows) (omega arith) ∙ rows_aio progress.setup (length progress.setup.devices) command disk);
} where
  rows : List DevRow
  rows = devices_of progress.setup command disk

  within : length progress.setup.devices + length (aio_of (length progress.setup.devices) command disk) ≤ length (progress.setup.devices ++ devices_of progress.setup command disk)
  within =
      let fewer : length (aio_of (length progress.setup.devices) command disk) ≤ length (devices_of progress.setup command disk) =
      subst (λ (devices : List AioDevice). length devices ≤ length (devices_of progress.setup command disk)) (rows_aio progress.setup (length progress.setup.devices) command disk) (aio_at_most (length progress.setup.devices) (devices_of progress.setup command disk)) in
      let both : length (progress.setup.devices ++ devices_of progress.setup command disk) ≡ length progress.setup.devices + length (devices_of progress.setup command disk) = length-append progress.setup.devices (devices_of progress.setup command disk) in
      omega arith

resumed_reaches : (progress : Progress) (place : ℕ) (o : Option Waiter) → slice_get progress.waiting place ≡ o → IsPlain progress → Reaches progress [] (resumed progress place o)
resumed_reaches progress place None at plain = grows_none progress plain
resumed_reaches progress place (Some w) at plain =
    subst (λ (added : List AioDevice). Reaches progress added (resumed progress place (Some w)))
    (none_over (length progress.setup.devices) w.command 0 (wait_at progress.waiting place w plain.waiting at))
    (setup_reaches progress (without progress place) w.index w.command 0 (made progress.setup w.command 0) plain (wait_less progress.waiting place plain.waiting) (made_has progress.setup w.command 0))

within_reaches : (n : ℕ) (progress : Progress) → IsPlain progress → Reaches progress [] (settled_within n progress)
within_reaches zero progress plain = grows_none progress plain
within_reaches (suc n) progress plain = go (ready progress) (within_reaches n) where
  go : (o : Option ℕ) → ((p : Progress) → IsPlain p → Reaches p [] (settled_within n p)) → Reaches progress [] (resumed_at (settled_within n) progress o)
  go None further = grows_none progress plain
  go (Some place) further = then_reaches progress [] (resumed progress place (slice_get progress.waiting place)) (settled_within n) (resumed_reaches progress place (slice_get progress.waiting place) refl plain) further

settled_reaches : (progress : Progress) → IsPlain progress → Reaches progress [] (settled progress)
settled_reaches progress plain = within_reaches (length progress.waiting) progress plain

begun_reaches : (progress : Progress) (index : ℕ) (command : Command) (disk : ℕ) → IsPlain progress → Reaches progress (aio_of (length progress.setup.devices) command disk) (begun progress index command disk)
begun_reaches progress index command disk plain = go (must_wait progress.setup command) refl where
  go : (b : Bool) → must_wait progress.setup command ≡ b
      → Reaches progress (aio_of (length progress.setup.devices) command disk) (cond b (Ok (put_off progress index command)) (with_setup progress index (made progress.setup command disk)))
  go true waits =
      let has : is_some (base_name_of command) ≡ true = absent_some progress.setup command waits in
      subst (λ (added : List AioDevice). Grows progress added (put_off progress index command)) (sym (none_over (length progress.setup.devices) command disk has)) (record {
        plain = record { waiting = wait_more progress.waiting (record { index = index; command = command }) plain.waiting has; alone = plain.alone };
        more = omega arith;
        devices = sym (append-nil (aio_devices progress.setup));
      })
  go false waits = setup_reaches progress progress index command disk (made progress.setup command disk) plain plain.waiting (made_has progress.setup command disk)

-- ---- what holds at the beginning, and after each command

-- nothing waits, and no device stands
pub plain_first : (threads : ℕ) → IsPlain (nothing_yet threads)
plain_first threads = record { waiting = tt; alone = alone_none }

pub none_first : (threads : ℕ) → aio_devices (nothing_yet threads).setup ≡ []
none_first threads = refl

-- a command adds its aio device, if it makes one, and no other; nor does what it resumes
pub stepped_grows : (progress next : Progress) (index : ℕ) (command : Command) (disk : ℕ) → IsPlain progress → stepped progress index command disk ≡ Ok next → Grows progress (aio_of (length progress.setup.devices) command disk) next
stepped_grows progress next index command disk plain is =
    subst (Reaches progress (aio_of (length progress.setup.devices) command disk)) is
    (then_reaches progress (aio_of (length progress.setup.devices) command disk) (begun progress index command disk) settled (begun_reaches progress index command disk plain) settled_reaches)

-- ---- what an aio device is in its setup

-- the aio device is that of this row at this place
record IsAt (n : ℕ) (rows : List DevRow) (a : AioDevice) : Type 0 where
  place : ℕ
  row : DevRow
  at : slice_get rows place ≡ Some row
  kind : is_aio_kind row.kind ≡ true
  is : aio_at (n + place) row ≡ a

at_next : (n : ℕ) (first : DevRow) (rows : List DevRow) (a : AioDevice) → IsAt (n + 1) rows a → IsAt n (first ∷ rows) a
at_next n first rows a rest = record { place = suc rest.place; row = rest.row; at = rest.at; kind = rest.kind; is = ap (λ (k : ℕ). aio_at k rest.row) (omega arith) ∙ rest.is }

found_at : (n : ℕ) (rows : List DevRow) (k : ℕ) (a : AioDevice) → slice_get (aio_from n rows) k ≡ Some a → IsAt n rows a
found_at n [] k a at = cc
found_at n (row ∷ rows) k a at = go (is_aio_kind row.kind) refl k at (found_at (n + 1) rows) where
  go : (b : Bool) → is_aio_kind row.kind ≡ b → (i : ℕ) → slice_get (cond b (aio_at n row ∷ aio_from (n + 1) rows) (aio_from (n + 1) rows)) i ≡ Some a
      → ((j : ℕ) (x : AioDevice) → slice_get (aio_from (n + 1) rows) j ≡ Some x → IsAt (n + 1) rows x) → IsAt n (row ∷ rows) a
  go true kind zero at further = record { place = 0; row = row; at = refl; kind = kind; is = ap (λ (m : ℕ). aio_at m row) (omega arith) ∙ same_Some (aio_at n row) a at }
  go true kind (suc i) at further = at_next n row rows a (further i a at)
  go false kind i at further = at_next n row rows a (further i a at)

number_is : (setup : Setup) (a : AioDevice) (found : IsAt 0 setup.devices a) → a.dev ≡ dev_of found.place
number_is setup a found = ap (λ (x : AioDevice). x.dev) (sym found.is) ∙ ap dev_of (omega arith)

-- the device's base device is the device itself, which lies on a file, and has the size of its row
pub aio_is : (setup : Setup) (k : ℕ) (a : AioDevice) → AreBasesAlone setup → slice_get (aio_devices setup) k ≡ Some a → (is_aio setup a.dev ≡ true) × (base_of setup a.dev ≡ a.dev) × (size_of setup a.dev ≡ a.size)
aio_is setup k a alone at = go (found_at 0 setup.devices k a at) where
  go : IsAt 0 setup.devices a → (is_aio setup a.dev ≡ true) × (base_of setup a.dev ≡ a.dev) × (size_of setup a.dev ≡ a.size)
  go found =
      let row_is : row_of setup a.dev ≡ Some found.row = ap (row_of setup) (number_is setup a found) ∙ found.at in
      let base_is : base_of setup a.dev ≡ a.dev =
      sym (ap dev_of_block (last_alone setup (length setup.devices) a.dev 0 (ap base_of_row row_is ∙ alone found.place found.row found.at (aio_is_base found.row.kind found.kind)))) in
      (ap (λ (dev : DevId). has_kind is_aio_kind (row_of setup dev)) base_is ∙ ap (has_kind is_aio_kind) row_is ∙ found.kind, base_is, ap size_of_row row_is ∙ ap (λ (x : AioDevice). x.size) found.is)

-- the device is one of the setup's
pub aio_below : (setup : Setup) (k : ℕ) (a : AioDevice) → slice_get (aio_devices setup) k ≡ Some a → a.dev.0 < length setup.devices
aio_below setup k a at = go (found_at 0 setup.devices k a at) where
  go : IsAt 0 setup.devices a → a.dev.0 < length setup.devices
  go found = subst (λ (dev : DevId). dev.0 < length setup.devices) (sym (number_is setup a found)) (slice_get_within setup.devices found.place found.row found.at)
