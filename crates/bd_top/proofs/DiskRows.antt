-- The disks of a run by the rows that the host tells of them: as they are opened, as the run goes on, and as they are closed.
use Rattle.std.proofs.Common.{◌≡◌, ℕ, zero, suc, ◌+◌, ◌<◌, ◌≤◌, ◌%◌, ◌&&◌, Bool, true, false, cond, List, [], ◌∷◌, ◌++◌, length, set, Option, Some, None, Ok, ◌⊎◌, inl, inr, refl, sym, ◌∙◌, ap, ap₂, subst, append-nil, zero-add, arith}
use Rattle.std.specs.List.{count_by, slice_get}
use Rattle.std.specs.Option.{option_map}
use Rattle.std.specs.Prelude.{is_some, min, slice_index_or, IfSome}
use Rattle.std.proofs.Math.Nat.{le-min, min-eq_left, min-eq_right, min-le_left, min-le_right}
use Rattle.std.proofs.lemmas.Bool.{cases_lt}
use Rattle.std.proofs.lemmas.List.{length-append}
use Rattle.std.proofs.lemmas.List.Sorted.{IsPermutation-refl}
use Rattle.std.proofs.lemmas.List.Sums.{sum_by-cons}
use Rattle.std.proofs.lemmas.Option.{get_or_from_slice_get}
use Rattle.bd_base.specs.declared.act.ApplyEnd.{ApplyEnd}
use Rattle.bd_base.specs.declared.act.ApplyEnd.TheVariants as apply_ends
use Rattle.bd_base.specs.declared.act.Entry.{Entry}
use Rattle.bd_base.specs.declared.id.DevId.{DevId}
use Rattle.bd_base.specs.declared.setup.Setup.{Setup}
use Rattle.bd_building.specs.AioDevices.{aio_devices, aio_of, AioDevice, AreBasesAlone}
use Rattle.bd_building.specs.Progress.{nothing_yet, stepped, Progress}
use Rattle.bd_building.proofs.AioSteps.{aio_is, plain_first, stepped_grows}
use Rattle.bd_config.specs.declared.command.Command.{Command}
use Rattle.bd_config.specs.declared.command.Command.TheVariants as commands
use Rattle.bd_disks.specs.Holding.{content_of}
use Rattle.bd_disks.specs.Rows.{disk_of, Does}
use Rattle.bd_disks.specs.Serving.{is_flush, IsServed}
use Rattle.bd_disks.specs.Shelf.{places_of, AreAllThere}
use Rattle.bd_machine.specs.declared.state.Base.{Base}
use Rattle.bd_machine.specs.BlockMap.{base_of, has_kind, home, is_aio, is_aio_kind, row_of, size_of}
use Rattle.bd_machine.specs.Completion.{is_done_end, is_fault_end}
use Rattle.bd_machine.specs.Content.{content_told, Told as Contents}
use Rattle.bd_machine.specs.Run.{state_after}
use Rattle.bd_machine.specs.Start.{start}
use Rattle.bd_machine.specs.Users.{dev_of}
use Rattle.bd_node.specs.Disks.{disks_at, told_of, SaysOfDisks}
use Rattle.bd_disk_pool.specs.Closing.{closing_all}
use Rattle.bd_disk_pool.specs.Covering.{AreClosed, AreDone, Begun, HasAdded, HaveGoneOn, IsClosed, IsDone}
use Rattle.bd_disk_pool.specs.Held.{none_held, with_disk, Held}
use Rattle.bd_disk_pool.proofs.Lists.{at_last, at_second, has_at, is_below, some_same}
use Rattle.bd_disk_pool.proofs.EachClosed.{name_same, untold_all}
use Rattle.bd_disk_pool.proofs.AllThere.{all_are_closed}
use Rattle.bd_disk_pool.proofs.Opens.{closed_so, none_open, one_more as one_more_open, raised}
use Rattle.bd_outside.specs.Count.{last_count, one_more, Rises}
use Rattle.bd_outside.specs.Disk.{closing_of, DiskState, HasWholeBlocks, IsOpenedOver}
use Rattle.bd_outside.specs.File.{Told}
use Rattle.bd_outside.specs.Host.{HostState, IsLater, Opens}
use Rattle.bd_outside.specs.Opening.{close_at, closed_row, open_row, openings_closed, AddsOpening}
use Rattle.bd_outside.specs.declared.opening.Opening.{Opening}
use Rattle.bd_law_served.specs.Served.{served_in, ServedPiece}
use Rattle.bd_disks.specs.Contents.{contents_of, content_if}
use Rattle.bd_disks.specs.Done.{DidPieces, DidPiecesIf}
use Rattle.bd_top.proofs.AtHome.{base_last, begins_as_told}
use Rattle.bd_top.proofs.Contents.{told_at_home}
use Rattle.bd_top.specs.DiskRows.{content_at_home, is_fault, is_flushed, AreFresh, AreSetOut, HasDisks, IsDiskOf, IsFresh, IsSetOut, OpensFor, StandOpen, TellDisks, TellsSo}

none_is_some : {X : Type 0} {Q : Type 0} {x : X} → None ≡ Some x → Q
none_is_some e = cc

-- ---- opening

-- no disk is open, and none was
pub none_set_out : {D : Type 0} (state : D → DiskState) (told : List ℕ → Told) (threads : ℕ) (now : Option (List Opening)) → AreSetOut state told 0 [] (none_held {D = D} threads) now now
none_set_out state told threads None = tt
none_set_out state told threads (Some rows) = record {
  begun = [];
  stand = none_open state threads rows;
  fresh = record { many = refl; each = λ k device b at at'. none_is_some at };
}

pub stand_first : {D : Type 0} (state : D → DiskState) (told : List ℕ → Told) (threads : ℕ) (host : HostState) → TellsSo host told → StandOpen state told host.openings (nothing_yet threads) (none_held {D = D} threads) host
stand_first {D = D} state told threads host same = record { same = same; plain = plain_first threads; rows = none_set_out {D = D} state told threads host.openings }

-- a disk more, after those of devices with lower numbers
fresh_more : (told : List ℕ → Told) (devices : List AioDevice) (begun : List Begun) (device : AioDevice) (b : Begun) → AreFresh told devices begun → IsFresh told device b → AreFresh told (devices ++ device ∷ []) (begun ++ b ∷ [])
fresh_more told devices begun device b are is = record {
  many = length-append begun (b ∷ []) ∙ ap (λ (n : ℕ). n + 1) are.many ∙ sym (length-append devices (device ∷ []));
  each = each;
}
  where
    each : (k : ℕ) (d : AioDevice) (c : Begun) → slice_get (devices ++ device ∷ []) k ≡ Some d → slice_get (begun ++ b ∷ []) k ≡ Some c → IsFresh told d c
    each k d c at at' = go (at_last devices device k d at) (at_last begun b k c at')
      where
        go : (slice_get devices k ≡ Some d) ⊎ ((k ≡ length devices) × (device ≡ d)) → (slice_get begun k ≡ Some c) ⊎ ((k ≡ length begun) × (b ≡ c)) → IsFresh told d c
        go (inl old) (inl was) = are.each k d c old was
        go (inl old) (inr last) = let lt : k < length devices = is_below devices k d old in absurd (omega (arith, lt, last.0, are.many))
        go (inr last) (inl was) = let lt : k < length begun = is_below begun k c was in absurd (omega (arith, lt, last.0, are.many))
        go (inr last) (inr now) = subst (λ (x : Begun). IsFresh told d x) now.1 (subst (λ (x : AioDevice). IsFresh told x b) last.1 is)

pub opened_more : {D : Type 0} (state : D → DiskState) (told : List ℕ → Told) (n : ℕ) (devices : List AioDevice) (held : Held D) (base now next : Option (List Opening)) (device : AioDevice) (name : List ℕ) (disk : D)
    → AreSetOut state told n devices held base now
    → AddsOpening now next (open_row name (state disk).blocks) (state disk).place
    → 0 < length held.threads
    → IsFresh told device (record { dev = dev_of n; name = name; disk = state disk })
    → AreSetOut state told (n + 1) (devices ++ device ∷ []) (with_disk held (dev_of n) name disk) base next
opened_more {D = D} state told n devices held base None next device name disk are adds some is =
    subst (AreSetOut state told (n + 1) (devices ++ device ∷ []) (with_disk held (dev_of n) name disk) base) (sym adds) tt
opened_more {D = D} state told n devices held None (Some rows) next device name disk are adds some is = absurd are
opened_more {D = D} state told n devices held (Some base) (Some rows) next device name disk are (inr silent) some is =
    subst (AreSetOut state told (n + 1) (devices ++ device ∷ []) (with_disk held (dev_of n) name disk) (Some base)) (sym silent) tt
opened_more {D = D} state told n devices held (Some base) (Some rows) next device name disk are (inl added) some is =
    subst (AreSetOut state told (n + 1) (devices ++ device ∷ []) (with_disk held (dev_of n) name disk) (Some base)) (sym added.0)
    (record {
      begun = are.begun ++ record { dev = dev_of n; name = name; disk = state disk } ∷ [];
      stand =
          raised state (suc n) (n + 1) (with_disk held (dev_of n) name disk) (are.begun ++ record { dev = dev_of n; name = name; disk = state disk } ∷ []) base (rows ++ open_row name (state disk).blocks ∷ []) (omega arith)
          (one_more_open state n held are.begun base rows (dev_of n) name disk are.stand (omega arith) some added.1);
      fresh = fresh_more told devices are.begun device (record { dev = dev_of n; name = name; disk = state disk }) are.fresh is;
    })

-- a command's file was opened as the disk of its device
pub opened_aio : {D : Type 0} (state : D → DiskState) (n : ℕ) (command : Command) (name file : List ℕ) (size depth blocks : ℕ) (disk : D) (before after : Held D) (old new : HostState)
    → command ≡ commands.Aio name file size depth
    → blocks ≡ (state disk).blocks
    → (state disk).block_size ≡ size
    → IsOpenedOver (old.told file) (state disk)
    → HasWholeBlocks (state disk)
    → (state disk).faults ≡ 0
    → (state disk).flushes ≡ 0
    → Opens old new file (state disk)
    → 0 < length before.threads
    → after ≡ with_disk before (dev_of n) file disk
    → OpensFor state n command blocks old before new after
opened_aio {D = D} state n command name file size depth blocks disk before after old new is many of-size over whole no-faults no-flushes opens some added told base devices same are =
    subst (λ (c : Command). AreSetOut state told (n + length (aio_of n c blocks)) (devices ++ aio_of n c blocks) after base new.openings) (sym is)
    (subst (λ (held : Held D). AreSetOut state told (n + 1) (devices ++ device ∷ []) held base new.openings) (sym added)
    (opened_more state told n devices before base old.openings new.openings device file disk are opens some fresh))
  where
    device : AioDevice
    device = record { dev = dev_of n; file = Some file; size = size; blocks = blocks }

    fresh : IsFresh told device (record { dev = dev_of n; name = file; disk = state disk })
    fresh = record {
      device_is = refl;
      file = refl;
      size = of-size;
      blocks = sym many;
      over = subst (λ (t : Told). IsOpenedOver t (state disk)) (same file) over;
      whole = whole;
      no_faults = no-faults;
      no_flushes = no-flushes;
    }

-- ---- commands

raised_told : {D : Type 0} (state : D → DiskState) (told : List ℕ → Told) (n m : ℕ) (devices : List AioDevice) (held : Held D) (base now : Option (List Opening)) → n ≤ m → AreSetOut state told n devices held base now → AreSetOut state told m devices held base now
raised_told state told n m devices held base None le are = tt
raised_told state told n m devices held None (Some rows) le are = absurd are
raised_told state told n m devices held (Some base) (Some rows) le are = record { begun = are.begun; stand = raised state n m held are.begun base rows le are.stand; fresh = are.fresh }

-- **a command was done, its disk opened before**
pub stand_next : {D : Type 0} (state : D → DiskState) (told : List ℕ → Told) (base : Option (List Opening)) (progress next : Progress) (index : ℕ) (command : Command) (blocks : ℕ) (before after : Held D) (old new : HostState)
    → OpensFor state (length progress.setup.devices) command blocks old before new after
    → IsLater old new
    → stepped progress index command blocks ≡ Ok next
    → StandOpen state told base progress before old
    → StandOpen state told base next after new
stand_next {D = D} state told base progress next index command blocks before after old new opens later is stand =
    let grows = stepped_grows progress next index command blocks stand.plain is in
    let own : List AioDevice = aio_of (length progress.setup.devices) command blocks in
    record {
      same = λ name. later.told name ∙ stand.same name;
      plain = grows.plain;
      rows =
          subst (λ (devices : List AioDevice). AreSetOut state told (length next.setup.devices) devices after base new.openings) (sym grows.devices)
          (raised_told state told (length progress.setup.devices + length own) (length next.setup.devices) (aio_devices progress.setup ++ own) after base new.openings grows.more
          (opens told base (aio_devices progress.setup) stand.same stand.rows));
    }

-- ---- closing

pub closed_same : (now : Option (List Opening)) → AreClosed now now
closed_same None = tt
closed_same (Some rows) = record { added = []; are = sym (append-nil rows); each = λ k row at. none_is_some at }

pub closed_still : (now then : Option (List Opening)) → then ≡ now → AreClosed now then
closed_still now then same = subst (AreClosed now) (sym same) (closed_same now)

-- **where the disks that were open are all still there, they are closed; further ones that were opened since were closed already**
pub all_closed : {D : Type 0} (state : D → DiskState) (told : List ℕ → Told) (n : ℕ) (devices : List AioDevice) (held : Held D) (base now then : Option (List Opening)) (after : List (List (DevId × D))) → AreSetOut state told n devices held base now
    → AreClosed now then → AreAllThere state held.threads after → AreClosed base (closing_all state held.names after then)
all_closed state told n devices held base now None after are more there = subst (AreClosed base) (sym (untold_all state held.names after)) tt
all_closed state told n devices held base None (Some rows) after are more there = absurd more
all_closed state told n devices held None (Some was) (Some rows) after are more there = absurd are
all_closed state told n devices held (Some base) (Some was) (Some rows) after are more there =
    let end = all_are_closed state n held are.begun base was rows after are.stand more there in
    subst (AreClosed (Some base)) (sym end.1) end.2

-- the same of the disks as they were opened, by what the closing left
pub closed_after : {D : Type 0} (state : D → DiskState) (told : List ℕ → Told) (n : ℕ) (devices : List AioDevice) (held last : Held D) (base now then final : Option (List Opening)) → AreSetOut state told n devices held base now
    → last ≡ held → AreClosed now then → final ≡ closing_all state last.names last.threads then → AreClosed base final
closed_after {D = D} state told n devices held last base now then final are same more is =
    subst (AreClosed base) (sym (is ∙ ap (λ (h : Held D). closing_all state h.names h.threads then) same))
    (all_closed state told n devices held base now then held.threads are more (IsPermutation-refl (places_of state held.threads)))

set_last : {X : Type 0} (xs : List X) (y z : X) → set (xs ++ y ∷ []) (length xs) z ≡ xs ++ z ∷ []
set_last [] y z = refl
set_last {X = X} (x ∷ xs) y z = ap (λ (ys : List X). x ∷ ys) (set_last xs y z)

-- a disk that was opened and closed again at once, by the same name
pub closed_at_once : (old next final : Option (List Opening)) (name : List ℕ) (disk : DiskState) → AddsOpening old next (open_row name disk.blocks) disk.place
    → final ≡ openings_closed next disk.place name (closing_of disk) → AreClosed old final
closed_at_once None next final name disk adds is =
    subst (AreClosed None) (sym (is ∙ ap (λ (o : Option (List Opening)). openings_closed o disk.place name (closing_of disk)) adds)) tt
closed_at_once (Some rows) next final name disk (inr silent) is =
    subst (AreClosed (Some rows)) (sym (is ∙ ap (λ (o : Option (List Opening)). openings_closed o disk.place name (closing_of disk)) silent)) tt
closed_at_once (Some rows) next final name disk (inl added) is =
    subst (AreClosed (Some rows)) (sym final-is) (record { added = closed ∷ []; are = refl; each = each })
  where
    row : Opening
    row = open_row name disk.blocks

    closed : Opening
    closed = record row { closing = Some (closing_of disk) }

    its-row : slice_get (rows ++ row ∷ []) (length rows) ≡ Some row
    its-row = at_second rows (row ∷ []) 0 (length rows) (omega arith)

    shut : closed_row row name (closing_of disk) ≡ closed
    shut = ap (λ (b : Bool). cond (b && true) closed row) (name_same name)

    final-is : final ≡ Some (rows ++ closed ∷ [])
    final-is =
        is
        ∙ ap₂ (λ (o : Option (List Opening)) (place : Option ℕ). openings_closed o place name (closing_of disk)) added.0 added.1
        ∙ ap (λ (o : Option Opening). Some (close_at (rows ++ row ∷ []) (length rows) o name (closing_of disk))) its-row
        ∙ ap (λ (r : Opening). Some (set (rows ++ row ∷ []) (length rows) r)) shut
        ∙ ap (λ (rs : List Opening). Some rs) (set_last rows row closed)

    each : (k : ℕ) (r : Opening) → slice_get (closed ∷ []) k ≡ Some r → IsClosed k r
    each zero r at = ap (λ (o : Opening). is_some o.closing) (sym (some_same at))
    each (suc k) r at = none_is_some at

-- ---- what a disk did

keeps_place : (size : ℕ) (pieces : List ServedPiece) (a b : DiskState) → DidPieces size pieces a b → b.place ≡ a.place
keeps_place size [] a b did = ap (λ (d : DiskState). d.place) did
keeps_place size (p ∷ ps) a b did = keeps_place size ps did.0 b did.3 ∙ did.2.shape.place

-- one such piece more, or none
one_counted : (is : ServedPiece → Bool) (p : ServedPiece) (ps : List ServedPiece) → count_by is (p ∷ ps) ≡ cond (is p) 1 0 + count_by is ps
one_counted is p ps = sum_by-cons (λ (q : ServedPiece). cond (is q) 1 0) p ps

at_last_count : (k n m : ℕ) → n ≤ last_count → m ≡ min (k + n) last_count → m ≤ last_count
at_last_count k n m le is = subst (λ (x : ℕ). x ≤ last_count) (sym is) (min-le_right (k + n) last_count)

counts_on : (k l n m : ℕ) → m ≡ min (k + n) last_count → min (l + m) last_count ≡ min (k + l + n) last_count
counts_on k l n m is = subst (λ (x : ℕ). min (l + x) last_count ≡ min (k + l + n) last_count) (sym is) (go (cases_lt (k + n) last_count))
  where
    go : (k + n < last_count) ⊎ (last_count ≤ k + n) → min (l + min (k + n) last_count) last_count ≡ min (k + l + n) last_count
    go (inl lt) = ap (λ (x : ℕ). min (l + x) last_count) (min-eq_left (omega (arith, lt))) ∙ ap (λ (x : ℕ). min x last_count) (omega arith)
    go (inr le) =
        ap (λ (x : ℕ). min (l + x) last_count) (min-eq_right le)
        ∙ min-eq_right (omega arith) ∙ sym (min-eq_right (omega (arith, le)))

-- a piece raised the count of flushes by one if it was a flush that was done, unless the count stood at its last value
one_flushed : (size : ℕ) (p : ServedPiece) (read : Option (List ℕ)) (a b : DiskState) → Does size p.piece p.end read a b → a.flushes ≤ last_count → b.flushes ≡ min (cond (is_flushed p) 1 0 + a.flushes) last_count
one_flushed size p read a b did le = by_end p.end did.served
  where
    none : a.flushes ≡ min (0 + a.flushes) last_count
    none = sym (ap (λ (n : ℕ). min n last_count) (zero-add a.flushes) ∙ min-eq_left le)

    if_flush : (f : Bool) → cond f (one_more a.flushes) a.flushes ≡ min (cond (f && true) 1 0 + a.flushes) last_count
    if_flush true = ap (λ (n : ℕ). min n last_count) (omega arith)
    if_flush false = none

    if_fault : (f : Bool) → a.flushes ≡ min (cond (f && false) 1 0 + a.flushes) last_count
    if_fault true = none
    if_fault false = none

    by_end : (end : ApplyEnd) → IsServed size p.piece a b end read → b.flushes ≡ min (cond (is_flush p.piece.op && is_done_end (Some end)) 1 0 + a.flushes) last_count
    by_end apply_ends.Done is = is.flushes ∙ if_flush (is_flush p.piece.op)
    by_end apply_ends.Fault is = is.flushes ∙ if_fault (is_flush p.piece.op)

flushed : (size : ℕ) (pieces : List ServedPiece) (a b : DiskState) → DidPieces size pieces a b → a.flushes ≤ last_count → b.flushes ≡ min (count_by is_flushed pieces + a.flushes) last_count
flushed size [] a b did le = ap (λ (d : DiskState). d.flushes) did ∙ sym (ap (λ (n : ℕ). min n last_count) (zero-add a.flushes) ∙ min-eq_left le)
flushed size (p ∷ ps) a b did le =
    let one : did.0.flushes ≡ min (cond (is_flushed p) 1 0 + a.flushes) last_count = one_flushed size p did.1 a did.0 did.2 le in
    flushed size ps did.0 b did.3 (at_last_count (cond (is_flushed p) 1 0) a.flushes did.0.flushes le one)
    ∙ counts_on (cond (is_flushed p) 1 0) (count_by is_flushed ps) a.flushes did.0.flushes one
    ∙ ap (λ (n : ℕ). min (n + a.flushes) last_count) (sym (one_counted is_flushed p ps))

least : (k l n m c : ℕ) → (k + n ≤ m) ⊎ (last_count ≤ m) → min (l + m) last_count ≤ c → min (k + l + n) last_count ≤ c
least k l n m c raised le =
    let no_more : min (k + l + n) last_count ≤ last_count = min-le_right (k + l + n) last_count in
    let within : min (k + l + n) last_count ≤ l + m = go raised in
    let both : min (k + l + n) last_count ≤ min (l + m) last_count = le-min within no_more in
    omega (arith, both, le)
  where
    go : (k + n ≤ m) ⊎ (last_count ≤ m) → min (k + l + n) last_count ≤ l + m
    go (inl rose) = let all : min (k + l + n) last_count ≤ k + l + n = min-le_left (k + l + n) last_count in omega (arith, all, rose)
    go (inr full) = let all : min (k + l + n) last_count ≤ last_count = min-le_right (k + l + n) last_count in omega (arith, all, full)

-- a piece that ended with a fault raised the count of faults, unless that stands at its last value
one_faulted : (size : ℕ) (p : ServedPiece) (read : Option (List ℕ)) (a b : DiskState) → Does size p.piece p.end read a b → (cond (is_fault p) 1 0 + a.faults ≤ b.faults) ⊎ (last_count ≤ b.faults)
one_faulted size p read a b did = by_end p.end did.served
  where
    rose : Rises a.faults b.faults → (1 + a.faults ≤ b.faults) ⊎ (last_count ≤ b.faults)
    rose (inl lt) = inl (omega (arith, lt))
    rose (inr full) = inr (omega (arith, full))

    by_end : (end : ApplyEnd) → IsServed size p.piece a b end read → (cond (is_fault_end (Some end)) 1 0 + a.faults ≤ b.faults) ⊎ (last_count ≤ b.faults)
    by_end apply_ends.Done is = inl (let le : a.faults ≤ b.faults = did.faults in omega (arith, le))
    by_end apply_ends.Fault is = rose is.faults

faulted : (size : ℕ) (pieces : List ServedPiece) (a b : DiskState) → DidPieces size pieces a b → min (count_by is_fault pieces + a.faults) last_count ≤ b.faults
faulted size [] a b did = subst (λ (d : DiskState). min (0 + a.faults) last_count ≤ d.faults) (sym did) (let le : min (0 + a.faults) last_count ≤ 0 + a.faults = min-le_left (0 + a.faults) last_count in omega (arith, le))
faulted size (p ∷ ps) a b did =
    subst (λ (n : ℕ). min (n + a.faults) last_count ≤ b.faults) (sym (one_counted is_fault p ps))
    (least (cond (is_fault p) 1 0) (count_by is_fault ps) a.faults did.0.faults b.faults (one_faulted size p did.1 a did.0 did.2) (faulted size ps did.0 b did.3))

-- ---- after a run

module _ {D : Type 0} (state : D → DiskState) (told : List ℕ → Told) (setup : Setup) (trace : List Entry) (held : Held D) (after : List (List (DevId × D))) (alone : AreBasesAlone setup)
    (some : 0 < setup.threads) (threads : length held.threads ≡ setup.threads) (says : SaysOfDisks state setup trace held.threads after) where
  -- what the disks told as the run began
  abbrev disks_told : Contents
  disks_told = told_of state setup held.threads

  -- what a device's disk did, and what it has then, by the history
  abbrev Did : DevId → DiskState → DiskState → Type 0
  Did dev a b = DidPieces (size_of setup dev) (served_in setup disks_told trace dev) a b × (content_at_home setup (state_after setup disks_told trace) dev ≡ Some (content_of b))

  -- the disk of a device at its home has what the run leaves the device
  has_last : (dev : DevId) (disks : List (DevId × D)) (disk : D) → is_aio setup dev ≡ true → base_of setup dev ≡ dev → slice_get after (home setup dev) ≡ Some disks → disk_of dev disks ≡ Some disk
      → content_at_home setup (state_after setup disks_told trace) dev ≡ Some (content_of (state disk))
  has_last dev disks disk aio own at found =
      let base = base_last setup disks_told dev some (subst (λ (d : DevId). has_kind is_aio_kind (row_of setup d) ≡ true) own aio) trace in
      let holds : base.0.content ≡ contents_of state (disks_at after (home setup dev)) dev =
      subst (λ (o : Option Base). IfSome o (λ b. b.content ≡ contents_of state (disks_at after (home setup dev)) dev)) base.1 (says.holds dev aio) in
      ap (option_map (λ (b : Base). b.content)) base.1
      ∙ ap Some
      (holds
      ∙ ap (λ (ds : List (DevId × D)). contents_of state ds dev) (get_or_from_slice_get after (home setup dev) disks [] at)
      ∙ ap (λ (o : Option D). content_if (option_map state o)) found)

  module _ (base rows : List Opening) (are : IsSetOut state told (length setup.devices) (aio_devices setup) held base rows) where
    -- the aio device of a disk that was opened
    device_of : (k : ℕ) (b : Begun) → slice_get are.begun k ≡ Some b → (device : AioDevice) × (slice_get (aio_devices setup) k ≡ Some device) × IsFresh told device b
    device_of k b at =
        let there = has_at (aio_devices setup) k (subst (λ (n : ℕ). k < n) are.fresh.many (is_below are.begun k b at)) in
        (there.0, there.1, are.fresh.each k there.0 b there.1 at)

    did_so : (k : ℕ) (is : Begun) (a b : List (DevId × D)) (x y : D) → slice_get are.begun k ≡ Some is
        → slice_get held.threads (is.dev.0 % length held.threads) ≡ Some a → slice_get after (is.dev.0 % length held.threads) ≡ Some b → disk_of is.dev a ≡ Some x → disk_of is.dev b ≡ Some y
        → Did is.dev (state x) (state y)
    did_so k is a b x y at at-a at-b at-x at-y =
        let device = device_of k is at in
        let facts = aio_is setup k device.0 alone device.1 in
        let aio : is_aio setup is.dev ≡ true = subst (λ (d : DevId). is_aio setup d ≡ true) (sym device.2.device_is) facts.0 in
        let own : base_of setup is.dev ≡ is.dev = subst (λ (d : DevId). base_of setup d ≡ d) (sym device.2.device_is) facts.1 in
        let t : is.dev.0 % length held.threads ≡ home setup is.dev = ap (λ (n : ℕ). is.dev.0 % n) threads ∙ ap (λ (d : DevId). d.0 % setup.threads) (sym own) in
        let there : slice_get held.threads (home setup is.dev) ≡ Some a = subst (λ (n : ℕ). slice_get held.threads n ≡ Some a) t at-a in
        let then : slice_get after (home setup is.dev) ≡ Some b = subst (λ (n : ℕ). slice_get after n ≡ Some b) t at-b in
        let pieces : DidPiecesIf (size_of setup is.dev) (served_in setup disks_told trace is.dev) (option_map state (disk_of is.dev a)) (option_map state (disk_of is.dev b)) =
        (says.each (home setup is.dev) a b there then).pieces_are is.dev aio in (
          subst (λ (o : Option D). DidPiecesIf (size_of setup is.dev) (served_in setup disks_told trace is.dev) (Some (state x)) (option_map state o)) at-y
              (subst (λ (o : Option D). DidPiecesIf (size_of setup is.dev) (served_in setup disks_told trace is.dev) (option_map state o) (option_map state (disk_of is.dev b))) at-x pieces),
          has_last is.dev b y aio own then at-y,
        )

    went_on : HaveGoneOn state Did are.begun held.threads after
    went_on = record {
      len = says.len;
      devices = λ t a b at at'. (says.each t a b at at').devices;
      did = did_so;
      place = λ dev a b did. keeps_place (size_of setup dev) (served_in setup disks_told trace dev) a b did.0;
    }

    end : (final : List Opening) × (closing_all state held.names after (Some rows) ≡ Some final) × AreDone Did are.begun base final
    end = closed_so state Did (length setup.devices) held are.begun base rows after are.stand went_on

    -- the run began with what the disk of an aio device held
    held_first : (k : ℕ) (device : AioDevice) (b : Begun) → slice_get (aio_devices setup) k ≡ Some device → slice_get are.begun k ≡ Some b → device.dev ≡ b.dev
        → content_at_home setup (start setup disks_told) device.dev ≡ Some (content_of b.disk)
    held_first k device b at at-b same =
        let facts = aio_is setup k device alone at in
        let at-home = are.stand.all k b at-b in
        let t : ℕ = b.dev.0 % length held.threads in
        let own : base_of setup b.dev ≡ b.dev = subst (λ (d : DevId). base_of setup d ≡ d) same facts.1 in
        let here : t ≡ home setup b.dev = ap (λ (n : ℕ). b.dev.0 % n) threads ∙ ap (λ (d : DevId). d.0 % setup.threads) (sym own) in
        begins_as_told setup disks_told device.dev some (subst (λ (d : DevId). has_kind is_aio_kind (row_of setup d) ≡ true) facts.1 facts.0)
        ∙ ap Some
        (ap (λ (d : DevId). content_told (slice_index_or disks_told d.0 None)) same
        ∙ told_at_home state setup held.threads b (are.stand.each k b at-b).below here at-home (are.stand.apart t at-home.own at-home.there))

    each : (k : ℕ) (device : AioDevice) (row : Opening) → slice_get (aio_devices setup) k ≡ Some device → slice_get end.2.added k ≡ Some row → IsDiskOf told disks_told setup trace device row
    each k device row at there = of_row (end.2.each k b row at-b there)
      where
        begins : (b : Begun) × (slice_get are.begun k ≡ Some b)
        begins = has_at are.begun k (subst (λ (n : ℕ). k < n) end.2.many (is_below end.2.added k row there))

        b : Begun
        b = begins.0

        at-b : slice_get are.begun k ≡ Some b
        at-b = begins.1

        fresh : IsFresh told device b
        fresh = are.fresh.each k device b at at-b

        pieces : List ServedPiece
        pieces = served_in setup disks_told trace device.dev

        of_row : IsDone Did b row → IsDiskOf told disks_told setup trace device row
        of_row is =
            let name : row.name ≡ b.name = ap (λ (r : Opening). r.name) is.is in
            let moved : Did device.dev b.disk is.last = subst (λ (d : DevId). Did d b.disk is.last) fresh.device_is is.did in
            let did : DidPieces device.size pieces b.disk is.last = subst (λ (n : ℕ). DidPieces n pieces b.disk is.last) (aio_is setup k device alone at).2 moved.0 in
            record {
              opened = b.disk;
              closed = is.last;
              fresh = record {
                device_is = refl;
                file = fresh.file ∙ ap Some (sym name);
                size = fresh.size;
                blocks = fresh.blocks;
                over = subst (λ (n : List ℕ). IsOpenedOver (told n) b.disk) (sym name) fresh.over;
                whole = fresh.whole;
                no_faults = fresh.no_faults;
                no_flushes = fresh.no_flushes;
              };
              begins = held_first k device b at at-b (sym fresh.device_is);
              did = did;
              ends = moved.1;
              flushes =
                  flushed device.size pieces b.disk is.last did (subst (λ (n : ℕ). n ≤ last_count) (sym fresh.no_flushes) (omega arith))
                  ∙ ap (λ (n : ℕ). min (count_by is_flushed pieces + n) last_count) fresh.no_flushes
                  ∙ ap (λ (n : ℕ). min n last_count) (omega arith);
              faults =
                  subst (λ (n : ℕ). min n last_count ≤ is.last.faults) (omega arith)
                  (subst (λ (n : ℕ). min (count_by is_fault pieces + n) last_count ≤ is.last.faults) fresh.no_faults (faulted device.size pieces b.disk is.last did));
              is = is.is ∙ ap (λ (n : List ℕ). record { name = n; blocks = b.disk.blocks; closing = Some (closing_of is.last) }) (sym name);
            }

    has_disks : (final : List Opening) × (closing_all state held.names after (Some rows) ≡ Some final) × HasDisks told disks_told setup trace base final
    has_disks = (end.0, end.1, record { added = end.2.added; are = end.2.are; many = end.2.many ∙ are.fresh.many; each = each })

  -- **the host keeps of each disk what the history says that was done to it**
  pub set_out_done : (base now : Option (List Opening)) → AreSetOut state told (length setup.devices) (aio_devices setup) held base now → TellDisks told disks_told setup trace base (closing_all state held.names after now)
  set_out_done base None are = subst (TellDisks told disks_told setup trace base) (sym (untold_all state held.names after)) tt
  set_out_done None (Some rows) are = absurd are
  set_out_done (Some base) (Some rows) are =
      let end = has_disks base rows are in
      subst (TellDisks told disks_told setup trace (Some base)) (sym end.1) end.2

-- ---- closed after all
