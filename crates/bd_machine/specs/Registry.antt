-- The registry: its answers.
use Rattle.std.specs.Prelude.{ℕ, ◌-◌, ◌*◌, Bool, true, false, cond, not, ◌&&◌, ◌||◌, ◌==◌, nat_le, nat_lt, sum_by, List, [], ◌∷◌, length, map, filter, find, position, Option, Some, None, is_none, is_some, slice_get, unwrap_or}
use Rattle.std.specs.List.{list_all}
use Rattle.std.specs.Option.{option_flatten}
use Rattle.bd_base.specs.Name.{same_name}
use Rattle.bd_base.specs.declared.id.DevId.{DevId}
use Rattle.bd_base.specs.declared.id.HandleId.{HandleId}
use Rattle.bd_base.specs.declared.id.ReqId.{ReqId}
use Rattle.bd_base.specs.declared.id.ThreadId.{ThreadId}
use Rattle.bd_base.specs.declared.request.Errno.{Errno}
use Rattle.bd_base.specs.declared.request.Errno.TheVariants.{NoDev, BadDesc, Busy, Inval}
use Rattle.bd_base.specs.declared.request.Op.{Op}
use Rattle.bd_base.specs.declared.event.Answer.{Answer}
use Rattle.bd_base.specs.declared.event.Answer.TheVariants as answers
use Rattle.bd_base.specs.declared.event.ClaimKind.{ClaimKind}
use Rattle.bd_base.specs.declared.event.Dropped.TheVariants as dropped
use Rattle.bd_base.specs.declared.event.RegEvent.{RegEvent}
use Rattle.bd_base.specs.declared.event.RegEvent.TheVariants as events
use Rattle.bd_base.specs.declared.setup.Setup.{Setup}
use Rattle.bd_base.specs.declared.thread_set.ThreadSet.{ThreadSet}
use Rattle.bd_machine.specs.declared.state.Device.{Device}
use Rattle.bd_machine.specs.declared.state.Handle.{Handle}
use Rattle.bd_machine.specs.declared.state.Registry.{Registry}
use Rattle.bd_machine.specs.declared.state.ResetState.{ResetState}
use Rattle.bd_machine.specs.declared.state.ResetState.TheVariants as resets
use Rattle.bd_machine.specs.declared.state.Standing.{Standing}
use Rattle.bd_machine.specs.declared.state.Standing.TheVariants as standings
use Rattle.bd_machine.specs.BlockMap.{base_of, below, blocks_of, home, is_error, is_malloc, is_null, is_over, size_of, stands_on}
use Rattle.bd_machine.specs.Claims.{Holder, claim_refusal, open_refusal}
use Rattle.bd_machine.specs.Injecting.{decision_for}
use Rattle.bd_machine.specs.Same.{same_handle, same_dev, same_channel}
use Rattle.bd_machine.specs.Table.{first_cause, look_up}
use Rattle.bd_machine.specs.Threads.{is_nobody, those}
use Rattle.bd_machine.specs.Users.{all_devices, base_handle, is_base_handle, users}

-- an event with its answer
pub record Question : Type 0 where
  pub event : RegEvent
  pub answer : Answer

-- ---- devices

-- the number of the device of a name
abbrev pub device_named : Setup → List ℕ → Option ℕ
device_named setup name = position (λ row. same_name row.name name) setup.devices

-- a device that doesn't exist counts as destructed
abbrev pub standing_if_any : Option Device → Standing
standing_if_any None = standings.Destructed
standing_if_any (Some device) = device.standing

abbrev pub standing_of : Registry → DevId → Standing
standing_of registry dev = standing_if_any (slice_get registry.devices dev.0)

abbrev pub is_live_standing : Standing → Bool
is_live_standing standings.Live = true
is_live_standing _ = false

abbrev pub is_removing_standing : Standing → Bool
is_removing_standing standings.Removing = true
is_removing_standing _ = false

abbrev pub is_destructed_standing : Standing → Bool
is_destructed_standing standings.Destructed = true
is_destructed_standing _ = false

abbrev pub is_live : Registry → DevId → Bool
is_live registry dev = is_live_standing (standing_of registry dev)

-- the device and each one below it are live
abbrev pub are_live : Setup → Registry → DevId → Bool
are_live setup registry dev = list_all (is_live registry) (below setup dev)

-- ---- sizes

abbrev pub blocks_of_device : Option Device → ℕ
blocks_of_device None = 0
blocks_of_device (Some device) = device.blocks

-- how many blocks a device has in the registry: a malloc or null device may have grown, no other device has
abbrev pub blocks_in : Registry → DevId → ℕ
blocks_in registry dev = blocks_of_device (slice_get registry.devices dev.0)

-- how many blocks a device has now: one that has each block of its base grows with it, and a part keeps its size
abbrev pub size_now : Setup → Registry → DevId → ℕ
size_now setup registry dev = cond (is_over setup (base_of setup dev) dev) (blocks_in registry (base_of setup dev)) (blocks_of setup dev)

abbrev pub growing_if_any : Option Device → Option ℕ
growing_if_any None = None
growing_if_any (Some device) = device.growing

-- the number of blocks to which a device is growing, while a resize of it is under way
abbrev pub growing_of : Registry → DevId → Option ℕ
growing_of registry dev = growing_if_any (slice_get registry.devices dev.0)

abbrev pub is_growing : Registry → DevId → Bool
is_growing registry dev = is_some (growing_of registry dev)

-- ---- handles

abbrev pub handle_of : List Handle → HandleId → Option Handle
handle_of handles id = find (λ h. same_handle h.id id) handles

abbrev pub is_on : DevId → Handle → Bool
is_on dev h = same_dev h.dev dev

abbrev pub handles_on : Registry → DevId → List Handle
handles_on registry dev = filter (is_on dev) registry.handles

abbrev pub holder_of : Handle → Holder
holder_of h = record { handle = h.id.0; writing = h.write; claim = h.claim }

abbrev pub holders_on : Registry → DevId → List Holder
holders_on registry dev = map holder_of (handles_on registry dev)

abbrev pub opener_of : Handle → HandleId × ThreadId
opener_of h = (h.id, h.thread)

-- ---- channels

-- the references that a thread has to a device; none where it has no channel
abbrev pub references : Registry → ℕ → DevId → Option ℕ
references registry t dev = option_flatten (look_up same_channel registry.channels (record { dev = dev; thread = t }))

-- the threads that have a channel
abbrev pub threads_of : Setup → Registry → DevId → ThreadSet
threads_of setup registry dev = those (λ t. is_some (references registry t dev)) setup.threads

-- the devices, from the top down, whose channels a get makes: those down to the first that has one
abbrev pub made : (DevId → Option ℕ) → List DevId → List DevId
made channels [] = []
made channels (d ∷ ds) = cond (is_some (channels d)) [] (d ∷ made channels ds)

-- ---- what prevents a destruction

-- neither one of these handles nor a channel of these threads
abbrev pub is_unused : List Handle → ThreadSet → Bool
is_unused handles threads = (length handles == 0) && is_nobody threads

-- it is being removed, with neither one of these handles nor a channel of these threads, and no resize of it is under way
abbrev pub is_bare : Registry → DevId → List Handle → ThreadSet → Bool
is_bare registry dev handles threads = is_removing_standing (standing_of registry dev) && is_unused handles threads && not (is_growing registry dev)

-- the device may be destructed
abbrev pub is_free : Setup → Registry → DevId → Bool
is_free setup registry dev = is_bare registry dev (handles_on registry dev) (threads_of setup registry dev)

abbrev pub if_so : Bool → DevId → Option DevId
if_so b dev = cond b (Some dev) None

-- ---- the answers

abbrev pub refused_or : Option Errno → Answer → Answer
refused_or None answer = answer
refused_or (Some errno) answer = answers.Refused errno

abbrev pub open_answer : Setup → Registry → Bool → Option ℕ → Answer
open_answer setup registry write None = answers.Refused NoDev
open_answer setup registry write (Some n) =
    let dev : DevId = record { 0 = n } in
    cond (are_live setup registry dev) (refused_or (open_refusal write (holders_on registry dev)) (answers.Opened (record { 0 = registry.next }) dev (size_now setup registry dev))) (answers.Refused NoDev)

-- the handle is this one, opened by this thread
abbrev pub is_own : ℕ → HandleId → Handle → Bool
is_own t id h = same_handle h.id id && (h.thread.0 == t)

-- the device of a handle that closes, where nothing else keeps it
abbrev pub freed_by_close : Setup → Registry → ℕ → HandleId → DevId → Option DevId
freed_by_close setup registry t id dev =
    if_so (is_bare registry dev (filter (λ h. not (is_own t id h)) (handles_on registry dev)) (threads_of setup registry dev)) dev

abbrev pub close_answer : Setup → Registry → ℕ → HandleId → Option Handle → Answer
close_answer setup registry t id None = answers.Refused NoDev
close_answer setup registry t id (Some h) = cond (h.thread.0 == t) (answers.Closed (freed_by_close setup registry t id h.dev)) (answers.Refused BadDesc)

abbrev pub claim_answer : Registry → ℕ → ClaimKind → Option Handle → Answer
claim_answer registry t kind None = answers.Refused BadDesc
claim_answer registry t kind (Some h) =
    cond (h.thread.0 == t)
    (cond (is_live registry h.dev) (refused_or (claim_refusal kind h.id.0 (holders_on registry h.dev)) answers.Claimed) (answers.Refused NoDev))
    (answers.Refused BadDesc)

abbrev pub is_running_reset : ResetState → Bool
is_running_reset resets.Running = true
is_running_reset _ = false

abbrev pub is_born_frozen : Option Device → Bool
is_born_frozen None = false
is_born_frozen (Some device) = is_running_reset device.reset

abbrev pub get_answer : Setup → Registry → ℕ → DevId → Answer
get_answer setup registry t dev =
    cond (are_live setup registry dev)
    (answers.Got (is_none (references registry t dev)) (filter (λ d. is_born_frozen (slice_get registry.devices d.0)) (made (references registry t) (below setup dev))))
    (answers.Refused NoDev)

abbrev pub put_answer : Option ℕ → Answer
put_answer None = answers.Refused NoDev
put_answer (Some n) = cond (n == 0) (answers.Refused NoDev) (answers.PutDown (n - 1))

abbrev pub is_count : ℕ → Option ℕ → Bool
is_count n None = false
is_count n (Some count) = count == n

-- the base whose count on the thread comes to zero where a channel above it goes
abbrev pub zero_by_drop : Registry → ℕ → Option DevId → Option DevId
zero_by_drop registry t None = None
zero_by_drop registry t (Some base) = if_so (is_count 1 (references registry t base)) base

-- the threads but this one that have a channel
abbrev pub other_threads_of : Setup → Registry → ℕ → DevId → ThreadSet
other_threads_of setup registry t dev = those (λ u. not (t == u) && is_some (references registry u dev)) setup.threads

-- a channel without references is dropped
abbrev pub drop_answer : Setup → Registry → ℕ → DevId → Answer
drop_answer setup registry t dev =
    let others : ThreadSet = other_threads_of setup registry t dev in
    cond (is_count 0 (references registry t dev))
    (answers.Dropped (cond (is_nobody others) dropped.Last dropped.Gone) (zero_by_drop registry t (stands_on setup dev)) (if_so (is_bare registry dev (handles_on registry dev) others) dev))
    (answers.Dropped dropped.Kept None None)

abbrev pub remove_answer_at : Setup → Registry → DevId → Standing → Answer
remove_answer_at setup registry dev standings.Live =
    let handles : List Handle = handles_on registry dev in
    let threads : ThreadSet = threads_of setup registry dev in
    answers.Removing dev threads (map opener_of handles) (if_so (is_unused handles threads && not (is_growing registry dev)) dev)
remove_answer_at setup registry dev standings.Removing = answers.Refused Busy
remove_answer_at setup registry dev standings.Destructed = answers.Refused NoDev

abbrev pub remove_answer : Setup → Registry → Option ℕ → Answer
remove_answer setup registry None = answers.Refused NoDev
remove_answer setup registry (Some n) = let dev : DevId = record { 0 = n } in remove_answer_at setup registry dev (standing_of registry dev)

abbrev pub is_idle_reset : ResetState → Bool
is_idle_reset resets.Idle = true
is_idle_reset _ = false

abbrev pub begin_reset_answer : ThreadSet → Option Device → Answer
begin_reset_answer threads None = answers.Refused NoDev
begin_reset_answer threads (Some device) = cond (is_destructed_standing device.standing) (answers.Refused NoDev) (cond (is_idle_reset device.reset) (answers.ResetStarted threads) answers.ResetQueued)

abbrev pub end_reset_answer : ThreadSet → Option Device → Answer
end_reset_answer threads None = answers.Refused Inval
end_reset_answer threads (Some device) = cond (is_running_reset device.reset) (answers.ResetEnded threads) (answers.Refused Inval)

abbrev pub is_thawing_reset : ResetState → Bool
is_thawing_reset resets.Thawing = true
is_thawing_reset _ = false

-- the next reset that waits, with the threads that have a channel
abbrev pub next_reset : ThreadSet → List ReqId → Option (ReqId × ThreadSet)
next_reset threads [] = None
next_reset threads (req ∷ reqs) = Some (req, threads)

abbrev pub finish_reset_answer : ThreadSet → Option Device → Answer
finish_reset_answer threads None = answers.Refused Inval
finish_reset_answer threads (Some device) = cond (is_thawing_reset device.reset) (answers.ResetFinished (next_reset threads device.waiting)) (answers.Refused Inval)

abbrev pub injection_answer : Setup → DevId → Op → Option Device → Answer
injection_answer setup dev op None = answers.Refused Inval
injection_answer setup dev op (Some device) = cond (is_error setup dev) (answers.Injected (decision_for op device.injections)) (answers.Refused Inval)

-- every user of the base handle but this one was destructed
abbrev pub is_last_user : Setup → Registry → DevId → HandleId → Bool
is_last_user setup registry dev handle = list_all (λ d. same_dev d dev || is_destructed_standing (standing_of registry d)) (users setup handle)

-- the base handle of a device, where it is open and the device is its last user
abbrev pub left_open : Setup → Registry → DevId → Option HandleId → Option HandleId
left_open setup registry dev None = None
left_open setup registry dev (Some handle) = cond (is_some (handle_of registry.handles handle) && is_last_user setup registry dev handle) (Some handle) None

abbrev pub destructed_answer : Setup → Registry → DevId → Answer
destructed_answer setup registry dev = cond (is_free setup registry dev) (answers.Freed (left_open setup registry dev (base_handle setup dev))) (answers.Refused Inval)

-- ---- resizes

-- malloc and null devices can grow
abbrev pub can_grow : Setup → DevId → Bool
can_grow setup dev = is_malloc setup dev || is_null setup dev

-- the most blocks that a device can grow to
abbrev pub most_blocks : Setup → DevId → ℕ
most_blocks setup dev = cond (is_malloc setup dev) 2097152 1099511627776

-- how many blocks a device has, or will have once its resize has ended
abbrev pub blocks_to_come : Registry → DevId → ℕ
blocks_to_come registry dev = unwrap_or (growing_of registry dev) (blocks_in registry dev)

-- the bytes of a malloc device, where this one were to have this many blocks
abbrev pub malloc_bytes_at : Setup → Registry → DevId → ℕ → DevId → ℕ
malloc_bytes_at setup registry dev blocks d = cond (is_malloc setup d) (cond (same_dev d dev) blocks (blocks_to_come registry d) * size_of setup d) 0

-- the bytes of all malloc devices, destructed ones too, where this one were to have this many blocks
abbrev pub malloc_bytes : Setup → Registry → DevId → ℕ → ℕ
malloc_bytes setup registry dev blocks = sum_by (malloc_bytes_at setup registry dev blocks) (all_devices setup)

-- it can't grow, not to this number of blocks, or the contents of malloc devices would pass 1 GiB
abbrev pub is_bad_size : Setup → Registry → DevId → ℕ → Bool
is_bad_size setup registry dev blocks =
    not (can_grow setup dev) || nat_le blocks (blocks_in registry dev) || nat_lt (most_blocks setup dev) blocks
    || (is_malloc setup dev && nat_lt 1073741824 (malloc_bytes setup registry dev blocks))

-- why a resize is refused, the first cause that holds
abbrev pub resize_refusal : Setup → Registry → DevId → ℕ → Option Errno
resize_refusal setup registry dev blocks = first_cause (
    (not (is_live registry dev), NoDev) ∷
    (is_growing registry dev, Busy) ∷
    (is_bad_size setup registry dev blocks, Inval) ∷ [])

abbrev pub resize_answer : Setup → Registry → ℕ → Option ℕ → Answer
resize_answer setup registry blocks None = answers.Refused NoDev
resize_answer setup registry blocks (Some n) =
    let dev : DevId = record { 0 = n } in refused_or (resize_refusal setup registry dev blocks) (answers.Resizing dev (record { 0 = home setup dev }))

-- it is a script's handle, and its device takes the size of this one
abbrev pub is_resized : Setup → DevId → Handle → Bool
is_resized setup dev h = not (is_base_handle setup h.id) && is_over setup dev h.dev

-- the device, where it is being removed and its resize alone keeps it
abbrev pub freed_by_resize : Setup → Registry → DevId → Option DevId
freed_by_resize setup registry dev =
    if_so (is_removing_standing (standing_of registry dev) && is_unused (handles_on registry dev) (threads_of setup registry dev)) dev

abbrev pub end_resize_answer : Setup → Registry → DevId → Option ℕ → Answer
end_resize_answer setup registry dev None = answers.Refused Inval
end_resize_answer setup registry dev (Some blocks) =
    answers.Resized (map opener_of (filter (is_resized setup dev) registry.handles)) blocks (freed_by_resize setup registry dev)

-- ---- all answers

-- what the registry answers to a thread's event
abbrev pub answer_to : Setup → Registry → ℕ → RegEvent → Answer
answer_to setup registry t (events.Open name write) = open_answer setup registry write (device_named setup name)
answer_to setup registry t (events.Close handle) = close_answer setup registry t handle (handle_of registry.handles handle)
answer_to setup registry t (events.Claim handle kind) = claim_answer registry t kind (handle_of registry.handles handle)
answer_to setup registry t (events.GetChannel dev) = get_answer setup registry t dev
answer_to setup registry t (events.PutChannel dev closing) = put_answer (references registry t dev)
answer_to setup registry t (events.DropChannel dev) = drop_answer setup registry t dev
answer_to setup registry t (events.BeginRemove name) = remove_answer setup registry (device_named setup name)
answer_to setup registry t (events.BeginReset dev req) = begin_reset_answer (threads_of setup registry dev) (slice_get registry.devices dev.0)
answer_to setup registry t (events.EndReset dev) = end_reset_answer (threads_of setup registry dev) (slice_get registry.devices dev.0)
answer_to setup registry t (events.FinishReset dev) = finish_reset_answer (threads_of setup registry dev) (slice_get registry.devices dev.0)
answer_to setup registry t (events.TakeInjection dev req op) = injection_answer setup dev op (slice_get registry.devices dev.0)
answer_to setup registry t (events.Destructed dev) = destructed_answer setup registry dev
answer_to setup registry t (events.BeginResize name blocks) = resize_answer setup registry blocks (device_named setup name)
answer_to setup registry t (events.EndResize dev) = end_resize_answer setup registry dev (growing_of registry dev)
