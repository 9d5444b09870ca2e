-- The answers that an event may have, as far as opens and removals go.
use Rattle.std.proofs.Common.{◌≡◌, ℕ, ◌-◌, Bool, true, false, cond, ◌==◌, List, filter, Option, Some, None, is_none, refl}
use Rattle.std.specs.Prelude.{slice_get}
use Rattle.bd_base.specs.declared.event.Answer.{Answer}
use Rattle.bd_base.specs.declared.event.Answer.TheVariants as answers
use Rattle.bd_base.specs.declared.event.RegEvent.{RegEvent}
use Rattle.bd_base.specs.declared.event.RegEvent.TheVariants as events
use Rattle.bd_base.specs.declared.id.DevId.{DevId}
use Rattle.bd_base.specs.declared.id.HandleId.{HandleId}
use Rattle.bd_base.specs.declared.event.Dropped.TheVariants as dropped
use Rattle.bd_base.specs.declared.id.ReqId.{ReqId}
use Rattle.bd_base.specs.declared.request.Errno.{Errno}
use Rattle.bd_base.specs.declared.request.Errno.TheVariants.{NoDev, BadDesc, Inval}
use Rattle.bd_base.specs.declared.request.Op.{Op}
use Rattle.bd_base.specs.declared.event.ClaimKind.{ClaimKind}
use Rattle.bd_base.specs.declared.setup.Setup.{Setup}
use Rattle.bd_base.specs.declared.thread_set.ThreadSet.{ThreadSet}
use Rattle.bd_machine.specs.declared.state.Device.{Device}
use Rattle.bd_machine.specs.declared.state.Handle.{Handle}
use Rattle.bd_machine.specs.declared.state.Registry.{Registry}
use Rattle.bd_machine.specs.declared.state.Standing.{Standing}
use Rattle.bd_machine.specs.declared.state.Standing.TheVariants as standings
use Rattle.bd_machine.specs.BlockMap.{below, home, is_error, stands_on}
use Rattle.bd_machine.specs.Claims.{claim_refusal, open_refusal}
use Rattle.bd_machine.specs.Injecting.{decision_for}
use Rattle.bd_machine.specs.Registry.{answer_to, are_live, begin_reset_answer, claim_answer, close_answer, device_named, drop_answer, end_reset_answer, end_resize_answer, finish_reset_answer, freed_by_close, growing_of, handle_of, handles_on, holders_on, if_so, injection_answer, is_bare, is_born_frozen, is_count, is_destructed_standing, is_free, is_idle_reset, is_live, is_running_reset, is_thawing_reset, left_open, made, next_reset, open_answer, other_threads_of, put_answer, references, refused_or, remove_answer, remove_answer_at, resize_answer, resize_refusal, size_now, standing_of, threads_of, zero_by_drop}
use Rattle.bd_machine.specs.Threads.{is_nobody}
use Rattle.bd_machine.specs.Users.{base_handle}
use Rattle.bd_registry.specs.Handles.{IsNext, is_of_kind}

-- the answer is of the event's kind, and a handle that it gives has the next number
pub record Suits (event : RegEvent) (next : ℕ) (answer : Answer) : Type 0 where
  pub kind : is_of_kind event answer ≡ true
  pub number : IsNext next answer

module _ (event : RegEvent) (next : ℕ) where
  either : (b : Bool) (x y : Answer) → Suits event next x → Suits event next y → Suits event next (cond b x y)
  either true x y p q = p
  either false x y p q = q

  refused : (o : Option Errno) (a : Answer) → ((e : Errno) → Suits event next (answers.Refused e)) → Suits event next a → Suits event next (refused_or o a)
  refused None a p q = q
  refused (Some e) a p q = p e

suits_open : (setup : Setup) (r : Registry) (name : List ℕ) (write : Bool) (o : Option ℕ) → Suits (events.Open name write) r.next (open_answer setup r write o)
suits_open setup r name write None = (record { kind = refl; number = tt })
suits_open setup r name write (Some n) =
    let dev : DevId = record { 0 = n } in
    let opened : Answer = answers.Opened (record { 0 = r.next }) dev (size_now setup r dev) in
    let errno : Option Errno = open_refusal write (holders_on r dev) in
    either (events.Open name write) r.next (are_live setup r dev) (refused_or errno opened) (answers.Refused NoDev)
    (refused (events.Open name write) r.next errno opened (λ e. (record { kind = refl; number = tt })) (record { kind = refl; number = refl })) (record { kind = refl; number = tt })

suits_close : (setup : Setup) (r : Registry) (t : ℕ) (id : HandleId) (o : Option Handle) → Suits (events.Close id) r.next (close_answer setup r t id o)
suits_close setup r t id None = (record { kind = refl; number = tt })
suits_close setup r t id (Some h) = either (events.Close id) r.next (h.thread.0 == t) (answers.Closed (freed_by_close setup r t id h.dev)) (answers.Refused BadDesc) (record { kind = refl; number = tt }) (record { kind = refl; number = tt })

suits_claim : (r : Registry) (t : ℕ) (id : HandleId) (kind : ClaimKind) (o : Option Handle) → Suits (events.Claim id kind) r.next (claim_answer r t kind o)
suits_claim r t id kind None = (record { kind = refl; number = tt })
suits_claim r t id kind (Some h) =
    let event : RegEvent = events.Claim id kind in
    let errno : Option Errno = claim_refusal kind h.id.0 (holders_on r h.dev) in
    either event r.next (h.thread.0 == t) (cond (is_live r h.dev) (refused_or errno answers.Claimed) (answers.Refused NoDev)) (answers.Refused BadDesc)
    (either event r.next (is_live r h.dev) (refused_or errno answers.Claimed) (answers.Refused NoDev) (refused event r.next errno answers.Claimed (λ e. (record { kind = refl; number = tt })) (record { kind = refl; number = tt })) (record { kind = refl; number = tt })) (record { kind = refl; number = tt })

suits_get : (setup : Setup) (r : Registry) (t : ℕ) (dev : DevId) → Suits (events.GetChannel dev) r.next (answer_to setup r t (events.GetChannel dev))
suits_get setup r t dev =
    either (events.GetChannel dev) r.next (are_live setup r dev)
    (answers.Got (is_none (references r t dev)) (filter (λ d. is_born_frozen (slice_get r.devices d.0)) (made (references r t) (below setup dev)))) (answers.Refused NoDev) (record { kind = refl; number = tt }) (record { kind = refl; number = tt })

suits_put : (next : ℕ) (dev : DevId) (closing : Bool) (o : Option ℕ) → Suits (events.PutChannel dev closing) next (put_answer o)
suits_put next dev closing None = (record { kind = refl; number = tt })
suits_put next dev closing (Some n) = either (events.PutChannel dev closing) next (n == 0) (answers.Refused NoDev) (answers.PutDown (n - 1)) (record { kind = refl; number = tt }) (record { kind = refl; number = tt })

suits_drop : (setup : Setup) (r : Registry) (t : ℕ) (dev : DevId) → Suits (events.DropChannel dev) r.next (drop_answer setup r t dev)
suits_drop setup r t dev =
    let others : ThreadSet = other_threads_of setup r t dev in
    either (events.DropChannel dev) r.next (is_count 0 (references r t dev))
    (answers.Dropped (cond (is_nobody others) dropped.Last dropped.Gone) (zero_by_drop r t (stands_on setup dev)) (if_so (is_bare r dev (handles_on r dev) others) dev))
    (answers.Dropped dropped.Kept None None) (record { kind = refl; number = tt }) (record { kind = refl; number = tt })

suits_remove_at : (setup : Setup) (r : Registry) (name : List ℕ) (dev : DevId) (s : Standing) → Suits (events.BeginRemove name) r.next (remove_answer_at setup r dev s)
suits_remove_at setup r name dev standings.Live = (record { kind = refl; number = tt })
suits_remove_at setup r name dev standings.Removing = (record { kind = refl; number = tt })
suits_remove_at setup r name dev standings.Destructed = (record { kind = refl; number = tt })

suits_remove : (setup : Setup) (r : Registry) (name : List ℕ) (o : Option ℕ) → Suits (events.BeginRemove name) r.next (remove_answer setup r o)
suits_remove setup r name None = (record { kind = refl; number = tt })
suits_remove setup r name (Some n) = let dev : DevId = record { 0 = n } in suits_remove_at setup r name dev (standing_of r dev)

suits_begin : (next : ℕ) (dev : DevId) (req : ReqId) (threads : ThreadSet) (o : Option Device) → Suits (events.BeginReset dev req) next (begin_reset_answer threads o)
suits_begin next dev req threads None = (record { kind = refl; number = tt })
suits_begin next dev req threads (Some device) =
    let event : RegEvent = events.BeginReset dev req in
    either event next (is_destructed_standing device.standing) (answers.Refused NoDev) (cond (is_idle_reset device.reset) (answers.ResetStarted threads) answers.ResetQueued) (record { kind = refl; number = tt })
    (either event next (is_idle_reset device.reset) (answers.ResetStarted threads) answers.ResetQueued (record { kind = refl; number = tt }) (record { kind = refl; number = tt }))

suits_end : (next : ℕ) (dev : DevId) (threads : ThreadSet) (o : Option Device) → Suits (events.EndReset dev) next (end_reset_answer threads o)
suits_end next dev threads None = (record { kind = refl; number = tt })
suits_end next dev threads (Some device) = either (events.EndReset dev) next (is_running_reset device.reset) (answers.ResetEnded threads) (answers.Refused Inval) (record { kind = refl; number = tt }) (record { kind = refl; number = tt })

suits_finish : (next : ℕ) (dev : DevId) (threads : ThreadSet) (o : Option Device) → Suits (events.FinishReset dev) next (finish_reset_answer threads o)
suits_finish next dev threads None = (record { kind = refl; number = tt })
suits_finish next dev threads (Some device) = either (events.FinishReset dev) next (is_thawing_reset device.reset) (answers.ResetFinished (next_reset threads device.waiting)) (answers.Refused Inval) (record { kind = refl; number = tt }) (record { kind = refl; number = tt })

suits_injection : (setup : Setup) (next : ℕ) (dev : DevId) (req : ReqId) (op : Op) (o : Option Device) → Suits (events.TakeInjection dev req op) next (injection_answer setup dev op o)
suits_injection setup next dev req op None = (record { kind = refl; number = tt })
suits_injection setup next dev req op (Some device) = either (events.TakeInjection dev req op) next (is_error setup dev) (answers.Injected (decision_for op device.injections)) (answers.Refused Inval) (record { kind = refl; number = tt }) (record { kind = refl; number = tt })

suits_destructed : (setup : Setup) (r : Registry) (t : ℕ) (dev : DevId) → Suits (events.Destructed dev) r.next (answer_to setup r t (events.Destructed dev))
suits_destructed setup r t dev = either (events.Destructed dev) r.next (is_free setup r dev) (answers.Freed (left_open setup r dev (base_handle setup dev))) (answers.Refused Inval) (record { kind = refl; number = tt }) (record { kind = refl; number = tt })

suits_resize : (setup : Setup) (r : Registry) (name : List ℕ) (blocks : ℕ) (o : Option ℕ) → Suits (events.BeginResize name blocks) r.next (resize_answer setup r blocks o)
suits_resize setup r name blocks None = (record { kind = refl; number = tt })
suits_resize setup r name blocks (Some n) =
    let dev : DevId = record { 0 = n } in
    refused (events.BeginResize name blocks) r.next (resize_refusal setup r dev blocks) (answers.Resizing dev (record { 0 = home setup dev }))
    (λ e. (record { kind = refl; number = tt })) (record { kind = refl; number = tt })

suits_end_resize : (setup : Setup) (r : Registry) (dev : DevId) (o : Option ℕ) → Suits (events.EndResize dev) r.next (end_resize_answer setup r dev o)
suits_end_resize setup r dev None = (record { kind = refl; number = tt })
suits_end_resize setup r dev (Some blocks) = (record { kind = refl; number = tt })

pub answer_suits : (setup : Setup) (r : Registry) (t : ℕ) (event : RegEvent) → Suits event r.next (answer_to setup r t event)
answer_suits setup r t (events.Open name write) = suits_open setup r name write (device_named setup name)
answer_suits setup r t (events.Close id) = suits_close setup r t id (handle_of r.handles id)
answer_suits setup r t (events.Claim id kind) = suits_claim r t id kind (handle_of r.handles id)
answer_suits setup r t (events.GetChannel dev) = suits_get setup r t dev
answer_suits setup r t (events.PutChannel dev closing) = suits_put r.next dev closing (references r t dev)
answer_suits setup r t (events.DropChannel dev) = suits_drop setup r t dev
answer_suits setup r t (events.BeginRemove name) = suits_remove setup r name (device_named setup name)
answer_suits setup r t (events.BeginReset dev req) = suits_begin r.next dev req (threads_of setup r dev) (slice_get r.devices dev.0)
answer_suits setup r t (events.EndReset dev) = suits_end r.next dev (threads_of setup r dev) (slice_get r.devices dev.0)
answer_suits setup r t (events.FinishReset dev) = suits_finish r.next dev (threads_of setup r dev) (slice_get r.devices dev.0)
answer_suits setup r t (events.TakeInjection dev req op) = suits_injection setup r.next dev req op (slice_get r.devices dev.0)
answer_suits setup r t (events.Destructed dev) = suits_destructed setup r t dev
answer_suits setup r t (events.BeginResize name blocks) = suits_resize setup r name blocks (device_named setup name)
answer_suits setup r t (events.EndResize dev) = suits_end_resize setup r dev (growing_of r dev)
