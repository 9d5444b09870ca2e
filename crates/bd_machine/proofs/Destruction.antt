-- What holds of a device that is being removed, and of one that is destructed.
use Rattle.std.proofs.Common.{◌≡◌, ℕ, zero, suc, ◌+◌, ◌<◌, ◌≤◌, Bool, true, false, not, cond, ◌&&◌, ◌||◌, ◌==◌, List, [], ◌∷◌, Option, Some, None, is_none, refl, sym, ◌∙◌, subst, eqb-true, arith}
use Rattle.std.specs.Prelude.{slice_get}
use Rattle.std.specs.List.{AllByRecursion, list_any, list_all, filter}
use Rattle.std.proofs.lemmas.Bool.{and_parts}
use Rattle.bd_base.specs.declared.act.Act.{Act}
use Rattle.bd_base.specs.declared.act.Act.TheVariants as acts
use Rattle.bd_base.specs.declared.act.Entry.{Entry}
use Rattle.bd_base.specs.declared.event.Answer.{Answer}
use Rattle.bd_base.specs.declared.event.Answer.TheVariants as answers
use Rattle.bd_base.specs.declared.event.RegEvent.{RegEvent}
use Rattle.bd_base.specs.declared.event.RegEvent.TheVariants as events
use Rattle.bd_base.specs.declared.id.DevId.{DevId}
use Rattle.bd_base.specs.declared.request.Errno.{Errno}
use Rattle.bd_base.specs.declared.request.Errno.TheVariants.{NoDev}
use Rattle.bd_base.specs.declared.setup.Setup.{Setup}
use Rattle.bd_machine.specs.declared.state.Device.{Device}
use Rattle.bd_machine.specs.declared.state.Registry.{Registry}
use Rattle.bd_machine.specs.declared.state.ResetState.TheVariants as resets
use Rattle.bd_machine.specs.declared.state.Standing.TheVariants as standings
use Rattle.bd_machine.specs.declared.state.State.{State}
use Rattle.bd_machine.specs.Aborts.{is_below}
use Rattle.bd_machine.specs.Admission.{refusal_on, is_gone, is_on_removed, is_removed_handle}
use Rattle.bd_machine.specs.Asked.{asks_submission}
use Rattle.bd_machine.specs.Marks.{is_removed, is_removed_below}
use Rattle.bd_machine.specs.declared.state.Handle.{Handle}
use Rattle.bd_machine.specs.BlockMap.{below}
use Rattle.bd_machine.specs.Changes.{devices_after, with_standing, with_reset, with_waiting, without_next, less_injection, begun_growing, grown_to, registry_after}
use Rattle.bd_machine.specs.Claims.{open_refusal}
use Rattle.bd_machine.specs.Destruction.{is_removing_of, is_accept_over, AcceptedWhereUnmarked, reaches, DestructedAtMostOnce, DestructedWhereFree, RemovedIsOutOfReach}
use Rattle.bd_machine.specs.Homes.{is_home, has_destructed, is_called_for, is_told}
use Rattle.bd_machine.specs.Laws.{is_destruct_of, count_of, one_if}
use Rattle.bd_machine.specs.Registry.{Question, is_live, is_live_standing, standing_if_any, is_free, are_live, open_answer, device_named, refused_or, holders_on, references, is_born_frozen, made, handle_of, size_now}
use Rattle.bd_machine.specs.Requests.{is_device_of}
use Rattle.bd_machine.specs.Run.{IsRunFrom, after_all, state_after}
use Rattle.bd_machine.specs.Same.{same_dev, same_answer}
use Rattle.bd_machine.specs.Start.{start}
use Rattle.bd_machine.specs.Step.{IsAllowed, guards_in, after}
use Rattle.bd_machine.specs.Table.{change_at}
use Rattle.bd_machine.specs.View.{Came, came_for, View, view, asked, part_of}
use Rattle.bd_machine.proofs.Tables.{dev_exact}
use Rattle.bd_machine.proofs.Acts.{Passes, passed}
use Rattle.bd_machine.proofs.Steps.{allowed_passes}
use Rattle.bd_machine.proofs.Complete.{fresh_start, destructed_in, all_destructs, home_part}
use Rattle.bd_machine.proofs.Runs.{last_allowed}

-- nothing is both
never : {X : Type 0} → false ≡ true → X
never e = cc

-- ---- at most once

at_most_one : (b : Bool) → one_if b ≤ 1
at_most_one true = omega arith
at_most_one false = omega arith

pub destructed_at_most_once : DestructedAtMostOnce
destructed_at_most_once setup told es run dev =
    let sums = all_destructs setup dev (start setup told) es (fresh_start setup told) run in
    most (count_of (is_destruct_of dev) es) (destructed_in (home_part setup dev (start setup told)) dev) (destructed_in (home_part setup dev (after_all setup (start setup told) es)) dev) sums (at_most_one _)
  where
    most : (c b a : ℕ) → c + b ≡ a → a ≤ 1 → c ≤ 1
    most c b a p q = omega arith

-- ---- where free

called_by : (setup : Setup) (s : State) (t : ℕ) (act : Act) (dev : DevId) → Passes (guards_in setup s t act) → is_destruct_of dev act ≡ true → is_free setup s.registry dev ≡ true
called_by setup s t (acts.Destruct d digest) dev h e =
    let ok = passed (guards_in setup s t (acts.Destruct d digest)) h in
    let v : View = view s t in
    let came : Came = came_for setup s t (acts.Destruct d digest) in
    let called = (and_parts (is_home setup t d) (is_called_for v came d) (and_parts (is_home setup t d && is_called_for v came d) (not (has_destructed v d)) ok.0).0).1 in
    subst (λ (x : DevId). is_free setup s.registry x ≡ true) (sym (dev_exact dev d e)) (and_parts (is_told v d) (is_free setup s.registry d) called).1
called_by setup s t _ dev h e = never e

pub destructed_where_free : DestructedWhereFree
destructed_where_free setup s e allowed dev h = called_by setup s e.thread e.act dev (allowed_passes setup s e allowed) h

-- ---- what isn't live stays so

abbrev pub Gone : List Device → ℕ → Type 0
Gone devices n = is_live_standing (standing_if_any (slice_get devices n)) ≡ false

gone_at : (devices : List Device) (n k : ℕ) (f : Device → Device) → ((d : Device) → is_live_standing d.standing ≡ false → is_live_standing (f d).standing ≡ false) → Gone devices k → Gone (change_at n f devices) k
gone_at [] n k f keeps h = h
gone_at (d ∷ ds) zero zero f keeps h = keeps d h
gone_at (d ∷ ds) zero (suc k) f keeps h = h
gone_at (d ∷ ds) (suc n) zero f keeps h = h
gone_at (d ∷ ds) (suc n) (suc k) f keeps h = gone_at ds n k f keeps h

made_gone : (devices : List Device) (n : ℕ) (f : Device → Device) → ((d : Device) → is_live_standing (f d).standing ≡ false) → Gone (change_at n f devices) n
made_gone [] n f makes = refl
made_gone (d ∷ ds) zero f makes = makes d
made_gone (d ∷ ds) (suc n) f makes = made_gone ds n f makes

stays_gone : (devices : List Device) (event : RegEvent) (a : Answer) (k : ℕ) → Gone devices k → Gone (devices_after devices event a) k
stays_gone devices event (answers.Removing dev threads handles destruct) k h = gone_at devices dev.0 k (with_standing standings.Removing) (λ d g. refl) h
stays_gone devices (events.Destructed dev) (answers.Freed close) k h = gone_at devices dev.0 k (with_standing standings.Destructed) (λ d g. refl) h
stays_gone devices (events.BeginReset dev req) (answers.ResetStarted threads) k h = gone_at devices dev.0 k (with_reset resets.Running) (λ d g. g) h
stays_gone devices (events.BeginReset dev req) answers.ResetQueued k h = gone_at devices dev.0 k (with_waiting req) (λ d g. g) h
stays_gone devices (events.EndReset dev) (answers.ResetEnded threads) k h = gone_at devices dev.0 k (with_reset resets.Thawing) (λ d g. g) h
stays_gone devices (events.FinishReset dev) (answers.ResetFinished (Some next)) k h = gone_at devices dev.0 k without_next (λ d g. g) h
stays_gone devices (events.FinishReset dev) (answers.ResetFinished None) k h = gone_at devices dev.0 k (with_reset resets.Idle) (λ d g. g) h
stays_gone devices (events.TakeInjection dev req op) (answers.Injected decision) k h = gone_at devices dev.0 k (less_injection op) (λ d g. g) h
stays_gone devices (events.BeginResize name blocks) (answers.Resizing dev home) k h = gone_at devices dev.0 k (begun_growing blocks) (λ d g. g) h
stays_gone devices (events.EndResize dev) (answers.Resized handles blocks destruct) k h = gone_at devices dev.0 k (grown_to blocks) (λ d g. g) h
stays_gone devices _ _ k h = h

gone_by : (setup : Setup) (r : Registry) (t : ℕ) (q : Option Question) (k : ℕ) → Gone r.devices k → Gone (registry_after setup r t q).devices k
gone_by setup r t None k h = h
gone_by setup r t (Some q) k h = stays_gone r.devices q.event q.answer k h

removed_by : (setup : Setup) (r : Registry) (t : ℕ) (act : Act) (dev : DevId) → is_removing_of dev act ≡ true → Gone (registry_after setup r t (asked act)).devices dev.0
removed_by setup r t (acts.Reg event (answers.Removing d threads handles destruct)) dev e =
    subst (λ (n : ℕ). Gone (change_at n (with_standing standings.Removing) r.devices) dev.0) (sym (eqb-true d.0 dev.0 e)) (made_gone r.devices dev.0 (with_standing standings.Removing) (λ d. refl))
removed_by setup r t _ dev e = never e

module _ (setup : Setup) (dev : DevId) where
  abbrev GoneIn : State → Type 0
  GoneIn s = Gone s.registry.devices dev.0

  pub step_stays : (s : State) (e : Entry) → GoneIn s → GoneIn (after setup s e)
  unfolding after
  step_stays s e h = gone_by setup s.registry e.thread (asked e.act) dev.0 h

  step_removes : (s : State) (e : Entry) → is_removing_of dev e.act ≡ true → GoneIn (after setup s e)
  unfolding after
  step_removes s e h = removed_by setup s.registry e.thread e.act dev h

  all_stay : (s : State) (es : List Entry) → GoneIn s → GoneIn (after_all setup s es)
  all_stay s [] h = h
  all_stay s (e ∷ es) h = all_stay (after setup s e) es (step_stays s e h)

  removed_in : (s : State) (es : List Entry) → 0 < count_of (is_removing_of dev) es → GoneIn (after_all setup s es)
  removed_in s [] h = absurd (omega arith)
  removed_in s (e ∷ es) h = go (is_removing_of dev e.act) refl h (removed_in (after setup s e) es)
    where
      go : (b : Bool) → is_removing_of dev e.act ≡ b → 0 < one_if b + count_of (is_removing_of dev) es → (0 < count_of (is_removing_of dev) es → GoneIn (after_all setup (after setup s e) es)) → GoneIn (after_all setup (after setup s e) es)
      go true q h rest = all_stay (after setup s e) es (step_removes s e q)
      go false q h rest = rest (less h)
        where
          less : 0 < 0 + count_of (is_removing_of dev) es → 0 < count_of (is_removing_of dev) es
          less k = omega arith

-- ---- out of reach

one_of_all : (is : DevId → Bool) (ds : List DevId) (dev : DevId) → list_all is ds ≡ true → list_any (same_dev dev) ds ≡ true → is dev ≡ true
one_of_all is [] dev all any = cc
one_of_all is (d ∷ ds) dev all any = go (same_dev dev d) refl any (and_parts (is d) (list_all is ds) all) (one_of_all is ds dev)
  where
    go : (b : Bool) → same_dev dev d ≡ b → (b || list_any (same_dev dev) ds) ≡ true → (is d ≡ true) × (list_all is ds ≡ true) → (list_all is ds ≡ true → list_any (same_dev dev) ds ≡ true → is dev ≡ true) → is dev ≡ true
    go true e any p rest = subst (λ (x : DevId). is x ≡ true) (sym (dev_exact dev d e)) p.0
    go false e any p rest = rest p.1 any

pub differ : {b : Bool} → b ≡ true → b ≡ false → ⊥
differ h k = let e : true ≡ false = sym h ∙ k in cc

-- where a device below isn't live, not all are
pub not_all_live : (setup : Setup) (r : Registry) (d dev : DevId) → is_live r dev ≡ false → is_below setup d dev ≡ true → are_live setup r d ≡ false
not_all_live setup r d dev gone lower = go (are_live setup r d) refl
  where
    go : (b : Bool) → are_live setup r d ≡ b → b ≡ false
    go true e = absurd (differ (one_of_all (is_live r) (below setup d) dev e lower) gone)
    go false e = refl

pub not_opened : (setup : Setup) (r : Registry) (write : Bool) (o : Option ℕ) (id-is : Answer) (d dev : DevId) → is_live r dev ≡ false → is_below setup d dev ≡ true → (n blocks : ℕ) → same_answer (answers.Opened (record { 0 = n }) d blocks) (open_answer setup r write o) ≡ true → ⊥
not_opened setup r write None a d dev gone lower n blocks h = cc
not_opened setup r write (Some m) a d dev gone lower n blocks h = go (are_live setup r (record { 0 = m })) refl h
  where
    opened : Answer
    opened = answers.Opened (record { 0 = r.next }) (record { 0 = m }) (size_now setup r (record { 0 = m }))

    refused : (o : Option Errno) → same_answer (answers.Opened (record { 0 = n }) d blocks) (refused_or o opened) ≡ true → same_dev d (record { 0 = m }) ≡ true
    refused None h = (and_parts (n == r.next) (d.0 == m) (and_parts ((n == r.next) && (d.0 == m)) (blocks == size_now setup r (record { 0 = m })) h).0).1
    refused (Some errno) h = cc

    go : (b : Bool) → are_live setup r (record { 0 = m }) ≡ b → same_answer (answers.Opened (record { 0 = n }) d blocks) (cond b (refused_or (open_refusal write (holders_on r (record { 0 = m }))) opened) (answers.Refused NoDev)) ≡ true → ⊥
    go true e h =
        let same : d ≡ record { 0 = m } = dev_exact d (record { 0 = m }) (refused (open_refusal write (holders_on r (record { 0 = m }))) h) in
        differ (subst (λ (x : DevId). are_live setup r x ≡ true) (sym same) e) (not_all_live setup r d dev gone lower)
    go false e h = cc

apart : (b : Bool) → (b ≡ true → ⊥) → b ≡ false
apart true f = absurd (f refl)
apart false f = refl

got : (setup : Setup) (r : Registry) (d dev : DevId) (fresh : Bool) (frozen : List DevId) (a : Answer) → is_live r dev ≡ false → is_below setup d dev ≡ true → (b : Bool) → are_live setup r d ≡ b → same_answer (answers.Got fresh frozen) (cond b a (answers.Refused NoDev)) ≡ true → ⊥
got setup r d dev fresh frozen a gone lower true e h = differ e (not_all_live setup r d dev gone lower)
got setup r d dev fresh frozen a gone lower false e h = cc

out : (setup : Setup) (s : State) (t : ℕ) (act : Act) (dev : DevId) → is_live s.registry dev ≡ false → Passes (guards_in setup s t act) → reaches setup dev act ≡ true → ⊥
out setup s t (acts.Reg (events.Open name write) (answers.Opened id d blocks)) dev gone h e =
    not_opened setup s.registry write (device_named setup name) (answers.Opened id d blocks) d dev gone e id.0 blocks (passed (guards_in setup s t (acts.Reg (events.Open name write) (answers.Opened id d blocks))) h).0
out setup s t (acts.Reg (events.GetChannel d) (answers.Got fresh frozen)) dev gone h e =
    got setup s.registry d dev fresh frozen (answers.Got (is_none (references s.registry t d)) (filter (λ d. is_born_frozen (slice_get s.registry.devices d.0)) (made (references s.registry t) (below setup d)))) gone e (are_live setup s.registry d) refl (passed (guards_in setup s t (acts.Reg (events.GetChannel d) (answers.Got fresh frozen))) h).0
out setup s t _ dev gone h e = never e

-- what isn't live is out of reach
pub unreached : (setup : Setup) (s : State) (e : Entry) → IsAllowed setup s e → (dev : DevId) → is_live s.registry dev ≡ false → reaches setup dev e.act ≡ false
unreached setup s e allowed dev gone = apart (reaches setup dev e.act) (out setup s e.thread e.act dev gone (allowed_passes setup s e allowed))

pub all_unreached : (setup : Setup) (s : State) (es : List Entry) → IsRunFrom setup s es → (dev : DevId) → is_live s.registry dev ≡ false → AllByRecursion (λ x. reaches setup dev x.act ≡ false) es
all_unreached setup s [] run dev gone = tt
all_unreached setup s (e ∷ es) run dev gone = (unreached setup s e run.0 dev gone, all_unreached setup (after setup s e) es run.1 dev (step_stays setup dev s e gone))

pub removed_is_out_of_reach : RemovedIsOutOfReach
removed_is_out_of_reach setup told es e run dev h =
    unreached setup (state_after setup told es) e (last_allowed setup (start setup told) es e run) dev (removed_in setup dev (start setup told) es h)

-- ---- where a request is accepted

none_of_any : (is : DevId → Bool) (ds : List DevId) (dev : DevId) → list_any is ds ≡ false → list_any (same_dev dev) ds ≡ true → is dev ≡ false
none_of_any is [] dev any lower = cc
none_of_any is (d ∷ ds) dev any lower = go (same_dev dev d) refl lower (first (is d) (list_any is ds) any) (none_of_any is ds dev (later (is d) (list_any is ds) any))
  where
    first : (a b : Bool) → (a || b) ≡ false → a ≡ false
    first true b e = cc
    first false b e = refl

    later : (a b : Bool) → (a || b) ≡ false → b ≡ false
    later true b e = cc
    later false b e = e

    go : (b : Bool) → same_dev dev d ≡ b → (b || list_any (same_dev dev) ds) ≡ true → is d ≡ false → (list_any (same_dev dev) ds ≡ true → is dev ≡ false) → is dev ≡ false
    go true e l f rest = subst (λ (x : DevId). is x ≡ false) (sym (dev_exact dev d e)) f
    go false e l f rest = rest l

unmarked_by : (setup : Setup) (s : State) (t : ℕ) (act : Act) (dev : DevId) → Passes (guards_in setup s t act) → is_accept_over setup dev act ≡ true → is_removed (part_of s t) dev ≡ false
unmarked_by setup s t (acts.Accept d lba handle req op count) dev h e =
    let v : View = view s t in
    let came : Came = came_for setup s t (acts.Accept d lba handle req op count) in
    let ok = passed (guards_in setup s t (acts.Accept d lba handle req op count)) h in
    let own = (and_parts (asks_submission setup t v came (Some handle) op lba count) (is_device_of d (handle_of v.handles handle)) ok.0).1 in
    let b : Bool = is_removed_handle setup v handle in
    on (handle_of v.handles handle) own (admitted b ok.1.0) (later (is_gone v.part handle) (is_on_removed setup v.part (handle_of v.handles handle)) (none b ok.1.0))
  where
    refused : Option Errno
    refused = refusal_on setup (view s t).part (handle_of (view s t).handles handle) op lba count

    none : (b : Bool) → is_none (cond b (Some NoDev) refused) ≡ true → b ≡ false
    none true k = cc
    none false k = refl

    admitted : (b : Bool) → is_none (cond b (Some NoDev) refused) ≡ true → is_none refused ≡ true
    admitted true k = cc
    admitted false k = k

    later : (a b : Bool) → (a || b) ≡ false → b ≡ false
    later true b e = cc
    later false b e = e

    on : (o : Option Handle) → is_device_of d o ≡ true → is_none (refusal_on setup (view s t).part o op lba count) ≡ true → is_on_removed setup (part_of s t) o ≡ false → is_removed (part_of s t) dev ≡ false
    on None k fine g = cc
    on (Some x) k fine g = none_of_any (is_removed (part_of s t)) (below setup d) dev (subst (λ (y : DevId). is_removed_below setup (part_of s t) y ≡ false) (dev_exact x.dev d k) g) e
unmarked_by setup s t _ dev h e = never e

pub accepted_where_unmarked : AcceptedWhereUnmarked
accepted_where_unmarked setup s e allowed dev h = unmarked_by setup s e.thread e.act dev (allowed_passes setup s e allowed) h
