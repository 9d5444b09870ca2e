-- What the registry has at the start, what it answers and what an answer changes go by a setup's rows alone.
use Rattle.std.proofs.Common.{◌≡◌, ℕ, true, zero, suc, ◌+◌, ◌%◌, cond, not, ◌&&◌, ◌==◌, List, [], ◌++◌, ◌∷◌, map, length, filter, Option, Some, None, is_none, slice_get, unwrap_or, refl, ◌∙◌, ap}
use Rattle.std.specs.List.{list_all}
use Rattle.bd_base.specs.declared.event.Answer.{Answer}
use Rattle.bd_base.specs.declared.event.Answer.TheVariants as answers
use Rattle.bd_base.specs.declared.event.ClaimKind.TheVariants.{Exclusive}
use Rattle.bd_base.specs.declared.event.RegEvent.{RegEvent}
use Rattle.bd_base.specs.declared.event.RegEvent.TheVariants as events
use Rattle.bd_base.specs.declared.id.DevId.{DevId}
use Rattle.bd_base.specs.declared.request.Errno.TheVariants.{NoDev}
use Rattle.bd_base.specs.declared.setup.Setup.{Setup}
use Rattle.bd_machine.specs.declared.state.Handle.{Handle}
use Rattle.bd_machine.specs.declared.state.Registry.{Registry}
use Rattle.bd_machine.specs.BlockMap.{Block, base_of, below, blocks_of, dev_of_block, home, is_over, is_whole_or, last_of, path_within, row_of, shift_of_row, stands_on, under}
use Rattle.bd_machine.specs.Changes.{Count, counts_after, counts_got, counts_set, registry_after}
use Rattle.bd_machine.specs.Claims.{open_refusal}
use Rattle.bd_machine.specs.Limits.{is_limited}
use Rattle.bd_machine.specs.Registry.{Question, answer_to, blocks_in, device_named, end_resize_answer, freed_by_resize, get_answer, growing_of, holders_on, is_born_frozen, is_live, is_resized, made, open_answer, opener_of, references, refused_or, resize_answer, resize_refusal, size_now}
use Rattle.bd_machine.specs.Start.{bare_registry, handles_from, registry_at_start, with_channel, with_channels}
use Rattle.bd_machine.specs.Users.{all_devices, firsts, is_base_handle}
use Rattle.bd_registry.specs.State.{Registered, event_row, registered, rows_of}

-- ---- what lies below a device

under_same : (o : Option DevId) (f g : DevId → List Block) → ((d : DevId) → f d ≡ g d) → under o f ≡ under o g
under_same None f g h = refl
under_same (Some d) f g h = h d

module _ (setup : Setup) where
  path_rows : (n : ℕ) (dev : DevId) (b : ℕ) → path_within n (rows_of setup) dev b ≡ path_within n setup dev b
  path_rows zero dev b = refl
  path_rows (suc n) dev b =
      ap (λ (bs : List Block). (record { dev = dev; number = b }) ∷ bs)
      (under_same (stands_on setup dev) (λ base. path_within n (rows_of setup) base (shift_of_row (row_of setup dev) + b)) (λ base. path_within n setup base (shift_of_row (row_of setup dev) + b)) (λ base. path_rows n base (shift_of_row (row_of setup dev) + b)))

  below_rows : (dev : DevId) → below (rows_of setup) dev ≡ below setup dev
  below_rows dev = ap (λ (bs : List Block). map dev_of_block bs) (path_rows (suc (length setup.devices)) dev 0)

  home_rows : (dev : DevId) → home (rows_of setup) dev ≡ home setup dev
  home_rows dev = ap (λ (bs : List Block). (last_of (record { dev = dev; number = 0 }) bs).dev.0 % setup.threads) (path_rows (suc (length setup.devices)) dev 0)

  base_rows : (dev : DevId) → base_of (rows_of setup) dev ≡ base_of setup dev
  base_rows dev = ap (λ (bs : List Block). (last_of (record { dev = dev; number = 0 }) bs).dev) (path_rows (suc (length setup.devices)) dev 0)

  over_rows : (base dev : DevId) → is_over (rows_of setup) base dev ≡ is_over setup base dev
  over_rows base dev =
      ap (λ (b : DevId). (b.0 == base.0) && list_all (is_whole_or setup base) (below (rows_of setup) dev)) (base_rows dev)
      ∙ ap (λ (ds : List DevId). ((base_of setup dev).0 == base.0) && list_all (is_whole_or setup base) ds) (below_rows dev)

  size_rows : (r : Registry) (dev : DevId) → size_now (rows_of setup) r dev ≡ size_now setup r dev
  size_rows r dev =
      ap (λ (b : DevId). cond (is_over (rows_of setup) b dev) (blocks_in r b) (blocks_of setup dev)) (base_rows dev)
      ∙ ap (λ is. cond is (blocks_in r (base_of setup dev)) (blocks_of setup dev)) (over_rows (base_of setup dev) dev)

  resized_rows : (dev : DevId) (hs : List Handle) → filter (is_resized (rows_of setup) dev) hs ≡ filter (is_resized setup dev) hs
  resized_rows dev [] = refl
  resized_rows dev (h ∷ hs) =
      let others : List Handle = filter (is_resized (rows_of setup) dev) hs in
      ap (λ is. cond (not (is_base_handle setup h.id) && is) (h ∷ others) others) (over_rows dev h.dev)
      ∙ ap (λ (xs : List Handle). cond (is_resized setup dev h) (h ∷ xs) xs) (resized_rows dev hs)

-- ---- the answers

module _ (setup : Setup) (r : Registry) (t : ℕ) where
  open_rows : (write : _) (o : Option ℕ) → open_answer (rows_of setup) r write o ≡ open_answer setup r write o
  open_rows write None = refl
  open_rows write (Some n) =
      let dev : DevId = record { 0 = n } in
      let opened : ℕ → Answer = λ blocks. refused_or (open_refusal write (holders_on r dev)) (answers.Opened (record { 0 = r.next }) dev blocks) in
      ap (λ (ds : List DevId). cond (list_all (is_live r) ds) (opened (size_now (rows_of setup) r dev)) (answers.Refused NoDev)) (below_rows setup dev)
      ∙ ap (λ (blocks : ℕ). cond (list_all (is_live r) (below setup dev)) (opened blocks) (answers.Refused NoDev)) (size_rows setup r dev)

  get_rows : (dev : DevId) → get_answer (rows_of setup) r t dev ≡ get_answer setup r t dev
  get_rows dev =
      ap (λ (ds : List DevId). cond (list_all (is_live r) ds)
      (answers.Got (is_none (references r t dev)) (filter (λ d. is_born_frozen (slice_get r.devices d.0)) (made (references r t) ds))) (answers.Refused NoDev)) (below_rows setup dev)

  resize_rows : (blocks : ℕ) (o : Option ℕ) → resize_answer (rows_of setup) r blocks o ≡ resize_answer setup r blocks o
  resize_rows blocks None = refl
  resize_rows blocks (Some n) =
      let dev : DevId = record { 0 = n } in
      ap (λ (home : ℕ). refused_or (resize_refusal setup r dev blocks) (answers.Resizing dev (record { 0 = home }))) (home_rows setup dev)

  end_resize_rows : (dev : DevId) (o : Option ℕ) → end_resize_answer (rows_of setup) r dev o ≡ end_resize_answer setup r dev o
  end_resize_rows dev None = refl
  end_resize_rows dev (Some blocks) = ap (λ (hs : List Handle). answers.Resized (map opener_of hs) blocks (freed_by_resize setup r dev)) (resized_rows setup dev r.handles)

  pub answer_of_rows : (event : RegEvent) → answer_to (rows_of setup) r t event ≡ answer_to setup r t event
  answer_of_rows (events.Open name write) = open_rows write (device_named setup name)
  answer_of_rows (events.GetChannel dev) = get_rows dev
  answer_of_rows (events.BeginResize name blocks) = resize_rows blocks (device_named setup name)
  answer_of_rows (events.EndResize dev) = end_resize_rows dev (growing_of r dev)
  answer_of_rows _ = refl

-- ---- the changes

counts_rows : (setup : Setup) (channels : DevId → Option ℕ) (event : RegEvent) (answer : Answer) → counts_after (rows_of setup) channels event answer ≡ counts_after setup channels event answer
counts_rows setup channels (events.GetChannel dev) (answers.Got fresh frozen) = ap (counts_got channels) (below_rows setup dev)
counts_rows setup channels (events.PutChannel dev closing) (answers.PutDown left) = refl
counts_rows setup channels (events.DropChannel dev) (answers.Dropped what low destruct) = refl
counts_rows setup channels _ _ = refl

pub changes_of_rows : (setup : Setup) (r : Registry) (t : ℕ) (q : Question) → registry_after (rows_of setup) r t (Some q) ≡ registry_after setup r t (Some q)
changes_of_rows setup r t q =
    ap (λ (cs : List Count). let x : Registry = record (registry_after setup r t (Some q)) { channels = counts_set t cs r.channels } in x) (counts_rows setup (references r t) q.event q.answer)

-- ---- the start

handles_rows : (setup : Setup) (n : ℕ) (devs : List DevId) → handles_from (rows_of setup) n devs ≡ handles_from setup n devs
handles_rows setup n [] = refl
handles_rows setup n (dev ∷ devs) =
    let base : DevId = unwrap_or (stands_on setup dev) dev in
    let h : ℕ → Handle = λ t. record { id = record { 0 = n }; dev = base; thread = record { 0 = t }; write = true; claim = Some Exclusive; blocks = blocks_of setup base } in
    ap (λ t. h t ∷ handles_from (rows_of setup) (n + 1) devs) (home_rows setup dev) ∙ ap (λ (hs : List Handle). h (home setup dev) ∷ hs) (handles_rows setup (n + 1) devs)

bare_rows : (setup : Setup) → bare_registry (rows_of setup) ≡ bare_registry setup
bare_rows setup = ap (λ (hs : List Handle). let x : Registry = record (bare_registry setup) { handles = hs } in x) (handles_rows setup 0 (firsts setup))

channel_rows : (setup : Setup) (dev : DevId) (r : Registry) → with_channel (rows_of setup) dev r ≡ with_channel setup dev r
channel_rows setup dev r =
    let after : ℕ → List DevId → Registry = λ t ds. record r { channels = counts_set t (counts_got (references r t) ds) r.channels } in
    ap (λ t. after t (below (rows_of setup) dev)) (home_rows setup dev) ∙ ap (after (home setup dev)) (below_rows setup dev)

channels_rows : (setup : Setup) (devs : List DevId) (r : Registry) → with_channels (rows_of setup) devs r ≡ with_channels setup devs r
channels_rows setup [] r = refl
channels_rows setup (dev ∷ devs) r = channels_rows setup devs (with_channel (rows_of setup) dev r) ∙ ap (with_channels setup devs) (channel_rows setup dev r)

pub start_of_rows : (setup : Setup) → registry_at_start (rows_of setup) ≡ registry_at_start setup
start_of_rows setup =
    let limited = filter (is_limited setup) (all_devices setup) in
    channels_rows setup limited (bare_registry (rows_of setup)) ∙ ap (with_channels setup limited) (bare_rows setup)

-- the registry after an event, by a setup that has its rows
pub after_of_rows : (setup : Setup) (r : Registered) (t stamp : ℕ) (event : RegEvent) (answer : Answer) → r.setup ≡ rows_of setup
    → registered r t stamp event answer ≡ record {
      setup = r.setup;
      journal = r.journal ++ event_row t stamp event answer ∷ [];
      last = stamp;
      state = registry_after setup r.state t (Some (record { event = event; answer = answer }));
    }
after_of_rows setup r t stamp event answer rows =
    let q : Question = record { event = event; answer = answer } in
    ap (λ (s : Registry). let x : Registered = record { setup = r.setup; journal = r.journal ++ event_row t stamp event answer ∷ []; last = stamp; state = s } in x)
    (ap (λ (s : Setup). registry_after s r.state t (Some q)) rows ∙ changes_of_rows setup r.state t q)
