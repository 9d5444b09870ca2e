-- How a thread goes on: not at all, by one act, and one way after the other.
use Rattle.std.proofs.Common.{◌≡◌, ℕ, ◌+◌, Bool, true, false, not, cond, ◌||◌, nat_lt, List, [], ◌∷◌, ◌++◌, length, vec_len, Option, Some, None, refl, sym, ◌∙◌, ap, subst, append_assoc, append-nil, eq-eqb, lt-ltb, arith}
use Rattle.std.specs.List.{AllByRecursion, filter}
use Rattle.std.proofs.lemmas.List.Elements.{filter-append}
use mathlib.Core.Path.{fun_ext}
use Rattle.bd_base.specs.declared.act.Act.{Act}
use Rattle.bd_base.specs.declared.act.Entry.{Entry}
use Rattle.bd_base.specs.declared.event.Answer.{Answer}
use Rattle.bd_base.specs.declared.event.Answer.TheVariants as answers
use Rattle.bd_base.specs.declared.event.RegEvent.{RegEvent}
use Rattle.bd_base.specs.declared.event.RegEvent.TheVariants as events
use Rattle.bd_base.specs.declared.event.ClaimKind.{ClaimKind}
use Rattle.bd_base.specs.declared.id.DevId.{DevId}
use Rattle.bd_base.specs.declared.id.HandleId.{HandleId}
use Rattle.bd_base.specs.declared.setup.Setup.{Setup}
use Rattle.bd_machine.specs.declared.guard.TheConstants.{UNBUILT, IN_ORDER}
use Rattle.bd_machine.specs.declared.state.Handle.{Handle}
use Rattle.bd_machine.specs.declared.state.Registry.{Registry}
use Rattle.bd_machine.specs.Alone.{own_channels_after}
use Rattle.bd_machine.specs.Changes.{handles_after, registry_after, with_claim}
use Rattle.bd_machine.specs.Guards.{guards, is_built}
use Rattle.bd_machine.specs.Registry.{Question, is_on, is_own, references}
use Rattle.bd_machine.specs.Step.{first_failing, is_shutdown}
use Rattle.bd_machine.specs.View.{is_of}
use Rattle.bd_machine.proofs.Laws.{channels-own, filter_map_commutes, filter_twice}
use Rattle.bd_turns.specs.Local.{Local, Leads, came_local, change_local, refusal_local, carried_local, local_after}
use Rattle.bd_turns.proofs.Going.{leads_on}
use Rattle.bd_law_held.specs.Held.{held_by, held_led, EndInTime}
use Rattle.bd_law_held.proofs.Ends.{both_end}
use Rattle.bd_law_held.proofs.Over.{led_on}
use Rattle.bd_moment.specs.declared.time.Time.{Time}
use Rattle.bd_links.specs.Entries.{entry_at, longer}
use Rattle.bd_links.specs.Queues.{queues_of}
use Rattle.bd_tokens.specs.Tokens.{here_in}
use Rattle.bd_links.proofs.Longer.{length-longer}
use Rattle.bd_thread.specs.declared.links.Links.{Links}
use Rattle.bd_thread.specs.declared.thread.Thread.{Thread}
use Rattle.bd_thread.specs.Acted.{ActedBy, AreOf}
use Rattle.bd_thread.specs.Seen.{local_at, local}
use Rattle.bd_thread.specs.Timely.{slices_at, IsTimely}
use Rattle.bd_thread.proofs.Timing.{timely_none, timely_one, timely_then}

-- ---- what a thread sees and what is shared, by its parts

pub local_eq : (k l : Local) → k.view.part ≡ l.view.part → k.view.here ≡ l.view.here → k.view.handles ≡ l.view.handles → k.view.channels ≡ l.view.channels
    → k.shared.stamp ≡ l.shared.stamp → k.shared.shut ≡ l.shared.shut → k.shared.registry ≡ l.shared.registry → k.shared.queues ≡ l.shared.queues
    → k ≡ l
local_eq k l part here handles channels stamp shut registry queues = λ i. record {
  view = record { part = part i; here = here i; handles = handles i; channels = channels i };
  shared = record { stamp = stamp i; shut = shut i; registry = registry i; queues = queues i };
}

-- an act that isn't a Shutdown leaves it as it was, whether one stands
pub still_shut : (shut : Bool) → (shut || false) ≡ shut
still_shut true = refl
still_shut false = refl

-- ---- a thread's handles and channels after an event of its own

-- what isn't built doesn't come
pub not_built : {X : Type 0} → false ≡ true → X
not_built h = cc

-- a claim leaves each handle with its thread
claim_keeps : (t : ℕ) (id : HandleId) (kind : ClaimKind) (h : Handle) → is_of t (cond (is_own t id h) (with_claim kind h) h) ≡ is_of t h
claim_keeps t id kind h = go (is_own t id h)
  where
    go : (b : Bool) → is_of t (cond b (with_claim kind h) h) ≡ is_of t h
    go true = refl
    go false = refl

-- the registry's handles that are the thread's, after an event, are the thread's handles after it
pub handles_own : (t : ℕ) (hs : List Handle) (event : RegEvent) (answer : Answer) → filter (is_of t) (handles_after t hs event answer) ≡ handles_after t (filter (is_of t) hs) event answer
handles_own t hs (events.Open name write) (answers.Opened id dev blocks) =
    let h : Handle = record { id = id; dev = dev; thread = record { 0 = t }; write = write; claim = None; blocks = blocks } in
    filter-append (is_of t) hs (h ∷ []) ∙ ap (λ b. filter (is_of t) hs ++ cond b (h ∷ []) []) (eq-eqb t t refl)
handles_own t hs (events.Close id) (answers.Closed destruct) = filter_twice (is_of t) (λ h. not (is_own t id h)) hs
handles_own t hs (events.Claim id kind) answers.Claimed = filter_map_commutes (is_of t) (λ h. cond (is_own t id h) (with_claim kind h) h) (claim_keeps t id kind) hs
handles_own t hs _ _ = refl

-- the thread's handles on a device
pub on_own : (t : ℕ) (dev : DevId) (hs : List Handle) → filter (is_of t) (filter (is_on dev) hs) ≡ filter (is_on dev) (filter (is_of t) hs)
on_own t dev hs = filter_twice (is_of t) (is_on dev) hs

-- the registry's channels that are the thread's, after the event, are the thread's channels after it
pub channels_own : (setup : Setup) (t : ℕ) (r : Registry) (q : Option Question) → references (registry_after setup r t q) t ≡ own_channels_after setup (references r t) q
channels_own setup t r q = fun_ext (channels-own setup t r q)

-- ---- one act

-- each guard holds
abbrev pub Hold : List (ℕ × Bool) → Type 0
Hold gs = AllByRecursion (λ g. g.1 ≡ true) gs

pub all_pass : (gs : List (ℕ × Bool)) → Hold gs → first_failing gs ≡ None
all_pass [] h = refl
all_pass (g ∷ gs) h = ap (λ b. cond b (first_failing gs) (Some g.0)) h.0 ∙ all_pass gs h.1

-- the thread may do the act, and it leads there
pub record Steps (setup : Setup) (t : ℕ) (l : Local) (act : Act) (l' : Local) : Type 0 where
  pub still : is_shutdown act ≡ false
  pub allowed : refusal_local setup t l (entry_at t (l.shared.stamp + 1) act) ≡ None
  pub leads : local_after setup t l (entry_at t (l.shared.stamp + 1) act) ≡ l'

-- an act that is built, of which each guard holds, and what it changes
pub steps : (setup : Setup) (t : ℕ) (l l' : Local) (act : Act)
    → is_shutdown act ≡ false
    → is_built act ≡ true
    → Hold (guards setup t l.view act (came_local setup t l act))
    → carried_local setup t l (entry_at t (l.shared.stamp + 1) act) (change_local setup t l act) ≡ l'
    → Steps setup t l act l'
unfolding local_after
steps setup t l l' act still built hold change =
    let later : nat_lt l.shared.stamp (l.shared.stamp + 1) ≡ true = lt-ltb l.shared.stamp (l.shared.stamp + 1) (omega arith) in
    record {
      still = still;
      allowed = all_pass ((UNBUILT, is_built act) ∷ (IN_ORDER, nat_lt l.shared.stamp (l.shared.stamp + 1)) ∷ guards setup t l.view act (came_local setup t l act)) (built, (later, hold));
      leads = change;
    }

-- ---- how the thread goes on

are_both : (may : Setup → Act → Bool) (setup : Setup) (xs ys : List Entry) → AreOf may setup xs → AreOf may setup ys → AreOf may setup (xs ++ ys)
are_both may setup [] ys f s = s
are_both may setup (x ∷ xs) ys f s = (f.0, are_both may setup xs ys f.1 s)

pub acted_still : {may : Setup → Act → Bool} (old : Thread) (before : Links) (new : Thread) (after : Links)
    → new.me ≡ old.me
    → new.setup ≡ old.setup
    → vec_len after.queues ≡ vec_len before.queues
    → after.registry.setup ≡ before.registry.setup
    → after.entries ≡ before.entries
    → local old before ≡ local new after
    → new.time ≡ old.time
    → ActedBy may old before new after
acted_still old before new after me setup queues rows added same time = record {
  me = me;
  setup = setup;
  queues = queues;
  rows = rows;
  entries = [];
  added = added ∙ sym (append-nil before.entries);
  acts = tt;
  leads = same;
  timely = timely_none old new time (λ dev. ap (λ (l : Local). slices_at l.view.part dev) (sym same));
  held = tt;
}

pub acted_none : {may : Setup → Act → Bool} (t : Thread) (links : Links) → ActedBy may t links t links
acted_none t links = acted_still t links t links refl refl refl refl refl refl refl

pub acted_then : {may : Setup → Act → Bool} (o : Thread) (a : Links) (m : Thread) (b : Links) (n : Thread) (c : Links) → ActedBy may o a m b → ActedBy may m b n c → ActedBy may o a n c
acted_then {may} o a m b n c g h =
    let setup-is : m.setup.now ≡ o.setup.now = ap (λ s. s.now) g.setup in
    record {
      me = h.me ∙ g.me;
      setup = h.setup ∙ g.setup;
      queues = h.queues ∙ g.queues;
      rows = h.rows ∙ g.rows;
      entries = g.entries ++ h.entries;
      added = h.added ∙ ap (λ (es : List Entry). es ++ h.entries) g.added ∙ append_assoc a.entries g.entries h.entries;
      acts = are_both may o.setup.now g.entries h.entries g.acts (subst (λ (s : Setup). AreOf may s h.entries) setup-is h.acts);
      leads = leads_on o.setup.now o.me (local o a) (local m b) (local n c) g.entries h.entries g.leads
          (subst (λ (t : ℕ). Leads o.setup.now t (local m b) h.entries (local n c)) g.me
          (subst (λ (s : Setup). Leads s m.me (local m b) h.entries (local n c)) setup-is h.leads));
      timely = timely_then g.entries h.entries o m n g.timely h.timely;
      held = subst (EndInTime o.setup.now o.time.moment) (sym (led_on o.setup.now o.me (local o a) (local m b) g.entries h.entries g.leads))
          (both_end o.setup.now o.time.moment (held_led o.setup.now o.me (local o a) g.entries) (held_led o.setup.now o.me (local m b) h.entries) g.held
          (subst (λ (k : ℕ). EndInTime o.setup.now k (held_led o.setup.now o.me (local m b) h.entries)) (ap (λ (t : Time). t.moment) g.timely.time)
          (subst (λ (t : ℕ). EndInTime o.setup.now m.time.moment (held_led o.setup.now t (local m b) h.entries)) g.me
          (subst (λ (s : Setup). EndInTime s m.time.moment (held_led s m.me (local m b) h.entries)) setup-is h.held))));
    }

pub acted_one : {may : Setup → Act → Bool} (old : Thread) (before : Links) (new : Thread) (after : Links) (act : Act)
    → new.me ≡ old.me
    → new.setup ≡ old.setup
    → vec_len after.queues ≡ vec_len before.queues
    → after.registry.setup ≡ before.registry.setup
    → after.entries ≡ longer old.me before.entries act
    → is_shutdown act ≡ false
    → refusal_local old.setup.now old.me (local old before) (entry_at old.me (length before.entries + 1) act) ≡ None
    → local_after old.setup.now old.me (local old before) (entry_at old.me (length before.entries + 1) act) ≡ local new after
    → may old.setup.now act ≡ true
    → IsTimely act old new
    → ActedBy may old before new after
acted_one old before new after act me setup queues rows added still allowed leads own timely = record {
  me = me;
  setup = setup;
  queues = queues;
  rows = rows;
  entries = entry_at old.me (length before.entries + 1) act ∷ [];
  added = added;
  acts = (own, tt);
  leads = (refl, still, allowed, leads);
  timely = timely_one old new old.setup.now old.me (local old before) (local new after) (entry_at old.me (length before.entries + 1) act) refl refl allowed leads timely;
  held = both_end old.setup.now old.time.moment (held_by (here_in old.held.items) act) [] timely.held tt;
}

pub acted_step : {may : Setup → Act → Bool} (old : Thread) (before : Links) (new : Thread) (after : Links) (act : Act)
    → new.me ≡ old.me
    → new.setup ≡ old.setup
    → vec_len after.queues ≡ vec_len before.queues
    → after.registry.setup ≡ before.registry.setup
    → after.entries ≡ longer old.me before.entries act
    → Steps old.setup.now old.me (local old before) act (local new after)
    → may old.setup.now act ≡ true
    → IsTimely act old new
    → ActedBy may old before new after
acted_step old before new after act me setup queues rows added h own timely = acted_one old before new after act me setup queues rows added h.still h.allowed h.leads own timely

-- by what the act leaves, part by part
pub acted_by : {may : Setup → Act → Bool} (old : Thread) (before : Links) (new : Thread) (after : Links) (act : Act)
    → new.me ≡ old.me
    → new.setup ≡ old.setup
    → vec_len after.queues ≡ vec_len before.queues
    → after.registry.setup ≡ before.registry.setup
    → after.entries ≡ longer old.me before.entries act
    → Steps old.setup.now old.me (local old before) act (local_at old.me new.part (here_in new.held.items) after.registry.state after.shut (length before.entries + 1) (queues_of after.queues.items))
    → may old.setup.now act ≡ true
    → IsTimely act old new
    → ActedBy may old before new after
acted_by old before new after act me setup queues rows added h own timely =
    let at : ℕ → ℕ → Local = λ t n. local_at t new.part (here_in new.held.items) after.registry.state after.shut n (queues_of after.queues.items) in
    let stamp : length before.entries + 1 ≡ length after.entries = sym (length-longer old.me before.entries act) ∙ sym (ap length added) in
    acted_one old before new after act me setup queues rows added h.still h.allowed (h.leads ∙ ap (at old.me) stamp ∙ ap (λ t. at t (length after.entries)) (sym me)) own timely

-- what is said of the thread and the links as an act leaves them
pub carried : (P : Thread → Links → Type 0) (new : Thread) (after : Links) (n : Thread) (l : Links) → n ≡ new → l ≡ after → P new after → P n l
carried P new after n l thread links h = subst (λ (t : Thread). P t l) (sym thread) (subst (P new) (sym links) h)
