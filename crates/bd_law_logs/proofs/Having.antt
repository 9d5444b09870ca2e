-- A thread's handles and references in the registry that a journal leaves, and those that the thread sees.
use Rattle.std.proofs.Common.{◌≡◌, ℕ, suc, ◌<◌, Bool, true, false, cond, ◌⊎◌, inl, inr, List, [], ◌∷◌, filter, Option, refl, sym, ◌∙◌, ap, subst, eq-eqb, ne_eqb, arith}
use mathlib.Core.Path.{fun_ext}
use Rattle.std.proofs.lemmas.Bool.{cases_eq}
use Rattle.std.proofs.lemmas.List.FromFn.{length-map-range_with_len}
use Rattle.bd_base.specs.declared.act.Entry.{Entry}
use Rattle.bd_base.specs.declared.id.DevId.{DevId}
use Rattle.bd_base.specs.declared.setup.Setup.{Setup}
use Rattle.bd_machine.specs.declared.state.Handle.{Handle}
use Rattle.bd_machine.specs.declared.state.Registry.{Registry}
use Rattle.bd_machine.specs.declared.state.State.{State}
use Rattle.bd_machine.specs.Alone.{own_handles_after, own_channels_after}
use Rattle.bd_machine.specs.Registry.{Question, references}
use Rattle.bd_machine.specs.Start.{start, part_at_start}
use Rattle.bd_machine.specs.Step.{is_shutdown}
use Rattle.bd_machine.specs.View.{View, Change, asked, blank_part, is_of}
use Rattle.bd_machine.proofs.Laws.{channels-own, channels-other, view-own, view-other}
use Rattle.bd_log.specs.Merge.{entries_of}
use Rattle.bd_law_logs.specs.Rows.{Row, entries, view_after, Accepts}
use Rattle.bd_law_logs.specs.Journals.{is_event, events, registry_next, registry_by, own_handles_by, own_channels_by}
use Rattle.bd_law_logs.specs.Laws.{OthersLeaveOwn, LogsGiveOwn}
use Rattle.bd_law_logs.proofs.Journal.{none_asked}

-- ---- one entry

-- a state of this number of threads with this registry: an entry leaves handles there as the machine's laws of views say
abbrev state_with : Setup → ℕ → Registry → State
state_with setup threads registry = record (start (record setup { threads = threads }) []) { registry = registry }

abbrev nothing : Change
nothing = record { part = blank_part; moves = [] }

handles_own : (setup : Setup) (registry : Registry) (e : Entry) → filter (is_of e.thread) (registry_next setup registry e).handles ≡ own_handles_after e.thread (filter (is_of e.thread) registry.handles) (asked e.act)
handles_own setup registry e =
    ap (λ (v : View). v.handles) (view-own setup (state_with setup (suc e.thread) registry) e nothing
    (subst (λ (n : ℕ). e.thread < n) (sym (length-map-range_with_len (part_at_start (record setup { threads = suc e.thread }) []) 0 (suc e.thread))) (omega arith)))

handles_other : (setup : Setup) (registry : Registry) (e : Entry) (t : ℕ) → (e.thread ≡ t → ⊥) → filter (is_of t) (registry_next setup registry e).handles ≡ filter (is_of t) registry.handles
handles_other setup registry e t ne = ap (λ (v : View). v.handles) (view-other setup (state_with setup 0 registry) e nothing t ne tt)

-- ---- a journal

module _ (setup : Setup) (t : ℕ) where
  -- an entry of the thread itself comes first among the thread's, and another's is none of them
  mine_first : (e : Entry) (es : List Entry) → e.thread ≡ t → entries_of t (e ∷ es) ≡ e ∷ entries_of t es
  mine_first e es same = ap (λ b. cond b (e ∷ entries_of t es) (entries_of t es)) (eq-eqb e.thread t same)

  mine_later : (e : Entry) (es : List Entry) → (e.thread ≡ t → ⊥) → entries_of t (e ∷ es) ≡ entries_of t es
  mine_later e es ne = ap (λ b. cond b (e ∷ entries_of t es) (entries_of t es)) (ne_eqb e.thread t ne)

  handles_are : (registry : Registry) (es : List Entry) → filter (is_of t) (registry_by setup registry es).handles ≡ own_handles_by t (filter (is_of t) registry.handles) (entries_of t es)
  handles_are registry [] = refl
  handles_are registry (e ∷ es) = handles_are (registry_next setup registry e) es ∙ go (cases_eq e.thread t)
    where
      own : e.thread ≡ t → filter (is_of t) (registry_next setup registry e).handles ≡ own_handles_after t (filter (is_of t) registry.handles) (asked e.act)
      own same = subst (λ (u : ℕ). filter (is_of u) (registry_next setup registry e).handles ≡ own_handles_after u (filter (is_of u) registry.handles) (asked e.act)) same (handles_own setup registry e)

      go : (e.thread ≡ t) ⊎ (e.thread ≡ t → ⊥)
          → own_handles_by t (filter (is_of t) (registry_next setup registry e).handles) (entries_of t es) ≡ own_handles_by t (filter (is_of t) registry.handles) (entries_of t (e ∷ es))
      go (inl same) =
          ap (λ (hs : List Handle). own_handles_by t hs (entries_of t es)) (own same)
          ∙ sym (ap (own_handles_by t (filter (is_of t) registry.handles)) (mine_first e es same))
      go (inr ne) =
          ap (λ (hs : List Handle). own_handles_by t hs (entries_of t es)) (handles_other setup registry e t ne)
          ∙ sym (ap (own_handles_by t (filter (is_of t) registry.handles)) (mine_later e es ne))

  channels_are : (registry : Registry) (es : List Entry) → references (registry_by setup registry es) t ≡ own_channels_by setup (references registry t) (entries_of t es)
  channels_are registry [] = refl
  channels_are registry (e ∷ es) = channels_are (registry_next setup registry e) es ∙ go (cases_eq e.thread t)
    where
      own : e.thread ≡ t → references (registry_next setup registry e) t ≡ own_channels_after setup (references registry t) (asked e.act)
      own same =
          subst (λ (u : ℕ). references (registry_next setup registry e) u ≡ own_channels_after setup (references registry u) (asked e.act)) same
          (fun_ext (λ (dev : DevId). channels-own setup e.thread registry (asked e.act) dev))

      go : (e.thread ≡ t) ⊎ (e.thread ≡ t → ⊥)
          → own_channels_by setup (references (registry_next setup registry e) t) (entries_of t es) ≡ own_channels_by setup (references registry t) (entries_of t (e ∷ es))
      go (inl same) =
          ap (λ (c : DevId → Option ℕ). own_channels_by setup c (entries_of t es)) (own same)
          ∙ sym (ap (own_channels_by setup (references registry t)) (mine_first e es same))
      go (inr ne) =
          ap (λ (c : DevId → Option ℕ). own_channels_by setup c (entries_of t es)) (fun_ext (λ (dev : DevId). channels-other setup e.thread t ne registry (asked e.act) dev))
          ∙ sym (ap (own_channels_by setup (references registry t)) (mine_later e es ne))

pub others_leave_own : OthersLeaveOwn
others_leave_own setup registry journal t = record {
  handles = handles_are setup t registry journal;
  channels = λ dev. ap (λ (c : DevId → Option ℕ). c dev) (channels_are setup t registry journal);
}

-- ---- a log

-- an entry that is no event leaves both
handles_by : (t : ℕ) (hs : List Handle) (es : List Entry) → own_handles_by t hs (events es) ≡ own_handles_by t hs es
handles_by t hs [] = refl
handles_by t hs (e ∷ es) = go (is_event e) refl (λ k. handles_by t k es)
  where
    go : (b : Bool) → is_event e ≡ b → ((k : List Handle) → own_handles_by t k (events es) ≡ own_handles_by t k es)
        → own_handles_by t hs (cond b (e ∷ events es) (events es)) ≡ own_handles_by t (own_handles_after t hs (asked e.act)) es
    go true is rest = rest (own_handles_after t hs (asked e.act))
    go false is rest = rest hs ∙ sym (ap (λ (o : Option Question). own_handles_by t (own_handles_after t hs o) es) (none_asked (asked e.act) (is_shutdown e.act) is))

channels_by : (setup : Setup) (channels : DevId → Option ℕ) (es : List Entry) → own_channels_by setup channels (events es) ≡ own_channels_by setup channels es
channels_by setup channels [] = refl
channels_by setup channels (e ∷ es) = go (is_event e) refl (λ k. channels_by setup k es)
  where
    go : (b : Bool) → is_event e ≡ b → ((k : DevId → Option ℕ) → own_channels_by setup k (events es) ≡ own_channels_by setup k es)
        → own_channels_by setup channels (cond b (e ∷ events es) (events es)) ≡ own_channels_by setup (own_channels_after setup channels (asked e.act)) es
    go true is rest = rest (own_channels_after setup channels (asked e.act))
    go false is rest = rest channels ∙ sym (ap (λ (o : Option Question). own_channels_by setup (own_channels_after setup channels o) es) (none_asked (asked e.act) (is_shutdown e.act) is))

handles_seen : (setup : Setup) (shut : Bool) (t : ℕ) (v : View) (rows : List Row) (w : View) → Accepts setup shut t v rows w → w.handles ≡ own_handles_by t v.handles (entries rows)
unfolding view_after
handles_seen setup shut t v [] w h = ap (λ (x : View). x.handles) (sym h)
handles_seen setup shut t v (r ∷ rs) w h = handles_seen setup shut t (view_after setup shut t v r) rs w h.4

channels_seen : (setup : Setup) (shut : Bool) (t : ℕ) (v : View) (rows : List Row) (w : View) → Accepts setup shut t v rows w → w.channels ≡ own_channels_by setup v.channels (entries rows)
unfolding view_after
channels_seen setup shut t v [] w h = ap (λ (x : View). x.channels) (sym h)
channels_seen setup shut t v (r ∷ rs) w h = channels_seen setup shut t (view_after setup shut t v r) rs w h.4

pub logs_give_own : LogsGiveOwn
logs_give_own setup shut t v rows w h = record {
  handles = handles_seen setup shut t v rows w h ∙ sym (handles_by t v.handles (entries rows));
  channels = channels_seen setup shut t v rows w h ∙ sym (channels_by setup v.channels (entries rows));
}
