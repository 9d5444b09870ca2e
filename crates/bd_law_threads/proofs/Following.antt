-- How a course goes on where the thread's registry follows rows of other threads.
use Rattle.std.proofs.Common.{◌≡◌, ℕ, ◌==◌, List, [], ◌++◌, filter, Option, refl, sym, ◌∙◌, ap, ap₂, subst, append-nil}
use mathlib.Core.Path.{fun_ext}
use Rattle.std.proofs.lemmas.List.Elements.{filter-append}
use Rattle.bd_base.specs.declared.act.Entry.{Entry}
use Rattle.bd_base.specs.declared.id.DevId.{DevId}
use Rattle.bd_base.specs.declared.setup.Setup.{Setup}
use Rattle.bd_machine.specs.declared.state.Handle.{Handle}
use Rattle.bd_machine.specs.declared.state.Registry.{Registry}
use Rattle.bd_machine.specs.Registry.{references}
use Rattle.bd_machine.specs.Start.{registry_at_start}
use Rattle.bd_machine.specs.View.{View, is_of}
use Rattle.bd_turns.specs.Local.{Local}
use Rattle.bd_log.specs.Merge.{entries_of}
use Rattle.bd_law_logs.specs.Rows.{Accepts}
use Rattle.bd_law_logs.specs.Journals.{events_by, followed_from, own_channels_by, own_handles_by, registry_by, Event}
use Rattle.bd_law_logs.specs.Fits.{events_in}
use Rattle.bd_law_logs.specs.Laws.{HasOwn}
use Rattle.bd_law_logs.proofs.Having.{others_leave_own}
use Rattle.bd_law_threads.specs.Course.{all_rows, Course, IsCourse, Phase}
use Rattle.bd_law_threads.specs.Steps.{with_registry, CatchesUp, SeesOwn}
use Rattle.bd_law_threads.proofs.Rows.{followed_on, none_followed}

module _ (setup : Setup) (t : ℕ) (p : Phase) (c : Course) (l : Local) (added : List Entry) (sees : SeesOwn t l) (none : entries_of t added ≡ []) (h : IsCourse setup t p c l) where
  -- the registry at the start
  abbrev start : Registry
  start = registry_at_start setup

  -- the registry that the rows leave
  abbrev followed : Registry
  followed = registry_by setup start (c.seen ++ added)

  -- the thread's own entries stay
  own_same : entries_of t (c.seen ++ added) ≡ entries_of t c.seen
  own_same = filter-append (λ (e : Entry). e.thread == t) c.seen added ∙ ap (λ (es : List Entry). entries_of t c.seen ++ es) none ∙ append-nil (entries_of t c.seen)

  -- what it has in the registry before
  own_before : HasOwn setup start c.seen t
  own_before = others_leave_own setup start c.seen t

  -- what it has there after them
  own_after : HasOwn setup start (c.seen ++ added) t
  own_after = others_leave_own setup start (c.seen ++ added) t

  -- its handles are the same
  handles_same : l.view.handles ≡ filter (is_of t) followed.handles
  handles_same =
      sees.handles
      ∙ ap (λ (g : Registry). filter (is_of t) g.handles) h.replica
      ∙ own_before.handles
      ∙ ap (λ (es : List Entry). own_handles_by t (filter (is_of t) start.handles) es) (sym own_same)
      ∙ sym own_after.handles

  -- so are its channels
  channels_same : l.view.channels ≡ references followed t
  channels_same =
      sees.channels
      ∙ ap (λ (g : Registry). references g t) h.replica
      ∙ fun_ext (λ (dev : DevId). own_before.channels dev)
      ∙ ap (λ (es : List Entry). own_channels_by setup (references start t) es) (sym own_same)
      ∙ sym (fun_ext (λ (dev : DevId). own_after.channels dev))

  -- so is all that it sees
  pub view_same : l.view ≡ (with_registry t followed l).view
  view_same = ap₂ (λ (hs : List Handle) (cs : DevId → Option ℕ). let v : View = record l.view { handles = hs; channels = cs } in v) handles_same channels_same

  -- its events are the same
  events_same : events_by t (followed_from setup start (c.seen ++ added)) ≡ events_in (all_rows p c)
  events_same =
      ap (events_by t) (followed_on setup start c.seen added)
      ∙ filter-append (λ (j : Event). j.entry.thread == t) (followed_from setup start c.seen) (followed_from setup (registry_by setup start c.seen) added)
      ∙ ap (λ (js : List Event). events_by t (followed_from setup start c.seen) ++ js) (none_followed setup (registry_by setup start c.seen) t added none)
      ∙ append-nil (events_by t (followed_from setup start c.seen))
      ∙ h.followed

-- the course with the rows that were followed
pub others_are_followed : CatchesUp
others_are_followed setup t p c l added sees none h = record {
  accepts = subst (λ (v : View). Accepts setup l.shared.shut t p.from c.rows v) (view_same setup t p c l added sees none h) h.accepts;
  carry = h.carry;
  since = h.since;
  late = h.late;
  within = h.within;
  queue = h.queue;
  lower = h.lower;
  met = h.met;
  others = h.others;
  own = h.own;
  senders = h.senders;
  puts = h.puts;
  stamped = h.stamped;
  none_own = h.none_own;
  replica = refl;
  wrote = own_same setup t p c l added sees none h ∙ h.wrote;
  followed = events_same setup t p c l added sees none h;
  served = h.served;
  held = h.held;
}
