-- How a thread goes on over what its disks hold: not at all, by itself, and one way after the other.
use Rattle.std.proofs.Common.{◌≡◌, ℕ, ◌≤◌, Bool, true, false, not, List, [], ◌∷◌, ◌++◌, length, refl, sym, ◌∙◌, ap, subst, append_assoc, append-nil, arith}
use Rattle.std.specs.List.{AllByRecursion}
use Rattle.std.proofs.lemmas.List.{append_cancel_left, length-append}
use Rattle.bd_base.specs.declared.act.Act.{Act}
use Rattle.bd_base.specs.declared.act.Act.TheVariants as acts
use Rattle.bd_base.specs.declared.act.Entry.{Entry}
use Rattle.bd_base.specs.declared.id.DevId.{DevId}
use Rattle.bd_base.specs.declared.setup.Setup.{Setup}
use Rattle.bd_machine.specs.declared.state.Content.{Content}
use Rattle.bd_machine.specs.BlockMap.{is_aio}
use Rattle.bd_law_logs.specs.Journals.{events}
use Rattle.bd_law_disks.specs.Over.{LeadsOver}
use Rattle.bd_law_disks.specs.Told.{is_on_disk}
use Rattle.bd_law_disks.proofs.Over.{over_goes_on, own_is_over}
use Rattle.bd_law_held.specs.Held.{held_over, EndInTime}
use Rattle.bd_law_held.proofs.Ends.{both_end}
use Rattle.bd_law_held.proofs.Over.{over_on, own_held_over}
use Rattle.bd_moment.specs.declared.time.Time.{Time}
use Rattle.bd_thread.specs.declared.links.Links.{Links}
use Rattle.bd_thread.specs.declared.thread.Thread.{Thread}
use Rattle.bd_thread.specs.Acted.{is_own, Acted, AreOf}
use Rattle.bd_thread.specs.Over.{WentAloneOver, WentOver}
use Rattle.bd_thread.specs.Seen.{local}
use Rattle.bd_thread.specs.Work.{ActedAlone, AsksNothing}
use Rattle.bd_thread.proofs.Alone.{alone_then}
use Rattle.bd_thread.proofs.Timing.{timely_none, timely_then}

is_not : (b : Bool) → not b ≡ true → b ≡ false
is_not true h = cc
is_not false h = refl

-- what is a thread's own no disk does
not_on_disk : (setup : Setup) (act : Act) → is_own setup act ≡ true → is_on_disk setup act ≡ false
not_on_disk setup (acts.Apply req k dev end) h = is_not (is_aio setup dev) h
not_on_disk setup _ h = refl

none_on_disk : (setup : Setup) (es : List Entry) → AreOf is_own setup es → AllByRecursion (λ e. is_on_disk setup e.act ≡ false) es
none_on_disk setup [] h = tt
none_on_disk setup (e ∷ es) h = (not_on_disk setup e.act h.0, none_on_disk setup es h.1)

-- what went on by itself went on over whatever the disks hold, and left that as it is
pub acted_over : (contents : DevId → Content) (o : Thread) (a : Links) (n : Thread) (c : Links) → Acted o a n c → WentOver contents contents o a n c
acted_over contents o a n c g = record {
  me = g.me;
  setup = g.setup;
  queues = g.queues;
  rows = g.rows;
  entries = g.entries;
  added = g.added;
  leads = own_is_over o.setup.now contents o.me (local o a) g.entries (local n c) (none_on_disk o.setup.now g.entries g.acts) g.leads;
  timely = g.timely;
  held = subst (EndInTime o.setup.now o.time.moment) (own_held_over o.setup.now contents o.me (local o a) g.entries (local n c) (none_on_disk o.setup.now g.entries g.acts) g.leads) g.held;
}

pub over_none : (contents : DevId → Content) (t : Thread) (links : Links) → WentOver contents contents t links t links
over_none contents t links = record {
  me = refl;
  setup = refl;
  queues = refl;
  rows = refl;
  entries = [];
  added = sym (append-nil links.entries);
  leads = (refl, refl);
  timely = timely_none t t refl (λ dev. refl);
  held = tt;
}

pub over_then : (x y z : DevId → Content) (o : Thread) (a : Links) (m : Thread) (b : Links) (n : Thread) (c : Links) → WentOver x y o a m b → WentOver y z m b n c → WentOver x z o a n c
over_then x y z o a m b n c g h =
    let setup-is : m.setup.now ≡ o.setup.now = ap (λ s. s.now) g.setup in
    record {
      me = h.me ∙ g.me;
      setup = h.setup ∙ g.setup;
      queues = h.queues ∙ g.queues;
      rows = h.rows ∙ g.rows;
      entries = g.entries ++ h.entries;
      added = h.added ∙ ap (λ (es : List Entry). es ++ h.entries) g.added ∙ append_assoc a.entries g.entries h.entries;
      leads = over_goes_on o.setup.now o.me x y z (local o a) (local m b) (local n c) g.entries h.entries g.leads
          (subst (λ (t : ℕ). LeadsOver o.setup.now t y (local m b) h.entries z (local n c)) g.me
          (subst (λ (s : Setup). LeadsOver s m.me y (local m b) h.entries z (local n c)) setup-is h.leads));
      timely = timely_then g.entries h.entries o m n g.timely h.timely;
      held = subst (EndInTime o.setup.now o.time.moment) (sym (over_on o.setup.now o.me x y (local o a) (local m b) g.entries h.entries g.leads))
          (both_end o.setup.now o.time.moment (held_over o.setup.now o.me x (local o a) g.entries) (held_over o.setup.now o.me y (local m b) h.entries) g.held
          (subst (λ (k : ℕ). EndInTime o.setup.now k (held_over o.setup.now o.me y (local m b) h.entries)) (ap (λ (t : Time). t.moment) g.timely.time)
          (subst (λ (t : ℕ). EndInTime o.setup.now m.time.moment (held_over o.setup.now t y (local m b) h.entries)) g.me
          (subst (λ (s : Setup). EndInTime s m.time.moment (held_over s m.me y (local m b) h.entries)) setup-is h.held))));
    }

-- it adds entries only
pub over_grown : (x y : DevId → Content) (o : Thread) (a : Links) (n : Thread) (c : Links) → WentOver x y o a n c → length a.entries ≤ length c.entries
over_grown x y o a n c h = omega (arith, ap length h.added, length-append a.entries h.entries)

-- ---- what asks the registry for nothing

-- the way on that asks the registry for nothing
pub over_alone : (x y : DevId → Content) (o : Thread) (a : Links) (n : Thread) (c : Links) → WentOver x y o a n c → AsksNothing a c → WentAloneOver x y o a n c
over_alone x y o a n c g h = record {
  went = g;
  registry = h.registry;
  none_asks = ap events (append_cancel_left a.entries g.entries h.entries (sym g.added ∙ h.added)) ∙ h.none_asks;
}

-- disks first, and then the thread by itself
pub over_alone_then : (x y : DevId → Content) (o : Thread) (a : Links) (m : Thread) (b : Links) (n : Thread) (c : Links)
    → WentOver x y o a m b → AsksNothing a b → ActedAlone m b n c → WentAloneOver x y o a n c
over_alone_then x y o a m b n c g first h =
    over_alone x y o a n c (over_then x y y o a m b n c g (acted_over y m b n c h.acted))
    (alone_then a b c first (record { registry = h.registry; entries = h.acted.entries; added = h.acted.added; none_asks = h.none_asks }))
