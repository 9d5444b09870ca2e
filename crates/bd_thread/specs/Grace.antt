-- Drain times: until when a thread says that a soft freeze mark lasts, and when it makes one hard.
use Rattle.std.specs.Prelude.{◌≡◌, ℕ, ◌+◌, ◌-◌, Bool, true, false, cond, nat_le, min, List, [], ◌∷◌, find, Option, Some, None}
use Rattle.bd_base.specs.declared.act.Act.TheVariants as acts
use Rattle.bd_base.specs.declared.id.DevId.{DevId}
use Rattle.bd_base.specs.declared.id.WalkId.{WalkId}
use Rattle.bd_base.specs.declared.request.AbortCause.TheVariants.{Frozen}
use Rattle.bd_machine.specs.declared.state.FreezeMark.{FreezeMark}
use Rattle.bd_machine.specs.declared.state.FreezeMark.TheVariants.{Soft}
use Rattle.bd_machine.specs.declared.state.Marking.{Marking}
use Rattle.bd_machine.specs.declared.state.Part.{Part}
use Rattle.bd_machine.specs.Delays.{last_moment}
use Rattle.bd_machine.specs.Grace.{change_due, change_grace, is_mark_due, may_grace}
use Rattle.bd_links.specs.Entries.{longer}
use Rattle.bd_thread.specs.declared.links.Links.{Links}
use Rattle.bd_thread.specs.declared.thread.Thread.{Thread}
use Rattle.bd_thread.specs.Aborts.{StopsAll, Then}
use Rattle.bd_thread.specs.Seen.{untaken, view_of}

-- ---- Grace

-- the turn's moment with a drain time
abbrev pub grace_until : Thread → ℕ → ℕ
grace_until t time = min (t.time.moment + time) last_moment

-- one Grace: the mark that the entry before set lasts until then
pub record IsGraced (walk : WalkId) (until : ℕ) (old : Thread) (before : Links) (new : Thread) (after : Links) : Type 0 where
  pub thread : new ≡ record old { part = untaken (change_grace (view_of old before) walk until).part }
  pub links : after ≡ record before { entries = longer old.me before.entries (acts.Grace walk until) }

abbrev pub GracesBy : WalkId → ℕ → Thread → Links → Thread → Links → Bool → Type 0
GracesBy walk until old before new after false = (new ≡ old) × (after ≡ before)
GracesBy walk until old before new after true = IsGraced walk until old before new after

-- where the entry before is the visit of this walk that set a soft mark, that lasts until the turn's moment with this drain time; else nothing changes
abbrev pub Graces : WalkId → ℕ → Thread → Links → Thread → Links → Type 0
Graces walk time old before new after = GracesBy walk (grace_until old time) old before new after (may_grace old.part walk (grace_until old time))

-- ---- Due

-- the walk of a soft mark that lasts until this moment or one before it
abbrev pub ended_walk : ℕ → FreezeMark → Option WalkId
ended_walk now (Soft walk time (Some until)) = cond (nat_le until now) (Some walk) None
ended_walk now _ = None

abbrev pub is_due_by : Part → ℕ → Option WalkId → Bool
is_due_by part now None = false
is_due_by part now (Some walk) = is_mark_due part walk now

-- the rules let the mark of this row become hard at this moment
abbrev pub is_due : Part → ℕ → DevId × Marking → Bool
is_due part now row = is_due_by part now (ended_walk now row.1.frozen)

abbrev pub with_walk : DevId → Option WalkId → Option (DevId × WalkId)
with_walk dev None = None
with_walk dev (Some walk) = Some (dev, walk)

abbrev pub walk_of_row : ℕ → Option (DevId × Marking) → Option (DevId × WalkId)
walk_of_row now None = None
walk_of_row now (Some row) = with_walk row.0 (ended_walk now row.1.frozen)

-- the first device whose mark may, with the walk that set it
abbrev pub next_due : Part → ℕ → Option (DevId × WalkId)
next_due part now = walk_of_row now (find (is_due part now) part.marked)

-- a mark is soft, and lasts until some moment
abbrev pub lasts : FreezeMark → Bool
lasts (Soft walk time (Some until)) = true
lasts _ = false

abbrev pub lasts_at : DevId × Marking → Bool
lasts_at row = lasts row.1.frozen

-- one Due, which names the turn's moment: the mark is hard from now on
pub record IsHardened (walk : WalkId) (old : Thread) (before : Links) (new : Thread) (after : Links) : Type 0 where
  pub thread : new ≡ record old { part = untaken (change_due (view_of old before) walk old.time.moment).part }
  pub links : after ≡ record before { entries = longer old.me before.entries (acts.Due walk old.time.moment) }

abbrev pub HardensBy : Option (DevId × WalkId) → Thread → Links → Thread → Links → Bool → Type 0
HardensBy None old before new after done = (done ≡ false) × (new ≡ old) × (after ≡ before)
HardensBy (Some due) old before new after done = (done ≡ true) × Then (λ t links. IsHardened due.1 old before t links) (λ t links. StopsAll due.0 (Frozen due.0) t links new after)

-- the first soft mark that may become hard at the turn's moment does, and then what waits here for its device is stopped; where none may, nothing changes
abbrev pub Hardens : Thread → Links → Thread → Links → Bool → Type 0
Hardens old before new after done = HardensBy (next_due old.part old.time.moment) old before new after done

-- no soft mark may become hard at the turn's moment
abbrev pub NoDue : Thread → Links → Type 0
NoDue t links = (walk : WalkId) → is_mark_due t.part walk t.time.moment ≡ false

-- ---- how long the first of them lasts

-- the moment until which a soft mark lasts, once the thread named it
abbrev pub until_of : FreezeMark → Option ℕ
until_of (Soft walk time until) = until
until_of _ = None

abbrev pub least : Option ℕ → Option ℕ → Option ℕ
least (Some a) (Some b) = Some (min a b)
least (Some a) None = Some a
least None other = other

-- the least of this moment, if there is one, and those until which these marks last
abbrev pub soonest : Option ℕ → List (DevId × Marking) → Option ℕ
soonest first [] = first
soonest first (row ∷ rows) = soonest (least first (until_of row.1.frozen)) rows

abbrev pub lasts_from : ℕ → Option ℕ → Option ℕ
lasts_from now None = None
lasts_from now (Some until) = Some (until - now)

-- how long the first of the thread's soft marks lasts from the turn's moment on
abbrev pub lasts_for : Thread → Option ℕ
lasts_for t = lasts_from t.time.moment (soonest None t.part.marked)
