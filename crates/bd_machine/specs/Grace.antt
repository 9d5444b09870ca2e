-- Grace and Due: how long a soft freeze mark lasts, and that it becomes hard.
use Rattle.std.specs.Prelude.{ℕ, ◌+◌, Bool, false, cond, ◌&&◌, nat_le, min, List, [], ◌∷◌, find, Option, Some, None, is_some}
use Rattle.bd_base.specs.declared.id.DevId.{DevId}
use Rattle.bd_base.specs.declared.id.WalkId.{WalkId}
use Rattle.bd_machine.specs.declared.guard.TheConstants.{GRACE_DUE, MARK_DUE}
use Rattle.bd_machine.specs.declared.state.FreezeMark.{FreezeMark}
use Rattle.bd_machine.specs.declared.state.FreezeMark.TheVariants.{Soft}
use Rattle.bd_machine.specs.declared.state.Marking.{Marking}
use Rattle.bd_machine.specs.declared.state.Part.{Part}
use Rattle.bd_machine.specs.declared.state.Prior.{Prior}
use Rattle.bd_machine.specs.declared.state.Prior.TheVariants.{Softening}
use Rattle.bd_machine.specs.Delays.{last_moment}
use Rattle.bd_machine.specs.Limits.{seen}
use Rattle.bd_machine.specs.Marks.{hardened, marking_of, remarked, with_until}
use Rattle.bd_machine.specs.Same.{same_walk}
use Rattle.bd_machine.specs.View.{View, Change}

-- ---- Grace

-- the device whose soft mark of this walk the entry before set
abbrev pub softened : WalkId → Option Prior → Option DevId
softened walk (Some (Softening w dev)) = cond (same_walk w walk) (Some dev) None
softened walk _ = None

-- the drain time of a soft mark
abbrev pub time_of_mark : FreezeMark → ℕ
time_of_mark (Soft walk time until) = time
time_of_mark _ = 0

-- a device's soft mark that was set just now lasts at least so long: the drain time from the thread's last moment on
abbrev pub least_until : Part → DevId → ℕ
least_until part dev = min (part.moments.last + time_of_mark (marking_of part dev).frozen) last_moment

abbrev pub may_last : Part → ℕ → Option DevId → Bool
may_last part until None = false
may_last part until (Some dev) = nat_le (least_until part dev) until

-- the entry before set the soft mark of this walk, and it lasts until then
abbrev pub may_grace : Part → WalkId → ℕ → Bool
may_grace part walk until = may_last part until (softened walk part.prior)

abbrev pub guards_grace : View → WalkId → ℕ → List (ℕ × Bool)
guards_grace v walk until = (GRACE_DUE, may_grace v.part walk until) ∷ []

abbrev pub remarked_if_any : Option DevId → (Marking → Marking) → Part → Part
remarked_if_any None change part = part
remarked_if_any (Some dev) change part = remarked dev change part

abbrev pub change_grace : View → WalkId → ℕ → Change
change_grace v walk until = record { part = remarked_if_any (softened walk v.part.prior) (with_until until) v.part; moves = [] }

-- ---- Due

-- the moment until which a soft mark of this walk lasts, once the thread named it
abbrev pub until_of : WalkId → FreezeMark → Option ℕ
until_of walk (Soft w time until) = cond (same_walk w walk) until None
until_of walk _ = None

abbrev pub is_ending : WalkId → DevId × Marking → Bool
is_ending walk row = is_some (until_of walk row.1.frozen)

-- the soft mark of this walk that stands here until some moment, with its device
abbrev pub ending_mark : Part → WalkId → Option (DevId × Marking)
ending_mark part walk = find (is_ending walk) part.marked

abbrev pub has_come : ℕ → Option ℕ → Bool
has_come now None = false
has_come now (Some until) = nat_le until now

abbrev pub has_ended : WalkId → ℕ → Option (DevId × Marking) → Bool
has_ended walk now None = false
has_ended walk now (Some row) = has_come now (until_of walk row.1.frozen)

-- the soft mark of this walk stands here, and its moment has come
abbrev pub is_mark_due : Part → WalkId → ℕ → Bool
is_mark_due part walk now = has_ended walk now (ending_mark part walk) && nat_le part.moments.last now

abbrev pub guards_due : View → WalkId → ℕ → List (ℕ × Bool)
guards_due v walk now = (MARK_DUE, is_mark_due v.part walk now) ∷ []

abbrev pub dev_if_any : Option (DevId × Marking) → Option DevId
dev_if_any None = None
dev_if_any (Some row) = Some row.0

-- the mark is hard from now on
abbrev pub ended : WalkId → ℕ → Part → Part
ended walk now part = record (remarked_if_any (dev_if_any (ending_mark part walk)) hardened part) { moments = seen now part.moments }

abbrev pub change_due : View → WalkId → ℕ → Change
change_due v walk now = record { part = ended walk now v.part; moves = [] }
