-- How a device's freeze mark that stops each request, a hard one, came to stand on a thread.
use Rattle.std.specs.Prelude.{◌≡◌, ℕ, ◌+◌, ◌≤◌, Bool, true, false, ◌&&◌, ◌==◌, min, List, ◌∷◌, ◌++◌}
use Rattle.std.specs.List.{AllByRecursion, list_any}
use Rattle.bd_base.specs.declared.act.Act.{Act}
use Rattle.bd_base.specs.declared.act.Act.TheVariants as acts
use Rattle.bd_base.specs.declared.act.Entry.{Entry}
use Rattle.bd_base.specs.declared.event.Answer.TheVariants as answers
use Rattle.bd_base.specs.declared.event.RegEvent.TheVariants as events
use Rattle.bd_base.specs.declared.id.DevId.{DevId}
use Rattle.bd_base.specs.declared.id.WalkId.{WalkId}
use Rattle.bd_base.specs.declared.request.WalkKind.TheVariants.{Freeze, Thaw}
use Rattle.bd_base.specs.declared.setup.Setup.{Setup}
use Rattle.bd_machine.specs.declared.state.State.{State}
use Rattle.bd_machine.specs.Content.{Told}
use Rattle.bd_machine.specs.Delays.{last_moment}
use Rattle.bd_machine.specs.Kept.{walk_here}
use Rattle.bd_machine.specs.Run.{state_after}
use Rattle.bd_machine.specs.Same.{same_dev}
use Rattle.bd_machine.specs.View.{part_of, view}
use Rattle.bd_machine.specs.Walks.{time_of_walk}

-- ---- a soft mark

-- in this state, a visit of this freeze walk sets the thread's mark of the device, and brings this drain time
pub record IsSet (s : State) (t : ℕ) (dev : DevId) (walk : WalkId) (time : ℕ) (e : Entry) : Type 0 where
  pub thread : e.thread ≡ t
  pub visit : e.act ≡ acts.Visit walk dev Freeze
  pub brings : time_of_walk (walk_here (view s t) walk) ≡ time

-- in this state, the thread says that the mark of this walk lasts until a moment: for this time from its last moment on at least, or until the greatest
-- moment that there is
pub record IsNamed (s : State) (t : ℕ) (walk : WalkId) (time until : ℕ) (e : Entry) : Type 0 where
  pub thread : e.thread ≡ t
  pub grace : e.act ≡ acts.Grace walk until
  pub least : min ((part_of s t).moments.last + time) last_moment ≤ until

-- the mark was set with this drain time, and then it was said to last until this moment
pub record IsTimed (setup : Setup) (told : Told) (t : ℕ) (dev : DevId) (walk : WalkId) (time until : ℕ) (es : List Entry) : Type 0 where
  pub before : List Entry
  pub visit : Entry
  pub between : List Entry
  pub grace : Entry
  pub since : List Entry
  pub parts : es ≡ before ++ visit ∷ (between ++ grace ∷ since)
  pub set : IsSet (state_after setup told before) t dev walk time visit
  pub named : IsNamed (state_after setup told (before ++ visit ∷ between)) t walk time until grace

-- a soft mark of the device that this walk set has lasted until its moment
pub record HasEnded (setup : Setup) (told : Told) (t : ℕ) (dev : DevId) (walk : WalkId) (now : ℕ) (es : List Entry) : Type 0 where
  pub time : ℕ
  pub until : ℕ
  pub timed : IsTimed setup told t dev walk time until es
  pub come : until ≤ now

-- ---- a hard mark

-- after these entries the act makes the thread's mark of the device hard: the visit of a reset without a drain time; the end of a soft mark; or the channel is
-- made while a reset runs
abbrev pub MakesHard : Setup → Told → ℕ → DevId → List Entry → Act → Type 0
MakesHard setup told t dev es (acts.Visit walk d Freeze) = (d ≡ dev) × (time_of_walk (walk_here (view (state_after setup told es) t) walk) ≡ 0)
MakesHard setup told t dev es (acts.Due walk now) = HasEnded setup told t dev walk now es
MakesHard setup told t dev es (acts.Reg (events.GetChannel d) (answers.Got fresh frozen)) = list_any (same_dev dev) frozen ≡ true
MakesHard setup told t dev es _ = ⊥

abbrev pub is_thaw : DevId → Act → Bool
is_thaw dev (acts.Visit walk d Thaw) = same_dev d dev
is_thaw dev _ = false

-- a visit of the thread takes its mark of the device, at the end of a reset
abbrev pub is_thaw_of : ℕ → DevId → Entry → Bool
is_thaw_of t dev e = (e.thread == t) && is_thaw dev e.act

-- an entry of the thread made its mark of the device hard, and none took the mark since
pub record IsHardSince (setup : Setup) (told : Told) (t : ℕ) (dev : DevId) (es : List Entry) : Type 0 where
  pub before : List Entry
  pub entry : Entry
  pub since : List Entry
  pub parts : es ≡ before ++ entry ∷ since
  pub thread : entry.thread ≡ t
  pub hard : MakesHard setup told t dev before entry.act
  pub stays : AllByRecursion (λ e. is_thaw_of t dev e ≡ false) since
