-- Laws of the machine: what holds of every step and every run.
use Rattle.std.specs.Prelude.{◌≡◌, ◌≢◌, ℕ, ◌+◌, ◌<◌, ◌≤◌, Bool, true, false, cond, List, [], ◌∷◌, ◌++◌, length, map}
use Rattle.std.specs.List.{AllByRecursion}
use Rattle.bd_base.specs.declared.id.DevId.{DevId}
use Rattle.bd_base.specs.declared.id.ReqId.{ReqId}
use Rattle.bd_base.specs.declared.act.Act.{Act}
use Rattle.bd_base.specs.declared.act.Act.TheVariants as acts
use Rattle.bd_base.specs.declared.act.Entry.{Entry}
use Rattle.bd_base.specs.declared.setup.Setup.{Setup}
use Rattle.bd_machine.specs.declared.state.Base.{Base}
use Rattle.bd_machine.specs.declared.state.Content.{Content}
use Rattle.bd_machine.specs.declared.state.Id.TheVariants.{Request}
use Rattle.bd_machine.specs.declared.state.Place.TheVariants.{Nowhere}
use Rattle.bd_machine.specs.declared.state.State.{State}
use Rattle.bd_machine.specs.Alone.{view_by}
use Rattle.bd_machine.specs.Content.{Told}
use Rattle.bd_machine.specs.Placement.{place}
use Rattle.bd_machine.specs.Run.{IsRun, IsCompleteRun, state_after}
use Rattle.bd_machine.specs.Same.{same_request, same_dev}
use Rattle.bd_machine.specs.Users.{dev_of}
use Rattle.bd_machine.specs.Step.{IsAllowed, IsStep, after, change_in}
use Rattle.bd_machine.specs.View.{view, part_of, asked}

-- ---- acts in a list of entries

abbrev pub is_accept_of : ReqId → Act → Bool
is_accept_of r (acts.Accept dev lba handle req op count) = same_request req r
is_accept_of r _ = false

abbrev pub is_complete_of : ReqId → Act → Bool
is_complete_of r (acts.Complete req status shown) = same_request req r
is_complete_of r _ = false

abbrev pub is_destruct_of : DevId → Act → Bool
is_destruct_of d (acts.Destruct dev digest) = same_dev d dev
is_destruct_of d _ = false

abbrev pub is_apply : Act → Bool
is_apply (acts.Apply req k dev end) = true
is_apply _ = false

-- it may change the content of a device: an Apply, or a Grow
abbrev pub is_at_content : Act → Bool
is_at_content (acts.Grow dev blocks) = true
is_at_content act = is_apply act

abbrev pub one_if : Bool → ℕ
one_if b = cond b 1 0

-- how many entries are such acts
abbrev pub count_of : (Act → Bool) → List Entry → ℕ
count_of is [] = 0
count_of is (e ∷ es) = one_if (is e.act) + count_of is es

-- each such act is an entry of this thread
abbrev pub AllOn : ℕ → (Act → Bool) → List Entry → Type 0
AllOn t is es = AllByRecursion (λ e. is e.act ≡ true → e.thread ≡ t) es

-- ---- what a state stores

-- a base device and the content that it has
pub record Stored : Type 0 where
  pub dev : DevId
  pub content : Content

abbrev pub stored_of : Base → Stored
stored_of b = record { dev = b.dev; content = b.content }

abbrev pub stored : List Base → List Stored
stored bases = map stored_of bases

-- the contents of the base devices whose home is a thread
abbrev pub stored_at : State → ℕ → List Stored
stored_at s t = stored (part_of s t).bases

-- ---- the laws

-- a prefix of a run is a run
abbrev pub PrefixIsRun : Type 0
PrefixIsRun = (setup : Setup) (told : Told) (es fs : List Entry) → IsRun setup told (es ++ fs) → IsRun setup told es

-- an entry leads from a state to one state at most
abbrev pub StepIsDetermined : Type 0
StepIsDetermined = (setup : Setup) (s : State) (e : Entry) (s1 s2 : State) → IsStep setup s e s1 → IsStep setup s e s2 → s1 ≡ s2

-- an entry that is neither an Apply nor a Grow changes the content of no device
abbrev pub ContentChangesAtHome : Type 0
ContentChangesAtHome = (setup : Setup) (s : State) (e : Entry) → IsAllowed setup s e → is_at_content e.act ≡ false → (t : ℕ) → stored_at (after setup s e) t ≡ stored_at s t

-- a request that was completed is nowhere from then on
abbrev pub CompletedStaysClosed : Type 0
CompletedStaysClosed = (setup : Setup) (told : Told) (es : List Entry) (r : ReqId) → IsRun setup told es → 0 < count_of (is_complete_of r) es → place (state_after setup told es) (Request r) ≡ Nowhere

-- accepted at most once and completed as often, on its own thread
pub record IsCompletedOnce (r : ReqId) (es : List Entry) : Type 0 where
  pub accepted_at_most_once : count_of (is_accept_of r) es ≤ 1
  pub completed_as_accepted : count_of (is_complete_of r) es ≡ count_of (is_accept_of r) es
  pub accepted_on_own : AllOn r.thread (is_accept_of r) es
  pub completed_on_own : AllOn r.thread (is_complete_of r) es

abbrev pub EachIsCompletedOnce : Type 0
EachIsCompletedOnce = (setup : Setup) (told : Told) (es : List Entry) → IsCompleteRun setup told es → (r : ReqId) → IsCompletedOnce r es

-- in a complete run each device is destructed once
abbrev pub EachIsDestructedOnce : Type 0
EachIsDestructedOnce = (setup : Setup) (told : Told) (es : List Entry) → IsCompleteRun setup told es → (n : ℕ) → n < length setup.devices → count_of (is_destruct_of (dev_of n)) es ≡ 1

-- what a thread sees after an entry of its own follows from what it saw
abbrev pub OwnViewFollows : Type 0
OwnViewFollows = (setup : Setup) (s : State) (e : Entry) → IsAllowed setup s e → view (after setup s e) e.thread ≡ view_by setup e.thread (view s e.thread) (change_in setup s e.thread e.act) (asked e.act)

-- in a run, an entry of another thread leaves what a thread sees
abbrev pub OtherViewsStay : Type 0
OtherViewsStay = (setup : Setup) (told : Told) (es : List Entry) (e : Entry) → IsRun setup told (es ++ e ∷ []) → (t : ℕ) → e.thread ≢ t → view (state_after setup told (es ++ e ∷ [])) t ≡ view (state_after setup told es) t

-- there are runs that are complete and in which a request is completed
abbrev pub SomeRunIsComplete : Type 0
SomeRunIsComplete = (setup : Setup) × ((told : Told) × ((es : List Entry) × ((r : ReqId) × (IsCompleteRun setup told es × (count_of (is_complete_of r) es ≡ 1)))))
