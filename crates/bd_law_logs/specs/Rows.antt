-- The rows of a thread's log with what came to each entry, and when the machine's rules accept them over what the thread sees, with no other thread and no machine at hand.
use Rattle.std.specs.Prelude.{◌≡◌, ℕ, Bool, false, nat_lt, List, [], ◌∷◌, map, Option, Some, None, is_some, option_and_then, option_map}
use Rattle.bd_base.specs.declared.act.Act.{Act}
use Rattle.bd_base.specs.declared.act.Act.TheVariants as acts
use Rattle.bd_base.specs.declared.act.Entry.{Entry}
use Rattle.bd_base.specs.declared.event.Answer.{Answer}
use Rattle.bd_base.specs.declared.setup.Setup.{Setup}
use Rattle.bd_machine.specs.declared.guard.TheConstants.{UNBUILT, IN_ORDER}
use Rattle.bd_machine.specs.declared.state.Between.{Between}
use Rattle.bd_machine.specs.Alone.{view_by}
use Rattle.bd_machine.specs.Guards.{guards, change, is_built}
use Rattle.bd_machine.specs.Registry.{Question}
use Rattle.bd_machine.specs.Step.{first_failing, is_shutdown}
use Rattle.bd_machine.specs.View.{View, Came, Change, took, asked, destructed_by}
use Rattle.bd_turns.specs.declared.queue.Message.{Message}
use Rattle.bd_turns.specs.declared.queue.Post.{Post}
use Rattle.bd_turns.specs.Local.{first_of, sent_by}

-- an entry of a log; the message that it put or took, with the stamp of its Put; and, where it asks the registry, what had to follow there
pub record Row : Type 0 where
  pub entry : Entry
  pub post : Option Post
  pub between : Option Between

abbrev pub entry_of : Row → Entry
entry_of r = r.entry

abbrev pub entries : List Row → List Entry
entries rows = map entry_of rows

abbrev pub posts : Option Post → List Post
posts None = []
posts (Some p) = p ∷ []

abbrev pub message_of : Post → Message
message_of p = p.message

abbrev pub messages : Row → List Message
messages r = map message_of (posts r.post)

abbrev pub answer_of : Question → Answer
answer_of q = q.answer

-- ---- what came to the thread

-- what came with an act: the message that it took, the answer that it names, what had to follow in the registry that it asked, and whether the Shutdown came; a device that the thread was told to destruct is free, whatever others do
abbrev pub came_with : Bool → ℕ → Act → List Message → Option Between → Came
came_with shut t act ms between = record {
  message = option_and_then (first_of t ms) (took act);
  answer = option_map answer_of (asked act);
  between = option_and_then (λ q. between) (asked act);
  free = is_some (destructed_by act);
  shut = shut;
}

abbrev pub came_by : Bool → ℕ → Row → Came
came_by shut t r = came_with shut t r.entry.act (messages r) r.between

-- ---- a row

-- why the thread may not make this entry: the number of the first guard that fails
abbrev pub refusal_by : Setup → Bool → ℕ → View → Row → Option ℕ
refusal_by setup shut t v r = first_failing ((UNBUILT, is_built r.entry.act) ∷ (IN_ORDER, nat_lt 0 r.entry.stamp) ∷ guards setup t v r.entry.act (came_by shut t r))

abbrev pub change_by : Setup → Bool → ℕ → View → Row → Change
change_by setup shut t v r = change setup t v r.entry.act (came_by shut t r)

-- what the thread sees after the entry
unfoldable pub view_after : Setup → Bool → ℕ → View → Row → View
view_after setup shut t v r = view_by setup t v (change_by setup shut t v r) (asked r.entry.act)

-- the message of a Put has the token that the Put moves
abbrev pub CarriesBy : Act → ℕ → Change → List Message → Type 0
CarriesBy (acts.Put to number what) t c ms = ms ≡ sent_by t what c.moves
CarriesBy _ t c ms = Unit {0}

abbrev pub Carries : Setup → Bool → ℕ → View → Row → Type 0
Carries setup shut t v r = CarriesBy r.entry.act t (change_by setup shut t v r) (messages r)

-- ---- the rows of a thread

-- a thread's rows lead from what it saw to what it sees, where the Shutdown came or not; they don't contain the Shutdown
abbrev pub Accepts : Setup → Bool → ℕ → View → List Row → View → Type 0
Accepts setup shut t v [] w = v ≡ w
Accepts setup shut t v (r ∷ rs) w =
    (r.entry.thread ≡ t) × (is_shutdown r.entry.act ≡ false) × (refusal_by setup shut t v r ≡ None) × Carries setup shut t v r × Accepts setup shut t (view_after setup shut t v r) rs w
