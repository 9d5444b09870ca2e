-- What one thread goes by in its turn: what it sees, and what the threads share. The same rules as the machine's, without the machine's state.
use Rattle.std.specs.Prelude.{◌≡◌, ℕ, Bool, false, cond, ◌&&◌, ◌||◌, ◌==◌, nat_lt, List, [], ◌∷◌, ◌++◌, drop, map, Option, Some, None, is_some, option_and_then, option_map}
use Rattle.bd_base.specs.declared.act.Act.{Act}
use Rattle.bd_base.specs.declared.act.Act.TheVariants as acts
use Rattle.bd_base.specs.declared.act.Entry.{Entry}
use Rattle.bd_base.specs.declared.act.Token.{Token}
use Rattle.bd_base.specs.declared.event.Answer.{Answer}
use Rattle.bd_base.specs.declared.setup.Setup.{Setup}
use Rattle.bd_machine.specs.declared.guard.TheConstants.{UNBUILT, IN_ORDER}
use Rattle.bd_machine.specs.declared.state.Kept.{Kept}
use Rattle.bd_machine.specs.declared.state.Registry.{Registry}
use Rattle.bd_machine.specs.Alone.{view_by}
use Rattle.bd_machine.specs.Changes.{registry_after}
use Rattle.bd_machine.specs.Guards.{guards, change, is_built}
use Rattle.bd_machine.specs.Registry.{Question, answer_to}
use Rattle.bd_machine.specs.Same.{same_id}
use Rattle.bd_machine.specs.Step.{first_failing, is_shutdown}
use Rattle.bd_machine.specs.View.{View, Came, Change, Move, Taking, took, asked, destructed_by, id_of}
use Rattle.bd_turns.specs.declared.queue.Message.{Message}

-- the stamp of the last entry; whether the Shutdown came; the registry; for each receiver its messages in the order in which they were put
pub record Shared : Type 0 where
  pub stamp : ℕ
  pub shut : Bool
  pub registry : Registry
  pub queues : ℕ → List Message

-- what a thread sees, and what the threads share
pub record Local : Type 0 where
  pub view : View
  pub shared : Shared

-- ---- what comes to the thread

-- the message is from the sender that the Took names, and its token is the one that the Took names
abbrev pub is_named : ℕ → Taking → Message → Bool
is_named t taking m = (m.sender == taking.source) && same_id (id_of m.sender t taking.number m.what) (id_of taking.source t taking.number taking.what)

-- what is kept of the token of the first message, where it is the one named
abbrev pub first_of : ℕ → List Message → Taking → Option Kept
first_of t [] taking = None
first_of t (m ∷ ms) taking = cond (is_named t taking m) (Some m.kept) None

abbrev pub answer_by : Setup → Registry → ℕ → Question → Answer
answer_by setup registry t q = answer_to setup registry t q.event

-- what came to the thread; a device that it was told to destruct is free, whatever the others do
abbrev pub came_local : Setup → ℕ → Local → Act → Came
came_local setup t l act = record {
  message = option_and_then (first_of t (l.shared.queues t)) (took act);
  answer = option_map (answer_by setup l.shared.registry t) (asked act);
  between = option_and_then (λ q. l.shared.registry.between) (asked act);
  free = is_some (destructed_by act);
  shut = l.shared.shut;
}

-- ---- a step of the thread

-- why the thread may not make this entry: the number of the first guard that fails
abbrev pub refusal_local : Setup → ℕ → Local → Entry → Option ℕ
refusal_local setup t l e = first_failing ((UNBUILT, is_built e.act) ∷ (IN_ORDER, nat_lt l.shared.stamp e.stamp) ∷ guards setup t l.view e.act (came_local setup t l e.act))

abbrev pub change_local : Setup → ℕ → Local → Act → Change
change_local setup t l act = change setup t l.view act (came_local setup t l act)

-- the messages that a Put sends: its token, with what is kept of it after the move
abbrev pub sent_by : ℕ → Token → List Move → List Message
sent_by t what moves = map (λ m. record { sender = t; what = what; kept = m.kept }) moves

-- the queue of r after an act of t: a Put puts its message last, a Took drops the first
abbrev pub queue_after : ℕ → Act → List Move → ℕ → List Message → List Message
queue_after t (acts.Put to number what) moves r queue = cond (r == to) (queue ++ sent_by t what moves) queue
queue_after t (acts.Took source number what) moves r queue = cond (r == t) (drop 1 queue) queue
queue_after t _ moves r queue = queue

abbrev pub shared_after : Setup → ℕ → Shared → Entry → List Move → Shared
shared_after setup t shared e moves = record {
  stamp = e.stamp;
  shut = shared.shut || is_shutdown e.act;
  registry = registry_after setup shared.registry t (asked e.act);
  queues = λ r. queue_after t e.act moves r (shared.queues r);
}

abbrev pub carried_local : Setup → ℕ → Local → Entry → Change → Local
carried_local setup t l e c = record { view = view_by setup t l.view c (asked e.act); shared = shared_after setup t l.shared e c.moves }

-- what the thread sees, and what is shared, after an entry of the thread
unfoldable pub local_after : Setup → ℕ → Local → Entry → Local
local_after setup t l e = carried_local setup t l e (change_local setup t l e.act)

-- the thread's entries lead from one to the other, with no Shutdown among them
abbrev pub Leads : Setup → ℕ → Local → List Entry → Local → Type 0
Leads setup t l [] l' = l ≡ l'
Leads setup t l (e ∷ es) l' = (e.thread ≡ t) × (is_shutdown e.act ≡ false) × (refusal_local setup t l e ≡ None) × Leads setup t (local_after setup t l e) es l'
