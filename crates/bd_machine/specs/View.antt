-- What one thread sees of the state, what came to it from outside, and what an act changes.
use Rattle.std.specs.Prelude.{ℕ, Bool, false, cond, ◌&&◌, ◌==◌, List, [], get_or, filter, Option, Some, None, option_and_then, option_map}
use Rattle.bd_base.specs.declared.id.DevId.{DevId}
use Rattle.bd_base.specs.declared.act.Act.{Act}
use Rattle.bd_base.specs.declared.act.Act.TheVariants as acts
use Rattle.bd_base.specs.declared.event.Answer.{Answer}
use Rattle.bd_base.specs.declared.act.Token.{Token}
use Rattle.bd_base.specs.declared.act.Token.TheVariants as tokens
use Rattle.bd_base.specs.declared.setup.Setup.{Setup}
use Rattle.bd_machine.specs.declared.state.Id.{Id}
use Rattle.bd_machine.specs.declared.state.Id.TheVariants.{Request, Piece, Walk, Notice}
use Rattle.bd_machine.specs.declared.state.Place.{Place}
use Rattle.bd_machine.specs.declared.state.Place.TheVariants.{At, Ring}
use Rattle.bd_machine.specs.declared.state.Kept.{Kept}
use Rattle.bd_machine.specs.declared.state.Tracked.{Tracked}
use Rattle.bd_machine.specs.declared.state.Between.{Between}
use Rattle.bd_machine.specs.declared.state.Handle.{Handle}
use Rattle.bd_machine.specs.declared.state.Part.{Part}
use Rattle.bd_machine.specs.declared.state.State.{State}
use Rattle.bd_machine.specs.Registry.{Question, answer_to, is_free, references}
use Rattle.bd_machine.specs.Same.{same_id}
use Rattle.bd_machine.specs.Table.{look_up}

-- part: what is the thread's alone; here: what is kept of a token that is on it
-- handles: those that it opened; channels: its references to each device
pub record View : Type 0 where
  pub part : Part
  pub here : Id → Option Kept
  pub handles : List Handle
  pub channels : DevId → Option ℕ

-- message: what is kept of the token of the message taken
-- answer: the registry's to the event; between: where the act asks the registry, what has to follow there
-- free: the device that the act destructs is being removed, with neither handle nor channel
-- shut: Shutdown came
pub record Came : Type 0 where
  pub message : Option Kept
  pub answer : Option Answer
  pub between : Option Between
  pub free : Bool
  pub shut : Bool

-- where a token goes: it stays or comes here, it goes to a thread as the message of this number, or it is closed
pub data Going : Type 0 where
  Here : Going
  To : (receiver number : ℕ) → Going
  Closed : Going

pub record Move : Type 0 where
  pub id : Id
  pub kept : Kept
  pub going : Going

-- what an act changes: the thread's part after it, and the tokens that it made, moved, changed or closed
pub record Change : Type 0 where
  pub part : Part
  pub moves : List Move

-- ---- what an act is about

-- the message that an act takes
pub record Taking : Type 0 where
  pub source : ℕ
  pub number : ℕ
  pub what : Token

abbrev pub took : Act → Option Taking
took (acts.Took source number what) = Some (record { source = source; number = number; what = what })
took _ = None

-- what an act asks of the registry, with the answer that it names
abbrev pub asked : Act → Option Question
asked (acts.Reg event answer) = Some (record { event = event; answer = answer })
asked _ = None

abbrev pub destructed_by : Act → Option DevId
destructed_by (acts.Destruct dev digest) = Some dev
destructed_by _ = None

-- the token that a message brings
abbrev pub id_of : ℕ → ℕ → ℕ → Token → Id
id_of sender receiver number (tokens.Request r) = Request r
id_of sender receiver number (tokens.Piece r k) = Piece r k
id_of sender receiver number (tokens.Walk w) = Walk w
id_of sender receiver number _ = Notice sender receiver number

-- ---- the view of a state

abbrev pub kept_on : ℕ → Place → Kept → Option Kept
kept_on t (At u) kept = cond (u == t) (Some kept) None
kept_on t _ kept = None

abbrev pub here_of : ℕ → Option Tracked → Option Kept
here_of t None = None
here_of t (Some token) = kept_on t token.place token.kept

abbrev pub blank_part : Part
blank_part = record {
  next = 0;
  decided = None;
  bound = [];
  marks = [];
  gone = [];
  submitted = [];
  put = [];
  taken = [];
  next_request = 0;
  next_walk = 0;
  due = [];
  owed = [];
  requests = [];
  marked = [];
  resets = [];
  moments = record { first = None; last = 0 };
  prior = None;
  bases = [];
  limited = [];
  destructed = [];
  delayed = [];
  sized = [];
}

abbrev pub part_of : State → ℕ → Part
part_of s t = get_or s.parts t blank_part

abbrev pub is_of : ℕ → Handle → Bool
is_of t h = h.thread.0 == t

abbrev pub view : State → ℕ → View
view s t = record {
  part = part_of s t;
  here = λ id. here_of t (look_up same_id s.tokens id);
  handles = filter (is_of t) s.registry.handles;
  channels = references s.registry t;
}

-- ---- what comes from outside

abbrev pub kept_in : ℕ → ℕ → ℕ → Place → Kept → Option Kept
kept_in s r n (Ring a b m) kept = cond ((a == s) && ((b == r) && (m == n))) (Some kept) None
kept_in s r n _ kept = None

-- what is kept of a token that is the message of this number
abbrev pub message_of : ℕ → ℕ → ℕ → Option Tracked → Option Kept
message_of s r n None = None
message_of s r n (Some token) = kept_in s r n token.place token.kept

abbrev pub message_for : State → ℕ → Taking → Option Kept
message_for s t m = message_of m.source t m.number (look_up same_id s.tokens (id_of m.source t m.number m.what))

abbrev pub is_free_if_any : Setup → State → Option DevId → Bool
is_free_if_any setup s None = false
is_free_if_any setup s (Some dev) = is_free setup s.registry dev

abbrev pub answer_for : Setup → State → ℕ → Question → Answer
answer_for setup s t q = answer_to setup s.registry t q.event

abbrev pub came_for : Setup → State → ℕ → Act → Came
came_for setup s t act = record {
  message = option_and_then (message_for s t) (took act);
  answer = option_map (answer_for setup s t) (asked act);
  between = option_and_then (λ q. s.registry.between) (asked act);
  free = is_free_if_any setup s (destructed_by act);
  shut = s.shut;
}
