-- Words of the program.
use Rattle.std.specs.Prelude.{ℕ, Bool, true, false, not, List, ◌++◌, Option, set}
use Rattle.bd_base.specs.declared.act.Act.{Act}
use Rattle.bd_base.specs.declared.act.Act.TheVariants as acts
use Rattle.bd_base.specs.declared.act.Token.{Token}
use Rattle.bd_base.specs.declared.event.Answer.{Answer}
use Rattle.bd_base.specs.declared.event.RegEvent.{RegEvent}
use Rattle.bd_base.specs.declared.event.RegEvent.TheVariants as events
use Rattle.bd_base.specs.declared.id.DevId.{DevId}
use Rattle.bd_base.specs.declared.id.ReqId.{ReqId}
use Rattle.bd_machine.specs.declared.state.Kept.{Kept}
use Rattle.bd_machine.specs.declared.state.Limited.{Limited}
use Rattle.bd_machine.specs.declared.state.Part.{Part}
use Rattle.bd_machine.specs.declared.state.State.{State}
use Rattle.bd_machine.specs.Events.{change_reg}
use Rattle.bd_machine.specs.Guards.{change_by}
use Rattle.bd_machine.specs.Kept.{request_here}
use Rattle.bd_machine.specs.Limits.{bytes_if_any, charged_by_way, is_limit, left_by, way_if_any}
use Rattle.bd_machine.specs.Messages.{moves_put}
use Rattle.bd_machine.specs.Step.{change_in, first_failing, guards_in, guards_shutdown, moved}
use Rattle.bd_machine.specs.Table.{change_first}
use Rattle.bd_machine.specs.View.{Change, Move, View, came_for, id_of, message_for, view}
use Rattle.bd_rule_effects.specs.Begun.{token_moved}
use Rattle.bd_rule_view.specs.Came.{came_shut}
use Rattle.bd_base.specs.declared.request.Op.TheVariants as ops
use Rattle.bd_rule_view.specs.declared.names.Submission.{Submission}
use Rattle.bd_play.specs.declared.messages.Message.{Message}
use Rattle.bd_play.specs.declared.side.Side.{Side}

-- what the thread of a side sees
abbrev pub seen : Side → View
seen side = view side.state.now side.thread

-- why an act isn't allowed to it: the first of the act's guards that fails
abbrev pub refused : Side → Act → Option ℕ
refused side act = first_failing (guards_in side.setup.now side.state.now side.thread act)

-- the same for an act that may be a Shutdown, whose guards look at the whole state
abbrev pub refused_with_shutdown : Side → Act → Option ℕ
refused_with_shutdown side act =
    first_failing (guards_shutdown side.setup.now side.state.now side.thread act ++ guards_in side.setup.now side.state.now side.thread act)

-- the state with this change of its part and of the tokens
abbrev pub changed : Side → Change → State
changed side c = record side.state.now { parts = set side.state.now.parts side.thread c.part; tokens = moved side.thread c.moves side.state.now.tokens }

-- the limited devices at home on its thread, once this one let the request go
abbrev pub charged_for : Side → ReqId → DevId → List Limited → List Limited
charged_for side req dev limited =
    change_first (is_limit dev)
    (λ l. left_by req (charged_by_way side.setup.now dev (bytes_if_any side.setup.now (request_here (seen side) req)) (way_if_any (request_here (seen side) req)) l))
    limited

-- what an act of it changes
abbrev pub change_of : Side → Act → Change
change_of side act = change_in side.setup.now side.state.now side.thread act

-- the same, but for what the next act asks of this one
abbrev pub made_by : Side → Act → Change
made_by side act = change_by side.setup.now side.thread (seen side) act (came_for side.setup.now side.state.now side.thread act)

-- where the token goes that it puts as this message
abbrev pub moves_of : Side → Message → Token → List Move
moves_of side m what = moves_put side.thread (seen side) m.peer m.number what

-- what is kept of the token that this message brings to it
abbrev pub brought : Side → Message → Token → Option Kept
brought side m what = message_for side.state.now side.thread (record { source = m.peer; number = m.number; what = what })

-- where the token goes that this message brought to it
abbrev pub moves_taken : Side → Message → Token → Option Kept → List Move
moves_taken side m what kept = token_moved side.thread what kept (id_of m.peer side.thread m.number what)

-- an act on a request of its own thread
abbrev pub is_of_request : Act → Bool
is_of_request (acts.Accept dev lba handle req op count) = true
is_of_request (acts.Refuse errno lba handle op count) = true
is_of_request (acts.Cut req pieces) = true
is_of_request (acts.Complete req status shown) = true
is_of_request _ = false

-- what an answer changes of this part of its thread, and the tokens that it moves
abbrev pub answered : Side → Part → RegEvent → Answer → Change
answered side part event answer = change_reg side.setup.now side.thread (record (seen side) { part = part }) (came_shut side.state.now.shut) event answer

-- an event whose answer may begin a walk
abbrev pub may_begin : RegEvent → Bool
may_begin (events.BeginRemove name) = true
may_begin (events.BeginReset dev req) = true
may_begin (events.EndReset dev) = true
may_begin _ = false

-- an event whose answer changes the part alone
abbrev pub is_plain : RegEvent → Bool
is_plain (events.TakeInjection dev req op) = false
is_plain event = not (may_begin event)

-- an act on a request beside its pieces
abbrev pub is_of_course : Act → Bool
is_of_course (acts.Inject req dev decision) = true
is_of_course (acts.Pend req) = true
is_of_course (acts.Let req dev now) = true
is_of_course (acts.Hold req until) = true
is_of_course (acts.Release req now) = true
is_of_course (acts.Abort req cause) = true
is_of_course (acts.Tick dev now slices) = true
is_of_course _ = false

-- what a submission asks for; nothing for any other act
abbrev pub submission_of : Act → Submission
submission_of (acts.Accept dev lba handle req op count) = record { op = op; lba = lba; count = count }
submission_of (acts.Refuse errno lba handle op count) = record { op = op; lba = lba; count = count }
submission_of _ = record { op = ops.Reset 0; lba = 0; count = 0 }
