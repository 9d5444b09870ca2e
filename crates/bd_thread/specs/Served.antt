-- Which piece a thread serves next, and what is said of it.
use Rattle.std.specs.Prelude.{◌≡◌, cond, find, Option, Some, None}
use Rattle.bd_base.specs.declared.act.Act.TheVariants as acts
use Rattle.bd_base.specs.declared.act.ApplyEnd.TheVariants as ends
use Rattle.bd_base.specs.declared.id.DevId.{DevId}
use Rattle.bd_steps.specs.Serving.{next_piece}
use Rattle.bd_machine.specs.declared.state.Id.{Id}
use Rattle.bd_machine.specs.declared.state.Id.TheVariants as ids
use Rattle.bd_machine.specs.BlockMap.{is_aio}
use Rattle.bd_machine.specs.Homes.{is_base}
use Rattle.bd_links.specs.Entries.{longer}
use Rattle.bd_tokens.specs.Tokens.{here_in}
use Rattle.bd_thread.specs.declared.links.Links.{Links}
use Rattle.bd_thread.specs.declared.thread.Thread.{Thread}

-- ---- which is served next

-- the piece that a thread serves next on a device; none on an aio device, whose disk serves its pieces
abbrev pub next_due : Thread → DevId → Option Id
next_due t dev = cond (is_aio t.setup.now dev) None (next_piece t.setup.now t.me (here_in t.held.items) dev (find (is_base dev) t.part.bases))

-- ---- what is said of it

-- one Apply entry for the piece that was served; without one nothing changes
abbrev pub ApplyAdded : Thread → Links → Thread → Links → DevId → Option Id → Type 0
ApplyAdded old before new after dev None = (new ≡ old) × (after ≡ before)
ApplyAdded old before new after dev (Some (ids.Piece req k)) = after.entries ≡ longer old.me before.entries (acts.Apply req k dev ends.Done)
ApplyAdded old before new after dev (Some _) = ⊥

-- the piece that is next is served
abbrev pub Applies : Thread → Links → Thread → Links → DevId → Option Id → Type 0
Applies old before new after dev result = (result ≡ next_due old dev) × ApplyAdded old before new after dev result
