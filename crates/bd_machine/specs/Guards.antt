-- The guards of each act, and what it changes, over what its thread sees and what came to it.
use Rattle.std.specs.Prelude.{ℕ, Bool, true, false, cond, ◌&&◌, nat_lt, List, [], Option, Some, None, is_some}
use Rattle.bd_base.specs.declared.act.Act.{Act}
use Rattle.bd_base.specs.declared.act.Act.TheVariants as acts
use Rattle.bd_base.specs.declared.event.Answer.TheVariants as answers
use Rattle.bd_base.specs.declared.event.RegEvent.TheVariants as events
use Rattle.bd_base.specs.declared.setup.Setup.{Setup}
use Rattle.bd_base.specs.declared.id.DevId.{DevId}
use Rattle.bd_base.specs.declared.id.WalkId.{WalkId}
use Rattle.bd_base.specs.declared.request.WalkKind.{WalkKind}
use Rattle.bd_base.specs.declared.request.WalkKind.TheVariants.{Freeze}
use Rattle.bd_machine.specs.declared.state.Prior.{Prior}
use Rattle.bd_machine.specs.declared.state.Prior.TheVariants.{Injection, Softening, Growth}
use Rattle.bd_machine.specs.Aborts.{guards_abort, change_abort}
use Rattle.bd_machine.specs.Delays.{guards_hold, change_hold, guards_release, change_release}
use Rattle.bd_machine.specs.Events.{guards_reg, change_reg}
use Rattle.bd_machine.specs.Grace.{guards_grace, change_grace, guards_due, change_due}
use Rattle.bd_machine.specs.Homes.{guards_apply, change_apply, guards_no_mem, change_no_mem, guards_destruct, change_destruct, guards_grow, change_grow}
use Rattle.bd_machine.specs.Injections.{guards_inject, change_inject, guards_pend, change_pend}
use Rattle.bd_machine.specs.Kept.{walk_here}
use Rattle.bd_machine.specs.Limits.{guards_let, change_let, guards_tick, change_tick}
use Rattle.bd_machine.specs.Messages.{guards_put, change_put, guards_took, change_took}
use Rattle.bd_machine.specs.Requests.{guards_accept, change_accept, guards_refuse, change_refuse, guards_cut, change_cut, guards_complete, change_complete}
use Rattle.bd_machine.specs.Scripts.{guards_script, change_script}
use Rattle.bd_machine.specs.Walks.{guards_visit, change_visit, time_of_walk}
use Rattle.bd_machine.specs.View.{View, Came, Change}

-- every act is built; the first guard keeps its number for acts that aren't
abbrev pub is_built : Act → Bool
is_built act = true

-- ---- one table of acts

-- the guards of an act that its thread can see, each with its number
abbrev pub guards : Setup → ℕ → View → Act → Came → List (ℕ × Bool)
guards setup t v (acts.Put to number what) came = guards_put setup t v to number what
guards setup t v (acts.Took source number what) came = guards_took v came source number what
guards setup t v (acts.Reg event answer) came = guards_reg setup t v came event answer
guards setup t v (acts.Accept dev lba handle req op count) came = guards_accept setup t v came req dev handle op lba count
guards setup t v (acts.Refuse errno lba handle op count) came = guards_refuse setup t v came handle op lba count errno
guards setup t v (acts.Inject req dev decision) came = guards_inject v req dev decision
guards setup t v (acts.Pend req) came = guards_pend t v req
guards setup t v (acts.Let req dev now) came = guards_let setup t v req dev now
guards setup t v (acts.Cut req pieces) came = guards_cut setup t v req pieces
guards setup t v (acts.Apply req k dev end) came = guards_apply setup t v req k dev end
guards setup t v (acts.NoMem req k dev) came = guards_no_mem setup t v req k dev
guards setup t v (acts.Hold req until) came = guards_hold setup t v req until
guards setup t v (acts.Release req now) came = guards_release setup t v req now
guards setup t v (acts.Abort req cause) came = guards_abort setup t v req cause
guards setup t v (acts.Complete req status shown) came = guards_complete setup t v req status shown
guards setup t v (acts.Visit walk dev kind) came = guards_visit setup t v walk dev kind
guards setup t v (acts.Tick dev now slices) came = guards_tick setup t v dev now slices
guards setup t v (acts.Destruct dev digest) came = guards_destruct setup t v came dev digest
guards setup t v (acts.Script line outcome) came = guards_script setup t v came line outcome
guards setup t v acts.Shutdown came = []
guards setup t v (acts.Grow dev blocks) came = guards_grow setup t v dev blocks
guards setup t v (acts.Grace walk until) came = guards_grace v walk until
guards setup t v (acts.Due walk now) came = guards_due v walk now

-- what an act changes, apart from what is noted for the next act
abbrev pub change_by : Setup → ℕ → View → Act → Came → Change
change_by setup t v (acts.Put to number what) came = change_put setup t v to number what
change_by setup t v (acts.Took source number what) came = change_took setup t v came source number what
change_by setup t v (acts.Reg event answer) came = change_reg setup t v came event answer
change_by setup t v (acts.Accept dev lba handle req op count) came = change_accept setup t v req dev handle op lba count
change_by setup t v (acts.Refuse errno lba handle op count) came = change_refuse v errno
change_by setup t v (acts.Inject req dev decision) came = change_inject v req decision
change_by setup t v (acts.Pend req) came = change_pend v req
change_by setup t v (acts.Let req dev now) came = change_let setup v req dev now
change_by setup t v (acts.Cut req pieces) came = change_cut setup v req pieces
change_by setup t v (acts.Apply req k dev end) came = change_apply setup v req k dev end
change_by setup t v (acts.NoMem req k dev) came = change_no_mem v req k dev
change_by setup t v (acts.Hold req until) came = change_hold setup v req until
change_by setup t v (acts.Release req now) came = change_release v req now
change_by setup t v (acts.Abort req cause) came = change_abort setup v req cause
change_by setup t v (acts.Complete req status shown) came = change_complete v req
change_by setup t v (acts.Visit walk dev kind) came = change_visit setup t v walk dev kind
change_by setup t v (acts.Tick dev now slices) came = change_tick setup v dev now slices
change_by setup t v (acts.Destruct dev digest) came = change_destruct v dev
change_by setup t v (acts.Script line outcome) came = change_script setup t v
change_by setup t v acts.Shutdown came = record { part = v.part; moves = [] }
change_by setup t v (acts.Grow dev blocks) came = change_grow setup v dev blocks
change_by setup t v (acts.Grace walk until) came = change_grace v walk until
change_by setup t v (acts.Due walk now) came = change_due v walk now

-- a visit of this walk sets a soft mark: a freeze walk with a drain time, and the thread has the channel
abbrev pub softens : View → WalkId → DevId → WalkKind → Bool
softens v walk dev Freeze = is_some (v.channels dev) && nat_lt 0 (time_of_walk (walk_here v walk))
softens v walk dev _ = false

-- what an act is to the next one, which may have to follow it directly: the Inject, the Grace or the EndResize
abbrev pub prior_by : View → Act → Option Prior
prior_by v (acts.Reg (events.TakeInjection dev req op) (answers.Injected decision)) = Some (Injection (record { req = req; dev = dev; decision = decision }))
prior_by v (acts.Visit walk dev kind) = cond (softens v walk dev kind) (Some (Softening walk dev)) None
prior_by v (acts.Grow dev blocks) = Some (Growth dev)
prior_by v _ = None

abbrev pub noted : Option Prior → Change → Change
noted prior c = record { part = record c.part { prior = prior }; moves = c.moves }

-- what an act changes
abbrev pub change : Setup → ℕ → View → Act → Came → Change
change setup t v act came = noted (prior_by v act) (change_by setup t v act came)
