-- How a step that isn't Ok ends.
use Rattle.std.specs.Prelude.{◌≡◌, Some}
use Rattle.bd_base.specs.declared.act.Entry.{Entry}
use Rattle.bd_machine.specs.Step.{refusal}
use Rattle.bd_play.specs.Play.{Play}
use Rattle.bd_play.specs.declared.machine.StepError.{StepError}
use Rattle.bd_play.specs.declared.machine.StepError.TheVariants.{OutOfMemory, Illegal}

-- there was no memory; or the least guard of the entry that fails is this one, and this is its stamp
abbrev pub Refuses : Play → Entry → StepError → Type 0
Refuses play e OutOfMemory = Unit {0}
Refuses play e (Illegal guard stamp) = (refusal play.setup play.state e ≡ Some guard) × (stamp ≡ e.stamp)
