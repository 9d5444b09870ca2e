-- Which open requests a thread looks at, and that this goes on with what it does.
use Rattle.std.specs.Prelude.{◌≡◌, ℕ, Bool, true, ◌||◌, List, ◌++◌}
use Rattle.std.specs.List.{AllByRecursion}
use Rattle.bd_base.specs.declared.act.Entry.{Entry}
use Rattle.bd_base.specs.declared.setup.Setup.{Setup}
use Rattle.bd_machine.specs.declared.state.Open.{Open}
use Rattle.bd_machine.specs.View.{View}
use Rattle.bd_turns.specs.Local.{Leads, Local}
use Rattle.bd_touched.specs.Reach.{is_reached, is_touched, Touches}
use Rattle.bd_touched.specs.Rests.{rests}

-- it is to be looked at, or one of these entries reaches it, or it rests
abbrev pub is_looked_at : Setup → ℕ → List Entry → Touches → View → Open → Bool
is_looked_at setup t entries touched v o = is_touched touched o.id || is_reached setup entries o || rests setup t v touched.holds o

-- each open request of the thread is its own, and is to be looked at, or one of these entries reaches it, or it rests
abbrev pub Looks : Setup → ℕ → List Entry → Touches → View → Type 0
Looks setup t entries touched v = AllByRecursion (λ (o : Open). (o.id.thread ≡ t) × (is_looked_at setup t entries touched v o ≡ true)) v.part.requests

-- so it is after further entries of the thread, with those among the entries
abbrev pub LooksOn : Type 0
LooksOn = (setup : Setup) (t : ℕ) (l l' : Local) (before entries : List Entry) (touched : Touches)
    → Leads setup t l entries l' → Looks setup t before touched l.view → Looks setup t (before ++ entries) touched l'.view
