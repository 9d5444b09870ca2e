-- What a sink tells.
use Rattle.std.specs.Prelude.{◌≡◌, ℕ, List, Option, None}
use Rattle.bd_outside.specs.Count.{Rises}

-- how often it failed, and the bytes that it took, if it tells them
pub record SinkState : Type 0 where
  pub faults : ℕ
  pub written : Option (List ℕ)

-- a sink that doesn't tell its bytes doesn't tell them later
abbrev pub StaysUntold : SinkState → SinkState → Type 0
StaysUntold old new = old.written ≡ None → new.written ≡ None

-- it failed
abbrev pub Fails : SinkState → SinkState → Type 0
Fails old new = Rises old.faults new.faults
