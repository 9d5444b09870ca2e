-- What a contract sees of a machine.
use Rattle.bd_base.specs.declared.setup.Setup.{Setup}
use Rattle.bd_machine.specs.declared.state.State.{State}

-- the setup, and the state that the entries so far left
pub record Play : Type 0 where
  pub setup : Setup
  pub state : State
