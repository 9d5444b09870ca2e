-- What an Accept makes of a part, by the line that asked.
use Rattle.std.specs.Prelude.{◌+◌, ◌++◌, ◌∷◌, [], Option, Some}
use Rattle.bd_base.specs.declared.job.Line.{Line}
use Rattle.bd_machine.specs.declared.state.Decided.TheVariants as decisions
use Rattle.bd_machine.specs.declared.state.Open.{Open}
use Rattle.bd_machine.specs.declared.state.Part.{Part}
use Rattle.bd_machine.specs.Requests.{submitted_at}

-- the request is open, it decided the line, and the next one gets a greater number
abbrev pub accepted : Option Line → Open → Part → Part
accepted line request part = record part {
  decided = Some (decisions.Accepted request.id);
  next_request = request.id.seq + 1;
  requests = part.requests ++ request ∷ [];
  submitted = part.submitted ++ submitted_at request.id request.handle line;
}
