-- What is known of a thread by what it sees, as far as the lines of its script wait for it.
use Rattle.std.specs.Prelude.{ℕ, Bool, true, false, not, nat_lt, length, Option, Some, None}
use Rattle.bd_base.specs.declared.id.HandleId.{HandleId}
use Rattle.bd_machine.specs.declared.state.Handle.{Handle}
use Rattle.bd_machine.specs.declared.state.Part.{Part}
use Rattle.bd_machine.specs.Admission.{is_gone, size_of_handle}
use Rattle.bd_machine.specs.Asked.{bound_to, has_mark}
use Rattle.bd_machine.specs.Registry.{handle_of}
use Rattle.bd_machine.specs.View.{View}
use Rattle.bd_rule_lines.specs.Known.{Known}

-- the remove event of the handle, where it is one, wasn't taken
abbrev pub awaits_removal : Part → Option HandleId → Bool
awaits_removal part None = false
awaits_removal part (Some id) = not (is_gone part id)

-- the handle is open, and its device has fewer blocks than so many, as far as the thread was told
abbrev pub is_smaller : Part → ℕ → Option Handle → Bool
is_smaller part blocks None = false
is_smaller part blocks (Some h) = nat_lt (size_of_handle part h) blocks

abbrev pub awaits_size : View → Option HandleId → ℕ → Bool
awaits_size v None blocks = false
awaits_size v (Some id) blocks = is_smaller v.part blocks (handle_of v.handles id)

-- a sleep is over at once: a thread asks about it by its moments
abbrev pub known_by : View → Known
known_by v = record {
  requests = length v.part.requests;
  has_mark = has_mark v.part;
  awaits_removal = λ name. awaits_removal v.part (bound_to v.part name);
  awaits_size = λ name blocks. awaits_size v (bound_to v.part name) blocks;
  has_slept = λ micros. true;
}
