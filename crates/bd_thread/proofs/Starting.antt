-- How a thread and the links begin.
use Rattle.std.proofs.Common.{◌≡◌, ℕ, Bool, List, [], length, ◌∙◌, ap}
use Rattle.std.specs.Prelude.{false}
use Rattle.bd_base.specs.declared.act.Entry.{Entry}
use Rattle.bd_machine.specs.declared.state.Id.{Id}
use Rattle.bd_machine.specs.declared.state.Kept.{Kept}
use Rattle.bd_machine.specs.declared.state.Part.{Part}
use Rattle.bd_machine.specs.declared.state.Registry.{Registry}
use Rattle.bd_machine.specs.Start.{part_at_start, registry_at_start}
use Rattle.bd_turns.specs.declared.queue.Message.{Message}
use Rattle.bd_links.specs.Queues.{queues_of}
use Rattle.bd_tokens.specs.Tokens.{here_in}
use Rattle.bd_links.proofs.Emptied.{empty_queues_of}
use Rattle.bd_thread.specs.Seen.{local_at}
use Rattle.bd_registry.specs.State.{Registered}
use Rattle.bd_thread.specs.Starts.{NewIsAtStart}

-- what a thread sees goes by its parts
at : (me : ℕ) (part part' : Part) (held held' : List (Id × Kept)) (registry registry' : Registry) (shut shut' : Bool) (entries entries' : List Entry) (queues queues' : ℕ → List Message)
    → part ≡ part' → held ≡ held' → registry ≡ registry' → shut ≡ shut' → entries ≡ entries' → queues ≡ queues'
    → local_at me part (here_in held) registry shut (length entries) queues ≡ local_at me part' (here_in held') registry' shut' (length entries') queues'
at me part part' held held' registry registry' shut shut' entries entries' queues queues' p h r s e q =
    ap (λ (x : Part). local_at me x (here_in held) registry shut (length entries) queues) p
    ∙ ap (λ (x : List (Id × Kept)). local_at me part' (here_in x) registry shut (length entries) queues) h
    ∙ ap (λ (x : Registry). local_at me part' (here_in held') x shut (length entries) queues) r
    ∙ ap (λ (x : Bool). local_at me part' (here_in held') registry' x (length entries) queues) s
    ∙ ap (λ (x : List Entry). local_at me part' (here_in held') registry' shut' (length x) queues) e
    ∙ ap (λ (x : ℕ → List Message). local_at me part' (here_in held') registry' shut' (length entries') x) q

pub new_is_at_start : NewIsAtStart
new_is_at_start me setup t links new first =
    ap (λ (n : ℕ). local_at n t.part (here_in t.held.items) links.registry.state links.shut (length links.entries) (queues_of links.queues.items)) new.own
    ∙ at me t.part (part_at_start setup [] me) t.held.items [] links.registry.state (registry_at_start setup) links.shut false links.entries [] (queues_of links.queues.items) (λ r. [])
    new.part new.held (ap (λ (r : Registered). r.state) first.registry) first.running first.entries (ap queues_of first.queues ∙ empty_queues_of setup.threads)
