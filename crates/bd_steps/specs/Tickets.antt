-- The next ticket of a thread.
use Rattle.std.specs.Prelude.{◌≡◌, ℕ, ◌<◌}
use Rattle.bd_base.specs.declared.id.ReqId.{ReqId}
use Rattle.bd_machine.specs.Asked.{no_request}

-- the ticket has the number that the thread gives next, which names a request
pub record IsNextTicket (thread next : ℕ) (id : ReqId) : Type 0 where
  pub own : id.thread ≡ thread
  pub next_is : id.seq ≡ next
  pub names : id.seq < no_request
