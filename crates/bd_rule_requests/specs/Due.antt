-- What is due, by the news that a token has.
use Rattle.std.specs.Prelude.{ℕ, Bool, ◌&&◌, ◌==◌, Option}
use Rattle.bd_machine.specs.declared.state.Due.{Due}
use Rattle.bd_machine.specs.declared.state.News.{News}
use Rattle.bd_machine.specs.Same.{is_the, same_news}

-- the news, where there are some, are due to this thread
abbrev pub is_due_by : ℕ → Option News → Due → Bool
is_due_by to sent due = (due.receiver == to) && is_the same_news due.news sent
