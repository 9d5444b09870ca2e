-- What contracts say of posts.
use Rattle.std.specs.Prelude.{◌≡◌, ◌==◌, ℕ, true, List, filter, Some}
use Rattle.bd_machine.specs.Messages.{brings}
use Rattle.bd_turns.specs.declared.queue.Post.{Post}

-- the posts of one sender, in their order
abbrev pub sent_by : ℕ → List Post → List Post
sent_by sender posts = filter (λ p. p.message.sender == sender) posts

-- its message brings the token that it names
abbrev pub Brings : Post → Type 0
Brings p = brings p.message.what (Some p.message.kept) ≡ true
