-- Which open requests a thread still has to look at.
use Rattle.std.specs.Prelude.{◌≡◌, ℕ, ◌≤◌, List, [], ◌∷◌, length, drop, None}
use Rattle.bd_base.specs.declared.act.Entry.{Entry}
use Rattle.bd_base.specs.declared.id.ReqId.{ReqId}
use Rattle.bd_machine.specs.View.{View}
use Rattle.bd_tokens.specs.Tokens.{here_in}
use Rattle.bd_touched.specs.Looks.{Looks}
use Rattle.bd_touched.specs.Reach.{Touches}
use Rattle.bd_thread.specs.declared.links.Links.{Links}
use Rattle.bd_thread.specs.declared.thread.Thread.{Thread}
use Rattle.bd_thread.specs.Requests.{KeepsTickets}

-- what a thread sees of its part and its tokens
abbrev pub sight : Thread → View
sight t = record { part = t.part; here = here_in t.held.items; handles = []; channels = λ dev. None }

-- what it has to look at, for the crates above
abbrev pub touched_of : Thread → Touches
touched_of t = t.touched

-- each open request of the thread is its own, and is to be looked at, or one of these entries reaches it, or it rests
abbrev pub LooksBut : List Entry → Touches → Thread → Type 0
LooksBut entries touched t = Looks t.setup.now t.me entries touched (sight t)

-- each is to be looked at, or rests
abbrev pub LooksAt : Touches → Thread → Type 0
LooksAt touched t = LooksBut [] touched t

-- so it is by what the thread itself has to look at
abbrev pub IsLookedAfter : Thread → Type 0
IsLookedAfter t = LooksAt t.touched t

-- where each was to be looked at, reached by an entry from this number on, or at rest, each is so still
abbrev pub KeepsLooking : ℕ → Touches → Thread → Links → Touches → Thread → Links → Type 0
KeepsLooking count looked old before looks new after =
    count ≤ length before.entries → KeepsTickets old → LooksBut (drop count before.entries) looked old → LooksBut (drop count after.entries) looks new

-- where all that was so was so by this request too, it is so by what is to be looked at now
abbrev pub LooksAgain : ReqId → Thread → Touches → Touches → Type 0
LooksAgain req t old new =
    (entries : List Entry) (x : Touches) → KeepsTickets t → old.all ≡ x.all → x.reqs ≡ req ∷ old.reqs → old.holds ≡ x.holds → LooksBut entries x t → LooksBut entries new t

-- those that rest are let go at most
abbrev pub Settles : ℕ → Thread → Links → Touches → Touches → Type 0
Settles count t links old new = KeepsTickets t → LooksBut (drop count links.entries) old t → LooksBut (drop count links.entries) new t

-- a thread keeps the tickets of its open requests, and looks at each that doesn't rest
pub record KeepsOwn (t : Thread) : Type 0 where
  pub tickets : KeepsTickets t
  pub looks : IsLookedAfter t
