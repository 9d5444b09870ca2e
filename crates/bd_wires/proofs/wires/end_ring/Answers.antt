use Rattle.std.proofs.Common.{◌≡◌, List, [], ◌++◌, length, get_or, ap, sym, ◌∙◌, arith}
use Rattle.std.proofs.lemmas.List.{length-map}
use Rattle.std.proofs.lemmas.Option.{slice_get_within}
use Rattle.bd_turns.specs.declared.queue.Post.{Post}
use Rattle.bd_ring.specs.Posts.{sent_by}
use Rattle.bd_ring.specs.Rings.{Sender, left_of}
use Rattle.bd_wires.proofs.Lists.{map_at}
use Rattle.bd_wires.proofs.wires.end_ring.Goals as goal

pub returns : goal.returns
returns c = λ s e at.
    let account = c.settle-settled.result in
    let n : length account.puts ≡ length c.args.sends.items = ap length c.settle-settled.ensures.puts ∙ length-map c.args.sends.items (λ s. s.put) in
    let within = slice_get_within c.args.sends.items s e at in (
      left_of account s,
      ap (λ (ts : List Post). sent_by s ts ++ left_of account s) (sym c.settle-settled.ensures.taken) ∙ c.settle-settled.ensures.settled s (omega arith)
          ∙ ap (λ (l : List (List Post)). get_or l s []) c.settle-settled.ensures.puts ∙ map_at (λ (s : Sender). s.put) c.args.sends.items s e [] at,
    )
