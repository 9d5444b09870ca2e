use Rattle.std.proofs.Common.{◌≡◌, ◌+◌, ◌*◌, ◌++◌, ℕ, List, take, drop, ap, subst, sym, ◌∙◌}
use Rattle.std.proofs.lemmas.Result.{on_ok_weaker}
use Rattle.bd_pages.specs.Pages.{blocks_of, cut_as}
use Rattle.bd_pages.proofs.Even.{Even, even_range, even_concat, even_cut, range_length}
use Rattle.bd_pages.proofs.blocks.Blocks.write.Goals as goal

pub write-requires-clause-whole : goal.write-requires-clause-whole
write-requires-clause-whole c =
    let size : ℕ = c.self.inside.pages.size in
    let now : List (List ℕ) = c.args.self.now in
    let even : Even size now = subst (λ (bs : List (List ℕ)). Even size bs) c.self.view_is (λ k d lt. c.size-size.ensures.each k d lt ∙ c.size-size.ensures.value) in
    c.requires.whole
    ∙ even_concat size (take c.args.count (drop c.args.lba now)) (even_range size c.args.lba c.args.count now even)
    ∙ ap (λ (n : ℕ). n * size) (range_length c.args.lba c.args.count now c.requires.inside)

pub returns-clause-ok : goal.returns-clause-ok
returns-clause-ok c =
    let size : ℕ = c.self.inside.pages.size in
    let now : List (List ℕ) = c.args.self.now in
    let bytes : List ℕ = c.args.bytes.now in
    let range : List (List ℕ) = take c.args.count (drop c.args.lba now) in
    let even : Even size now = subst (λ (bs : List (List ℕ)). Even size bs) c.self.view_is (λ k d lt. c.size-size.ensures.each k d lt ∙ c.size-size.ensures.value) in
    let cut : blocks_of size c.args.count bytes ≡ cut_as range bytes =
    ap (λ (n : ℕ). blocks_of size n bytes) (sym (range_length c.args.lba c.args.count now c.requires.inside)) ∙ even_cut size range bytes (even_range size c.args.lba c.args.count now even) in
    on_ok_weaker c.write.result
    (λ wrote.
    wrote
    ∙ ap (λ (bs : List (List ℕ)). take c.args.lba bs ++ blocks_of size c.args.count bytes ++ drop (c.args.lba + c.args.count) bs) c.self.view_is
    ∙ ap (λ (xs : List (List ℕ)). take c.args.lba now ++ xs ++ drop (c.args.lba + c.args.count) now) cut)
    c.write.ensures.blocks
