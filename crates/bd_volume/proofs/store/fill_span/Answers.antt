use Rattle.std.proofs.Common.{Bool, ℕ, List, [], ◌∷◌, cond, ap, sym, ◌∙◌, arith}
use Rattle.bd_base.specs.Pattern.{pattern_byte}
use Rattle.bd_pages.specs.Bytes.{written}
use Rattle.bd_pages.specs.Fills.{patterns, turned_block}
use Rattle.bd_pages.proofs.Fills.{patterns_first, patterns_length, turned_none, turned_written}
use Rattle.bd_volume.proofs.store.fill_span.Goals as goal
use Rattle.bd_volume.proofs.store.fill_span.Goals.{else-fill-via-then-fill+else-len-gt0, else-fill-via-else-fill}

pub returns-then-len-gt0 : goal.returns-then-len-gt0
returns-then-len-gt0 c =
    let at : ℕ = c.args.span.at in
    let old : List ℕ = c.args.bytes.now in
    let made : List ℕ = patterns c.args.fill.seed c.args.number c.args.span.size c.args.span.count in
    let long = patterns_length c.args.fill.seed c.args.number c.args.span.size c.args.span.count in
    let first = patterns_first c.args.fill.seed c.args.number c.args.span.size c.args.span.count c.if-len-gt0.true in
    let byte : ℕ → List ℕ = λ b. b ∷ [] in
    c.put.ensures
    ∙ ap (λ (xs : List ℕ). written at (byte c.first_turned.result) xs) c.fill_each.ensures
    ∙ ap (λ (b : ℕ). written at (byte b) (written at made old)) c.first_turned.ensures
    ∙ turned_written at (pattern_byte c.args.fill.seed c.args.number 0) first.0 made old first.1 (omega (arith, c.requires.inside, long))
    ∙ ap (λ (b : Bool). written at (cond b (turned_block made) made) old) (sym c.if-fill.true)

pub returns-else-fill : goal.returns-else-fill
returns-else-fill c =
    let at : ℕ = c.args.span.at in
    let old : List ℕ = c.args.bytes.now in
    let made : List ℕ = patterns c.args.fill.seed c.args.number c.args.span.size c.args.span.count in
    let long = patterns_length c.args.fill.seed c.args.number c.args.span.size c.args.span.count in
    elim c.else-fill.branch [
      | else-fill-via-then-fill+else-len-gt0 w ↦
          c.fill_each.ensures
          ∙ ap (λ (xs : List ℕ). written at xs old) (sym (turned_none made (long ∙ omega (arith, w.if-len-gt0.false))))
          ∙ ap (λ (b : Bool). written at (cond b (turned_block made) made) old) (sym w.if-fill.true)
      | else-fill-via-else-fill w ↦ c.fill_each.ensures ∙ ap (λ (b : Bool). written at (cond b (turned_block made) made) old) (sym w.if-fill.false)
    ]
