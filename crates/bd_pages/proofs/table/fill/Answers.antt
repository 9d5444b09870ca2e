use Rattle.std.proofs.Common.{◌≡◌, ◌*◌, Bool, ℕ, List, [], ◌∷◌, cond, length, ap, sym, subst, ◌∙◌, arith}
use Rattle.std.specs.List.{concat}
use Rattle.bd_base.specs.Pattern.{pattern_byte}
use Rattle.bd_pages.specs.Bytes.{written}
use Rattle.bd_pages.specs.Fills.{bytes_filled, patterns, turned_block}
use Rattle.bd_pages.specs.Table.{IsCut, flat}
use Rattle.bd_pages.proofs.Fills.{filled_length, patterns_first, patterns_length, range_taken, turned_none, turned_written}
use Rattle.bd_pages.proofs.Splices.{length_written}
use Rattle.bd_pages.proofs.table.fill.Goals as goal
use Rattle.bd_pages.proofs.table.fill.Goals.{else-fill-via-then-fill+else-len-gt0, else-fill-via-else-fill}

pub put-requires-clause-ready : goal.put-requires-clause-ready
put-requires-clause-ready c =
    let at : ℕ = c.args.span.at in
    let same : flat c.take.new.pages ≡ flat c.args.pages.now = ap concat c.in_ok-take.ensures.bytes in
    let paged = subst (λ (ps : List (List ℕ)). IsCut (length (concat ps)) ps) (sym c.in_ok-take.ensures.bytes) c.requires.paged in
    range_taken at (c.args.span.count * c.args.span.size) at 1 c.take.new.pages c.fill_blocks.new.pages (omega arith) (omega (arith, c.if-len-gt0.true)) paged (omega (arith, c.requires.inside, ap length same)) c.fill_blocks.ensures.taken c.in_ok-take.ensures.taken

pub returns-then-len-gt0-clause-bytes : goal.returns-then-len-gt0-clause-bytes
returns-then-len-gt0-clause-bytes c =
    let at : ℕ = c.args.span.at in
    let old : List ℕ = flat c.args.pages.now in
    let made : List ℕ = patterns c.args.fill.seed c.args.number c.args.span.size c.args.span.count in
    let long = patterns_length c.args.fill.seed c.args.number c.args.span.size c.args.span.count in
    let first = patterns_first c.args.fill.seed c.args.number c.args.span.size c.args.span.count c.if-len-gt0.true in
    let same : flat c.take.new.pages ≡ old = ap concat c.in_ok-take.ensures.bytes in
    let byte : ℕ → List ℕ = λ b. b ∷ [] in
    c.put.ensures.bytes
    ∙ ap (λ (xs : List ℕ). written at (byte c.first_turned.result) xs) (c.fill_blocks.ensures.bytes ∙ ap (λ (xs : List ℕ). written at made xs) same)
    ∙ ap (λ (b : ℕ). written at (byte b) (written at made old)) c.first_turned.ensures
    ∙ turned_written at (pattern_byte c.args.fill.seed c.args.number 0) first.0 made old first.1 (omega (arith, c.requires.inside, long))
    ∙ ap (λ (b : Bool). written at (cond b (turned_block made) made) old) (sym c.if-fill.true)

pub returns-then-len-gt0-clause-len : goal.returns-then-len-gt0-clause-len
returns-then-len-gt0-clause-len c =
    let long = filled_length c.args.fill c.args.number c.args.span.size c.args.span.count in
    ap length (returns-then-len-gt0-clause-bytes c)
    ∙ length_written c.args.span.at (bytes_filled c.args.fill c.args.number c.args.span.size c.args.span.count) (flat c.args.pages.now) (omega (arith, c.requires.inside, long))

pub returns-else-fill-clause-bytes : goal.returns-else-fill-clause-bytes
returns-else-fill-clause-bytes c =
    let at : ℕ = c.args.span.at in
    let old : List ℕ = flat c.args.pages.now in
    let made : List ℕ = patterns c.args.fill.seed c.args.number c.args.span.size c.args.span.count in
    let long = patterns_length c.args.fill.seed c.args.number c.args.span.size c.args.span.count in
    let same : flat c.take.new.pages ≡ old = ap concat c.in_ok-take.ensures.bytes in
    let put : flat c.fill_blocks.new.pages ≡ written at made old = c.fill_blocks.ensures.bytes ∙ ap (λ (xs : List ℕ). written at made xs) same in
    elim c.else-fill.branch [
      | else-fill-via-then-fill+else-len-gt0 w ↦
          put
          ∙ ap (λ (xs : List ℕ). written at xs old) (sym (turned_none made (long ∙ omega (arith, w.if-len-gt0.false))))
          ∙ ap (λ (b : Bool). written at (cond b (turned_block made) made) old) (sym w.if-fill.true)
      | else-fill-via-else-fill w ↦ put ∙ ap (λ (b : Bool). written at (cond b (turned_block made) made) old) (sym w.if-fill.false)
    ]

pub returns-else-fill-clause-len : goal.returns-else-fill-clause-len
returns-else-fill-clause-len c =
    let long = filled_length c.args.fill c.args.number c.args.span.size c.args.span.count in
    ap length (returns-else-fill-clause-bytes c)
    ∙ length_written c.args.span.at (bytes_filled c.args.fill c.args.number c.args.span.size c.args.span.count) (flat c.args.pages.now) (omega (arith, c.requires.inside, long))
