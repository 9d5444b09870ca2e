use Rattle.std.proofs.Common.{◌≡◌, ◌+◌, ◌*◌, ◌-◌, ℕ, suc, List, length, take, drop, refl, ap, ◌∙◌, arith}
use Rattle.std.proofs.lemmas.List.{length-drop, length-take-le}
use Rattle.std.proofs.lemmas.Slice.{put_mid-paste}
use Rattle.std.proofs.lemmas.List.Edits.{paste_all}
use Rattle.bd_base.specs.Pattern.{pattern}
use Rattle.bd_pages.specs.Bytes.{written}
use Rattle.bd_pages.specs.Fills.{patterns}
use Rattle.bd_pages.proofs.Fills.{next_inside, pattern_length, patterns_length, patterns_more}
use Rattle.bd_pages.proofs.Splices.{written_twice}
use Rattle.bd_volume.proofs.store.fill_each.Goals as goal

pub loop-k-preserved : goal.loop-k-preserved
loop-k-preserved c =
    let at : ℕ = c.args.span.at in
    let size : ℕ = c.args.span.size in
    let k : ℕ = c.loop-k.k in
    let old : List ℕ = c.args.bytes.now in
    let place : ℕ = at + k * size in
    let new : List ℕ = pattern c.args.seed (c.args.number + k) size in
    let before : List ℕ = patterns c.args.seed c.args.number size k in
    let done = patterns_length c.args.seed c.args.number size k in
    let next = next_inside k c.args.span.count size (omega arith) in
    let long = pattern_length c.args.seed (c.args.number + k) size in
    let one : suc k ≡ k + 1 = omega arith in
    let behind = length-drop place c.loop-k.bytes in
    let whole : length c.loop-k.bytes ≡ length old = c.loop-k.auto.bytes in
    let part : length (take (place + size - place) (drop place c.loop-k.bytes)) ≡ place + size - place =
    length-take-le (place + size - place) (drop place c.loop-k.bytes) (omega (arith, behind, whole, next)) in
    let same : place + size - place ≡ size = omega arith in
    put_mid-paste place (place + size - place) c.loop-k.bytes c.fill_pattern.new.to new (length new) (c.fill_pattern.ensures ∙ ap (λ (n : ℕ). pattern c.args.seed (c.args.number + k) n) (part ∙ same)) (omega (arith, long)) refl
    ∙ paste_all c.loop-k.bytes place new (length new) refl
    ∙ ap (λ (xs : List ℕ). written place new xs) c.loop-k.invariant
    ∙ written_twice at place before new old (omega (arith, next)) (omega (arith, done))
    ∙ ap (λ (xs : List ℕ). written at xs old) (patterns_more c.args.seed c.args.number size k ∙ ap (λ (n : ℕ). patterns c.args.seed c.args.number size n) one)
