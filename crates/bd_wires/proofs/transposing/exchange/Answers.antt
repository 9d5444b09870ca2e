use Rattle.std.proofs.Common.{◌≡◌, ◌+◌, ◌<◌, Some, length, slice_index_or, subst, sym, refl, ap, ◌∙◌, arith}
use Rattle.std.proofs.lemmas.Option.{slice_get-get_or, slice_get_read}
use Rattle.bd_wires.specs.Transposing.{Exchanged}
use Rattle.bd_wires.proofs.Exchanging.{exchanged, in_parts}
use Rattle.bd_wires.proofs.transposing.exchange.Goals as goal

pub returns : goal.returns
returns c =
    let xs = c.args.passes.now in
    let s = c.args.first in
    let t = c.args.second in
    let split = c.split_at_mut-earlier.ensures in
    let front = c.split_at_mut-earlier.result.0.now in
    let back = c.split_at_mut-earlier.result.1.now in
    let p = slice_index_or front s c.index-earlier-first.result in
    let q = slice_index_or back 0 c.index-later-0.result in
    let in_s : s < length xs = omega arith in
    let at_s = slice_get-get_or xs s c.index-earlier-first.result in_s ∙ ap (λ v. Some v) (sym (split.by_index.0 s c.index-earlier-first.result c.requires.first)) in
    let first_of_back : t + 0 ≡ t = omega arith in
    let at_t = slice_get-get_or xs t c.index-later-0.result c.requires.second ∙ ap (λ k. Some (slice_index_or xs k c.index-later-0.result)) (sym first_of_back) ∙ ap (λ v. Some v) (sym (split.by_index.1 0 c.index-later-0.result)) in
    let many_p = c.requires.square s p at_s in
    let many_q = c.requires.square t q at_t in
    let old_y = slice_get_read p.sends.items p.sends.len t c.index_mut.result.now p.sends.ok.0 (omega arith) c.index_mut.ensures.value ∙ ap (λ v. Some v) (sym c.swap.ensures.y_after) in
    let old_x = slice_get_read q.sends.items q.sends.len s c.index_mut-2.result.now q.sends.ok.0 (omega arith) c.index_mut-2.ensures.value ∙ ap (λ v. Some v) (sym c.swap.ensures.x_after) in
    subst (Exchanged s t xs) (in_parts xs front back s t _ _ split.value split.front_len c.requires.first)
    (exchanged xs s t p q _ _ c.swap.new.x c.swap.new.y c.requires.first at_s at_t old_y old_x (refl, refl, refl, refl) (refl, refl, refl, refl))
