use Rattle.std.proofs.Common.{◌≡◌, ◌-◌, ◌++◌, ℕ, List, length, get_or, replicate, set, sym, ◌∙◌, ap, subst, arith}
use Rattle.bd_pages.specs.Leaf.{Leaf}
use Rattle.bd_pages.specs.Table.{IsCut, IsPaged, flat, marks, pieces}
use Rattle.bd_pages.proofs.Growths.{grown_flat, grown_marks, grown_paged, last_length}
use Rattle.bd_pages.proofs.table.grow.Goals as goal

pub widen-requires : goal.widen-requires
widen-requires c =
    let old : List Leaf = c.args.pages.now.items in
    let behind : List Leaf = c.in_ok-behind.behind.items in
    let k : ℕ = c.len-end.result - 1 in
    let page : Leaf = c.index_mut.result.now in
    let cut : IsCut c.args.len (pieces old) = subst (λ (n : ℕ). IsCut n (pieces old)) c.requires.all c.requires.paged in
    let most = last_length c.args.len c.args.more c.fit-fit.result k old behind page page cut (omega arith) in
    let same : page ≡ get_or (old ++ behind) k page = c.index_mut.ensures.value ∙ ap (λ (ps : List Leaf). get_or ps k page) c.in_ok-append.ensures.items in
    let long : length page.bytes ≡ length (get_or (old ++ behind) k page).bytes = ap (λ (p : Leaf). length p.bytes) same in
    omega (arith, most, long, c.fit-fit.ensures)

pub returns-in-Ok-clause-bytes : goal.returns-in-Ok-clause-bytes
returns-in-Ok-clause-bytes c =
    let old : List Leaf = c.args.pages.now.items in
    let behind : List Leaf = c.in_ok-behind.behind.items in
    let k : ℕ = c.len-end.result - 1 in
    let fit : ℕ = c.fit-fit.result in
    let page : Leaf = c.index_mut.result.now in
    let new : Leaf = c.widen.new.self in
    let cut : IsCut c.args.len (pieces old) = subst (λ (n : ℕ). IsCut n (pieces old)) c.requires.all c.requires.paged in
    let same : page ≡ get_or (old ++ behind) k page = c.index_mut.ensures.value ∙ ap (λ (ps : List Leaf). get_or ps k page) c.in_ok-append.ensures.items in
    let wider : new.bytes ≡ (get_or (old ++ behind) k page).bytes ++ replicate fit 0 = ap (λ (p : Leaf). p.bytes) c.in-Ok.ensures.ok ∙ ap (λ (p : Leaf). p.bytes ++ replicate fit 0) same in
    ap (λ (ps : List Leaf). flat (set ps k new)) c.in_ok-append.ensures.items
    ∙ grown_flat c.args.len c.args.more fit k old behind new page cut (omega arith) wider (omega (arith, c.fit-fit.ensures)) c.in_ok-behind.ensures.bytes

pub returns-in-Ok-clause-paged : goal.returns-in-Ok-clause-paged
returns-in-Ok-clause-paged c =
    let old : List Leaf = c.args.pages.now.items in
    let behind : List Leaf = c.in_ok-behind.behind.items in
    let k : ℕ = c.len-end.result - 1 in
    let fit : ℕ = c.fit-fit.result in
    let page : Leaf = c.index_mut.result.now in
    let new : Leaf = c.widen.new.self in
    let cut : IsCut c.args.len (pieces old) = subst (λ (n : ℕ). IsCut n (pieces old)) c.requires.all c.requires.paged in
    let same : page ≡ get_or (old ++ behind) k page = c.index_mut.ensures.value ∙ ap (λ (ps : List Leaf). get_or ps k page) c.in_ok-append.ensures.items in
    let wider : new.bytes ≡ (get_or (old ++ behind) k page).bytes ++ replicate fit 0 = ap (λ (p : Leaf). p.bytes) c.in-Ok.ensures.ok ∙ ap (λ (p : Leaf). p.bytes ++ replicate fit 0) same in
    subst (λ (ps : List Leaf). IsPaged (set ps k new)) (sym c.in_ok-append.ensures.items)
    (grown_paged c.args.len c.args.more fit k old behind new page cut (omega arith) wider c.fit-fit.ensures c.in_ok-behind.ensures.bytes c.in_ok-behind.ensures.paged)

pub returns-in-Ok-clause-taken : goal.returns-in-Ok-clause-taken
returns-in-Ok-clause-taken c =
    let old : List Leaf = c.args.pages.now.items in
    let behind : List Leaf = c.in_ok-behind.behind.items in
    let k : ℕ = c.len-end.result - 1 in
    let page : Leaf = c.index_mut.result.now in
    let new : Leaf = c.widen.new.self in
    let cut : IsCut c.args.len (pieces old) = subst (λ (n : ℕ). IsCut n (pieces old)) c.requires.all c.requires.paged in
    let same : page ≡ get_or (old ++ behind) k page = c.index_mut.ensures.value ∙ ap (λ (ps : List Leaf). get_or ps k page) c.in_ok-append.ensures.items in
    ap (λ (ps : List Leaf). marks (set ps k new)) c.in_ok-append.ensures.items
    ∙ grown_marks c.args.len c.args.more c.fit-fit.result k old behind new page cut (omega arith) (ap (λ (p : Leaf). p.taken) c.in-Ok.ensures.ok ∙ ap (λ (p : Leaf). p.taken) same) c.fit-fit.ensures c.in_ok-behind.ensures.taken
