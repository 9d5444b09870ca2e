use Rattle.std.proofs.Common.{◌≡◌, ◌+◌, ◌++◌, ◌-◌, ℕ, Bool, true, false, List, length, replicate, take, ap, ap₂, sym, ◌∙◌, arith}
use Rattle.std.specs.Prelude.{is_some, option_map}
use Rattle.std.proofs.lemmas.List.{replicate-append-replicate, take_all}
use Rattle.bd_pages.specs.Leaf.{Leaf, bytes_of}
use Rattle.bd_pages.specs.declared.page.Page.TheInside.{Inside}
use Rattle.bd_pages.proofs.page.Page.widen.Goals as goal
use Rattle.bd_pages.proofs.page.Page.widen.Goals.{in-Some+in_ok-resize, in_default}

abbrev leaf : List ℕ → Bool → Bool → Leaf
leaf b r t = record { bytes = b; ready = r; taken = t }

wide : (bytes : List ℕ) (len n m : ℕ) → length bytes ≡ len → m ≡ length bytes → take (len + n) bytes ++ replicate (len + n - m) 0 ≡ bytes ++ replicate n 0
wide bytes len n m long e =
    let few : len + n - m ≡ n = omega (arith, long, e) in
    ap₂ (λ (b : List ℕ) (k : ℕ). b ++ replicate k 0) (take_all (len + n) bytes (omega (arith, long))) few

pub returns-clause-ok : goal.returns-clause-ok
returns-clause-ok c =
    let len : ℕ = c.self.inside.len in
    let n : ℕ = c.args.n in
    let taken : Bool = c.self.inside.taken in
    let more : Leaf → Leaf = λ p. leaf (p.bytes ++ replicate n 0) p.ready p.taken in
    elim c.match-self.branch [
      | in-Some+in_ok-resize w ↦
          let items : List ℕ = w.in-Some.memory.items in
          let old : c.args.self.now ≡ leaf items true taken = sym c.self.view_is ∙ ap (λ o. leaf (bytes_of len (option_map (λ m. m.items) o)) (is_some o) taken) w.in-Some.is in
          let long : length items ≡ len = c.self.invariant.sized items (ap (λ o. option_map (λ m. m.items) o) w.in-Some.is) in
          ap (λ (p : Inside). leaf (bytes_of (len + n) (option_map (λ m. m.items) p.memory)) (is_some p.memory) p.taken) w.self-inside-is
          ∙ ap (λ (b : List ℕ). leaf b true taken) (w.in_ok-resize.ensures.items ∙ wide items len n w.in-Some.memory.len long w.in-Some.memory.ok.0)
          ∙ sym (ap more old)
      | in_default w ↦
          let old : c.args.self.now ≡ leaf (replicate len 0) false taken = sym c.self.view_is ∙ ap (λ o. leaf (bytes_of len (option_map (λ m. m.items) o)) (is_some o) taken) w.in_default.is in
          ap (λ (p : Inside). leaf (bytes_of (len + n) (option_map (λ m. m.items) p.memory)) (is_some p.memory) p.taken) w.self-inside-is
          ∙ ap (λ o. leaf (bytes_of (len + n) (option_map (λ m. m.items) o)) (is_some o) taken) w.in_default.is
          ∙ ap (λ (b : List ℕ). leaf b false taken) (sym (replicate-append-replicate len n 0))
          ∙ sym (ap more old)
    ]
