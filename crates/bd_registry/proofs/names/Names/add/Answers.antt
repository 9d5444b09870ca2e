use Rattle.std.proofs.Common.{◌≡◌, ◌∙◌, ℕ, false, List, cond, Option, Some, None, is_some, nat_eq, Vec, ap, sym, subst, refl}
use Rattle.std.specs.Cmp.Lexicographic.{pointwise}
use Rattle.std.specs.Map.{lookup}
use Rattle.std.specs.declared.alloc.Global.{Global}
use Rattle.bd_registry.specs.Names.{first_of, place_of_name}
use Rattle.bd_registry.proofs.Naming.{inserted}
use Rattle.bd_registry.proofs.names.Names.add.Goals as goal

none_of : (o : Option ℕ) → is_some o ≡ false → o ≡ None
none_of None h = refl
none_of (Some n) h = cc

pub returns-clause-ok : goal.returns-clause-ok
returns-clause-ok c =
    let items : Vec ℕ Global → List ℕ = λ k. k.items in
    let key : Vec ℕ Global = c.in_ok-key.key in
    let old : List (Vec ℕ Global × ℕ) = c.args.self.now.places.entries in
    let named : key.items ≡ c.args.name.now = c.in_ok-key.ensures.items ∙ c.as_slice.ensures in
    let absent : place_of_name c.args.self.now c.args.name.now ≡ None = none_of (place_of_name c.args.self.now c.args.name.now) (ap (λ (o : Option ℕ). is_some o) (sym c.find.ensures) ∙ sym c.is_some.ensures ∙ c.if-is_some.false) in
    λ q.
    ap (λ (es : List (Vec ℕ Global × ℕ)). lookup (λ k. pointwise nat_eq q k.items) es) c.in_ok-insert.ensures.entries
    ∙ inserted items key c.args.place q old (subst (λ (n : List ℕ). lookup (λ k. pointwise nat_eq n (items k)) old ≡ None) (sym named) absent)
    ∙ ap (λ (n : List ℕ). first_of (place_of_name c.args.self.now q) (cond (pointwise nat_eq n q) (Some c.args.place) None)) named
