-- A cluster at its index among the entries of a map.
use Rattle.std.proofs.Common.{◌≡◌, ℕ, zero, suc, Bool, true, false, cond, nat_eq, List, [], ◌∷◌, length, Option, None, Some, slice_get, option_map, unwrap_or, refl, sym, ap, subst, ◌∙◌, arith}
use Rattle.std.proofs.lemmas.Cmp.{nat_eq_equiv}
use Rattle.std.proofs.lemmas.Option.{slice_get-map}
use Rattle.std.specs.Map.{values_of}
use Rattle.indexmap.specs.IndexMap.{IndexMap, IsUnique, Updates, set_value_at, with_value_at}
use Rattle.indexmap.proofs.CallerLemmas.{updates-with_value_at}
use Rattle.bd_volume.specs.Clusters.{AreClusters, StandsAt, Stored, found}

-- what is there already is put again
pub put_again : {K X : Type 0} (es : List (K × X)) (i : ℕ) (w : X) → Some w ≡ slice_get (values_of es) i → set_value_at es i w ≡ es
put_again [] i w is = refl
put_again {K} {X} (e ∷ es) zero w is = ap (λ (v : X). (e.0, v) ∷ es) (ap (λ (o : Option X). unwrap_or o w) is)
put_again {K} {X} (e ∷ es) (suc i) w is = ap (λ (xs : List (K × X)). e ∷ xs) (put_again es i w is)

module _ (es : List (ℕ × Stored)) (place i : ℕ) (is : StandsAt es place i) where
  both : (o : Option Stored) → option_map (λ (e : ℕ × Stored). e.1) (option_map (λ p. (place, p)) o) ≡ o
  both None = refl
  both (Some p) = refl

  values : slice_get (values_of es) i ≡ found es place
  values = slice_get-map (λ (e : ℕ × Stored). e.1) es i ∙ ap (λ (o : Option (ℕ × Stored)). option_map (λ (e : ℕ × Stored). e.1) o) is ∙ both (found es place)

  -- what stands there is the cluster of the place
  pub found_at : (o : Option Stored) → o ≡ slice_get (values_of es) i → o ≡ found es place
  found_at o there = there ∙ values

  pub entry_at : (p : Stored) → Some p ≡ slice_get (values_of es) i → slice_get es i ≡ Some (place, p)
  entry_at p there = is ∙ ap (λ (o : Option Stored). option_map (λ q. (place, q)) o) (sym (found_at (Some p) there))

  -- and nothing, where nothing stands there
  pub none_at : None ≡ slice_get es i → None ≡ found es place
  none_at none = ap (λ (o : Option (ℕ × Stored)). option_map (λ (e : ℕ × Stored). e.1) o) (none ∙ is) ∙ both (found es place)

apart : (place q : ℕ) → (q ≡ place → ⊥) → nat_eq place q ≡ false
apart place q other = grind arith

-- a cluster at the place that was written in place
module _ {S : Type 0} (m : IndexMap ℕ Stored S) (unique : IsUnique nat_eq m) (place i : ℕ) (is : StandsAt m.entries place i) (p : Stored) (there : Some p ≡ slice_get (values_of m.entries) i) (w : Stored) where
  updates : Updates nat_eq m (with_value_at m i w) place (Some w)
  updates = updates-with_value_at m i w nat_eq_equiv unique place p (entry_at m.entries place i is p there)

  put_found : (q : ℕ) → found (set_value_at m.entries i w) q ≡ cond (nat_eq place q) (Some w) (found m.entries q)
  put_found q = updates.0 q

  pub put_here : found (set_value_at m.entries i w) place ≡ Some w
  put_here = updates.1

  pub put_apart : (q : ℕ) → (q ≡ place → ⊥) → found (set_value_at m.entries i w) q ≡ found m.entries q
  put_apart q other = updates.2 q (apart place q other)

  pub put_clusters : (cluster size : ℕ) → AreClusters cluster size m.entries → length w.blocks ≡ length p.blocks → w.size ≡ p.size → AreClusters cluster size (set_value_at m.entries i w)
  put_clusters cluster size are long sized = record {
    some = are.some;
    long = λ q v at. (each q v at).0;
    sized = λ q v at. (each q v at).1;
  }
    where
      at_place : found m.entries place ≡ Some p
      at_place = sym (found_at m.entries place i is (Some p) there)

      go : (b : Bool) (q : ℕ) (v : Stored) → cond b (Some w) (found m.entries q) ≡ Some v → (length v.blocks ≡ cluster) × (v.size ≡ size)
      go true q v at =
          let same : w ≡ v = ap (λ (o : Option Stored). unwrap_or o w) at in
          (subst (λ (x : Stored). length x.blocks ≡ cluster) same (long ∙ are.long place p at_place), subst (λ (x : Stored). x.size ≡ size) same (sized ∙ are.sized place p at_place))
      go false q v at = (are.long q v at, are.sized q v at)

      each : (q : ℕ) (v : Stored) → found (set_value_at m.entries i w) q ≡ Some v → (length v.blocks ≡ cluster) × (v.size ≡ size)
      each q v at = go (nat_eq place q) q v (sym (put_found q) ∙ at)
