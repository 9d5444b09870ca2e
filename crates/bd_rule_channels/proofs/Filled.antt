-- Counts that are set one after another.
use Rattle.std.proofs.Common.{◌≡◌, ℕ, zero, suc, ◌+◌, ◌<◌, Bool, true, false, cond, List, [], ◌∷◌, ◌++◌, length, get_or, take, map, Option, Some, refl, sym, ◌∙◌, ap, subst, arith}
use Rattle.std.specs.List.{AllByRecursion}
use Rattle.std.specs.Option.{option_flatten}
use Rattle.std.proofs.lemmas.List.{take_more}
use Rattle.bd_base.specs.declared.id.DevId.{DevId}
use Rattle.bd_machine.specs.declared.state.Channel.{Channel}
use Rattle.bd_machine.specs.Changes.{Count, counts_set}
use Rattle.bd_machine.specs.Same.{same_channel}
use Rattle.bd_machine.specs.Table.{look_up, write}
use Rattle.bd_machine.proofs.Tables.{look_up-write, channel_same}
use Rattle.bd_rule_channels.specs.Counts.{Table, Has, HasPlaces, PlacesStay, channel_of, count_for, count_in, has_place}

-- one count more was set
set_more : (t : ℕ) (xs : List Count) (c : Count) (cs : List (Channel × Option ℕ)) → counts_set t (xs ++ c ∷ []) cs ≡ write same_channel (counts_set t xs cs) (channel_of c.dev t) c.count
set_more t [] c cs = refl
set_more t (x ∷ xs) c cs = set_more t xs c (write same_channel cs (channel_of x.dev t) x.count)

map_more : (xs : List (DevId × Option ℕ)) (x : DevId × Option ℕ) → map count_for (xs ++ x ∷ []) ≡ map count_for xs ++ count_for x ∷ []
map_more [] x = refl
map_more (y ∷ ys) x = ap (λ (zs : List Count). count_for y ∷ zs) (map_more ys x)

-- the table has the list's counts after the same write in both
pub has_more : (old new : Table) (cs : List (Channel × Option ℕ)) (t : ℕ) (dev : DevId) (count : Option ℕ)
    → ((u : ℕ) (d : DevId) → count_in new u d ≡ cond (same_channel (channel_of dev t) (channel_of d u)) count (count_in old u d))
    → Has old cs → Has new (write same_channel cs (channel_of dev t) count)
has_more old new cs t dev count set has u d =
    set u d ∙ ap (λ o. cond (same_channel (channel_of dev t) (channel_of d u)) count o) (has u d)
    ∙ go (same_channel (channel_of dev t) (channel_of d u)) (look_up same_channel cs (channel_of d u))
    ∙ sym (ap option_flatten (look_up-write same_channel channel_same cs (channel_of dev t) (channel_of d u) count))
  where
    go : (b : Bool) (o : Option (Option ℕ)) → cond b count (option_flatten o) ≡ option_flatten (cond b (Some count) o)
    go true o = refl
    go false o = refl

pub counts_more : (old new : Table) (cs : List (Channel × Option ℕ)) (t n : ℕ) (counts : List (DevId × Option ℕ)) (x : DevId × Option ℕ)
    → n < length counts → x ≡ get_or counts n x
    → ((u : ℕ) (d : DevId) → count_in new u d ≡ cond (same_channel (channel_of x.0 t) (channel_of d u)) x.1 (count_in old u d))
    → Has old (counts_set t (map count_for (take n counts)) cs) → Has new (counts_set t (map count_for (take (n + 1) counts)) cs)
counts_more old new cs t n counts x less at set has =
    let more : counts_set t (map count_for (take (n + 1) counts)) cs ≡ write same_channel (counts_set t (map count_for (take n counts)) cs) (channel_of x.0 t) x.1 =
    ap (λ (xs : List (DevId × Option ℕ)). counts_set t (map count_for xs) cs) (take_more counts n x less ∙ ap (λ (y : DevId × Option ℕ). take n counts ++ y ∷ []) (sym at))
    ∙ ap (λ (ys : List Count). counts_set t ys cs) (map_more (take n counts) x)
    ∙ set_more t (map count_for (take n counts)) (count_for x) cs in
    λ u d. has_more old new (counts_set t (map count_for (take n counts)) cs) t x.0 x.1 set has u d
    ∙ sym (ap (λ (es : List (Channel × Option ℕ)). option_flatten (look_up same_channel es (channel_of d u))) more)

-- ---- places

pub places_stay : (old new : Table) (t : ℕ) (counts : List (DevId × Option ℕ)) → PlacesStay old new → HasPlaces old t counts → HasPlaces new t counts
places_stay old new t [] stay h = tt
places_stay old new t (c ∷ cs) stay h = (stay t c.0 h.0, places_stay old new t cs stay h.1)

places_push : (table : Table) (t : ℕ) (counts : List (DevId × Option ℕ)) (c : DevId × Option ℕ) → HasPlaces table t counts → has_place table t c.0 ≡ true → HasPlaces table t (counts ++ c ∷ [])
places_push table t [] c h k = (k, tt)
places_push table t (x ∷ xs) c h k = (h.0, places_push table t xs c h.1 k)

pub places_more : (old new : Table) (t n : ℕ) (counts : List (DevId × Option ℕ)) (x : DevId × Option ℕ) → n < length counts → x ≡ get_or counts n x
    → PlacesStay old new → has_place new t x.0 ≡ true → HasPlaces old t (take n counts) → HasPlaces new t (take (n + 1) counts)
places_more old new t n counts x less at stay has h =
    subst (λ (xs : List (DevId × Option ℕ)). HasPlaces new t xs) (sym (take_more counts n x less ∙ ap (λ (y : DevId × Option ℕ). take n counts ++ y ∷ []) (sym at)))
    (places_push new t (take n counts) x (places_stay old new t (take n counts) stay h) has)

-- there is a place for the count of this place among them
pub place_at : (table : Table) (t : ℕ) (counts : List (DevId × Option ℕ)) (n : ℕ) (d : DevId × Option ℕ) → n < length counts → HasPlaces table t counts → has_place table t (get_or counts n d).0 ≡ true
place_at table t [] n d less h = absurd (omega arith)
place_at table t (c ∷ cs) zero d less h = h.0
place_at table t (c ∷ cs) (suc n) d less h = place_at table t cs n d (omega arith) h.1
