-- Rows in the slots of a slab, in the order of their keys: what a row that comes or goes leaves.
use Rattle.std.proofs.Common.{◌≡◌, ◌≢◌, ℕ, zero, suc, ◌+◌, ◌<◌, List, [], ◌∷◌, ◌++◌, length, count_by, slice_index_or, Option, Some, None, is_some, IsSome, remove, refl, ap, sym, ◌∙◌, arith, subst, length-append}
use Rattle.slab.specs.Slab.{Slab}
use Rattle.bd_tables.specs.declared.row.Row.{Row}
use Rattle.bd_tables.specs.Rows.{Rows}
use Rattle.bd_tables.specs.Shelf.{slot_at, row_at, rows_of, IsFree, AreDistinct, AreFilled, IsInOrder}

-- the new slots have what the old ones had, but for this key
abbrev pub SameElsewhere : List (Option Row) → List (Option Row) → ℕ → Type 0
SameElsewhere old new key = (other : ℕ) → other ≢ key → slot_at new other ≡ slot_at old other

pub filled_at : (slots : List (Option Row)) (keys : List ℕ) (i d : ℕ) → AreFilled slots keys → i < length keys → IsSome (slot_at slots (slice_index_or keys i d))
filled_at slots [] i d filled inside = absurd (omega arith)
filled_at slots (k ∷ ks) zero d filled inside = filled.0
filled_at slots (k ∷ ks) (suc i) d filled inside = filled_at slots ks i d filled.1 (omega arith)

-- a key without a row is free
free_key : (slots : List (Option Row)) (keys : List ℕ) (key : ℕ) → AreFilled slots keys → slot_at slots key ≡ None → IsFree key keys
free_key slots [] key filled empty = tt
free_key slots (k ∷ ks) key filled empty = (
  (λ same. let full : IsSome (slot_at slots key) = subst (λ (n : ℕ). IsSome (slot_at slots n)) (sym same) filled.0 in
      let none : IsSome {T = Row} None = subst (λ (o : Option Row). IsSome o) empty full in cc),
  free_key slots ks key filled.1 empty,
)

same_rows : (old new : List (Option Row)) (key : ℕ) (keys : List ℕ) → SameElsewhere old new key → IsFree key keys → rows_of new keys ≡ rows_of old keys
same_rows old new key [] others free = refl
same_rows old new key (k ∷ ks) others free =
    let here : slot_at new k ≡ slot_at old k = others k (λ same. free.0 (sym same)) in
    rw (here, same_rows old new key ks others free.1)

same_filled : (old new : List (Option Row)) (key : ℕ) (keys : List ℕ) → SameElsewhere old new key → IsFree key keys → AreFilled old keys → AreFilled new keys
same_filled old new key [] others free filled = tt
same_filled old new key (k ∷ ks) others free filled =
    (subst (λ (o : Option Row). IsSome o) (sym (others k (λ same. free.0 (sym same)))) filled.0, same_filled old new key ks others free.1 filled.1)

free_join : (j key : ℕ) (keys : List ℕ) → IsFree j keys → j ≢ key → IsFree j (keys ++ key ∷ [])
free_join j key [] free other = (other, tt)
free_join j key (k ∷ ks) free other = (free.0, free_join j key ks free.1 other)

distinct_join : (key : ℕ) (keys : List ℕ) → AreDistinct keys → IsFree key keys → AreDistinct (keys ++ key ∷ [])
distinct_join key [] distinct free = (tt, tt)
distinct_join key (k ∷ ks) distinct free =
    (free_join k key ks distinct.0 (λ same. free.0 (sym same)), distinct_join key ks distinct.1 free.1)

filled_join : (slots : List (Option Row)) (key : ℕ) (keys : List ℕ) → AreFilled slots keys → IsSome (slot_at slots key) → AreFilled slots (keys ++ key ∷ [])
filled_join slots key [] filled full = (full, tt)
filled_join slots key (k ∷ ks) filled full = (filled.0, filled_join slots key ks filled.1 full)

rows_join : (slots : List (Option Row)) (key : ℕ) (keys : List ℕ) → rows_of slots (keys ++ key ∷ []) ≡ rows_of slots keys ++ row_at slots key ∷ []
rows_join slots key [] = refl
rows_join slots key (k ∷ ks) = ap (λ (rs : List Row). row_at slots k ∷ rs) (rows_join slots key ks)

-- a row that came at a free key is the last
pub join_in_order : (old new : List (Option Row)) (keys : List ℕ) (key : ℕ) (row : Row) → IsInOrder old keys → slot_at old key ≡ None → slot_at new key ≡ Some row →
    SameElsewhere old new key → count_by is_some new ≡ count_by is_some old + 1 → IsInOrder new (keys ++ key ∷ [])
join_in_order old new keys key row order empty full others more =
    let free : IsFree key keys = free_key old keys key order.filled empty in
    record {
      distinct = distinct_join key keys order.distinct free;
      filled = filled_join new key keys (same_filled old new key keys others free order.filled) (subst (λ (o : Option Row). IsSome o) (sym full) refl);
      all = omega (arith, more, length-append keys (key ∷ []), order.all);
    }

pub join_rows : (old new : List (Option Row)) (keys : List ℕ) (key : ℕ) (row : Row) → IsInOrder old keys → slot_at old key ≡ None → slot_at new key ≡ Some row →
    SameElsewhere old new key → rows_of new (keys ++ key ∷ []) ≡ rows_of old keys ++ row ∷ []
join_rows old new keys key row order empty full others =
    let free : IsFree key keys = free_key old keys key order.filled empty in
    rw (rows_join new key keys, same_rows old new key keys others free, full)

free_remove : (key : ℕ) (keys : List ℕ) (i : ℕ) → IsFree key keys → IsFree key (remove keys i)
free_remove key [] zero free = tt
free_remove key [] (suc i) free = tt
free_remove key (k ∷ ks) zero free = free.1
free_remove key (k ∷ ks) (suc i) free = (free.0, free_remove key ks i free.1)

distinct_remove : (keys : List ℕ) (i : ℕ) → AreDistinct keys → AreDistinct (remove keys i)
distinct_remove [] zero distinct = tt
distinct_remove [] (suc i) distinct = tt
distinct_remove (k ∷ ks) zero distinct = distinct.1
distinct_remove (k ∷ ks) (suc i) distinct = (free_remove k ks i distinct.0, distinct_remove ks i distinct.1)

filled_remove : (slots : List (Option Row)) (keys : List ℕ) (i : ℕ) → AreFilled slots keys → AreFilled slots (remove keys i)
filled_remove slots [] zero filled = tt
filled_remove slots [] (suc i) filled = tt
filled_remove slots (k ∷ ks) zero filled = filled.1
filled_remove slots (k ∷ ks) (suc i) filled = (filled.0, filled_remove slots ks i filled.1)

rows_remove : (slots : List (Option Row)) (keys : List ℕ) (i : ℕ) → rows_of slots (remove keys i) ≡ remove (rows_of slots keys) i
rows_remove slots [] zero = refl
rows_remove slots [] (suc i) = refl
rows_remove slots (k ∷ ks) zero = refl
rows_remove slots (k ∷ ks) (suc i) = ap (λ (rs : List Row). row_at slots k ∷ rs) (rows_remove slots ks i)

free_at : (key : ℕ) (keys : List ℕ) (i d : ℕ) → IsFree key keys → i < length keys → key ≢ slice_index_or keys i d
free_at key [] i d free inside = absurd (omega arith)
free_at key (k ∷ ks) zero d free inside = free.0
free_at key (k ∷ ks) (suc i) d free inside = free_at key ks i d free.1 (omega arith)

-- a key that goes is free among those that are left
free_removed : (keys : List ℕ) (i d : ℕ) → AreDistinct keys → i < length keys → IsFree (slice_index_or keys i d) (remove keys i)
free_removed [] i d distinct inside = absurd (omega arith)
free_removed (k ∷ ks) zero d distinct inside = distinct.0
free_removed (k ∷ ks) (suc i) d distinct inside =
    ((λ same. free_at k ks i d distinct.0 (omega arith) (sym same)), free_removed ks i d distinct.1 (omega arith))

length_remove : (keys : List ℕ) (i : ℕ) → i < length keys → length (remove keys i) + 1 ≡ length keys
length_remove [] i inside = absurd (omega arith)
length_remove (k ∷ ks) zero inside = omega arith
length_remove (k ∷ ks) (suc i) inside = omega (arith, length_remove ks i (omega arith))

pub length_rows : (slots : List (Option Row)) (keys : List ℕ) → length (rows_of slots keys) ≡ length keys
length_rows slots [] = refl
length_rows slots (k ∷ ks) = ap suc (length_rows slots ks)

-- the key at place i is free once it is taken out
free_taken : (keys : List ℕ) (i key : ℕ) → AreDistinct keys → i < length keys → key ≡ slice_index_or keys i key → IsFree key (remove keys i)
free_taken keys i key distinct inside here =
    subst (λ (k : ℕ). IsFree k (remove keys i)) (sym here) (free_removed keys i key distinct inside)

-- a row that goes leaves the others in order
pub take_in_order : (old new : List (Option Row)) (keys : List ℕ) (i key : ℕ) → IsInOrder old keys → i < length keys → key ≡ slice_index_or keys i key →
    SameElsewhere old new key → count_by is_some new + 1 ≡ count_by is_some old → IsInOrder new (remove keys i)
take_in_order old new keys i key order inside here others less = record {
  distinct = distinct_remove keys i order.distinct;
  filled = same_filled old new key (remove keys i) others (free_taken keys i key order.distinct inside here) (filled_remove old keys i order.filled);
  all = omega (arith, less, length_remove keys i inside, order.all);
}

pub take_rows : (old new : List (Option Row)) (keys : List ℕ) (i key : ℕ) → IsInOrder old keys → i < length keys → key ≡ slice_index_or keys i key →
    SameElsewhere old new key → rows_of new (remove keys i) ≡ remove (rows_of old keys) i
take_rows old new keys i key order inside here others =
    same_rows old new key (remove keys i) others (free_taken keys i key order.distinct inside here) ∙ rows_remove old keys i

-- a table is its rows and its room
pub same_table : (r s : List Row) (n m : ℕ) → r ≡ s → n ≡ m → let t : Rows = record { rows = r; room = n } in t ≡ record { rows = s; room = m }
same_table r s n m e f = cc

-- room for more rows leaves them
pub reserved_in_order : (s t : Slab Row) (keys new : List ℕ) → t ≡ record s { capacity = t.capacity } → new ≡ keys → IsInOrder s.slots keys → IsInOrder t.slots new
reserved_in_order s t keys new same_slab same_keys order =
    let slots : t.slots ≡ s.slots = ap (λ (u : Slab Row). u.slots) same_slab in
    rw (slots, same_keys) order
