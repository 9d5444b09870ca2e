-- Disks that are all still there are closed, whatever was done to them, and in whichever order.
use Rattle.std.proofs.Common.{◌≡◌, ℕ, ◌+◌, ◌-◌, ◌<◌, ◌≤◌, List, [], ◌++◌, length, map, Option, Some, None, ◌⊎◌, inl, inr, refl, sym, ◌∙◌, ap, subst, arith}
use Rattle.std.specs.List.{slice_get}
use Rattle.std.specs.Prelude.{unwrap_or}
use Rattle.std.proofs.lemmas.Bool.{cases_lt}
use Rattle.std.proofs.lemmas.List.{length-append}
use Rattle.std.proofs.lemmas.List.Sorted.{IsPermutation-sym}
use Rattle.bd_base.specs.declared.id.DevId.{DevId}
use Rattle.bd_disks.specs.Rows.{places}
use Rattle.bd_disks.specs.Shelf.{places_of, AreAllThere}
use Rattle.bd_outside.specs.Disk.{DiskState}
use Rattle.bd_outside.specs.declared.opening.Opening.{Opening}
use Rattle.bd_disk_pool.specs.Closing.{closing_all, name_in}
use Rattle.bd_disk_pool.specs.Covering.{begun_row, AreOpen, Begun, HasAdded, IsAtHome, IsClosed, IsIn, IsOneOf}
use Rattle.bd_disk_pool.specs.Held.{Held}
use Rattle.bd_disk_pool.proofs.EachClosed.{all_closed, Covers, IsRight, IsToClose, KeepsFirst}
use Rattle.bd_disk_pool.proofs.Lists.{at_first, at_in, at_second, begins, flat, in_at, in_flat, in_map, in_permutation, of_flat, of_map, some_same}
use Rattle.bd_disk_pool.proofs.Opens.{at_end, counted}

module _ {D : Type 0} (state : D → DiskState) where
  -- a disk of the same device at the same place of its host, among those of some thread
  record Same (row : DevId × D) (threads : List (List (DevId × D))) : Type 0 where
    pub own : List (DevId × D)
    pub r : DevId × D
    pub thread : IsIn own threads
    pub among : IsIn r own
    pub device : r.0 ≡ row.0
    pub place : (state r.1).place ≡ (state row.1).place

  abbrev placed : DevId × D → DevId × Option ℕ
  placed row = (row.0, (state row.1).place)

  still_there : (a b : List (List (DevId × D))) → AreAllThere state a b → (own : List (DevId × D)) (row : DevId × D) → IsIn own a → IsIn row own → Same row b
  still_there a b there own row thread among =
      let other = of_map (places state) (places state own) b (in_permutation (places state own) (places_of state a) (places_of state b) there (in_map (places state) own a thread)) in
      let found = of_map placed (placed row) other.0 (subst (IsIn (placed row)) (sym other.2) (in_map placed row own among)) in
      record {
        own = other.0;
        r = found.0;
        thread = other.1;
        among = found.1;
        device = ap (λ (p : DevId × Option ℕ). p.0) found.2;
        place = ap (λ (p : DevId × Option ℕ). p.1) found.2;
      }

-- these disks were opened, further rows are those of disks that were closed, and these threads have the disks now
module _ {D : Type 0} (state : D → DiskState) (n : ℕ) (held : Held D) (begun : List Begun) (old new now : List Opening) (after : List (List (DevId × D)))
    (o : AreOpen state n held begun old new) (more : HasAdded IsClosed new now) (there : AreAllThere state held.threads after) where
  abbrev Good : ℕ → Opening → Type 0
  Good p row = IsClosed p row

  all-rows : length new ≡ length old + length begun
  all-rows = counted old new begun o.rows

  now-rows : length now ≡ length new + length more.added
  now-rows = ap (λ (rs : List Opening). length rs) more.are ∙ length-append new more.added

  abbrev Rest : ℕ → Opening → Type 0
  Rest p row = Good p row ⊎ IsToClose state held.names (length old) Good p row (flat after)

  -- the row of a disk that was opened is open, and the disk is there
  opened : (p : ℕ) (row : Opening) → length old ≤ p → slice_get new p ≡ Some row → Rest p row
  opened p row low at = inr (closing, kept.r, in_disks, place, name)
    where
      k : ℕ
      k = p - length old

      is-p : p ≡ length old + k
      is-p = omega (arith, low)

      from : (b : Begun) × (slice_get begun k ≡ Some b) × (begun_row b ≡ row)
      from = at_end begun old new o.rows k row (subst (λ (m : ℕ). slice_get new m ≡ Some row) is-p at)

      home : IsAtHome state held.threads from.0
      home = o.all k from.0 from.1

      kept : Same state home.row after
      kept = still_there state held.threads after there home.own home.row (in_at home.own held.threads _ home.there) home.among

      in_disks : IsIn kept.r (flat after)
      in_disks = let t = at_in kept.own after kept.thread in in_flat kept.r after t.0 kept.own t.1 kept.among

      closing : row.closing ≡ None
      closing = sym (ap (λ (r : Opening). r.closing) from.2)

      place : (state kept.r.1).place ≡ Some p
      place = kept.place ∙ ap (λ (d : DiskState). d.place) home.same ∙ (o.each k from.0 from.1).placed ∙ ap Some (sym is-p)

      name : name_in held.names kept.r.0 ≡ row.name
      name =
          ap (name_in held.names) (kept.device ∙ home.device)
          ∙ ap (λ (found : Option (List ℕ)). unwrap_or found []) (o.each k from.0 from.1).named
          ∙ ap (λ (r : Opening). r.name) from.2

  rest : (p : ℕ) (row : Opening) → length old ≤ p → slice_get now p ≡ Some row → Rest p row
  rest p row low at = go (cases_lt p (length new))
    where
      now-at : slice_get (new ++ more.added) p ≡ Some row
      now-at = sym (ap (λ (rs : List Opening). slice_get rs p) more.are) ∙ at

      go : (p < length new) ⊎ (length new ≤ p) → Rest p row
      go (inl lt) = opened p row low (sym (at_first new more.added p lt) ∙ now-at)
      go (inr le) = inl (more.each (p - length new) row (sym (at_second new more.added (p - length new) p (omega (arith, le))) ∙ now-at))

  right : (r : DevId × D) → IsIn r (flat after) → IsRight state held.names (length old) Good now r
  right r h p row place at = (low, λ none. refl)
    where
      of : (t : ℕ) × (own : List (DevId × D)) × (slice_get after t ≡ Some own) × IsIn r own
      of = of_flat r after h

      was : Same state r held.threads
      was = still_there state after held.threads (IsPermutation-sym (places_of state held.threads) (places_of state after) there) of.1 r (in_at of.1 after of.0 of.2) of.3

      t : (i : ℕ) × (slice_get held.threads i ≡ Some was.own)
      t = at_in was.own held.threads was.thread

      is : IsOneOf state (length held.threads) t.0 begun was.r
      is = o.here t.0 was.own was.r t.1 was.among

      is-p : p ≡ length old + is.number
      is-p = some_same (sym place ∙ sym was.place ∙ ap (λ (d : DiskState). d.place) is.same ∙ (o.each is.number is.begins is.there).placed)

      low : length old ≤ p
      low = omega (arith, is-p)

  -- **each row since the old ones is closed then**
  pub all_are_closed : (final : List Opening) × (closing_all state held.names after (Some now) ≡ Some final) × HasAdded IsClosed old final
  all_are_closed = (end.0, end.1, record { added = split.0; are = split.1; each = each })
    where
      end : (final : List Opening) × (closing_all state held.names after (Some now) ≡ Some final) × KeepsFirst state held.names (length old) Good now final × Covers state held.names (length old) Good final []
      end = all_closed state held.names (length old) Good after now (record { rest = rest; right = right })

      as-before : (p : ℕ) → p < length old → slice_get end.0 p ≡ slice_get old p
      as-before p h =
          end.2.same p h
          ∙ ap (λ (rs : List Opening). slice_get rs p) more.are
          ∙ at_first new more.added p (omega (arith, h, all-rows))
          ∙ ap (λ (rs : List Opening). slice_get rs p) o.rows
          ∙ at_first old (map begun_row begun) p h

      split : (rows : List Opening) × (end.0 ≡ old ++ rows)
      split = begins old end.0 (omega (arith, end.2.len, all-rows, now-rows)) as-before

      each : (k : ℕ) (row : Opening) → slice_get split.0 k ≡ Some row → IsClosed k row
      each k row at = go (end.3.rest (length old + k) row (omega arith) (ap (λ (rs : List Opening). slice_get rs (length old + k)) split.1 ∙ at_second old split.0 k (length old + k) refl ∙ at))
        where
          go : Good (length old + k) row ⊎ IsToClose state held.names (length old) Good (length old + k) row [] → IsClosed k row
          go (inl good) = good
          go (inr left) = absurd left.2
