-- What a table of counts has after an entry was added, and after one was written.
use Rattle.std.proofs.Common.{◌≡◌, ◌≢◌, ℕ, ◌<◌, Bool, true, false, cond, ◌&&◌, ◌⊎◌, inl, inr, List, [], ◌∷◌, ◌++◌, length, Option, Some, None, is_some, refl, sym, ◌∙◌, ap, ap₂, eqb-true}
use Rattle.std.specs.Option.{option_flatten}
use Rattle.std.proofs.lemmas.Bool.{cases_eq, and_parts}
use Rattle.bd_base.specs.declared.id.DevId.{DevId}
use Rattle.bd_machine.specs.declared.state.Channel.{Channel}
use Rattle.bd_machine.specs.Same.{same_dev, same_channel}
use Rattle.bd_machine.specs.Table.{look_up, write}
use Rattle.bd_machine.proofs.Tables.{look_up-write, channel_same, dev_exact}
use Rattle.bd_rule_channels.specs.ByDevice.{place_of, row_at, with_row}
use Rattle.bd_rule_channels.specs.Counts.{Table, channel_of, count_in, has_place}
use Rattle.bd_rule_channels.proofs.Rows.{row_same, row_other, row_where_same}

-- an entry without a count behind the others changes no count
added_none : (es : List (Channel × Option ℕ)) (k j : Channel) → option_flatten (look_up same_channel (es ++ (k, None) ∷ []) j) ≡ option_flatten (look_up same_channel es j)
added_none [] k j = go (same_channel k j)
  where
    go : (b : Bool) → option_flatten (cond b (let o : Option (Option ℕ) = Some None in o) None) ≡ None
    go true = refl
    go false = refl
added_none (e ∷ es) k j = ap (λ o. option_flatten (cond (same_channel e.0 j) (Some e.1) o)) refl ∙ go (same_channel e.0 j) (added_none es k j)
  where
    go : (b : Bool) → option_flatten (look_up same_channel (es ++ (k, None) ∷ []) j) ≡ option_flatten (look_up same_channel es j)
        → option_flatten (cond b (Some e.1) (look_up same_channel (es ++ (k, None) ∷ []) j)) ≡ option_flatten (cond b (Some e.1) (look_up same_channel es j))
    go true ih = refl
    go false ih = ih

added_has : (es : List (Channel × Option ℕ)) (k : Channel) (v : Option ℕ) → is_some (look_up same_channel (es ++ (k, v) ∷ []) k) ≡ true
added_has [] k v = ap (λ b. is_some (cond b (Some v) None)) (channel_same.same_self k)
added_has (e ∷ es) k v = go (same_channel e.0 k) (added_has es k v)
  where
    go : (b : Bool) → is_some (look_up same_channel (es ++ (k, v) ∷ []) k) ≡ true → is_some (cond b (Some e.1) (look_up same_channel (es ++ (k, v) ∷ []) k)) ≡ true
    go true ih = refl
    go false ih = ih

added_stays : (es : List (Channel × Option ℕ)) (k j : Channel) (v : Option ℕ) → is_some (look_up same_channel es j) ≡ true → is_some (look_up same_channel (es ++ (k, v) ∷ []) j) ≡ true
added_stays [] k j v h = cc
added_stays (e ∷ es) k j v h = go (same_channel e.0 j) (added_stays es k j v) h
  where
    go : (b : Bool) → (is_some (look_up same_channel es j) ≡ true → is_some (look_up same_channel (es ++ (k, v) ∷ []) j) ≡ true)
        → is_some (cond b (Some e.1) (look_up same_channel es j)) ≡ true → is_some (cond b (Some e.1) (look_up same_channel (es ++ (k, v) ∷ []) j)) ≡ true
    go true ih h = refl
    go false ih h = ih h

module _ (table : Table) (dev : DevId) (t : ℕ) (room : 0 < length table) where
  abbrev place : DevId → ℕ
  place d = place_of (length table) d

  abbrev k : Channel
  k = channel_of dev t

  -- ---- an entry was added

  abbrev added : Table
  added = with_row table dev (row_at table dev ++ (k, None) ∷ [])

  pub added_same : (u : ℕ) (d : DevId) → count_in added u d ≡ count_in table u d
  added_same u d = go (cases_eq (place dev) (place d))
    where
      go : (place dev ≡ place d) ⊎ (place dev ≢ place d) → count_in added u d ≡ count_in table u d
      go (inl e) =
          ap (λ (es : List (Channel × Option ℕ)). option_flatten (look_up same_channel es (channel_of d u))) (row_same table dev d (row_at table dev ++ (k, None) ∷ []) room e)
          ∙ added_none (row_at table dev) k (channel_of d u)
          ∙ ap (λ (es : List (Channel × Option ℕ)). option_flatten (look_up same_channel es (channel_of d u))) (row_where_same table dev d [] e)
      go (inr ne) = ap (λ (es : List (Channel × Option ℕ)). option_flatten (look_up same_channel es (channel_of d u))) (row_other table dev d (row_at table dev ++ (k, None) ∷ []) (λ e. ne (sym e)))

  pub added_place : has_place added t dev ≡ true
  added_place =
      ap (λ (es : List (Channel × Option ℕ)). is_some (look_up same_channel es k)) (row_same table dev dev (row_at table dev ++ (k, None) ∷ []) room refl)
      ∙ added_has (row_at table dev) k None

  pub added_places : (u : ℕ) (d : DevId) → has_place table u d ≡ true → has_place added u d ≡ true
  added_places u d h = go (cases_eq (place dev) (place d))
    where
      go : (place dev ≡ place d) ⊎ (place dev ≢ place d) → has_place added u d ≡ true
      go (inl e) =
          ap (λ (es : List (Channel × Option ℕ)). is_some (look_up same_channel es (channel_of d u))) (row_same table dev d (row_at table dev ++ (k, None) ∷ []) room e)
          ∙ added_stays (row_at table dev) k (channel_of d u) None (ap (λ (es : List (Channel × Option ℕ)). is_some (look_up same_channel es (channel_of d u))) (row_where_same table dev d [] e) ∙ h)
      go (inr ne) = ap (λ (es : List (Channel × Option ℕ)). is_some (look_up same_channel es (channel_of d u))) (row_other table dev d (row_at table dev ++ (k, None) ∷ []) (λ e. ne (sym e))) ∙ h

  -- ---- an entry was written

  module _ (count : Option ℕ) where
    abbrev written : Table
    written = with_row table dev (write same_channel (row_at table dev) k count)

    flat : (b : Bool) (o : Option (Option ℕ)) → option_flatten (cond b (Some count) o) ≡ cond b count (option_flatten o)
    flat true o = refl
    flat false o = refl

    has : (b : Bool) (o : Option (Option ℕ)) → is_some o ≡ true → is_some (cond b (Some count) o) ≡ true
    has true o h = refl
    has false o h = h

    elsewhere : (u : ℕ) (d : DevId) → (place dev ≢ place d) → same_channel k (channel_of d u) ≡ false
    elsewhere u d ne = go (same_channel k (channel_of d u)) refl
      where
        go : (b : Bool) → same_channel k (channel_of d u) ≡ b → b ≡ false
        go true e = absurd (ne (ap place (ap (λ (c : Channel). c.dev) (channel_same.exact k (channel_of d u) e))))
        go false e = refl

    pub written_counts : (u : ℕ) (d : DevId) → count_in written u d ≡ cond (same_channel k (channel_of d u)) count (count_in table u d)
    written_counts u d = go (cases_eq (place dev) (place d))
      where
        go : (place dev ≡ place d) ⊎ (place dev ≢ place d) → count_in written u d ≡ cond (same_channel k (channel_of d u)) count (count_in table u d)
        go (inl e) =
            ap (λ (es : List (Channel × Option ℕ)). option_flatten (look_up same_channel es (channel_of d u))) (row_same table dev d (write same_channel (row_at table dev) k count) room e)
            ∙ ap option_flatten (look_up-write same_channel channel_same (row_at table dev) k (channel_of d u) count)
            ∙ flat (same_channel k (channel_of d u)) (look_up same_channel (row_at table dev) (channel_of d u))
            ∙ ap (λ (es : List (Channel × Option ℕ)). cond (same_channel k (channel_of d u)) count (option_flatten (look_up same_channel es (channel_of d u)))) (row_where_same table dev d [] e)
        go (inr ne) =
            ap (λ (es : List (Channel × Option ℕ)). option_flatten (look_up same_channel es (channel_of d u))) (row_other table dev d (write same_channel (row_at table dev) k count) (λ e. ne (sym e)))
            ∙ sym (ap (λ b. cond b count (count_in table u d)) (elsewhere u d ne))

    pub written_places : (u : ℕ) (d : DevId) → has_place table u d ≡ true → has_place written u d ≡ true
    written_places u d h = go (cases_eq (place dev) (place d))
      where
        go : (place dev ≡ place d) ⊎ (place dev ≢ place d) → has_place written u d ≡ true
        go (inl e) =
            ap (λ (es : List (Channel × Option ℕ)). is_some (look_up same_channel es (channel_of d u))) (row_same table dev d (write same_channel (row_at table dev) k count) room e)
            ∙ ap is_some (look_up-write same_channel channel_same (row_at table dev) k (channel_of d u) count)
            ∙ has (same_channel k (channel_of d u)) (look_up same_channel (row_at table dev) (channel_of d u)) (ap (λ (es : List (Channel × Option ℕ)). is_some (look_up same_channel es (channel_of d u))) (row_where_same table dev d [] e) ∙ h)
        go (inr ne) = ap (λ (es : List (Channel × Option ℕ)). is_some (look_up same_channel es (channel_of d u))) (row_other table dev d (write same_channel (row_at table dev) k count) (λ e. ne (sym e))) ∙ h
