-- Those that may rest while they are held, as holds begin and end.
use Rattle.std.proofs.Common.{◌≡◌, ℕ, Bool, true, false, ◌||◌, nat_le, List, [], ◌∷◌, refl, sym, ◌∙◌, ap, ap₂, subst}
use Rattle.std.specs.BTreeMap.{is_at}
use Rattle.std.specs.Ordering.{is_eq}
use Rattle.bd_base.specs.declared.id.ReqId.{ReqId}
use Rattle.bd_held.specs.Holds.{has_due, has_hold, key_cmp, key_of, with_hold, HoldKey}
use Rattle.bd_held.proofs.Keys.{same_moment, same_number, same_thread, still_has}
use Rattle.bd_machine.specs.declared.state.Hold.{Hold}
use Rattle.bd_machine.specs.declared.state.Hold.TheVariants as holds
use Rattle.bd_touched.specs.Reach.{holds_on, is_touched, Covers, KeepsHolds, Touches}

first_of : (a b : Bool) → a ≡ true → a || b ≡ true
first_of true b h = refl
first_of false b h = cc

second_of : (a b : Bool) → b ≡ true → a || b ≡ true
second_of true b h = refl
second_of false b h = h

-- the holds stay
pub same_holds : (old new : Touches) → new.holds ≡ old.holds → KeepsHolds old new
same_holds old new same = λ req hold on. second_of (is_touched new req) (holds_on new.holds req hold) (ap (λ (keys : List HoldKey). holds_on keys req hold) same ∙ on)

-- one after another
pub keeps_then : (a b c : Touches) → KeepsHolds a b → Covers b c → KeepsHolds b c → KeepsHolds a c
keeps_then a b c first covers second = λ req hold on. go req hold (is_touched b req) refl (first req hold on)
  where
    go : (req : ReqId) (hold : Hold) (t : Bool) → is_touched b req ≡ t → t || holds_on b.holds req hold ≡ true → is_touched c req || holds_on c.holds req hold ≡ true
    go req hold true e k = first_of (is_touched c req) (holds_on c.holds req hold) (covers req e)
    go req hold false e k = second req hold k

-- a hold begins
pub begun_keeps : (old new : Touches) (req : ReqId) (until : ℕ) → new.holds ≡ with_hold old.holds req until → KeepsHolds old new
begun_keeps old new req until is = λ of hold on. second_of (is_touched new of) (holds_on new.holds of hold) (ap (λ (keys : List HoldKey). holds_on keys of hold) is ∙ go of hold on)
  where
    go : (of : ReqId) (hold : Hold) → holds_on old.holds of hold ≡ true → holds_on (with_hold old.holds req until) of hold ≡ true
    go of holds.Before on = refl
    go of (holds.Until moment marked) on = still_has (is_at (key_cmp (key_of of moment))) old.holds (key_of req until) on
    go of holds.Over on = refl

-- the request of a key
same_id : (a b : ReqId) (m n : ℕ) → is_eq (key_cmp (key_of a m) (key_of b n)) ≡ true → b ≡ a
same_id a b m n h =
    let thread : a.thread ≡ b.thread = same_thread (key_of a m) (key_of b n) h in
    let number : a.seq ≡ b.seq = same_number (key_of a m) (key_of b n) h in
    ap₂ (λ (t s : ℕ). let r : ReqId = record { thread = t; seq = s } in r) (sym thread) (sym number)

-- the first hold ends, and its request is to be looked at
pub ended_keeps : (old new : Touches) (req : ReqId) (until : ℕ) → old.holds ≡ key_of req until ∷ new.holds → is_touched new req ≡ true → KeepsHolds old new
ended_keeps old new req until is named = λ of hold on. go of hold (ap (λ (keys : List HoldKey). holds_on keys of hold) (sym is) ∙ on)
  where
    by_key : (of : ReqId) (moment : ℕ) (b : Bool) → is_eq (key_cmp (key_of of moment) (key_of req until)) ≡ b → b || has_hold new.holds of moment ≡ true → is_touched new of || has_hold new.holds of moment ≡ true
    by_key of moment true e k = first_of (is_touched new of) (has_hold new.holds of moment) (subst (λ (r : ReqId). is_touched new r ≡ true) (same_id of req moment until e) named)
    by_key of moment false e k = second_of (is_touched new of) (has_hold new.holds of moment) k

    go : (of : ReqId) (hold : Hold) → holds_on (key_of req until ∷ new.holds) of hold ≡ true → is_touched new of || holds_on new.holds of hold ≡ true
    go of holds.Before on = second_of (is_touched new of) true refl
    go of (holds.Until moment marked) on = by_key of moment (is_eq (key_cmp (key_of of moment) (key_of req until))) refl on
    go of holds.Over on = second_of (is_touched new of) true refl

-- ---- moments

-- where no hold has ended, the one of a request hasn't
pub not_yet : (now : ℕ) (keys : List HoldKey) (req : ReqId) (moment : ℕ) → has_due now keys ≡ false → has_hold keys req moment ≡ true → nat_le moment now ≡ false
not_yet now [] req moment early has = cc
not_yet now (k ∷ ks) req moment early has = go (nat_le k.0 now) (is_eq (key_cmp (key_of req moment) k)) refl refl early has (not_yet now ks req moment)
  where
    go : (a b : Bool) → nat_le k.0 now ≡ a → is_eq (key_cmp (key_of req moment) k) ≡ b → a || has_due now ks ≡ false → b || has_hold ks req moment ≡ true
        → (has_due now ks ≡ false → has_hold ks req moment ≡ true → nat_le moment now ≡ false) → nat_le moment now ≡ false
    go true b p q e h rest = cc
    go false true p q e h rest = ap (λ (m : ℕ). nat_le m now) (same_moment (key_of req moment) k q) ∙ p
    go false false p q e h rest = rest e h
