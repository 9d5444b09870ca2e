-- Each token has one place in the list of tokens, so that what look_up shows of them all says what the list has.
use Rattle.std.proofs.Common.{◌≡◌, ℕ, Bool, true, false, cond, ◌&&◌, ◌||◌, List, [], ◌∷◌, Option, Some, None, refl, sym, ◌∙◌, ap, subst}
use Rattle.std.specs.List.{list_any, list_all}
use Rattle.bd_base.specs.declared.act.Entry.{Entry}
use Rattle.bd_base.specs.declared.setup.Setup.{Setup}
use Rattle.bd_machine.specs.declared.state.Id.{Id}
use Rattle.bd_machine.specs.declared.state.State.{State}
use Rattle.bd_machine.specs.declared.state.Tracked.{Tracked}
use Rattle.bd_machine.specs.Same.{same_id}
use Rattle.bd_machine.specs.Step.{moved, place_after, change_in, after}
use Rattle.bd_machine.specs.Table.{look_up, write}
use Rattle.bd_machine.specs.View.{Move}
use Rattle.bd_machine.proofs.Tables.{look_up-write, id_same}
use Rattle.bd_turns.specs.Tied.{IsKeyed}

true_not_false : true ≡ false → ⊥
true_not_false e = cc

write_keyed : (ts : List (Id × Tracked)) (k : Id) (v : Tracked) → IsKeyed ts → IsKeyed (write same_id ts k v)
write_keyed [] k v h = (refl, tt)
write_keyed (x ∷ xs) k v h = go (same_id x.0 k) refl (write_keyed xs k v h.1)
  where
    other : same_id x.0 k ≡ false → (b : Bool) → same_id k x.0 ≡ b → cond b (Some v) (look_up same_id xs x.0) ≡ None
    other e true q =
        let hit : same_id x.0 k ≡ true = subst (λ (i : Id). same_id x.0 i ≡ true) (sym (id_same.exact k x.0 q)) (id_same.same_self x.0) in
        absurd (true_not_false (sym hit ∙ e))
    other e false q = h.0

    go : (b : Bool) → same_id x.0 k ≡ b → IsKeyed (write same_id xs k v) → IsKeyed (cond b ((x.0, v) ∷ xs) (x ∷ write same_id xs k v))
    go true e ih = h
    go false e ih = (look_up-write same_id id_same xs k x.0 v ∙ other e (same_id k x.0) refl, ih)

moved_keyed : (t : ℕ) (ms : List Move) (ts : List (Id × Tracked)) → IsKeyed ts → IsKeyed (moved t ms ts)
moved_keyed t [] ts h = h
moved_keyed t (m ∷ ms) ts h = moved_keyed t ms (moved t (m ∷ []) ts) (write_keyed ts m.id (record { place = place_after t m.going; kept = m.kept }) h)

pub after_keyed : (setup : Setup) (s : State) (e : Entry) → IsKeyed s.tokens → IsKeyed (after setup s e).tokens
unfolding after
after_keyed setup s e h = moved_keyed e.thread (change_in setup s e.thread e.act).moves s.tokens h

-- a test of an id and its token, where there is one
abbrev pub if_token : Bool → (Id → Tracked → Bool) → Id → Option Tracked → Bool
if_token other is id None = other
if_token other is id (Some token) = is id token

later : (other : Bool) (is : Id → Tracked → Bool) (x : Id × Tracked) (xs : List (Id × Tracked)) → look_up same_id xs x.0 ≡ None → ((id : Id) → if_token other is id (look_up same_id (x ∷ xs) id) ≡ other) → (id : Id) → if_token other is id (look_up same_id xs id) ≡ other
later other is x xs fresh h id = go (same_id x.0 id) refl
  where
    go : (b : Bool) → same_id x.0 id ≡ b → if_token other is id (look_up same_id xs id) ≡ other
    go true e = ap (if_token other is id) (subst (λ (i : Id). look_up same_id xs i ≡ None) (id_same.exact x.0 id e) fresh)
    go false e = ap (λ b. if_token other is id (cond b (Some x.1) (look_up same_id xs id))) (sym e) ∙ h id

at_head : (other : Bool) (is : Id → Tracked → Bool) (x : Id × Tracked) (xs : List (Id × Tracked)) → ((id : Id) → if_token other is id (look_up same_id (x ∷ xs) id) ≡ other) → is x.0 x.1 ≡ other
at_head other is x xs h = sym (ap (λ b. if_token other is x.0 (cond b (Some x.1) (look_up same_id xs x.0))) (id_same.same_self x.0)) ∙ h x.0

-- where a test fails of each id's token, it fails of the whole list
pub none_such : (is : Id → Tracked → Bool) (ts : List (Id × Tracked)) → IsKeyed ts → ((id : Id) → if_token false is id (look_up same_id ts id) ≡ false) → list_any (λ x. is x.0 x.1) ts ≡ false
none_such is [] keyed h = refl
none_such is (x ∷ xs) keyed h = ap (λ b. b || list_any (λ y. is y.0 y.1) xs) (at_head false is x xs h) ∙ none_such is xs keyed.1 (later false is x xs keyed.0 h)

-- and where it holds of each, it holds of the whole list
pub all_such : (is : Id → Tracked → Bool) (ts : List (Id × Tracked)) → IsKeyed ts → ((id : Id) → if_token true is id (look_up same_id ts id) ≡ true) → list_all (λ x. is x.0 x.1) ts ≡ true
all_such is [] keyed h = refl
all_such is (x ∷ xs) keyed h = ap (λ b. b && list_all (λ y. is y.0 y.1) xs) (at_head true is x xs h) ∙ all_such is xs keyed.1 (later true is x xs keyed.0 h)
