-- Marks below a request, and the abort that one causes.
use Rattle.std.proofs.Common.{◌≡◌, ℕ, Bool, true, false, cond, ◌||◌, List, [], ◌∷◌, find, Option, Some, None, is_some, is_none, option_map, refl, sym, ◌∙◌, ap, subst, eq-eqb, eqb-true}
use Rattle.std.specs.List.{list_any}
use Rattle.std.proofs.lemmas.Bool.{and_from, and_parts}
use Rattle.bd_base.specs.declared.id.DevId.{DevId}
use Rattle.bd_base.specs.declared.id.ReqId.{ReqId}
use Rattle.bd_base.specs.declared.request.AbortCause.{AbortCause}
use Rattle.bd_base.specs.declared.request.AbortCause.TheVariants.{Frozen, Removed, Named}
use Rattle.bd_base.specs.declared.setup.Setup.{Setup}
use Rattle.bd_machine.specs.declared.state.OpenRequest.{OpenRequest}
use Rattle.bd_machine.specs.Aborts.{is_below, is_cause, may_abort}
use Rattle.bd_machine.specs.BlockMap.{below}
use Rattle.bd_machine.specs.Marks.{freezes_here, is_marked, is_removed, stops_here}
use Rattle.bd_machine.specs.Same.{same_dev}
use Rattle.bd_machine.specs.Users.{dev_of}
use Rattle.bd_machine.specs.View.{View}
use Rattle.bd_flight.specs.Due.{abort_due, cause_at, mark_below, may_stop, where_holds}
use Rattle.bd_flight.specs.Next.{is_mark}

-- ---- lists

-- what is found stands in the list and passes the test
pub record IsIn (is : DevId → Bool) (xs : List DevId) (d : DevId) : Type 0 where
  pub stands : list_any (same_dev d) xs ≡ true
  pub passes : is d ≡ true

pub none_found : (is : DevId → Bool) (xs : List DevId) → list_any is xs ≡ false → find is xs ≡ None
none_found is [] h = refl
none_found is (x ∷ xs) h = by_first (is x) h (none_found is xs)
  where
    by_first : (b : Bool) → (b || list_any is xs) ≡ false → (list_any is xs ≡ false → find is xs ≡ None) → cond b (Some x) (find is xs) ≡ None
    by_first true h rest = cc
    by_first false h rest = rest h

pub same_one : (d x : DevId) → same_dev d x ≡ true → d ≡ x
same_one d x h = ap dev_of (eqb-true d.0 x.0 h)

stands_here : (d : DevId) (xs : List DevId) → list_any (same_dev d) (d ∷ xs) ≡ true
stands_here d xs = ap (λ (b : Bool). b || list_any (same_dev d) xs) (eq-eqb d.0 d.0 refl)

stands_later : (b : Bool) (rest : Bool) → rest ≡ true → (b || rest) ≡ true
stands_later true rest h = refl
stands_later false rest h = h

pub one_of : {X : Type 0} (x y : X) → Some x ≡ Some y → x ≡ y
one_of x y h = cc

-- what is found is in the list
pub found_is_in : (is : DevId → Bool) (xs : List DevId) (d : DevId) → find is xs ≡ Some d → IsIn is xs d
found_is_in is [] d h = cc
found_is_in is (x ∷ xs) d h = by_first (is x) refl (found_is_in is xs d) h
  where
    by_first : (b : Bool) → is x ≡ b → (find is xs ≡ Some d → IsIn is xs d) → cond b (Some x) (find is xs) ≡ Some d → IsIn is (x ∷ xs) d
    by_first true e rest found = subst (IsIn is (x ∷ xs)) (one_of x d found) (record { stands = stands_here x xs; passes = e })
    by_first false e rest found = let i = rest found in record { stands = stands_later (same_dev d x) _ i.stands; passes = i.passes }

-- where one of the list passes the test, one is found
pub is_found : (is : DevId → Bool) (xs : List DevId) (d : DevId) → list_any (same_dev d) xs ≡ true → is d ≡ true → is_some (find is xs) ≡ true
is_found is [] d stands passes = cc
is_found is (x ∷ xs) d stands passes = by_first (is x) (same_dev d x) refl refl stands (λ h. is_found is xs d h passes)
  where
    by_first : (b same : Bool) → is x ≡ b → same_dev d x ≡ same → (same || list_any (same_dev d) xs) ≡ true → (list_any (same_dev d) xs ≡ true → is_some (find is xs) ≡ true) → is_some (cond b (Some x) (find is xs)) ≡ true
    by_first true same e s h rest = refl
    by_first false true e s h rest = let f : false ≡ true = sym e ∙ ap is (sym (same_one d x s)) ∙ passes in cc
    by_first false false e s h rest = rest h

-- ---- an abort by a mark

pub held_where : {X : Type 0} (is : X → Bool) (o : Option X) (x : X) → where_holds is o ≡ Some x → (o ≡ Some x) × (is x ≡ true)
held_where is None x h = cc
held_where is (Some y) x h = by_test (is y) refl h
  where
    by_test : (b : Bool) → is y ≡ b → cond b (Some y) None ≡ Some x → (Some y ≡ Some x) × (is x ≡ true)
    by_test true e found = (found, sym (ap is (one_of y x found)) ∙ e)
    by_test false e found = cc

module _ (setup : Setup) (t : ℕ) (v : View) (req : ReqId) (r : OpenRequest) where
  cause_is_mark : (d : DevId) → is_mark (cause_at v.part d) ≡ true
  cause_is_mark d = by_removal (is_removed v.part d)
    where
      by_removal : (b : Bool) → is_mark (cond b (Removed d) (Frozen d)) ≡ true
      by_removal true = refl
      by_removal false = refl

  mark_is_mark : (c : AbortCause) → mark_below setup v.part r ≡ Some c → is_mark c ≡ true
  mark_is_mark c h = by_found (find (stops_here v.part r.late) (below setup r.dev)) h
    where
      by_found : (o : Option DevId) → option_map (cause_at v.part) o ≡ Some c → is_mark c ≡ true
      by_found None found = cc
      by_found (Some d) found = subst (λ (x : AbortCause). is_mark x ≡ true) (one_of (cause_at v.part d) c found) (cause_is_mark d)

  -- the abort that is due is by a mark, before the cut, and the rules let it be
  pub record IsStop (c : AbortCause) : Type 0 where
    pub mark : is_mark c ≡ true
    pub uncut : is_none r.pieces ≡ true
    pub may : may_stop setup t v req (Some r) c ≡ true

  pub due_is_stop : (c : AbortCause) → abort_due setup t v req r ≡ Some c → IsStop c
  due_is_stop c h = by_cut (is_none r.pieces) refl h
    where
      by_cut : (b : Bool) → is_none r.pieces ≡ b → cond b (where_holds (may_stop setup t v req (Some r)) (mark_below setup v.part r)) None ≡ Some c → IsStop c
      by_cut true e found = let w = held_where (may_stop setup t v req (Some r)) _ c found in record { mark = mark_is_mark c w.0; uncut = e; may = w.1 }
      by_cut false e found = cc

  -- where a mark of a device below stops the request and the rules let the request be aborted, an abort is due before the cut
  marked_stop : (d : DevId) → is_none r.pieces ≡ true → may_abort v req (Some r) ≡ true → is_below setup r.dev d ≡ true → stops_here v.part r.late d ≡ true → is_some (abort_due setup t v req r) ≡ true
  marked_stop d uncut may stands marked = by_found (find (stops_here v.part r.late) (below setup r.dev)) refl
    where
      cause_holds : (x : DevId) (b : Bool) → is_removed v.part x ≡ b → IsIn (stops_here v.part r.late) (below setup r.dev) x → is_cause setup t v req r (cond b (Removed x) (Frozen x)) ≡ true
      cause_holds x true e i = and_from (is_below setup r.dev x) (is_removed v.part x) i.stands e
      cause_holds x false e i =
          and_from (is_below setup r.dev x) (freezes_here v.part r.late x) i.stands (sym (ap (λ (b : Bool). b || freezes_here v.part r.late x) e) ∙ i.passes)

      due : (x : DevId) → find (stops_here v.part r.late) (below setup r.dev) ≡ Some x → abort_due setup t v req r ≡ Some (cause_at v.part x)
      due x e =
          let may_be : may_stop setup t v req (Some r) (cause_at v.part x) ≡ true = and_from (may_abort v req (Some r)) _ may (cause_holds x (is_removed v.part x) refl (found_is_in _ _ x e)) in
          ap (λ (b : Bool). cond b (where_holds (may_stop setup t v req (Some r)) (mark_below setup v.part r)) None) uncut
          ∙ ap (λ (o : Option DevId). where_holds (may_stop setup t v req (Some r)) (option_map (cause_at v.part) o)) e
          ∙ ap (λ (b : Bool). cond b (Some (cause_at v.part x)) None) may_be

      by_found : (o : Option DevId) → find (stops_here v.part r.late) (below setup r.dev) ≡ o → is_some (abort_due setup t v req r) ≡ true
      by_found None e = let f : false ≡ true = sym (ap (λ (o : Option DevId). is_some o) e) ∙ is_found (stops_here v.part r.late) (below setup r.dev) d stands marked in cc
      by_found (Some x) e = ap (λ (o : Option AbortCause). is_some o) (due x e)

  pub stop_is_due : (c : AbortCause) → IsStop c → is_some (abort_due setup t v req r) ≡ true
  stop_is_due (Frozen d) s =
      let m = and_parts (may_abort v req (Some r)) _ s.may in
      let w = and_parts (is_below setup r.dev d) (freezes_here v.part r.late d) m.1 in
      marked_stop d s.uncut m.0 w.0 (stands_later (is_removed v.part d) (freezes_here v.part r.late d) w.1)
  stop_is_due (Removed d) s =
      let m = and_parts (may_abort v req (Some r)) _ s.may in
      let w = and_parts (is_below setup r.dev d) (is_removed v.part d) m.1 in
      marked_stop d s.uncut m.0 w.0 (ap (λ (b : Bool). b || freezes_here v.part r.late d) w.1)
  stop_is_due (Named by) s = let f : false ≡ true = s.mark in cc

  -- where no mark of a device below stops it, no abort is due
  pub unmarked : is_marked setup v.part r ≡ false → abort_due setup t v req r ≡ None
  unmarked h = by_cut (is_none r.pieces)
    where
      by_cut : (b : Bool) → cond b (where_holds (may_stop setup t v req (Some r)) (mark_below setup v.part r)) None ≡ None
      by_cut true = ap (λ (o : Option DevId). where_holds (may_stop setup t v req (Some r)) (option_map (cause_at v.part) o)) (none_found (stops_here v.part r.late) (below setup r.dev) h)
      by_cut false = refl
