-- How a request completes, and what is here after it.
use Rattle.std.proofs.Common.{◌≡◌, ℕ, suc, zero, ◌+◌, Bool, true, false, cond, not, ◌&&◌, nat_eq, nat_le, List, [], ◌∷◌, length, map, find, take, Option, Some, None, is_none, is_some, option_map, unwrap_or, refl, sym, ◌∙◌, ap, subst, eq-eqb}
use Rattle.std.specs.List.{list_all, range_with_len}
use Rattle.std.specs.Cmp.Lexicographic.{pointwise}
use Rattle.std.proofs.lemmas.Bool.{and_from, and_parts}
use Rattle.sha2.specs.Sha256.{sha256}
use Rattle.bd_base.specs.declared.id.ReqId.{ReqId}
use Rattle.bd_base.specs.declared.request.Shown.{Shown}
use Rattle.bd_base.specs.declared.request.Status.{Status}
use Rattle.bd_base.specs.declared.request.Status.TheVariants.{Success, Failed, Aborted}
use Rattle.bd_base.specs.declared.setup.Setup.{Setup}
use Rattle.bd_machine.specs.declared.state.Id.{Id}
use Rattle.bd_machine.specs.declared.state.Id.TheVariants as ids
use Rattle.bd_machine.specs.declared.state.Kept.{Kept}
use Rattle.bd_machine.specs.declared.state.OpenPiece.{OpenPiece}
use Rattle.bd_machine.specs.declared.state.OpenRequest.{OpenRequest}
use Rattle.bd_machine.specs.Alone.{held_after}
use Rattle.bd_machine.specs.Completion.{is_back, is_shown, is_success, may_show, pieces_of}
use Rattle.bd_machine.specs.Effect.{is_read}
use Rattle.bd_machine.specs.Kept.{is_at_own, pieces_here, request_here}
use Rattle.bd_machine.specs.Requests.{is_walking, may_complete, pieces_closed}
use Rattle.bd_machine.specs.Same.{same_id}
use Rattle.bd_machine.specs.Statuses.{may_be_status}
use Rattle.bd_machine.specs.View.{View}
use Rattle.bd_machine.specs.Walks.{reset_of}
use Rattle.bd_tokens.specs.Tokens.{here_in, Sets}
use Rattle.bd_flight.specs.Due.{end_due, may_end}
use Rattle.bd_steps.specs.declared.completion.Ending.{Ending}
use Rattle.bd_steps.specs.declared.completion.Showing.{Showing}
use Rattle.bd_steps.specs.declared.completion.Showing.TheVariants.{Nothing, Data, Untold}
use Rattle.bd_steps.specs.Completions.{data_read, ending_in, ending_of, ends_as, gone, read_as, shown_by, showing_of, Shows}

-- ---- what it shows

list_self : (xs : List ℕ) → pointwise nat_eq xs xs ≡ true
list_self [] = refl
list_self (x ∷ xs) = and_from (nat_eq x x) (pointwise nat_eq xs xs) (eq-eqb x x refl) (list_self xs)

some_is : {X : Type 0} (b : Bool) (x y : X) → cond b (Some x) None ≡ Some y → x ≡ y
some_is true x y h = cc
some_is false x y h = cc

shows_data : (bytes : List ℕ) (shown : Shown) → shown_by bytes ≡ Some shown → is_shown (Some bytes) (Some shown) ≡ true
shows_data bytes shown h =
    let full : Shown = record { first = take 8 bytes; digest = sha256 bytes } in
    subst (λ (s : Shown). is_shown (Some bytes) (Some s) ≡ true) (some_is (nat_le 8 (length bytes)) full shown h)
    (and_from (pointwise nat_eq (take 8 bytes) (take 8 bytes)) (pointwise nat_eq (sha256 bytes) (sha256 bytes)) (list_self (take 8 bytes)) (list_self (sha256 bytes)))

some_of : {X : Type 0} (x y : X) → Some x ≡ Some y → x ≡ y
some_of x y h = cc

-- what is shown so is the data
shows_all : (o : Option (List ℕ)) (showing : Showing) (shown : Option Shown) → showing_of o ≡ Some showing → Shows showing shown → is_shown o shown ≡ true
shows_all None showing shown h shows = untold shown (subst (λ (s : Showing). Shows s shown) (sym (some_of Untold showing h)) shows)
  where
    untold : (shown : Option Shown) → is_some shown ≡ true → is_shown None shown ≡ true
    untold None e = cc
    untold (Some s) e = refl
shows_all (Some bytes) showing shown h shows = go (shown_by bytes) refl h
  where
    go : (o : Option Shown) → shown_by bytes ≡ o → option_map Data o ≡ Some showing → is_shown (Some bytes) shown ≡ true
    go None e h = cc
    go (Some due) e h =
        let is : shown ≡ Some due = subst (λ (s : Showing). Shows s shown) (sym (some_of (Data due) showing h)) shows in
        ap (is_shown (Some bytes)) is ∙ shows_data bytes due e

-- ---- how it completes

-- what is found passes the test
found_passes : {X : Type 0} (is : X → Bool) (xs : List X) (x : X) → find is xs ≡ Some x → is x ≡ true
found_passes is [] x h = cc
found_passes is (y ∷ ys) x h = go (is y) refl h (found_passes is ys x)
  where
    go : (b : Bool) → is y ≡ b → cond b (Some y) (find is ys) ≡ Some x → (find is ys ≡ Some x → is x ≡ true) → is x ≡ true
    go true e h rest = subst (λ z. is z ≡ true) (some_of y x h) e
    go false e h rest = rest h

-- it ends with these pieces and this status, and shows what is due
pub record IsDue (v : View) (req : ReqId) (r : OpenRequest) (n : ℕ) (status : Status) (ending : Ending) : Type 0 where
  pub number : n ≡ ending.pieces
  pub status_is : status ≡ ending.status
  pub shown : (s : Option Shown) → Shows ending.showing s → may_show r ending.status (pieces_of v req r) s ≡ true

module _ (v : View) (req : ReqId) (r : OpenRequest) (n : ℕ) (status : Status) where
  read_due : (o : Option Showing) (ending : Ending) → showing_of (data_read v req r) ≡ o → is_read r.op && is_success status ≡ true → read_as n status o ≡ Some ending → IsDue v req r n status ending
  read_due None ending is read h = cc
  read_due (Some showing) ending is read h =
      subst (IsDue v req r n status) (some_of (record { pieces = n; status = status; showing = showing }) ending h) (record {
        number = refl;
        status_is = refl;
        shown = λ s shows. ap (λ b. cond b (is_shown (data_read v req r) s) (is_none s)) read ∙ shows_all (data_read v req r) showing s is shows;
      })

  due_by : (b : Bool) (ending : Ending) → is_read r.op && is_success status ≡ b → cond b (read_as n status (showing_of (data_read v req r))) (Some (record { pieces = n; status = status; showing = Nothing })) ≡ Some ending → IsDue v req r n status ending
  due_by true ending read h = read_due (showing_of (data_read v req r)) ending refl read h
  due_by false ending read h =
      subst (IsDue v req r n status) (some_of (record { pieces = n; status = status; showing = Nothing }) ending h) (record {
        number = refl;
        status_is = refl;
        shown = λ s shows. ap (λ b. cond b (is_shown (data_read v req r) s) (is_none s)) read ∙ ap is_none shows;
      })

-- the request is here, each of its pieces is back, and it may complete so
pub record Ends (setup : Setup) (me : ℕ) (v : View) (req : ReqId) (ending : Ending) : Type 0 where
  pub request : OpenRequest
  pub is : request_here v req ≡ Some request
  pub number : unwrap_or request.pieces 0 ≡ ending.pieces
  pub back : list_all is_back (pieces_here v req ending.pieces) ≡ true
  pub may : may_complete me v req (request_here v req) ≡ true
  pub status : may_be_status setup v req request ending.status ≡ true
  pub shown : (s : Option Shown) → Shows ending.showing s → may_show request ending.status (pieces_of v req request) s ≡ true

-- a request that may complete has every piece back
all_back : (me : ℕ) (v : View) (req : ReqId) (r : OpenRequest) → may_complete me v req (Some r) ≡ true → list_all is_back (pieces_of v req r) ≡ true
all_back me v req r may =
    let both = and_parts (is_at_own me req r && list_all is_back (pieces_of v req r)) (not (is_walking (reset_of v.part req))) may in
    (and_parts (is_at_own me req r) (list_all is_back (pieces_of v req r)) both.0).1

module _ (setup : Setup) (me : ℕ) (v : View) (req : ReqId) (ending : Ending) where
  ends_so : (r : OpenRequest) → request_here v req ≡ Some r → (s : Option Status) → end_due setup me v req r ≡ s → ends_as v req r (unwrap_or r.pieces 0) s ≡ Some ending → Ends setup me v req ending
  ends_so r is None found h = cc
  ends_so r is (Some status) found h =
      let n = unwrap_or r.pieces 0 in
      let may : may_end setup me v req (Some r) status ≡ true = found_passes (may_end setup me v req (Some r)) (Failed ∷ Aborted ∷ Success ∷ []) status found in
      let both = and_parts (may_complete me v req (Some r)) (may_be_status setup v req r status) may in
      let due : IsDue v req r n status ending = due_by v req r n status (is_read r.op && is_success status) ending refl h in
      record {
        request = r;
        is = is;
        number = due.number;
        back = subst (λ (m : ℕ). list_all is_back (pieces_here v req m) ≡ true) due.number (all_back me v req r both.0);
        may = ap (may_complete me v req) is ∙ both.0;
        status = subst (λ (s : Status). may_be_status setup v req r s ≡ true) due.status_is both.1;
        shown = due.shown;
      }

  ends_here : (o : Option OpenRequest) → request_here v req ≡ o → ending_in setup me v req o ≡ Some ending → Ends setup me v req ending
  ends_here None is h = cc
  ends_here (Some r) is h = ends_so r is (end_due setup me v req r) refl h

  pub ends_now : ending_of setup me v req ≡ Some ending → Ends setup me v req ending
  ends_now h = ends_here (request_here v req) refl h

-- ---- what is here after it

pub gone_closed : (piece : ℕ → Option OpenPiece) (req : ReqId) (k n : ℕ) (here : Id → Option Kept) → list_all is_back (map piece (range_with_len k n)) ≡ true
    → held_after (pieces_closed req k (map piece (range_with_len k n))) here ≡ gone req (range_with_len k n) here
gone_closed piece req k zero here h = refl
gone_closed piece req k (suc n) here h = go (piece k) h (gone_closed piece req (k + 1) n)
  where
    go : (o : Option OpenPiece) → (is_back o && list_all is_back (map piece (range_with_len (k + 1) n))) ≡ true
        → ((now : Id → Option Kept) → list_all is_back (map piece (range_with_len (k + 1) n)) ≡ true → held_after (pieces_closed req (k + 1) (map piece (range_with_len (k + 1) n))) now ≡ gone req (range_with_len (k + 1) n) now)
        → held_after (pieces_closed req k (o ∷ map piece (range_with_len (k + 1) n))) here ≡ gone req (range_with_len (k + 1) n) (λ j. cond (same_id (ids.Piece req k) j) None (here j))
    go None h rest = cc
    go (Some p) h rest = rest (λ j. cond (same_id (ids.Piece req k) j) None (here j)) (and_parts (is_back (Some p)) (list_all is_back (map piece (range_with_len (k + 1) n))) h).1

-- a piece is let go, and those that are left come after it
pub gone_step : (req : ReqId) (k : ℕ) (left rest : List ℕ) (old new : List (Id × Kept)) (total : Id → Option Kept)
    → left ≡ k ∷ rest
    → Sets old new (ids.Piece req k) None
    → gone req left (here_in old) ≡ total
    → gone req rest (here_in new) ≡ total
gone_step req k left rest old new total is sets all = ap (gone req rest) sets ∙ sym (ap (λ (ks : List ℕ). gone req ks (here_in old)) is) ∙ all
