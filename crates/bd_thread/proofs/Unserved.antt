-- Where no base device at any place has a piece to serve, or one too many, no device has one.
use Rattle.std.proofs.Common.{◌≡◌, ◌⊎◌, inl, inr, ℕ, zero, suc, ◌<◌, ◌≤◌, Bool, true, false, cond, ◌&&◌, ◌==◌, List, [], ◌∷◌, length, find, slice_get, Option, Some, None, refl, sym, ◌∙◌, ap, subst, arith}
use Rattle.std.proofs.lemmas.Bool.{cases_lt, ne_eqb}
use Rattle.std.proofs.lemmas.Option.{same_Some, slice_get_past}
use Rattle.bd_base.specs.declared.id.DevId.{DevId}
use Rattle.bd_base.specs.declared.id.ReqId.{ReqId}
use Rattle.bd_home.specs.Serving.{first_at, first_of, last_at, last_of}
use Rattle.bd_machine.specs.declared.state.Base.{Base}
use Rattle.bd_machine.specs.declared.state.Id.{Id}
use Rattle.bd_machine.specs.BlockMap.{is_aio, size_of}
use Rattle.bd_machine.specs.Homes.{is_base, is_home}
use Rattle.bd_machine.proofs.Tables.{dev_exact}
use Rattle.bd_steps.specs.Refusing.{if_refused}
use Rattle.bd_steps.specs.Serving.{may_hold, next_of, next_piece}
use Rattle.bd_tokens.specs.Tokens.{here_in}
use Rattle.bd_thread.specs.declared.links.Links.{Links}
use Rattle.bd_thread.specs.declared.thread.Thread.{Thread}
use Rattle.bd_thread.specs.Refusals.{refusal_now}
use Rattle.bd_thread.specs.Seen.{view_of}
use Rattle.bd_thread.specs.Served.{next_due}
use Rattle.bd_thread.specs.Waits.{waits_at, waits_on, Idles, NoPiece, NoPieceAt, NoPieceBelow, NoPieceOn, NoRefusal, NoRefusalAt, NoRefusalBelow, NoRefusalOn}
use Rattle.bd_thread.proofs.Idle.{idle_so}

pub none_some : {X : Type 0} {x : X} {Q : Type 0} → None ≡ Some x → Q
none_some e = cc

none_either : {X : Type 0} (b : Bool) → cond {A = Option X} b None None ≡ None
none_either true = refl
none_either false = refl

-- ---- the first base of a device stands at a place

dev_is : (dev : DevId) (b : Base) → is_base dev b ≡ true → b.dev ≡ dev
dev_is dev b is = dev_exact b.dev dev is

first_found : {Q : Type 0} (dev : DevId) (bs : List Base) (b : Base) → find (is_base dev) bs ≡ Some b → ((i : ℕ) → slice_get bs i ≡ Some b → b.dev ≡ dev → Q) → Q
first_found dev [] b found k = none_some found
first_found {Q = Q} dev (y ∷ ys) b found k = go (is_base dev y) refl found (λ later. first_found dev ys b later (λ i at is. k (suc i) at is))
  where
    go : (t : Bool) → is_base dev y ≡ t → cond t (Some y) (find (is_base dev) ys) ≡ Some b → (find (is_base dev) ys ≡ Some b → Q) → Q
    go true is f later = k zero f (subst (λ (x : Base). x.dev ≡ dev) (same_Some y b f) (dev_is dev y is))
    go false is f later = later f

-- a list is empty or not
pub empty_or : {X : Type 0} (xs : List X) → (xs ≡ []) ⊎ ((length xs == 0) ≡ false)
empty_or [] = inl refl
empty_or (x ∷ xs) = inr (ne_eqb (length (x ∷ xs)) 0 (λ e. absurd (omega (arith, e))))

-- on a base whose queue isn't empty a piece waits
waits : (place : ℕ) (t : Thread) (b : Base) → slice_get t.part.bases place ≡ Some b → (length b.queue == 0) ≡ false → waits_at place t ≡ Some b.dev
waits place t b here some = ap waits_on here ∙ ap (λ (none : Bool). cond none None (Some b.dev)) some

-- ---- pieces to serve

unserved : (t : Thread) (dev : DevId) (o : Option Base) → find (is_base dev) t.part.bases ≡ o → first_at o ≡ None → next_due t dev ≡ None
unserved t dev o is none =
    ap (λ (b : Option Base). cond (is_aio t.setup.now dev) None (next_piece t.setup.now t.me (here_in t.held.items) dev b)) is
    ∙ ap (λ (q : Option (ReqId × ℕ)). cond (is_aio t.setup.now dev) None (cond (is_home t.setup.now t.me dev && may_hold t.setup.now dev o) (next_of (size_of t.setup.now dev) dev (here_in t.held.items) o q) None)) none
    ∙ ap (λ (x : Option Id). cond (is_aio t.setup.now dev) None x) (none_either (is_home t.setup.now t.me dev && may_hold t.setup.now dev o))
    ∙ none_either (is_aio t.setup.now dev)

-- none at any place, so none on any device
pub none_served : (t : Thread) (links : Links) → ((place : ℕ) → NoPieceAt place t links) → NoPiece t links
none_served t links at dev = go (find (is_base dev) t.part.bases) refl
  where
    on : (b : Base) → find (is_base dev) t.part.bases ≡ Some b → (i : ℕ) → slice_get t.part.bases i ≡ Some b → b.dev ≡ dev → (b.queue ≡ []) ⊎ ((length b.queue == 0) ≡ false) → next_due t dev ≡ None
    on b is i here same (inl empty) = unserved t dev (Some b) is (ap first_of empty)
    on b is i here same (inr some) = subst (λ (d : DevId). next_due t d ≡ None) same (at i b.dev (waits i t b here some))

    go : (o : Option Base) → find (is_base dev) t.part.bases ≡ o → next_due t dev ≡ None
    go None is = unserved t dev None is refl
    go (Some b) is = first_found dev t.part.bases b is (λ i here same. on b is i here same (empty_or b.queue))

-- none at a place where none waits
pub none_waits : (place : ℕ) (t : Thread) (links : Links) → waits_at place t ≡ None → NoPieceAt place t links
none_waits place t links none dev found = none_some (sym none ∙ found)

-- none at a place where none is on its device
pub none_on : (place : ℕ) (dev : DevId) (t : Thread) (links : Links) → waits_at place t ≡ Some dev → NoPieceOn dev t links → NoPieceAt place t links
none_on place dev t links at on d found = subst (λ (x : DevId). NoPieceOn x t links) (same_Some dev d (sym at ∙ found)) on

-- all places
pub pieces_all : (count : ℕ) (o : Thread) (a : Links) (n : Thread) (c : Links) → length o.part.bases ≤ count → Idles (NoPieceBelow count) o a n c → Idles NoPiece o a n c
pieces_all count o a n c whole f = idle_so {P = NoPieceBelow count} {Q = NoPiece} o a n c (λ below. none_served o a (λ place. go below place (cases_lt place count))) f
  where
    go : NoPieceBelow count o a → (place : ℕ) → (place < count) ⊎ (count ≤ place) → NoPieceAt place o a
    go below place (inl lower) = below place lower
    go below place (inr upper) = none_waits place o a (ap waits_on (slice_get_past o.part.bases place (omega (arith, whole, upper))))

-- ---- pieces too many

unrefused : (t : Thread) (links : Links) (dev : DevId) (o : Option Base) → find (is_base dev) t.part.bases ≡ o → last_at o ≡ None → refusal_now dev t links ≡ None
unrefused t links dev o is none = ap (λ (q : Option (ReqId × ℕ)). if_refused t.setup.now t.me (view_of t links) dev q) (ap last_at is ∙ none)

-- none at any place, so none on any base device
pub none_refused : (t : Thread) (links : Links) → ((place : ℕ) → NoRefusalAt place t links) → NoRefusal t links
none_refused t links at i b here = go (find (is_base b.dev) t.part.bases) refl
  where
    on : (r : Base) → find (is_base b.dev) t.part.bases ≡ Some r → (k : ℕ) → slice_get t.part.bases k ≡ Some r → r.dev ≡ b.dev → (r.queue ≡ []) ⊎ ((length r.queue == 0) ≡ false) → refusal_now b.dev t links ≡ None
    on r is k found same (inl empty) = unrefused t links b.dev (Some r) is (ap last_of empty)
    on r is k found same (inr some) = subst (λ (d : DevId). refusal_now d t links ≡ None) same (at k r.dev (waits k t r found some))

    go : (o : Option Base) → find (is_base b.dev) t.part.bases ≡ o → refusal_now b.dev t links ≡ None
    go None is = unrefused t links b.dev None is refl
    go (Some r) is = first_found b.dev t.part.bases r is (λ k found same. on r is k found same (empty_or r.queue))

-- none at a place where none waits
pub unrefused_waits : (place : ℕ) (t : Thread) (links : Links) → waits_at place t ≡ None → NoRefusalAt place t links
unrefused_waits place t links none dev found = none_some (sym none ∙ found)

-- none at a place where none is on its device
pub unrefused_on : (place : ℕ) (dev : DevId) (t : Thread) (links : Links) → waits_at place t ≡ Some dev → NoRefusalOn dev t links → NoRefusalAt place t links
unrefused_on place dev t links at on d found = subst (λ (x : DevId). NoRefusalOn x t links) (same_Some dev d (sym at ∙ found)) on

-- all places
pub refusals_all : (count : ℕ) (o : Thread) (a : Links) (n : Thread) (c : Links) → length o.part.bases ≤ count → Idles (NoRefusalBelow count) o a n c → Idles NoRefusal o a n c
refusals_all count o a n c whole f = idle_so {P = NoRefusalBelow count} {Q = NoRefusal} o a n c (λ below. none_refused o a (λ place. go below place (cases_lt place count))) f
  where
    go : NoRefusalBelow count o a → (place : ℕ) → (place < count) ⊎ (count ≤ place) → NoRefusalAt place o a
    go below place (inl lower) = below place lower
    go below place (inr upper) = unrefused_waits place o a (ap waits_on (slice_get_past o.part.bases place (omega (arith, whole, upper))))
