-- Queue after queue is flushed.
use Rattle.std.proofs.Common.{◌≡◌, ◌≢◌, ℕ, ◌+◌, ◌<◌, ◌≤◌, Bool, true, false, ◌==◌, List, [], length, slice_index_or, slice_set, refl, sym, ◌∙◌, ap, subst, eqb-true, eq-eqb, arith}
use Rattle.std.proofs.lemmas.List.{get_or_default, get_or-set_same, get_or-set_other}
use Rattle.bd_turns.specs.declared.queue.Message.{Message}
use Rattle.bd_ring.specs.Rings.{AreSendsTo, Place, Sender}
use Rattle.bd_seat.specs.Outgoing.{Flushed, FlushedIf, IsServed}

-- the queues below this one were flushed and served, and the others stayed
pub record FlushedBelow (n me stamp : ℕ) (sends : List Sender) (queues : List (List Message)) (sends' : List Sender) (queues' : List (List Message)) : Type 0 where
  pub done : (k : ℕ) (d : Sender) → k < n → FlushedIf (k == me) stamp (slice_index_or sends k d) (slice_index_or queues k []) (slice_index_or sends' k d) (slice_index_or queues' k [])
  pub served : (k : ℕ) (d : Sender) → k < n → k ≢ me → IsServed (slice_index_or sends k d) (slice_index_or sends' k d) (slice_index_or queues' k [])
  pub rest : (k : ℕ) (d : Sender) → n ≤ k → slice_index_or sends' k d ≡ slice_index_or sends k d
  pub rest_queues : (k : ℕ) → n ≤ k → slice_index_or queues' k [] ≡ slice_index_or queues k []

pub none_flushed : (me stamp : ℕ) (sends : List Sender) (queues : List (List Message)) → FlushedBelow 0 me stamp sends queues sends queues
none_flushed me stamp sends queues = record {
  done = λ k d lt. absurd (omega arith);
  served = λ k d lt ne. absurd (omega arith);
  rest = λ k d le. refl;
  rest_queues = λ k le. refl;
}

-- a place is below the next number: it is below this one, or it is this one
upto : {P : ℕ → Type 0} (n k : ℕ) → k < n + 1 → ((j : ℕ) → j < n → P j) → P n → P k
upto {P} n k lt below at = go (k == n) refl
  where
    go : (b : Bool) → (k == n) ≡ b → P k
    go true e = subst P (sym (eqb-true k n e)) at
    go false e = below k (let ne : k ≢ n = (λ same. absurd (clash (sym (eq-eqb k n same) ∙ e))) in omega arith)
      where
        clash : true ≡ false → ⊥
        clash h = cc

pub own_stays : (n me stamp : ℕ) (sends : List Sender) (queues : List (List Message)) (sends' : List Sender) (queues' : List (List Message))
    → n ≡ me → FlushedBelow n me stamp sends queues sends' queues' → FlushedBelow (n + 1) me stamp sends queues sends' queues'
own_stays n me stamp sends queues sends' queues' same f = record {
  done = λ k d lt. upto {P = λ j. FlushedIf (j == me) stamp (slice_index_or sends j d) (slice_index_or queues j []) (slice_index_or sends' j d) (slice_index_or queues' j [])} n k lt (λ j below. f.done j d below)
      (subst (λ (b : Bool). FlushedIf b stamp (slice_index_or sends n d) (slice_index_or queues n []) (slice_index_or sends' n d) (slice_index_or queues' n [])) (sym (eq-eqb n me same)) (f.rest n d (omega arith), f.rest_queues n (omega arith)));
  served = λ k d lt ne. f.served k d (let other : k ≢ n = λ is. ne (is ∙ same) in omega arith) ne;
  rest = λ k d le. f.rest k d (omega arith);
  rest_queues = λ k le. f.rest_queues k (omega arith);
}

pub next_flushed : (n me stamp : ℕ) (sends : List Sender) (queues : List (List Message)) (sends' : List Sender) (queues' : List (List Message)) (s s' : Sender) (q' : List Message)
    → (n == me) ≡ false
    → n < length sends'
    → n < length queues'
    → s ≡ slice_index_or sends' n s
    → Flushed stamp s (slice_index_or queues' n []) s' q'
    → IsServed s s' q'
    → FlushedBelow n me stamp sends queues sends' queues'
    → FlushedBelow (n + 1) me stamp sends queues (slice_set sends' n s') (slice_set queues' n q')
next_flushed n me stamp sends queues sends' queues' s s' q' other lt lt-queues s-is flushed served f = record {
  done = λ k d below. upto {P = λ j. FlushedIf (j == me) stamp (slice_index_or sends j d) (slice_index_or queues j []) (slice_index_or (slice_set sends' n s') j d) (slice_index_or (slice_set queues' n q') j [])} n k below
      (λ j lower. let ne : j ≢ n = (λ same. absurd (omega arith)) in
      subst (λ (x : Sender). FlushedIf (j == me) stamp (slice_index_or sends j d) (slice_index_or queues j []) x (slice_index_or (slice_set queues' n q') j [])) (sym (get_or-set_other sends' n j s' d ne))
      (subst (λ (ms : List Message). FlushedIf (j == me) stamp (slice_index_or sends j d) (slice_index_or queues j []) (slice_index_or sends' j d) ms) (sym (get_or-set_other queues' n j q' [] ne)) (f.done j d lower)))
      (subst (λ (b : Bool). FlushedIf b stamp (slice_index_or sends n d) (slice_index_or queues n []) (slice_index_or (slice_set sends' n s') n d) (slice_index_or (slice_set queues' n q') n [])) (sym other)
      (subst (λ (x : Sender). Flushed stamp (slice_index_or sends n d) (slice_index_or queues n []) x (slice_index_or (slice_set queues' n q') n [])) (sym (get_or-set_same sends' n s' d lt))
      (subst (λ (ms : List Message). Flushed stamp (slice_index_or sends n d) (slice_index_or queues n []) s' ms) (sym (get_or-set_same queues' n q' [] lt-queues))
      (subst (λ (x : Sender). Flushed stamp x (slice_index_or queues n []) s' q') (s-is ∙ get_or_default sends' n s d lt ∙ f.rest n d (omega arith))
      (subst (λ (ms : List Message). Flushed stamp s ms s' q') (f.rest_queues n (omega arith)) flushed)))));
  served = λ k d below ne. upto {P = λ j. j ≢ me → IsServed (slice_index_or sends j d) (slice_index_or (slice_set sends' n s') j d) (slice_index_or (slice_set queues' n q') j [])} n k below
      (λ j lower other_me. let apart : j ≢ n = (λ same. absurd (omega arith)) in
      subst (λ (x : Sender). IsServed (slice_index_or sends j d) x (slice_index_or (slice_set queues' n q') j [])) (sym (get_or-set_other sends' n j s' d apart))
      (subst (λ (ms : List Message). IsServed (slice_index_or sends j d) (slice_index_or sends' j d) ms) (sym (get_or-set_other queues' n j q' [] apart)) (f.served j d lower other_me)))
      (λ other_me. subst (λ (x : Sender). IsServed (slice_index_or sends n d) x (slice_index_or (slice_set queues' n q') n [])) (sym (get_or-set_same sends' n s' d lt))
      (subst (λ (ms : List Message). IsServed (slice_index_or sends n d) s' ms) (sym (get_or-set_same queues' n q' [] lt-queues))
      (subst (λ (x : Sender). IsServed x s' q') (s-is ∙ get_or_default sends' n s d lt ∙ f.rest n d (omega arith)) served)))
      ne;
  rest = λ k d le. get_or-set_other sends' n k s' d (λ same. absurd (omega arith)) ∙ f.rest k d (omega arith);
  rest_queues = λ k le. get_or-set_other queues' n k q' [] (λ same. absurd (omega arith)) ∙ f.rest_queues k (omega arith);
}

-- a flush leaves each pass its ring
pub rings_stay : (rings : List Place) (sends : List Sender) (n stamp : ℕ) (s s' : Sender) (q q' : List Message)
    → n < length sends → s ≡ slice_index_or sends n s → Flushed stamp s q s' q' → AreSendsTo rings sends → AreSendsTo rings (slice_set sends n s')
rings_stay rings sends n stamp s s' q q' lt s-is flushed each k d e within-rings = go (k == n) refl
  where
    go : (b : Bool) → (k == n) ≡ b → (slice_index_or (slice_set sends n s') k e).ring ≡ (slice_index_or rings k d).ring
    go true is =
        let same : k ≡ n = eqb-true k n is in
        ap (λ (j : ℕ). (slice_index_or (slice_set sends n s') j e).ring) same ∙ ap (λ (x : Sender). x.ring) (get_or-set_same sends n s' e lt)
        ∙ ap (λ (x : Sender). x.ring) flushed.put ∙ ap (λ (x : Sender). x.ring) s-is ∙ ap (λ (j : ℕ). (slice_index_or sends j s).ring) (sym same) ∙ each k d s within-rings
    go false is =
        ap (λ (x : Sender). x.ring) (get_or-set_other sends n k s' e (λ same. absurd (clash (sym (eq-eqb k n same) ∙ is)))) ∙ each k d e within-rings
      where
        clash : true ≡ false → ⊥
        clash h = cc
