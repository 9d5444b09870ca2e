-- What went out: nothing, and one message more.
use Rattle.std.proofs.Common.{◌≡◌, ℕ, false, ⊎_elim, inl, inr, List, [], ◌∷◌, ◌++◌, refl, sym, ◌∙◌, ap, subst, append_assoc, append-nil}
use Rattle.std.specs.List.{AllByRecursion}
use Rattle.std.proofs.lemmas.List.{map-append}
use Rattle.bd_turns.specs.declared.queue.Message.{Message}
use Rattle.bd_turns.specs.declared.queue.Post.{Post}
use Rattle.bd_ring.specs.Rings.{Place, Sender, WasFull, after_put, after_refusal, one_further}
use Rattle.bd_seat.specs.Incoming.{message_of, messages_of}
use Rattle.bd_seat.specs.Outgoing.{has_next, post_of, Flushed, FlushedOne, HasFlushedAll, IsServed}

pub flushed_none : (stamp : ℕ) (pass : Sender) (queue : List Message) → Flushed stamp pass queue pass queue
flushed_none stamp pass queue = record {
  posts = [];
  put = ap (λ (ps : List Post). let s : Sender = record pass { put = ps } in s) (sym (append-nil pass.put));
  queue_is = refl;
  stamped = tt;
}

stamped_more : (stamp : ℕ) (ps : List Post) (m : Message) → AllByRecursion (λ p. p.stamp ≡ stamp) ps → AllByRecursion (λ p. p.stamp ≡ stamp) (ps ++ post_of stamp m ∷ [])
stamped_more stamp [] m all = (refl, tt)
stamped_more stamp (x ∷ xs) m all = (all.0, stamped_more stamp xs m all.1)

pub flushed_more : (stamp : ℕ) (pass : Sender) (queue : List Message) (pass' : Sender) (queue' : List Message) (m : Message) (pass'' : Sender) (queue'' : List Message)
    → Flushed stamp pass queue pass' queue'
    → queue' ≡ m ∷ queue''
    → pass'' ≡ after_put pass' (post_of stamp m)
    → Flushed stamp pass queue pass'' queue''
flushed_more stamp pass queue pass' queue' m pass'' queue'' f first put = record {
  posts = f.posts ++ post_of stamp m ∷ [];
  put = put ∙ ap (λ (p : Sender). after_put p (post_of stamp m)) f.put ∙ ap (λ (ps : List Post). let s : Sender = record pass { put = ps; refused = pass'.refused } in s) (append_assoc pass.put f.posts (post_of stamp m ∷ []))
      ∙ ap (λ (n : ℕ). let s : Sender = record pass { put = pass.put ++ (f.posts ++ post_of stamp m ∷ []); refused = n } in s) (sym (ap (λ (p : Sender). p.refused) put));
  queue_is = ap (λ (ms : List Message). ms ++ queue'') (map-append message_of f.posts (post_of stamp m ∷ [])) ∙ append_assoc (messages_of f.posts) (m ∷ []) queue''
      ∙ ap (λ (ms : List Message). messages_of f.posts ++ ms) (sym first) ∙ f.queue_is;
  stamped = stamped_more stamp f.posts m f.stamped;
}

-- ---- the end of a flush

-- a put that found the ring full leaves all but its count
flushed_still : (stamp : ℕ) (pass : Sender) (queue : List Message) (pass' : Sender) (queue' : List Message) (pass'' : Sender) (queue'' : List Message)
    → Flushed stamp pass queue pass' queue' → pass'' ≡ record pass' { refused = pass''.refused } → queue'' ≡ queue' → Flushed stamp pass queue pass'' queue''
flushed_still stamp pass queue pass' queue' pass'' queue'' f still same = record {
  posts = f.posts;
  put = still ∙ ap (λ (p : Sender). let s : Sender = record p { refused = pass''.refused } in s) f.put;
  queue_is = ap (λ (ms : List Message). messages_of f.posts ++ ms) same ∙ f.queue_is;
  stamped = f.stamped;
}

pub flushed_end : (stamp : ℕ) (place : Place) (pass : Sender) (queue : List Message) (pass' : Sender) (queue' : List Message) (pass'' : Sender) (queue'' : List Message)
    → Flushed stamp pass queue pass' queue' → FlushedOne stamp place pass' queue' pass'' queue'' false → Flushed stamp pass queue pass'' queue''
flushed_end stamp place pass queue pass' queue' pass'' queue'' f one = flushed_still stamp pass queue pass' queue' pass'' queue'' f (⊎_elim
    (λ (h : (pass'' ≡ pass') × (has_next pass'.number queue' ≡ false)). h.0 ∙ ap (λ (n : ℕ). let s : Sender = record pass' { refused = n } in s) (sym (ap (λ (p : Sender). p.refused) h.0)))
    (λ (h : (pass'' ≡ after_refusal pass') × WasFull place pass'). h.0 ∙ ap (λ (n : ℕ). let s : Sender = record pass' { refused = n } in s) (sym (ap (λ (p : Sender). p.refused) h.0)))
    one.1) one.0

pub flushed_all : (stamp : ℕ) (place : Place) (pass' : Sender) (queue' : List Message) (pass'' : Sender) (queue'' : List Message)
    → FlushedOne stamp place pass' queue' pass'' queue'' false → HasFlushedAll place pass'' queue''
flushed_all stamp place pass' queue' pass'' queue'' one = ⊎_elim
    (λ (h : (pass'' ≡ pass') × (has_next pass'.number queue' ≡ false)). inl (ap (λ (ms : List Message). has_next pass''.number ms) one.0 ∙ ap (λ (p : Sender). has_next p.number queue') h.0 ∙ h.1))
    (λ (h : (pass'' ≡ after_refusal pass') × WasFull place pass'). inr (subst (WasFull place) (sym h.0) h.1))
    one.1

pub flushed_served : (stamp : ℕ) (place : Place) (pass : Sender) (pass' : Sender) (queue' : List Message) (pass'' : Sender) (queue'' : List Message)
    → pass'.refused ≡ pass.refused → FlushedOne stamp place pass' queue' pass'' queue'' false → IsServed pass pass'' queue''
flushed_served stamp place pass pass' queue' pass'' queue'' none one = ⊎_elim
    (λ (h : (pass'' ≡ pass') × (has_next pass'.number queue' ≡ false)). inl (ap (λ (ms : List Message). has_next pass''.number ms) one.0 ∙ ap (λ (p : Sender). has_next p.number queue') h.0 ∙ h.1))
    (λ (h : (pass'' ≡ after_refusal pass') × WasFull place pass'). inr (ap (λ (p : Sender). p.refused) h.0 ∙ ap one_further none))
    one.1
