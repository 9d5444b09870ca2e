-- Where no piece that waits may be sent again.
use Rattle.std.proofs.Common.{◌≡◌, ◌⊎◌, inl, inr, ℕ, zero, suc, ◌+◌, ◌<◌, ◌≤◌, Bool, true, false, ◌==◌, List, [], ◌∷◌, length, slice_get, Option, Some, None, refl, sym, ap, subst, arith}
use Rattle.std.proofs.lemmas.Bool.{cases_lt}
use Rattle.bd_base.specs.declared.id.ReqId.{ReqId}
use Rattle.bd_machine.specs.declared.state.OpenPiece.{OpenPiece}
use Rattle.bd_machine.specs.declared.state.Progress.{Progress}
use Rattle.bd_machine.specs.declared.state.Progress.TheVariants.{Held, Out, Served}
use Rattle.bd_retries.specs.declared.waiting.Waiting.{Waiting}
use Rattle.bd_retries.specs.Channels.{Channel, next_at, next_in}
use Rattle.bd_thread.specs.declared.links.Links.{Links}
use Rattle.bd_thread.specs.declared.thread.Thread.{Thread}
use Rattle.bd_thread.specs.Acted.{Acted}
use Rattle.bd_thread.specs.Moves.{ComesAs, ComesOwn, ComesPiece}
use Rattle.bd_thread.specs.Retries.{may_go_again, may_retry, Retries, RetriesBy}
use Rattle.bd_thread.specs.Waits.{Idles, NoRetry, NoRetryAt, NoRetryBelow}
use Rattle.bd_thread.proofs.Idle.{idle_so, idle_then}

-- the one at this place can send none either
pub retries_below : (place : ℕ) (o : Thread) (a : Links) (m : Thread) (b : Links) (n : Thread) (c : Links)
    → Acted o a m b
    → Acted m b n c
    → Idles (NoRetryBelow place) o a m b
    → Idles (NoRetryAt place) m b n c
    → Idles (NoRetryBelow (place + 1)) o a n c
retries_below place o a m b n c g h = idle_then {P = NoRetryBelow place} {Q = NoRetryAt place} {R = NoRetryBelow (place + 1)} o a m b n c g h both
  where
    both : NoRetryBelow place o a → NoRetryAt place o a → NoRetryBelow (place + 1) o a
    both below at i less = go (cases_lt i place)
      where
        go : (i < place) ⊎ (place ≤ i) → NoRetryAt i o a
        go (inl lower) = below i lower
        go (inr upper) = let same : place ≡ i = omega (arith, less, upper) in subst (λ (k : ℕ). NoRetryAt k o a) same at

-- past the end there is no channel
past : (channels : List Channel) (i : ℕ) → length channels ≤ i → slice_get channels i ≡ None
past [] i h = refl
past (c ∷ cs) zero h = absurd (omega (arith, h))
past (c ∷ cs) (suc i) h = past cs i (omega (arith, h))

-- where none before the end can send one, none can
pub retries_all : (count : ℕ) (o : Thread) (a : Links) (n : Thread) (c : Links) → length o.retries ≤ count → Idles (NoRetryBelow count) o a n c → Idles NoRetry o a n c
retries_all count o a n c whole = idle_so {P = NoRetryBelow count} {Q = NoRetry} o a n c all
  where
    all : NoRetryBelow count o a → NoRetry o a
    all below i = go (cases_lt i count)
      where
        go : (i < count) ⊎ (count ≤ i) → NoRetryAt i o a
        go (inl lower) = below i lower
        go (inr upper) = ap (λ (x : Option Channel). may_go_again o a (next_in x)) (past o.retries i (omega (arith, whole, upper)))

-- ---- a piece that came

-- one that isn't out may be back
pub comes_as : (p : OpenPiece) (req : ReqId) (k : ℕ) (o : Thread) (a : Links) (n : Thread) (c : Links) → (p.progress ≡ Out → ⊥) → ComesOwn (req.thread == o.me) req k o a n c → ComesPiece (Some p) req k o a n c
comes_as p req k o a n c other own = go p.progress other
  where
    go : (progress : Progress) → (progress ≡ Out → ⊥) → ComesAs progress p.base req k o a n c
    go Out other = absurd (other refl)
    go Held other = own
    go Served other = own

-- ---- where nothing is sent

-- where the first piece that waits may not be sent, nothing changes
pub retry_none : (place : ℕ) (t : Thread) (links : Links) → may_retry place t links ≡ false → Retries place t links t links false
retry_none place t links may = go (next_at t.retries place) (may_retry place t links) may
  where
    go : (o : Option Waiting) (b : Bool) → b ≡ false → RetriesBy t links t links false o b
    go None true e = (refl, refl, refl)
    go None false e = (refl, refl, refl)
    go (Some w) false e = (refl, refl, refl)
    go (Some w) true e = cc

-- a piece that isn't here brings nothing about
pub comes_none : (p : Option OpenPiece) (req : ReqId) (k : ℕ) (t : Thread) (links : Links) → p ≡ None → ComesPiece p req k t links t links
comes_none p req k t links none = subst (λ (o : Option OpenPiece). ComesPiece o req k t links t links) (sym none) (refl, refl)
