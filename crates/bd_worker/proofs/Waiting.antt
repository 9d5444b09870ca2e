-- A quiet turn of a seat, by what its thread answers.
use Rattle.std.proofs.Common.{◌≡◌, ℕ, false, List, [], ◌⊎◌, inl, inr, sym, ◌∙◌, ap, subst}
use Rattle.bd_base.specs.declared.act.Entry.{Entry}
use Rattle.bd_registry.specs.State.{Registered}
use Rattle.bd_thread.specs.declared.links.Links.{Links}
use Rattle.bd_thread.specs.declared.thread.Thread.{Thread}
use Rattle.bd_thread.specs.declared.turn.Turned.{Turned}
use Rattle.bd_thread.specs.declared.turn.Turned.TheVariants.{Moved, Quiet}
use Rattle.bd_thread.specs.Looking.{touched_of, LooksAt}
use Rattle.bd_thread.specs.Waits.{IsWaiting, Quiets}
use Rattle.bd_thread.specs.Work.{wants_registry, IsWaitingAlone, QuietsAlone}
use Rattle.bd_worker.specs.declared.seat.Seat.{Seat}
use Rattle.bd_worker.specs.declared.worker.Worker.{Worker}
use Rattle.bd_worker.specs.Waits.{begun_seat, HasBorrowed, HasNoRegistry, Idles, IdlesAlone, IdlesWith, QuietTurns, Receives, Sends}

-- ---- a worker

-- links without entries
abbrev emptied : Links → Links
emptied l = record l { entries = [] }

emptied_is : (l : Links) → l.entries ≡ [] → emptied l ≡ l
emptied_is l empty = ap (λ (es : List Entry). record l { entries = es }) (sym empty)

-- but for what is noted to be asked and which requests are to be looked at, a thread that is this one is that one
noted_as : (old new t : Thread) → new ≡ t → t ≡ record old { calls = t.calls; touched = t.touched } → new ≡ record old { calls = new.calls; touched = new.touched }
noted_as old new t same is = same ∙ is ∙ ap (λ (x : Thread). let y : Thread = record old { calls = x.calls; touched = x.touched } in y) (sym same)

pub idles_alone : (old new : Worker) (t : Thread) (l : Links) (turned : Turned) → old.links.entries ≡ [] → QuietsAlone old.thread old.links t l turned → new.thread ≡ t → new.links ≡ emptied l → IdlesAlone old new turned
idles_alone old new t l Quiet empty q thread links =
    let links-are : new.links ≡ old.links = links ∙ ap emptied q.links ∙ emptied_is old.links empty in
    record {
      thread = noted_as old.thread new.thread t thread q.thread;
      links = links-are;
      waits = subst (λ (x : Thread). IsWaitingAlone (LooksAt (touched_of old.thread)) x new.links) (sym thread) (subst (λ (x : Links). IsWaitingAlone (LooksAt (touched_of old.thread)) t x) (q.links ∙ sym links-are) q.waits);
    }
idles_alone old new t l (Moved n) empty q thread links = tt

pub idles_with : (lent : Registered) (old new : Worker) (r : Registered) (t : Thread) (l : Links) (turned : Turned) → old.links.entries ≡ [] → r.state ≡ lent.state
    → Quiets old.thread (record old.links { registry = r }) t l turned → new.thread ≡ t → new.links ≡ emptied l → IdlesWith lent old new turned
idles_with lent old new r t l Quiet empty state q thread links =
    let links-are : new.links ≡ record old.links { registry = r } = links ∙ ap emptied q.links ∙ emptied_is (record old.links { registry = r }) empty in
    record {
      thread = noted_as old.thread new.thread t thread q.thread;
      links = links-are ∙ ap (λ (x : Registered). record old.links { registry = x }) (sym (ap (λ (x : Links). x.registry) links-are));
      registry = ap (λ (x : Links). x.registry.state) links-are ∙ state;
      waits = subst (λ (x : Thread). IsWaiting (LooksAt (touched_of old.thread)) x new.links) (sym thread) (subst (λ (x : Links). IsWaiting (LooksAt (touched_of old.thread)) t x) (q.links ∙ sym links-are) q.waits);
    }
idles_with lent old new r t l (Moved n) empty state q thread links = tt

-- ---- a seat

pub idles_unlent : {D : Type 0} → (old new : Seat D) (turned : Turned) → HasNoRegistry old new → IdlesAlone old.worker new.worker turned → Idles old new turned
idles_unlent old new Quiet why q = inl (why, q)
idles_unlent old new (Moved n) why q = tt

pub idles_lent : {D : Type 0} → (old new : Seat D) (turned : Turned) → HasBorrowed old new → ((lent : Registered) × IdlesWith lent old.worker new.worker turned) → Idles old new turned
idles_lent old new Quiet had q = inr (had, q)
idles_lent old new (Moved n) had q = tt

pub turns_quietly : {D : Type 0} → (now : ℕ) (old came still new : Seat D) (turned : Turned) → Receives old came → Idles (begun_seat now came) still turned → Sends still new → QuietTurns now old new turned
turns_quietly now old came still new Quiet receives idle sends = record { came = came; still = still; receives = receives; idle = idle; sends = sends }
turns_quietly now old came still new (Moved n) receives idle sends = tt
