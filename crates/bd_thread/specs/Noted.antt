-- What a thread asks of the registry for the requests that are noted, one after another.
use Rattle.std.specs.Prelude.{◌≡◌, ℕ, ◌≤◌, ◌==◌, Bool, true, false, List, [], ◌∷◌, length, Option, Some, None}
use Rattle.bd_base.specs.declared.id.ReqId.{ReqId}
use Rattle.bd_thread.specs.declared.links.Links.{Links}
use Rattle.bd_thread.specs.declared.thread.Thread.{Thread}
use Rattle.bd_thread.specs.declared.turn.Turned.{Turned}
use Rattle.bd_thread.specs.declared.turn.Turned.TheVariants.{Moved, Quiet}
use Rattle.bd_thread.specs.Aborts.{Then}
use Rattle.bd_thread.specs.Acted.{Acted}
use Rattle.bd_thread.specs.Calls.{NoCallOf}
use Rattle.bd_thread.specs.Limits.{head_of}

-- nothing can be asked of the request, and nothing changed but what is noted
pub record IsUncalled (req : ReqId) (old : Thread) (before : Links) (new : Thread) (after : Links) : Type 0 where
  pub thread : new ≡ record old { calls = new.calls }
  pub links : after ≡ before
  pub none : NoCallOf req old before

-- the registry was asked for what the request waits for, and the request was carried on: it added an entry; or nothing can be asked of it, and nothing changed but what is noted
pub record IsCalled (req : ReqId) (old : Thread) (before : Links) (new : Thread) (after : Links) : Type 0 where
  pub acted : Acted old before new after
  pub idles : length after.entries ≤ length before.entries → IsUncalled req old before new after

-- it was so of each of these, one after another
abbrev pub CallsEach : List ReqId → Thread → Links → Thread → Links → Type 0
CallsEach [] old before new after = (new ≡ old) × (after ≡ before)
CallsEach (req ∷ reqs) old before new after = Then (λ t links. IsCalled req old before t links) (λ t links. CallsEach reqs t links new after)

-- it was so of each that was noted, in the order in which they were, and none is noted any more
pub record CallsAll (old : Thread) (before : Links) (new : Thread) (after : Links) : Type 0 where
  pub each : CallsEach old.calls.items old before new after
  pub none_left : new.calls.items ≡ []

-- it was so of this one, and the same are noted as before
pub record Calls (req : ReqId) (old : Thread) (before : Links) (new : Thread) (after : Links) : Type 0 where
  pub called : IsCalled req old before new after
  pub noted : new.calls ≡ old.calls

abbrev pub CallsIfAny : Option ReqId → Thread → Links → Thread → Links → Type 0
CallsIfAny None old before new after = (new ≡ old) × (after ≡ before)
CallsIfAny (Some req) old before new after = Calls req old before new after

abbrev pub CallsFirstIf : Bool → Thread → Links → Thread → Links → Type 0
CallsFirstIf true old before new after = CallsIfAny (head_of old.calls.items) old before new after
CallsFirstIf false old before new after = (new ≡ old) × (after ≡ before)

-- where there are still this many entries, it was so of the first that was noted, which stays noted; else nothing changed
abbrev pub CallsFirst : ℕ → Thread → Links → Thread → Links → Type 0
CallsFirst entries old before new after = CallsFirstIf (entries == length before.entries) old before new after

abbrev pub CallsRestIf : Bool → Thread → Links → Thread → Links → Type 0
CallsRestIf true old before new after = (new ≡ old) × (after ≡ before)
CallsRestIf false old before new after = CallsAll old before new after

-- where there are more, it was so of all that were noted; else nothing changed
abbrev pub CallsRest : ℕ → Thread → Links → Thread → Links → Type 0
CallsRest entries old before new after = CallsRestIf (entries == length before.entries) old before new after

-- in a turn that began with this many entries: of the first, where it added none so far, and of all once it added some
abbrev pub CallsNoted : ℕ → Thread → Links → Thread → Links → Type 0
CallsNoted entries old before new after = Then (λ t links. CallsFirst entries old before t links) (λ t links. CallsRest entries t links new after)

-- after a quiet turn none is noted any more; after any other the same as before
abbrev pub Forgets : Turned → Thread → Thread → Type 0
Forgets Quiet old new = (new ≡ record old { calls = new.calls }) × (new.calls.items ≡ [])
Forgets (Moved n) old new = new ≡ old
