-- What contracts see of a slot's passes.
use Rattle.std.specs.Prelude.{◌≡◌, ◌≢◌, ℕ, ◌<◌, Bool, true, false, Some, List, [], ◌∷◌, ◌++◌, length, drop, slice_get}
use Prim.Native.Nat.{zero, suc}
use Rattle.atomic_table.specs.Seated.{TableId}
use Rattle.bd_base.specs.declared.act.Entry.{Entry}
use Rattle.bd_base.specs.declared.journal.Start.{Start}
use Rattle.bd_ring.specs.declared.slot_rule.SlotView.{SlotView}
use Rattle.bd_ring.specs.Rings.{one_further}
use Rattle.bd_ring.specs.SlotRule.{StartsWith, rows_of}

-- a pass: its slot, its thread, whether it has the value, the journal that it last saw, the rows that it made, the start, and the counts of its tries that took the value and of those that found it away; that of thread 0 also knows how many passes there are
pub record Holder : Type 0 where
  pub slot : TableId
  pub thread : ℕ
  pub passes : ℕ
  pub holds : Bool
  pub seen : List Entry
  pub wrote : List Entry
  pub start : Start
  pub borrowed : ℕ
  pub missed : ℕ

abbrev pub seen_as : TableId → ℕ → ℕ → SlotView → Holder
seen_as slot borrowed missed v =
    record { slot = slot; thread = v.thread; passes = v.made; holds = v.holds; seen = v.seen; wrote = v.wrote; start = v.start; borrowed = borrowed; missed = missed }

-- the pass of a thread, with the value in the slot since; that of thread 0 leads
abbrev pub IsSound : SlotView → Type 0
IsSound v = (v.serves ≡ true) × (v.opened ≡ true) × (v.thread ≡ 0 → (v.leads ≡ true) × (v.ended ≡ []) × (v.viewed ≡ []))

-- a new pass
abbrev pub holder : TableId → Start → ℕ → ℕ → Holder
holder slot start thread passes = record { slot = slot; thread = thread; passes = passes; holds = false; seen = []; wrote = []; start = start; borrowed = 0; missed = 0 }

-- the new passes of the threads from 1 to below n
abbrev pub later_holders : TableId → Start → ℕ → List Holder
later_holders slot start zero = []
later_holders slot start (suc zero) = []
later_holders slot start (suc (suc n)) = later_holders slot start (suc n) ++ holder slot start (suc n) 0 ∷ []

-- the new passes of n threads
abbrev pub new_holders : TableId → Start → ℕ → List Holder
new_holders slot start n = holder slot start 0 n ∷ later_holders slot start n

-- all passes of the slot, by thread, none of which has the value
pub record AreHoldersOf (slot : TableId) (passes : List Holder) : Type 0 where
  pub some : 0 < length passes
  pub each : (k : ℕ) (p : Holder) → slice_get passes k ≡ Some p → (p.slot ≡ slot) × (p.thread ≡ k) × (p.holds ≡ false)
  pub all : (p : Holder) → slice_get passes 0 ≡ Some p → p.passes ≡ length passes

abbrev pub after_give : Holder → List Entry → Holder
after_give p journal = record p { holds = false; seen = journal; wrote = p.wrote ++ drop (length p.seen) journal }

abbrev pub after_take : Holder → List Entry → Holder
after_take p journal = record p { holds = true; seen = journal; borrowed = one_further p.borrowed }

abbrev pub after_miss : Holder → Holder
after_miss p = record p { missed = one_further p.missed }

-- the pass took a value with this journal and this start
abbrev pub IsTakenBy : Holder → List Entry → Start → Holder → Type 0
IsTakenBy p journal start q = (q ≡ after_take p journal) × StartsWith journal p.seen × (rows_of p.thread journal ≡ p.wrote) × (start ≡ p.start)

-- the pass of another thread had the value, whose journal, as it was last in the slot, began with what this pass last saw and had of its thread what it made
abbrev pub WasAway : Holder → Type 0
WasAway p = (other : ℕ) × (other ≢ p.thread) × (p.thread ≡ 0 → other < p.passes) × ((now : List Entry) × StartsWith now p.seen × (rows_of p.thread now ≡ p.wrote))

-- a slot whose passes are being ended: which one it is, how many passes there are, the start, and the rows that the ended ones made, and those that they last saw
pub record Ending : Type 0 where
  pub slot : TableId
  pub passes : ℕ
  pub start : Start
  pub wrote : List (List Entry)
  pub seen : List (List Entry)

-- the leading pass while the others are being ended
abbrev pub IsEnding : SlotView → Type 0
IsEnding v = (v.leads ≡ true) × (v.opened ≡ true) × (v.holds ≡ false) × (v.thread ≡ 0)

abbrev pub ending_as : TableId → SlotView → Ending
ending_as slot v = record { slot = slot; passes = v.made; start = v.start; wrote = v.wrote ∷ v.ended; seen = v.seen ∷ v.viewed }
