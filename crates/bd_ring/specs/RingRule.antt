-- The rule of a ring: of each sender, what was taken and then what the ring holds is what it put.
use Rattle.std.specs.Prelude.{◌≡◌, ℕ, ◌+◌, ◌<◌, ◌≤◌, true, false, List, [], ◌∷◌, ◌++◌, length, slice_index_or}
use mathlib.Core.Option.{some}
use lib.ListN.{get_elem?}
use Rattle.bd_turns.specs.declared.queue.Post.{Post}
use Rattle.bd_ring.specs.declared.ring_rule.View.{View}
use Rattle.bd_ring.specs.Posts.{sent_by}

-- the receiver's pass: how many senders the ring is for, how many were made, what the ended ones put, and what was taken
abbrev pub receiver : ℕ → ℕ → List (List Post) → List Post → View
receiver senders made ended taken = record { senders = senders; receives = true; made = made; ended = ended; taken = taken; sends = false; from = 0; put = [] }

-- a sender's pass: how many senders the ring is for, its number, and what it put
abbrev pub sender : ℕ → ℕ → List Post → View
sender senders from put = record { senders = senders; receives = false; made = 0; ended = []; taken = []; sends = true; from = from; put = put }

-- the pass of nobody, also that of a sender that has ended
abbrev pub nobody : View
nobody = record { senders = 0; receives = false; made = 0; ended = []; taken = []; sends = false; from = 0; put = [] }

abbrev pub after_put : View → Post → View
after_put v x = record v { put = v.put ++ x ∷ [] }

abbrev pub after_take : View → Post → View
after_take v x = record v { taken = v.taken ++ x ∷ [] }

-- all that was put: what was taken, and then what the ring holds
abbrev pub all_put : List Post → List Post → List Post
all_put taken items = taken ++ items

-- a sender has a pass of its own, has not ended, and knows all that was put as this sender
abbrev pub FitsSender : ℕ → ℕ → List Post → ℕ → View → Type 0
FitsSender senders ended all pass v = v.sends ≡ true → (pass ≡ v.from + 1 + senders) × (ended ≤ v.from) × (v.put ≡ sent_by v.from all) × (v.senders ≡ senders)

-- the receiver has pass 0, and knows what was taken, how many senders were made, and what the ended ones put
abbrev pub FitsReceiver : ℕ → ℕ → List (List Post) → List Post → ℕ → View → Type 0
FitsReceiver passes senders ended taken pass v = v.receives ≡ true → (pass ≡ 0) × (v.made + 1 + senders ≡ passes) × (v.ended ≡ ended) × (v.taken ≡ taken) × (v.senders ≡ senders)

abbrev pub Fits : ℕ → ℕ → List (List Post) → List Post → List Post → ℕ → View → Type 0
Fits passes senders ended taken items pass v = FitsSender senders (length ended) (all_put taken items) pass v × FitsReceiver passes senders ended taken pass v

-- the rule, where the ring is for this number of senders, these are what the ended ones put, and this was taken; a sender that was not made has put nothing, and no more are made than the ring is for
abbrev pub Rules : ℕ → List (List Post) → List Post → List Post → List View → Type 0
Rules senders ended taken items views =
    ((k : ℕ) → k < length ended → slice_index_or ended k [] ≡ sent_by k (all_put taken items))
    × ((k : ℕ) → length views ≤ k + 1 + senders → sent_by k (all_put taken items) ≡ [])
    × (length views ≤ senders + 1 + senders)
    × ((pass : ℕ) (v : View) → get_elem? views pass ≡ some v → Fits (length views) senders ended taken items pass v)

abbrev pub RingRule : List Post → List View → Type 0
RingRule items views = (senders : ℕ) × (ended : List (List Post)) × (taken : List Post) × Rules senders ended taken items views

-- the ring holds messages of its senders alone, and of this one the last that it put
abbrev pub HoldsLast : View → List Post → Type 0
HoldsLast v items = ((before : List Post) × (v.put ≡ before ++ sent_by v.from items)) × ((k : ℕ) → v.senders ≤ k → sent_by k items ≡ [])

-- of each ended sender, what was taken and then what the ring holds is what it put; of senders that were not made there is nothing
abbrev pub Delivers : View → List Post → Type 0
Delivers v items =
    ((k : ℕ) → k < length v.ended → slice_index_or v.ended k [] ≡ sent_by k (all_put v.taken items))
    × ((k : ℕ) → v.made ≤ k → sent_by k (all_put v.taken items) ≡ [])

-- the message that was taken is of one of the senders
abbrev pub IsTaken : View → Post → View → Type 0
IsTaken v x w = (w ≡ after_take v x) × (x.message.sender < v.made)

-- this message was the first of those that the ring held
abbrev pub IsNext : View → Post → View → Type 0
IsNext v x w = (w ≡ after_take v x) × ((items : List Post) × Delivers v (x ∷ items))
