-- Logs of several threads as one list, by stamp and thread.
use Rattle.std.specs.Prelude.{◌≡◌, ◌≢◌, ℕ, ◌<◌, Bool, true, false, ◌==◌, ◌&&◌, ◌||◌, nat_lt, ◌⊎◌, List, [], ◌∷◌, ◌++◌, All, AllPairs, Contains, map, filter}
use Rattle.std.specs.List.{AllByRecursion}
use Rattle.bd_base.specs.declared.act.Entry.{Entry}

-- a log, or a part of one: the thread and its entries in order
pub record Part : Type 0 where
  pub thread : ℕ
  pub entries : List Entry

abbrev pub threads_of : List Part → List ℕ
threads_of parts = map (λ p. p.thread) parts

-- the stamps rise
abbrev pub Rises : List Entry → Type 0
Rises [] = Unit {0}
Rises (x ∷ xs) = AllByRecursion (λ y. x.stamp < y.stamp) xs × Rises xs

-- its entries are of its thread, and their stamps rise
abbrev pub IsPart : Part → Type 0
IsPart p = AllByRecursion (λ x. x.thread ≡ p.thread) p.entries × Rises p.entries

-- the first comes before the second: its stamp is less, or is the same and its thread is less
abbrev pub IsBefore : Entry → Entry → Type 0
IsBefore x y = (x.stamp < y.stamp) ⊎ ((x.stamp ≡ y.stamp) × (x.thread < y.thread))

-- each entry comes before all that follow it
abbrev pub IsOrdered : List Entry → Type 0
IsOrdered [] = Unit {0}
IsOrdered (x ∷ xs) = AllByRecursion (IsBefore x) xs × IsOrdered xs

-- the entries of a thread
abbrev pub entries_of : ℕ → List Entry → List Entry
entries_of t entries = filter (λ x. x.thread == t) entries

-- the merge: by stamp and thread, each thread's entries are those of its part, and there are no others
pub record IsMerge (parts : List Part) (merged : List Entry) : Type 0 where
  pub ordered : IsOrdered merged
  pub own : All (λ p. entries_of p.thread merged ≡ p.entries) parts
  pub known : AllByRecursion (λ x. Contains (threads_of parts) x.thread) merged

-- no two parts are of one thread
abbrev pub AreOfDifferentThreads : List Part → Type 0
AreOfDifferentThreads parts = AllPairs (λ p q. p.thread ≢ q.thread) parts

-- the merge of the parts was put after what was there
pub record AppendsMerge (parts : List Part) (old new : List Entry) : Type 0 where
  pub merged : List Entry
  pub is : new ≡ old ++ merged
  pub is_merge : IsMerge parts merged

-- logs have one merge
abbrev pub MergeIsUnique : Type 0
MergeIsUnique = (parts : List Part) (xs ys : List Entry) → IsMerge parts xs → IsMerge parts ys → xs ≡ ys

-- each part followed by the later part of the same thread
abbrev pub joined : List Part → List Part → List Part
joined [] later = []
joined (p ∷ ps) [] = []
joined (p ∷ ps) (q ∷ qs) = record { thread = p.thread; entries = p.entries ++ q.entries } ∷ joined ps qs

-- merging by parts is merging the whole, where each entry comes before all of a later part
abbrev pub MergingByParts : Type 0
MergingByParts = (parts later : List Part) (xs ys : List Entry) → threads_of parts ≡ threads_of later → IsMerge parts xs → IsMerge later ys → AllByRecursion (λ x. AllByRecursion (IsBefore x) ys) xs → IsMerge (joined parts later) (xs ++ ys)

-- a test of `IsBefore`
abbrev pub is_before : Entry → Entry → Bool
is_before x y = nat_lt x.stamp y.stamp || ((x.stamp == y.stamp) && nat_lt x.thread y.thread)

-- the first of the one comes before that of the other; a list without entries comes last
abbrev pub head_before : List Entry → List Entry → Bool
head_before [] ys = false
head_before (x ∷ xs) [] = true
head_before (x ∷ xs) (y ∷ ys) = is_before x y
