-- When logs fit together by their messages and by the stamps of their own entries, so that no row has to know the stamp of the Put whose message it took.
use Rattle.std.specs.Prelude.{◌≡◌, ℕ, ◌<◌, ◌≤◌, cond, ◌==◌, List, [], ◌∷◌, ◌++◌}
use Rattle.std.specs.List.{AllByRecursion}
use Rattle.bd_base.specs.declared.act.Act.{Act}
use Rattle.bd_base.specs.declared.act.Act.TheVariants as acts
use Rattle.bd_base.specs.declared.act.Entry.{Entry}
use Rattle.bd_base.specs.declared.setup.Setup.{Setup}
use Rattle.bd_machine.specs.declared.state.Registry.{Registry}
use Rattle.bd_machine.specs.Content.{Told}
use Rattle.bd_machine.specs.Run.{IsCompleteRun, state_after}
use Rattle.bd_machine.specs.Start.{registry_at_start}
use Rattle.bd_log.specs.Merge.{IsOrdered, entries_of}
use Rattle.bd_law_logs.specs.Rows.{Row, entries}
use Rattle.bd_law_logs.specs.Journals.{events, IsReplay}
use Rattle.bd_law_logs.specs.Fits.{FindsAt, IsMergeOf, IsPrefixOf}
use Rattle.bd_law_logs.specs.Laws.{AreShut, IsSeenAs}
use Rattle.bd_law_logs.specs.Turning.{HasItsMessage, put_to, took_from}

-- ---- stamps

abbrev pub put_stamp : ℕ → Act → ℕ → List ℕ
put_stamp u (acts.Put receiver number what) stamp = cond (receiver == u) (stamp ∷ []) []
put_stamp u _ stamp = []

abbrev pub took_stamp : ℕ → Act → ℕ → List ℕ
took_stamp s (acts.Took source number what) stamp = cond (source == s) (stamp ∷ []) []
took_stamp s _ stamp = []

-- the stamps of the entries that put a message to a thread, and of those that took one from it, in order
abbrev pub put_stamps : ℕ → List Row → List ℕ
put_stamps u [] = []
put_stamps u (r ∷ rs) = put_stamp u r.entry.act r.entry.stamp ++ put_stamps u rs

abbrev pub took_stamps : ℕ → List Row → List ℕ
took_stamps s [] = []
took_stamps s (r ∷ rs) = took_stamp s r.entry.act r.entry.stamp ++ took_stamps s rs

-- to each number of the second list there is one at its place in the first, and that is lower
abbrev pub AreLower : List ℕ → List ℕ → Type 0
AreLower xs [] = Unit {0}
AreLower [] (y ∷ ys) = ⊥
AreLower (x ∷ xs) (y ∷ ys) = (x < y) × AreLower xs ys

-- ---- the fit

-- logs by the number of their thread fit together, with the registry's journal from this registry on
pub record FitLoosely (setup : Setup) (registry : Registry) (logs : ℕ → List Row) (journal : List Entry) : Type 0 where
  -- what t took from s is a prefix of what s put to t
  pub messages : (s t : ℕ) → IsPrefixOf (took_from s (logs t)) (put_to t (logs s))
  -- each message was put by an entry with a lower stamp than that of the entry which took it
  pub later : (s t : ℕ) → AreLower (put_stamps t (logs s)) (took_stamps s (logs t))
  pub carry : (t : ℕ) → AllByRecursion HasItsMessage (logs t)
  -- messages are put only to threads that exist
  pub within : (t u : ℕ) → setup.threads ≤ u → put_to u (logs t) ≡ []
  -- the journal is in order, has of each thread the events of its log, and names the answers that the registry gives
  pub journal_ordered : IsOrdered journal
  pub journal_rows : (t : ℕ) → entries_of t journal ≡ events (entries (logs t))
  pub replay : IsReplay setup registry journal
  -- a row that asks the registry names what had to follow there
  pub finds : (t : ℕ) → AllByRecursion (FindsAt setup registry journal) (logs t)

-- logs that were shut down at rest, whose threads are done, and that fit so, are merged into a complete run
abbrev pub LooseLogsAreCompleteRun : Type 0
LooseLogsAreCompleteRun = (setup : Setup) (told : Told) (logs : ℕ → List Row) (journal merged : List Entry)
    → AreShut setup told logs journal → FitLoosely setup (registry_at_start setup) logs journal → IsMergeOf logs merged → IsCompleteRun setup told merged

-- the state that their merge leaves has for each thread what the thread saw at its end
abbrev pub LooseLogsEndAsSeen : Type 0
LooseLogsEndAsSeen = (setup : Setup) (told : Told) (logs : ℕ → List Row) (journal merged : List Entry) (sh : AreShut setup told logs journal) → FitLoosely setup (registry_at_start setup) logs journal → IsMergeOf logs merged
    → (t : ℕ) → t < setup.threads → IsSeenAs (state_after setup told merged) t (sh.ends t)
