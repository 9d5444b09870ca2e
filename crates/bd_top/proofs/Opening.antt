-- Commands done one after the other, each with the disk that it opens, against the definition of all of them.
use Rattle.std.proofs.Common.{◌≡◌, ◌∙◌, ℕ, ◌+◌, ◌/◌, inr, List, [], ◌∷◌, ◌++◌, length, Option, None, Some, ap, sym, refl, subst, append_assoc}
use Rattle.std.proofs.lemmas.List.{append-nil}
use Rattle.std.specs.Prelude.{ℤ}
use Rattle.bd_building.specs.Disks.{DiskFile, file_of, other_disks, own_blocks}
use Rattle.bd_building.specs.Progress.{Outcome, Progress, after_all, configured, nothing_yet, stepped, then_on}
use Rattle.bd_config.specs.declared.command.Command.{Command}
use Rattle.bd_outside.specs.File.{Told, Untold, NoFile, Content}
use Rattle.bd_top.specs.Configure.{IsRefused}
use Rattle.bd_top.specs.Disks.{AreDisksOf, BeginsWith, MayHave, MayGive, Opens}
use Rattle.bd_top.specs.Opening.{AreDone, IsStep, IsStepRefused}

-- ---- disks that weren't opened

abbrev blocks_told : Told → ℕ → ℕ
blocks_told Untold size = 0
blocks_told NoFile size = 0
blocks_told (Content file) size = length file / size

may_have : (t : Told) (size : ℕ) → MayHave t size (blocks_told t size)
may_have Untold size = tt
may_have NoFile size = tt
may_have (Content file) size = refl

-- a disk of so many blocks before others, where a file is opened
abbrev with_first : Option DiskFile → ℕ → List ℕ → List ℕ
with_first None blocks disks = disks
with_first (Some file) blocks disks = blocks ∷ disks

abbrev blocks_at : (List ℕ → Told) → Option DiskFile → ℕ
blocks_at told None = 0
blocks_at told (Some file) = blocks_told (told file.name) file.size

may_give : (told : List ℕ → Told) (file : Option DiskFile) → MayGive told file (blocks_at told file)
may_give told None = refl
may_give told (Some file) = may_have (told file.name) file.size

begins : (told : List ℕ → Told) (file : Option DiskFile) (blocks : ℕ) (disks : List ℕ) → MayGive told file blocks → BeginsWith told file (with_first file blocks disks)
begins told None blocks disks may = tt
begins told (Some file) blocks disks may = may

others : (file : Option DiskFile) (blocks : ℕ) (disks : List ℕ) → other_disks file (with_first file blocks disks) ≡ disks
others None blocks disks = refl
others (Some file) blocks disks = refl

own : (told : List ℕ → Told) (file : Option DiskFile) (blocks : ℕ) (disks : List ℕ) → MayGive told file blocks → own_blocks file (with_first file blocks disks) ≡ blocks
own told None blocks disks may = sym may
own told (Some file) blocks disks may = refl

-- blocks that the disks of these commands may have
abbrev likely : (List ℕ → Told) → List Command → List ℕ
likely told [] = []
likely told (command ∷ commands) = with_first (file_of command) (blocks_at told (file_of command)) (likely told commands)

more_disks : (told : List ℕ → Told) (command : Command) (commands : List Command) (blocks : ℕ) (disks : List ℕ) → MayGive told (file_of command) blocks → AreDisksOf told commands disks
    → AreDisksOf told (command ∷ commands) (with_first (file_of command) blocks disks)
more_disks told command commands blocks disks may are =
    (begins told (file_of command) blocks disks may, subst (AreDisksOf told commands) (sym (others (file_of command) blocks disks)) are)

likely_are : (told : List ℕ → Told) (commands : List Command) → AreDisksOf told commands (likely told commands)
likely_are told [] = refl
likely_are told (command ∷ commands) = more_disks told command commands (blocks_at told (file_of command)) (likely told commands) (may_give told (file_of command)) (likely_are told commands)

-- ---- one command

step_of_all : (told : List ℕ → Told) (index : ℕ) (progress : Progress) (command : Command) (commands : List Command) (blocks : ℕ) (disks : List ℕ) → MayGive told (file_of command) blocks
    → after_all index progress (command ∷ commands) (with_first (file_of command) blocks disks) ≡ then_on (stepped progress index command blocks) (λ next. after_all (index + 1) next commands disks)
step_of_all told index progress command commands blocks disks may =
    ap (λ (b : ℕ). then_on (stepped progress index command b) (λ next. after_all (index + 1) next commands (other_disks (file_of command) (with_first (file_of command) blocks disks)))) (own told (file_of command) blocks disks may)
    ∙ ap (λ (ds : List ℕ). then_on (stepped progress index command blocks) (λ next. after_all (index + 1) next commands ds)) (others (file_of command) blocks disks)

-- some of the commands were done with disks of these blocks and came to this progress, and these are left, the first of this index
pub record IsOnWay (told : List ℕ → Told) (threads : ℕ) (commands : List Command) (index : ℕ) (progress : Progress) (left : List Command) : Type 0 where
  pub blocks : List ℕ
  pub may : (more : List ℕ) → AreDisksOf told left more → AreDisksOf told commands (blocks ++ more)
  pub is : (more : List ℕ) → configured threads commands (blocks ++ more) ≡ after_all index progress left more
  pub opens : (name : List ℕ) → Opens left name → Opens commands name

pub starts : (told : List ℕ → Told) (threads : ℕ) (commands : List Command) → IsOnWay told threads commands 0 (nothing_yet threads) commands
starts told threads commands = record { blocks = []; may = λ more are. are; is = λ more. refl; opens = λ name opens. opens }

joined : (file : Option DiskFile) (blocks : ℕ) (front more : List ℕ) → (front ++ with_first file blocks []) ++ more ≡ front ++ with_first file blocks more
joined None blocks front more = ap (λ (xs : List ℕ). xs ++ more) (append-nil front)
joined (Some file) blocks front more = append_assoc front (blocks ∷ []) more

pub goes_on : (told : List ℕ → Told) (threads : ℕ) (commands : List Command) (index : ℕ) (progress next : Progress) (command : Command) (left : List Command)
    → IsOnWay told threads commands index progress (command ∷ left) → IsStep told progress index command next → IsOnWay told threads commands (index + 1) next left
goes_on told threads commands index progress next command left way step = record {
  blocks = way.blocks ++ with_first (file_of command) step.blocks [];
  may = λ more are. subst (AreDisksOf told commands) (sym (joined (file_of command) step.blocks way.blocks more)) (way.may (with_first (file_of command) step.blocks more) (more_disks told command left step.blocks more step.may are));
  is = λ more.
      ap (configured threads commands) (joined (file_of command) step.blocks way.blocks more)
      ∙ way.is (with_first (file_of command) step.blocks more)
      ∙ step_of_all told index progress command left step.blocks more step.may
      ∙ ap (λ (o : Outcome). then_on o (λ p. after_all (index + 1) p left more)) step.is;
  opens = λ name opens. way.opens name (inr opens);
}

pub ends : (told : List ℕ → Told) (threads : ℕ) (commands : List Command) (index : ℕ) (progress : Progress) → IsOnWay told threads commands index progress [] → AreDone told threads commands progress
ends told threads commands index progress way = record { disks = way.blocks ++ []; may = way.may [] refl; is = way.is [] }

pub is_refused : (told : List ℕ → Told) (threads : ℕ) (commands : List Command) (index : ℕ) (progress : Progress) (command : Command) (left : List Command)
    → IsOnWay told threads commands index progress (command ∷ left) → (place : ℕ) (code : ℤ) → IsStepRefused told progress index command place code → IsRefused threads told commands place code
is_refused told threads commands index progress command left way place code refused = record {
  disks = way.blocks ++ with_first (file_of command) refused.blocks (likely told left);
  may = way.may (with_first (file_of command) refused.blocks (likely told left)) (more_disks told command left refused.blocks (likely told left) refused.may (likely_are told left));
  errno = refused.errno;
  first =
      way.is (with_first (file_of command) refused.blocks (likely told left))
      ∙ step_of_all told index progress command left refused.blocks (likely told left) refused.may
      ∙ ap (λ (o : Outcome). then_on o (λ p. after_all (index + 1) p left (likely told left))) refused.first;
  is = refused.is;
}
