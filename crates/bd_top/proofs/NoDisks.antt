-- A setup without aio devices: nothing is told of disks.
use Rattle.std.proofs.Common.{◌≡◌, ℕ, zero, suc, Bool, true, false, cond, ◌&&◌, ◌==◌, List, [], ◌∷◌, length, map, Option, Some, None, refl, ap, subst}
use Rattle.std.specs.List.{AllByRecursion, filter_map, range_with_len, slice_get}
use Rattle.std.proofs.lemmas.Option.{same_Some}
use Rattle.bd_base.specs.declared.act.Entry.{Entry}
use Rattle.bd_base.specs.declared.device.DevRow.{DevRow}
use Rattle.bd_base.specs.declared.device.Kind.{Kind}
use Rattle.bd_base.specs.declared.device.Kind.TheVariants as kinds
use Rattle.bd_base.specs.declared.id.DevId.{DevId}
use Rattle.bd_base.specs.declared.setup.Setup.{Setup}
use Rattle.bd_machine.specs.declared.state.Base.{Base}
use Rattle.bd_machine.specs.declared.state.Content.{Content}
use Rattle.bd_machine.specs.declared.state.State.{State}
use Rattle.bd_machine.specs.BlockMap.{home, is_aio_kind, is_base_kind, row_of}
use Rattle.bd_machine.specs.Content.{content_at_start, Told}
use Rattle.bd_machine.specs.Run.{after_all, is_finished, IsCompleteRun, IsRunFrom}
use Rattle.bd_machine.specs.Start.{base_at_start, base_if_here, bases_at_start, part_at_start, start}
use Rattle.bd_machine.specs.Users.{dev_of}

-- no row is of a disk
abbrev pub AreNoneAio : List DevRow → Type 0
AreNoneAio rows = (n : ℕ) (row : DevRow) → slice_get rows n ≡ Some row → is_aio_kind row.kind ≡ false

module _ (setup : Setup) (told : Told) (none : AreNoneAio setup.devices) where
  content_same : (dev : DevId) (kind : Kind) (size blocks : ℕ) → is_base_kind kind ≡ true → is_aio_kind kind ≡ false → content_at_start told dev kind size blocks ≡ content_at_start [] dev kind size blocks
  content_same dev kinds.Malloc size blocks base other = refl
  content_same dev kinds.Null size blocks base other = refl
  content_same dev kinds.Aio size blocks base other = cc
  content_same dev kinds.Passthru size blocks base other = cc
  content_same dev (kinds.Part shift) size blocks base other = cc
  content_same dev (kinds.Delay average_read p99_read average_write p99_write) size blocks base other = cc
  content_same dev kinds.Error size blocks base other = cc

  base_same : (t : ℕ) (dev : DevId) (o : Option DevRow) → row_of setup dev ≡ o → base_if_here setup told t dev o ≡ base_if_here setup [] t dev o
  base_same t dev None at = refl
  base_same t dev (Some row) at = go (is_base_kind row.kind) refl
    where
      go : (b : Bool) → is_base_kind row.kind ≡ b
          → cond (b && (home setup dev == t)) (Some (base_at_start told dev row)) None ≡ cond (b && (home setup dev == t)) (Some (base_at_start [] dev row)) None
      go false is = refl
      go true is = ap (λ (x : Content). cond (home setup dev == t) (let b : Base = record { dev = dev; content = x; queue = [] } in Some b) None) (content_same dev row.kind row.size row.blocks is (none dev.0 row at))

  bases_same : (t : ℕ) → bases_at_start setup told t ≡ bases_at_start setup [] t
  bases_same t = ap (λ (f : ℕ → Option Base). filter_map f (range_with_len 0 (length setup.devices))) (λ k n. base_same t (dev_of n) (row_of setup (dev_of n)) refl k)

  start_same : start setup told ≡ start setup []
  start_same =
      let with_bases : (ℕ → List Base) → State = λ bases. record (start setup []) { parts = map (λ t. record (part_at_start setup [] t) { bases = bases t }) (range_with_len 0 setup.threads) } in
      ap with_bases (λ k t. bases_same t k)

  -- **what is told makes no difference**
  pub told_nothing : (trace : List Entry) → IsCompleteRun setup told trace → IsCompleteRun setup [] trace
  told_nothing trace run = subst (λ (s : State). IsRunFrom setup s trace × (is_finished setup (after_all setup s trace) ≡ true)) start_same run

pub kinds_fine : (rows : List DevRow) → AllByRecursion (λ (row : DevRow). is_aio_kind row.kind ≡ false) rows → AreNoneAio rows
kinds_fine [] all n row at = cc
kinds_fine (first ∷ rows) all zero row at = subst (λ (r : DevRow). is_aio_kind r.kind ≡ false) (same_Some first row at) all.0
kinds_fine (first ∷ rows) all (suc n) row at = kinds_fine rows all.1 n row at
