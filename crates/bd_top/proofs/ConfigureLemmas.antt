-- Why bytes configure no devices, by the step that found it; and that nothing is wrong with those that do.
use Rattle.std.proofs.Common.{◌≡◌, ℕ, inl, inr, List, refl, sym, ◌∙◌, subst}
use Rattle.std.specs.Prelude.{ℤ, Result, Ok, Err}
use Rattle.bd_config.specs.Config.{IsConfig}
use Rattle.bd_config.proofs.Exact.{config_once, config_has_shape, config_has_commands}
use Rattle.bd_config.specs.declared.command.Command.{Command}
use Rattle.bd_building.specs.Progress.{Progress, configured}
use Rattle.bd_outside.specs.File.{Told}
use Rattle.bd_top.specs.declared.configure.ConfigureError.{ConfigureError}
use Rattle.bd_top.specs.declared.configure.ConfigureError.TheVariants.{OutOfMemory, Text, Shape, Method}
use Rattle.bd_top.specs.Configure.{IsRefused, IsRefusedAnyhow, IsUndone, CommandsCause, CauseBy}
use Rattle.bd_top.specs.Disks.{AreDisksOf}

-- a cause before any command is done is one however commands are refused
pub cause_by : (Refused : List Command → ℕ → ℤ → Type 0) (bytes : List ℕ) (no : ConfigureError) → CommandsCause bytes no → CauseBy Refused bytes no
cause_by Refused bytes OutOfMemory cause = tt
cause_by Refused bytes Text cause = cause
cause_by Refused bytes (Shape place) cause = cause
cause_by Refused bytes (Method index code) cause = inl cause

-- ---- bytes that configure devices

ok_is_err : {X Y : Type 0} (r : Result X Y) (x : X) (y : Y) → r ≡ Ok x → r ≡ Err y → ⊥
ok_is_err {X = X} {Y = Y} r x y ok err =
    let both : ◌≡◌ {A = Result X Y} (Ok x) (Err y) = sym ok ∙ err in
    absurd (cc)

-- of commands that make devices, whatever blocks their disks have, none is refused
pub not_refused : (threads : ℕ) (told : List ℕ → Told) (commands : List Command) (index : ℕ) (code : ℤ)
    → ((disks : List ℕ) → AreDisksOf told commands disks → (devices : Progress) × (configured threads commands disks ≡ Ok devices)) → IsRefused threads told commands index code → ⊥
not_refused threads told commands index code made refused =
    let done : (devices : Progress) × (configured threads commands refused.disks ≡ Ok devices) = made refused.disks refused.may in
    ok_is_err (configured threads commands refused.disks) done.0 (index, refused.errno) done.1 refused.first

-- nor is one refused whatever blocks they have, where they make devices with some
pub not_refused_anyhow : (threads : ℕ) (told : List ℕ → Told) (commands : List Command) (index : ℕ) (code : ℤ) (disks : List ℕ) (devices : Progress)
    → AreDisksOf told commands disks → configured threads commands disks ≡ Ok devices → IsRefusedAnyhow threads told commands index code → ⊥
not_refused_anyhow threads told commands index code disks devices may made refused =
    ok_is_err (configured threads commands disks) devices (index, refused.errno) made (refused.first disks may)

module _ (Refused : List Command → ℕ → ℤ → Type 0) (bytes : List ℕ) (commands : List Command) (asks : IsConfig bytes commands)
    (never : (index : ℕ) (code : ℤ) → Refused commands index code → ⊥) where
  done_is_undone : (index : ℕ) (code : ℤ) → IsUndone Refused bytes index code → ⊥
  done_is_undone index code undone =
      let same : undone.commands ≡ commands = config_once bytes undone.commands commands undone.asks asks in
      never index code (subst (λ (cs : List Command). Refused cs index code) same undone.why)

  -- nothing but want of memory is wrong with bytes whose commands are never refused
  pub nothing_wrong : (no : ConfigureError) → CauseBy Refused bytes no → no ≡ OutOfMemory
  nothing_wrong OutOfMemory cause = refl
  nothing_wrong Text cause = absurd (cause asks.value asks.json)
  nothing_wrong (Shape place) cause = absurd (config_has_shape bytes commands place asks cause)
  nothing_wrong (Method index code) (inl cause) = absurd (config_has_commands bytes commands index code asks cause)
  nothing_wrong (Method index code) (inr cause) = absurd (done_is_undone index code cause)
