-- Limits and injections as they are set, against the definitions.
use Rattle.std.proofs.Common.{◌≡◌, ℕ, Bool, true, false, cond, Option, None, Some, ap, sym, refl}
use Rattle.std.specs.Prelude.{Result, Ok, Err}
use Rattle.bd_base.specs.declared.device.ErrKind.{ErrKind}
use Rattle.bd_base.specs.declared.device.IoSet.{IoSet}
use Rattle.bd_base.specs.declared.device.RateSet.{RateSet}
use Rattle.bd_base.specs.declared.request.Errno.{Errno}
use Rattle.bd_base.specs.declared.request.Errno.TheVariants.{NoDev, Inval}
use Rattle.bd_base.specs.declared.setup.Setup.{Setup}
use Rattle.bd_devices.specs.Devices.{injected, injection_refusal, limit_refusal, limited}
use Rattle.bd_machine.specs.BlockMap.{is_error}
use Rattle.bd_machine.specs.Users.{dev_of}
use Rattle.bd_building.specs.Made.{with_injection_at, with_limits_at}

abbrev or_none : Option Errno → Errno
or_none None = NoDev
or_none (Some errno) = errno

abbrev okay : Setup → Result Setup Errno
okay setup = Ok setup

abbrev refuse : Errno → Result Setup Errno
refuse errno = Err errno

same_cause : (one other : Errno) → ◌≡◌ {A = Option Errno} (Some one) (Some other) → one ≡ other
same_cause one other e = ap or_none e

pub limits_set : (old new : Setup) (rates : RateSet) (named : Option ℕ) → limit_refusal named ≡ None → ((n : ℕ) → named ≡ Some n → new ≡ limited rates n old) → with_limits_at old rates named ≡ Ok new
limits_set old new rates None free set = cc
limits_set old new rates (Some n) free set = ap okay (sym (set n refl))

pub limits_refused : (old : Setup) (rates : RateSet) (named : Option ℕ) (errno : Errno) → limit_refusal named ≡ Some errno → with_limits_at old rates named ≡ Err errno
limits_refused old rates None errno cause = ap refuse (same_cause NoDev errno cause)
limits_refused old rates (Some n) errno cause = cc

pub injection_set : (old new : Setup) (types : IoSet) (kind : ErrKind) (count : ℕ) (named : Option ℕ) → injection_refusal old named ≡ None → ((n : ℕ) → named ≡ Some n → new ≡ injected types kind count n old)
    → with_injection_at old types kind count named ≡ Ok new
injection_set old new types kind count None free set = cc
injection_set old new types kind count (Some n) free set = go (is_error old (dev_of n)) free where
  go : (b : Bool) → cond b None (Some Inval) ≡ None → cond b (Ok (injected types kind count n old)) (Err Inval) ≡ Ok new
  go true free = ap okay (sym (set n refl))
  go false free = cc

pub injection_refused : (old : Setup) (types : IoSet) (kind : ErrKind) (count : ℕ) (named : Option ℕ) (errno : Errno) → injection_refusal old named ≡ Some errno → with_injection_at old types kind count named ≡ Err errno
injection_refused old types kind count None errno cause = ap refuse (same_cause NoDev errno cause)
injection_refused old types kind count (Some n) errno cause = go (is_error old (dev_of n)) cause where
  go : (b : Bool) → cond b None (Some Inval) ≡ Some errno → cond b (Ok (injected types kind count n old)) (Err Inval) ≡ Err errno
  go true cause = cc
  go false cause = ap refuse (same_cause Inval errno cause)
