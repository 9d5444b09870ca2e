-- The handles that are open before any event.
use Rattle.std.proofs.Common.{◌≡◌, ℕ, zero, suc, ◌+◌, ◌<◌, List, [], ◌∷◌, length, get_or, filter, Option, refl, sym, ◌∙◌, ap, subst, arith}
use Rattle.bd_base.specs.declared.id.DevId.{DevId}
use Rattle.bd_base.specs.declared.setup.Setup.{Setup}
use Rattle.bd_machine.specs.declared.state.Channel.{Channel}
use Rattle.bd_machine.specs.declared.state.Handle.{Handle}
use Rattle.bd_machine.specs.declared.state.Registry.{Registry}
use Rattle.bd_machine.specs.Limits.{is_limited}
use Rattle.bd_machine.specs.Start.{bare_registry, handles_from, registry_at_start, with_channel, with_channels}
use Rattle.bd_machine.specs.Users.{all_devices, firsts}
use Rattle.bd_rule_channels.specs.Counts.{Table, Has}
use Rattle.bd_registry.specs.Handles.{AreCounted, HandleTable, Keeps}
use Rattle.bd_registry.specs.Tables.{Agrees}

handles_kept : (setup : Setup) (devs : List DevId) (r : Registry) → (with_channels setup devs r).handles ≡ r.handles
handles_kept setup [] r = refl
handles_kept setup (d ∷ ds) r = handles_kept setup ds (with_channel setup d r)

next_kept : (setup : Setup) (devs : List DevId) (r : Registry) → (with_channels setup devs r).next ≡ r.next
next_kept setup [] r = refl
next_kept setup (d ∷ ds) r = next_kept setup ds (with_channel setup d r)

counted_from : (setup : Setup) (n : ℕ) (devs : List DevId) → AreCounted n (handles_from setup n devs)
counted_from setup n [] = tt
counted_from setup n (d ∷ ds) = (refl, counted_from setup (n + 1) ds)

length_from : (setup : Setup) (n : ℕ) (devs : List DevId) → length (handles_from setup n devs) ≡ length devs
length_from setup n [] = refl
length_from setup n (d ∷ ds) = ap (λ (k : ℕ). suc k) (length_from setup (n + 1) ds)

pub start_counted : (setup : Setup) → AreCounted 0 (registry_at_start setup).handles
start_counted setup = subst (AreCounted 0) (sym (handles_kept setup (filter (is_limited setup) (all_devices setup)) (bare_registry setup))) (counted_from setup 0 (firsts setup))

pub start_next : (setup : Setup) → length (registry_at_start setup).handles ≡ (registry_at_start setup).next
start_next setup =
    ap (λ (hs : List Handle). length hs) (handles_kept setup (filter (is_limited setup) (all_devices setup)) (bare_registry setup))
    ∙ length_from setup 0 (firsts setup)
    ∙ sym (next_kept setup (filter (is_limited setup) (all_devices setup)) (bare_registry setup))

-- the number of the handle of a place
pub counted_at : (n : ℕ) (hs : List Handle) (i : ℕ) (d : Handle) → i < length hs → AreCounted n hs → (get_or hs i d).id.0 ≡ n + i
counted_at n [] i d h a = absurd (omega arith)
counted_at n (x ∷ xs) zero d h a = omega (arith, a.0)
counted_at n (x ∷ xs) (suc i) d h a = omega (arith, counted_at (n + 1) xs i d (omega arith) a.1)

-- tables that were loaded from what is before any event agree with it
pub start_agrees : (setup : Setup) (r : Registry) → r ≡ registry_at_start setup → (handles : HandleTable) (channels : Table) (hs : List Handle) (cs : List (Channel × Option ℕ))
    → hs ≡ r.handles → cs ≡ r.channels → Keeps handles hs → length handles.devices ≡ length hs → Has channels cs
    → Agrees (record { handles = handles; channels = channels; devices = r.devices; between = r.between }) (registry_at_start setup)
start_agrees setup r is handles channels hs cs hs-are cs-are keeps next has =
    subst (λ (s : Registry). Agrees (record { handles = handles; channels = channels; devices = r.devices; between = r.between }) s) is
    (record {
      handles = subst (λ (xs : List Handle). Keeps handles xs) hs-are keeps;
      next = next ∙ ap (λ (xs : List Handle). length xs) (hs-are ∙ ap (λ (s : Registry). s.handles) is) ∙ start_next setup ∙ ap (λ (s : Registry). s.next) (sym is);
      channels = subst (λ (xs : List (Channel × Option ℕ)). Has channels xs) cs-are has;
      devices = refl;
      between = refl;
    })
