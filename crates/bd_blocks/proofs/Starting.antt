-- Bases found one after another.
use Rattle.std.proofs.Common.{◌≡◌, ℕ, Bool, true, false, cond, List, ◌∷◌, ◌++◌, Option, Some, None, filter, map, refl, sym, ◌∙◌, ap}
use Rattle.std.specs.List.{cons_option}
use Rattle.std.specs.Prelude.{option_to_list}
use Rattle.bd_base.specs.declared.setup.Setup.{Setup}
use Rattle.bd_machine.specs.declared.state.Registry.{Registry}
use Rattle.bd_machine.specs.Limits.{is_limited}
use Rattle.bd_machine.specs.Start.{with_channel, with_channels}
use Rattle.bd_machine.specs.Users.{dev_of}

pub next_base : {X : Type 0} (o : Option X) (xs : List X) → cons_option o xs ≡ option_to_list o ++ xs
next_base None xs = refl
next_base (Some x) xs = refl

-- ---- channels of limited devices

module _ (setup : Setup) (n : ℕ) (left bs : List ℕ) (was now total : Registry) where
  pub channel_taken : left ≡ n ∷ bs → is_limited setup (dev_of n) ≡ true → now ≡ with_channel setup (dev_of n) was
      → with_channels setup (filter (is_limited setup) (map dev_of left)) was ≡ total → with_channels setup (filter (is_limited setup) (map dev_of bs)) now ≡ total
  channel_taken e is grown all =
      ap (with_channels setup (filter (is_limited setup) (map dev_of bs))) grown
      ∙ sym (ap (λ (xs : List ℕ). with_channels setup (filter (is_limited setup) (map dev_of xs)) was) e
      ∙ ap (λ (b : Bool). with_channels setup (cond b (dev_of n ∷ filter (is_limited setup) (map dev_of bs)) (filter (is_limited setup) (map dev_of bs))) was) is)
      ∙ all

  pub channel_left : left ≡ n ∷ bs → is_limited setup (dev_of n) ≡ false → now ≡ was
      → with_channels setup (filter (is_limited setup) (map dev_of left)) was ≡ total → with_channels setup (filter (is_limited setup) (map dev_of bs)) now ≡ total
  channel_left e is same all =
      ap (with_channels setup (filter (is_limited setup) (map dev_of bs))) same
      ∙ sym (ap (λ (xs : List ℕ). with_channels setup (filter (is_limited setup) (map dev_of xs)) was) e
      ∙ ap (λ (b : Bool). with_channels setup (cond b (dev_of n ∷ filter (is_limited setup) (map dev_of bs)) (filter (is_limited setup) (map dev_of bs))) was) is)
      ∙ all
