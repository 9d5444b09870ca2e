-- The way down from a device.
use Rattle.std.proofs.Common.{◌≡◌, ℕ, zero, suc, ◌+◌, Bool, true, false, ◌&&◌, ◌||◌, ◌==◌, List, [], ◌∷◌, length, map, Option, Some, None, refl, sym, ◌∙◌, ap, arith}
use Rattle.std.specs.List.{list_all}
use Rattle.bd_base.specs.declared.device.DevRow.{DevRow}
use Rattle.bd_base.specs.declared.id.DevId.{DevId}
use Rattle.bd_base.specs.declared.setup.Setup.{Setup}
use Rattle.bd_machine.specs.BlockMap.{Block, base_of, base_of_row, below, dev_of_block, has_kind, is_whole_kind, is_whole_or, last_of, path, path_within, row_of, shift_of_row, stands_on, under}
use Rattle.bd_stack.specs.Walks.{devices_left}

-- ---- the devices

none_lower : (o : Option DevId) → map dev_of_block (under o (λ base. [])) ≡ []
none_lower None = refl
none_lower (Some base) = refl

some_lower : (setup : Setup) (n b : ℕ) (o : Option DevId) → ((base : DevId) → map dev_of_block (path_within (suc n) setup base b) ≡ devices_left setup n (Some base))
    → map dev_of_block (under o (λ base. path_within (suc n) setup base b)) ≡ devices_left setup n o
some_lower setup n b None h = refl
some_lower setup n b (Some base) h = h base

devices_are : (setup : Setup) (n : ℕ) (dev : DevId) (b : ℕ) → map dev_of_block (path_within (suc n) setup dev b) ≡ devices_left setup n (Some dev)
devices_are setup zero dev b = ap (λ (ds : List DevId). dev ∷ ds) (none_lower (stands_on setup dev))
devices_are setup (suc n) dev b =
    let lower : ℕ = shift_of_row (row_of setup dev) + b in
    ap (λ (ds : List DevId). dev ∷ ds) (some_lower setup n lower (stands_on setup dev) (λ base. devices_are setup n base lower))

-- the devices that a walk comes to are those below
pub below_is : (setup : Setup) (n : ℕ) (dev : DevId) → n ≡ length setup.devices → devices_left setup n (Some dev) ≡ below setup dev
below_is setup n dev e = ap (λ (k : ℕ). devices_left setup k (Some dev)) e ∙ sym (devices_are setup (length setup.devices) dev 0)

-- ---- the last of them

abbrev pub last_dev : DevId → List DevId → DevId
last_dev dev [] = dev
last_dev dev (lower ∷ lowers) = last_dev lower lowers

last_block : (block : Block) (blocks : List Block) → last_dev block.dev (map dev_of_block blocks) ≡ (last_of block blocks).dev
last_block block [] = refl
last_block block (lower ∷ lowers) = last_block lower lowers

-- the last device below is the base
pub base_is_last : (setup : Setup) (dev : DevId) → last_dev dev (below setup dev) ≡ base_of setup dev
base_is_last setup dev = last_block (record { dev = dev; number = 0 }) (path setup dev 0)

-- ---- so many steps down

-- the device at most n steps below
abbrev pub bottom : Setup → ℕ → DevId → DevId
bottom setup n dev = last_dev dev (devices_left setup n (Some dev))

pub bottom_starts : (setup : Setup) (n : ℕ) (dev : DevId) → n ≡ length setup.devices → bottom setup n dev ≡ base_of setup dev
bottom_starts setup n dev e = ap (last_dev dev) (below_is setup n dev e) ∙ base_is_last setup dev

-- it stands on another
left_lower : (setup : Setup) (n m : ℕ) (dev lower : DevId) → stands_on setup dev ≡ Some lower → n ≡ suc m → devices_left setup n (Some dev) ≡ dev ∷ devices_left setup m (Some lower)
left_lower setup n m dev lower e f =
    ap (λ (k : ℕ). devices_left setup k (Some dev)) f ∙ ap (λ (o : Option DevId). dev ∷ devices_left setup m o) e

lower_first : (setup : Setup) (n : ℕ) (dev lower : DevId) → last_dev dev (devices_left setup n (Some lower)) ≡ bottom setup n lower
lower_first setup zero dev lower = refl
lower_first setup (suc n) dev lower = refl

pub bottom_lower : (setup : Setup) (n m : ℕ) (dev lower : DevId) → stands_on setup dev ≡ Some lower → n ≡ suc m → bottom setup n dev ≡ bottom setup m lower
bottom_lower setup n m dev lower e f = ap (last_dev dev) (left_lower setup n m dev lower e f) ∙ lower_first setup m dev lower

-- one that has each block of the device that it stands on leaves it to those below
pub whole_lower : (setup : Setup) (top dev lower : DevId) (row : DevRow) (n m : ℕ)
    → row_of setup dev ≡ Some row
    → is_whole_kind row.kind ≡ true
    → row.base ≡ Some lower
    → n ≡ suc m
    → list_all (is_whole_or setup top) (devices_left setup m (Some lower)) ≡ list_all (is_whole_or setup top) (devices_left setup n (Some dev))
whole_lower setup top dev lower row n m here kind base e =
    let all : List DevId → Bool = list_all (is_whole_or setup top) in
    let whole : is_whole_or setup top dev ≡ true = ap (λ (o : Option DevRow). (dev.0 == top.0) || has_kind is_whole_kind o) here ∙ ap (λ b. (dev.0 == top.0) || b) kind ∙ or_true (dev.0 == top.0) in
    sym (ap all (left_lower setup n m dev lower (ap base_of_row here ∙ base) e) ∙ ap (λ b. b && all (devices_left setup m (Some lower))) whole)
  where
    or_true : (b : Bool) → (b || true) ≡ true
    or_true true = refl
    or_true false = refl

-- ---- the blocks

last_none : (block : Block) (o : Option DevId) → last_of block (under o (λ base. [])) ≡ block
last_none block None = refl
last_none block (Some base) = refl

-- no step is left
pub last_here : (setup : Setup) (n : ℕ) (dev : DevId) (b : ℕ) → n ≡ 0 → ◌≡◌ {A = Block} (record { dev = dev; number = b }) (last_of (record { dev = dev; number = b }) (path_within (suc n) setup dev b))
last_here setup zero dev b e = sym (last_none (record { dev = dev; number = b }) (stands_on setup dev))
last_here setup (suc n) dev b e = absurd (omega (arith, e))

-- it stands on no other
pub last_alone : (setup : Setup) (n : ℕ) (dev : DevId) (b : ℕ) → stands_on setup dev ≡ None → ◌≡◌ {A = Block} (record { dev = dev; number = b }) (last_of (record { dev = dev; number = b }) (path_within (suc n) setup dev b))
last_alone setup n dev b e =
    sym (ap (λ (o : Option DevId). last_of (record { dev = dev; number = b }) (under o (λ base. path_within n setup base (shift_of_row (row_of setup dev) + b)))) e)

-- it stands on another
pub last_lower : (setup : Setup) (n m : ℕ) (dev base : DevId) (b lower : ℕ) (place : Block) → stands_on setup dev ≡ Some base → lower ≡ shift_of_row (row_of setup dev) + b → n ≡ suc m
    → place ≡ last_of (record { dev = base; number = lower }) (path_within (suc m) setup base lower)
    → place ≡ last_of (record { dev = dev; number = b }) (path_within (suc n) setup dev b)
last_lower setup n m dev base b lower place e f g h =
    h
    ∙ ap (λ (x : ℕ). last_of (record { dev = base; number = x }) (path_within (suc m) setup base x)) f
    ∙ sym (ap (λ (o : Option DevId). last_of (record { dev = dev; number = b }) (under o (λ base. path_within (suc m) setup base (shift_of_row (row_of setup dev) + b)))) e)
    ∙ ap (λ (k : ℕ). last_of (record { dev = dev; number = b }) (path_within (suc k) setup dev b)) (sym g)
