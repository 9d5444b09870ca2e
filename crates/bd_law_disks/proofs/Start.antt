-- What a thread sees at the start, with what its disks told.
use Rattle.std.proofs.Common.{◌≡◌, ℕ, ◌+◌, ◌&&◌, ◌==◌, Bool, true, false, cond, List, [], ◌∷◌, length, map, Option, Some, None, refl, sym, ◌∙◌, ap, ap₂}
use Rattle.std.specs.List.{cons_option, filter_map, range_with_len}
use Rattle.std.specs.Option.{option_map}
use Rattle.std.specs.Prelude.{slice_index_or}
use Rattle.bd_base.specs.declared.device.DevRow.{DevRow}
use Rattle.bd_base.specs.declared.device.Kind.{Kind}
use Rattle.bd_base.specs.declared.device.Kind.TheVariants as kinds
use Rattle.bd_base.specs.declared.id.DevId.{DevId}
use Rattle.bd_base.specs.declared.setup.Setup.{Setup}
use Rattle.bd_machine.specs.declared.state.Base.{Base}
use Rattle.bd_machine.specs.declared.state.Content.{Content}
use Rattle.bd_machine.specs.BlockMap.{Block, base_of, has_kind, home, is_aio, is_aio_kind, is_base_kind, is_malloc_kind, last_of, path_within, row_of, shift_of_row, stands_on, under}
use Rattle.bd_machine.specs.Content.{Told, content_at_start, content_told}
use Rattle.bd_machine.specs.Start.{base_at_start, base_if_here}
use Rattle.bd_machine.specs.Users.{dev_of}
use Rattle.bd_machine.specs.View.{View}
use Rattle.bd_turns.specs.Laws.{view_at_start}
use Rattle.bd_law_disks.specs.Laws.{MemoryIsApart, StartIsTold}
use Rattle.bd_law_disks.specs.Told.{told_base, AreBasesLowest}

-- what stands on nothing is its own base
own_base : (setup : Setup) (dev : DevId) → stands_on setup dev ≡ None → base_of setup dev ≡ dev
own_base setup dev h =
    let first : Block = record { dev = dev; number = 0 } in
    ap (λ (o : Option DevId).
    (last_of first (first ∷ under o (λ base. path_within (length setup.devices) setup base (shift_of_row (row_of setup dev) + 0)))).dev) h

-- a base device is an aio device by its own kind
aio_is : (setup : Setup) (dev : DevId) (row : DevRow) → AreBasesLowest setup → row_of setup dev ≡ Some row → is_base_kind row.kind ≡ true
    → is_aio setup dev ≡ is_aio_kind row.kind
aio_is setup dev row lowest e h =
    ap (λ (d : DevId). has_kind is_aio_kind (row_of setup d)) (own_base setup dev (lowest dev (ap (has_kind is_base_kind) e ∙ h)))
    ∙ ap (has_kind is_aio_kind) e

pub memory_is_apart : MemoryIsApart
memory_is_apart setup lowest dev h = go (row_of setup dev) refl h
  where
    malloc : (kind : Kind) → is_malloc_kind kind ≡ true → (is_base_kind kind ≡ true) × (is_aio_kind kind ≡ false)
    malloc kinds.Malloc h = (refl, refl)
    malloc _ h = cc

    go : (o : Option DevRow) → row_of setup dev ≡ o → has_kind is_malloc_kind o ≡ true → is_aio setup dev ≡ false
    go None e h = cc
    go (Some row) e h = let k = malloc row.kind h in aio_is setup dev row lowest e k.0 ∙ k.1

abbrev contents_of : Told → DevId → Content
contents_of told dev = content_told (slice_index_or told dev.0 None)

-- a base device has at the start what is told of it, if it is an aio device
told_at_start : (told : Told) (dev : DevId) (kind : Kind) (size blocks : ℕ) → is_base_kind kind ≡ true
    → content_at_start told dev kind size blocks ≡ cond (is_aio_kind kind) (contents_of told dev) (content_at_start [] dev kind size blocks)
told_at_start told dev kinds.Malloc size blocks h = refl
told_at_start told dev kinds.Null size blocks h = refl
told_at_start told dev kinds.Aio size blocks h = refl
told_at_start told dev _ size blocks h = cc

base_told : (setup : Setup) (told : Told) (t : ℕ) (dev : DevId) → AreBasesLowest setup
    → base_if_here setup told t dev (row_of setup dev) ≡ option_map (told_base setup (contents_of told)) (base_if_here setup [] t dev (row_of setup dev))
base_told setup told t dev lowest = of_row (row_of setup dev) refl
  where
    here : (row : DevRow) (a b : Bool) → (a ≡ true → is_base_kind row.kind ≡ true) → row_of setup dev ≡ Some row
        → cond (a && b) (Some (base_at_start told dev row)) None
        ≡ option_map (told_base setup (contents_of told)) (cond (a && b) (Some (base_at_start [] dev row)) None)
    here row true true is e = ap (λ (x : Content). let b : Base = record { dev = dev; content = x; queue = [] } in Some b)
        (told_at_start told dev row.kind row.size row.blocks (is refl)
        ∙ ap (λ (c : Bool). cond c (contents_of told dev) (content_at_start [] dev row.kind row.size row.blocks))
        (sym (aio_is setup dev row lowest e (is refl))))
    here row true false is e = refl
    here row false b is e = refl

    of_row : (o : Option DevRow) → row_of setup dev ≡ o
        → base_if_here setup told t dev o ≡ option_map (told_base setup (contents_of told)) (base_if_here setup [] t dev o)
    of_row None e = refl
    of_row (Some row) e = here row (is_base_kind row.kind) (home setup dev == t) (λ h. h) e

mapped : {X Y Z : Type 0} (f : X → Option Z) (g : X → Option Y) (h : Y → Z) → ((x : X) → f x ≡ option_map h (g x)) → (xs : List X)
    → filter_map f xs ≡ map h (filter_map g xs)
mapped f g h e [] = refl
mapped {X} {Y} {Z} f g h e (x ∷ xs) = ap₂ (λ (o : Option Z) (zs : List Z). cons_option o zs) (e x) (mapped f g h e xs) ∙ go (g x)
  where
    go : (o : Option Y) → cons_option (option_map h o) (map h (filter_map g xs)) ≡ map h (cons_option o (filter_map g xs))
    go None = refl
    go (Some y) = refl

pub start_is_told : StartIsTold
start_is_told setup told t lowest =
    ap (λ (bs : List Base). let v : View = record (view_at_start setup [] t) { part = record (view_at_start setup [] t).part { bases = bs } } in v)
    (mapped (λ n. base_if_here setup told t (dev_of n) (row_of setup (dev_of n))) (λ n. base_if_here setup [] t (dev_of n) (row_of setup (dev_of n)))
    (told_base setup (contents_of told))
    (λ n. base_told setup told t (dev_of n) lowest) (range_with_len 0 (length setup.devices)))
