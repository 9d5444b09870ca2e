-- What a device's end shows.
use Rattle.std.specs.Prelude.{ℕ, Bool, cond, List, Option, Some, None}
use Rattle.std.specs.List.{concat}
use Rattle.std.specs.Option.{option_map}
use Rattle.sha2.specs.Sha256.{sha256}
use Rattle.bd_machine.specs.declared.state.Base.{Base}
use Rattle.bd_machine.specs.declared.state.Content.{Content}
use Rattle.bd_machine.specs.declared.state.Content.TheVariants.{Blocks}

-- the digest of blocks
abbrev pub digest_in : Content → Option (List ℕ)
digest_in (Blocks blocks) = Some (sha256 (concat blocks))
digest_in _ = None

abbrev pub digest_at : Option Base → Option (List ℕ)
digest_at None = None
digest_at (Some b) = digest_in b.content

-- what its end shows: of a malloc device the digest of its blocks, where they are here; else no digest
abbrev pub digest_due : Bool → Option Base → Option (Option (List ℕ))
digest_due malloc base = cond malloc (option_map Some (digest_at base)) (Some None)
