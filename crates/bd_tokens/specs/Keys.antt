-- How ids are compared and hashed.
use Rattle.std.specs.Prelude.{◌≡◌, Bool, true, ◌++◌}
use Rattle.std.specs.Cmp.{IsEquivalence, IsPartialEquivalence, both_ways, partial_equiv_from_equiv}
use Rattle.std.specs.Hash.{HashWrites, u32, u64, u128}
use Rattle.std.proofs.Common.{ap, ◌∙◌}
use Rattle.bd_machine.specs.declared.state.Id.{Id}
use Rattle.bd_machine.specs.declared.state.Id.TheVariants.{Request, Piece, Walk, Notice}
use Rattle.bd_machine.specs.Same.{same_id}
use Rattle.bd_machine.proofs.Tables.{id_same}
use Rattle.bd_tokens.specs.declared.key.Key.{Key}

-- two keys are equal that name the same token
abbrev pub same_key : Key → Key → Bool
same_key a b = same_id a.id b.id

-- what the hash of an id is made of: its numbers, whatever its kind
abbrev pub writes_of : Id → HashWrites
writes_of (Request req) = u32 req.thread ++ u64 req.seq
writes_of (Piece req k) = u32 req.thread ++ (u64 req.seq ++ u32 k)
writes_of (Walk walk) = u32 walk.thread ++ u128 walk.seq
writes_of (Notice sender receiver number) = u32 sender ++ (u32 receiver ++ u128 number)

pub same_id-symm : (a b : Id) → same_id a b ≡ same_id b a
same_id-symm a b = both_ways (same_id a b) (same_id b a) (λ h. ap (same_id b) (id_same.exact a b h) ∙ id_same.same_self b) (λ h. ap (same_id a) (id_same.exact b a h) ∙ id_same.same_self a)

pub keys_equivalent : IsEquivalence same_key
keys_equivalent = record {
  refl = λ x. id_same.same_self x.id;
  symm = λ x y. same_id-symm x.id y.id;
  congr = λ x y z h. ap (λ i. same_id i z.id) (id_same.exact x.id y.id h);
}

pub keys_partly_equivalent : IsPartialEquivalence same_key
keys_partly_equivalent = partial_equiv_from_equiv keys_equivalent

-- equal keys are hashed alike
pub same_writes : (a b : Key) → same_key a b ≡ true → writes_of a.id ≡ writes_of b.id
same_writes a b h = ap writes_of (id_same.exact a.id b.id h)
