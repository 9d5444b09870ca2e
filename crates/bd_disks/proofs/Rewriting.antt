-- What a type puts in place of blocks: it depends on their sizes alone, and keeps these.
use Rattle.std.proofs.Common.{◌≡◌, ℕ, zero, suc, ◌+◌, ◌*◌, ◌<◌, Bool, true, false, cond, List, [], ◌∷◌, ◌++◌, length, replicate, refl, sym, ◌∙◌, ap, arith, append_assoc, append-nil}
use Rattle.std.specs.List.{concat}
use Rattle.std.proofs.lemmas.List.{length-append, length-replicate, replicate-append-replicate}
use Rattle.std.proofs.Math.Nat.{zero-mul}
use Rattle.bd_base.specs.Pattern.{pattern, pattern_byte}
use Rattle.bd_base.specs.declared.request.Fill.{Fill}
use Rattle.bd_base.specs.declared.request.Op.{Op}
use Rattle.bd_base.specs.declared.request.Op.TheVariants as ops
use Rattle.bd_machine.specs.Effect.{patterned, rewritten, turned, turned_block, zero_blocks, zeroed}
use Rattle.bd_disks.specs.Holding.{AreOfSize}
use Rattle.bd_disks.proofs.Blockwise.{next_block}

pub length_pattern : (seed n k : ℕ) → length (pattern seed n k) ≡ k
length_pattern seed n zero = refl
length_pattern seed n (suc k) =
    length-append (pattern seed n k) (pattern_byte seed n k ∷ []) ∙ omega (arith, length_pattern seed n k)

length_turned_block : (b : List ℕ) → length (turned_block b) ≡ length b
length_turned_block [] = refl
length_turned_block (x ∷ b) = refl

sizes_turned : (size : ℕ) (bs : List (List ℕ)) → AreOfSize size bs → AreOfSize size (turned bs)
sizes_turned size [] h = tt
sizes_turned size (b ∷ bs) h = (length_turned_block b ∙ h.0, h.1)

length_turned : (bs : List (List ℕ)) → length (turned bs) ≡ length bs
length_turned [] = refl
length_turned (b ∷ bs) = refl

sizes_patterned : (size seed n : ℕ) (bs : List (List ℕ)) → AreOfSize size bs → AreOfSize size (patterned seed n bs)
sizes_patterned size seed n [] h = tt
sizes_patterned size seed n (b ∷ bs) h = (length_pattern seed n (length b) ∙ h.0, sizes_patterned size seed (n + 1) bs h.1)

length_patterned : (seed n : ℕ) (bs : List (List ℕ)) → length (patterned seed n bs) ≡ length bs
length_patterned seed n [] = refl
length_patterned seed n (b ∷ bs) = ap suc (length_patterned seed (n + 1) bs)

sizes_zeroed : (size : ℕ) (bs : List (List ℕ)) → AreOfSize size bs → AreOfSize size (zeroed bs)
sizes_zeroed size [] h = tt
sizes_zeroed size (b ∷ bs) h = (length-replicate (length b) 0 ∙ h.0, sizes_zeroed size bs h.1)

length_zeroed : (bs : List (List ℕ)) → length (zeroed bs) ≡ length bs
length_zeroed [] = refl
length_zeroed (b ∷ bs) = ap suc (length_zeroed bs)

sizes_flipped : (size : ℕ) (flip : Bool) (bs : List (List ℕ)) → AreOfSize size bs → AreOfSize size (cond flip (turned bs) bs)
sizes_flipped size true bs h = sizes_turned size bs h
sizes_flipped size false bs h = h

length_flipped : (flip : Bool) (bs : List (List ℕ)) → length (cond flip (turned bs) bs) ≡ length bs
length_flipped true bs = length_turned bs
length_flipped false bs = refl

pub sizes_rewritten : (size : ℕ) (op : Op) (n : ℕ) (bs : List (List ℕ)) → AreOfSize size bs → AreOfSize size (rewritten op n bs)
sizes_rewritten size ops.Read n bs h = h
sizes_rewritten size (ops.Write fill) n bs h = sizes_flipped size fill.flip (patterned fill.seed n bs) (sizes_patterned size fill.seed n bs h)
sizes_rewritten size ops.Zeroes n bs h = sizes_zeroed size bs h
sizes_rewritten size ops.Unmap n bs h = sizes_zeroed size bs h
sizes_rewritten size ops.Flush n bs h = h
sizes_rewritten size (ops.Reset time) n bs h = h
sizes_rewritten size (ops.Abort k) n bs h = h

pub length_rewritten : (op : Op) (n : ℕ) (bs : List (List ℕ)) → length (rewritten op n bs) ≡ length bs
length_rewritten ops.Read n bs = refl
length_rewritten (ops.Write fill) n bs = length_flipped fill.flip (patterned fill.seed n bs) ∙ length_patterned fill.seed n bs
length_rewritten ops.Zeroes n bs = length_zeroed bs
length_rewritten ops.Unmap n bs = length_zeroed bs
length_rewritten ops.Flush n bs = refl
length_rewritten (ops.Reset time) n bs = refl
length_rewritten (ops.Abort k) n bs = refl

-- ---- by the sizes alone

abbrev zero_block : ℕ → List ℕ
zero_block size = replicate size 0

patterned_by_size : (size seed n : ℕ) (bs : List (List ℕ)) → AreOfSize size bs → patterned seed n bs ≡ patterned seed n (zero_blocks size (length bs))
patterned_by_size size seed n [] h = refl
patterned_by_size size seed n (b ∷ bs) h =
    ap (λ (k : ℕ). pattern seed n k ∷ patterned seed (n + 1) bs) (h.0 ∙ sym (length-replicate size 0))
    ∙ ap (λ (ys : List (List ℕ)). pattern seed n (length (zero_block size)) ∷ ys) (patterned_by_size size seed (n + 1) bs h.1)

pub written_by_size : (size n : ℕ) (fill : Fill) (bs : List (List ℕ)) → AreOfSize size bs
    → rewritten (ops.Write fill) n bs ≡ rewritten (ops.Write fill) n (zero_blocks size (length bs))
written_by_size size n fill bs h = ap (λ (ps : List (List ℕ)). cond fill.flip (turned ps) ps) (patterned_by_size size fill.seed n bs h)

pub zeros_joined : (size : ℕ) (bs : List (List ℕ)) → AreOfSize size bs → concat (zeroed bs) ≡ replicate (length bs * size) 0
zeros_joined size [] h = ap (λ (k : ℕ). replicate k 0) (sym (zero-mul size))
zeros_joined size (b ∷ bs) h =
    ap (λ (ys : List ℕ). replicate (length b) 0 ++ ys) (zeros_joined size bs h.1)
    ∙ replicate-append-replicate (length b) (length bs * size) 0
    ∙ ap (λ (k : ℕ). replicate k 0) (sym (next_block (length bs) size b h.0))

-- ---- the bytes

-- the pattern of one block more
pub next_pattern : (size seed n k : ℕ)
    → concat (patterned seed n (zero_blocks size (suc k))) ≡ concat (patterned seed n (zero_blocks size k)) ++ pattern seed (n + k) size
next_pattern size seed n zero =
    append-nil (pattern seed n (length (zero_block size)))
    ∙ ap (λ (m : ℕ). pattern seed n m) (length-replicate size 0)
    ∙ ap (λ (m : ℕ). pattern seed m size) (omega arith)
next_pattern size seed n (suc k) =
    let first : List ℕ = pattern seed n (length (zero_block size)) in
    let rest : List ℕ = concat (patterned seed (n + 1) (zero_blocks size k)) in
    let same : n + 1 + k ≡ n + suc k = omega arith in
    ap (λ (ys : List ℕ). first ++ ys) (next_pattern size seed (n + 1) k)
    ∙ sym (append_assoc first rest (pattern seed (n + 1 + k) size))
    ∙ ap (λ (m : ℕ). first ++ rest ++ pattern seed m size) same

pub turned_joined : (size : ℕ) (bs : List (List ℕ)) → 0 < size → AreOfSize size bs → concat (turned bs) ≡ turned_block (concat bs)
turned_joined size [] some h = refl
turned_joined size ([] ∷ bs) some h = absurd (omega (arith, h.0))
turned_joined size ((x ∷ b) ∷ bs) some h = refl

pub sizes_zero_blocks : (size n : ℕ) → AreOfSize size (zero_blocks size n)
sizes_zero_blocks size zero = tt
sizes_zero_blocks size (suc n) = (length-replicate size 0, sizes_zero_blocks size n)

-- the bytes of k blocks of a pattern, and one block more
pub grown : (size seed n k : ℕ) (bytes block : List ℕ) → bytes ≡ concat (patterned seed n (zero_blocks size k)) → block ≡ pattern seed (n + k) size
    → bytes ++ block ≡ concat (patterned seed n (zero_blocks size (k + 1)))
grown size seed n k bytes block e f =
    let more : suc k ≡ k + 1 = omega arith in
    ap (λ (xs : List ℕ). xs ++ block) e
    ∙ ap (λ (ys : List ℕ). concat (patterned seed n (zero_blocks size k)) ++ ys) f
    ∙ sym (next_pattern size seed n k)
    ∙ ap (λ (m : ℕ). concat (patterned seed n (zero_blocks size m))) more
