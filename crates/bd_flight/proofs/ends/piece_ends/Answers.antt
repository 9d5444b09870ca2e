use Rattle.std.proofs.Common.{◌≡◌, ℕ, suc, ◌+◌, ◌-◌, ◌<◌, Bool, true, false, ◌&&◌, ◌||◌, List, ◌∷◌, map, Option, sym, ◌∙◌, ap, arith}
use Rattle.std.specs.List.{list_all, list_any, range_with_len}
use Rattle.bd_machine.specs.declared.state.OpenPiece.{OpenPiece}
use Rattle.bd_machine.specs.Completion.{is_back, is_done, is_faulted}
use Rattle.bd_machine.specs.Kept.{piece_here}
use Rattle.bd_flight.proofs.ends.piece_ends.Goals as goal

left_from : (k n : ℕ) → k < n → range_with_len k (n - k) ≡ k ∷ range_with_len (k + 1) (n - (k + 1))
left_from k n h = let e : n - k ≡ suc (n - (k + 1)) = omega arith in ap (range_with_len k) e

-- the pieces from k on are that numbered k and those after it
all_left : (is : Option OpenPiece → Bool) (at : ℕ → Option OpenPiece) (k n : ℕ) → k < n
    → list_all is (map at (range_with_len k (n - k))) ≡ (is (at k) && list_all is (map at (range_with_len (k + 1) (n - (k + 1)))))
all_left is at k n h = ap (λ (ks : List ℕ). list_all is (map at ks)) (left_from k n h)

any_left : (is : Option OpenPiece → Bool) (at : ℕ → Option OpenPiece) (k n : ℕ) → k < n
    → list_any is (map at (range_with_len k (n - k))) ≡ (is (at k) || list_any is (map at (range_with_len (k + 1) (n - (k + 1)))))
any_left is at k n h = ap (λ (ks : List ℕ). list_any is (map at ks)) (left_from k n h)

-- what holds so far, here and in the rest, holds in all
back_on : (here rest left all : Bool) → here ≡ true → left ≡ (here && rest) → left ≡ all → rest ≡ all
back_on true rest left all h l w = sym l ∙ w
back_on false rest left all h l w = cc

all_on : (so_far here rest left next all : Bool) → next ≡ (so_far && here) → left ≡ (here && rest) → (so_far && left) ≡ all → (next && rest) ≡ all
all_on true here rest left next all n l w = ap (λ (b : Bool). b && rest) n ∙ sym l ∙ w
all_on false here rest left next all n l w = ap (λ (b : Bool). b && rest) n ∙ w

any_on : (so_far here rest left next all : Bool) → next ≡ (so_far || here) → left ≡ (here || rest) → (so_far || left) ≡ all → (next || rest) ≡ all
any_on true here rest left next all n l w = ap (λ (b : Bool). b || rest) n ∙ w
any_on false here rest left next all n l w = ap (λ (b : Bool). b || rest) n ∙ sym l ∙ w

pub loop-k-preserved : goal.loop-k-preserved
loop-k-preserved g c =
    let at = piece_here (g.S.Sees.view_of c.args.seen.now) c.args.req in
    let k = c.loop-k.k in
    let n = c.args.n in
    let p = c.piece_here.ensures in
    let is_left = c.loop-k-test.true in
    record {
      back = back_on _ _ _ _ (ap is_back (sym p) ∙ c.in-Some.ensures.back) (all_left is_back at k n is_left) c.loop-k.invariant.back;
      done = all_on c.loop-k.ends.all_done _ _ _ _ _ (c.in-Some.ensures.done ∙ ap (λ (b : Bool). c.loop-k.ends.all_done && b) (ap is_done p)) (all_left is_done at k n is_left) c.loop-k.invariant.done;
      faulted = any_on c.loop-k.ends.any_faulted _ _ _ _ _ (c.in-Some.ensures.faulted ∙ ap (λ (b : Bool). c.loop-k.ends.any_faulted || b) (ap is_faulted p)) (any_left is_faulted at k n is_left) c.loop-k.invariant.faulted;
    }
