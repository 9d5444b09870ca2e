-- Destruct, by the local rules.
use Rattle.std.proofs.Common.{◌≡◌, ℕ, ◌+◌, Bool, true, false, cond, nat_eq, List, [], ◌∷◌, Option, Some, None, is_none, refl, sym, ◌∙◌, ap, eq-eqb}
use Rattle.std.specs.List.{find, concat}
use Rattle.std.specs.Option.{option_map}
use Rattle.std.specs.Cmp.Lexicographic.{pointwise}
use Rattle.std.proofs.lemmas.Bool.{and_from}
use Rattle.sha2.specs.Sha256.{sha256}
use Rattle.bd_base.specs.declared.act.Act.TheVariants as acts
use Rattle.bd_base.specs.declared.id.DevId.{DevId}
use Rattle.bd_base.specs.declared.setup.Setup.{Setup}
use Rattle.bd_blocks.specs.Digests.{digest_at, digest_due, digest_in}
use Rattle.bd_machine.specs.declared.state.Base.{Base}
use Rattle.bd_machine.specs.declared.state.Content.{Content}
use Rattle.bd_machine.specs.declared.state.Content.TheVariants.{Blocks, Zeros, Untold}
use Rattle.bd_machine.specs.declared.state.Id.{Id}
use Rattle.bd_machine.specs.declared.state.Kept.{Kept}
use Rattle.bd_machine.specs.declared.state.Part.{Part}
use Rattle.bd_machine.specs.declared.state.Registry.{Registry}
use Rattle.bd_machine.specs.BlockMap.{is_malloc}
use Rattle.bd_machine.specs.Homes.{change_destruct, is_base, is_digest_at, may_destruct}
use Rattle.bd_rule_view.specs.Came.{came_free}
use Rattle.bd_turns.specs.Local.{Local}
use Rattle.bd_turns.specs.declared.queue.Message.{Message}
use Rattle.bd_thread.specs.Seen.{local_at, untaken}
use Rattle.bd_thread.proofs.Going.{Steps, steps, still_shut}

self_same : (xs : List ℕ) → pointwise nat_eq xs xs ≡ true
self_same [] = refl
self_same (x ∷ xs) = and_from (nat_eq x x) (pointwise nat_eq xs xs) (eq-eqb x x refl) (self_same xs)

some_same : {X : Type 0} {x y : X} → Some x ≡ Some y → x ≡ y
some_same e = cc

in_content : (b : Base) (content : Content) (digest : Option (List ℕ)) → b.content ≡ content → option_map Some (digest_in content) ≡ Some digest → is_digest_at (Some (record b { content = content })) digest ≡ true
in_content b (Blocks blocks) digest e h =
    ap (is_digest_at (Some (record b { content = Blocks blocks }))) (sym (some_same h)) ∙ self_same (sha256 (concat blocks))
in_content b Zeros digest e h = cc
in_content b Untold digest e h = cc

in_base : (o : Option Base) (digest : Option (List ℕ)) → option_map Some (digest_at o) ≡ Some digest → is_digest_at o digest ≡ true
in_base None digest h = cc
in_base (Some b) digest h = in_content b b.content digest refl h

-- the digest that is due passes
due_passes : (malloc : Bool) (o : Option Base) (digest : Option (List ℕ)) → digest_due malloc o ≡ Some digest → cond malloc (is_digest_at o digest) (is_none digest) ≡ true
due_passes true o digest h = in_base o digest h
due_passes false o digest h = ap (λ (d : Option (List ℕ)). is_none d) (sym (some_same h))

-- **Destruct**
pub destruct_steps : (setup : Setup) (t : ℕ) (part new : Part) (here : Id → Option Kept) (registry : Registry) (shut : Bool) (stamp : ℕ) (queues : ℕ → List Message) (dev : DevId) (digest : Option (List ℕ))
    → may_destruct setup t (local_at t part here registry shut stamp queues).view (came_free true) dev ≡ true
    → digest_due (is_malloc setup dev) (find (is_base dev) part.bases) ≡ Some digest
    → new ≡ (change_destruct (local_at t part here registry shut stamp queues).view dev).part
    → Steps setup t (local_at t part here registry shut stamp queues) (acts.Destruct dev digest) (local_at t (untaken new) here registry shut (stamp + 1) queues)
destruct_steps setup t part new here registry shut stamp queues dev digest may due is =
    let l : Local = local_at t part here registry shut stamp queues in
    let after : Part → Bool → Local = λ p s. local_at t (untaken p) here registry s (stamp + 1) queues in
    steps setup t l (after new shut) (acts.Destruct dev digest) refl refl
    (may, (due_passes (is_malloc setup dev) (find (is_base dev) part.bases) digest due, tt))
    (ap (after (change_destruct l.view dev).part) (still_shut shut) ∙ ap (λ (p : Part). after p shut) (sym is))
