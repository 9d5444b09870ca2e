use Rattle.std.proofs.Common.{◌≡◌, ◌&&◌, ◌==◌, ℕ, Bool, true, false, length, sym, ◌∙◌, ap}
use Rattle.std.specs.List.{list_all}
use Rattle.bd_tokens.specs.Pended.{are_own_pended, is_entry_pended}
use Rattle.bd_tokens.specs.Tokens.{Held}
use Rattle.bd_tokens.proofs.Each.{by_unplaced}
use Rattle.bd_tokens.proofs.unplaced.Unplaced.are_pended.Goals as goal

pub returns-then-is_empty : goal.returns-then-is_empty
returns-then-is_empty c =
    let empty : (length c.self.inside.walks.items == 0) ≡ true = ap (λ (n : ℕ). n == 0) (sym c.self.inside.walks.ok.0) ∙ sym c.is_empty.ensures ∙ c.if-is_empty.true in
    c.are_others_pended.ensures
    ∙ sym (ap (λ (b : Bool). b && list_all (is_entry_pended c.args.setup.now c.args.part.now c.args.me) c.self.inside.map.entries) empty)
    ∙ by_unplaced c.args.setup.now c.args.part.now c.args.me c.self.inside.walks.items c.self.inside.map.entries
    ∙ ap (λ (h : Held). are_own_pended c.args.setup.now c.args.part.now c.args.me h.items) c.self.view_is

pub returns-else-is_empty : goal.returns-else-is_empty
returns-else-is_empty c =
    let empty : (length c.self.inside.walks.items == 0) ≡ false = ap (λ (n : ℕ). n == 0) (sym c.self.inside.walks.ok.0) ∙ sym c.is_empty.ensures ∙ c.if-is_empty.false in
    c.if-is_empty.false
    ∙ sym (ap (λ (b : Bool). b && list_all (is_entry_pended c.args.setup.now c.args.part.now c.args.me) c.self.inside.map.entries) empty)
    ∙ by_unplaced c.args.setup.now c.args.part.now c.args.me c.self.inside.walks.items c.self.inside.map.entries
    ∙ ap (λ (h : Held). are_own_pended c.args.setup.now c.args.part.now c.args.me h.items) c.self.view_is
