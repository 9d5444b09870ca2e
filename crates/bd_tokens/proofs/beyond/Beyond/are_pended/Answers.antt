use Rattle.std.proofs.Common.{◌≡◌, ◌&&◌, Bool, true, false, List, Option, sym, ◌∙◌, ap}
use Rattle.std.specs.List.{list_all}
use Rattle.bd_machine.specs.declared.state.Id.{Id}
use Rattle.bd_machine.specs.declared.state.Kept.{Kept}
use Rattle.bd_tokens.specs.Pended.{are_own_pended, is_row_pended}
use Rattle.bd_tokens.specs.Tokens.{Held}
use Rattle.bd_tokens.proofs.Each.{by_both}
use Rattle.bd_tokens.proofs.beyond.Beyond.are_pended.Goals as goal

pub returns-then-are_rows_pended : goal.returns-then-are_rows_pended
returns-then-are_rows_pended c =
    let rows : list_all (is_row_pended c.args.setup.now c.args.part.now c.args.me) c.self.inside.rows.items ≡ true =
    ap (λ (rs : List (Option (Id × Kept))). list_all (is_row_pended c.args.setup.now c.args.part.now c.args.me) rs) (sym c.as_slice.ensures.value) ∙ sym c.are_rows_pended.ensures ∙ c.if-are_rows_pended.true in
    c.are_pended.ensures
    ∙ sym (ap (λ (b : Bool). b && are_own_pended c.args.setup.now c.args.part.now c.args.me c.self.inside.unplaced.items) rows)
    ∙ by_both c.args.setup.now c.args.part.now c.args.me c.self.inside.rows.items c.self.inside.unplaced.items
    ∙ ap (λ (h : Held). are_own_pended c.args.setup.now c.args.part.now c.args.me h.items) c.self.view_is

pub returns-else-are_rows_pended : goal.returns-else-are_rows_pended
returns-else-are_rows_pended c =
    let rows : list_all (is_row_pended c.args.setup.now c.args.part.now c.args.me) c.self.inside.rows.items ≡ false =
    ap (λ (rs : List (Option (Id × Kept))). list_all (is_row_pended c.args.setup.now c.args.part.now c.args.me) rs) (sym c.as_slice.ensures.value) ∙ sym c.are_rows_pended.ensures ∙ c.if-are_rows_pended.false in
    c.if-are_rows_pended.false
    ∙ sym (ap (λ (b : Bool). b && are_own_pended c.args.setup.now c.args.part.now c.args.me c.self.inside.unplaced.items) rows)
    ∙ by_both c.args.setup.now c.args.part.now c.args.me c.self.inside.rows.items c.self.inside.unplaced.items
    ∙ ap (λ (h : Held). are_own_pended c.args.setup.now c.args.part.now c.args.me h.items) c.self.view_is
