use Rattle.std.proofs.Common.{◌≡◌, ℕ, List, [], Option, Some, None, ◌∙◌, sym, ap, subst, string_bytes}
use Rattle.std.specs.Prelude.{slice_index_or, unwrap_or}
use Rattle.std.specs.List.{position}
use Rattle.bd_base.specs.declared.id.DevId.{DevId}
use Rattle.bd_disks.specs.Rows.{is_row}
use Rattle.bd_disk_pool.specs.Closing.{name_in}
use Rattle.bd_disk_pool.proofs.Lists.{named_at, not_named}
use Rattle.bd_disk_pool.proofs.names.Names.name_of.Goals as goal

pub returns-in-Some : goal.returns-in-Some
returns-in-Some c =
    let at : position (is_row c.args.dev) c.self.inside.rows.items ≡ Some c.in-Some.place = sym (c.place.ensures ∙ ap (position (is_row c.args.dev)) c.as_slice.ensures.value) ∙ c.in-Some.is in
    let named = named_at string_bytes c.self.inside.rows.items c.args.dev c.in-Some.place c.index.result.now at in
    c.as_str.ensures.value
    ∙ ap (λ row. string_bytes row.1) c.index.ensures
    ∙ subst (λ (names : List (DevId × List ℕ)). string_bytes (slice_index_or c.self.inside.rows.items c.in-Some.place c.index.result.now).1 ≡ name_in names c.args.dev) c.self.view_is (sym (ap (λ (o : Option (List ℕ)). unwrap_or o []) named))

pub returns-in-None : goal.returns-in-None
returns-in-None c =
    let at : position (is_row c.args.dev) c.self.inside.rows.items ≡ None = sym (c.place.ensures ∙ ap (position (is_row c.args.dev)) c.as_slice.ensures.value) ∙ c.in-None.is in
    subst (λ (names : List (DevId × List ℕ)). [] ≡ name_in names c.args.dev) c.self.view_is (sym (ap (λ (o : Option (List ℕ)). unwrap_or o []) (not_named string_bytes c.self.inside.rows.items c.args.dev at)))
