use Rattle.std.proofs.Common.{◌≡◌, ℕ, List, [], length, map, vec_items, ap, ◌∙◌, rules}
use Rattle.std.proofs.lemmas.Iterator.{items_from_collect, YieldsList-from_map, YieldsList-from_slice}
use Rattle.std.proofs.lemmas.List.{length-replicate}
use Rattle.std.proofs.lemmas.Result.{IfOk-at_ok}
use Rattle.bd_thin_map.specs.Map.{MapRows}
use Rattle.bd_thin_map.specs.declared.row.Row.{Row}
use Rattle.bd_thin_map.proofs.Counted.{counted_none}
use Rattle.bd_thin_map.proofs.map.ThinMap.new.Goals as goal

-- each device has a row without pairs
rows_are : (c : goal.In_ok-new) → c.in_ok-rows.rows.items ≡ map (λ dev. record { dev = dev; pairs = [] }) c.args.devices.now
rows_are c = IfOk-at_ok (λ w. vec_items w ≡ map (λ dev. record { dev = dev; pairs = [] }) c.args.devices.now) c.in_ok-rows.was
    (items_from_collect c.collect.result c.collect.ensures.ran (YieldsList-from_map _ (λ dev. record { dev = dev; pairs = [] }) (YieldsList-from_slice c.args.devices.now cc) c.map.ensures.closure (λ x r q k. search rules)))

pub invariant_of-result : goal.invariant_of-result
invariant_of-result c = rw (rows_are c, c.in_ok-new.ensures) (counted_none c.args.clusters c.args.devices.now)

pub returns : goal.returns
returns c =
    let as_seen : ℕ → List Row → MapRows = λ n rows. record { clusters = n; rows = rows } in
    ap (λ (us : List ℕ). as_seen (length us) c.in_ok-rows.rows.items) c.in_ok-new.ensures
    ∙ ap (λ (n : ℕ). as_seen n c.in_ok-rows.rows.items) (length-replicate {A = ℕ} c.args.clusters 0)
    ∙ ap (as_seen c.args.clusters) (rows_are c)
