use Rattle.std.proofs.Common.{arith}
use Rattle.bd_tokens.proofs.Placed.{not_own, past, placeless}
use Rattle.std.proofs.lemmas.Grind.{common_steps}
use Rattle.bd_tokens.proofs.places.own_place.Goals as goal

pub returns-in_default-clause-none : goal.returns-in_default-clause-none
returns-in_default-clause-none c = placeless c.args.tier c.args.rows.now c.args.id c.requires (cc)

pub returns-in_default-get-clause-none : goal.returns-in_default-get-clause-none
returns-in_default-get-clause-none c = past c.args.tier c.args.rows.now c.in-Some.place c.args.id c.requires (cc) (grind (arith, common_steps))

pub returns-else-is_own-clause-none : goal.returns-else-is_own-clause-none
returns-else-is_own-clause-none c =
    not_own c.args.tier c.args.rows.now c.in-Some.place c.in-Some-get.row.now c.args.id c.requires (cc) (grind (arith, common_steps)) (cc)
