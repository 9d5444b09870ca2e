use Rattle.std.proofs.Common.{rules}
use Rattle.bd_qos.proofs.budget.renewed.Goals as goal

pub returns-clause-bounded : goal.returns-clause-bounded
returns-clause-bounded c = λ range left. record {
  rw_requests = search (rules, c.in_ok-renewed_by.ensures.bounded (search rules) (search (rules, left.rw_requests)));
  rw_bytes = search (rules, c.in_ok-renewed_by-2.ensures.bounded (search rules) (search (rules, left.rw_bytes)));
  r_bytes = search (rules, c.in_ok-renewed_by-3.ensures.bounded (search rules) (search (rules, left.r_bytes)));
  w_bytes = search (rules, c.in_ok-renewed_by-4.ensures.bounded (search rules) (search (rules, left.w_bytes)));
}
