use Rattle.std.proofs.Common.{rules}
use Rattle.bd_machine.specs.Budget.{lets, quotas_of}
use Rattle.bd_qos.proofs.Passing.{All, all_pass}
use Rattle.bd_qos.proofs.budget.charged.Goals as goal

pub returns-in_ok-r_bytes-in-Read-clause-bounded :
    goal.returns-in_ok-r_bytes-in-Read-clause-bounded
returns-in_ok-r_bytes-in-Read-clause-bounded c = λ left pass.
    let q = quotas_of c.args.rates in
    let all : All (lets q.rw_requests c.args.left.rw_requests) (lets q.rw_bytes c.args.left.rw_bytes) (lets q.r_bytes c.args.left.r_bytes) = all_pass _ _ _ (search rules) in
    record {
      rw_requests = search (rules, c.in_ok-rw_requests.ensures.bounded (search (rules, left.rw_requests)) (search (rules, all.first)));
      rw_bytes = search (rules, c.in_ok-rw_bytes.ensures.bounded (search (rules, left.rw_bytes)) (search (rules, all.second)));
      r_bytes = search (rules, c.in_ok-r_bytes-in-Read.ensures.bounded (search (rules, left.r_bytes)) (search (rules, all.third)));
      w_bytes = search (rules, left.w_bytes);
    }

pub returns-in_ok-w_bytes-in-Write-clause-bounded :
    goal.returns-in_ok-w_bytes-in-Write-clause-bounded
returns-in_ok-w_bytes-in-Write-clause-bounded c = λ left pass.
    let q = quotas_of c.args.rates in
    let all : All (lets q.rw_requests c.args.left.rw_requests) (lets q.rw_bytes c.args.left.rw_bytes) (lets q.w_bytes c.args.left.w_bytes) = all_pass _ _ _ (search rules) in
    record {
      rw_requests = search (rules, c.in_ok-rw_requests.ensures.bounded (search (rules, left.rw_requests)) (search (rules, all.first)));
      rw_bytes = search (rules, c.in_ok-rw_bytes.ensures.bounded (search (rules, left.rw_bytes)) (search (rules, all.second)));
      r_bytes = search (rules, left.r_bytes);
      w_bytes = search (rules, c.in_ok-w_bytes-in-Write.ensures.bounded (search (rules, left.w_bytes)) (search (rules, all.third)));
    }
