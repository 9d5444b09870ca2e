use Rattle.std.proofs.Common.{◌≡◌, ℕ, ◌+◌, ◌++◌, length, List, ap, ◌∙◌}
use Rattle.std.specs.Prelude.{vec_len}
use Rattle.bd_base.specs.declared.act.Entry.{Entry}
use Rattle.bd_log.specs.Log.{stamped}
use Rattle.bd_seat.proofs.Stamped.{alone_all}
use Rattle.bd_seat.proofs.taking.append_many.Goals as goal

pub returns-in-Ok-clause-appended : goal.returns-in-Ok-clause-appended
returns-in-Ok-clause-appended c =
    let log = c.args.log.now in
    let given = c.into_vec.ensures in
    let count : vec_len c.into_vec.result ≡ length c.args.entries = c.into_vec.result.ok.0 ∙ ap (λ (es : List Entry). length es) given in
    alone_all log c.push_all.new.self c.args.entries c.requires.none_asks
    (c.in-Ok.ensures.entries ∙ ap (λ (es : List Entry). log.entries ++ stamped log.thread log.last es) given)
    (c.in-Ok.ensures.last ∙ ap (λ (n : ℕ). log.last + n) count)
    c.in-Ok.ensures.thread
