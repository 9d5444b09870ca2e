use Rattle.std.proofs.Common.{◌≡◌, OnOk, List, Option, subst}
use Rattle.bd_machine.specs.declared.state.Limited.{Limited}
use Rattle.bd_machine.specs.declared.state.OpenRequest.{OpenRequest}
use Rattle.bd_machine.specs.Limits.{bytes_if_any, charged_by_way, is_limit, left_by, way_if_any}
use Rattle.bd_machine.specs.Table.{change_first}
use Rattle.bd_play.proofs.course.charge_for.Goals as goal

pub returns : goal.returns
returns c =
    let setup = c.args.side.now.setup.now in
    let after : Option OpenRequest → List Limited = λ h. change_first (is_limit c.args.dev) (λ l. left_by c.args.req (charged_by_way setup c.args.dev (bytes_if_any setup h) (way_if_any h) l)) c.args.limited.now in
    subst (λ (h : Option OpenRequest). OnOk c.charge.result (c.charge.new.limited ≡ after h)) c.request_here.ensures c.charge.ensures
