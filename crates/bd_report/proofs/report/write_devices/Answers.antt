use Rattle.std.proofs.Common.{ap, sym, ◌∙◌, ◌++◌, arith}
use Rattle.std.proofs.lemmas.List.{append-nil}
use Rattle.bd_report.proofs.ReportLemmas.{device_lines_past}
use Rattle.bd_report.proofs.report.write_devices.Goals as goal

pub returns : goal.returns
returns c =
    let i = c.loop-device.device in
    sym (append-nil c.loop-device.out.items) ∙
    ap (λ lines. c.loop-device.out.items ++ lines)
    (sym (device_lines_past c.args.digests.now i i c.args.devices.now c.args.traffic.now (omega (arith, c.loop-device-test.false, c.min-device-end.ensures)))) ∙
    c.loop-device.invariant
