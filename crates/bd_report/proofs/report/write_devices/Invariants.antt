use Rattle.std.proofs.Common.{◌≡◌, ◌++◌, drop}
use Rattle.bd_report.specs.Report.{device_lines}
use Rattle.bd_report.proofs.report.write_devices.Given as goal

abbrev pub invariant-loop-device : goal.invariant-loop-device
invariant-loop-device l =
    l.out.items ++ device_lines l.digests l.device (drop l.device l.devices) (drop l.device l.traffic) ≡ l.fn.out.items ++ device_lines l.digests 0 l.devices l.traffic
