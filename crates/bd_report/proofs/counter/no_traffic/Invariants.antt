use Rattle.std.proofs.Common.{◌≡◌, ℕ, List, [], map, get_or}
use Rattle.std.specs.List.{range_with_len}
use Rattle.bd_base.specs.declared.act.Entry.{Entry}
use Rattle.bd_report.specs.Traffic.{traffic_among}
use Rattle.bd_report.proofs.counter.no_traffic.Given as goal

abbrev pub invariant-loop-device : goal.invariant-loop-device
invariant-loop-device l =
    (trace : List Entry) (sizes : List ℕ) → l.traffic ≡ map (λ device. traffic_among trace [] device (get_or sizes device 0)) (range_with_len 0 l._device)
