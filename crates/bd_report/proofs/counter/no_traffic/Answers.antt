use Rattle.std.proofs.Common.{sym, ap, ◌∙◌, ◌++◌, ◌∷◌, [], get_or, map, arith}
use Rattle.std.specs.List.{range_with_len}
use Rattle.std.proofs.lemmas.List.FromFn.{map-range_with_len_more}
use Rattle.bd_report.specs.Traffic.{traffic_among}
use Rattle.bd_report.proofs.counter.no_traffic.Goals as goal

pub loop-device-preserved : goal.loop-device-preserved
loop-device-preserved c trace sizes =
    let device = c.loop-device._device in
    c.in_ok-push.ensures.ok ∙
    ap (λ traffic. traffic ++ c.new.result ∷ []) (c.loop-device.invariant trace sizes) ∙
    ap (λ none. map (λ d. traffic_among trace [] d (get_or sizes d 0)) (range_with_len 0 device) ++ none ∷ []) c.new.ensures ∙
    sym (map-range_with_len_more (λ d. traffic_among trace [] d (get_or sizes d 0)) 0 device device (omega arith))

pub returns : goal.returns
returns c trace sizes each =
    c.loop-device.invariant trace sizes ∙ ap (λ n. map (λ d. traffic_among trace [] d (get_or sizes d 0)) (range_with_len 0 n)) (omega (arith, each, c.loop-device-test.false, c.loop-device.auto))
