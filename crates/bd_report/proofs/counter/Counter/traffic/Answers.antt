use Rattle.std.proofs.Common.{◌≡◌, sym, ap, ◌∙◌, [], ◌<◌, length, get_or, arith}
use Rattle.std.proofs.lemmas.List.{take_all}
use Rattle.bd_base.specs.declared.request.Way.TheVariants.{Read}
use Rattle.bd_report.specs.declared.submitted.Submitted.{Submitted}
use Rattle.bd_report.specs.Traffic.{device_traffic}
use Rattle.bd_report.proofs.CounterLemmas.{moved_length, traffic_length, traffic_step}
use Rattle.bd_report.proofs.counter.Counter.traffic.Goals as goal

pub loop-submitted-init : goal.loop-submitted-init
loop-submitted-init c =
    let sizes = c.args.self.now.sizes in
    let each : length sizes ≡ length c.as_slice-sizes.result.now = sym (ap length c.as_slice-sizes.ensures) in
    record {
      each = ap length (c.in_ok-devices.ensures [] sizes each) ∙ traffic_length [] [] sizes;
      moved = λ trace tells. c.in_ok-devices.ensures trace sizes each;
    }

-- a read or write that no list has
abbrev nothing : Submitted
nothing = record { request = record { thread = 0; seq = 0 }; device = record { 0 = 0 }; way = Read; blocks = 0 }

pub loop-submitted-preserved : goal.loop-submitted-preserved
loop-submitted-preserved c =
    let items = c.args.self.now.submitted.items in
    let read = c.as_slice-submitted-items.result.now in
    let i = c.loop-submitted.submitted-index in
    let low : i < length items = omega (arith, c.loop-submitted-test.true, ap length c.as_slice-submitted-items.ensures.value) in
    record {
      each = ap length c.note_if_moved.ensures ∙ moved_length _ (get_or read i nothing) _ _ ∙ c.loop-submitted.invariant.each;
      moved = λ trace tells.
          traffic_step trace items c.args.self.now.sizes i nothing (get_or read i nothing) low
          (ap (λ xs. get_or xs i nothing) c.as_slice-submitted-items.ensures.value) c.as_slice-sizes.ensures
          (c.has-has_succeeded.ensures ∙ tells (get_or read i nothing).request) c.note_if_moved.ensures (c.loop-submitted.invariant.moved trace tells);
    }

pub returns : goal.returns
returns c trace tells =
    let items = c.args.self.now.submitted.items in
    c.loop-submitted.invariant.moved trace tells ∙
    ap (λ submitted. device_traffic trace submitted c.args.self.now.sizes)
    (take_all c.loop-submitted.submitted-index items (omega (arith, c.loop-submitted-test.false, ap length c.as_slice-submitted-items.ensures.value)))
