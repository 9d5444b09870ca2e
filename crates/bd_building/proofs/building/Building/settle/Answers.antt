use Rattle.std.proofs.Common.{rules, ◌∙◌, sym}
use Rattle.std.specs.Prelude.{IsErrOf}
use Rattle.bd_building.specs.declared.building.BuildError.TheVariants.{Refused}
use Rattle.bd_building.proofs.Steps.{settles_refused}
use Rattle.bd_building.proofs.building.Building.settle.Goals as goal

pub returns-in_err-resume-clause-refused : goal.returns-in_err-resume-clause-refused
returns-in_err-resume-clause-refused c = λ i errno e.
    let same : IsErrOf c.resume.result (Refused i errno) = search rules in
    sym c.loop-place.invariant ∙ settles_refused c.loop-place.self (i, errno) c.in-Some.place (sym c.in-Some.ensures.first) c.in-Some.ensures.within (c.resume.ensures.refused i errno same)
