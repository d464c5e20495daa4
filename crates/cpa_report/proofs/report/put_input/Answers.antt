use Rattle.std.proofs.Common.{◌≡◌, Some, sym}
use Rattle.cpa_local.specs.Inputs.{input}
use Rattle.cpa_local.proofs.StreamLaws.{input-long}
use Rattle.cpa_report.proofs.report.put_input.Goals as goal

pub returns-in-Some : goal.returns-in-Some
returns-in-Some c =
    let a = c.args in
    let bounded : input a.system.now a.x.now a.task.0 ≡ Some c.in-Some.model = sym c.in-Some.ensures.value in
    let long = input-long a.system.now a.x.now c.has_rules.ensures a.task.0 c.in-Some.model c.requires.there bounded in
    rw (bounded, ← long) c.put_bounded_input.ensures
