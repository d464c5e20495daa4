use Rattle.std.proofs.Common.{◌≡◌, length, take, refl, arith}
use Rattle.std.proofs.lemmas.List.{length-take-le}
use Rattle.cpa_events.proofs.model.Model.len.Goals as goal

pub returns-clause-value : goal.returns-clause-value
returns-clause-value c =
    let taken = length-take-le c.self.inside.len c.self.inside.streams (omega (arith, c.self.invariant)) in
    let same : length (take c.self.inside.len c.self.inside.streams) ≡ length c.args.self.now = rw c.self.view_is refl in
    omega arith
