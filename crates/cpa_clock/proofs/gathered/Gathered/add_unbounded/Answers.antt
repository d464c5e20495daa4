use Rattle.std.proofs.Common.{◌∙◌, ◌+◌, ◌++◌, ◌∷◌, [], refl, ap}
use Rattle.cpa_clock.specs.declared.gathered.Gathered.{Gathered}
use Rattle.cpa_clock.proofs.GatheredLaws.{added-unbounded}
use Rattle.cpa_clock.proofs.gathered.Gathered.add_unbounded.Goals as goal

pub returns : goal.returns
returns c own cycles rivals anchors h =
    let new : Gathered = record c.args.self.now { added = c.args.self.now.added + 1; free = c.push.new.self } in
    added-unbounded own cycles rivals anchors c.args.worst c.args.self.now new c.requires.worst c.requires.room refl refl refl refl
    (c.in_ok-push.ensures.items ∙ ap (λ r. c.args.self.now.free.items ++ r ∷ []) c.rival_of.ensures) h
