use Rattle.std.proofs.Common.{refl}
use Rattle.cpa_clock.proofs.GatheredLaws.{nothing_gathered}
use Rattle.cpa_clock.proofs.gathered.Gathered.begin.Goals as goal

pub returns : goal.returns
returns c cycles = nothing_gathered c.args.own cycles _ refl refl c.clear.ensures.items (c.clear-2.ensures cycles) c.clear-3.ensures.items
