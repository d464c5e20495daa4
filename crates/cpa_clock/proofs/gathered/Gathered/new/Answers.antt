use Rattle.std.proofs.Common.{None, refl}
use Rattle.cpa_clock.proofs.GatheredLaws.{nothing_gathered}
use Rattle.cpa_clock.proofs.gathered.Gathered.new.Goals as goal

pub returns : goal.returns
returns c cycles = nothing_gathered None cycles _ refl refl c.new.ensures.items (c.new-2.ensures cycles) c.new-3.ensures.items
