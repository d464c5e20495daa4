use Rattle.std.proofs.Common.{refl}
use Rattle.cpa_clock.specs.declared.clock_lists.ClockLists.{ClockLists}
use Rattle.cpa_clock.proofs.ListLaws.{pushed}
use Rattle.cpa_clock.proofs.clock_lists.ClockLists.push.Goals as goal

pub returns-clause-more : goal.returns-clause-more
returns-clause-more c cycles lists clock h =
    let old : ClockLists = c.place_of.new.self in
    let new : ClockLists = record { alloc = old.alloc; numbers = old.numbers; clocks = c.push_at.new.clocks; places = old.places } in
    pushed cycles lists old new c.args.number c.in_ok-place.place c.args.stream refl refl c.in_ok-push_at.ensures c.in_ok-place.ensures.place (c.in_ok-place.ensures.same cycles lists clock h)
