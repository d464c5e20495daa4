use Rattle.std.proofs.Common.{Option, Some, List, Bool, refl, ◌∙◌, subst}
use Rattle.cpa_fix.proofs.SolveLaws.{IsSearch, not-member, search-start, search-next, search-solved, round-smaller, pending-within, beyond-round}
use Rattle.cpa_local.proofs.SolutionLaws.{least_of-is_least}
use Rattle.cpa_fix.proofs.solving.solve_within.Goals as goal

pub rounds-init : goal.rounds-init
rounds-init g c =
    record {
      search = search-start c.args.system.now c.args.start c.args.kept c.args.trail.now c.dirty_resources-dirty.result
          c.dirty_resources-dirty.ensures.rules c.requires.start c.dirty_resources-dirty.ensures.stale;
      beyond = λ r off. refl;
    }

pub rounds-smaller : goal.rounds-smaller
rounds-smaller g c =
    let s = c.args.system.now in
    let h : IsSearch s c.args.start c.args.kept c.args.trail.now c.rounds.x c.rounds.readings (Some c.in-Some.set) c.rounds.trail =
    subst (λ (d : Option (List Bool)). IsSearch s c.args.start c.args.kept c.args.trail.now c.rounds.x c.rounds.readings d c.rounds.trail) c.in-Some.is c.rounds.invariant.search in
    let did = c.in_ok-round.ensures in
    let next = c.dirty_resources-dirty-in-Some in
    rw c.in-Some.is
    (round-smaller s c.in-Some.set c.rounds.x c.round.new.x c.rounds.readings c.round.new.readings next.result h.now.vector did.risen h.stale did.done next.ensures.stale)

pub rounds-preserved : goal.rounds-preserved
rounds-preserved g c =
    let s = c.args.system.now in
    let h : IsSearch s c.args.start c.args.kept c.args.trail.now c.rounds.x c.rounds.readings (Some c.in-Some.set) c.rounds.trail =
    subst (λ (d : Option (List Bool)). IsSearch s c.args.start c.args.kept c.args.trail.now c.rounds.x c.rounds.readings d c.rounds.trail) c.in-Some.is c.rounds.invariant.search in
    let did = c.in_ok-round.ensures in
    let next = c.dirty_resources-dirty-in-Some in
    record {
      search = search-next s c.args.start c.args.kept c.args.trail.now c.rounds.x c.round.new.x c.rounds.readings c.round.new.readings c.in-Some.set next.result c.rounds.trail c.round.new.trail
          h did.risen did.kept did.fresh did.done did.marked next.ensures.stale;
      beyond = λ r off. did.done.same r
          (not-member c.in-Some.set c.args.reach r (λ on. pending-within s c.args.start c.args.kept c.args.reach c.requires.beyond c.requires.closed r (h.reached r on)) off)
          ∙ c.rounds.invariant.beyond r off;
    }

pub returns-clause-solved : goal.returns-clause-solved
returns-clause-solved g c =
    let s = c.args.system.now in
    search-solved s c.args.start c.args.kept c.args.trail.now c.rounds.x c.rounds.readings c.rounds.trail
    (subst (λ (d : Option (List Bool)). IsSearch s c.args.start c.args.kept c.args.trail.now c.rounds.x c.rounds.readings d c.rounds.trail) c.in_default.is c.rounds.invariant.search)

pub returns-clause-least : goal.returns-clause-least
returns-clause-least g c =
    let s = c.args.system.now in
    let solved = search-solved s c.args.start c.args.kept c.args.trail.now c.rounds.x c.rounds.readings c.rounds.trail
    (subst (λ (d : Option (List Bool)). IsSearch s c.args.start c.args.kept c.args.trail.now c.rounds.x c.rounds.readings d c.rounds.trail) c.in_default.is c.rounds.invariant.search) in
    rw solved.least (least_of-is_least s c.dirty_resources-dirty.ensures.rules)

pub dirty_resources-dirty-requires-in-Some-clause-beyond : goal.dirty_resources-dirty-requires-in-Some-clause-beyond
dirty_resources-dirty-requires-in-Some-clause-beyond g c =
    let s = c.args.system.now in
    let h : IsSearch s c.args.start c.args.kept c.args.trail.now c.rounds.x c.rounds.readings (Some c.in-Some.set) c.rounds.trail =
    subst (λ (d : Option (List Bool)). IsSearch s c.args.start c.args.kept c.args.trail.now c.rounds.x c.rounds.readings d c.rounds.trail) c.in-Some.is c.rounds.invariant.search in
    let did = c.in_ok-round.ensures in
    beyond-round s c.args.reach c.in-Some.set c.rounds.x c.round.new.x c.rounds.readings c.round.new.readings c.requires.closed
    (λ r on. pending-within s c.args.start c.args.kept c.args.reach c.requires.beyond c.requires.closed r (h.reached r on))
    h.now.vector did.risen h.stale.clean did.done
