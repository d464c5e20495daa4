use Rattle.std.proofs.Common.{◌≡◌, ◌<◌, ◌+◌, length, List, [], ◌∷◌, refl, sym, ◌∙◌, arith, rules}
use Rattle.cpa_draft.specs.declared.chains.Mark.TheVariants.{Open, Known}
use Rattle.cpa_draft.specs.declared.chains.Visit.{Visit}
use Rattle.cpa_draft.proofs.SearchLaws.{at-task, at-push, new-known, open-known, count-most, top_visit, unknown_link, looked_at, all_seen, walk-first, walk-endless, walk-seen, walk-opened, walk-settled, unknown_within, settled-known, settled-none_open, settled-own, StayKnown-set, work-opened, work-settled}
use Rattle.cpa_draft.proofs.chains.measure_new.Goals as goal

pub walk-init : goal.walk-init
walk-init c =
    let below : c.args.first < length c.args.marks.now = omega (arith, c.requires.first, c.requires.count) in
    record {
      walk = rw (c.new-below.ensures.items, c.new-visit.ensures)
          (walk-first c.args.links.now c.args.marks.now c.args.first c.requires.count c.requires.known c.requires.none_open c.requires.first c.requires.new);
      first = rw (c.new-below.ensures.items, c.new-visit.ensures) refl;
      stay = StayKnown-set c.args.marks.now c.args.marks.now c.args.first (Open 0) below (λ n is. new-known n (sym c.requires.new ∙ is)) (λ i n is. is);
    }

pub next_of-requires : goal.next_of-requires
next_of-requires c = λ i n is. omega (arith, (c.walk.invariant.walk.known i n is).1, count-most c.walk.marks)

pub returns-in-Endless-clause-endless : goal.returns-in-Endless-clause-endless
returns-in-Endless-clause-endless c = λ _.
    let here = looked_at c.args.links.now c.walk.marks c.walk.visit.task c.walk.visit.seen _ _ c.links_at.ensures c.in-Endless.ensures.there c.in-Endless.ensures.done refl in
    rw c.walk.invariant.first at (walk-endless _ _ _ _ c.walk.invariant.walk here.0 here.1 (length c.args.links.now) 0 (omega arith))

pub walk-preserved-in-Chain : goal.walk-preserved-in-Chain
walk-preserved-in-Chain c =
    let here = looked_at c.args.links.now c.walk.marks c.walk.visit.task c.walk.visit.seen _ _ c.links_at.ensures c.in-Chain.ensures.there c.in-Chain.ensures.done refl in
    record {
      walk = rw c.with_seen-visit.ensures (walk-seen _ _ _ _ c.in-Chain.tasks c.walk.invariant.walk here.0 here.1);
      first = at-task c.walk.below.items c.with_seen-visit.result c.walk.visit 0 (rw c.with_seen-visit.ensures refl) ∙ c.walk.invariant.first;
      stay = c.walk.invariant.stay;
    }

pub walk-smaller-in-Unknown : goal.walk-smaller-in-Unknown
walk-smaller-in-Unknown c =
    let here = looked_at c.args.links.now c.walk.marks c.walk.visit.task c.walk.visit.seen _ _ c.links_at.ensures c.in-Unknown.ensures.there c.in-Unknown.ensures.done refl in
    let new = (unknown_link c.walk.marks _ c.in-Unknown.task here.1).1 in
    let within = unknown_within c.args.links.now c.walk.marks c.walk.visit.task c.walk.visit.seen c.in-Unknown.task c.requires.within here.1 in
    let below : c.in-Unknown.task < length c.walk.marks = omega (arith, c.walk.invariant.walk.count) in
    rw (c.in_ok-push-in-Unknown.ensures.items, c.new-visit-in-Unknown.ensures)
    (work-opened c.args.links.now c.walk.marks c.walk.below.items c.walk.visit c.in-Unknown.task c.len.result below c.walk.invariant.walk.count new)

pub walk-preserved-in-Unknown : goal.walk-preserved-in-Unknown
walk-preserved-in-Unknown c =
    let here = looked_at c.args.links.now c.walk.marks c.walk.visit.task c.walk.visit.seen _ _ c.links_at.ensures c.in-Unknown.ensures.there c.in-Unknown.ensures.done refl in
    let new = (unknown_link c.walk.marks _ c.in-Unknown.task here.1).1 in
    let within = unknown_within c.args.links.now c.walk.marks c.walk.visit.task c.walk.visit.seen c.in-Unknown.task c.requires.within here.1 in
    let below : c.in-Unknown.task < length c.walk.marks = omega (arith, c.walk.invariant.walk.count) in
    let count : c.len.result ≡ length c.walk.below.items + 1 = omega (arith, c.len.ensures, c.in_ok-push-in-Unknown.ensures.len, c.walk.below.ok.0) in
    record {
      walk = rw (c.in_ok-push-in-Unknown.ensures.items, c.new-visit-in-Unknown.ensures, count)
          (walk-opened c.args.links.now c.walk.marks c.walk.below.items c.walk.visit c.in-Unknown.task c.walk.invariant.walk c.requires.within here.1);
      first = rw (c.in_ok-push-in-Unknown.ensures.items, at-push c.walk.below.items c.walk.visit c.new-visit-in-Unknown.result 0 (omega arith)) c.walk.invariant.first;
      stay = StayKnown-set _ c.walk.marks c.in-Unknown.task (Open c.len.result) below (λ n is. new-known n (sym new ∙ is)) c.walk.invariant.stay;
    }

pub bounds-marks-visit : goal.bounds-marks-visit
bounds-marks-visit c = omega (arith, c.walk.invariant.walk.count, (top_visit _ _ _ _ c.walk.invariant.walk).there)

pub offset_bounds-marks-visit : goal.offset_bounds-marks-visit
offset_bounds-marks-visit c =
    let below : c.walk.visit.task < length c.walk.marks = omega (arith, c.walk.invariant.walk.count, (top_visit _ _ _ _ c.walk.invariant.walk).there) in
    search rules

pub returns-in-None-clause-known : goal.returns-in-None-clause-known
returns-in-None-clause-known c = λ _.
    settled-known c.args.links.now c.walk.marks c.walk.below.items c.walk.visit c.walk.invariant.walk (all_seen c.args.links.now c.walk.marks _ c.walk.visit.seen _ c.links_at.ensures c.in-Done.ensures.there)

pub returns-in-None-clause-none_open : goal.returns-in-None-clause-none_open
returns-in-None-clause-none_open c = λ _.
    settled-none_open c.args.links.now c.walk.marks c.walk.visit (rw (empty c.walk.below.items (omega (arith, c.in-None.ensures.cases.0, c.walk.below.ok.0))) at c.walk.invariant.walk)
  where
    empty : (vs : List Visit) → length vs ≡ 0 → vs ≡ []
    empty [] h = refl
    empty (v ∷ vs) h = absurd (omega arith)

pub returns-in-None-clause-first : goal.returns-in-None-clause-first
returns-in-None-clause-first c = λ _.
    settled-own c.args.links.now c.walk.marks c.walk.visit c.args.first (rw (empty c.walk.below.items (omega (arith, c.in-None.ensures.cases.0, c.walk.below.ok.0))) at c.walk.invariant.walk)
    (rw (empty c.walk.below.items (omega (arith, c.in-None.ensures.cases.0, c.walk.below.ok.0))) at c.walk.invariant.first)
  where
    empty : (vs : List Visit) → length vs ≡ 0 → vs ≡ []
    empty [] h = refl
    empty (v ∷ vs) h = absurd (omega arith)

pub walk-smaller : goal.walk-smaller
walk-smaller c =
    let walk = rw c.in-Some.ensures.items at c.walk.invariant.walk in
    let last = top_visit _ _ _ _ walk in
    let below : c.walk.visit.task < length c.walk.marks = omega (arith, walk.count, last.there) in
    rw c.in-Some.ensures.items
    (work-settled c.args.links.now c.walk.marks c.pop.new.self.items c.in-Some.under c.walk.visit _ c.walk.visit.longest below walk.count last.waits)

pub walk-preserved : goal.walk-preserved
walk-preserved c =
    let walk = rw c.in-Some.ensures.items at c.walk.invariant.walk in
    let last = top_visit _ _ _ _ walk in
    let below : c.walk.visit.task < length c.walk.marks = omega (arith, walk.count, last.there) in
    record {
      walk = walk-settled c.args.links.now c.walk.marks c.pop.new.self.items c.in-Some.under c.walk.visit walk (all_seen c.args.links.now c.walk.marks _ c.walk.visit.seen _ c.links_at.ensures c.in-Done.ensures.there);
      first = rw (at-push c.pop.new.self.items c.in-Some.under c.walk.visit 0 (omega arith)) at (rw c.in-Some.ensures.items at c.walk.invariant.first);
      stay = StayKnown-set _ c.walk.marks c.walk.visit.task (Known c.walk.visit.longest) below (λ n is. open-known _ n (sym last.waits ∙ is)) c.walk.invariant.stay;
    }
