use Rattle.std.proofs.Common.{ℕ, List, subst}
use Rattle.cpa_workers.specs.Workers.{IsTaken}
use Rattle.cpa_fix.proofs.RoundLaws.{MayStart-next}
use Rattle.std.proofs.lemmas.Result.{on_ok_weaker}
use Rattle.cpa_workers.proofs.SettleLaws.{half-way, whole-round, whole-risen, whole-marked}
use Rattle.cpa_workers.proofs.round_end.settle.Goals as goal

pub alone-requires-after_bounds : goal.alone-requires-after_bounds
alone-requires-after_bounds c κs =
    let s = c.args.dirty.now.system.now in
    let taken = subst (λ (words : List ℕ). IsTaken s c.args.dirty.now.set c.args.x.now words c.take_words.new.x) c.as_slice.ensures.value c.take_words.ensures in
    let half = half-way s c.args.dirty.now.set c.args.x.now c.take_words.new.x c.args.outcome.words.items c.args.outcome.found c.args.readings.now c.take_over.new.self c.args.trail.now c.args.outcome.trail c.join.new.self
    c.requires.start c.requires.outcome taken c.take_over.ensures.long c.take_over.ensures.taken c.take_over.ensures.same c.join.ensures.kept c.join.ensures.fresh c.join.ensures.marked in
    MayStart-next s c.args.x.now c.take_words.new.x c.args.readings.now c.take_over.new.self c.args.trail.now c.join.new.self c.requires.start half.risen half.sound half.kept

pub returns-clause-risen : goal.returns-clause-risen
returns-clause-risen c =
    let s = c.args.dirty.now.system.now in
    let taken = subst (λ (words : List ℕ). IsTaken s c.args.dirty.now.set c.args.x.now words c.take_words.new.x) c.as_slice.ensures.value c.take_words.ensures in
    let half = half-way s c.args.dirty.now.set c.args.x.now c.take_words.new.x c.args.outcome.words.items c.args.outcome.found c.args.readings.now c.take_over.new.self c.args.trail.now c.args.outcome.trail c.join.new.self
    c.requires.start c.requires.outcome taken c.take_over.ensures.long c.take_over.ensures.taken c.take_over.ensures.same c.join.ensures.kept c.join.ensures.fresh c.join.ensures.marked in
    whole-risen s c.args.dirty.now.set c.args.x.now c.take_words.new.x c.alone.new.x c.args.outcome.found c.args.readings.now c.take_over.new.self c.args.trail.now c.args.outcome.trail c.join.new.self half c.alone.ensures.risen

pub returns-clause-done : goal.returns-clause-done
returns-clause-done c =
    let s = c.args.dirty.now.system.now in
    let taken = subst (λ (words : List ℕ). IsTaken s c.args.dirty.now.set c.args.x.now words c.take_words.new.x) c.as_slice.ensures.value c.take_words.ensures in
    let half = half-way s c.args.dirty.now.set c.args.x.now c.take_words.new.x c.args.outcome.words.items c.args.outcome.found c.args.readings.now c.take_over.new.self c.args.trail.now c.args.outcome.trail c.join.new.self
    c.requires.start c.requires.outcome taken c.take_over.ensures.long c.take_over.ensures.taken c.take_over.ensures.same c.join.ensures.kept c.join.ensures.fresh c.join.ensures.marked in
    on_ok_weaker c.alone.result
    (whole-round s c.args.dirty.now.set c.missing-set.result c.args.x.now c.take_words.new.x c.alone.new.x c.args.outcome.found c.args.readings.now c.take_over.new.self c.alone.new.readings c.args.trail.now c.args.outcome.trail c.join.new.self
    half c.missing-set.ensures c.alone.ensures.risen) c.alone.ensures.done

pub returns-clause-marked : goal.returns-clause-marked
returns-clause-marked c =
    let s = c.args.dirty.now.system.now in
    let taken = subst (λ (words : List ℕ). IsTaken s c.args.dirty.now.set c.args.x.now words c.take_words.new.x) c.as_slice.ensures.value c.take_words.ensures in
    let half = half-way s c.args.dirty.now.set c.args.x.now c.take_words.new.x c.args.outcome.words.items c.args.outcome.found c.args.readings.now c.take_over.new.self c.args.trail.now c.args.outcome.trail c.join.new.self
    c.requires.start c.requires.outcome taken c.take_over.ensures.long c.take_over.ensures.taken c.take_over.ensures.same c.join.ensures.kept c.join.ensures.fresh c.join.ensures.marked in
    on_ok_weaker c.alone.result
    (whole-marked s c.args.dirty.now.set c.missing-set.result c.args.x.now c.take_words.new.x c.args.outcome.found c.args.readings.now c.take_over.new.self c.args.trail.now c.args.outcome.trail c.join.new.self c.alone.new.trail
    half c.missing-set.ensures c.alone.ensures.kept) c.alone.ensures.marked
