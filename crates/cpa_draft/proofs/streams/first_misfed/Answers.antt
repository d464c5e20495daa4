use Rattle.std.proofs.Common.{◌≡◌, ◌≤◌, length, true, false, sym, ◌∙◌, arith}
use Rattle.std.proofs.lemmas.List.{drop_all}
use Rattle.cpa_draft.specs.Refusals.{is_misfed}
use Rattle.cpa_draft.proofs.FirstLemmas.{first_place-from, step_marked, step_unmarked}
use Rattle.cpa_draft.proofs.StreamLaws.{misfed-told}
use Rattle.cpa_draft.proofs.streams.first_misfed.Goals as goal

pub returns-then-branch-clause-place : goal.returns-then-branch-clause-place
returns-then-branch-clause-place c =
    let marked : is_misfed c.args.draft.now c.loop-place.place c.index-tasks-place.result ≡ true =
    sym (misfed-told c.args.draft.now c.loop-place.place c.index-tasks-place.result c.count_at.result
    (rw (c.count_at.ensures, ← c.requires, c.deref.ensures.value) (c.in_ok-streams.ensures c.loop-place.place)))
    ∙ sym (rw c.names.ensures at c.in_ok-is_misfed.ensures)
    ∙ c.if-branch.true in
    sym (first_place-from _ c.args.tasks.now ∙ c.loop-place.invariant ∙ step_marked _ c.args.tasks.now c.loop-place.place c.index-tasks-place.result (omega arith) (rw (← c.index-tasks-place.is) marked))

pub loop-place-preserved : goal.loop-place-preserved
loop-place-preserved c =
    let unmarked : is_misfed c.args.draft.now c.loop-place.place c.index-tasks-place.result ≡ false =
    sym (misfed-told c.args.draft.now c.loop-place.place c.index-tasks-place.result c.count_at.result
    (rw (c.count_at.ensures, ← c.requires, c.deref.ensures.value) (c.in_ok-streams.ensures c.loop-place.place)))
    ∙ sym (rw c.names.ensures at c.in_ok-is_misfed.ensures)
    ∙ c.if-branch.false in
    c.loop-place.invariant ∙ step_unmarked _ c.args.tasks.now c.loop-place.place c.index-tasks-place.result (omega arith) (rw (← c.index-tasks-place.is) unmarked)

pub returns-clause-place : goal.returns-clause-place
returns-clause-place c =
    let past : length c.args.tasks.now ≤ c.loop-place.place = omega arith in
    sym (first_place-from _ c.args.tasks.now ∙ c.loop-place.invariant ∙ rw (drop_all c.loop-place.place c.args.tasks.now past))
