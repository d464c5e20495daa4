use Rattle.std.proofs.Common.{◌≡◌, take, true, false, sym, ◌∙◌, arith}
use Rattle.cpa_draft.specs.Refusals.{mislocked_after}
use Rattle.cpa_draft.proofs.FirstLemmas.{stops_at, goes_past, finds_none}
use Rattle.cpa_draft.proofs.locks.first_mislocked.Goals as goal

pub returns-then-is_mislocked-clause-place : goal.returns-then-is_mislocked-clause-place
returns-then-is_mislocked-clause-place c =
    let marked : mislocked_after (take c.loop-k.k c.args.tasks.now) c.index-tasks-k.result ≡ true = sym c.is_mislocked.ensures ∙ c.if-is_mislocked.true in
    stops_at _ c.args.tasks.now c.loop-k.k c.loop-k.invariant c.index-tasks-k.result (omega arith) c.index-tasks-k.is marked

pub loop-k-preserved : goal.loop-k-preserved
loop-k-preserved c =
    let unmarked : mislocked_after (take c.loop-k.k c.args.tasks.now) c.index-tasks-k.result ≡ false = sym c.is_mislocked.ensures ∙ c.if-is_mislocked.false in
    goes_past _ c.args.tasks.now c.loop-k.k c.loop-k.invariant c.index-tasks-k.result (omega arith) c.index-tasks-k.is unmarked

pub returns-clause-place : goal.returns-clause-place
returns-clause-place c = finds_none _ c.args.tasks.now c.loop-k.k c.loop-k.invariant (omega arith)
