use Rattle.std.proofs.Common.{◌≡◌, ◌≤◌, length, [], is_none, true, false, ◌∙◌, sym, refl, arith}
use Rattle.std.proofs.lemmas.List.{drop_all}
use Rattle.cpa_draft.specs.Chains.{chain_within, first_longer}
use Rattle.cpa_draft.proofs.FirstLemmas.{first_place-from, step_marked, step_unmarked}
use Rattle.cpa_draft.proofs.SearchLaws.{known-sourced, stays-noted}
use Rattle.cpa_draft.proofs.chains.measure_chains.Goals as goal

pub returns-then-not-branch-clause-place : goal.returns-then-not-branch-clause-place
unfolding first_longer
returns-then-not-branch-clause-place c =
    let marked : is_none (chain_within c.args.links.now (length c.args.links.now) c.loop-task.task) ≡ true = rw (c.in_ok-measure_chain.ensures.endless cc) refl in
    sym (first_place-from _ c.args.links.now ∙ c.loop-task.invariant.rest ∙ step_marked _ c.args.links.now c.loop-task.task [] (omega arith) marked)

pub loop-task-preserved : goal.loop-task-preserved
loop-task-preserved c =
    let known = c.in_ok-measure_chain.ensures.known cc in
    let here = c.in_ok-measure_chain.ensures.task cc in
    let count : length c.measure_chain.new.marks ≡ length c.args.links.now = omega (arith, c.loop-task.invariant.count, c.measure_chain.auto.marks) in
    let unmarked : is_none (chain_within c.args.links.now (length c.args.links.now) c.loop-task.task) ≡ false =
    known-sourced c.args.links.now c.measure_chain.new.marks c.loop-task.task known count here in
    record {
      rest = c.loop-task.invariant.rest ∙ step_unmarked _ c.args.links.now c.loop-task.task [] (omega arith) unmarked;
      known = known;
      none_open = c.in_ok-measure_chain.ensures.none_open cc;
      noted = stays-noted c.loop-task.marks c.measure_chain.new.marks c.loop-task.task c.in_ok-measure_chain.ensures.stay c.loop-task.invariant.noted here;
      count = count;
    }

pub returns-clause-place : goal.returns-clause-place
unfolding first_longer
returns-clause-place c =
    let past : length c.args.links.now ≤ c.loop-task.task = omega arith in
    sym (first_place-from _ c.args.links.now ∙ c.loop-task.invariant.rest ∙ rw (drop_all c.loop-task.task c.args.links.now past))
