use Rattle.std.proofs.Common.{◌≡◌, ◌≤◌, length, take, true, false, ◌∙◌, sym, arith}
use Rattle.std.specs.List.{filter_map}
use Rattle.std.proofs.lemmas.List.{drop_all}
use Rattle.cpa_draft.specs.Refusals.{rank_of, is_taken}
use Rattle.cpa_draft.proofs.FirstLemmas.{first_place-from, step_marked, step_unmarked}
use Rattle.cpa_draft.proofs.RankLaws.{ranks_more}
use Rattle.cpa_draft.proofs.ranks.first_known_rank.Goals as goal

pub returns-then-not-branch-clause-place : goal.returns-then-not-branch-clause-place
returns-then-not-branch-clause-place c =
    let ranks = filter_map (rank_of c.args.draft.now) (take c.loop-k.k c.args.tasks.now) in
    let marked : is_taken (rank_of c.args.draft.now c.index-tasks-k.result) ranks ≡ true =
    rw (← c.loop-k.invariant.ranks, ← c.rank_of-rank.ensures) (c.in_ok-take.ensures.taken cc) in
    sym (first_place-from _ c.args.tasks.now ∙ c.loop-k.invariant.rest ∙ step_marked _ c.args.tasks.now c.loop-k.k c.index-tasks-k.result (omega arith) (rw (← c.index-tasks-k.is) marked))

pub loop-k-preserved : goal.loop-k-preserved
loop-k-preserved c =
    let ranks = filter_map (rank_of c.args.draft.now) (take c.loop-k.k c.args.tasks.now) in
    let unmarked : is_taken (rank_of c.args.draft.now c.index-tasks-k.result) ranks ≡ false =
    rw (← c.loop-k.invariant.ranks, ← c.rank_of-rank.ensures) (c.in_ok-take.ensures.free cc) in
    record {
      ranks =
          c.in_ok-take.ensures.added (cc)
          ∙ rw (c.loop-k.invariant.ranks, c.rank_of-rank.ensures) (ranks_more c.args.draft.now c.args.tasks.now c.loop-k.k c.index-tasks-k.result (omega arith) c.index-tasks-k.is);
      rest =
          c.loop-k.invariant.rest
          ∙ step_unmarked _ c.args.tasks.now c.loop-k.k c.index-tasks-k.result (omega arith) (rw (← c.index-tasks-k.is) unmarked);
    }

pub returns-clause-place : goal.returns-clause-place
returns-clause-place c =
    let past : length c.args.tasks.now ≤ c.loop-k.k = omega arith in
    sym (first_place-from _ c.args.tasks.now ∙ c.loop-k.invariant.rest ∙ rw (drop_all c.loop-k.k c.args.tasks.now past))
