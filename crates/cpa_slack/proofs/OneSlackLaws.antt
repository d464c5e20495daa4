-- A task has exactly one slack.
use Rattle.std.proofs.Common.{◌≡◌, ℕ, ◌+◌, ◌-◌, ◌<◌, ◌≤◌, ◌==◌, Bool, List, length, refl, sym, subst, inl, inr, arith}
use Rattle.std.specs.Bool.{Decides}
use Rattle.std.proofs.lemmas.Bool.{cases_Bool, cases_lt}
use Rattle.std.proofs.lemmas.Bool.Decides.{Decides-below_and, not_from_Decides, same_from_decides}
use Rattle.cpa_units.specs.declared.bound.Bound.{Bound}
use Rattle.cpa_units.specs.Sizes.{most_execution}
use Rattle.cpa_units.specs.Search.{greatest_to}
use Rattle.cpa_units.proofs.DeadlineLaws.{meets_deadline, deadline-decides}
use Rattle.cpa_units.proofs.SearchLaws.{all_pass, greatest_to-le, greatest_to-passes, greatest_to-greatest}
use Rattle.cpa_model.specs.declared.entries.Path.{Path}
use Rattle.cpa_model.specs.SystemLists.{SystemLists, task_at, path_at, no_task}
use Rattle.cpa_model.specs.Rules.{IsSystem, IsSizedTask}
use Rattle.cpa_local.specs.Solution.{least_of}
use Rattle.cpa_local.specs.Paths.{path_worst}
use Rattle.cpa_slack.specs.declared.slack.Slack.{Slack}
use Rattle.cpa_slack.specs.declared.slack.Slack.TheVariants.{Missed, Add}
use Rattle.cpa_slack.specs.Slack.{longer, HoldsPath, Holds, IsMost, IsMostUpTo, IsSlack}
use Rattle.cpa_slack.proofs.SlackLaws.{longer-none, less-holds, most-of_all}

-- ---- whether a system holds

path_meets : List Bound → Path → Bool
path_meets x p = meets_deadline p.deadline (path_worst x p)

path-decides : (x : List Bound) (p : Path) → Decides (path_meets x p) (HoldsPath x p)
unfolding path_meets
path-decides x p = deadline-decides p.deadline (path_worst x p)

does_hold : SystemLists → Bool
does_hold s = all_pass (λ k. path_meets (least_of s) (path_at s k)) (length s.paths)

holds-decides : (s : SystemLists) → Decides (does_hold s) (Holds s)
unfolding does_hold
holds-decides s =
    Decides-below_and (λ k. path_meets (least_of s) (path_at s k)) (λ k. HoldsPath (least_of s) (path_at s k))
    (all_pass (λ k. path_meets (least_of s) (path_at s k))) (λ k. path-decides (least_of s) (path_at s k)) refl (λ n. refl) (length s.paths)

-- ---- the most by which a task may grow

module _ (s : SystemLists) (i : ℕ) (rules : IsSystem s) (less : i < length s.tasks) where
  does_hold_with : ℕ → Bool
  does_hold_with k = does_hold (longer s i k)

  with-decides : (k : ℕ) → Decides (does_hold_with k) (Holds (longer s i k))
  unfolding does_hold_with
  with-decides k = holds-decides (longer s i k)

  most-holds : (most : ℕ) → Holds s → Holds (longer s i (greatest_to does_hold_with most))
  most-holds most holds =
      elim (cases_lt 0 (greatest_to does_hold_with most)) [
        | inl some ↦ (with-decides (greatest_to does_hold_with most)).0 (greatest_to-passes does_hold_with most some)
        | inr none ↦
            let nothing : greatest_to does_hold_with most ≡ 0 = omega arith in
            subst (λ (k : ℕ). Holds (longer s i k)) (sym nothing) (subst Holds (sym (longer-none s i less)) holds)
      ]

  most-up_to : (most : ℕ) → (task_at s i).worst + most ≤ most_execution s.size → Holds s → IsMostUpTo s i most (greatest_to does_hold_with most)
  most-up_to most in_range holds =
      let few = greatest_to-le does_hold_with most in
      record {
        some = few;
        holds = λ k le. less-holds s i k (greatest_to does_hold_with most) rules less le (omega (arith, few, in_range)) (most-holds most holds);
        most = λ k more up_to it. let at_most = greatest_to-greatest does_hold_with most k up_to ((with-decides k).1 it) in absurd (omega (arith, more, at_most));
      }

  pub slack_exists : (slack : Slack) × IsSlack s i slack
  slack_exists =
      let it : IsSizedTask s.size (task_at s i) = rules.sized.times i no_task less in
      let room : ℕ = most_execution s.size - (task_at s i).worst in
      let full : (task_at s i).worst + room ≡ most_execution s.size = omega (arith, it.worst) in
      elim (cases_Bool (does_hold s)) [
        | inl told ↦
            let holds : Holds s = (holds-decides s).0 told in
            let ticks : ℕ = greatest_to does_hold_with room in
            (Add ticks (ticks == room), (holds, most-of_all s i room ticks (ticks == room) full refl (most-up_to room (omega (arith, full)) holds)))
        | inr told ↦ (Missed, not_from_Decides (does_hold s) (holds-decides s) told)
      ]

-- ---- there is only one

ticks-one : (s : SystemLists) (i ticks other : ℕ) (limit limit' : Bool) → IsMost s i ticks limit → IsMost s i other limit' → other ≤ ticks
ticks-one s i ticks other limit limit' first second =
    elim (cases_lt ticks other) [
      | inl less ↦ absurd (first.most other less second.in_range (second.holds other (omega arith)))
      | inr most ↦ most
    ]

most-one : (s : SystemLists) (i ticks other : ℕ) (limit limit' : Bool) → IsMost s i ticks limit → IsMost s i other limit' → Add ticks limit ≡ Add other limit'
most-one s i ticks other limit limit' first second =
    let a = ticks-one s i ticks other limit limit' first second in
    let b = ticks-one s i other ticks limit' limit second first in
    let same : ticks ≡ other = omega (arith, a, b) in
    let also : limit ≡ limit' = same_from_decides limit limit' first.at_limit (subst (λ (n : ℕ). Decides limit' ((task_at s i).worst + n ≡ most_execution s.size)) (sym same) second.at_limit) in
    rw (same, also) refl

pub slack_is_one : (s : SystemLists) (i : ℕ) (slack other : Slack) → IsSlack s i slack → IsSlack s i other → slack ≡ other
slack_is_one s i Missed Missed first second = refl
slack_is_one s i Missed (Add ticks limit) first second = absurd (first second.0)
slack_is_one s i (Add ticks limit) Missed first second = absurd (second first.0)
slack_is_one s i (Add ticks limit) (Add other limit') first second = most-one s i ticks other limit limit' first.1 second.1
