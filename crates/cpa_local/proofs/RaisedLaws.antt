-- Where each task asks for at least as much, the least solution is nowhere lower.
use Rattle.std.proofs.Common.{◌≡◌, ℕ, zero, suc, ◌+◌, ◌<◌, ◌≤◌, length, replicate, List, map, refl, ap, ◌∙◌, inl, inr, arith}
use Rattle.std.proofs.lemmas.Bool.{cases_lt}
use Rattle.std.proofs.lemmas.List.{get_or_past, get_or-replicate, length-replicate}
use Rattle.std.proofs.lemmas.List.FromFn.{length-map-range_with_len}
use Rattle.cpa_units.specs.declared.bound.Bound.{Bound}
use Rattle.cpa_units.specs.declared.bound.Bound.TheVariants.{Within}
use Rattle.cpa_units.specs.Bounds.{IsAtMost, IsNowhereAbove, bound_of}
use Rattle.cpa_units.proofs.BoundLaws.{IsAtMost_refl, IsAtMost_trans, IsNowhereAbove_trans, zero_at_most}
use Rattle.cpa_model.specs.SystemLists.{SystemLists, task_at, task_places, no_task}
use Rattle.cpa_model.specs.Rules.{IsSystem, IsTask}
use Rattle.cpa_local.specs.Local.{response, responses}
use Rattle.cpa_local.specs.Solution.{IsClosed, round, height, least_of}
use Rattle.cpa_local.specs.Raising.{IsRaising}
use Rattle.cpa_local.proofs.ResponseLaws.{bound_of-responses, bound_of-responses_past, response-ge_first}
use Rattle.cpa_local.proofs.SolutionLaws.{responses-least_of, least_of-le, bound_of-least_of}
use Rattle.cpa_local.proofs.VectorLaws.{bound_of-places}
use Rattle.cpa_local.proofs.WiderLaws.{IsSentWider}
use Rattle.cpa_local.proofs.WholeLaws.{raised-whole}
use Rattle.cpa_local.proofs.RaisingLaws.{response_up}

pub round-suc : (s : SystemLists) (n : ℕ) → round s (suc n) ≡ responses s (round s n)
unfolding round
round-suc s n = refl

pub bound_of-first : (s : SystemLists) (i : ℕ) → bound_of (round s 0) i ≡ Within 0
unfolding round
bound_of-first s i =
    elim (cases_lt i (length s.tasks)) [
      | inl less ↦ get_or-replicate (length s.tasks) i (Within 0) (Within 0) less
      | inr past ↦ get_or_past (replicate (length s.tasks) (Within 0)) i (Within 0) (omega (arith, length-replicate (length s.tasks) (Within 0)))
    ]

-- after so many rounds nothing rises any more
round-still : (s : SystemLists) (more : ℕ) → round s (more + (height s + 2)) ≡ least_of s
unfolding least_of
round-still s zero = ap (round s) (omega arith)
round-still s (suc more) =
    let e : suc more + (height s + 2) ≡ suc (more + (height s + 2)) = omega arith in
    let fixed : responses s (round s (height s + 2)) ≡ round s (height s + 2) = responses-least_of s in
    rw (e, round-suc s (more + (height s + 2)), round-still s more) fixed

-- both reach their least solutions
pub least-by : (s t : SystemLists) → (round s (height t + 2 + (height s + 2)) ≡ least_of s) × (round t (height t + 2 + (height s + 2)) ≡ least_of t)
least-by s t =
    let e : height t + 2 + (height s + 2) ≡ height s + 2 + (height t + 2) = omega arith in
    (round-still s (height t + 2), ap (round t) e ∙ round-still t (height s + 2))

module _ (s t : SystemLists) (rules : IsSystem s) (up : IsRaising s t) where
  -- the bounds of the tasks of s at the least solution of t
  kept : List Bound
  kept = map (bound_of (least_of t)) (task_places s)

  kept-is : (i : ℕ) → i < length s.tasks → bound_of kept i ≡ bound_of (least_of t) i
  unfolding kept
  kept-is i less = bound_of-places s (bound_of (least_of t)) i less

  there : (i : ℕ) → i < length s.tasks → i < length t.tasks
  there i less = omega (arith, up.more)

  -- none is below the least execution in s, since no bound in t is below the greatest there
  kept-low : (i : ℕ) → i < length s.tasks → IsAtMost (Within (task_at s i).best) (bound_of kept i)
  kept-low i less =
      let v : IsTask s (task_at s i) = rules.tasks i no_task less in
      let longer : (task_at s i).best ≤ (task_at t i).worst = omega (arith, v.ordered, (up.tasks i less).worst) in
      rw (kept-is i less, bound_of-least_of t i (there i less))
      (IsAtMost_trans (Within (task_at s i).best) (Within (task_at t i).worst) (response t (least_of t) i) longer (response-ge_first t (length s.tasks) (least_of t) (raised-whole s t rules up) i less))

  kept-sent : (i : ℕ) → i < length s.tasks → IsSentWider s t kept (least_of t) i
  kept-sent i less =
      record { best = (up.tasks i less).best; bound = rw (kept-is i less) (IsAtMost_refl (bound_of (least_of t) i)); order = inr (kept-low i less) }

  -- so they are closed in s
  kept-closed : IsClosed s kept
  kept-closed i =
      elim (cases_lt i (length s.tasks)) [
        | inl less ↦
            rw (bound_of-responses s kept i less, kept-is i less, bound_of-least_of t i (there i less))
            (response_up s t rules up kept (least_of t) kept-sent i less)
        | inr past ↦ rw (bound_of-responses_past s kept i past) (zero_at_most (bound_of kept i))
      ]

  kept-below : IsNowhereAbove kept (least_of t)
  unfolding kept
  kept-below i =
      elim (cases_lt i (length s.tasks)) [
        | inl less ↦ rw (bound_of-places s (bound_of (least_of t)) i less) (IsAtMost_refl (bound_of (least_of t) i))
        | inr past ↦
            rw (get_or_past (map (bound_of (least_of t)) (task_places s)) i (Within 0) (omega (arith, past, length-map-range_with_len (bound_of (least_of t)) 0 (length s.tasks))))
            (zero_at_most (bound_of (least_of t) i))
      ]

  -- the least solution is nowhere lower than before
  pub least_up : IsNowhereAbove (least_of s) (least_of t)
  least_up = IsNowhereAbove_trans (least_of s) kept (least_of t) (least_of-le s kept kept-closed) kept-below
