-- The least solution exists, and there is one.
use Rattle.std.proofs.Common.{◌≡◌, ℕ, zero, suc, ◌+◌, ◌<◌, ◌≤◌, length, replicate, List, [], ◌∷◌, map, refl, sym, ap, ◌∙◌, inl, inr, ◌⊎◌, subst, arith}
use Rattle.std.specs.List.{sum_by}
use Rattle.std.proofs.lemmas.Bool.{cases_lt}
use Rattle.std.proofs.lemmas.List.{get_or_past, get_or-replicate, length-replicate}
use Rattle.std.proofs.lemmas.List.Sums.{sum_by-cons}
use Rattle.cpa_units.specs.declared.bound.Bound.{Bound}
use Rattle.cpa_units.specs.declared.bound.Bound.TheVariants.{Within, Overload}
use Rattle.cpa_units.specs.declared.limits.TheConstants.{MAX_LIMIT}
use Rattle.cpa_units.specs.Bounds.{IsAtMost, RespectsLimit, IsNowhereAbove, bound_of}
use Rattle.cpa_units.proofs.BoundLaws.{IsAtMost_trans, zero_at_most, IsNowhereAbove_refl, IsNowhereAbove_trans}
use Rattle.cpa_model.specs.SystemLists.{SystemLists, task_at, resource_of, task_places, no_task, no_resource}
use Rattle.cpa_model.specs.Rules.{IsSystem, IsTask, IsResource}
use Rattle.cpa_local.specs.Local.{response, responses}
use Rattle.cpa_local.specs.Solution.{IsVector, IsClosed, IsLeast, floor_of, round, height, least_of}
use Rattle.cpa_local.proofs.VectorLaws.{weaker_limit, same_bounds, bound_of-places, floor-vector}
use Rattle.cpa_local.proofs.ResponseLaws.{response-mono, response-limit, response-ge, responses-mono, bound_of-responses, length-responses}

-- ---- how often vectors can rise

-- the place of a bound among those within a limit
pub rank : ℕ → Bound → ℕ
rank limit (Within a) = a
rank limit Overload = limit + 1

pub rank-mono : (limit : ℕ) (a b : Bound) → RespectsLimit limit a → IsAtMost a b → rank limit a ≤ rank limit b
unfolding rank
rank-mono limit (Within a) (Within b) l h = h
rank-mono limit (Within a) Overload l h = omega arith
rank-mono limit Overload (Within b) l h = absurd h
rank-mono limit Overload Overload l h = omega arith

pub rank-same : (limit : ℕ) (a b : Bound) → RespectsLimit limit a → IsAtMost a b → rank limit b ≤ rank limit a → a ≡ b
unfolding rank
rank-same limit (Within a) (Within b) l h k = ap Within (omega arith)
rank-same limit (Within a) Overload l h k = absurd (omega arith)
rank-same limit Overload (Within b) l h k = absurd h
rank-same limit Overload Overload l h k = refl

pub rank-le : (limit : ℕ) (a : Bound) → RespectsLimit limit a → rank limit a ≤ limit + 1
unfolding rank
rank-le limit (Within a) l = omega arith
rank-le limit Overload l = omega arith

module _ (limit : ℕ → ℕ) (f g : ℕ → Bound) (within : (i : ℕ) → RespectsLimit (limit i) (f i)) where
  f_rank : ℕ → ℕ
  f_rank i = rank (limit i) (f i)

  g_rank : ℕ → ℕ
  g_rank i = rank (limit i) (g i)

  ranks-le : (is : List ℕ) → sum_by f_rank is ≤ sum_by (λ i. limit i + 1) is
  ranks-le [] = omega arith
  ranks-le (i ∷ is) =
      let here : f_rank i ≤ limit i + 1 = unfold f_rank in rank-le (limit i) (f i) (within i) in
      omega (arith, ranks-le is, sum_by-cons f_rank i is, sum_by-cons (λ k. limit k + 1) i is)

  rank_up : (i : ℕ) → IsAtMost (f i) (g i) → f_rank i ≤ g_rank i
  unfolding f_rank g_rank
  rank_up i h = rank-mono (limit i) (f i) (g i) (within i) h

  rank_same : (i : ℕ) → IsAtMost (f i) (g i) → g_rank i ≤ f_rank i → f i ≡ g i
  unfolding f_rank g_rank
  rank_same i h k = rank-same (limit i) (f i) (g i) (within i) h k

  ranks-mono : ((i : ℕ) → IsAtMost (f i) (g i)) → (is : List ℕ) → sum_by f_rank is ≤ sum_by g_rank is
  ranks-mono h [] = omega arith
  ranks-mono h (i ∷ is) =
      omega (arith, rank_up i (h i), ranks-mono h is, sum_by-cons f_rank i is, sum_by-cons g_rank i is)

  -- where the places add up to no more, nothing has risen
  ranks-same : ((i : ℕ) → IsAtMost (f i) (g i)) → (is : List ℕ) → sum_by g_rank is ≤ sum_by f_rank is → map f is ≡ map g is
  ranks-same h [] k = refl
  ranks-same h (i ∷ is) k =
      let here = rank_up i (h i) in
      let rest = ranks-mono h is in
      let fs = sum_by-cons f_rank i is in
      let gs = sum_by-cons g_rank i is in
      let a : f i ≡ g i = rank_same i (h i) (omega arith) in
      let b : map f is ≡ map g is = ranks-same h is (omega arith) in
      cc

-- ---- rounds

module _ (s : SystemLists) where
  limit_of : ℕ → ℕ
  limit_of i = (resource_of s i).limit

  -- the places of the bounds at a round
  total : ℕ → ℕ
  total k = sum_by (λ i. rank (limit_of i) (response s (round s k) i)) (task_places s)

  round-next : (k : ℕ) → round s (suc k) ≡ responses s (round s k)
  unfolding round
  round-next k = refl

  nothing_first : (y : List Bound) → IsNowhereAbove (round s 0) y
  unfolding round
  nothing_first y i =
      elim (cases_lt i (length s.tasks)) [
        | inl in_range ↦ rw (get_or-replicate (length s.tasks) i (Within 0) (Within 0) in_range) (zero_at_most (bound_of y i))
        | inr past ↦ rw (get_or_past (replicate (length s.tasks) (Within 0)) i (Within 0) (omega (arith, length-replicate (length s.tasks) (Within 0)))) (zero_at_most (bound_of y i))
      ]

  pub round-mono : (k : ℕ) → IsNowhereAbove (round s k) (round s (suc k))
  round-mono zero = nothing_first (round s 1)
  round-mono (suc k) = rw (round-next k, round-next (suc k)) (responses-mono s (round s k) (round s (suc k)) (round-mono k))

  -- no round passes a closed vector
  pub round-below : (y : List Bound) → IsClosed s y → (k : ℕ) → IsNowhereAbove (round s k) y
  round-below y closed zero = nothing_first y
  round-below y closed (suc k) =
      rw (round-next k) (IsNowhereAbove_trans (responses s (round s k)) (responses s y) y (responses-mono s (round s k) y (round-below y closed k)) closed)

  -- after k rounds either nothing rises any more, or the places add up to k
  rises : (k : ℕ) → (round s (suc k) ≡ round s (suc (suc k))) ⊎ (k ≤ total k)
  unfolding total limit_of f_rank g_rank
  rises zero = inr (omega arith)
  rises (suc k) =
      elim (rises k) [
        | inl still ↦ inl (rw (round-next (suc k), round-next (suc (suc k))) (ap (responses s) still))
        | inr risen ↦
            let up : (i : ℕ) → IsAtMost (response s (round s k) i) (response s (round s (suc k)) i) = response-mono s (round s k) (round s (suc k)) (round-mono k) in
            elim (cases_lt (total k) (total (suc k))) [
              | inl more ↦ inr (omega arith)
              | inr no_more ↦
                  let same : responses s (round s k) ≡ responses s (round s (suc k)) = ranks-same limit_of (response s (round s k)) (response s (round s (suc k))) (response-limit s (round s k)) up (task_places s) no_more in
                  let next : round s (suc k) ≡ round s (suc (suc k)) = rw (round-next k, round-next (suc k)) same in
                  inl (rw (round-next (suc k), round-next (suc (suc k))) (ap (responses s) next))
            ]
      ]

  total-le : (k : ℕ) → total k ≤ height s
  unfolding total height limit_of f_rank
  total-le k = ranks-le limit_of (response s (round s k)) (response s (round s k)) (response-limit s (round s k)) (task_places s)

  still : round s (suc (height s + 1)) ≡ round s (suc (suc (height s + 1)))
  still =
      elim (rises (height s + 1)) [
        | inl same ↦ same
        | inr risen ↦ absurd (omega (arith, total-le (height s + 1)))
      ]

  -- the least solution is a fixed point
  pub responses-least_of : responses s (least_of s) ≡ least_of s
  unfolding least_of
  responses-least_of =
      let e : height s + 2 ≡ suc (suc (height s)) = omega arith in
      let f : height s + 1 ≡ suc (height s) = omega arith in
      rw (e, ← round-next (suc (suc (height s)))) (sym (rw f at still))

  pub least_of-closed : IsClosed s (least_of s)
  least_of-closed = rw responses-least_of (IsNowhereAbove_refl (least_of s))

  pub least_of-le : (y : List Bound) → IsClosed s y → IsNowhereAbove (least_of s) y
  unfolding least_of
  least_of-le y closed = round-below y closed (height s + 2)

  length-least_of : length (least_of s) ≡ length s.tasks
  length-least_of = rw (← responses-least_of) (length-responses s (least_of s))

  pub bound_of-least_of : (i : ℕ) → i < length s.tasks → bound_of (least_of s) i ≡ response s (least_of s) i
  bound_of-least_of i h = sym (ap (λ x. bound_of x i) responses-least_of) ∙ bound_of-responses s (least_of s) i h

  -- no bound is below the task's least execution
  pub response-low : IsSystem s → (x : List Bound) (i : ℕ) → i < length s.tasks → IsAtMost (Within (task_at s i).best) (response s x i)
  response-low rules x i less =
      let t : IsTask s (task_at s i) = rules.tasks i no_task less in
      IsAtMost_trans (Within (task_at s i).best) (Within (task_at s i).worst) (response s x i) t.ordered (response-ge s x rules i less)

  -- and no number past the greatest
  pub response-high : IsSystem s → (x : List Bound) (i : ℕ) → i < length s.tasks → RespectsLimit MAX_LIMIT (response s x i)
  response-high rules x i less =
      let t : IsTask s (task_at s i) = rules.tasks i no_task less in
      let r : IsResource (resource_of s i) = rules.resources (task_at s i).res.0 no_resource t.placed in
      weaker_limit (resource_of s i).limit MAX_LIMIT (response s x i) r.limit (response-limit s x i)

  -- the least solution is a vector of the system
  least_of-vector : IsSystem s → IsVector s (least_of s)
  least_of-vector rules =
      record {
        long = length-least_of;
        low = λ i h. rw (bound_of-least_of i h) (response-low rules (least_of s) i h);
        high = λ i h. rw (bound_of-least_of i h) (response-high rules (least_of s) i h);
      }

  pub least_of-is_least : IsSystem s → IsLeast s (least_of s)
  least_of-is_least rules =
      record { vector = least_of-vector rules; closed = least_of-closed; least = λ y v closed. least_of-le y closed }

  -- what is nowhere above the least solution and closed is the least solution
  pub least_of-from_closed : (x : List Bound) → length x ≡ length s.tasks → IsNowhereAbove x (least_of s) → IsClosed s x → x ≡ least_of s
  least_of-from_closed x long below closed = same_bounds x (least_of s) (long ∙ sym length-least_of) below (least_of-le x closed)

  -- a vector that some round reaches, and that F leaves as it is, is the least solution
  pub least_of-reached : (x : List Bound) (k : ℕ) → round s k ≡ x → responses s x ≡ x → x ≡ least_of s
  least_of-reached x k reached fixed =
      least_of-from_closed x (rw (← fixed) (length-responses s x))
      (subst (λ y. IsNowhereAbove y (least_of s)) reached (round-below (least_of s) least_of-closed k))
      (rw fixed (IsNowhereAbove_refl x))

  -- F leads nothing above the least solution
  pub response-below : (x : List Bound) (i : ℕ) → i < length s.tasks → IsNowhereAbove x (least_of s) → IsAtMost (response s x i) (bound_of (least_of s) i)
  response-below x i in_range below = rw (bound_of-least_of i in_range) (response-mono s x (least_of s) below i)

-- the least executions are nowhere above the least solution
pub floor-below : (s : SystemLists) → IsSystem s → IsNowhereAbove (floor_of s) (least_of s)
floor-below s rules i =
    elim (cases_lt i (length s.tasks)) [
      | inl less ↦ rw (bound_of-places s (λ i. Within (task_at s i).best) i less) ((least_of-is_least s rules).vector.low i less)
      | inr past ↦
          let long = (floor-vector s rules).long in
          rw (get_or_past (floor_of s) i (Within 0) (omega arith)) (zero_at_most (bound_of (least_of s) i))
    ]
