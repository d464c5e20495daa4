-- The least solutions before and after are the same where nothing can be reached.
use Rattle.std.proofs.Common.{ℕ, zero, suc, ◌+◌, Bool, List, sym, ap, ◌∙◌}
use Rattle.cpa_units.specs.declared.bound.Bound.{Bound}
use Rattle.cpa_units.specs.Bounds.{bound_of}
use Rattle.cpa_model.specs.SystemLists.{SystemLists}
use Rattle.cpa_local.specs.Solution.{round, height, least_of}
use Rattle.cpa_local.proofs.ResponseLaws.{bound_of-responses}
use Rattle.cpa_session.specs.Spared.{AgreeApart}
use Rattle.cpa_session.proofs.SparedLaws.{IsReach, same_task, response_same}
use Rattle.cpa_local.proofs.RaisedLaws.{round-suc, bound_of-first, least-by}

module _ (s t : SystemLists) (touched reached : List Bool) (was : ℕ → ℕ) (h : IsReach s t touched reached was) where
  rounds_same : (n : ℕ) → AgreeApart t reached was (round s n) (round t n)
  rounds_same zero i less off = bound_of-first s (was i) ∙ sym (bound_of-first t i)
  rounds_same (suc n) i less off =
      let it = same_task s t touched reached was h i less off in
      ap (λ (x : List Bound). bound_of x (was i)) (round-suc s n)
      ∙ bound_of-responses s (round s n) (was i) it.there
      ∙ response_same s t touched reached was h (round s n) (round t n) (rounds_same n) i less off
      ∙ sym (bound_of-responses t (round t n) i less)
      ∙ sym (ap (λ (x : List Bound). bound_of x i) (round-suc t n))

  -- the least solution is what it was where nothing can be reached
  pub least_same : AgreeApart t reached was (least_of s) (least_of t)
  least_same =
      let both = least-by s t in
      rw (← both.0, ← both.1) (rounds_same (height t + 2 + (height s + 2)))
