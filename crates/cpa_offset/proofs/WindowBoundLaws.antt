-- A busy window whose first job may come late.
use Rattle.std.proofs.Common.{◌≡◌, ℕ, ◌≤◌, true, false, refl, sym, ◌∙◌, ap, inl, inr, arith}
use Rattle.std.proofs.lemmas.Bool.{cases_Bool, lt-leb, false≢true}
use Rattle.cpa_units.specs.declared.bound.Bound.{Bound}
use Rattle.cpa_units.specs.declared.bound.Bound.TheVariants.{Within, Overload}
use Rattle.cpa_units.specs.Bounds.{IsAtMost, RespectsLimit, fits}
use Rattle.cpa_units.proofs.BoundLaws.{IsAtMost_refl, IsAtMost_trans, fits-true, fits-from, zero_at_most}
use Rattle.cpa_window.specs.Windows.{window, IsWindow}
use Rattle.cpa_window.specs.BusyWindow.{busy_window_bound, windows_of}
use Rattle.cpa_window.proofs.WindowLaws.{window-is, window-mono}
use Rattle.cpa_window.proofs.BusyWindowLaws.{busy_window_bound-grows, busy_window_bound-high}
use Rattle.cpa_offset.specs.Offsets.{window_bound}

pub late-none : (demand : ℕ → ℕ → Bound) (earliest : ℕ → ℕ) (limit : ℕ) → fits (window (demand 0) 1 limit) (earliest 1) ≡ true → window_bound demand earliest limit ≡ Within 0
unfolding window_bound
late-none demand earliest limit e = rw (e, window_bound) refl

pub late-some : (demand : ℕ → ℕ → Bound) (earliest : ℕ → ℕ) (limit : ℕ) → fits (window (demand 0) 1 limit) (earliest 1) ≡ false → window_bound demand earliest limit ≡ busy_window_bound (windows_of demand limit) earliest limit
unfolding window_bound
late-some demand earliest limit e = rw (e, window_bound) refl

pub late-le_busy : (demand : ℕ → ℕ → Bound) (earliest : ℕ → ℕ) (limit : ℕ) → IsAtMost (window_bound demand earliest limit) (busy_window_bound (windows_of demand limit) earliest limit)
late-le_busy demand earliest limit =
    elim (cases_Bool (fits (window (demand 0) 1 limit) (earliest 1))) [
      | inl e ↦ rw (late-none demand earliest limit e) (zero_at_most (busy_window_bound (windows_of demand limit) earliest limit))
      | inr e ↦ rw (late-some demand earliest limit e) (IsAtMost_refl (busy_window_bound (windows_of demand limit) earliest limit))
    ]

-- where more is asked for, and jobs come no later, it is no less
pub late-grows : (demand demand' : ℕ → ℕ → Bound) (earliest earliest' : ℕ → ℕ) (limit : ℕ) → ((q w : ℕ) → IsAtMost (demand q w) (demand' q w)) → ((q : ℕ) → earliest' q ≤ earliest q) → IsAtMost (window_bound demand earliest limit) (window_bound demand' earliest' limit)
late-grows demand demand' earliest earliest' limit more sooner =
    elim (cases_Bool (fits (window (demand 0) 1 limit) (earliest 1))) [
      | inl e ↦ rw (late-none demand earliest limit e) (zero_at_most (window_bound demand' earliest' limit))
      | inr e ↦ elim (cases_Bool (fits (window (demand' 0) 1 limit) (earliest' 1))) [
        | inl e' ↦
            let over : IsAtMost (window (demand' 0) 1 limit) (Within (earliest' 1)) = fits-true (window (demand' 0) 1 limit) (earliest' 1) e' in
            let sooner_too : IsAtMost (Within (earliest' 1)) (Within (earliest 1)) = sooner 1 in
            let shorter : IsAtMost (window (demand 0) 1 limit) (window (demand' 0) 1 limit) = window-mono (demand 0) (demand' 0) 1 limit (more 0) in
            let too : IsAtMost (window (demand 0) 1 limit) (Within (earliest 1)) =
            IsAtMost_trans (window (demand 0) 1 limit) (window (demand' 0) 1 limit) (Within (earliest 1)) shorter (IsAtMost_trans (window (demand' 0) 1 limit) (Within (earliest' 1)) (Within (earliest 1)) over sooner_too)
            in
            absurd (false≢true (sym e ∙ fits-from (window (demand 0) 1 limit) (earliest 1) too))
        | inr e' ↦ rw (late-some demand earliest limit e, late-some demand' earliest' limit e') (busy_window_bound-grows demand demand' earliest earliest' limit more sooner)
      ]
    ]

no_window_at_once : (d : ℕ → Bound) (limit : ℕ) (w : Bound) → IsWindow d 1 limit w → fits w 0 ≡ false
no_window_at_once d limit (Within w) h = lt-leb w 0 (omega (arith, h.0))
no_window_at_once d limit Overload h = refl

-- where the first job may come at once, it is that of the busy window
pub late-at_once : (demand : ℕ → ℕ → Bound) (earliest : ℕ → ℕ) (limit : ℕ) → earliest 1 ≡ 0 → window_bound demand earliest limit ≡ busy_window_bound (windows_of demand limit) earliest limit
late-at_once demand earliest limit e =
    late-some demand earliest limit (rw e (no_window_at_once (demand 0) limit (window (demand 0) 1 limit) (window-is (demand 0) 1 limit)))

pub late-limit : (demand : ℕ → ℕ → Bound) (earliest : ℕ → ℕ) (limit : ℕ) → RespectsLimit limit (window_bound demand earliest limit)
late-limit demand earliest limit =
    elim (cases_Bool (fits (window (demand 0) 1 limit) (earliest 1))) [
      | inl e ↦ rw (late-none demand earliest limit e) (omega arith)
      | inr e ↦ rw (late-some demand earliest limit e) (busy_window_bound-high demand earliest limit)
    ]

pub late-same : (demand demand' : ℕ → ℕ → Bound) (earliest : ℕ → ℕ) (limit : ℕ) → ((q w : ℕ) → demand q w ≡ demand' q w) → window_bound demand earliest limit ≡ window_bound demand' earliest limit
late-same demand demand' earliest limit same =
    let e : demand ≡ demand' = λ i q w. same q w i in
    ap (λ d. window_bound d earliest limit) e
