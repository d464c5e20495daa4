-- A run that is followed from one moment to the next.
use Rattle.std.proofs.Common.{◌≡◌, ℕ, ◌+◌, ◌-◌, ◌<◌, ◌≤◌, Bool, true, false, ◌&&◌, ◌||◌, nat_lt, sym, ◌∙◌, inl, inr, arith}
use Rattle.std.specs.List.{list_any}
use Rattle.std.proofs.lemmas.Bool.{cases_lt, cases_Bool, lt-ltb, le-ltb, false≢true}
use Rattle.cpa_units.specs.declared.limits.TheConstants.{HORIZON}
use Rattle.cpa_units.specs.Search.{least_from}
use Rattle.cpa_units.proofs.SearchLaws.{least_from-passes, least_from-le}
use Rattle.cpa_model.specs.SystemLists.{SystemLists}
use Rattle.cpa_trace.specs.Trace.{TraceLists}
use Rattle.cpa_sim.specs.Run.{run}
use Rattle.cpa_sim.specs.JobQueues.{has_pending}
use Rattle.cpa_sim.specs.Outcome.{someone_waits, is_over, end_of}
use Rattle.cpa_sim.specs.Simulators.{SimulatorLists, IsSimulator}
use Rattle.cpa_sim.proofs.StartLaws.{can-run}
use Rattle.cpa_sim.proofs.EndLaws.{goes-on-events, goes-on-waits, over-at, below-horizon, end-is, someone-is, before-more}

-- the test by which the simulator goes on
abbrev pub on_of : SimulatorLists → Bool
on_of p = nat_lt p.time HORIZON && (nat_lt p.time p.quiet || list_any has_pending p.queues)

second : (a b c : Bool) → (a && (b || c)) ≡ true → b ≡ false → c ≡ true
second true true c e none = absurd (false≢true (sym none))
second true false c e none = e
second false b c e none = absurd (false≢true e)

module _ (s : SystemLists) (tr : TraceLists) (p : SimulatorLists) (is : IsSimulator s tr p) where
  someone : someone_waits s (run s tr p.time) ≡ list_any has_pending p.queues
  someone = someone-is s tr (can-run s tr is.rules is.can) p.time p.keeps p.queues p.dispatches p.cursors is.at

  not-yet : on_of p ≡ true → is_over s tr p.time ≡ false
  not-yet on =
      elim (cases_lt p.time p.quiet) [
        | inl h ↦ goes-on-events s tr p.time (is.events p.time ∙ lt-ltb p.time p.quiet h)
        | inr h ↦ goes-on-waits s tr p.time (someone ∙ second (nat_lt p.time HORIZON) (nat_lt p.time p.quiet) _ on (le-ltb p.time p.quiet h))
      ]

  earlier : on_of p ≡ true → p.time < end_of s tr
  unfolding end_of
  earlier on =
      let less = below-horizon s tr p.time p.quiet _ on in
      elim (cases_lt p.time (least_from (is_over s tr) 0 HORIZON)) [
        | inl h ↦ h
        | inr h ↦
            let over = least_from-passes (is_over s tr) 0 HORIZON (omega arith) in
            elim (cases_lt (least_from (is_over s tr) 0 HORIZON) p.time) [
              | inl before ↦ absurd (false≢true (sym (is.before (least_from (is_over s tr) 0 HORIZON) before) ∙ over))
              | inr same ↦
                  let e : least_from (is_over s tr) 0 HORIZON ≡ p.time = omega arith in
                  absurd (false≢true (sym (not-yet on) ∙ rw e at over))
            ]
      ]

  at-end : on_of p ≡ false → p.time ≡ end_of s tr
  at-end off = end-is s tr p.time is.within is.before (over-at s tr p.time p.quiet _ off someone is.events)

  -- it goes on exactly before the end
  pub on-is : on_of p ≡ nat_lt p.time (end_of s tr)
  on-is =
      elim (cases_Bool (on_of p)) [
        | inl on ↦ on ∙ sym (lt-ltb p.time (end_of s tr) (earlier on))
        | inr off ↦ off ∙ sym (le-ltb p.time (end_of s tr) (omega (arith, at-end off)))
      ]

  pub on-before : p.time < end_of s tr → on_of p ≡ true
  on-before less = on-is ∙ lt-ltb p.time (end_of s tr) less

  pub before-horizon : p.time < end_of s tr → p.time < HORIZON
  before-horizon less = below-horizon s tr p.time p.quiet _ (on-before less)

  -- a jump
  pub before-next : (next most : ℕ) → p.time < end_of s tr → (p.time < p.quiet → most ≡ p.quiet - p.time) → next ≤ p.time + most
      → ((u : ℕ) → p.time < u → u < next → someone_waits s (run s tr u) ≡ someone_waits s (run s tr p.time)) → (u : ℕ) → u < next → is_over s tr u ≡ false
  before-next next most less far within between =
      before-more s tr p.time next most p.quiet _ (on-before less) someone is.events far within between is.before

-- what isn't over before a time ends there or later
pub not-past : (s : SystemLists) (tr : TraceLists) (time : ℕ) → time ≤ HORIZON → ((u : ℕ) → u < time → is_over s tr u ≡ false) → time ≤ end_of s tr
unfolding end_of
not-past s tr time within before =
    elim (cases_lt (least_from (is_over s tr) 0 HORIZON) time) [
      | inr h ↦ h
      | inl early ↦ absurd (false≢true (sym (before (least_from (is_over s tr) 0 HORIZON) early) ∙ least_from-passes (is_over s tr) 0 HORIZON (omega arith)))
    ]

-- each run ends by the horizon
pub end-within : (s : SystemLists) (tr : TraceLists) → end_of s tr ≤ HORIZON
unfolding end_of
end-within s tr = omega (arith, least_from-le (is_over s tr) 0 HORIZON)

-- what doesn't go on has come to the end
pub ended : (s : SystemLists) (tr : TraceLists) (time : ℕ) → nat_lt time (end_of s tr) ≡ false → time ≤ end_of s tr → time ≡ end_of s tr
ended s tr time off within =
    elim (cases_lt time (end_of s tr)) [
      | inl h ↦ absurd (false≢true (sym off ∙ lt-ltb time (end_of s tr) h))
      | inr h ↦ omega (arith, h, within)
    ]
