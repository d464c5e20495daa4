-- Where no stream is on a clock, the bounds are those without clocks.
use Rattle.std.proofs.Common.{◌≡◌, ℕ, zero, suc, ◌+◌, ◌*◌, List, [], ◌∷◌, Option, Some, None, All, refl, sym, ◌∙◌, ap, arith}
use Rattle.std.specs.List.{sum_by, range_with_len}
use Rattle.std.proofs.lemmas.List.Sums.{sum_by-cons}
use Rattle.cpa_units.specs.declared.bound.Bound.TheVariants.{Within}
use Rattle.cpa_units.specs.Bounds.{bound_plus, bound_times}
use Rattle.cpa_events.specs.Events.{Model, eta_plus}
use Rattle.cpa_events.proofs.EventLaws.{eta_plus-of_one, eta_plus-cons}
use Rattle.cpa_window.specs.declared.rivals.Rival.{Rival}
use Rattle.cpa_window.specs.Rivals.{events_in, work_in}
use Rattle.cpa_spp.specs.Preemptive.{preemptive_bound}
use Rattle.cpa_can.specs.Can.{can_bound}
use Rattle.cpa_phase.specs.declared.placed.Placed.{Placed}
use Rattle.cpa_phase.specs.Clocks.{clock_work}
use Rattle.cpa_offset.proofs.ApartLaws.{apart_bound-plain}
use Rattle.cpa_offset_can.proofs.CanLaws.{can_apart_bound-plain}
use Rattle.cpa_clock.specs.Anchors.{Anchors}
use Rattle.cpa_clock.specs.Rivals.{ClockedRival, with_input, with_rival, streams_on, with_free_input, with_free_rival, free_of, other_clocks_work, rest_of}
use Rattle.cpa_clock.specs.Clocked.{only_anchor, clocked_preemptive_bound, clocked_can_bound}
use Rattle.cpa_clock.specs.Wider.{AreSameRivals, AreOffClocks}
use Rattle.cpa_clock.proofs.FreeLaws.{no_events, plus-assoc, zero-plus}
use Rattle.cpa_clock.proofs.OtherClocks.{no_streams_work}

-- no clock has streams
input-off : (clock worst : ℕ) (anchors : Anchors) (first : ℕ) (ms : Model) (others : List Placed) → AreOffClocks anchors → with_input clock worst anchors first ms others ≡ others
input-off clock worst anchors first [] others off = refl
input-off clock worst anchors first (m ∷ ms) others off = rw (off first) (input-off clock worst anchors (first + 1) ms others off)

rival-off : (clock worst : ℕ) (anchors : Anchors) (o : Option Model) (others : List Placed) → AreOffClocks anchors → with_rival clock worst anchors o others ≡ others
rival-off clock worst anchors None others off = refl
rival-off clock worst anchors (Some m) others off = input-off clock worst anchors 0 m others off

rest-off : (r : ClockedRival) (rs : List ClockedRival) → All (λ r. AreOffClocks r.anchors) (r ∷ rs) → All (λ r. AreOffClocks r.anchors) rs
rest-off r rs off k d less = off (suc k) d (omega arith)

streams-off : (clock : ℕ) (rs : List ClockedRival) → All (λ r. AreOffClocks r.anchors) rs → streams_on clock rs ≡ []
streams-off clock [] off = refl
streams-off clock (r ∷ rs) off = rival-off clock r.worst r.anchors r.model (streams_on clock rs) (off 0 r (omega arith)) ∙ streams-off clock rs (rest-off r rs off)

clocks-off : (rs : List ClockedRival) (cycle : ℕ → ℕ) (w first many : ℕ) → All (λ r. AreOffClocks r.anchors) rs → sum_by (λ c. clock_work (streams_on c rs) (cycle c) w) (range_with_len first many) ≡ 0
clocks-off rs cycle w first zero off = refl
clocks-off rs cycle w first (suc many) off =
    let here : clock_work (streams_on first rs) (cycle first) w ≡ 0 = rw (streams-off first rs off) (no_streams_work (cycle first) w) in
    omega (arith, here, clocks-off rs cycle w (first + 1) many off, sum_by-cons (λ c. clock_work (streams_on c rs) (cycle c) w) first (range_with_len (first + 1) many))

-- and those on none ask for what they do without clocks
free-input : (worst : ℕ) (anchors : Anchors) (first : ℕ) (ms : Model) (frees : List Rival) (w : ℕ) → AreOffClocks anchors → work_in (with_free_input worst anchors first ms frees) w ≡ bound_plus (Within (eta_plus ms w * worst)) (work_in frees w)
free-input worst anchors first [] frees w off =
    let none : eta_plus [] w * worst ≡ 0 = rw (no_events w) (omega arith) in
    rw none (sym (zero-plus (work_in frees w)))
free-input worst anchors first (m ∷ ms) frees w off =
    let both : eta_plus (m ∷ []) w * worst + eta_plus ms w * worst ≡ eta_plus (m ∷ ms) w * worst = rw (eta_plus-of_one m w, eta_plus-cons m ms w) (omega arith) in
    rw (off first) (
    ap (bound_plus (Within (eta_plus (m ∷ []) w * worst))) (free-input worst anchors (first + 1) ms frees w off)
    ∙ (sym (plus-assoc (Within (eta_plus (m ∷ []) w * worst)) (Within (eta_plus ms w * worst)) (work_in frees w)) ∙ ap (λ n. bound_plus (Within n) (work_in frees w)) both))

free-rival : (worst : ℕ) (anchors : Anchors) (o : Option Model) (frees : List Rival) (w : ℕ) → AreOffClocks anchors → work_in (with_free_rival worst anchors o frees) w ≡ bound_plus (bound_times (events_in o w) worst) (work_in frees w)
free-rival worst anchors None frees w off = refl
free-rival worst anchors (Some m) frees w off = free-input worst anchors 0 m frees w off

free-off : (rs : List ClockedRival) (ss : List Rival) (w : ℕ) → AreSameRivals rs ss → All (λ r. AreOffClocks r.anchors) rs → work_in (free_of rs) w ≡ work_in ss w
free-off [] [] w same off = refl
free-off [] (s ∷ ss) w same off = absurd same
free-off (r ∷ rs) [] w same off = absurd same
free-off (r ∷ rs) (s ∷ ss) w same off =
    free-rival r.worst r.anchors r.model (free_of rs) w (off 0 r (omega arith)) ∙ rw (same.0.model, same.0.worst, free-off rs ss w same.1 (rest-off r rs off)) refl

rest-off_clocks : (rs : List ClockedRival) (ss : List Rival) (cycle : ℕ → ℕ) (count w : ℕ) → AreSameRivals rs ss → All (λ r. AreOffClocks r.anchors) rs → rest_of None rs cycle count w ≡ work_in ss w
rest-off_clocks rs ss cycle count w same off =
    let none : other_clocks_work None rs cycle count w ≡ 0 = clocks-off rs cycle w 0 count off in
    rw (none, free-off rs ss w same off) (zero-plus (work_in ss w))

no_anchor : (own : Model) (anchors : Anchors) → AreOffClocks anchors → only_anchor own anchors ≡ None
no_anchor [] anchors off = refl
no_anchor (m ∷ []) anchors off = off 0
no_anchor (m ∷ n ∷ ms) anchors off = refl

module _ (own : Model) (anchors : Anchors) (worst blocking : ℕ) (rs : List ClockedRival) (ss : List Rival) (cycle : ℕ → ℕ) (count limit : ℕ) (own_off : AreOffClocks anchors) (off : All (λ r. AreOffClocks r.anchors) rs) (same : AreSameRivals rs ss) where
  pub preemptive-off : clocked_preemptive_bound own anchors worst blocking rs cycle count limit ≡ preemptive_bound own worst blocking ss limit
  preemptive-off =
      rw (no_anchor own anchors own_off) (apart_bound-plain own worst blocking (rest_of None rs cycle count) ss limit (λ w. rest-off_clocks rs ss cycle count w same off))

  pub can-off : (bit : ℕ) → clocked_can_bound own anchors worst blocking rs cycle count bit limit ≡ can_bound own worst blocking ss bit limit
  can-off bit =
      rw (no_anchor own anchors own_off) (can_apart_bound-plain own worst blocking (rest_of None rs cycle count) ss bit limit (λ w. rest-off_clocks rs ss cycle count w same off))
