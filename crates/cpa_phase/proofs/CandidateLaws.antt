-- Some candidate of the critical instant is as bad as any moment.
use Rattle.std.proofs.Common.{◌≡◌, ℕ, zero, suc, ◌+◌, ◌-◌, ◌*◌, ◌/◌, ◌%◌, ◌<◌, ◌≤◌, List, [], ◌∷◌, length, All, slice_index_or, ◌∙◌, subst, inl, inr, arith}
use Rattle.std.proofs.lemmas.Bool.{cases_lt}
use Rattle.std.proofs.Math.Nat.{le_trans}
use Rattle.std.proofs.lemmas.List.{get_or_default}
use Rattle.std.proofs.lemmas.Nat.{mod_below, div-add-mod'}
use Rattle.cpa_phase.specs.declared.placed.Placed.{Placed}
use Rattle.cpa_phase.specs.Streams.{phase_at, IsCandidate, IsPlacedOn}
use Rattle.cpa_phase.proofs.UpToLaws.{up_to, up_to-nearer, up_to-same, up_to-only, up_to-meets}

-- what holds of the first and of each later one holds of each
each_of : (d p : Placed) (ps : List Placed) (x most : ℕ) → most ≤ phase_at p x → ((j : ℕ) → j < length ps → most ≤ phase_at (slice_index_or ps j d) x) → (j : ℕ) → j < length (p ∷ ps) → most ≤ phase_at (slice_index_or (p ∷ ps) j d) x
each_of d p ps x most first later zero less = first
each_of d p ps x most first later (suc j) less = later j (omega arith)

-- the place of a stream of the shortest phase
nearest : (d p : Placed) (ps : List Placed) (x : ℕ) → (k : ℕ) × (k < length (p ∷ ps)) × ((j : ℕ) → j < length (p ∷ ps) → phase_at (slice_index_or (p ∷ ps) k d) x ≤ phase_at (slice_index_or (p ∷ ps) j d) x)
nearest d p [] x = (0, omega arith, each_of d p [] x (phase_at p x) (omega arith) (λ j less. absurd (omega arith)))
nearest d p (q ∷ ps) x =
    let rest = nearest d q ps x in
    elim (cases_lt (phase_at (slice_index_or (q ∷ ps) (rest.0) d) x) (phase_at p x)) [
      | inl later ↦ (suc (rest.0), omega (arith, rest.1), each_of d p (q ∷ ps) x (phase_at (slice_index_or (q ∷ ps) (rest.0) d) x) (omega arith) (rest.2))
      | inr here ↦ (0, omega arith, each_of d p (q ∷ ps) x (phase_at p x) (omega arith) (λ j less. le_trans here (rest.2 j less)))
    ]

-- a moment of the first cycle that is z but for whole cycles
abbrev pub wrapped : ℕ → ℕ → ℕ
wrapped cycle z = (z + (cycle - 1)) % cycle + 1

wrapped-meets : (cycle z : ℕ) → 0 < cycle → wrapped cycle z + (z + (cycle - 1)) / cycle * cycle ≡ z + 1 * cycle
wrapped-meets cycle z some =
    let split = div-add-mod' (z + (cycle - 1)) cycle in
    omega (arith, split)

in_periods : (y z q c period cycle : ℕ) → cycle ≡ c * period → y + q * cycle ≡ z + 1 * cycle → y + q * c * period ≡ z + c * period
in_periods y z q c period cycle e h = let same = rw e at h in omega arith

pub phase-wrapped : (p : Placed) (cycle z : ℕ) → 0 < cycle → IsPlacedOn cycle p → phase_at p (wrapped cycle z) ≡ phase_at p z
phase-wrapped p cycle z some on =
    let split = div-add-mod' cycle p.stream.period in
    let whole : cycle ≡ cycle / p.stream.period * p.stream.period = omega (arith, on.whole, split) in
    up_to-same p.stream.period on.placed.stream.regular (p.offset + p.stream.jitter) (wrapped cycle z) z
    ((z + (cycle - 1)) / cycle * (cycle / p.stream.period)) (cycle / p.stream.period)
    (in_periods (wrapped cycle z) z ((z + (cycle - 1)) / cycle) (cycle / p.stream.period) p.stream.period cycle whole (wrapped-meets cycle z some))

wrapped-le : (cycle z : ℕ) → 0 < cycle → wrapped cycle z ≤ cycle
wrapped-le cycle z some = let less = mod_below (z + (cycle - 1)) cycle some in omega arith

-- for each moment there is a candidate in the first cycle from which no stream's phase is longer
pub cover : (d p : Placed) (ps : List Placed) (cycle x : ℕ) → 0 < cycle → All (IsPlacedOn cycle) (p ∷ ps) → (k y : ℕ) × (k < length (p ∷ ps)) × (0 < y) × (y ≤ cycle) × IsCandidate (slice_index_or (p ∷ ps) k d) y × ((j : ℕ) → j < length (p ∷ ps) → phase_at (slice_index_or (p ∷ ps) j d) y ≤ phase_at (slice_index_or (p ∷ ps) j d) x)
cover d p ps cycle x some on =
    let first = nearest d p ps x in
    let k : ℕ = first.0 in
    let step : ℕ = phase_at (slice_index_or (p ∷ ps) k d) x in
    let y : ℕ = wrapped cycle (x + step) in
    let there : (j : ℕ) → j < length (p ∷ ps) → phase_at (slice_index_or (p ∷ ps) j d) y ≡ phase_at (slice_index_or (p ∷ ps) j d) x - step =
    λ j less.
    let q : Placed = slice_index_or (p ∷ ps) j d in
    phase-wrapped q cycle (x + step) some (on j d less)
    ∙ up_to-nearer q.stream.period (on j d less).placed.stream.regular (q.offset + q.stream.jitter) x step (first.2 j less)
    in (
      k,
      y,
      first.1,
      omega arith,
      wrapped-le cycle (x + step) some,
      omega (arith, there k first.1),
      λ j less. omega (arith, there j less),
    )

-- ---- the candidates of one stream

-- the first from 1 on
pub first_candidate : (p : Placed) → 0 < p.stream.period → IsCandidate p (1 + phase_at p 1)
first_candidate p regular = omega (arith, up_to-nearer p.stream.period regular (p.offset + p.stream.jitter) 1 (phase_at p 1) (omega arith))

-- each a period after the one before
pub next_candidate : (p : Placed) (x : ℕ) → 0 < p.stream.period → IsCandidate p x → IsCandidate p (x + p.stream.period)
next_candidate p x regular here =
    omega (arith, here, up_to-same p.stream.period regular (p.offset + p.stream.jitter) x (x + p.stream.period) 1 0 (omega arith))

-- and none between
pub none_between : (p : Placed) (x y : ℕ) → 0 < p.stream.period → IsCandidate p x → x < y → y < x + p.stream.period → IsCandidate p y → ⊥
none_between p x y regular here later near there =
    let t : ℕ = p.offset + p.stream.jitter in
    let far : up_to p.stream.period t x ≡ 0 = here in
    let e : x + (y - x) ≡ y = omega arith in
    let back = up_to-only p.stream.period regular t x (y - x) ((t + (p.stream.period - y % p.stream.period)) / p.stream.period) (1 + y / p.stream.period) (omega arith) (let m = up_to-meets p.stream.period regular t y in omega (arith, m, there)) in
    omega (arith, back, far)

-- below the first there is none
pub none_before : (p : Placed) (y : ℕ) → 0 < p.stream.period → 0 < y → y < 1 + phase_at p 1 → IsCandidate p y → ⊥
none_before p y regular some before there =
    let e : 1 + (y - 1) ≡ y = omega arith in
    let back = up_to-nearer p.stream.period regular (p.offset + p.stream.jitter) 1 (y - 1) (omega arith) in
    let here : phase_at p (1 + (y - 1)) ≡ 0 = rw e there in
    omega (arith, here, back)

-- ---- lists that are gone through

-- what holds of each stream before one, and of that one, holds of each up to it
pub each_more : (P : Placed → Type 0) (ps : List Placed) (i : ℕ) (e : Placed) → i < length ps → ((k : ℕ) (d : Placed) → k < i → P (slice_index_or ps k d)) → P (slice_index_or ps i e) → (k : ℕ) (d : Placed) → k < i + 1 → P (slice_index_or ps k d)
each_more P ps i e within before here k d less =
    elim (cases_lt k i) [
      | inl earlier ↦ before k d earlier
      | inr now ↦
          let same : k ≡ i = omega arith in
          rw same (subst P (get_or_default ps i e d within) here)
    ]
