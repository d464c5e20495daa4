-- Streams in range, and the lists that they stand in.
use Rattle.std.proofs.Common.{◌≡◌, ℕ, zero, suc, ◌+◌, ◌%◌, ◌<◌, ◌≤◌, List, [], ◌∷◌, map, length, slice_index_or, All, inl, inr, arith}
use Rattle.std.proofs.lemmas.Bool.{cases_lt}
use Rattle.std.proofs.lemmas.List.{length-map}
use Rattle.std.proofs.Math.Nat.{mod-eq_of_lt}
use Rattle.cpa_phase.specs.declared.placed.Placed.{Placed}
use Rattle.cpa_phase.specs.Streams.{phased_from, IsPlaced, IsPhased, ArePlaced, ArePhased, IsPlacedOn}
use Rattle.cpa_phase.proofs.UpToLaws.{up_to-less}

-- what a window sees of streams in range is in range
phased_each : (ps : List Placed) (x : ℕ) → All IsPlaced ps → All IsPhased (map (phased_from x) ps)
phased_each [] x h k d less = absurd (omega arith)
phased_each (p ∷ ps) x h zero d less =
    let here = h 0 p (omega arith) in
    record { stream = here.stream; phase = up_to-less p.stream.period here.stream.regular (p.offset + p.stream.jitter) x; worst = here.worst }
phased_each (p ∷ ps) x h (suc k) d less = phased_each ps x (λ j e l. h (suc j) e (omega arith)) k d (omega arith)

pub phased_in_range : (ps : List Placed) (x : ℕ) → ArePlaced ps → ArePhased (map (phased_from x) ps)
phased_in_range ps x h = record { few = rw (length-map ps (phased_from x)) h.few; each = phased_each ps x h.each }

-- a period that divides a cycle is no longer
pub period_le : (p : Placed) (cycle : ℕ) → 0 < cycle → IsPlacedOn cycle p → p.stream.period ≤ cycle
period_le p cycle some on =
    elim (cases_lt cycle p.stream.period) [
      | inl short ↦
          let whole : cycle % p.stream.period ≡ 0 = on.whole in
          let same : cycle % p.stream.period ≡ cycle = mod-eq_of_lt short in
          absurd (omega arith)
      | inr long ↦ long
    ]

pub on_all : (own : Placed) (joint : List Placed) (cycle : ℕ) → IsPlacedOn cycle own → All (IsPlacedOn cycle) joint → All (IsPlacedOn cycle) (own ∷ joint)
on_all own joint cycle o j zero d less = o
on_all own joint cycle o j (suc k) d less = j k d (omega arith)

-- what holds of a stream and of each of some others holds of each of them
pub first_or_rest : (P : Placed → Type 0) (d p : Placed) (ps : List Placed) → P p → ((k : ℕ) → k < length ps → P (slice_index_or ps k d)) → (k : ℕ) → k < length (p ∷ ps) → P (slice_index_or (p ∷ ps) k d)
first_or_rest P d p ps first rest zero less = first
first_or_rest P d p ps first rest (suc k) less = rest k (omega arith)
