-- Streams that keep apart one by one: so do all arrivals together, as the sum of what the streams may have says.
use Rattle.std.proofs.Common.{◌≡◌, ℕ, zero, suc, ◌+◌, ◌<◌, ◌≤◌, ◌++◌, [], ◌∷◌, length, Some, refl, inl, inr, arith}
use Rattle.std.specs.Prelude.{All}
use Rattle.std.proofs.lemmas.Bool.{cases_eq, eq-eqb, ne_eqb}
use Rattle.cpa_events.specs.declared.stream.Stream.{Stream}
use Rattle.cpa_events.specs.Streams.{IsStream}
use Rattle.cpa_events.specs.Events.{Model, eta_plus, IsModel}
use Rattle.cpa_events.proofs.EventLaws.{eta_plus-cons, first_of, rest_of}
use Rattle.cpa_sound.specs.Course.{Course, KeepsApart}
use Rattle.cpa_sound.proofs.Serving.{IsInOrder, ComesWithin}
use Rattle.cpa_sound.proofs.Parts.{jobs_in, of_stream, PartKeepsApart, EachStream, StreamsKeepApart}
use Rattle.cpa_sound.proofs.CourseLaws.{arrived-mono}
use Rattle.cpa_sound.proofs.DistanceLaws.{apart_from_within}
use Rattle.cpa_sound.proofs.PartLaws.{jobs_in-zero, jobs_in-here, jobs_in-other, part-within}

-- ---- each stream of a list

module _ (P : ℕ → Stream → Type 0) where
  pub first-stream : (first : ℕ) (st : Stream) (m : Model) → EachStream P first (st ∷ m) → P first st
  first-stream first st m each = let e : first + 0 ≡ first = omega arith in rw e at (each zero st refl)

  pub other-streams : (first : ℕ) (st : Stream) (m : Model) → EachStream P first (st ∷ m) → EachStream P (first + 1) m
  other-streams first st m each q u is = let e : first + suc q ≡ first + 1 + q = omega arith in rw e at (each (suc q) u is)

  pub streams-cons : (first : ℕ) (st : Stream) (m : Model) → P first st → EachStream P (first + 1) m → EachStream P first (st ∷ m)
  streams-cons first st m one each zero u is = let e : first + 0 ≡ first = omega arith in rw (e, ← same_stream st u is) one
    where
      same_stream : (a b : Stream) → Some a ≡ Some b → a ≡ b
      same_stream a b h = cc
  streams-cons first st m one each (suc q) u is = let e : first + suc q ≡ first + 1 + q = omega arith in rw e (each q u is)

  pub streams-append : (first : ℕ) (m n : Model) → EachStream P first m → EachStream P (first + length m) n → EachStream P first (m ++ n)
  streams-append first [] n each rest = let e : first + 0 ≡ first = omega arith in rw e at rest
  streams-append first (st ∷ m) n each rest =
      let e : first + suc (length m) ≡ first + 1 + length m = omega arith in
      streams-cons first st (m ++ n) (first-stream first st m each) (streams-append (first + 1) m n (other-streams first st m each) (rw e at rest))

-- ---- all streams together

-- the jobs of some streams, numbered from `first` on, among the first k
unfoldable pub jobs_of_all : (ℕ → ℕ) → ℕ → Model → ℕ → ℕ
jobs_of_all stream first [] k = 0
jobs_of_all stream first (st ∷ sts) k = jobs_in (of_stream stream first) k + jobs_of_all stream (first + 1) sts k

module _ (stream : ℕ → ℕ) where
  here : (q k : ℕ) → stream k ≡ q → jobs_in (of_stream stream q) (k + 1) ≡ jobs_in (of_stream stream q) k + 1
  here q k e = jobs_in-here (of_stream stream q) k (eq-eqb (stream k) q e)

  other : (q k : ℕ) → (stream k ≡ q → ⊥) → jobs_in (of_stream stream q) (k + 1) ≡ jobs_in (of_stream stream q) k
  other q k ne = jobs_in-other (of_stream stream q) k (ne_eqb (stream k) q ne)

  all-other : (first : ℕ) (sts : Model) (k : ℕ) → stream k < first → jobs_of_all stream first sts (k + 1) ≡ jobs_of_all stream first sts k
  unfolding jobs_of_all
  all-other first [] k h = refl
  all-other first (st ∷ sts) k h = omega (arith, other first k (λ e. omega arith), all-other (first + 1) sts k (omega arith))

  all-one : (first : ℕ) (sts : Model) (k : ℕ) → first ≤ stream k → stream k < first + length sts → jobs_of_all stream first sts (k + 1) ≡ jobs_of_all stream first sts k + 1
  unfolding jobs_of_all
  all-one first [] k low high = absurd (omega arith)
  all-one first (st ∷ sts) k low high =
      elim (cases_eq (stream k) first) [
        | inl e ↦ omega (arith, here first k e, all-other (first + 1) sts k (omega arith))
        | inr ne ↦ omega (arith, other first k ne, all-one (first + 1) sts k (omega (arith, ne)) (omega arith))
      ]

  all-zero : (first : ℕ) (sts : Model) → jobs_of_all stream first sts 0 ≡ 0
  unfolding jobs_of_all
  all-zero first [] = refl
  all-zero first (st ∷ sts) = omega (arith, jobs_in-zero (of_stream stream first), all-zero (first + 1) sts)

  -- where each job has a stream, all streams have all jobs
  pub all-jobs : (sts : Model) (k : ℕ) → ((l : ℕ) → l < k → stream l < length sts) → jobs_of_all stream 0 sts k ≡ k
  all-jobs sts zero h = all-zero 0 sts
  all-jobs sts (suc k) h =
      let e : suc k ≡ k + 1 = omega arith in
      rw e (omega (arith, all-one 0 sts k (omega arith) (omega (arith, h k (omega arith))), all-jobs sts k (λ l less. h l (omega arith))))

  module _ (c : Course) (best worst : ℕ) (o : IsInOrder c best worst) (t : ℕ) where
    streams-within : (first : ℕ) (m : Model) → All IsStream m → EachStream (λ q st. PartKeepsApart c (of_stream stream q) st t) first m → (s v : ℕ) → s + v ≤ t → jobs_of_all stream first m (c.arrived (s + v)) ≤ jobs_of_all stream first m (c.arrived s) + eta_plus m v
    unfolding jobs_of_all eta_plus
    streams-within first [] regular apart s v h = omega arith
    streams-within first (st ∷ m) regular apart s v h =
        let P : ℕ → Stream → Type 0 = λ q u. PartKeepsApart c (of_stream stream q) u t in
        omega (
          arith,
          part-within (of_stream stream first) c best worst o st (first_of IsStream st m regular) t s v (first-stream P first st m apart) h,
          streams-within (first + 1) m (rest_of IsStream st m regular) (other-streams P first st m apart) s v h,
          eta_plus-cons st m v,
        )

    -- streams that keep apart one by one have no more in any window together than the model says
    pub within_from_streams : (m : Model) → IsModel m → ((k : ℕ) → k < c.arrived t → stream k < length m) → StreamsKeepApart c stream m t → ComesWithin c (Some m) t
    within_from_streams m regular belongs apart s v h =
        let early = arrived-mono c best worst o s (s + v) (omega arith) in
        let late = arrived-mono c best worst o (s + v) t h in
        let all = streams-within 0 m regular.each apart s v h in
        omega (arith, all, all-jobs m (c.arrived (s + v)) (λ l less. belongs l (omega (arith, late))), all-jobs m (c.arrived s) (λ l less. belongs l (omega (arith, late, early))))

    -- so all of them keep apart too
    pub together : (m : Model) → IsModel m → ((k : ℕ) → k < c.arrived t → stream k < length m) → StreamsKeepApart c stream m t → KeepsApart c (Some m) t
    together m regular belongs apart k n a b first last before =
        apart_from_within c best worst o m t (within_from_streams m regular belongs apart) k n a b first last before
