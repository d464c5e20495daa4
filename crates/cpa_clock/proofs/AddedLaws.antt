-- A rival more: its streams come behind those of the rivals before it, clock by clock.
use Rattle.std.proofs.Common.{◌≡◌, ℕ, zero, suc, ◌+◌, ◌<◌, ◌≤◌, ◌==◌, ◌++◌, List, [], ◌∷◌, Option, Some, None, length, take, All, refl, sym, ◌∙◌, inl, inr, arith}
use Rattle.std.specs.Prelude.{slice_index_or}
use Rattle.std.specs.List.{AllZip}
use Rattle.std.proofs.Math.Path.{fun_ext}
use Rattle.std.proofs.Math.Seq.{take-length, take-suc}
use Rattle.std.proofs.lemmas.Bool.{cases_Bool, eqb-true}
use Rattle.std.proofs.lemmas.Slice.Zip.{AllZip-long}
use Rattle.std.proofs.lemmas.List.{append_assoc, append-nil, length-append, length-take-le}
use Rattle.std.proofs.lemmas.List.Elements.{All-append}
use Rattle.cpa_units.specs.declared.limits.TheConstants.{MAX_EXECUTION}
use Rattle.cpa_events.specs.declared.stream.Stream.{Stream}
use Rattle.cpa_events.specs.Streams.{IsStreamInRange}
use Rattle.cpa_events.specs.Events.{Model, IsModelInRange}
use Rattle.cpa_phase.specs.declared.placed.Placed.{Placed}
use Rattle.cpa_phase.specs.Streams.{IsPlacedOn}
use Rattle.cpa_clock.specs.Anchors.{Anchors, placed_at}
use Rattle.cpa_clock.specs.declared.anchor.Anchor.{Anchor}
use Rattle.cpa_clock.specs.Rivals.{ClockedRival, with_stream, with_input, with_rival, streams_on}
use Rattle.cpa_clock.specs.Gathered.{AreListsOn, IsAnchored, IsAnchoredAt, added_rival, anchors_at, cycles_at, more_at}

-- what holds place by place holds at a place
pub zip-at : {A B : Type 0} (R : A → B → Type 0) (xs : List A) (ys : List B) (k : ℕ) (d : A) (e : B) → AllZip R xs ys → k < length xs → R (slice_index_or xs k d) (slice_index_or ys k e)
zip-at R [] ys k d e all less = absurd (omega arith)
zip-at R (x ∷ xs) [] k d e all less = absurd all
zip-at R (x ∷ xs) (y ∷ ys) zero d e all less = all.0
zip-at R (x ∷ xs) (y ∷ ys) (suc k) d e all less = zip-at R xs ys k d e all.1 (omega arith)

-- what stands at a place, whatever stands for none
at_any : {A : Type 0} (xs : List A) (k : ℕ) (d e : A) → k < length xs → slice_index_or xs k d ≡ slice_index_or xs k e
at_any [] k d e less = absurd (omega arith)
at_any (x ∷ xs) zero d e less = refl
at_any (x ∷ xs) (suc k) d e less = at_any xs k d e (omega arith)

-- ---- lists by clock, split

with_stream-split : (clock worst : ℕ) (o : Option Anchor) (m : Stream) (xs ys : List Placed) → with_stream clock worst o m (xs ++ ys) ≡ with_stream clock worst o m xs ++ ys
with_stream-split clock worst None m xs ys = refl
with_stream-split clock worst (Some a) m xs ys =
    elim (cases_Bool (a.clock == clock)) [ inl here ↦ rw here refl | inr other ↦ rw other refl ]

with_input-split : (clock worst : ℕ) (anchors : Anchors) (first : ℕ) (ms : Model) (xs ys : List Placed) → with_input clock worst anchors first ms (xs ++ ys) ≡ with_input clock worst anchors first ms xs ++ ys
with_input-split clock worst anchors first [] xs ys = refl
with_input-split clock worst anchors first (m ∷ ms) xs ys =
    rw (with_input-split clock worst anchors (first + 1) ms xs ys)
    (with_stream-split clock worst (anchors first) m (with_input clock worst anchors (first + 1) ms xs) ys)

with_rival-split : (clock worst : ℕ) (anchors : Anchors) (o : Option Model) (xs ys : List Placed) → with_rival clock worst anchors o (xs ++ ys) ≡ with_rival clock worst anchors o xs ++ ys
with_rival-split clock worst anchors None xs ys = refl
with_rival-split clock worst anchors (Some m) xs ys = with_input-split clock worst anchors 0 m xs ys

-- those of a rival alone
abbrev pub streams_of : ℕ → ClockedRival → List Placed
streams_of clock r = with_rival clock r.worst r.anchors r.model []

pub streams_on-append : (clock : ℕ) (rs : List ClockedRival) (r : ClockedRival) → streams_on clock (rs ++ r ∷ []) ≡ streams_on clock rs ++ streams_of clock r
streams_on-append clock [] r = refl
streams_on-append clock (s ∷ rs) r =
    rw (streams_on-append clock rs r) (with_rival-split clock s.worst s.anchors s.model (streams_on clock rs) (streams_of clock r))

with_input-snoc : (clock worst : ℕ) (anchors : Anchors) (first : ℕ) (ms : Model) (m : Stream)
    → with_input clock worst anchors first (ms ++ m ∷ []) [] ≡ with_input clock worst anchors first ms [] ++ with_stream clock worst (anchors (first + length ms)) m []
with_input-snoc clock worst anchors first [] m =
    let e : first + 0 ≡ first = omega arith in
    rw e refl
with_input-snoc clock worst anchors first (n ∷ ms) m =
    let e : first + suc (length ms) ≡ first + 1 + length ms = omega arith in
    rw (e, with_input-snoc clock worst anchors (first + 1) ms m)
    (with_stream-split clock worst (anchors first) n (with_input clock worst anchors (first + 1) ms []) (with_stream clock worst (anchors (first + 1 + length ms)) m []))

-- ---- stream by stream

module _ (rs : List ClockedRival) (anchors : List (Option Anchor)) (worst : ℕ) where
  -- the lists where the rival has these streams so far
  abbrev pub with_streams : Model → ℕ → List Placed
  with_streams ms c = streams_on c (rs ++ added_rival (Some ms) anchors worst ∷ [])

  with_streams-is : (ms : Model) (c : ℕ) → with_streams ms c ≡ streams_on c rs ++ with_input c worst (anchors_at anchors) 0 ms []
  with_streams-is ms c = streams_on-append c rs (added_rival (Some ms) anchors worst)

  pub with_streams-none : with_streams [] ≡ (λ c. streams_on c rs)
  with_streams-none = fun_ext (λ c. ((with_streams-is [] c) ∙ (append-nil (streams_on c rs))))

  with_streams-snoc : (ms : Model) (m : Stream) (c : ℕ) → with_streams (ms ++ m ∷ []) c ≡ with_streams ms c ++ with_stream c worst (anchors_at anchors (length ms)) m []
  with_streams-snoc ms m c =
      let e : 0 + length ms ≡ length ms = omega arith in
      rw (with_streams-is (ms ++ m ∷ []) c, with_streams-is ms c, with_input-snoc c worst (anchors_at anchors) 0 ms m, e)
      (sym (append_assoc (streams_on c rs) (with_input c worst (anchors_at anchors) 0 ms []) (with_stream c worst (anchors_at anchors (length ms)) m [])))

  pub with_streams-off : (ms : Model) (m : Stream) → anchors_at anchors (length ms) ≡ None → with_streams (ms ++ m ∷ []) ≡ with_streams ms
  with_streams-off ms m off = fun_ext (λ c. ((with_streams-snoc ms m c) ∙ (rw off (append-nil (with_streams ms c)))))

  pub with_streams-on : (ms : Model) (m : Stream) (a : Anchor) → anchors_at anchors (length ms) ≡ Some a → with_streams (ms ++ m ∷ []) ≡ more_at a.clock (placed_at m a worst) (with_streams ms)
  with_streams-on ms m a on = fun_ext (λ c. ((with_streams-snoc ms m c) ∙ (rw on (here c))))
    where
      here : (c : ℕ) → with_streams ms c ++ with_stream c worst (Some a) m [] ≡ more_at a.clock (placed_at m a worst) (with_streams ms) c
      here c =
          elim (cases_Bool (a.clock == c)) [ inl same ↦ rw same refl | inr other ↦ rw other (append-nil (with_streams ms c)) ]

  take-next : (model : Model) (k : ℕ) (d : Stream) → k < length model → take (k + 1) model ≡ take k model ++ slice_index_or model k d ∷ []
  take-next model k d there = let e : k + 1 ≡ suc k = omega arith in rw e (take-suc model k d there)

  taken : (model : Model) (k : ℕ) → k < length model → length (take k model) ≡ k
  taken model k there = length-take-le k model (omega arith)

  pub with_streams-take_off : (model : Model) (k : ℕ) → k < length model → slice_index_or anchors k None ≡ None → with_streams (take (k + 1) model) ≡ with_streams (take k model)
  with_streams-take_off [] k there off = absurd (omega arith)
  with_streams-take_off (m ∷ model) k there off =
      rw (take-next (m ∷ model) k m there) (with_streams-off (take k (m ∷ model)) (slice_index_or (m ∷ model) k m) (rw (taken (m ∷ model) k there) off))

  pub with_streams-take_on : (model : Model) (k : ℕ) (m : Stream) (a : Anchor) → k < length model → m ≡ slice_index_or model k m → slice_index_or anchors k None ≡ Some a
      → with_streams (take (k + 1) model) ≡ more_at a.clock (placed_at m a worst) (with_streams (take k model))
  with_streams-take_on model k m a there is on =
      let next : take (k + 1) model ≡ take k model ++ m ∷ [] = (let t = rw (sym is) at (take-next model k m there) in t) in
      rw next (with_streams-on (take k model) m a (rw (taken model k there) on))

-- a stream's anchor says where it is
pub anchored-at : (cycles : List ℕ) (anchors : List (Option Anchor)) (model : Model) (k : ℕ) (a : Anchor) (m : Stream) → AllZip (IsAnchored cycles) anchors model → k < length anchors → slice_index_or anchors k None ≡ Some a → IsAnchoredAt cycles a (slice_index_or model k m)
anchored-at cycles anchors model k a m all less on = zip-at (IsAnchored cycles) anchors model k None m all less a on

-- ---- in range

more-on : (cycles : List ℕ) (most : ℕ) (lists : ℕ → List Placed) (number : ℕ) (p : Placed) → IsPlacedOn (cycles_at cycles number) p → AreListsOn cycles most lists → AreListsOn cycles (most + 1) (more_at number p lists)
more-on cycles most lists number p on h = record { few = few; each = each }
  where
    few : (c : ℕ) → length (more_at number p lists c) ≤ most + 1
    few c =
        elim (cases_Bool (number == c)) [
          | inl same ↦ rw same (omega (arith, length-append (lists c) (p ∷ []), h.few c))
          | inr other ↦ rw other (omega (arith, h.few c))
        ]

    one : (cycle : ℕ) → IsPlacedOn cycle p → All (IsPlacedOn cycle) (p ∷ [])
    one cycle on zero d less = on
    one cycle on (suc k) d less = absurd (omega arith)

    each : (c : ℕ) → All (IsPlacedOn (cycles_at cycles c)) (more_at number p lists c)
    each c =
        elim (cases_Bool (number == c)) [
          | inl same ↦
              let here : IsPlacedOn (cycles_at cycles c) p = rw (eqb-true number c same) at on in
              rw same (All-append (IsPlacedOn (cycles_at cycles c)) (lists c) (p ∷ []) (h.each c) (one (cycles_at cycles c) here))
          | inr other ↦ rw other (h.each c)
        ]

-- where each of a rival's streams is on one of the clocks, no list has more of them than the rival has
module _ (rs : List ClockedRival) (anchors : List (Option Anchor)) (worst : ℕ) (cycles : List ℕ) (most : ℕ) (model : Model) (all : IsModelInRange model × AllZip (IsAnchored cycles) anchors model) (small : worst ≤ MAX_EXECUTION)
    (h : AreListsOn cycles most (λ c. streams_on c rs)) where
  next-on : (k : ℕ) (o : Option Anchor) (m : Stream) → k < length model → m ≡ slice_index_or model k m → slice_index_or anchors k None ≡ o → AreListsOn cycles (most + k) (with_streams rs anchors worst (take k model))
      → AreListsOn cycles (most + k + 1) (with_streams rs anchors worst (take (k + 1) model))
  next-on k None m there is off so_far =
      rw (with_streams-take_off rs anchors worst model k there off) (record { few = λ c. omega (arith, so_far.few c); each = so_far.each })
  next-on k (Some a) m there is on so_far =
      let less : k < length anchors = omega (arith, there, AllZip-long (IsAnchored cycles) anchors model all.1) in
      let at : IsAnchoredAt cycles a m = rw (sym is) at (anchored-at cycles anchors model k a m all.1 less on) in
      let stream : IsStreamInRange m = rw (sym is) at (all.0.each k m there) in
      let placed : IsPlacedOn (cycles_at cycles a.clock) (placed_at m a worst) = record { placed = record { stream = stream; offset = at.offset; worst = small }; whole = at.whole } in
      rw (with_streams-take_on rs anchors worst model k m a there is on) (more-on cycles (most + k) (with_streams rs anchors worst (take k model)) a.clock (placed_at m a worst) placed so_far)

  up_to : (k : ℕ) → k ≤ length model → AreListsOn cycles (most + k) (with_streams rs anchors worst (take k model))
  up_to zero le =
      let e : most + 0 ≡ most = omega arith in
      rw (e, with_streams-none rs anchors worst) h
  up_to (suc k) le =
      let e : most + suc k ≡ most + k + 1 = omega arith in
      let f : suc k ≡ k + 1 = omega arith in
      rw (e, f) (step (up_to k (omega arith)))
    where
      step : AreListsOn cycles (most + k) (with_streams rs anchors worst (take k model)) → AreListsOn cycles (most + k + 1) (with_streams rs anchors worst (take (k + 1) model))
      step = next-on k (slice_index_or anchors k None) (slice_index_or model k (record { period = 1; jitter = 0; distance = 0 })) (omega (arith, le)) (at_any model k (record { period = 1; jitter = 0; distance = 0 }) (slice_index_or model k (record { period = 1; jitter = 0; distance = 0 })) (omega (arith, le))) refl

  pub streams-in_range : AreListsOn cycles (most + length model) (with_streams rs anchors worst model)
  streams-in_range = let all = up_to (length model) (omega arith) in rw (take-length model) at all
