-- Parts of a task's jobs: how many come in a window, and how far apart they come out.
use Rattle.std.proofs.Common.{◌≡◌, ℕ, zero, suc, ◌+◌, ◌-◌, ◌<◌, ◌≤◌, ◌++◌, List, [], ◌∷◌, length, true, false, cond, Bool, refl, sym, ◌∙◌, ap, subst, inl, inr, ◌⊎◌, arith, add-one, get_or, length-append}
use Rattle.std.specs.Prelude.{filter}
use Rattle.std.specs.List.{range_with_len}
use Rattle.std.proofs.lemmas.List.Elements.{filter-append}
use Rattle.cpa_units.proofs.PlaceLaws.{places-more}
use Rattle.std.proofs.lemmas.Bool.{cases_lt, cases_Bool}
use Rattle.cpa_units.specs.declared.bound.Bound.TheVariants.{Within}
use Rattle.cpa_events.specs.declared.stream.Stream.{Stream}
use Rattle.cpa_events.specs.Streams.{stream_delta_plus, stream_eta_plus, stream_after_response, IsStream}
use Rattle.cpa_events.proofs.StreamLaws.{stream_eta_plus-reaches}
use Rattle.cpa_events.proofs.EventLaws.{delta_minus-of_one, one-is_model}
use Rattle.cpa_events.proofs.ResponseLaws.{after_response-near}
use Rattle.cpa_sound.specs.Course.{Course, Arrives, KeepsBound}
use Rattle.cpa_sound.proofs.Serving.{EndsAfter, IsInOrder}
use Rattle.cpa_sound.proofs.Parts.{jobs_in, count_from, ArePart, PartKeepsApart, PartKeepsNear, IsFed}
use Rattle.cpa_sound.proofs.CourseLaws.{mono_at, crossing, arrived-mono, ended-mono, ended-le-arrived, arrival_of, arrives-order, arrives-after}
use Rattle.cpa_sound.proofs.OutputLaws.{not_before, ends_keep_apart}

-- ---- counting the jobs of a part

module _ (part : ℕ → Bool) where
  pub jobs_in-suc : (k : ℕ) → jobs_in part (suc k) ≡ jobs_in part k + cond (part k) 1 0
  unfolding jobs_in
  jobs_in-suc k = refl

  pub jobs_in-zero : jobs_in part 0 ≡ 0
  unfolding jobs_in
  jobs_in-zero = refl

  pub jobs_in-here : (k : ℕ) → part k ≡ true → jobs_in part (k + 1) ≡ jobs_in part k + 1
  jobs_in-here k e = ap (jobs_in part) (add-one k) ∙ (jobs_in-suc k ∙ ap (λ own. jobs_in part k + cond own 1 0) e)

  pub jobs_in-other : (k : ℕ) → part k ≡ false → jobs_in part (k + 1) ≡ jobs_in part k
  jobs_in-other k e = rw add-one (rw (jobs_in-suc k, e) (omega arith))

  jobs_in-step : (k : ℕ) → jobs_in part k ≤ jobs_in part (k + 1)
  jobs_in-step k = elim (cases_Bool (part k)) [ inl e ↦ omega (arith, jobs_in-here k e) | inr e ↦ omega (arith, jobs_in-other k e) ]

  pub jobs_in-mono : (k l : ℕ) → k ≤ l → jobs_in part k ≤ jobs_in part l
  jobs_in-mono = mono_at (jobs_in part) jobs_in-step

  -- so many jobs of a part are at least so many jobs
  pub jobs_in-le : (k n : ℕ) → jobs_in part (k + n) ≤ jobs_in part k + n
  jobs_in-le k zero = let e : k + 0 ≡ k = omega arith in rw e (omega arith)
  jobs_in-le k (suc n) =
      let e : k + suc n ≡ (k + n) + 1 = omega arith in
      rw e (elim (cases_Bool (part (k + n))) [ inl h ↦ omega (arith, jobs_in-here (k + n) h, jobs_in-le k n) | inr h ↦ omega (arith, jobs_in-other (k + n) h, jobs_in-le k n) ])

  -- the job of a part with a number within it
  pub job_of : (x k : ℕ) → x < jobs_in part k → (l : ℕ) × (l < k) × (jobs_in part l ≡ x) × (part l ≡ true)
  job_of x k h =
      let r = crossing (jobs_in part) x k (omega (arith, jobs_in-zero)) h in
      elim (cases_Bool (part r.0)) [
        | inl e ↦ (r.0, r.1, omega (arith, r.2, r.3, jobs_in-here r.0 e), e)
        | inr e ↦ absurd (omega (arith, r.2, r.3, jobs_in-other r.0 e))
      ]

  -- fewer jobs of a part come earlier
  pub job-order : (k l : ℕ) → part k ≡ true → part l ≡ true → jobs_in part k ≤ jobs_in part l → k ≤ l
  job-order k l first last h =
      elim (cases_lt l k) [
        | inl less ↦ absurd (omega (arith, jobs_in-here l last, jobs_in-mono (l + 1) k (omega arith)))
        | inr more ↦ more
      ]

  -- a window has at most as many jobs of a part as its stream says
  pub part-within : (c : Course) (best worst : ℕ) (o : IsInOrder c best worst) (st : Stream) → IsStream st → (t s v : ℕ) → PartKeepsApart c part st t → s + v ≤ t → jobs_in part (c.arrived (s + v)) ≤ jobs_in part (c.arrived s) + stream_eta_plus st v
  part-within c best worst o st regular t s v apart h =
      let p : ℕ = c.arrived s in
      let q : ℕ = c.arrived (s + v) in
      elim (cases_lt (jobs_in part p) (jobs_in part q)) [
        | inr none ↦ omega arith
        | inl some ↦
            let first = job_of (jobs_in part p) q some in
            let last = job_of (jobs_in part q - 1) q (omega arith) in
            let from : p ≤ first.0 =
            elim (cases_lt first.0 p) [
              | inl less ↦ absurd (omega (arith, first.2, jobs_in-here first.0 first.3, jobs_in-mono (first.0 + 1) p (omega arith)))
              | inr more ↦ more
            ] in
            let order = job-order first.0 last.0 first.3 last.3 (omega (arith, first.2, last.2)) in
            let a = arrival_of c best worst o first.0 (s + v) first.1 in
            let b = arrival_of c best worst o last.0 (s + v) last.1 in
            let after = arrives-after c best worst o s first.0 a.0 from a.2 in
            let far = apart first.0 last.0 a.0 b.0 (record { first = first.3; last = last.3; order = order; comes = a.2; follows = b.2 }) (omega (arith, b.1)) in
            let count : count_from part first.0 last.0 ≡ jobs_in part q - jobs_in part p = omega (arith, first.2, last.2, jobs_in-here last.0 last.3) in
            let far' = rw count at far in
            omega (arith, stream_eta_plus-reaches st (jobs_in part q - jobs_in part p) v regular (omega (arith, far', b.1)))
      ]

  -- a part of all jobs
  pub jobs_in-all : ((k : ℕ) → part k ≡ true) → (k : ℕ) → jobs_in part k ≡ k
  jobs_in-all all zero = jobs_in-zero
  jobs_in-all all (suc k) = let e : suc k ≡ k + 1 = omega arith in rw e (omega (arith, jobs_in-here k (all k), jobs_in-all all k))

  -- ---- a part's jobs in a list

  -- job l is number n of the part, among the first jobs
  pub record Member (len n l : ℕ) : Type 0 where
    pub there : l < len
    pub own : part l ≡ true
    pub number : jobs_in part l ≡ n

  listed-suc : (len : ℕ) → filter part (range_with_len 0 (len + 1)) ≡ filter part (range_with_len 0 len) ++ cond (part len) (len ∷ []) []
  listed-suc len = ap (filter part) (places-more len) ∙ filter-append part (range_with_len 0 len) (len ∷ [])

  count-more : (len : ℕ) → length (filter part (range_with_len 0 len)) ≡ jobs_in part len → length (filter part (range_with_len 0 (len + 1))) ≡ jobs_in part (len + 1)
  count-more len before =
      rw (listed-suc len)
      (elim (cases_Bool (part len)) [
        | inl own ↦ rw own (omega (arith, length-append (filter part (range_with_len 0 len)) (len ∷ []), before, jobs_in-here len own))
        | inr not_own ↦ rw not_own (omega (arith, length-append (filter part (range_with_len 0 len)) [], before, jobs_in-other len not_own))
      ])

  listed-count : (len : ℕ) → length (filter part (range_with_len 0 len)) ≡ jobs_in part len
  listed-count zero = sym jobs_in-zero
  listed-count (suc len) = let e : len + 1 ≡ suc len = omega arith in subst (λ m. length (filter part (range_with_len 0 m)) ≡ jobs_in part m) e (count-more len (listed-count len))

  get-before : (xs ys : List ℕ) (n d : ℕ) → n < length xs → get_or (xs ++ ys) n d ≡ get_or xs n d
  get-before [] ys n d h = absurd (omega arith)
  get-before (x ∷ xs) ys zero d h = refl
  get-before (x ∷ xs) ys (suc n) d h = get-before xs ys n d (omega arith)

  get-last : (xs : List ℕ) (y n d : ℕ) → n ≡ length xs → get_or (xs ++ y ∷ []) n d ≡ y
  get-last [] y n d e = rw e refl
  get-last (x ∷ xs) y zero d e = absurd (omega arith)
  get-last (x ∷ xs) y (suc n) d e = get-last xs y n d (omega (arith, e))

  listed-last : (len n d : ℕ) → (part len ≡ true) ⊎ (part len ≡ false) → n < length (filter part (range_with_len 0 (len + 1))) → length (filter part (range_with_len 0 len)) ≤ n → Member (len + 1) n (get_or (filter part (range_with_len 0 (len + 1))) n d)
  listed-last len n d (inl own) h later =
      let xs : List ℕ = filter part (range_with_len 0 len) in
      let h' = rw (listed-suc len, own) at h in
      let here : n ≡ length xs = omega (arith, h', later, length-append xs (len ∷ [])) in
      rw (listed-suc len, own, get-last xs len n d here) (record { there = omega arith; own = own; number = omega (arith, here, listed-count len) })
  listed-last len n d (inr not_own) h later =
      let h' = rw (listed-suc len, not_own) at h in
      absurd (omega (arith, h', later, length-append (filter part (range_with_len 0 len)) []))

  listed-more : (len n d : ℕ) → (n < length (filter part (range_with_len 0 len)) → Member len n (get_or (filter part (range_with_len 0 len)) n d)) → n < length (filter part (range_with_len 0 (len + 1))) → Member (len + 1) n (get_or (filter part (range_with_len 0 (len + 1))) n d)
  listed-more len n d before h =
      let xs : List ℕ = filter part (range_with_len 0 len) in
      elim (cases_lt n (length xs)) [
        | inl earlier ↦
            let m = before earlier in
            rw (listed-suc len, get-before xs (cond (part len) (len ∷ []) []) n d earlier) (record { there = omega (arith, m.there); own = m.own; number = m.number })
        | inr later ↦ listed-last len n d (cases_Bool (part len)) h later
      ]

  pub listed : (len n d : ℕ) → n < length (filter part (range_with_len 0 len)) → Member len n (get_or (filter part (range_with_len 0 len)) n d)
  listed zero n d = λ h. absurd (omega arith)
  listed (suc len) n d =
      let e : len + 1 ≡ suc len = omega arith in
      subst (λ m. n < length (filter part (range_with_len 0 m)) → Member m n (get_or (filter part (range_with_len 0 m)) n d)) e (listed-more len n d (listed len n d))

-- ---- two parts of the same jobs

module _ (c : Course) (best worst : ℕ) (o : IsInOrder c best worst) (part other : ℕ → Bool) (until : ℕ) (same : (k : ℕ) → k ≤ c.arrived until → jobs_in part k ≡ jobs_in other k) where
  pub in_other : (k : ℕ) → k < c.arrived until → part k ≡ true → other k ≡ true
  in_other k here e =
      elim (cases_Bool (other k)) [
        | inl own ↦ own
        | inr not_own ↦ absurd (omega (arith, jobs_in-here part k e, jobs_in-other other k not_own, same k (omega arith), same (k + 1) (omega arith)))
      ]

  -- where one keeps apart, the other does
  pub same-apart : (st : Stream) (t : ℕ) → t ≤ until → PartKeepsApart c other st t → PartKeepsApart c part st t
  same-apart st t le apart k l a b are before =
      let within = arrived-mono c best worst o (b + 1) until (omega arith) in
      let last : l < c.arrived until = omega (arith, within, are.follows.1) in
      let first : k < c.arrived until = omega (arith, last, are.order) in
      let far = apart k l a b (record { first = in_other k first are.first; last = in_other l last are.last; order = are.order; comes = are.comes; follows = are.follows }) before in
      let e : count_from other k l ≡ count_from part k l = omega (arith, same k (omega arith), same (l + 1) (omega arith)) in
      rw e at far

  pub same-near : (st : Stream) (t : ℕ) → t ≤ until → PartKeepsNear c other st t → PartKeepsNear c part st t
  same-near st t le near k l a b are before =
      let within = arrived-mono c best worst o (b + 1) until (omega arith) in
      let last : l < c.arrived until = omega (arith, within, are.follows.1) in
      let first : k < c.arrived until = omega (arith, last, are.order) in
      let close = near k l a b (record { first = in_other k first are.first; last = in_other l last are.last; order = are.order; comes = are.comes; follows = are.follows }) before in
      let e : count_from other k l ≡ count_from part k l = omega (arith, same k (omega arith), same (l + 1) (omega arith)) in
      rw e at close

-- ---- what comes out of a task, of a part of its jobs

-- a part's jobs of a fed task arrive when those of its feeder's part end
pub record Sent (c d : Course) (part sent : ℕ → Bool) (k a : ℕ) : Type 0 where
  pub job : ℕ
  pub end : ℕ
  pub arrives : a ≡ end + 1
  pub number : jobs_in sent job ≡ jobs_in part k
  pub belongs : sent job ≡ true
  pub ends : EndsAfter d job end

module _ (c d : Course) (best worst best' worst' : ℕ) (o : IsInOrder d best worst) (o' : IsInOrder c best' worst') (part sent : ℕ → Bool) (until : ℕ) (fed : IsFed c d part sent until) where
  pub from_end : (k a : ℕ) → a < until → part k ≡ true → Arrives c k a → Sent c d part sent k a
  from_end k zero in_time e h =
      let start = fed 0 (omega arith) in
      let none = ended-le-arrived d best worst o 0 in
      let nothing : d.ended 0 ≡ 0 = omega (arith, none, o.none_arrived) in
      let start' = rw nothing at start in
      absurd (omega (arith, start', jobs_in-zero sent, jobs_in-here part k e, jobs_in-mono part (k + 1) (c.arrived (0 + 1)) (omega (arith, h.1))))
  from_end k (suc u) in_time e h =
      let z : suc u ≡ u + 1 = omega arith in
      let low = rw z at h.0 in
      let high = rw z at h.1 in
      let below = jobs_in-mono part (c.arrived (u + 1)) k low in
      let above = jobs_in-mono part (k + 1) (c.arrived (u + 1 + 1)) (omega (arith, high)) in
      let here = jobs_in-here part k e in
      let job = job_of sent (jobs_in part k) (d.ended (u + 1)) (omega (arith, above, here, fed (u + 1) (omega arith))) in
      let still : d.ended u ≤ job.0 =
      elim (cases_lt job.0 (d.ended u)) [
        | inl less ↦ absurd (omega (arith, fed u (omega arith), below, job.2, jobs_in-here sent job.0 job.3, jobs_in-mono sent (job.0 + 1) (d.ended u) (omega arith)))
        | inr more ↦ more
      ] in
      record { job = job.0; end = u; arrives = z; number = job.2; belongs = job.3; ends = (still, job.1) }

  -- two jobs of the part, with those of the feeder that sent them
  record Senders (k l a b : ℕ) : Type 0 where
    p : Sent c d part sent k a
    q : Sent c d part sent l b
    start : (x : ℕ) × (x < p.end + 1) × Arrives d p.job x
    start' : (x : ℕ) × (x < q.end + 1) × Arrives d q.job x
    are : ArePart d sent p.job q.job start.0 start'.0
    count : count_from sent p.job q.job ≡ count_from part k l
    ends : p.end ≤ q.end
    span : p.job + (count_from part k l - 1) ≤ q.job
    some : 0 < count_from part k l

  senders : (k l a b : ℕ) → b < until → ArePart c part k l a b → Senders k l a b
  senders k l a b in_time are =
      let times = arrives-order c best' worst' o' k l a b are.comes are.follows are.order in
      let p = from_end k a (omega arith) are.first are.comes in
      let q = from_end l b (omega arith) are.last are.follows in
      let count_k = jobs_in-here sent p.job p.belongs in
      let count_l = jobs_in-here sent q.job q.belongs in
      let more = jobs_in-mono part k l are.order in
      let last = jobs_in-here part l are.last in
      let order = job-order sent p.job q.job p.belongs q.belongs (omega (arith, p.number, q.number)) in
      let start = arrival_of d best worst o p.job (p.end + 1) (omega (arith, p.ends.1, ended-le-arrived d best worst o (p.end + 1))) in
      let start' = arrival_of d best worst o q.job (q.end + 1) (omega (arith, q.ends.1, ended-le-arrived d best worst o (q.end + 1))) in
      let z : p.job + (q.job - p.job) ≡ q.job = omega (arith, order) in
      let most = rw z at (jobs_in-le sent p.job (q.job - p.job)) in
      record {
        p = p;
        q = q;
        start = start;
        start' = start';
        are = record { first = p.belongs; last = q.belongs; order = order; comes = start.2; follows = start'.2 };
        count = omega (arith, p.number, q.number, count_l, last);
        ends =
            elim (cases_lt q.end p.end) [
              | inl less ↦ absurd (omega (arith, p.ends.0, q.ends.1, ended-mono d best worst o (q.end + 1) p.end (omega arith), order))
              | inr later ↦ later
            ];
        span = omega (arith, most, p.number, q.number, order, last, more);
        some = omega (arith, last, more);
      }

  -- the output lemma: what comes out of a part keeps apart as the stream of its completions says
  pub output-apart : (st : Stream) → IsStream st → (bound t : ℕ) → t < until → PartKeepsApart d sent st t → KeepsBound d (Within bound) t → PartKeepsApart c part (stream_after_response best bound st) (t + 1)
  output-apart st regular bound t now apart kept k l a b are before =
      let s = senders k l a b (omega arith) are in
      let n : ℕ = count_from part k l - 1 in
      let e : count_from part k l ≡ n + 1 = omega (arith, s.some) in
      let late = s.q.arrives in
      let far = apart s.p.job s.q.job s.start.0 s.start'.0 s.are (omega (arith, s.start'.1, late)) in
      let far' = rw (s.count, e) at far in
      let one = delta_minus-of_one st (n + 1) regular in
      let sent = delta_minus-of_one (stream_after_response best bound st) (n + 1) regular in
      let r = ends_keep_apart d best worst o (st ∷ []) (one-is_model st regular) bound t s.p.job s.q.job n s.start.0 s.start'.0 s.p.end s.q.end kept s.start.2 s.start'.2 s.span (omega (arith, far', one)) s.p.ends s.q.ends (omega (arith, s.ends, late)) in
      rw e (omega (arith, r, sent, s.p.arrives, late))

  -- and near, where every job keeps the bound
  pub output-near : (st : Stream) → IsStream st → (bound : ℕ) → PartKeepsNear d sent st until → ((k a : ℕ) → Arrives d k a → a + bound < until → k < d.ended (a + bound)) → PartKeepsNear c part (stream_after_response best bound st) until
  output-near st regular bound near kept k l a b are before =
      let s = senders k l a b before are in
      let late = s.q.arrives in
      let close = near s.p.job s.q.job s.start.0 s.start'.0 s.are (omega (arith, s.start'.1, late)) in
      let close' = rw s.count at close in
      let sooner = not_before d best worst o s.p.job s.start.0 (s.p.end + 1) s.start.2 s.p.ends.1 in
      let soon = ends_by s.q.job s.start'.0 s.q.end s.start'.2 s.q.ends (omega (arith, late)) in
      let soon' = ends_by s.p.job s.start.0 s.p.end s.start.2 s.p.ends (omega (arith, late, s.ends)) in
      by_count (count_from part k l) (s.p.end) (s.q.end) a b s.start.0 s.start'.0 s.some close' sooner soon soon' s.p.arrives late
      (λ e. arrives-order c best' worst' o' l k b a are.follows are.comes (alone e))
    where
      alone : count_from part k l ≡ 1 → l ≤ k
      alone e =
          elim (cases_lt k l) [
            | inl less ↦ absurd (omega (arith, e, jobs_in-here part k are.first, jobs_in-mono part (k + 1) l (omega arith), jobs_in-here part l are.last))
            | inr more ↦ more
          ]

      ends_by : (m x u : ℕ) → Arrives d m x → EndsAfter d m u → u + 1 < until → u + 1 ≤ x + bound
      ends_by m x u arrival end in_time =
          elim (cases_lt (x + bound) (u + 1)) [
            | inl less ↦ absurd (omega (arith, kept m x arrival (omega arith), end.0, ended-mono d best worst o (x + bound) u (omega arith)))
            | inr more ↦ more
          ]

      by_count : (n u v a b x y : ℕ) → 0 < n → y ≤ x + stream_delta_plus st n → x + best ≤ u + 1 → v + 1 ≤ y + bound → u + 1 ≤ x + bound → a ≡ u + 1 → b ≡ v + 1 → (n ≡ 1 → b ≤ a) → b ≤ a + stream_delta_plus (stream_after_response best bound st) n
      by_count zero u v a b x y some near low high high' ea eb same = absurd (omega arith)
      by_count (suc zero) u v a b x y some near low high high' ea eb same = omega (arith, same refl)
      by_count (suc (suc g)) u v a b x y some near low high high' ea eb same =
          let e : suc (suc g) ≡ suc g + 1 = omega arith in
          let near' = rw e at near in
          let sent = after_response-near (st ∷ []) best bound g (one-is_model st regular) in
          rw e (omega (arith, sent, near', low, high, high', ea, eb))
