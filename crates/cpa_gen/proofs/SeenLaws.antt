-- What is seen in runs, one run after the other.
use Rattle.std.proofs.Common.{◌≡◌, ◌<◌, ◌≤◌, ℕ, zero, suc, ◌+◌, List, [], ◌∷◌, ◌++◌, map, length, slice_index_or, Option, None, refl, sym, ap, ap₂, ◌∙◌, subst, arith}
use Rattle.std.specs.List.{AllZip, sum_by, range_with_len}
use Rattle.std.specs.Prelude.{IfOk, Result, Ok, Err}
use Rattle.std.specs.Result.{IsOkAnd}
use Rattle.std.proofs.lemmas.Slice.Zip.{AllZip-long}
use Rattle.cpa_units.specs.declared.places.NoMemory.{NoMemory}
use Rattle.std.proofs.lemmas.List.{length-append}
use Rattle.std.proofs.lemmas.List.FromFn.{get_or-range_with_len, length-range_with_len}
use Rattle.std.proofs.lemmas.List.Sums.{count_by-le-length, fold-append, get_or-le-sum_by, sum_by-append, sum_by-cons, sum_by-le, sum_by-le-sum_by}
use Rattle.cpa_units.proofs.PlaceLaws.{places-more}
use Rattle.cpa_units.specs.Bounds.{bound_of}
use Rattle.cpa_units.specs.declared.bound.Bound.{Bound}
use Rattle.cpa_units.specs.declared.limits.TheConstants.{MAX_TRACES, MAX_TRACE_JOBS}
use Rattle.cpa_model.specs.Rules.{IsSystem}
use Rattle.cpa_model.specs.SystemLists.{SystemLists, task_places}
use Rattle.cpa_local.specs.Solution.{IsClosed}
use Rattle.cpa_sim.specs.Outcome.{OutcomeLists, jobs_seen}
use Rattle.cpa_sim.specs.SimText.{greater_of, worst_response}
use Rattle.cpa_sound.specs.Beyond.{beyond_of, is_beyond, late_jobs}
use Rattle.cpa_sound.proofs.BeyondLaws.{nothing_is_beyond}
use Rattle.cpa_sim.proofs.JobCount.{few_jobs}
use Rattle.cpa_gen.specs.MadeTraces.{made_trace}
use Rattle.cpa_gen.specs.declared.observation.Tally.{Tally}
use Rattle.cpa_gen.specs.Adding.{IsSmall, MOST_JOBS, seen_plus, tallies_plus, tally_of, tally_plus}
use Rattle.cpa_gen.specs.Seen.{SeenLists, jobs_in, no_tally, run_made, seen_over, tally_at, tally_over}
use Rattle.cpa_gen.proofs.ListLaws.{same_table, table, table_at, table_length}
use Rattle.cpa_gen.proofs.ObeyLaws.{made_traces_obey}
use Rattle.cpa_gen.proofs.ReplayLaws.{made_traces_replay}

abbrev seen_of : List Tally → ℕ → ℕ → ℕ → SeenLists
seen_of tallies traces jobs beyond = record { tallies = tallies; traces = traces; jobs = jobs; beyond = beyond }

abbrev tally : ℕ → Option ℕ → Tally
tally jobs worst = record { jobs = jobs; worst = worst }

seen-same : (ts us : List Tally) (a b c d e f : ℕ) → ts ≡ us → a ≡ b → c ≡ d → e ≡ f → seen_of ts a c e ≡ seen_of us b d f
seen-same ts us a b c d e f p q r t = rw (p, q, r, t) refl

sum-one : (f : ℕ → ℕ) (k : ℕ) → sum_by f (k ∷ []) ≡ f k
sum-one f k = omega (arith, sum_by-cons f k [])

sum-more : (f : ℕ → ℕ) (ks : List ℕ) (k : ℕ) → sum_by f ks + sum_by f (k ∷ []) ≡ sum_by f (ks ++ k ∷ [])
sum-more f ks k = sym (sum_by-append f ks (k ∷ []))

-- a sum over the places so far, and one more
pub sum-next : (f : ℕ → ℕ) (k jobs count : ℕ) → jobs ≡ sum_by f (range_with_len 0 k) → count ≡ f k → jobs + count ≡ sum_by f (range_with_len 0 (k + 1))
sum-next f k jobs count so one =
    let more = ap (sum_by f) (places-more k) ∙ sum_by-append f (range_with_len 0 k) (k ∷ []) in
    omega (arith, more, so, one, sum-one f k)

module _ (s : SystemLists) (x : List Bound) (number : ℕ) where
  abbrev jobs_of_task : ℕ → ℕ → ℕ
  jobs_of_task i k = length (jobs_seen (run_made s number k) i)

  abbrev worse : ℕ → Option ℕ → ℕ → Option ℕ
  worse i worst k = greater_of worst (worst_response (jobs_seen (run_made s number k) i))

  abbrev run_jobs : ℕ → ℕ
  run_jobs k = jobs_in s (run_made s number k)

  abbrev run_beyond : ℕ → ℕ
  run_beyond k = beyond_of s x (run_made s number k)

  abbrev lists : List ℕ → SeenLists
  lists ks = seen_of (table (tally_over s number ks) (length s.tasks)) (length ks) (sum_by run_jobs ks) (sum_by run_beyond ks)

  pub over-is : (ks : List ℕ) → seen_over s x number ks ≡ lists ks
  unfolding seen_over
  over-is ks = refl

  -- one run
  tally-one : (k i : ℕ) → tally_of (run_made s number k) i ≡ tally_over s number (k ∷ []) i
  tally-one k i = ap (λ jobs. tally jobs (worst_response (jobs_seen (run_made s number k) i))) (sym (sum-one (jobs_of_task i) k))

  pub seen-one : (k : ℕ) (o : OutcomeLists) (ts : List Tally) (jobs beyond : ℕ) → o ≡ run_made s number k → ts ≡ map (tally_of o) (range_with_len 0 (length s.tasks)) → jobs ≡ jobs_in s o → beyond ≡ beyond_of s x o
      → seen_of ts 1 jobs beyond ≡ seen_over s x number (k ∷ [])
  seen-one k o ts jobs beyond run has counted late =
      let tallies : ts ≡ table (tally_of (run_made s number k)) (length s.tasks) = has ∙ ap (λ (r : OutcomeLists). table (tally_of r) (length s.tasks)) run in
      let same = tallies ∙ same_table (tally_of (run_made s number k)) (tally_over s number (k ∷ [])) (length s.tasks) (λ i l. tally-one k i) in
      seen-same ts _ 1 1 jobs _ beyond _ same refl (counted ∙ ap (jobs_in s) run ∙ sym (sum-one run_jobs k)) (late ∙ ap (beyond_of s x) run ∙ sym (sum-one run_beyond k))
      ∙ sym (over-is (k ∷ []))

  -- one run more
  tally-more : (ks : List ℕ) (k i : ℕ) → tally_plus (tally_over s number ks i) (tally_over s number (k ∷ []) i) ≡ tally_over s number (ks ++ k ∷ []) i
  tally-more ks k i =
      ap₂ (λ jobs worst. tally jobs worst) (sum-more (jobs_of_task i) ks k) (sym (fold-append (worse i) None ks (k ∷ [])))

  tallies-more : (ks : List ℕ) (k : ℕ) → tallies_plus (table (tally_over s number ks) (length s.tasks)) (table (tally_over s number (k ∷ [])) (length s.tasks)) ≡ table (tally_over s number (ks ++ k ∷ [])) (length s.tasks)
  tallies-more ks k =
      let before = table (tally_over s number ks) (length s.tasks) in
      let one = table (tally_over s number (k ∷ [])) (length s.tasks) in
      let sums : ℕ → Tally = λ i. tally_plus (tally_at before i) (tally_at one i) in
      ap (table sums) (table_length (tally_over s number ks) (length s.tasks))
      ∙ same_table sums (tally_over s number (ks ++ k ∷ [])) (length s.tasks) (λ i l.
      ap₂ tally_plus (table_at (tally_over s number ks) (length s.tasks) i no_tally l) (table_at (tally_over s number (k ∷ [])) (length s.tasks) i no_tally l)
      ∙ tally-more ks k i)

  seen-more : (ks : List ℕ) (k : ℕ) → seen_plus (lists ks) (lists (k ∷ [])) ≡ lists (ks ++ k ∷ [])
  seen-more ks k =
      seen-same _ _ _ _ _ _ _ _ (tallies-more ks k) (sym (length-append ks (k ∷ []))) (sum-more run_jobs ks k) (sum-more run_beyond ks k)

  -- the run under trace k, after those before it
  pub seen-next : (k j : ℕ) (before one after : SeenLists) → k + 1 ≡ j → before ≡ seen_over s x number (range_with_len 0 k) → one ≡ seen_over s x number (k ∷ []) → after ≡ seen_plus before one
      → after ≡ seen_over s x number (range_with_len 0 j)
  seen-next k j before one after next first second sum =
      sum ∙ ap₂ seen_plus (first ∙ over-is (range_with_len 0 k)) (second ∙ over-is (k ∷ [])) ∙ seen-more (range_with_len 0 k) k
      ∙ ap lists (sym (places-more k) ∙ ap (range_with_len 0) next) ∙ sym (over-is (range_with_len 0 j))

  pub seen-none : (seen : SeenLists) (tasks : ℕ) → tasks ≡ length s.tasks → seen ≡ seen_of (table (λ i. no_tally) tasks) 0 0 0 → seen ≡ seen_over s x number (range_with_len 0 0)
  seen-none seen tasks all none =
      none ∙ ap (λ n. seen_of (table (λ i. no_tally) n) 0 0 0) all ∙ sym (over-is [])

  -- the numbers are small
  module _ (kept : IsSystem s) where
    run-few : (k : ℕ) → run_jobs k ≤ MAX_TRACE_JOBS
    run-few k =
        let few = few_jobs s (made_trace s number k) kept (length s.tasks) (omega arith) in
        omega (arith, few, (made_traces_replay s number k kept).few)

    task-few : (i k : ℕ) → i < length s.tasks → jobs_of_task i k ≤ MAX_TRACE_JOBS
    task-few i k l =
        let f : ℕ → ℕ = λ j. jobs_of_task j k in
        let part = get_or-le-sum_by f (task_places s) i 0 (omega (arith, l, length-range_with_len 0 (length s.tasks))) in
        let here : f (slice_index_or (task_places s) i 0) ≡ f i = ap f (get_or-range_with_len 0 (length s.tasks) i 0 l ∙ omega arith) in
        omega (arith, part, here, run-few k)

    beyond-few : (k : ℕ) → run_beyond k ≤ MAX_TRACE_JOBS
    unfolding beyond_of
    beyond-few k =
        let o = run_made s number k in
        let late = sum_by-le-sum_by (λ i. late_jobs (bound_of x i) o i) (λ i. length (jobs_seen o i)) (task_places s) (λ i. count_by-le-length (is_beyond (bound_of x i) o.end) (jobs_seen o i)) in
        omega (arith, late, run-few k)

    sums-few : (f : ℕ → ℕ) (ks : List ℕ) → length ks ≤ MAX_TRACES → ((k : ℕ) → f k ≤ MAX_TRACE_JOBS) → sum_by f ks ≤ MOST_JOBS
    sums-few f ks few each =
        let all = sum_by-le f MAX_TRACE_JOBS ks (λ j d l. each (slice_index_or ks j d)) in
        omega (arith, all, few)

    small-lists : (ks : List ℕ) → length ks ≤ MAX_TRACES → IsSmall (length s.tasks) (lists ks)
    small-lists ks few =
        let long = table_length (tally_over s number ks) (length s.tasks) in
        record {
          long = long;
          few = λ i l.
              let there : i < length s.tasks = omega (arith, l, long) in
              let here = ap (λ (t : Tally). t.jobs) (table_at (tally_over s number ks) (length s.tasks) i no_tally there) in
              omega (arith, here, sums-few (jobs_of_task i) ks few (λ k. task-few i k there));
          traces = few;
          jobs = sums-few run_jobs ks few run-few;
          beyond = sums-few run_beyond ks few beyond-few;
        }

    pub seen-small : (ks : List ℕ) (seen : SeenLists) → length ks ≤ MAX_TRACES → seen ≡ seen_over s x number ks → IsSmall (length seen.tallies) seen
    seen-small ks seen few is =
        let same : seen ≡ lists ks = is ∙ over-is ks in
        let long : length seen.tallies ≡ length s.tasks = ap (λ (v : SeenLists). length v.tallies) same ∙ table_length (tally_over s number ks) (length s.tasks) in
        subst (λ n. IsSmall n seen) (sym long) (subst (IsSmall (length s.tasks)) (sym same) (small-lists ks few))

    pub seen-long : (ks : List ℕ) (seen : SeenLists) → seen ≡ seen_over s x number ks → length seen.tallies ≡ length s.tasks
    seen-long ks seen is = ap (λ (v : SeenLists). length v.tallies) (is ∙ over-is ks) ∙ table_length (tally_over s number ks) (length s.tasks)

    -- no job is beyond a closed vector
    pub none-beyond : IsClosed s x → (ks : List ℕ) (seen : SeenLists) → seen ≡ seen_over s x number ks → seen.beyond ≡ 0
    none-beyond closed ks seen is =
        let none : (k : ℕ) → run_beyond k ≤ 0 = λ k. let z = nothing_is_beyond s x (made_trace s number k) kept closed (made_traces_obey s number k kept) in omega (arith, z) in
        let all = sum_by-le run_beyond 0 ks (λ j d l. none (slice_index_or ks j d)) in
        let same = ap (λ (v : SeenLists). v.beyond) (is ∙ over-is ks) in
        omega (arith, all, same)

-- ---- runs that came together

zip-at : {A B : Type 0} (R : A → B → Type 0) (xs : List A) (ys : List B) (i : ℕ) (d : A) (e : B) → AllZip R xs ys → i < length xs → R (slice_index_or xs i d) (slice_index_or ys i e)
zip-at R [] [] i d e h l = absurd (omega (arith, l))
zip-at R [] (y ∷ ys) i d e h l = absurd h
zip-at R (x ∷ xs) [] i d e h l = absurd h
zip-at R (x ∷ xs) (y ∷ ys) zero d e h l = h.0
zip-at R (x ∷ xs) (y ∷ ys) (suc i) d e h l = zip-at R xs ys i d e h.1 (omega (arith, l))

module _ (s : SystemLists) (x : List Bound) (number : ℕ) where
  abbrev IsRun : ℕ → Result SeenLists NoMemory → Type 0
  IsRun k r = IfOk r (λ seen. seen ≡ seen_over s x number (k ∷ []))

  pub batch-long : (from n : ℕ) (batch : List (Result SeenLists NoMemory)) → AllZip IsRun (range_with_len from n) batch → length batch ≡ n
  batch-long from n batch all = AllZip-long IsRun (range_with_len from n) batch all ∙ length-range_with_len from n

  pub in-batch : (from n i : ℕ) (batch : List (Result SeenLists NoMemory)) (r : Result SeenLists NoMemory) → AllZip IsRun (range_with_len from n) batch → i < n → r ≡ slice_index_or batch i r → IsRun (from + i) r
  in-batch from n i batch r all l is =
      let here = zip-at IsRun (range_with_len from n) batch i 0 r all (omega (arith, l, length-range_with_len from n)) in
      let place : slice_index_or (range_with_len from n) i 0 ≡ from + i = get_or-range_with_len from n i 0 l in
      subst (IsRun (from + i)) (sym is) (subst (λ k. IsRun k (slice_index_or batch i r)) place here)

  pub one-small : IsSystem s → (ks : List ℕ) (total : SeenLists) (k : ℕ) (r : Result SeenLists NoMemory) → total ≡ seen_over s x number ks → IsRun k r → IfOk r (IsSmall (length total.tallies))
  one-small kept ks total k (Err e) is one = tt
  one-small kept ks total k (Ok seen) is one =
      let long : length seen.tallies ≡ length total.tallies = seen-long s x number kept (k ∷ []) seen one ∙ sym (seen-long s x number kept ks total is) in
      subst (λ n. IsSmall n seen) long (seen-small s x number kept (k ∷ []) seen (omega arith) one)

  pub added-is : (k j : ℕ) (before after : SeenLists) (r : Result SeenLists NoMemory) → k + 1 ≡ j → before ≡ seen_over s x number (range_with_len 0 k) → IsRun k r → IsOkAnd r (λ o. after ≡ seen_plus before o)
      → after ≡ seen_over s x number (range_with_len 0 j)
  added-is k j before after (Ok seen) next is one sum = seen-next s x number k j before seen after next is one sum
  added-is k j before after (Err e) next is one sum = absurd sum
