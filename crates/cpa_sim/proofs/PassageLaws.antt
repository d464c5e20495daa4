-- Where the passages of a task's jobs end, by where those of the next task's do.
use Rattle.std.proofs.Common.{◌≡◌, ℕ, suc, ◌+◌, ◌<◌, ◌≤◌, length, List, [], ◌∷◌, Bool, true, false, cond, drop, get_or, nat_lt, Option, Some, None, option_map, refl, sym, ◌∙◌, ap, inl, inr, arith}
use Rattle.std.specs.Prelude.{position, option_and_then}
use Rattle.std.specs.List.{position_or_len}
use Rattle.std.proofs.lemmas.Bool.{cases_lt, cases_Bool, lt-ltb, le-ltb}
use Rattle.std.proofs.Math.Seq.{drop-cons}
use Rattle.std.proofs.lemmas.List.{drop_all}
use Rattle.std.proofs.lemmas.List.Quantifiers.{position-Some}
use Rattle.cpa_units.specs.declared.places.TaskId.{TaskId}
use Rattle.cpa_sim.specs.declared.jobs.Job.{Job}
use Rattle.cpa_sim.specs.Outcome.{OutcomeLists, no_job_seen, jobs_seen}
use Rattle.cpa_sim.specs.SimText.{is_started_by, next_job, passage_end}
use Rattle.cpa_sim.specs.PassageEnds.{end_in, place_at, AreEnds}

-- the end that belongs to the first job from the n-th on that job m of a task started
abbrev pub found_from : List Job → ℕ → List (Option ℕ) → ℕ → ℕ → Option ℕ
found_from jobs task ends n m = option_and_then (λ q. end_in ends (n + q)) (position (is_started_by task m) (drop n jobs))

pub position-cons : {X : Type 0} (p : X → Bool) (x : X) (xs : List X) → position p (x ∷ xs) ≡ cond (p x) (Some 0) (option_map suc (position p xs))
position-cons p x xs =
    elim (cases_Bool (p x)) [
      | inl here ↦ rw here (ap (λ b. cond b (Some 0) None) (lt-ltb 0 (suc (length xs)) (omega arith)))
      | inr later ↦ elim (cases_lt (position_or_len p xs) (length xs)) [
        | inl there ↦
            let e : 1 + position_or_len p xs ≡ suc (position_or_len p xs) = omega arith in
            let a : nat_lt (position_or_len p xs) (length xs) ≡ true = lt-ltb (position_or_len p xs) (length xs) there in
            let b : nat_lt (suc (position_or_len p xs)) (suc (length xs)) ≡ true = lt-ltb (suc (position_or_len p xs)) (suc (length xs)) (omega arith) in
            rw (later, e, a, b) refl
        | inr past ↦
            let e : 1 + position_or_len p xs ≡ suc (position_or_len p xs) = omega arith in
            let a : nat_lt (position_or_len p xs) (length xs) ≡ false = le-ltb (position_or_len p xs) (length xs) past in
            let b : nat_lt (suc (position_or_len p xs)) (suc (length xs)) ≡ false = le-ltb (suc (position_or_len p xs)) (suc (length xs)) (omega arith) in
            rw (later, e, a, b) refl
      ]
    ]

-- what is looked up at equal places
then-agree : (f g : ℕ → Option ℕ) (o : Option ℕ) → ((n : ℕ) → o ≡ Some n → f n ≡ g n) → option_and_then f o ≡ option_and_then g o
then-agree f g None agree = refl
then-agree f g (Some n) agree = agree n refl

then-suc : (f g : ℕ → Option ℕ) (o : Option ℕ) → ((n : ℕ) → f (suc n) ≡ g n) → option_and_then f (option_map suc o) ≡ option_and_then g o
then-suc f g None agree = refl
then-suc f g (Some n) agree = agree n

module _ (jobs : List Job) (task : ℕ) (ends : List (Option ℕ)) (m : ℕ) where
  pub found-none : (n : ℕ) → length jobs ≤ n → None ≡ found_from jobs task ends n m
  found-none n past = let none : drop n jobs ≡ [] = drop_all n jobs past in rw none refl

  pub found-more : (n : ℕ) → n < length jobs → cond (is_started_by task m (get_or jobs n no_job_seen)) (end_in ends n) (found_from jobs task ends (n + 1) m) ≡ found_from jobs task ends n m
  found-more n there =
      let job = get_or jobs n no_job_seen in
      let rest = drop (n + 1) jobs in
      let s : suc n ≡ n + 1 = omega arith in
      let cons : drop n jobs ≡ job ∷ rest = drop-cons jobs n no_job_seen there ∙ ap (λ q. job ∷ drop q jobs) s in
      let e : n + 0 ≡ n = omega arith in
      let first = ap (λ xs. option_and_then (λ q. end_in ends (n + q)) (position (is_started_by task m) xs)) cons ∙ ap (option_and_then (λ q. end_in ends (n + q))) (position-cons (is_started_by task m) job rest) in
      elim (cases_Bool (is_started_by task m job)) [
        | inl here ↦ rw here (sym (rw (here, e) at first))
        | inr later ↦
            let first' = rw later at first in
            rw later
            (sym
            (first'
            ∙ then-suc (λ q. end_in ends (n + q)) (λ q. end_in ends (n + 1 + q)) (position (is_started_by task m) rest) (λ q. let f : n + suc q ≡ n + 1 + q = omega arith in ap (end_in ends) f)))
      ]

  pub found-all : found_from jobs task ends 0 m ≡ option_and_then (end_in ends) (position (is_started_by task m) jobs)
  found-all = then-agree (λ q. end_in ends (0 + q)) (end_in ends) (position (is_started_by task m) jobs) (λ q is. let e : 0 + q ≡ q = omega arith in ap (end_in ends) e)

-- the last task of a path
pub ends-last : (o : OutcomeLists) (tasks : List TaskId) (k : ℕ) (ends : List (Option ℕ)) → length tasks ≤ k + 1
    → ((m : ℕ) → m < length (jobs_seen o (place_at tasks k)) → end_in ends m ≡ passage_end o (place_at tasks k) m []) → AreEnds o tasks k ends
ends-last o tasks k ends last are m there = are m there ∙ ap (passage_end o (place_at tasks k) m) (sym (drop_all (k + 1) tasks last))

-- the one before
pub ends-before : (o : OutcomeLists) (tasks : List TaskId) (k : ℕ) (ends before : List (Option ℕ)) → k + 1 < length tasks → AreEnds o tasks (k + 1) ends
    → ((m : ℕ) → m < length (jobs_seen o (place_at tasks k)) → end_in before m ≡ option_and_then (end_in ends) (next_job o (place_at tasks k) m (place_at tasks (k + 1)))) → AreEnds o tasks k before
ends-before o tasks k ends before there next are m within =
    let task : TaskId = get_or tasks (k + 1) (record { 0 = 0 }) in
    let s : suc (k + 1) ≡ k + 1 + 1 = omega arith in
    let cons : drop (k + 1) tasks ≡ task ∷ drop (k + 1 + 1) tasks = drop-cons tasks (k + 1) (record { 0 = 0 }) there ∙ ap (λ q. task ∷ drop q tasks) s in
    are m within
    ∙ (then-agree (end_in ends) (λ n. passage_end o task.0 n (drop (k + 1 + 1) tasks)) (next_job o (place_at tasks k) m task.0)
    (λ n e. next n (position-Some (is_started_by (place_at tasks k) m) (jobs_seen o task.0) n no_job_seen e).0)
    ∙ ap (passage_end o (place_at tasks k) m) (sym cons))
