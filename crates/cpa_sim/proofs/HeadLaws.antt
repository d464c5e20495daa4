-- The earliest pending job of a task, and what becomes of it as it gets ticks.
use Rattle.std.proofs.Common.{◌≡◌, ℕ, zero, suc, ◌-◌, ◌<◌, length, List, [], ◌∷◌, true, refl, ◌∙◌, ap, sym, arith, get_or}
use Rattle.std.proofs.lemmas.Bool.{cond-true, cond-false}
use Rattle.cpa_sim.specs.Run.{no_job, Progress, is_open, head_of}
use Rattle.cpa_sim.proofs.JobLists.{AreInOrder, after_ticks, jobs_after}
use Rattle.cpa_sim.proofs.QueueLaws.{after-more}

-- it is the first one after those that are complete
pub head-is : (d : ℕ) (js : List Progress) → AreInOrder d js → head_of js ≡ get_or js d no_job
head-is zero [] a = refl
head-is zero (job ∷ js) a =
    let here : is_open job ≡ true = let e = a.0.open_now in rw e refl in
    cond-true (is_open job) job (head_of js) here
head-is (suc d) [] a = absurd a
head-is (suc d) (job ∷ js) a = cond-false (is_open job) job (head_of js) a.0 ∙ head-is d js a.1

-- as it gets ticks, but not all that it needs
pub head-after : (ticks x d : ℕ) (js : List Progress) → AreInOrder d js → d < length js → ticks < (get_or js d no_job).left → head_of (jobs_after ticks x d js) ≡ after_ticks ticks x (head_of js)
head-after ticks x zero [] a h l = absurd (omega (arith, h))
head-after ticks x zero (job ∷ js) a h l =
    let here : is_open job ≡ true = let e = a.0.open_now in rw e refl in
    let still : is_open (after_ticks ticks x job) ≡ true = rw (after-more ticks x job l) refl in
    cond-true (is_open (after_ticks ticks x job)) (after_ticks ticks x job) (head_of js) still ∙ ap (after_ticks ticks x) (sym (cond-true (is_open job) job (head_of js) here))
head-after ticks x (suc d) [] a h l = absurd a
head-after ticks x (suc d) (job ∷ js) a h l =
    cond-false (is_open job) job (head_of (jobs_after ticks x d js)) a.0
    ∙ (head-after ticks x d js a.1 (omega (arith, h)) l
    ∙ ap (after_ticks ticks x) (sym (cond-false (is_open job) job (head_of js) a.0)))

pub head-arrival : (ticks x d : ℕ) (js : List Progress) → AreInOrder d js → d < length js → ticks < (get_or js d no_job).left → (head_of (jobs_after ticks x d js)).arrival ≡ (head_of js).arrival
head-arrival ticks x d js a h l =
    let enough : ticks < (head_of js).left = omega (arith, l, ap (λ (job : Progress). job.left) (head-is d js a)) in
    ap (λ (job : Progress). job.arrival) (head-after ticks x d js a h l ∙ after-more ticks x (head_of js) enough)

pub head-left : (ticks x d : ℕ) (js : List Progress) → AreInOrder d js → d < length js → ticks < (get_or js d no_job).left → (head_of (jobs_after ticks x d js)).left ≡ (head_of js).left - ticks
head-left ticks x d js a h l =
    let enough : ticks < (head_of js).left = omega (arith, l, ap (λ (job : Progress). job.left) (head-is d js a)) in
    ap (λ (job : Progress). job.left) (head-after ticks x d js a h l ∙ after-more ticks x (head_of js) enough)
