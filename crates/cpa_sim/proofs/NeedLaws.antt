-- No job needs more than it needs in all.
use Rattle.std.proofs.Common.{◌≡◌, ℕ, ◌+◌, ◌-◌, ◌<◌, ◌≤◌, ◌++◌, length, List, refl, ap, ◌∙◌, inl, inr, arith, get_or, length-append}
use Rattle.std.proofs.lemmas.Bool.{cases_lt, cases_eq}
use Rattle.std.proofs.lemmas.List.{get_or_append_left, get_or-append_right, get_or-set_same, get_or-set_other}
use Rattle.cpa_sim.specs.declared.jobs.Cause.{Cause}
use Rattle.cpa_sim.specs.Run.{no_job, Progress, new_jobs}
use Rattle.cpa_sim.proofs.JobLists.{AreWithin, after_ticks, jobs_after}
use Rattle.cpa_sim.proofs.QueueLaws.{after-more, after-last, length-jobs, length-new, fresh-new}

pub within-append : (needs : ℕ → ℕ) (now : ℕ) (new : List Cause) (js : List Progress) → AreWithin needs js → AreWithin needs (js ++ new_jobs needs (length js) now new)
within-append needs now new js within k there =
    let come = new_jobs needs (length js) now new in
    elim (cases_lt k (length js)) [
      | inl old ↦
          let same = ap (λ (j : Progress). j.left) (get_or_append_left js come no_job k old) in
          let few = within k old in
          omega (arith, same, few)
      | inr past ↦
          let long = length-append js come ∙ ap (λ x. length js + x) (length-new needs (length js) now new) in
          let e : length js + (k - length js) ≡ k = omega (arith, past) in
          let same =
          ap (λ (j : Progress). j.left) (get_or-append_right js come (length js) k no_job refl past)
          ∙ (fresh-new needs (length js) now new (k - length js) (omega (arith, long, there, past)) ∙ ap needs e) in
          omega (arith, same)
    ]

left-after : (ticks now : ℕ) (job : Progress) → (after_ticks ticks now job).left ≤ job.left
left-after ticks now job =
    elim (cases_lt ticks job.left) [
      | inl more ↦ let is = ap (λ (j : Progress). j.left) (after-more ticks now job more) in omega (arith, is)
      | inr last ↦ let is = ap (λ (j : Progress). j.left) (after-last ticks now job last) in omega (arith, is)
    ]

pub within-after : (needs : ℕ → ℕ) (ticks now d : ℕ) (js : List Progress) → AreWithin needs js → AreWithin needs (jobs_after ticks now d js)
within-after needs ticks now d js within k there =
    let job = get_or js d no_job in
    let below : k < length js = omega (arith, there, length-jobs ticks now d js) in
    let few = within k below in
    elim (cases_eq k d) [
      | inl same ↦
          let here : d < length js = omega (arith, same, below) in
          let is = ap (λ i. (get_or (jobs_after ticks now d js) i no_job).left) same ∙ ap (λ (j : Progress). j.left) (get_or-set_same js d (after_ticks ticks now job) no_job here) in
          let less = left-after ticks now job in
          let own = ap (λ i. (get_or js i no_job).left) same in
          omega (arith, is, less, own, few)
      | inr apart ↦
          let is = ap (λ (j : Progress). j.left) (get_or-set_other js d k (after_ticks ticks now job) no_job apart) in
          omega (arith, is, few)
    ]
