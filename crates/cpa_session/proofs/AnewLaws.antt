-- A copy of the old bounds in which the tasks on some resources begin anew.
use Rattle.std.proofs.Common.{◌≡◌, ℕ, ◌+◌, ◌<◌, ◌≤◌, ◌⊎◌, length, List, Bool, false, None, set, get_or, refl, sym, ap, ◌∙◌, inl, inr, subst, arith, get_or-set_same, get_or-set_other, length-set}
use Rattle.std.proofs.lemmas.Bool.{cases_eq, cases_lt, cases_Bool, false≢true}
use Rattle.std.proofs.lemmas.List.{ext_get_or}
use Rattle.cpa_units.specs.declared.bound.Bound.{Bound}
use Rattle.cpa_units.specs.declared.bound.Bound.TheVariants.{Within}
use Rattle.cpa_units.specs.declared.places.TaskId.{TaskId}
use Rattle.cpa_units.specs.Bounds.{bound_of}
use Rattle.cpa_units.specs.Sets.{holds, Members}
use Rattle.cpa_model.specs.SystemLists.{SystemLists, task_at, tasks_on, places_of, no_task}
use Rattle.cpa_model.specs.Rules.{IsSystem, IsTask}
use Rattle.cpa_model.proofs.SystemLaws.{no_id}
use Rattle.cpa_model.proofs.ResourceTaskLaws.{on-each, on-found}
use Rattle.cpa_session.specs.Spared.{place_before}
use Rattle.cpa_session.specs.Carried.{carried, IsBegunAnew}
use Rattle.cpa_session.proofs.CarriedLaws.{long-carried, carried-floor, carried-kept}

-- the first tasks of a resource
pub record IsBegunTo (s : SystemLists) (r : ℕ) (ids : List TaskId) (old new : List Bound) (k : ℕ) : Type 0 where
  pub long : length new ≡ length old
  pub least : (j : ℕ) → j < k → bound_of new (get_or ids j no_id).0 ≡ Within (task_at s (get_or ids j no_id).0).best
  pub others : (i : ℕ) → ((task_at s i).res.0 ≡ r → ⊥) → bound_of new i ≡ bound_of old i

pub begun-more : (s : SystemLists) (r : ℕ) (ids : List TaskId) (old new : List Bound) (k : ℕ) → places_of ids ≡ tasks_on s r → k < length ids → (get_or ids k no_id).0 < length new → IsBegunTo s r ids old new k
    → IsBegunTo s r ids old (set new (get_or ids k no_id).0 (Within (task_at s (get_or ids k no_id).0).best)) (k + 1)
begun-more s r ids old new k are less there h =
    let i = (get_or ids k no_id).0 in
    let here = get_or-set_same new i (Within (task_at s i).best) (Within 0) there in
    record {
      long = length-set new i (Within (task_at s i).best) ∙ h.long;
      least = λ j under. elim (cases_eq (get_or ids j no_id).0 i) [
        | inl same ↦ subst (λ (n : ℕ). bound_of (set new i (Within (task_at s i).best)) n ≡ Within (task_at s n).best) (sym same) here
        | inr other ↦
            get_or-set_other new i (get_or ids j no_id).0 (Within (task_at s i).best) (Within 0) other
            ∙ h.least j (elim (cases_eq j k) [
              | inl last ↦ absurd (other (ap (λ (n : ℕ). (get_or ids n no_id).0) last))
              | inr before ↦ omega arith
            ])
      ];
      others = λ n off.
          get_or-set_other new i n (Within (task_at s i).best) (Within 0) (λ same. off (ap (λ (m : ℕ). (task_at s m).res.0) same ∙ on-each s r ids are k no_id less))
          ∙ h.others n off;
    }

pub begun-all : (s : SystemLists) (r : ℕ) (ids : List TaskId) (old new : List Bound) (k : ℕ) → places_of ids ≡ tasks_on s r → length ids ≤ k → IsBegunTo s r ids old new k → IsBegunAnew s r old new
begun-all s r ids old new k are end h =
    record {
      long = h.long;
      least = λ i less on.
          let at = on-found s r ids are i no_id less on in
          subst (λ (n : ℕ). bound_of new n ≡ Within (task_at s n).best) at.2 (h.least at.0 (omega (arith, at.1)));
      others = h.others;
    }

-- the members among the first resources
pub record IsPartlyAnew (s : SystemLists) (reset : List Bool) (x y : List Bound) (place : ℕ) : Type 0 where
  pub long : length y ≡ length x
  pub least : (i : ℕ) → i < length s.tasks → (task_at s i).res.0 < place → Members reset (task_at s i).res.0 → bound_of y i ≡ Within (task_at s i).best
  pub rest : (i : ℕ) → i < length s.tasks → (place ≤ (task_at s i).res.0) ⊎ (holds reset (task_at s i).res.0 ≡ false) → bound_of y i ≡ bound_of x i

pub anew-start : (s : SystemLists) (reset : List Bool) (x : List Bound) → IsPartlyAnew s reset x x 0
anew-start s reset x = record { long = refl; least = λ i less none on. absurd (omega arith); rest = λ i less why. refl }

-- no member between two places
pub anew-jump : (s : SystemLists) (reset : List Bool) (x y : List Bound) (from place : ℕ) → from ≤ place → ((r : ℕ) → from ≤ r → r < place → holds reset r ≡ false) → IsPartlyAnew s reset x y from → IsPartlyAnew s reset x y place
anew-jump s reset x y from place up none h =
    record {
      long = h.long;
      least = λ i less under on. elim (cases_lt (task_at s i).res.0 from) [
        | inl before ↦ h.least i less before on
        | inr past ↦ absurd (false≢true (sym (none (task_at s i).res.0 past under) ∙ on))
      ];
      rest = λ i less why. elim why [
        | inl past ↦ h.rest i less (inl (omega arith))
        | inr out ↦ h.rest i less (inr out)
      ];
    }

-- no resource at a place
pub anew-past : (s : SystemLists) (reset : List Bool) (x y : List Bound) (place : ℕ) → IsSystem s → length s.resources ≤ place → IsPartlyAnew s reset x y place → IsPartlyAnew s reset x y (place + 1)
anew-past s reset x y place rules past h =
    record {
      long = h.long;
      least = λ i less under on. let entry : IsTask s (task_at s i) = rules.tasks i no_task less in h.least i less (omega (arith, entry.placed, past)) on;
      rest = λ i less why. elim why [
        | inl beyond ↦ h.rest i less (inl (omega arith))
        | inr out ↦ h.rest i less (inr out)
      ];
    }

pub anew-more : (s : SystemLists) (reset : List Bool) (x y z : List Bound) (place : ℕ) → Members reset place → IsBegunAnew s place y z → IsPartlyAnew s reset x y place → IsPartlyAnew s reset x z (place + 1)
anew-more s reset x y z place on begun h =
    record {
      long = begun.long ∙ h.long;
      least = λ i less under member. elim (cases_eq (task_at s i).res.0 place) [
        | inl here ↦ begun.least i less here
        | inr other ↦ begun.others i other ∙ h.least i less (omega arith) member
      ];
      rest = λ i less why. elim why [
        | inl past ↦ begun.others i (λ here. omega (arith, past)) ∙ h.rest i less (inl (omega arith))
        | inr out ↦ begun.others i (λ here. false≢true (sym out ∙ ap (holds reset) here ∙ on)) ∙ h.rest i less (inr out)
      ];
    }

pub anew-all : (s : SystemLists) (reset : List Bool) (x y : List Bound) (place : ℕ) → IsSystem s → length x ≡ length s.tasks → length s.resources ≤ place → IsPartlyAnew s reset x y place
    → y ≡ carried s (place_before None) reset x
anew-all s reset x y place rules full end h =
    ext_get_or (Within 0) y (carried s (place_before None) reset x) (h.long ∙ full ∙ sym (long-carried s (place_before None) reset x))
    (λ i under.
    let less : i < length s.tasks = omega (arith, h.long, full) in
    let entry : IsTask s (task_at s i) = rules.tasks i no_task less in
    elim (cases_Bool (holds reset (task_at s i).res.0)) [
      | inl on ↦ h.least i less (omega (arith, entry.placed)) on ∙ sym (carried-floor s (place_before None) reset x i less (inl on))
      | inr off ↦ h.rest i less (inr off) ∙ sym (carried-kept s (place_before None) reset x i less off (omega arith))
    ])

-- no member from a place on
pub anew-end : (s : SystemLists) (reset : List Bool) (x y : List Bound) (from : ℕ) → IsSystem s → length x ≡ length s.tasks → ((r : ℕ) → from ≤ r → holds reset r ≡ false) → IsPartlyAnew s reset x y from
    → y ≡ carried s (place_before None) reset x
anew-end s reset x y from rules full none h =
    elim (cases_lt from (length s.resources)) [
      | inl less ↦ anew-all s reset x y (length s.resources) rules full (omega arith) (anew-jump s reset x y from (length s.resources) (omega (arith, less)) (λ r past under. none r past) h)
      | inr over ↦ anew-all s reset x y from rules full over h
    ]
