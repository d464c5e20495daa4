-- Sets that grow to a cone.
use Rattle.std.proofs.Common.{◌≡◌, ℕ, zero, suc, ◌+◌, ◌<◌, ◌≤◌, ◌⊎◌, ◌↔◌, ◌||◌, ◌==◌, length, Bool, true, false, List, refl, sym, ◌∙◌, inl, inr, subst, arith}
use Rattle.std.proofs.lemmas.Bool.{cases_lt, cases_Bool, cases_eq, or_cases, or_left, or_right, eqb-true, eq-eqb}
use Rattle.cpa_model.specs.SystemLists.{SystemLists}
use Rattle.cpa_units.specs.Sets.{holds, Members}
use Rattle.cpa_model.specs.Rules.{IsSystem}
use Rattle.cpa_depend.specs.Cone.{Reads, InCone, start, reader, IsClosedUnder, IsWiderWithin}
use Rattle.cpa_depend.proofs.ChainLaws.{Reads-there}

-- the cone is within each set that has its start and every reader of a member
pub InCone-least : (s : SystemLists) (from within : ℕ → Type 0) → ((r : ℕ) → from r → within r)
    → ((r q : ℕ) → Reads s r q → within q → within r) → {r : ℕ} → InCone s from r → within r
InCone-least s from within has closed {r} (start e) = has r e
InCone-least s from within has closed {r} (reader {r = t} {q = q} reads h) = closed t q reads (InCone-least s from within has closed h)

-- what can reach a cone is in it
pub InCone-join : (s : SystemLists) (from wider : ℕ → Type 0) → ((r : ℕ) → wider r → InCone s from r) → {r : ℕ} → InCone s wider r → InCone s from r
InCone-join s from wider within h = InCone-least s wider (InCone s from) within (λ r q reads in_cone. reader reads in_cone) h

-- 1 for a place that is no member
abbrev pub not_in : Bool → ℕ
not_in true = 0
not_in false = 1

-- how many of the first places are no members
abbrev pub missing : List Bool → ℕ → ℕ
missing set zero = 0
missing set (suc n) = missing set n + not_in (holds set n)

not_in-le : (a b : Bool) → (a ≡ true → b ≡ true) → not_in b ≤ not_in a
not_in-le true b h = rw (h refl) (omega arith)
not_in-le false true h = omega arith
not_in-le false false h = omega arith

not_in-lt : (a b : Bool) → a ≡ false → b ≡ true → not_in b < not_in a
not_in-lt a b e f = rw (e, f) (omega arith)

pub missing-le : (set wider : List Bool) → ((r : ℕ) → Members set r → Members wider r) → (n : ℕ) → missing wider n ≤ missing set n
missing-le set wider all zero = omega arith
missing-le set wider all (suc n) =
    omega (arith, missing-le set wider all n, not_in-le (holds set n) (holds wider n) (all n))

pub missing-lt : (set wider : List Bool) → ((r : ℕ) → Members set r → Members wider r)
    → (r n : ℕ) → r < n → holds set r ≡ false → Members wider r → missing wider n < missing set n
missing-lt set wider all r zero lt off on = absurd (omega arith)
missing-lt set wider all r (suc n) lt off on =
    elim (cases_eq r n) [
      | inl here ↦
          let off_n : holds set n ≡ false = subst (λ (k : ℕ). holds set k ≡ false) here off in
          let on_n : holds wider n ≡ true = subst (λ (k : ℕ). holds wider k ≡ true) here on in
          omega (arith, missing-le set wider all n, not_in-lt (holds set n) (holds wider n) off_n on_n)
      | inr other ↦
          omega (arith, missing-lt set wider all r n (omega arith) off on, not_in-le (holds set n) (holds wider n) (all n))
    ]

-- a pass over the first resources, which has made `wider` of `set`
pub record IsPass (s : SystemLists) (set wider : List Bool) (grown : Bool) (place : ℕ) : Type 0 where
  pub all : (r : ℕ) → Members set r → Members wider r
  pub within : (r : ℕ) → Members wider r → InCone s (Members set) r
  pub more : grown ≡ true → (r : ℕ) × (r < length s.resources) × (holds set r ≡ false) × Members wider r
  pub same : grown ≡ false → (r : ℕ) → Members wider r → Members set r
  pub done : grown ≡ false → (r q : ℕ) → r < place → Reads s r q → Members set q → Members set r

pub pass-start : (s : SystemLists) (set : List Bool) → IsPass s set set false 0
pass-start s set =
    record {
      all = λ r m. m;
      within = λ r m. start m;
      more = λ e. absurd (let f : ⊥ = cc in f);
      same = λ e r m. m;
      done = λ e r q h. absurd (omega arith);
    }

-- a resource is left out that reads no member, or is one
pub pass-leave : (s : SystemLists) (set wider : List Bool) (grown : Bool) (place : ℕ)
    → Members wider place ⊎ ((q : ℕ) → Reads s place q → Members wider q → ⊥) → IsPass s set wider grown place → IsPass s set wider grown (place + 1)
pass-leave s set wider grown place why pass =
    record {
      all = pass.all;
      within = pass.within;
      more = pass.more;
      same = pass.same;
      done = λ e r q lt reads m. elim (cases_lt r place) [
        | inl before ↦ pass.done e r q before reads m
        | inr ge ↦
            let here : r ≡ place = omega arith in
            let reads_here : Reads s place q = subst (λ (k : ℕ). Reads s k q) here reads in
            elim why [
              | inl member ↦ subst (λ (k : ℕ). Members set k) (sym here) (pass.same e place member)
              | inr none ↦ absurd (none q reads_here (pass.all q m))
            ]
      ];
    }

not_before : (s : SystemLists) (set wider : List Bool) (grown : Bool) (place : ℕ) → holds wider place ≡ false → IsPass s set wider grown place → holds set place ≡ false
not_before s set wider grown place off pass =
    elim (cases_Bool (holds set place)) [
      | inl yes_set ↦ absurd (let both : true ≡ false = sym (pass.all place yes_set) ∙ off in let f : ⊥ = cc in f)
      | inr no_set ↦ no_set
    ]

-- a resource is added that reads a member
pub pass-add : (s : SystemLists) (set wider next : List Bool) (grown : Bool) (place q : ℕ) → place < length s.resources → holds wider place ≡ false → Reads s place q → Members wider q
    → ((r : ℕ) → holds next r ≡ (r == place || holds wider r)) → IsPass s set wider grown place → IsPass s set next true (place + 1)
pass-add s set wider next grown place q in_range off reads on with_place pass =
    let keep : (r : ℕ) → Members wider r → Members next r = λ r m. with_place r ∙ or_right _ _ m in
    record {
      all = λ r m. keep r (pass.all r m);
      within = λ r m. elim (or_cases _ _ (sym (with_place r) ∙ m)) [
        | inl same ↦ subst (λ (k : ℕ). InCone s (Members set) k) (sym (eqb-true r place same)) (reader reads (pass.within q on))
        | inr old ↦ pass.within r old
      ];
      more = λ e. (place, in_range, not_before s set wider grown place off pass, with_place place ∙ or_left _ _ (eq-eqb place place refl));
      same = λ e. absurd (let f : ⊥ = cc in f);
      done = λ e. absurd (let f : ⊥ = cc in f);
    }

-- what `widened` answers

pub pass-none : (s : SystemLists) (set wider : List Bool) → IsSystem s → IsPass s set wider false (length s.resources) → IsClosedUnder s set
pass-none s set wider rules pass r q reads member =
    elim (Reads-there s r q rules reads) [
      | inl same ↦ subst (λ (k : ℕ). Members set k) (sym same) member
      | inr both ↦ pass.done refl r q both.0 reads member
    ]

pub missing-wider : (s : SystemLists) (set wider : List Bool) → IsWiderWithin s set wider
    → missing wider (length s.resources) < missing set (length s.resources)
missing-wider s set wider h = let new = h.more in missing-lt set wider h.all new.0 (length s.resources) new.1 new.2 new.3

-- sets on the way from `from` to its cone
pub record IsGrown (s : SystemLists) (from set : List Bool) : Type 0 where
  pub all : (r : ℕ) → Members from r → Members set r
  pub within : (r : ℕ) → Members set r → InCone s (Members from) r

pub grown-more : (s : SystemLists) (from set wider : List Bool) → IsGrown s from set → IsWiderWithin s set wider → IsGrown s from wider
grown-more s from set wider grown h =
    record {
      all = λ r m. h.all r (grown.all r m);
      within = λ r m. InCone-join s (Members from) (Members set) grown.within (h.within r m);
    }

-- the end of all passes
pub cone-is : (s : SystemLists) (from set : List Bool) → IsGrown s from set → IsClosedUnder s set → (r : ℕ) → Members set r ↔ InCone s (Members from) r
cone-is s from set grown closed r = (grown.within r, λ h. InCone-least s (Members from) (Members set) grown.all closed h)

-- the cone of resources in range is in range
pub InCone-in_range : (s : SystemLists) (from : ℕ → Type 0) → IsSystem s → ((r : ℕ) → from r → r < length s.resources)
    → {r : ℕ} → InCone s from r → r < length s.resources
InCone-in_range s from rules low cone =
    InCone-least s from (λ r. r < length s.resources) low
    (λ r q reads q_low. elim (Reads-there s r q rules reads) [
      | inl same ↦ subst (λ (k : ℕ). k < length s.resources) (sym same) q_low
      | inr both ↦ both.0
    ]) cone
