-- Members of a list of activators.
use Rattle.std.proofs.Common.{◌≡◌, ℕ, suc, ◌<◌, ◌≤◌, Bool, true, List, [], ◌∷◌, ◌++◌, length, get_or, All, refl, ap, ◌∙◌, arith, inl, inr}
use Rattle.std.specs.List.{list_any, flat_map}
use Rattle.std.proofs.lemmas.Bool.{cases_Bool, false≢true, eqb-true, eq-eqb}
use Rattle.std.proofs.lemmas.List.{length-append}
use Rattle.std.proofs.lemmas.List.Elements.{All-append, All-nil, All-head, All-tail}
use Rattle.std.proofs.lemmas.List.Folds.{list_any_at}
use Rattle.cpa_model.specs.declared.entries.Activator.{Activator}
use Rattle.cpa_model.specs.declared.entries.Activator.TheVariants.{Source, Task}
use Rattle.cpa_model.specs.SystemLists.{is_source, is_task}

-- an activator stands in a list
pub record HasActivator (many : List Activator) (a : Activator) : Type 0 where
  pub place : ℕ
  pub within : place < length many
  pub here : (d : Activator) → get_or many place d ≡ a

-- it stands further on
has-more : (b : Activator) (many : List Activator) (a : Activator) → HasActivator many a → HasActivator (b ∷ many) a
has-more b many a has = record { place = suc has.place; within = omega (arith, has.within); here = λ d. has.here d }

-- what passes a test that a single activator passes
any-has : (test : Activator → Bool) (a : Activator) → ((b : Activator) → test b ≡ true → b ≡ a) → (many : List Activator) → list_any test many ≡ true → HasActivator many a
any-has test a one [] h = absurd (false≢true h)
any-has test a one (b ∷ many) h = elim (cases_Bool (test b)) [
  | inl passes ↦ record { place = 0; within = omega arith; here = λ d. one b passes }
  | inr fails ↦ has-more b many a (any-has test a one many (rw fails at h))
]

pub task-one : (j : ℕ) (b : Activator) → is_task j b ≡ true → b ≡ Task (record { 0 = j })
task-one j (Source k) h = absurd (false≢true h)
task-one j (Task i) h = ap (λ m. Task (record { 0 = m })) (eqb-true i.0 j h)

pub source-one : (k : ℕ) (b : Activator) → is_source k b ≡ true → b ≡ Source (record { 0 = k })
source-one k (Source i) h = ap (λ m. Source (record { 0 = m })) (eqb-true i.0 k h)
source-one k (Task j) h = absurd (false≢true h)

-- a task or a source that is among the activators has a place there
pub has-task : (j : ℕ) (many : List Activator) → list_any (is_task j) many ≡ true → HasActivator many (Task (record { 0 = j }))
has-task j many h = any-has (is_task j) (Task (record { 0 = j })) (task-one j) many h

pub has-source : (k : ℕ) (many : List Activator) → list_any (is_source k) many ≡ true → HasActivator many (Source (record { 0 = k }))
has-source k many h = any-has (is_source k) (Source (record { 0 = k })) (source-one k) many h

-- and what stands at a place is among them
pub task-among : (many : List Activator) (k j : ℕ) (d : Activator) → k < length many → get_or many k d ≡ Task (record { 0 = j }) → list_any (is_task j) many ≡ true
task-among many k j d less is = list_any_at (is_task j) many k d less (ap (is_task j) is ∙ eq-eqb j j refl)

pub source-among : (many : List Activator) (k j : ℕ) (d : Activator) → k < length many → get_or many k d ≡ Source (record { 0 = j }) → list_any (is_source j) many ≡ true
source-among many k j d less is = list_any_at (is_source j) many k d less (ap (is_source j) is ∙ eq-eqb j j refl)

-- what all activators have has each
pub has-each : (P : Activator → Type 0) (many : List Activator) (a : Activator) → All P many → HasActivator many a → P a
has-each P many a each has = rw (has.here a) at (each has.place a has.within)

-- what is joined over the activators

pub flat_map-same : {X Y : Type 0} (f g : X → List Y) (xs : List X) → All (λ x. f x ≡ g x) xs → flat_map f xs ≡ flat_map g xs
flat_map-same f g [] same = refl
flat_map-same f g (x ∷ xs) same =
    ap (λ ys. ys ++ flat_map f xs) (All-head (λ x. f x ≡ g x) x xs same) ∙ ap (λ ys. g x ++ ys) (flat_map-same f g xs (All-tail (λ x. f x ≡ g x) x xs same))

pub flat_map-all : {X Y : Type 0} (P : Y → Type 0) (f : X → List Y) (xs : List X) → All (λ x. All P (f x)) xs → All P (flat_map f xs)
flat_map-all P f [] each = All-nil P
flat_map-all P f (x ∷ xs) each =
    All-append P (f x) (flat_map f xs) (All-head (λ x. All P (f x)) x xs each) (flat_map-all P f xs (All-tail (λ x. All P (f x)) x xs each))

-- where each gives at least one, there are at least as many
pub flat_map-long : {X Y : Type 0} (f : X → List Y) (xs : List X) → All (λ x. 1 ≤ length (f x)) xs → length xs ≤ length (flat_map f xs)
flat_map-long f [] each = omega arith
flat_map-long f (x ∷ xs) each =
    let first = All-head (λ x. 1 ≤ length (f x)) x xs each in
    let rest = flat_map-long f xs (All-tail (λ x. 1 ≤ length (f x)) x xs each) in
    omega (arith, length-append (f x) (flat_map f xs))
