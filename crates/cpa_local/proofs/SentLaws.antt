-- What several activators send, one after the other.
use Rattle.std.proofs.Common.{◌≡◌, ℕ, ◌==◌, true, List, [], ◌∷◌, Option, Some, None, refl, ap, ◌∙◌}
use Rattle.std.specs.List.{list_any}
use Rattle.std.proofs.lemmas.Bool.{or_left, or_right, eq-eqb}
use Rattle.std.proofs.lemmas.List.{map-append, append_assoc}
use Rattle.cpa_units.specs.declared.bound.Bound.{Bound}
use Rattle.cpa_units.specs.Bounds.{bound_of}
use Rattle.cpa_events.specs.Streams.{stream_later}
use Rattle.cpa_events.specs.Events.{Model}
use Rattle.cpa_model.specs.declared.entries.Activator.{Activator}
use Rattle.cpa_model.specs.declared.entries.Activator.TheVariants.{Source as FromSource, Task as FromTask}
use Rattle.cpa_model.specs.SystemLists.{SystemLists, task_at, is_task}
use Rattle.cpa_local.specs.Inputs.{output_of, sent_by, joined, sent_by_all}
use Rattle.cpa_local.specs.Gathered.{later_of}

-- a task is itself
pub is_task-itself : (j : ℕ) → (j == j) ≡ true
is_task-itself j = eq-eqb j j refl

-- ---- what is sent depends on the bounds and the inputs of the activators alone

module _ (s : SystemLists) (x y : List Bound) (f g : ℕ → Option Model) where
  abbrev AgreeOn : ℕ → Type 0
  AgreeOn j = (bound_of x j ≡ bound_of y j) × (f j ≡ g j)

  sent-same : (a : Activator) → ((j : ℕ) → is_task j a ≡ true → AgreeOn j) → sent_by s x f a ≡ sent_by s y g a
  sent-same (FromSource k) same = refl
  sent-same (FromTask j) same =
      let both = same j.0 (is_task-itself j.0) in
      ap (λ b. output_of (task_at s j.0).best b (f j.0)) both.0 ∙ ap (output_of (task_at s j.0).best (bound_of y j.0)) both.1

  pub sent_all-same : (after : List Activator) → ((j : ℕ) → list_any (is_task j) after ≡ true → AgreeOn j) → sent_by_all s x f after ≡ sent_by_all s y g after
  sent_all-same [] same = refl
  sent_all-same (a ∷ others) same =
      ap (λ o. joined o (sent_by_all s x f others)) (sent-same a (λ j e. same j (or_left _ _ e)))
      ∙ ap (joined (sent_by s y g a)) (sent_all-same others (λ j e. same j (or_right _ _ e)))

-- ---- streams one after the other

pub joined-assoc : (o p q : Option Model) → joined (joined o p) q ≡ joined o (joined p q)
joined-assoc None p q = refl
joined-assoc (Some m) None q = refl
joined-assoc (Some m) (Some n) None = refl
joined-assoc (Some m) (Some n) (Some k) = ap Some (append_assoc m n k)

pub later_of-joined : (late least : ℕ) (o p : Option Model) → later_of late least (joined o p) ≡ joined (later_of late least o) (later_of late least p)
later_of-joined late least None p = refl
later_of-joined late least (Some m) None = refl
later_of-joined late least (Some m) (Some n) = ap Some (map-append (stream_later late least) m n)
