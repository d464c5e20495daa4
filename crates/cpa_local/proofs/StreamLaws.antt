-- Which streams a bounded input has.
use Rattle.std.proofs.Common.{◌≡◌, ◌<◌, ℕ, zero, suc, List, [], ◌∷◌, ◌++◌, length, map, true, Option, Some, None, refl, sym, ap, ◌∙◌}
use Rattle.std.specs.List.{flat_map, list_any}
use Rattle.std.proofs.lemmas.Bool.{or_left, or_right}
use Rattle.std.proofs.lemmas.List.{get_or-map, map-append, length-map}
use Rattle.cpa_units.specs.declared.bound.Bound.{Bound}
use Rattle.cpa_units.specs.declared.bound.Bound.TheVariants.{Within, Overload}
use Rattle.cpa_units.specs.declared.limits.TheConstants.{MAX_CHAIN}
use Rattle.cpa_units.specs.declared.places.SourceId.{SourceId}
use Rattle.cpa_units.specs.Bounds.{bound_of}
use Rattle.cpa_events.specs.declared.stream.Stream.{Stream}
use Rattle.cpa_events.specs.Events.{Model}
use Rattle.cpa_events.proofs.ResponseLaws.{after_response-periods}
use Rattle.cpa_model.specs.declared.entries.Activator.{Activator}
use Rattle.cpa_model.specs.declared.entries.Activator.TheVariants.{Source as FromSource, Task as FromTask}
use Rattle.cpa_model.specs.declared.entries.Task.{Task}
use Rattle.cpa_model.specs.Chains.{streams_step, streams_within, activators}
use Rattle.cpa_model.specs.Rules.{IsSystem}
use Rattle.cpa_model.specs.SystemLists.{SystemLists, task_at, source_at, streams_of, is_task, no_task}
use Rattle.cpa_model.proofs.SystemLaws.{activated-there}
use Rattle.cpa_local.specs.Inputs.{output_of, sent_by, joined, sent_by_all, input_along, input}
use Rattle.cpa_local.proofs.SentLaws.{is_task-itself}

module _ (s : SystemLists) (x : List Bound) (rules : IsSystem s) where
  -- the streams of an input that is bounded have the periods of these sources
  abbrev pub HasPeriods : Option Model → List SourceId → Type 0
  HasPeriods None sources = Unit {0}
  HasPeriods (Some m) sources = map (λ (t : Stream). t.period) m ≡ map (λ (k : SourceId). (source_at s k.0).period) sources

  -- so there are as many
  pub periods-long : (m : Model) (sources : List SourceId) → HasPeriods (Some m) sources → length m ≡ length sources
  periods-long m sources h = sym (length-map m (λ (t : Stream). t.period)) ∙ ap length h ∙ length-map sources (λ (k : SourceId). (source_at s k.0).period)

  output-periods : (best : ℕ) (bound : Bound) (o : Option Model) (sources : List SourceId) → HasPeriods o sources → HasPeriods (output_of best bound o) sources
  output-periods best (Within bound) (Some m) sources h = after_response-periods m best bound ∙ h
  output-periods best (Within bound) None sources h = tt
  output-periods best Overload (Some m) sources h = tt
  output-periods best Overload None sources h = tt

  joined-periods : (o p : Option Model) (first second : List SourceId) → HasPeriods o first → HasPeriods p second → HasPeriods (joined o p) (first ++ second)
  joined-periods None p first second h k = tt
  joined-periods (Some m) None first second h k = tt
  joined-periods (Some m) (Some n) first second h k =
      map-append (λ (t : Stream). t.period) m n
      ∙ (ap (λ ps. ps ++ map (λ (t : Stream). t.period) n) h ∙ ap (λ ps. map (λ (c : SourceId). (source_at s c.0).period) first ++ ps) k)
      ∙ sym (map-append (λ (c : SourceId). (source_at s c.0).period) first second)

  pub sent-periods : (a : Activator) (f : ℕ → Option Model) (g : ℕ → List SourceId) → ((j : ℕ) → is_task j a ≡ true → HasPeriods (f j) (g j)) → HasPeriods (sent_by s x f a) (streams_step a g)
  sent-periods (FromSource k) f g each = refl
  sent-periods (FromTask j) f g each = output-periods (task_at s j.0).best (bound_of x j.0) (f j.0) (g j.0) (each j.0 (is_task-itself j.0))

  sent_all-periods : (after : List Activator) (f : ℕ → Option Model) (g : ℕ → List SourceId) → ((j : ℕ) → list_any (is_task j) after ≡ true → HasPeriods (f j) (g j))
      → HasPeriods (sent_by_all s x f after) (flat_map (λ a. streams_step a g) after)
  sent_all-periods [] f g each = refl
  sent_all-periods (a ∷ others) f g each =
      joined-periods (sent_by s x f a) (sent_by_all s x f others) (streams_step a g) (flat_map (λ b. streams_step b g) others)
      (sent-periods a f g (λ j e. each j (or_left _ _ e)))
      (sent_all-periods others f g (λ j e. each j (or_right _ _ e)))

  along-periods : (n i : ℕ) → i < length s.tasks → HasPeriods (input_along s x n i) (streams_within (activators s.tasks) n i)
  unfolding streams_within
  along-periods zero i h = tt
  along-periods (suc n) i h =
      rw (get_or-map (λ (t : Task). t.after) s.tasks i no_task [] h)
      (sent_all-periods (task_at s i).after (input_along s x n) (streams_within (activators s.tasks) n) (λ j e. along-periods n j (activated-there s rules i j h e)))

  pub input-periods : (i : ℕ) → i < length s.tasks → HasPeriods (input s x i) (streams_of s i)
  unfolding input
  input-periods i h = along-periods MAX_CHAIN i h

  pub input-follows : (i : ℕ) (m : Model) → i < length s.tasks → input s x i ≡ Some m → map (λ (t : Stream). t.period) m ≡ map (λ (k : SourceId). (source_at s k.0).period) (streams_of s i)
  input-follows i m h e = rw e at (input-periods i h)

  -- and as many as the task has
  pub input-long : (i : ℕ) (m : Model) → i < length s.tasks → input s x i ≡ Some m → length m ≡ length (streams_of s i)
  input-long i m h e = periods-long m (streams_of s i) (input-follows i m h e)
