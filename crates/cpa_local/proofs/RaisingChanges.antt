-- What asks for at least as much: a longer execution range, a denser source, a task more.
use Rattle.std.proofs.Common.{◌≡◌, ℕ, ◌<◌, ◌≤◌, length, true, List, [], ◌∷◌, set, refl, sym, ap, inl, inr, subst, arith, get_or-set_same, get_or-set_other}
use Rattle.std.proofs.lemmas.Bool.{cases_eq}
use Rattle.std.proofs.lemmas.List.{length-set, length_push, get_or_append_left}
use Rattle.cpa_clock.specs.Wider.{IsWiderOn}
use Rattle.cpa_model.specs.declared.entries.Source.{Source}
use Rattle.cpa_model.specs.declared.entries.Task.{Task}
use Rattle.cpa_model.specs.declared.entries.Activator.{Activator}
use Rattle.cpa_model.specs.declared.entries.Activator.TheVariants.{Source as FromSource, Task as FromTask}
use Rattle.cpa_model.specs.declared.locks.CriticalSection.{CriticalSection}
use Rattle.cpa_model.specs.Clocks.{is_clocked}
use Rattle.cpa_model.specs.SystemLists.{SystemLists, task_at, source_at, no_task}
use Rattle.cpa_model.specs.Streams.{source_stream}
use Rattle.cpa_model.specs.Changes.{with_task_at, with_exec, with_source, with_task}
use Rattle.cpa_local.specs.OnClocks.{source_anchor}
use Rattle.cpa_local.specs.Raising.{IsDenserActivator, IsLongerSection, IsRaisedTask, IsRaising}
use Rattle.cpa_local.proofs.WiderLaws.{wider_on-itself, each-itself, denser-itself}
use Rattle.cpa_local.proofs.SourceChanges.{cycle-kept, source-wider}

longer-itself : (c : CriticalSection) → IsLongerSection c c
longer-itself c = record { lock = refl; ticks = omega arith }

pub raised-same : (s t : SystemLists) (i : ℕ) → s.sources ≡ t.sources → task_at s i ≡ task_at t i → IsRaisedTask s t i
raised-same s t i sources same =
    record {
      res = ap (λ (v : Task). v.res.0) same;
      after = rw (← same) (each-itself (IsDenserActivator s t) denser-same (task_at s i).after);
      best = let e = ap (λ (v : Task). v.best) same in omega arith;
      worst = let e = ap (λ (v : Task). v.worst) same in omega arith;
      turn = ap (λ (v : Task). v.turn) same;
      region = let e = ap (λ (v : Task). v.region) same in omega arith;
      locks = rw (← same) (each-itself IsLongerSection longer-itself (task_at s i).locks);
    }
  where
    denser-same : (a : Activator) → IsDenserActivator s t a a
    denser-same (FromSource k) =
        subst (λ (sources : List Source). IsWiderOn (source_anchor s k.0) (source_anchor (record s { sources = sources }) k.0) (source_stream s k.0) (source_stream (record s { sources = sources }) k.0)) sources
        (wider_on-itself (source_anchor s k.0) (source_stream s k.0))
    denser-same (FromTask j) = refl

pub raising-exec : (s : SystemLists) (p best worst : ℕ) → best ≤ (task_at s p).best → (task_at s p).worst ≤ worst → IsRaising s (with_exec s p best worst)
unfolding with_exec
raising-exec s p best worst low high =
    record {
      resources = refl;
      sources = refl;
      cycles = λ c. refl;
      more = omega (arith, length-set s.tasks p (record (task_at s p) { best = best; worst = worst }));
      tasks = λ i less. elim (cases_eq i p) [
        | inl same ↦
            let less_p : p < length s.tasks = omega arith in
            let it : task_at (with_task_at s p (record (task_at s p) { best = best; worst = worst })) p ≡ record (task_at s p) { best = best; worst = worst } =
            get_or-set_same s.tasks p (record (task_at s p) { best = best; worst = worst }) no_task less_p in
            rw same (record {
              res = sym (ap (λ (v : Task). v.res.0) it);
              after = rw it (each-itself (IsDenserActivator s (with_task_at s p (record (task_at s p) { best = best; worst = worst }))) (denser-itself s) (task_at s p).after);
              best = let e = ap (λ (v : Task). v.best) it in omega arith;
              worst = let e = ap (λ (v : Task). v.worst) it in omega arith;
              turn = sym (ap (λ (v : Task). v.turn) it);
              region = let e = ap (λ (v : Task). v.region) it in omega arith;
              locks = rw it (each-itself IsLongerSection longer-itself (task_at s p).locks);
            })
        | inr other ↦
            raised-same s (with_task_at s p (record (task_at s p) { best = best; worst = worst })) i refl (sym (get_or-set_other s.tasks p i (record (task_at s p) { best = best; worst = worst }) no_task other))
      ];
    }

-- a source on a clock keeps its period
pub raising-source : (s : SystemLists) (k period jitter distance : ℕ) → period ≤ (source_at s k).period → (source_at s k).jitter ≤ jitter → distance ≤ (source_at s k).distance
    → (is_clocked (source_at s k) ≡ true → period ≡ (source_at s k).period) → IsRaising s (with_source s k period jitter distance)
unfolding with_source
raising-source s k period jitter distance shorter wider closer kept =
    record {
      resources = refl;
      sources = omega (arith, length-set s.sources k given);
      cycles = cycle-kept s k given refl kept;
      more = omega arith;
      tasks = λ i less. record { res = refl; after = each-itself (IsDenserActivator s (record s { sources = set s.sources k given })) by (task_at s i).after; best = omega arith; worst = omega arith; turn = refl; region = omega arith; locks = each-itself IsLongerSection longer-itself (task_at s i).locks };
    }
  where
    given : Source
    given = record (source_at s k) { period = period; jitter = jitter; distance = distance }

    by : (a : Activator) → IsDenserActivator s (record s { sources = set s.sources k given }) a a
    by (FromSource m) = source-wider s k given refl kept shorter wider closer m.0
    by (FromTask j) = refl

-- a task more is the last
pub raising-add : (s : SystemLists) (u : Task) → IsRaising s (with_task s u)
unfolding with_task
raising-add s u =
    record {
      resources = refl;
      sources = refl;
      cycles = λ c. refl;
      more = omega (arith, length_push s.tasks u);
      tasks = λ i less. raised-same s (with_task s u) i refl (sym (get_or_append_left s.tasks (u ∷ []) no_task i less));
    }
