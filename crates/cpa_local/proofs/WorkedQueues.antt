-- A worked system with a queue: all that may come at once is served first.
use Rattle.std.proofs.Common.{◌≡◌, ℕ, List, [], ◌∷◌, map, false, None, refl}
use Rattle.cpa_units.specs.declared.bound.Bound.{Bound}
use Rattle.cpa_units.specs.declared.bound.Bound.TheVariants.{Within}
use Rattle.cpa_units.specs.declared.limits.Size.TheVariants.{Large}
use Rattle.cpa_units.specs.Search.{least_from, greatest_to}
use Rattle.cpa_events.specs.Streams.{stream_delta_minus, stream_eta_plus}
use Rattle.cpa_events.specs.Events.{delta_minus, eta_plus}
use Rattle.cpa_window.specs.Windows.{window}
use Rattle.cpa_model.specs.declared.entries.Kind.TheVariants.{Fifo}
use Rattle.cpa_model.specs.declared.entries.Source.{Source}
use Rattle.cpa_model.specs.declared.entries.Activator.{Activator}
use Rattle.cpa_model.specs.declared.entries.Turn.TheVariants.{Queued}
use Rattle.cpa_model.specs.declared.entries.Task.{Task}
use Rattle.cpa_model.specs.SystemLists.{SystemLists}
use Rattle.cpa_local.specs.Inputs.{input}
use Rattle.cpa_local.specs.Local.{response, responses}
use Rattle.cpa_local.proofs.WorkedCases.{resource, from_source, from_task}

abbrev source : ℕ → ℕ → Source
source period jitter = record { name = []; period = period; jitter = jitter; distance = 0; sporadic = false; on_clock = None }

abbrev queued : ℕ → List Activator → ℕ → ℕ → Task
queued place after best worst =
    record { name = []; res = record { 0 = place }; after = after; best = best; worst = worst; turn = Queued; region = 1; locks = [] }

-- three tasks of a port, the second of which may come twice at once, and a task of the next port that the last one starts
ports : SystemLists
ports =
    record {
      size = Large;
      resources = map resource (Fifo ∷ Fifo ∷ []);
      sources = source 10 0 ∷ source 20 25 ∷ source 40 0 ∷ [];
      tasks = queued 0 (from_source 0) 1 2 ∷ queued 0 (from_source 1) 3 3 ∷ queued 0 (from_source 2) 4 4 ∷ queued 1 (from_task 2) 4 4 ∷ [];
      paths = [];
    }

abbrev ports_bounds : List Bound
ports_bounds = map Within (12 ∷ 12 ∷ 12 ∷ 4 ∷ [])

ports-fixed : responses ports ports_bounds ≡ ports_bounds
unfolding ports input response window stream_eta_plus eta_plus stream_delta_minus delta_minus least_from greatest_to
ports-fixed = refl
