-- A system that asks for at least as much as another: no task has a shorter execution range, a shorter region or a shorter critical section, no
-- source is sparser, and none on a clock has narrower intervals there.
use Rattle.std.specs.Prelude.{ℕ, ◌≡◌, ◌<◌, ◌≤◌, length}
use Rattle.std.specs.List.{AllZip}
use Rattle.cpa_clock.specs.Wider.{IsWiderOn}
use Rattle.cpa_model.specs.declared.entries.Activator.{Activator}
use Rattle.cpa_model.specs.declared.entries.Activator.TheVariants.{Source as FromSource, Task as FromTask}
use Rattle.cpa_model.specs.declared.locks.CriticalSection.{CriticalSection}
use Rattle.cpa_model.specs.Clocks.{clock_cycle}
use Rattle.cpa_model.specs.SystemLists.{SystemLists, task_at}
use Rattle.cpa_model.specs.Streams.{source_stream}
use Rattle.cpa_local.specs.OnClocks.{source_anchor}

-- A source that may send at least as densely, or the same task. A source on a clock is on the same one, with the same period, and the
-- intervals of its events have those before within them; another is on none.
abbrev pub IsDenserActivator : SystemLists → SystemLists → Activator → Activator → Type 0
IsDenserActivator s t (FromSource k) (FromSource m) = IsWiderOn (source_anchor s k.0) (source_anchor t m.0) (source_stream s k.0) (source_stream t m.0)
IsDenserActivator s t (FromTask j) (FromTask m) = j.0 ≡ m.0
IsDenserActivator s t (FromSource k) (FromTask m) = ⊥
IsDenserActivator s t (FromTask j) (FromSource m) = ⊥

-- a critical section of the same lock that is at least as long, wherever it begins: no bound depends on that
pub record IsLongerSection (c d : CriticalSection) : Type 0 where
  pub lock : c.lock ≡ d.lock
  pub ticks : c.length ≤ d.length

-- task i asks for at least as much as before
pub record IsRaisedTask (s t : SystemLists) (i : ℕ) : Type 0 where
  pub res : (task_at s i).res.0 ≡ (task_at t i).res.0
  pub after : AllZip (IsDenserActivator s t) (task_at s i).after (task_at t i).after
  pub best : (task_at t i).best ≤ (task_at s i).best
  pub worst : (task_at s i).worst ≤ (task_at t i).worst
  pub turn : (task_at s i).turn ≡ (task_at t i).turn
  pub region : (task_at s i).region ≤ (task_at t i).region
  pub locks : AllZip IsLongerSection (task_at s i).locks (task_at t i).locks

-- each task of s asks for at least as much in t, which may have more tasks at its end; both have the same clocks, with the same cycles
pub record IsRaising (s t : SystemLists) : Type 0 where
  pub resources : s.resources ≡ t.resources
  pub sources : length s.sources ≡ length t.sources
  pub cycles : (c : ℕ) → clock_cycle s c ≡ clock_cycle t c
  pub more : length s.tasks ≤ length t.tasks
  pub tasks : (i : ℕ) → i < length s.tasks → IsRaisedTask s t i
