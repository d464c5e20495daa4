-- The leads that a clock may have had over a trace, as they are kept for each source.
use Rattle.std.specs.Prelude.{◌<◌, ◌≤◌, ℕ, ◌+◌, ◌%◌, Bool, ◌&&◌, nat_le, List, is_some}
use Rattle.std.specs.List.{list_all}
use Rattle.cpa_units.specs.declared.limits.TheConstants.{MAX_PERIOD, MAX_JITTER}
use Rattle.cpa_model.specs.declared.entries.Source.{Source}
use Rattle.cpa_trace.specs.declared.leads.Leads.{Leads}
use Rattle.cpa_trace.specs.Breaches.{first_below, fits_lead}

-- numbers with which can be computed
pub record AreLeads (a : Leads) : Type 0 where
  pub some : 0 < a.period
  pub short : a.period ≤ MAX_PERIOD
  pub rest : a.rest < a.period
  pub room : a.room ≤ MAX_JITTER

-- whether a lead is one of them
abbrev pub allows : ℕ → Leads → Bool
allows lead a = nat_le ((a.rest + lead) % a.period) a.room

-- whether a lead is among the source's own and among all others
abbrev pub allowed_by : Leads → List Leads → ℕ → Bool
allowed_by own others lead = allows lead own && list_all (allows lead) others

-- whether some lead is among all others, and by it the first events of a source come, so many
abbrev pub leaves_with : Source → List ℕ → List Leads → ℕ → ℕ → Bool
leaves_with r times others cycle count = is_some (first_below (λ lead. fits_lead r times lead count && list_all (allows lead) others) cycle)
