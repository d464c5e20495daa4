-- The lines of the refusals of words, systems and traces.
use Rattle.std.specs.Prelude.{ℕ, codes, List, [], ◌++◌}
use Rattle.std.specs.Fmt.{decimal}
use Rattle.cpa_draft.specs.declared.refusal.Refusal.{Refusal}
use Rattle.cpa_draft.specs.FaultTexts.{part_text}
use Rattle.cpa_model.specs.SystemLists.{SystemLists, resource_at, source_at, task_at}
use Rattle.cpa_trace.specs.declared.fault.TraceFault.{TraceFault}
use Rattle.cpa_trace.specs.declared.fault.TraceFault.TheVariants as trace
use Rattle.cpa_trace.specs.declared.breach.Breach.{Breach}
use Rattle.cpa_trace.specs.declared.breach.Breach.TheVariants as breach

abbrev pub words_refused : List ℕ
words_refused = codes "words refused\n"

abbrev pub cannot_read : List ℕ → List ℕ
cannot_read file = codes "cannot read " ++ file ++ codes "\n"

abbrev pub too_long : List ℕ → List ℕ
too_long file = codes "too long " ++ file ++ codes "\n"

abbrev pub not_toml : List ℕ → List ℕ
not_toml file = codes "not TOML " ++ file ++ codes "\n"

abbrev pub system_refused : Refusal → List ℕ
system_refused r = codes "system refused reason " ++ decimal r.reason ++ codes " " ++ part_text r.part ++ codes " " ++ decimal r.place ++ codes "\n"

abbrev pub row_refused : ℕ → List ℕ → List ℕ
row_refused row why = codes "trace refused row " ++ decimal row ++ why

-- out of memory has no line
abbrev pub trace_refused : TraceFault → List ℕ
trace_refused (trace.BadRow row) = row_refused row (codes " malformed\n")
trace_refused (trace.UnknownName row) = row_refused row (codes " name\n")
trace_refused (trace.OutOfRange row) = row_refused row (codes " range\n")
trace_refused trace.TooMany = codes "trace refused too many\n"
trace_refused trace.Memory = []

abbrev pub breach_text : SystemLists → Breach → List ℕ
breach_text s (breach.Close k first second) = codes "source " ++ (source_at s k.0).name ++ codes " times " ++ decimal first ++ codes " " ++ decimal second
breach_text s (breach.Exec i job) = codes "task " ++ (task_at s i.0).name ++ codes " job " ++ decimal job
breach_text s (breach.Phase r) = codes "resource " ++ (resource_at s r.0).name
breach_text s (breach.Clock k time) = codes "clock " ++ (source_at s k.0).name ++ codes " " ++ decimal time

abbrev pub trace_disobeys : SystemLists → Breach → List ℕ
trace_disobeys s b = codes "trace disobeys " ++ breach_text s b ++ codes "\n"
