-- What comes of the files that a call names, or why it is refused: the order of refusals.
use Rattle.std.specs.Prelude.{◌≡◌, ◌⊎◌, ℕ, Bool, true, nat_lt, if◌then◌else◌, List, length, Option, Some, None, Result, Ok, Err}
use Rattle.cpa_units.specs.declared.limits.TheConstants.{MAX_LARGE_FILE, MAX_TRACE_FILE}
use Rattle.cpa_model.specs.SystemLists.{SystemLists}
use Rattle.cpa_file.specs.Reading.{Reading, NotToml, TooLong, Refused, Accepted, file_reading_of}
use Rattle.cpa_trace.specs.declared.breach.Breach.{Breach}
use Rattle.cpa_trace.specs.declared.fault.TraceFault.{TraceFault}
use Rattle.cpa_trace.specs.Trace.{TraceLists}
use Rattle.cpa_trace.specs.Reading.{trace_of}
use Rattle.cpa_trace.specs.Breaches.{first_breach}
use Rattle.cpa_call.specs.declared.loading.Traced.{Traced}
use Rattle.cpa_call.specs.Lines.{too_long, not_toml, system_refused, trace_refused, trace_disobeys}

-- files, as the bytes that are held under each name
abbrev pub Held : Type 0
Held = List ℕ → Option (List ℕ)

pub data Plan (A : Type 0) : Type 0 where
  -- all that is read is accepted
  Do : A → Plan A
  -- the first refusal: its status and its line
  Refuse : ℕ → List ℕ → Plan A
  -- a file in turn isn't held: no status, but for a fault
  Missing : Plan A

-- what is planned next, where all before is accepted
abbrev pub and_then : {A B : Type 0} → Plan A → (A → Plan B) → Plan B
and_then (Do it) next = next it
and_then (Refuse status line) next = Refuse status line
and_then Missing next = Missing

-- a file of at most so many bytes
abbrev pub content_by : List ℕ → ℕ → Option (List ℕ) → Plan (List ℕ)
content_by file most None = Missing
content_by file most (Some bytes) = if nat_lt most (length bytes) then Refuse 12 (too_long file) else Do bytes

abbrev pub content_in : Held → List ℕ → ℕ → Plan (List ℕ)
content_in held file most = content_by file most (held file)

-- the system that a file stands for, which has no more bytes than its format allows
abbrev pub system_by : List ℕ → Reading → Plan SystemLists
system_by file NotToml = Refuse 13 (not_toml file)
system_by file TooLong = Refuse 12 (too_long file)
system_by file (Refused r) = Refuse 14 (system_refused r)
system_by file (Accepted s) = Do s

abbrev pub system_in : Held → List ℕ → Plan SystemLists
system_in held file = and_then (content_in held file MAX_LARGE_FILE) (λ bytes. system_by file (file_reading_of bytes))

-- the trace that a file is, where it obeys the system
abbrev pub unless_breach : SystemLists → TraceLists → Option Breach → Plan TraceLists
unless_breach s tr None = Do tr
unless_breach s tr (Some breach) = Refuse 17 (trace_disobeys s breach)

abbrev pub trace_by : SystemLists → Result TraceLists TraceFault → Plan TraceLists
trace_by s (Ok tr) = unless_breach s tr (first_breach s tr)
trace_by s (Err fault) = Refuse 16 (trace_refused fault)

abbrev pub trace_in : Held → SystemLists → List ℕ → Plan TraceLists
trace_in held s file = and_then (content_in held file MAX_TRACE_FILE) (λ bytes. trace_by s (trace_of s bytes))

-- a system, and a trace that obeys it: the system file is read first
abbrev pub traced : SystemLists → TraceLists → Plan Traced
traced s tr = Do (record { system = s; trace = tr })

abbrev pub traced_in : Held → List ℕ → List ℕ → Plan Traced
traced_in held file trace = and_then (system_in held file) (λ s. and_then (trace_in held s trace) (traced s))

-- a second file is loaded once the system file is accepted
abbrev pub IsAccepted : Held → List ℕ → Type 0
IsAccepted held file = (s : SystemLists) × (system_in held file ≡ Do s)

abbrev pub IsSecond : Bool → Held → List ℕ → List ℕ → List ℕ → Type 0
IsSecond told held file second last = (last ≡ file) ⊎ ((last ≡ second) × (told ≡ true → IsAccepted held file))
