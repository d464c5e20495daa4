-- What is known of what is planned.
use Rattle.std.proofs.Common.{◌≡◌, ℕ, List, refl, ap, subst}
use Rattle.cpa_units.specs.declared.limits.TheConstants.{MAX_LARGE_FILE}
use Rattle.cpa_model.specs.SystemLists.{SystemLists}
use Rattle.cpa_model.specs.Rules.{IsSystem}
use Rattle.cpa_file.specs.Reading.{Reading, NotToml, TooLong, Refused, Accepted, file_reading_of}
use Rattle.cpa_file.proofs.ReadingLaws.{file-is_system}
use Rattle.cpa_trace.specs.Trace.{TraceLists}
use Rattle.cpa_call.specs.declared.loading.Traced.{Traced}
use Rattle.cpa_call.specs.Plans.{Held, Plan, Do, Refuse, Missing, and_then, content_in, system_by, system_in, trace_in, traced, traced_in}

pub done-same : {A : Type 0} (a b : A) → Do a ≡ Do b → a ≡ b
done-same a b e = cc

-- what is done in the end was done step by step
pub then-done : {A B : Type 0} (p : Plan A) (next : A → Plan B) (b : B) → and_then p next ≡ Do b → (a : A) × (p ≡ Do a) × (next a ≡ Do b)
then-done (Do a) next b e = (a, refl, e)
then-done (Refuse status line) next b e = let no : ⊥ = cc in absurd no
then-done Missing next b e = let no : ⊥ = cc in absurd no

read-system : (file : List ℕ) (r : Reading) (s : SystemLists) → system_by file r ≡ Do s → r ≡ Accepted s
read-system file NotToml s e = cc
read-system file TooLong s e = cc
read-system file (Refused r) s e = cc
read-system file (Accepted t) s e = ap Accepted (done-same t s e)

-- a system that a file stands for keeps the rules
pub planned-system : (held : Held) (file : List ℕ) (s : SystemLists) → system_in held file ≡ Do s → IsSystem s
planned-system held file s e =
    let h = then-done (content_in held file MAX_LARGE_FILE) (λ bytes. system_by file (file_reading_of bytes)) s e in
    file-is_system h.0 s (read-system file (file_reading_of h.0) s h.2)

traced-system : (s : SystemLists) (tr : TraceLists) (t : Traced) → traced s tr ≡ Do t → s ≡ t.system
traced-system s tr t e = ap (λ (x : Traced). x.system) (done-same {A = Traced} (record { system = s; trace = tr }) t e)

-- and so with a trace
pub planned-traced : (held : Held) (file trace : List ℕ) (t : Traced) → traced_in held file trace ≡ Do t → IsSystem t.system
planned-traced held file trace t e =
    let h = then-done (system_in held file) (λ s. and_then (trace_in held s trace) (traced s)) t e in
    let k = then-done (trace_in held h.0 trace) (traced h.0) t h.2 in
    subst IsSystem (traced-system h.0 k.0 t k.2) (planned-system held file h.0 h.1)
