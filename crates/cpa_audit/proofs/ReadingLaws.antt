-- Rows read one after the other.
use Rattle.std.proofs.Common.{◌≡◌, ◌∙◌, ℕ, ◌+◌, ◌<◌, ◌≤◌, ◌++◌, List, [], ◌∷◌, Ok, Err, refl, sym, ap}
use Rattle.std.proofs.lemmas.Bool.{le-ltb, lt-ltb}
use Rattle.cpa_units.specs.declared.limits.TheConstants.{MAX_TRACE_ROWS}
use Rattle.cpa_model.specs.SystemLists.{SystemLists}
use Rattle.cpa_audit.specs.declared.schedule.Segment.{Segment}
use Rattle.cpa_audit.specs.ScheduleReading.{read_row, or_more, read_from, IsFaultOf}
use Rattle.cpa_audit.specs.declared.fault.ScheduleFault.{ScheduleFault}
use Rattle.cpa_audit.specs.declared.fault.ScheduleFault.TheVariants as fault

module _ (s : SystemLists) (row : ℕ) (so_far : List Segment) (rows : List (List (List ℕ))) where
  pub read-end : rows ≡ [] → read_from s row so_far rows ≡ Ok so_far
  unfolding read_from
  read-end none = rw none refl

  pub read-next : (fields : List (List ℕ)) (rest : List (List (List ℕ))) → row ≤ MAX_TRACE_ROWS → rows ≡ fields ∷ rest
      → read_from s row so_far rows ≡ or_more (read_row s row fields) (λ seg. read_from s (row + 1) (so_far ++ seg ∷ []) rest)
  unfolding read_from
  read-next fields rest few next = rw (next, le-ltb MAX_TRACE_ROWS row few) refl

  pub read-more : (fields : List (List ℕ)) (rest : List (List (List ℕ))) (seg : Segment) → row ≤ MAX_TRACE_ROWS → rows ≡ fields ∷ rest → read_row s row fields ≡ Ok seg
      → read_from s (row + 1) (so_far ++ seg ∷ []) rest ≡ read_from s row so_far rows
  read-more fields rest seg few next ok = sym (read-next fields rest few next ∙ ap (λ r. or_more r (λ seg. read_from s (row + 1) (so_far ++ seg ∷ []) rest)) ok)

  pub read-past : (fields : List (List ℕ)) (rest : List (List (List ℕ))) → MAX_TRACE_ROWS < row → rows ≡ fields ∷ rest → read_from s row so_far rows ≡ Err fault.TooMany
  unfolding read_from
  read-past fields rest many next = rw (next, lt-ltb MAX_TRACE_ROWS row many) refl

  read-fault : (fields : List (List ℕ)) (rest : List (List (List ℕ))) (f : ScheduleFault) → row ≤ MAX_TRACE_ROWS → rows ≡ fields ∷ rest → read_row s row fields ≡ Err f
      → read_from s row so_far rows ≡ Err f
  read-fault fields rest f few next err = read-next fields rest few next ∙ ap (λ r. or_more r (λ seg. read_from s (row + 1) (so_far ++ seg ∷ []) rest)) err

  pub read-refused : (fields : List (List ℕ)) (rest : List (List (List ℕ))) (f : ScheduleFault) → row ≤ MAX_TRACE_ROWS → rows ≡ fields ∷ rest → IsFaultOf f (read_row s row fields)
      → IsFaultOf f (read_from s row so_far rows)
  read-refused fields rest fault.Memory few next is = tt
  read-refused fields rest (fault.BadRow k) few next is = read-fault fields rest (fault.BadRow k) few next is
  read-refused fields rest (fault.UnknownName k) few next is = read-fault fields rest (fault.UnknownName k) few next is
  read-refused fields rest (fault.OutOfRange k) few next is = read-fault fields rest (fault.OutOfRange k) few next is
  read-refused fields rest fault.TooMany few next is = read-fault fields rest fault.TooMany few next is
