-- What is written of a run is read back.
use Rattle.std.proofs.Common.{◌≡◌, ◌≢◌, ◌∙◌, ℕ, zero, suc, ◌+◌, ◌%◌, ◌<◌, ◌≤◌, ◌^◌, List, [], ◌∷◌, ◌++◌, length, map, get_or, Bool, true, false, ◌&&◌, nat_le, Some, None, Ok, refl, sym, ap, subst, inl, inr, arith, length-append, append_assoc}
use Rattle.std.specs.Prelude.{◌==◌, option_map, Contains}
use Rattle.std.specs.Fmt.{decimal}
use Rattle.std.specs.List.{flat_map, list_all, list_any, position_or_len}
use Rattle.std.specs.Str.{bytes_eq}
use Rattle.std.specs.Str.Parse.{digits_value}
use Rattle.std.proofs.lemmas.Bool.{cases_lt, cases_Bool, eqb-true, lt-ltb, le-ltb, cond-true, false≢true}
use Rattle.std.proofs.lemmas.Fmt.{decimal_by_steps, decimal_is_IsNumeral, length-decimal-le, decimal_nonempty}
use Rattle.std.proofs.lemmas.List.{append-nil, length-map, get_or-map, get_or-append-add}
use Rattle.std.proofs.lemmas.List.Sums.{passes_at_first, fails_before_first}
use Rattle.std.proofs.lemmas.Slice.Eq.{bytes_eq-Decides}
use Rattle.csv.specs.Machine.{next_record}
use Rattle.csv.specs.Reading.{default_config, records, records_from, strip_bom}
use Rattle.csv.specs.Writing.{default_writer, needs_byte, fields_text, is_blank, row_text as csv_row}
use Rattle.csv.specs.declared.parser.State.TheVariants as st
use Rattle.csv.proofs.RoundTrip.{read-write-many}
use Rattle.cpa_units.specs.declared.limits.TheConstants.{MAX_TRACE_ROWS, MAX_NAME, HORIZON}
use Rattle.cpa_units.specs.declared.places.TaskId.{TaskId}
use Rattle.cpa_units.specs.Digits.{is_digit, number_of}
use Rattle.cpa_units.specs.Name.{is_name_byte}
use Rattle.cpa_model.specs.declared.entries.Source.{Source}
use Rattle.cpa_model.specs.declared.entries.Task.{Task}
use Rattle.cpa_model.specs.SystemLists.{SystemLists, task_at, task_named, no_task}
use Rattle.cpa_model.specs.Rules.{IsSystem, activity_names}
use Rattle.cpa_trace.specs.Trace.{TraceLists}
use Rattle.cpa_sim.specs.Outcome.{is_over, end_of}
use Rattle.cpa_units.proofs.SearchLaws.{least_from-le}
use Rattle.cpa_audit.specs.Segments.{segments}
use Rattle.cpa_audit.proofs.AllLaws.{segments-are-all}
use Rattle.cpa_audit.specs.declared.schedule.Segment.{Segment}
use Rattle.cpa_audit.specs.ScheduleReading.{read_from, read_row, schedule_of}
use Rattle.cpa_audit.proofs.ListLaws.{head-in, tail-in}
use Rattle.cpa_segments.specs.Laws.{SchedulesReadBack}
use Rattle.cpa_segments.specs.Rows.{row_text, schedule_text}

-- ---- bytes that csv takes as they are

other : (f : ℕ → Bool) (b k : ℕ) → f b ≡ true → f k ≡ false → (b == k) ≡ false
other f b k is off = elim (cases_Bool (b == k)) [
  | inl same ↦ absurd (false≢true (sym off ∙ (ap f (sym (eqb-true b k same)) ∙ is)))
  | inr n ↦ n
]

plain-byte : (f : ℕ → Bool) → f 44 ≡ false → f 34 ≡ false → f 13 ≡ false → f 10 ≡ false → (b : ℕ) → f b ≡ true → needs_byte default_writer b ≡ false
plain-byte f comma quote cr lf b is = rw (other f b 44 is comma, other f b 34 is quote, other f b 13 is cr, other f b 10 is lf) refl

both : (a b : Bool) → (a && b) ≡ true → (a ≡ true) × (b ≡ true)
both true b e = (refl, e)
both false b e = absurd (false≢true e)

plain-all : (f : ℕ → Bool) → ((b : ℕ) → f b ≡ true → needs_byte default_writer b ≡ false) → (xs : List ℕ) → list_all f xs ≡ true → list_any (needs_byte default_writer) xs ≡ false
plain-all f plain [] e = refl
plain-all f plain (x ∷ xs) e =
    let h = both (f x) (list_all f xs) e in
    rw (plain x h.0) (plain-all f plain xs h.1)

digit-plain : (b : ℕ) → is_digit b ≡ true → needs_byte default_writer b ≡ false
digit-plain b is = plain-byte is_digit refl refl refl refl b is

name-plain : (b : ℕ) → is_name_byte b ≡ true → needs_byte default_writer b ≡ false
name-plain b is = plain-byte is_name_byte refl refl refl refl b is

-- ---- numbers

all-append : (f : ℕ → Bool) (xs ys : List ℕ) → list_all f xs ≡ true → list_all f ys ≡ true → list_all f (xs ++ ys) ≡ true
all-append f [] ys a b = b
all-append f (x ∷ xs) ys a b =
    let h = both (f x) (list_all f xs) a in
    rw h.0 (all-append f xs ys h.1 b)

le-leb : (a b : ℕ) → a ≤ b → nat_le a b ≡ true
le-leb a b h = grind arith

one-digit : (d : ℕ) → d < 10 → list_all is_digit ((48 + d) ∷ []) ≡ true
one-digit d low =
    let a : nat_le 48 (48 + d) ≡ true = le-leb 48 (48 + d) (omega arith) in
    let b : nat_le (48 + d) 57 ≡ true = le-leb (48 + d) 57 (omega arith) in
    rw (a, b) refl

digits-all : (n : ℕ) → n < 2 ^ 64 → list_all is_digit (decimal n) ≡ true
digits-all n low =
    decimal_by_steps (λ n ds. list_all is_digit ds ≡ true) one-digit
    (λ n ds more h. all-append is_digit ds ((48 + n % 10) ∷ []) h (one-digit (n % 10) (omega arith))) n low

number-back : (n : ℕ) → n ≤ HORIZON → number_of (decimal n) ≡ Some n
number-back n low =
    let wide : n < 2 ^ 64 = omega (arith, low) in
    let some : nat_le 1 (length (decimal n)) ≡ true = le-leb 1 (length (decimal n)) (omega (arith, decimal_nonempty n wide)) in
    let few : nat_le (length (decimal n)) 10 ≡ true = le-leb (length (decimal n)) 10 (length-decimal-le 10 n (omega arith) (omega (arith, low)) wide) in
    let value : digits_value 10 (decimal n) ≡ n = (decimal_is_IsNumeral n wide).1 in
    rw (some, few, digits-all n wide) (ap Some value)

-- ---- names

task-name : (s : SystemLists) (j : ℕ) → j < length s.tasks → get_or (activity_names s) (length s.sources + j) [] ≡ (task_at s j).name
task-name s j less =
    ap (λ n. get_or (activity_names s) (n + j) []) (sym (length-map s.sources (λ (r : Source). r.name)))
    ∙ get_or-append-add (map (λ (r : Source). r.name) s.sources) (map (λ (t : Task). t.name) s.tasks) j []
    ∙ get_or-map (λ (t : Task). t.name) s.tasks j no_task [] less

names-differ : (s : SystemLists) → IsSystem s → (i j : ℕ) → i < j → j < length s.tasks → (task_at s i).name ≢ (task_at s j).name
names-differ s rules i j less within same =
    let count : length (activity_names s) ≡ length s.sources + length s.tasks =
    length-append (map (λ (r : Source). r.name) s.sources) (map (λ (t : Task). t.name) s.tasks)
    ∙ rw (length-map s.sources (λ (r : Source). r.name), length-map s.tasks (λ (t : Task). t.name)) refl in
    rules.activity_names (length s.sources + i) (length s.sources + j) [] (omega (arith, less)) (omega (arith, count, within))
    (task-name s i (omega (arith, less, within)) ∙ (same ∙ sym (task-name s j within)))

name-back : (s : SystemLists) → IsSystem s → (i : TaskId) → i.0 < length s.tasks → task_named s (task_at s i.0).name ≡ Some i
name-back s rules i there =
    let name : List ℕ = (task_at s i.0).name in
    let p : Task → Bool = λ (t : Task). bytes_eq (task_at s i.0).name t.name in
    let found : ℕ = position_or_len (λ (t : Task). bytes_eq (task_at s i.0).name t.name) s.tasks in
    let here : bytes_eq (task_at s i.0).name (task_at s i.0).name ≡ true = (bytes_eq-Decides name name).1 refl in
    let low : found ≤ i.0 = elim (cases_lt i.0 found) [
      | inl past ↦ absurd (false≢true (sym (fails_before_first p s.tasks i.0 no_task past) ∙ here))
      | inr le ↦ le
    ] in
    let within : found < length s.tasks = omega (arith, low, there) in
    let same : found ≡ i.0 = elim (cases_lt found i.0) [
      | inl less ↦ absurd (names-differ s rules found i.0 less there (sym ((bytes_eq-Decides name (task_at s found).name).0 (passes_at_first p s.tasks no_task within))))
      | inr ge ↦ omega (arith, low, ge)
    ] in
    ap (option_map (λ k. record { 0 = k })) (cond-true _ (Some found) None (lt-ltb found (length s.tasks) within)) ∙ ap Some (λ k. record { 0 = same k })

-- ---- rows

-- what a schedule says of a segment, as far as reading goes
pub record IsReadable (s : SystemLists) (seg : Segment) : Type 0 where
  pub task : seg.task.0 < length s.tasks
  pub some : seg.start < seg.end
  pub within : seg.end ≤ HORIZON

abbrev fields_of : SystemLists → Segment → List (List ℕ)
fields_of s seg = (task_at s seg.task.0).name ∷ decimal seg.start ∷ decimal seg.end ∷ []

named-all : (s : SystemLists) → IsSystem s → (i : ℕ) → i < length s.tasks → list_all is_name_byte (task_at s i).name ≡ true
named-all s rules i there =
    let name : List ℕ = (task_at s i).name in
    let h = rules.tasks_named i no_task there in
    (both (nat_le 1 (length name) && nat_le (length name) MAX_NAME) (list_all is_name_byte name) h).1

-- a row, from the right
row_rest : Segment → List ℕ
row_rest seg = 44 ∷ (decimal seg.start ++ (44 ∷ (decimal seg.end ++ (10 ∷ []))))

row-right : (s : SystemLists) (seg : Segment) → row_text s seg ≡ (task_at s seg.task.0).name ++ row_rest seg
unfolding row_text row_rest
row-right s seg =
    let a : List ℕ = (task_at s seg.task.0).name in
    let c : List ℕ = 44 ∷ [] in
    let d : List ℕ = decimal seg.start in
    let e : List ℕ = decimal seg.end in
    let n : List ℕ = 10 ∷ [] in
    append_assoc (((a ++ c) ++ d) ++ c) e n ∙ (append_assoc ((a ++ c) ++ d) c (e ++ n) ∙ (append_assoc (a ++ c) d (c ++ (e ++ n)) ∙ append_assoc a c (d ++ (c ++ (e ++ n)))))

row-same : (s : SystemLists) → IsSystem s → (seg : Segment) → IsReadable s seg → row_text s seg ≡ csv_row default_writer (fields_of s seg)
unfolding fields_text is_blank row_rest
row-same s rules seg h =
    let name : List ℕ = (task_at s seg.task.0).name in
    let a : list_any (needs_byte default_writer) (task_at s seg.task.0).name ≡ false = plain-all is_name_byte name-plain name (named-all s rules seg.task.0 h.task) in
    let b : list_any (needs_byte default_writer) (decimal seg.start) ≡ false = plain-all is_digit digit-plain (decimal seg.start) (digits-all seg.start (omega (arith, h.some, h.within))) in
    let c : list_any (needs_byte default_writer) (decimal seg.end) ≡ false = plain-all is_digit digit-plain (decimal seg.end) (digits-all seg.end (omega (arith, h.within))) in
    let e3 : (decimal seg.end ++ []) ++ (10 ∷ []) ≡ decimal seg.end ++ (10 ∷ []) = ap (λ x. x ++ (10 ∷ [])) (append-nil (decimal seg.end)) in
    let e2 : (decimal seg.start ++ (44 ∷ (decimal seg.end ++ []))) ++ (10 ∷ []) ≡ decimal seg.start ++ (44 ∷ (decimal seg.end ++ (10 ∷ []))) =
    append_assoc (decimal seg.start) (44 ∷ (decimal seg.end ++ [])) (10 ∷ []) ∙ ap (λ x. decimal seg.start ++ (44 ∷ x)) e3 in
    let e1 : (name ++ (44 ∷ (decimal seg.start ++ (44 ∷ (decimal seg.end ++ []))))) ++ (10 ∷ []) ≡ name ++ (44 ∷ (decimal seg.start ++ (44 ∷ (decimal seg.end ++ (10 ∷ []))))) =
    append_assoc name (44 ∷ (decimal seg.start ++ (44 ∷ (decimal seg.end ++ [])))) (10 ∷ []) ∙ ap (λ x. name ++ (44 ∷ x)) e2 in
    rw (a, b, c) (row-right s seg ∙ sym e1)

row-long : (s : SystemLists) (seg : Segment) → 1 ≤ length (row_text s seg)
unfolding row_rest
row-long s seg =
    let rest : List ℕ = decimal seg.start ++ (44 ∷ (decimal seg.end ++ (10 ∷ []))) in
    let long : 1 ≤ length ((task_at s seg.task.0).name ++ (44 ∷ rest)) = omega (arith, length-append (task_at s seg.task.0).name (44 ∷ rest)) in
    subst (λ xs. 1 ≤ length xs) (sym (row-right s seg)) long

rows-long : (s : SystemLists) (segs : List Segment) → length segs ≤ length (flat_map (row_text s) segs)
rows-long s [] = omega arith
rows-long s (seg ∷ segs) = omega (arith, length-append (row_text s seg) (flat_map (row_text s) segs), row-long s seg, rows-long s segs)

abbrev pub AreReadable : SystemLists → List Segment → Type 0
AreReadable s [] = Unit {0}
AreReadable s (seg ∷ segs) = IsReadable s seg × AreReadable s segs

pub readable : (s : SystemLists) (segs : List Segment) → ((seg : Segment) → Contains segs seg → IsReadable s seg) → AreReadable s segs
readable s [] each = tt
readable s (seg ∷ segs) each = (each seg (head-in seg segs), readable s segs (λ x h. each x (tail-in seg segs x h)))

rows-read : (s : SystemLists) → IsSystem s → (segs : List Segment) (n : ℕ) → AreReadable s segs → length segs < n → records_from default_config n st.StartRecord (flat_map (row_text s) segs) ≡ map (fields_of s) segs
unfolding records_from next_record
rows-read s rules segs zero each less = absurd (omega arith)
rows-read s rules [] (suc n) each less = refl
rows-read s rules (seg ∷ segs) (suc n) each less =
    rw (row-same s rules seg each.0)
    (rw (read-write-many (task_at s seg.task.0).name (decimal seg.start) (decimal seg.end ∷ []) (flat_map (row_text s) segs))
    (ap (λ (t : List (List (List ℕ))). fields_of s seg ∷ t) (rows-read s rules segs n each.1 (omega (arith, less)))))

row-back : (s : SystemLists) → IsSystem s → (row : ℕ) (seg : Segment) → IsReadable s seg → read_row s row (fields_of s seg) ≡ Ok seg
row-back s rules row seg h =
    rw (number-back seg.start (omega (arith, h.some, h.within)), number-back seg.end h.within, name-back s rules seg.task h.task, lt-ltb seg.start seg.end h.some, le-leb seg.end HORIZON h.within) refl

all-back : (s : SystemLists) → IsSystem s → (segs : List Segment) (row : ℕ) (so_far : List Segment) → AreReadable s segs → row + length segs ≤ MAX_TRACE_ROWS + 1 → read_from s row so_far (map (fields_of s) segs) ≡ Ok (so_far ++ segs)
unfolding read_from
all-back s rules [] row so_far each few = ap Ok (sym (append-nil so_far))
all-back s rules (seg ∷ segs) row so_far each few =
    rw (le-ltb MAX_TRACE_ROWS row (omega (arith, few)), row-back s rules row seg each.0)
    (all-back s rules segs (row + 1) (so_far ++ seg ∷ []) each.1 (omega (arith, few)) ∙ ap Ok (append_assoc so_far (seg ∷ []) segs))

-- ---- no byte order mark

strip-head : (b : ℕ) (rest : List ℕ) → (b == 0xEF) ≡ false → strip_bom (b ∷ rest) ≡ b ∷ rest
unfolding strip_bom
strip-head b [] off = refl
strip-head b (c ∷ []) off = refl
strip-head b (c ∷ d ∷ rest) off = rw off refl

strip-name : (xs ys : List ℕ) → 1 ≤ length xs → list_all is_name_byte xs ≡ true → strip_bom (xs ++ ys) ≡ xs ++ ys
strip-name [] ys some all = absurd (omega (arith, some))
strip-name (b ∷ xs) ys some all = strip-head b (xs ++ ys) (other is_name_byte b 0xEF (both _ _ all).0 refl)

leb-le : (a b : ℕ) → nat_le a b ≡ true → a ≤ b
leb-le a b e = grind arith

named-some : (s : SystemLists) → IsSystem s → (i : ℕ) → i < length s.tasks → 1 ≤ length (task_at s i).name
named-some s rules i there =
    let h = rules.tasks_named i no_task there in
    let name : List ℕ = (task_at s i).name in
    leb-le 1 (length name) (both (nat_le 1 (length name)) (nat_le (length name) MAX_NAME) (both (nat_le 1 (length name) && nat_le (length name) MAX_NAME) (list_all is_name_byte name) h).0).0

strip-text : (s : SystemLists) → IsSystem s → (segs : List Segment) → AreReadable s segs → strip_bom (flat_map (row_text s) segs) ≡ flat_map (row_text s) segs
unfolding strip_bom
strip-text s rules [] each = refl
strip-text s rules (seg ∷ segs) each =
    let name : List ℕ = (task_at s seg.task.0).name in
    let tail : List ℕ = flat_map (row_text s) segs in
    let e : row_text s seg ++ flat_map (row_text s) segs ≡ (task_at s seg.task.0).name ++ (row_rest seg ++ flat_map (row_text s) segs) =
    ap (λ x. x ++ tail) (row-right s seg) ∙ append_assoc name (row_rest seg) tail in
    subst (λ xs. strip_bom xs ≡ xs) (sym e) (strip-name name (row_rest seg ++ tail) (named-some s rules seg.task.0 each.0.task) (named-all s rules seg.task.0 each.0.task))

text-is : (s : SystemLists) (segs : List Segment) → schedule_text s segs ≡ flat_map (row_text s) segs
unfolding schedule_text
text-is s segs = refl

pub schedule-back : (s : SystemLists) → IsSystem s → (segs : List Segment) → AreReadable s segs → length segs ≤ MAX_TRACE_ROWS → schedule_of s (schedule_text s segs) ≡ Ok segs
schedule-back s rules segs each few =
    let text : List ℕ = flat_map (row_text s) segs in
    let rows : records default_config (strip_bom (flat_map (row_text s) segs)) ≡ map (fields_of s) segs =
    ap (records default_config) (strip-text s rules segs each) ∙ rows-read s rules segs (length text + 1) each (omega (arith, rows-long s segs)) in
    ap (schedule_of s) (text-is s segs) ∙ (ap (read_from s 1 []) rows ∙ all-back s rules segs 1 [] each (omega (arith, few)))

-- ---- of a run

end-within : (s : SystemLists) (tr : TraceLists) → end_of s tr ≤ HORIZON
unfolding end_of
end-within s tr = omega (arith, least_from-le (is_over s tr) 0 HORIZON)

pub schedules-read-back : SchedulesReadBack
schedules-read-back s tr rules can few =
    let each = (segments-are-all s tr rules can).each in
    schedule-back s rules (segments s tr)
    (readable s (segments s tr) (λ seg h. let is = each seg h in record { task = is.task; some = is.some; within = omega (arith, is.within, end-within s tr) })) few
