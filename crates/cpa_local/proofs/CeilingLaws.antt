-- What a ceiling says of the users of its lock: it is no less urgent than a priority just where a user with that priority, or a more urgent one,
-- is found among the tasks of the resource.
use Rattle.std.proofs.Common.{◌≡◌, ℕ, zero, suc, ◌+◌, ◌<◌, ◌≤◌, ◌&&◌, ◌||◌, nat_le, min, Bool, true, false, List, [], ◌∷◌, length, take, get_or, map, max, refl, sym, ap, ◌∙◌, inl, inr, arith}
use Rattle.std.specs.Prelude.{filter}
use Rattle.std.specs.List.{list_any, range_with_len}
use Rattle.std.proofs.lemmas.Bool.{cases_Bool}
use Rattle.std.proofs.lemmas.Bool.Decides.{nat_tests}
use Rattle.std.proofs.lemmas.List.{take_more, map-append}
use Rattle.std.proofs.lemmas.List.Folds.{list_any-append}
use Rattle.std.proofs.lemmas.List.Sums.{fold-append}
use Rattle.cpa_units.specs.declared.places.TaskId.{TaskId}
use Rattle.cpa_units.specs.declared.limits.TheConstants.{MAX_PRIORITY}
use Rattle.cpa_model.specs.declared.locks.CriticalSection.{CriticalSection}
use Rattle.cpa_model.specs.Locks.{uses_lock, ceiling_of, section_of, section_blocking, blocking_by_sections}
use Rattle.cpa_model.specs.SystemLists.{SystemLists, task_at, tasks_on, is_on, priority_of, places_of}
use Rattle.cpa_local.proofs.PlaceLists.{least_over}
use Rattle.cpa_local.proofs.RivalLaws.{take-places}

le-min : (a b p : ℕ) → nat_le (min a b) p ≡ (nat_le a p || nat_le b p)
le-min a b p = grind (arith, nat_tests)

or-assoc : (a b c : Bool) → ((a || b) || c) ≡ (a || (b || c))
or-assoc true b c = refl
or-assoc false b c = refl

and-none : (b : Bool) → (b && false) ≡ false
and-none true = refl
and-none false = refl

and-some : (b : Bool) → (b && true) ≡ b
and-some true = refl
and-some false = refl

-- the least of some numbers is at most p just where one of them is
pub least-reaches : (on uses test : ℕ → Bool) (number : ℕ → ℕ) (p most a n : ℕ) → ((j : ℕ) → a ≤ j → j < a + n → on j ≡ true → nat_le (number j) p ≡ test j)
    → nat_le (least_over number most (filter uses (filter on (range_with_len a n)))) p ≡ (nat_le most p || list_any (λ k. test k && uses k) (filter on (range_with_len a n)))
least-reaches on uses test number p most a zero h = sym (or-none (nat_le most p))
  where
    or-none : (b : Bool) → (b || false) ≡ b
    or-none true = refl
    or-none false = refl
least-reaches on uses test number p most a (suc n) h =
    let rest = λ (most : ℕ). least-reaches on uses test number p most (a + 1) n (λ j low high. h j (omega arith) (omega arith)) in
    elim (cases_Bool (on a)) [
      | inr fails ↦ rw fails (rest most)
      | inl passes ↦ elim (cases_Bool (uses a)) [
        | inr drops ↦ rw (passes, drops, and-none (test a)) (rest most)
        | inl counts ↦
            let here = h a (omega arith) (omega arith) passes in
            rw (passes, counts, and-some (test a))
            (rest (min most (number a)) ∙ ap (λ (b : Bool). b || list_any (λ k. test k && uses k) (filter on (range_with_len (a + 1) n))) (le-min most (number a) p ∙ ap (λ (b : Bool). nat_le most p || b) here)
            ∙ or-assoc (nat_le most p) (test a) (list_any (λ k. test k && uses k) (filter on (range_with_len (a + 1) n))))
      ]
    ]

-- whether a task has a priority, or a more urgent one, and uses a lock
abbrev pub is_user : SystemLists → ℕ → List ℕ → ℕ → Bool
is_user s p lock k = nat_le (priority_of (task_at s k).turn) p && uses_lock lock (task_at s k)

pub ceiling-users : (s : SystemLists) (r : ℕ) (lock : List ℕ) (p : ℕ) → nat_le (ceiling_of s r lock) p ≡ (nat_le MAX_PRIORITY p || list_any (is_user s p lock) (tasks_on s r))
ceiling-users s r lock p =
    least-reaches (is_on s r) (λ j. uses_lock lock (task_at s j)) (λ j. nat_le (priority_of (task_at s j).turn) p) (λ j. priority_of (task_at s j).turn) p MAX_PRIORITY 0 (length s.tasks) (λ j low high on. refl)

-- ---- users found one by one

pub any-at : (test : ℕ → Bool) (ids : List TaskId) (k : ℕ) (d : TaskId) → k < length ids → test (get_or ids k d).0 ≡ true → list_any test (places_of ids) ≡ true
any-at test [] k d less passes = absurd (omega (arith, less))
any-at test (t ∷ ids) zero d less passes = rw passes refl
any-at test (t ∷ ids) (suc k) d less passes = rw (any-at test ids k d (omega arith) passes) (or-some (test t.0))
  where
    or-some : (b : Bool) → (b || true) ≡ true
    or-some true = refl
    or-some false = refl

pub none-more : (test : ℕ → Bool) (ids : List TaskId) (k : ℕ) (d : TaskId) → k < length ids → list_any test (places_of (take k ids)) ≡ false → test (get_or ids k d).0 ≡ false
    → list_any test (places_of (take (k + 1) ids)) ≡ false
none-more test ids k d less none fails =
    ap (list_any test) (take-places ids k d less) ∙ list_any-append test (places_of (take k ids)) ((get_or ids k d).0 ∷ []) ∙ (rw (none, fails) refl)

-- ---- critical sections found one by one

-- the greatest by which some critical sections of task j block
abbrev pub blocking_of_some : SystemLists → ℕ → ℕ → List CriticalSection → ℕ
blocking_of_some s p j cs = blocking_by_sections p (task_at s j).worst (map (section_of s (task_at s j).res.0) cs)

pub some-more : (s : SystemLists) (p j : ℕ) (cs : List CriticalSection) (k : ℕ) (d : CriticalSection) → k < length cs
    → blocking_of_some s p j (take (k + 1) cs) ≡ max (blocking_of_some s p j (take k cs)) (section_blocking p (task_at s j).worst (section_of s (task_at s j).res.0 (get_or cs k d)))
some-more s p j cs k d less =
    ap (blocking_of_some s p j) (take_more cs k d less) ∙ ap (blocking_by_sections p (task_at s j).worst) (map-append (section_of s (task_at s j).res.0) (take k cs) (get_or cs k d ∷ []))
    ∙ fold-append (λ most x. max most (section_blocking p (task_at s j).worst x)) 0 (map (section_of s (task_at s j).res.0) (take k cs)) (section_of s (task_at s j).res.0 (get_or cs k d) ∷ [])
