-- Why the search may begin where it does, with the readings that are kept, and what is then dirty.
use Rattle.std.proofs.Common.{◌≡◌, ℕ, ◌<◌, ◌≤◌, ◌||◌, ◌↔◌, length, Bool, true, false, List, Option, Some, None, refl, sym, ap, ◌∙◌, inl, inr, ◌⊎◌, subst, arith}
use Rattle.std.proofs.lemmas.Bool.{cases_lt, cases_Bool, lt-ltb, le-ltb, or_cases, or_left, or_right}
use Rattle.std.proofs.lemmas.List.{get_or_past}
use Rattle.std.proofs.lemmas.List.FromFn.{length-map-range_with_len}
use Rattle.cpa_units.specs.declared.bound.Bound.{Bound}
use Rattle.cpa_units.specs.declared.bound.Bound.TheVariants.{Within}
use Rattle.cpa_units.specs.declared.limits.TheConstants.{MAX_LIMIT}
use Rattle.cpa_units.specs.Bounds.{IsAtMost, IsNowhereAbove, bound_of}
use Rattle.cpa_units.specs.Sets.{holds, Members}
use Rattle.cpa_units.proofs.BoundLaws.{IsAtMost_refl, IsAtMost_trans, zero_at_most}
use Rattle.cpa_model.specs.SystemLists.{SystemLists, task_at, no_task}
use Rattle.cpa_model.specs.Rules.{IsSystem, IsTask}
use Rattle.cpa_local.specs.Local.{response}
use Rattle.cpa_local.specs.Solution.{IsVector, least_of}
use Rattle.cpa_local.specs.Trails.{Marks, NewMarksAre, AreMarked}
use Rattle.cpa_local.proofs.VectorLaws.{bound_of-places}
use Rattle.cpa_local.proofs.SolutionLaws.{least_of-is_least}
use Rattle.cpa_local.proofs.TrailLaws.{NewMarks-weaker}
use Rattle.cpa_depend.specs.Cone.{Reads, itself, earlier, InCone, start, reader}
use Rattle.cpa_depend.proofs.ChainLaws.{Reads-parts}
use Rattle.cpa_depend.proofs.ConeLaws.{InCone-least}
use Rattle.cpa_fix.specs.declared.readings.Reading.{Reading}
use Rattle.cpa_fix.specs.Readings.{IsSound, IsClean, reading_of, HasCleanReading, IsDirty, IsSolved}
use Rattle.cpa_local.specs.Rising.{TasksOn}
use Rattle.cpa_fix.specs.Rounds.{MayStart}
use Rattle.cpa_local.specs.Raising.{IsRaising}
use Rattle.cpa_session.specs.Spared.{place_before, IsSpared, AgreeApart}
use Rattle.cpa_session.specs.Carried.{IsReached, carried_bound, carried, IsBeginning, carried_reading, AreCarried}
use Rattle.cpa_session.proofs.SparedLaws.{IsReach, unread, same_task, leads_before, response_same}
use Rattle.cpa_local.proofs.RaisedLaws.{least_up}
use Rattle.cpa_session.proofs.LeastLaws.{least_same}

-- ---- vectors

pub long-carried : (t : SystemLists) (was : ℕ → ℕ) (reset : List Bool) (x : List Bound) → length (carried t was reset x) ≡ length t.tasks
long-carried t was reset x = length-map-range_with_len (carried_bound t was reset x) 0 (length t.tasks)

past-carried : (t : SystemLists) (was : ℕ → ℕ) (reset : List Bool) (x : List Bound) (i : ℕ) → length t.tasks ≤ i → bound_of (carried t was reset x) i ≡ Within 0
past-carried t was reset x i past = get_or_past (carried t was reset x) i (Within 0) (omega (arith, long-carried t was reset x))

-- a task that begins with its least execution
pub carried-floor : (t : SystemLists) (was : ℕ → ℕ) (reset : List Bool) (x : List Bound) (i : ℕ) → i < length t.tasks → Members reset (task_at t i).res.0 ⊎ (length x ≤ was i)
    → bound_of (carried t was reset x) i ≡ Within (task_at t i).best
carried-floor t was reset x i less (inl on) = bound_of-places t (carried_bound t was reset x) i less ∙ rw on refl
carried-floor t was reset x i less (inr past) =
    bound_of-places t (carried_bound t was reset x) i less ∙ rw (le-ltb (was i) (length x) past, or_right (holds reset (task_at t i).res.0) true refl) refl

-- and one that keeps its bound
pub carried-kept : (t : SystemLists) (was : ℕ → ℕ) (reset : List Bool) (x : List Bound) (i : ℕ) → i < length t.tasks → holds reset (task_at t i).res.0 ≡ false → was i < length x
    → bound_of (carried t was reset x) i ≡ bound_of x (was i)
carried-kept t was reset x i less off there =
    bound_of-places t (carried_bound t was reset x) i less ∙ rw (off, lt-ltb (was i) (length x) there) refl

small-best : (t : SystemLists) (i : ℕ) → IsSystem t → i < length t.tasks → (task_at t i).best ≤ MAX_LIMIT
small-best t i rules less = let entry : IsTask t (task_at t i) = rules.tasks i no_task less in omega (arith, entry.ordered, entry.worst)

module _ (s t : SystemLists) (touched reached : List Bool) (was : ℕ → ℕ) (h : IsReach s t touched reached was) where
  carried-apart : (x : List Bound) → length x ≡ length s.tasks → AgreeApart t reached was x (carried t was reached x)
  carried-apart x long i less off =
      let it = same_task s t touched reached was h i less off in
      sym (carried-kept t was reached x i less off (omega (arith, it.there)))

  -- what is carried of a vector is a vector
  carried-vector : (x : List Bound) → IsVector s x → IsVector t (carried t was reached x)
  carried-vector x vector =
      record {
        long = long-carried t was reached x;
        low = λ i less. elim (cases_Bool (holds reached (task_at t i).res.0)) [
          | inl on ↦ rw (carried-floor t was reached x i less (inl on)) (omega arith)
          | inr off ↦
              let it = same_task s t touched reached was h i less off in
              rw (← carried-apart x vector.long i less off, ← it.best) (vector.low (was i) it.there)
        ];
        high = λ i less. elim (cases_Bool (holds reached (task_at t i).res.0)) [
          | inl on ↦ rw (carried-floor t was reached x i less (inl on)) (small-best t i h.rules less)
          | inr off ↦
              let it = same_task s t touched reached was h i less off in
              rw (← carried-apart x vector.long i less off) (vector.high (was i) it.there)
        ];
      }

  -- the old bounds where nothing can be reached, and least executions elsewhere
  pub begin-low : IsSystem s → IsBeginning t reached was (least_of s) (carried t was reached (least_of s))
  begin-low rules =
      let old = (least_of-is_least s rules).vector in
      let new = (least_of-is_least t h.rules).vector in
      record {
        vector = carried-vector (least_of s) old;
        below = λ i. elim (cases_lt i (length t.tasks)) [
          | inl less ↦ elim (cases_Bool (holds reached (task_at t i).res.0)) [
            | inl on ↦ rw (carried-floor t was reached (least_of s) i less (inl on)) (new.low i less)
            | inr off ↦
                rw (← carried-apart (least_of s) old.long i less off, least_same s t touched reached was h i less off)
                (IsAtMost_refl (bound_of (least_of t) i))
          ]
          | inr past ↦ rw (past-carried t was reached (least_of s) i past) (zero_at_most (bound_of (least_of t) i))
        ];
        apart = carried-apart (least_of s) old.long;
      }

  -- ---- readings

  -- what can't be reached reads what it read
  reads_before : (r q : ℕ) → holds reached r ≡ false → Reads t r q → Reads s r q
  reads_before r q off reads =
      elim (Reads-parts t reads) [
        | inl same ↦ subst (λ (n : ℕ). Reads s r n) same itself
        | inr part ↦
            let i = part.0 in
            let early = part.3 in
            let off_i : holds reached (task_at t i).res.0 ≡ false = ap (holds reached) part.2 ∙ off in
            let leads = leads_before s t touched reached was h early.0 i early.1 part.1 off_i in
            let first = same_task s t touched reached was h early.0 leads.0 leads.1 in
            let last = same_task s t touched reached was h i part.1 off_i in
            subst (λ (n : ℕ). Reads s n q) (last.res ∙ part.2) (subst (λ (n : ℕ). Reads s (task_at s (was i)).res.0 n) (first.res ∙ early.2) (earlier leads.2))
      ]

  module _ (x begin : List Bound) (beginning : IsBeginning t reached was x begin) (r : ℕ) (off : holds reached r ≡ false) (seen : List Bound) (clean : IsClean s r seen x) where
    now : List Bound
    now = carried t was reached seen

    apart-now : AgreeApart t reached was seen now
    unfolding now
    apart-now = carried-apart seen clean.sound.vector.long

    below-now : IsNowhereAbove now begin
    unfolding now
    below-now i =
        elim (cases_lt i (length t.tasks)) [
          | inl less ↦ elim (cases_Bool (holds reached (task_at t i).res.0)) [
            | inl on ↦ rw (carried-floor t was reached seen i less (inl on)) (beginning.vector.low i less)
            | inr out ↦ rw (← apart-now i less out, ← beginning.apart i less out) (clean.sound.below (was i))
          ]
          | inr past ↦ rw (past-carried t was reached seen i past) (zero_at_most (bound_of begin i))
        ]

    answered-now : (i : ℕ) → i < length t.tasks → (task_at t i).res.0 ≡ r → IsAtMost (response t now i) (bound_of begin i)
    answered-now i less on =
        let out : holds reached (task_at t i).res.0 ≡ false = ap (holds reached) on ∙ off in
        let it = same_task s t touched reached was h i less out in
        rw (← response_same s t touched reached was h seen now apart-now i less out, ← beginning.apart i less out)
        (clean.sound.answered (was i) it.there (it.res ∙ on))

    current-now : (j : ℕ) → Reads t r (task_at t j).res.0 → bound_of now j ≡ bound_of begin j
    unfolding now
    current-now j reads =
        elim (cases_lt j (length t.tasks)) [
          | inl less ↦
              let out : holds reached (task_at t j).res.0 ≡ false = unread s t touched reached was h r (task_at t j).res.0 reads off in
              let it = same_task s t touched reached was h j less out in
              let before : Reads s r (task_at s (was j)).res.0 = subst (λ (n : ℕ). Reads s r n) (sym it.res) (reads_before r (task_at t j).res.0 off reads) in
              sym (apart-now j less out) ∙ clean.current (was j) before ∙ beginning.apart j less out
          | inr past ↦ past-carried t was reached seen j past ∙ sym (get_or_past begin j (Within 0) (omega (arith, beginning.vector.long)))
        ]

    -- a reading of what can't be reached stays clean
    pub reading_kept : IsClean t r (carried t was reached seen) begin
    unfolding now
    reading_kept =
        record {
          sound = record { vector = carried-vector seen clean.sound.vector; below = below-now; answered = answered-now };
          current = current-now;
        }

-- ---- after an edit that raises

module _ (s t : SystemLists) (touched reached none : List Bool) (h : IsReach s t touched reached (place_before None)) (up : IsRaising s t) (rules : IsSystem s) (empty : (r : ℕ) → holds none r ≡ false) where
  raised-kept : (i : ℕ) → i < length t.tasks → i < length (least_of s) → bound_of (carried t (place_before None) none (least_of s)) i ≡ bound_of (least_of s) i
  raised-kept i less there = carried-kept t (place_before None) none (least_of s) i less (empty (task_at t i).res.0) there

  -- the old bounds, and the least execution of what is new
  pub begin-raised : IsBeginning t reached (place_before None) (least_of s) (carried t (place_before None) none (least_of s))
  begin-raised =
      let old = (least_of-is_least s rules).vector in
      let new = (least_of-is_least t h.rules).vector in
      record {
        vector = record {
          long = long-carried t (place_before None) none (least_of s);
          low = λ i less. elim (cases_lt i (length (least_of s))) [
            | inl there ↦
                let in_s : i < length s.tasks = omega (arith, old.long) in
                rw (raised-kept i less there)
                (IsAtMost_trans (Within (task_at t i).best) (Within (task_at s i).best) (bound_of (least_of s) i) (up.tasks i in_s).best (old.low i in_s))
            | inr past ↦ rw (carried-floor t (place_before None) none (least_of s) i less (inr past)) (omega arith)
          ];
          high = λ i less. elim (cases_lt i (length (least_of s))) [
            | inl there ↦ let in_s : i < length s.tasks = omega (arith, old.long) in rw (raised-kept i less there) (old.high i in_s)
            | inr past ↦ rw (carried-floor t (place_before None) none (least_of s) i less (inr past)) (small-best t i h.rules less)
          ];
        };
        below = λ i. elim (cases_lt i (length t.tasks)) [
          | inl less ↦ elim (cases_lt i (length (least_of s))) [
            | inl there ↦ rw (raised-kept i less there) (least_up s t rules up i)
            | inr past ↦ rw (carried-floor t (place_before None) none (least_of s) i less (inr past)) (new.low i less)
          ]
          | inr past ↦ rw (past-carried t (place_before None) none (least_of s) i past) (zero_at_most (bound_of (least_of t) i))
        ];
        apart = λ i less off.
            let it = same_task s t touched reached (place_before None) h i less off in
            let there : i < length (least_of s) = omega (arith, old.long, it.there) in
            sym (raised-kept i less there);
      }

-- ---- what can be reached

-- the two cones together have every resource that reads a member
pub reach-from_cones : (s t : SystemLists) (touched before after reached : List Bool) (was : ℕ → ℕ) → IsSystem s → IsSystem t → IsSpared s t touched was
    → ((r : ℕ) → Members before r ↔ InCone s (Members touched) r) → ((r : ℕ) → Members after r ↔ InCone t (Members touched) r)
    → ((r : ℕ) → holds reached r ≡ (holds before r || holds after r)) → IsReach s t touched reached was
reach-from_cones s t touched before after reached was old_rules rules spared old_cone new_cone union =
    record {
      before = old_rules;
      rules = rules;
      spared = spared;
      wider = λ r on. from_after r ((new_cone r).1 (start on));
      closed = λ r q reads on. elim (or_cases (holds before q) (holds after q) (sym (union q) ∙ on)) [
        | inl old ↦ elim (cases_Bool (holds after r)) [
          | inl in_new ↦ from_after r in_new
          | inr off ↦ from_before r ((old_cone r).1 (reader (reads_before s t touched after was by_new r q off reads) ((old_cone q).0 old)))
        ]
        | inr new ↦ from_after r ((new_cone r).1 (reader reads ((new_cone q).0 new)))
      ];
    }
  where
    from_before : (r : ℕ) → Members before r → Members reached r
    from_before r on = union r ∙ or_left (holds before r) (holds after r) on

    from_after : (r : ℕ) → Members after r → Members reached r
    from_after r on = union r ∙ or_right (holds before r) (holds after r) on

    by_new : IsReach s t touched after was
    by_new =
        record {
          before = old_rules;
          rules = rules;
          spared = spared;
          wider = λ r on. (new_cone r).1 (start on);
          closed = λ r q reads on. (new_cone r).1 (reader reads ((new_cone q).0 on));
        }

-- and no other resource
pub reached-from_cones : (s t : SystemLists) (touched before after reached : List Bool)
    → ((r : ℕ) → Members before r ↔ InCone s (Members touched) r) → ((r : ℕ) → Members after r ↔ InCone t (Members touched) r)
    → ((r : ℕ) → holds reached r ≡ (holds before r || holds after r)) → (r : ℕ) → Members reached r ↔ IsReached s t (Members touched) r
reached-from_cones s t touched before after reached old_cone new_cone union r = (
  λ on. elim (or_cases (holds before r) (holds after r) (sym (union r) ∙ on)) [
    | inl old ↦ inl ((old_cone r).0 old)
    | inr new ↦ inr ((new_cone r).0 new)
  ],
  λ on. elim on [
    | inl old ↦ union r ∙ or_left (holds before r) (holds after r) ((old_cone r).1 old)
    | inr new ↦ union r ∙ or_right (holds before r) (holds after r) ((new_cone r).1 new)
  ],
)

-- ---- the search

module _ (s t : SystemLists) (touched reached : List Bool) (was : ℕ → ℕ) (h : IsReach s t touched reached was) (x : List Bound) (old : List (Option Reading)) (solved : IsSolved s x old)
    (begin : List Bound) (beginning : IsBeginning t reached was x begin) (new : List (Option Reading)) (kept : AreCarried t was reached old new) where
  many : length old ≡ length t.resources
  many = solved.sound.long ∙ ap length h.spared.resources

  none-at : (r : ℕ) → r < length t.resources → Members reached r → reading_of new r ≡ None
  none-at r less on = kept.each r (omega (arith, many)) ∙ ap (λ (b : Bool). carried_reading t was reached b (reading_of old r)) on

  -- what can't be reached is clean
  pub clean-at : (r : ℕ) → r < length t.resources → holds reached r ≡ false → HasCleanReading t new begin r
  clean-at r less off =
      let there : r < length s.resources = omega (arith, ap length h.spared.resources) in
      let before = solved.clean r there in
      let it : reading_of new r ≡ Some (record { seen = carried t was reached before.0.seen }) =
      kept.each r (omega (arith, many)) ∙ ap (λ (b : Bool). carried_reading t was reached b (reading_of old r)) off ∙ ap (carried_reading t was reached false) before.1 in
      (record { seen = carried t was reached before.0.seen }, it, reading_kept s t touched reached was h x begin beginning r off before.0.seen before.2)

  none≢some : (reading : Reading) → None ≡ Some reading → ⊥
  none≢some reading e = let f : ⊥ = cc in f

  sound-at : (r : ℕ) (reading : Reading) → reading_of new r ≡ Some reading → IsSound t r reading.seen begin
  sound-at r reading e =
      elim (cases_lt r (length t.resources)) [
        | inl less ↦ elim (cases_Bool (holds reached r)) [
          | inl on ↦ absurd (none≢some reading (sym (none-at r less on) ∙ e))
          | inr off ↦
              let it = clean-at r less off in
              let both : Some it.0 ≡ Some reading = sym it.1 ∙ e in
              let same : it.0 ≡ reading = cc in
              subst (λ (m : Reading). IsSound t r m.seen begin) same it.2.sound
        ]
        | inr past ↦ absurd (none≢some reading (sym (get_or_past new r None (omega (arith, kept.long, many))) ∙ e))
      ]

  -- one may start
  pub may_start : (trail : Marks) → length t.tasks ≤ trail.room → MayStart t begin new trail
  may_start trail room =
      record {
        vector = beginning.vector;
        below = beginning.below;
        sound = record { long = kept.long ∙ many; sound = sound-at };
        room = room;
      }

  dirty-reached : (r : ℕ) → IsDirty t new begin r → Members reached r
  dirty-reached r dirty =
      elim (cases_Bool (holds reached r)) [
        | inl on ↦ on
        | inr off ↦ absurd (dirty.1 (clean-at r dirty.0 off))
      ]

  reached-dirty : (r : ℕ) → r < length t.resources → Members reached r → IsDirty t new begin r
  reached-dirty r less on = (less, λ clean. none≢some clean.0 (sym (none-at r less on) ∙ clean.1))

  -- new marks are of tasks that can be reached
  pub marks_reached : (first last : Marks) → NewMarksAre first last (TasksOn t (InCone t (IsDirty t new begin))) → NewMarksAre first last (TasksOn t (Members reached))
  marks_reached first last fresh =
      NewMarks-weaker first last (TasksOn t (InCone t (IsDirty t new begin))) (TasksOn t (Members reached))
      (λ i on. (on.0, InCone-least t (IsDirty t new begin) (Members reached) dirty-reached (λ r q reads in_it. h.closed r q reads in_it) on.1)) fresh

  -- and all of these are marked
  pub reached_marked : (last : Marks) → AreMarked last (TasksOn t (IsDirty t new begin)) → AreMarked last (TasksOn t (Members reached))
  reached_marked last marked i on =
      let entry : IsTask t (task_at t i) = h.rules.tasks i no_task on.0 in
      marked i (on.0, reached-dirty (task_at t i).res.0 entry.placed on.1)
