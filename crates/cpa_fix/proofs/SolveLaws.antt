-- A search over dirty resources: what its rounds keep, why it ends, and what it leaves.
use Rattle.std.proofs.Common.{◌≡◌, nat_lt, ℕ, zero, suc, replicate, ◌+◌, ◌-◌, ◌*◌, ◌<◌, ◌≤◌, ◌⊎◌, ◌==◌, ◌||◌, length, Bool, true, false, List, Option, Some, None, refl, sym, ap, ◌∙◌, inl, inr, subst, arith}
use Rattle.std.specs.Bool.{OnFalse}
use Rattle.std.proofs.lemmas.Bool.{cases_lt, cases_eq, cases_Bool, eq-eqb, ne_eqb, false≢true, lt-ltb, ltb-true}
use Rattle.std.proofs.lemmas.List.Sums.{sum_by-le}
use Rattle.std.proofs.lemmas.List.Elements.{All-from_get_or}
use Rattle.cpa_units.specs.declared.bound.Bound.{Bound}
use Rattle.cpa_units.specs.declared.bound.Bound.TheVariants.{Within}
use Rattle.cpa_units.specs.Bounds.{IsNowhereAbove, RespectsLimit, bound_of}
use Rattle.cpa_model.specs.SystemLists.{SystemLists, task_at, no_task}
use Rattle.cpa_units.specs.declared.limits.TheConstants.{MAX_LIMIT}
use Rattle.cpa_local.specs.Solution.{IsVector}
use Rattle.std.proofs.lemmas.List.{length-replicate, get_or_past}
use Rattle.cpa_depend.proofs.ConeLaws.{InCone-least}
use Rattle.cpa_depend.proofs.ChainLaws.{Reads-there}
use Rattle.cpa_fix.specs.Readings.{AgreeOnReads}
use Rattle.cpa_fix.proofs.DependLaws.{clean_is_least}
use Rattle.cpa_fix.proofs.ReadingLaws.{risen, risen-same, clean_from_still}
use Rattle.cpa_local.proofs.SolutionLaws.{rank, rank-le}
use Rattle.cpa_units.specs.Sets.{holds, Members}
use Rattle.cpa_model.specs.Rules.{IsSystem, IsTask}
use Rattle.cpa_local.specs.Trails.{Marks, IsMarked, IsKept, NewMarksAre, AreMarked}
use Rattle.cpa_local.proofs.TrailLaws.{IsKept_refl, IsKept_trans, NewMarks_trans, NewMarks-weaker}
use Rattle.cpa_depend.specs.Cone.{InCone, start, reader, IsClosedUnder}
use Rattle.cpa_fix.specs.declared.readings.Reading.{Reading}
use Rattle.cpa_fix.specs.Readings.{reading_of, AreSound, HasCleanReading, AreCleanBeyond, IsDirty, IsSolved}
use Rattle.cpa_local.specs.Rising.{TasksOn, IsRisen}
use Rattle.cpa_fix.specs.Rounds.{MayStart, IsRound}
use Rattle.cpa_fix.specs.Stale.{IsStale, IsStaleSet, AreStale}
use Rattle.cpa_fix.proofs.RoundLaws.{MayStart-next}

pub OnFalse-weaker : {P Q : Type 0} (b : Bool) → (P → Q) → OnFalse b P → OnFalse b Q
OnFalse-weaker true f h = tt
OnFalse-weaker false f h = f h

pub clean_from_agree : (s : SystemLists) (kept : List (Option Reading)) (x : List Bound) (r : ℕ) (reading : Reading) → AreSound s kept x → reading_of kept r ≡ Some reading → AgreeOnReads s r reading.seen x → HasCleanReading s kept x r
clean_from_agree s kept x r reading sound e agree =
    (reading, e, record { sound = sound.sound r reading e; current = agree })

-- what is no member of the wider set is none of the other
pub not-member : (set wider : List Bool) (r : ℕ) → (Members set r → Members wider r) → holds wider r ≡ false → holds set r ≡ false
not-member set wider r up off =
    elim (cases_Bool (holds set r)) [
      | inl on ↦ absurd (false≢true (sym off ∙ up on))
      | inr out ↦ out
    ]

-- what is stale is dirty
pub stale-unclean : (s : SystemLists) (kept : List (Option Reading)) (x : List Bound) (r : ℕ) → IsStale s kept x r → HasCleanReading s kept x r → ⊥
stale-unclean s kept x r (inl none) clean = let both : None ≡ Some clean.0 = sym none ∙ clean.1 in cc
stale-unclean s kept x r (inr old) clean =
    let both : Some old.0 ≡ Some clean.0 = sym old.1 ∙ clean.1 in
    let same : clean.0.seen ≡ old.0.seen = cc in
    let differs = old.2 in
    let agree : bound_of clean.0.seen differs.0 ≡ bound_of x differs.0 = clean.2.current differs.0 differs.2 in
    differs.3 (sym (ap (λ (v : List Bound). bound_of v differs.0) same) ∙ agree)

-- the stale ones among the first resources
pub record IsStalePart (s : SystemLists) (kept : List (Option Reading)) (x : List Bound) (set : List Bool) (found : Bool) (place : ℕ) : Type 0 where
  pub some : found ≡ true → (r : ℕ) × (holds set r ≡ true)
  pub none : found ≡ false → (r : ℕ) → holds set r ≡ false
  pub stale : (r : ℕ) → holds set r ≡ true → (r < length s.resources) × IsStale s kept x r
  pub clean : (r : ℕ) → r < place → holds set r ≡ false → HasCleanReading s kept x r

pub part-start : (s : SystemLists) (kept : List (Option Reading)) (x : List Bound) (set : List Bool) → ((r : ℕ) → holds set r ≡ false) → IsStalePart s kept x set false 0
part-start s kept x set empty =
    record {
      some = λ e. absurd (let f : ⊥ = cc in f);
      none = λ e. empty;
      stale = λ r on. absurd (let both : true ≡ false = sym on ∙ empty r in let f : ⊥ = cc in f);
      clean = λ r h. absurd (omega arith);
    }

-- one more that is stale
pub part-add : (s : SystemLists) (kept : List (Option Reading)) (x : List Bound) (set next : List Bool) (found : Bool) (place : ℕ) → place < length s.resources → IsStale s kept x place → ((r : ℕ) → holds next r ≡ (r == place || holds set r)) → IsStalePart s kept x set found place → IsStalePart s kept x next true (place + 1)
part-add s kept x set next found place in_range stale all h =
    record {
      some = λ e. (place, all place ∙ (rw (eq-eqb place place refl) refl));
      none = λ e. absurd (false≢true (sym e));
      stale = λ r on. elim (cases_eq r place) [
        | inl same ↦ rw same (in_range, stale)
        | inr other ↦ h.stale r (let e = all r ∙ (rw (ne_eqb r place other) refl) in sym e ∙ on)
      ];
      clean = λ r lt off. elim (cases_eq r place) [
        | inl same ↦ absurd (false≢true (sym off ∙ (all r ∙ (rw (same, eq-eqb place place refl) refl))))
        | inr other ↦ h.clean r (omega arith) (let e = all r ∙ (rw (ne_eqb r place other) refl) in sym e ∙ off)
      ];
    }

-- one more that is clean
pub part-pass : (s : SystemLists) (kept : List (Option Reading)) (x : List Bound) (set : List Bool) (found : Bool) (place : ℕ) → HasCleanReading s kept x place → IsStalePart s kept x set found place → IsStalePart s kept x set found (place + 1)
part-pass s kept x set found place clean h =
    record {
      some = h.some;
      none = h.none;
      stale = h.stale;
      clean = λ r lt off. elim (cases_eq r place) [
        | inl same ↦ rw same clean
        | inr other ↦ h.clean r (omega arith) off
      ];
    }

-- what a round leaves dirty was dirty before it, or reads a resource that was
pub stale-reached : (s : SystemLists) (set : List Bool) (x y : List Bound) (a b : List (Option Reading)) (reached : ℕ → Type 0) (r : ℕ) → ((q : ℕ) → holds set q ≡ true → InCone s reached q) → ((q : ℕ) → q < length s.resources → holds set q ≡ false → HasCleanReading s a x q) → IsRound s (holds set) x y a b → r < length s.resources → IsStale s b y r → InCone s reached r
stale-reached s set x y a b reached r in_cone clean round in_range stale =
    elim (cases_Bool (holds set r)) [
      | inl on ↦ in_cone r on
      | inr off ↦
          let before = clean r in_range off in
          let kept : reading_of b r ≡ Some before.0 = round.same r off ∙ before.1 in
          elim stale [
            | inl none ↦ absurd (let both : None ≡ Some before.0 = sym none ∙ kept in let f : ⊥ = cc in f)
            | inr old ↦
                let both : Some old.0 ≡ Some before.0 = sym old.1 ∙ kept in
                let same : old.0.seen ≡ before.0.seen = cc in
                let differs = old.2 in
                let j = differs.0 in
                elim (cases_Bool (holds set (task_at s j).res.0)) [
                  | inl read_on ↦ reader differs.2 (in_cone (task_at s j).res.0 read_on)
                  | inr read_off ↦
                      let current : bound_of before.0.seen j ≡ bound_of x j = before.2.current j differs.2 in
                      let unmoved : bound_of y j ≡ bound_of x j = round.others j differs.1 read_off in
                      let seen : bound_of old.0.seen j ≡ bound_of before.0.seen j = ap (λ (v : List Bound). bound_of v j) same in
                      absurd (differs.3 (seen ∙ (current ∙ sym unmoved)))
                ]
          ]
    ]

-- where nothing rose in a round, every resource is clean after it
pub still-clean : (s : SystemLists) (set : List Bool) (x y : List Bound) (a b : List (Option Reading)) (r : ℕ) → x ≡ y → IsVector s y → ((q : ℕ) → q < length s.resources → holds set q ≡ false → HasCleanReading s a x q) → IsRound s (holds set) x y a b → r < length s.resources → HasCleanReading s b y r
still-clean s set x y a b r still vector clean round in_range =
    elim (cases_Bool (holds set r)) [
      | inl on ↦
          let reading = round.fresh r on in
          let up : IsNowhereAbove y reading.0.seen = subst (λ (v : List Bound). IsNowhereAbove v reading.0.seen) still reading.2 in
          (reading.0, reading.1, clean_from_still s r reading.0.seen y vector up (round.sound.sound r reading.0 reading.1))
      | inr off ↦
          let before = clean r in_range off in
          let kept : reading_of b r ≡ Some before.0 = round.same r off ∙ before.1 in
          (before.0, kept, record { sound = round.sound.sound r before.0 kept; current = subst (λ (v : List Bound). AgreeOnReads s r before.0.seen v) still before.2.current })
    ]

-- no vector rises further than this
abbrev pub top : List Bound → ℕ
top x = length x * (MAX_LIMIT + 1)

-- how far a vector can still rise
abbrev pub room : List Bound → ℕ
room x = top x - risen x

pub risen-le : (x : List Bound) → ((j : ℕ) → j < length x → RespectsLimit MAX_LIMIT (bound_of x j)) → risen x ≤ top x
risen-le x high = sum_by-le (rank MAX_LIMIT) (MAX_LIMIT + 1) x (All-from_get_or (λ b. rank MAX_LIMIT b ≤ MAX_LIMIT + 1) x (Within 0) (λ j k. rank-le MAX_LIMIT (bound_of x j) (high j k)))

-- 1 while something is dirty
abbrev pub pending : Option (List Bool) → ℕ
pending None = 0
pending (Some set) = 1

-- a place is a member of the set, if there is one
abbrev pub IsPending : Option (List Bool) → ℕ → Type 0
IsPending None r = ⊥
IsPending (Some set) r = Members set r

pending-le : (dirty : Option (List Bool)) → pending dirty ≤ 1
pending-le None = omega arith
pending-le (Some set) = omega arith

high-at : (s : SystemLists) (x : List Bound) → IsVector s x → (j : ℕ) → j < length x → RespectsLimit MAX_LIMIT (bound_of x j)
high-at s x vector j h = vector.high j (let k : j < length s.tasks = omega (arith, vector.long) in k)

none_pending : (s : SystemLists) (set : List Bool) (x y : List Bound) (a b : List (Option Reading)) (dirty : Option (List Bool)) → x ≡ y → IsVector s y → ((q : ℕ) → q < length s.resources → holds set q ≡ false → HasCleanReading s a x q) → IsRound s (holds set) x y a b → AreStale s b y dirty → pending dirty ≡ 0
none_pending s set x y a b None still vector clean round stale = refl
none_pending s set x y a b (Some next) still vector clean round stale =
    let r = stale.some.0 in
    let is_stale = stale.stale r stale.some.1 in
    absurd (stale-unclean s b y r is_stale.1 (still-clean s set x y a b r still vector clean round is_stale.0))

-- a round lets the vector rise, or leaves nothing dirty
pub round-smaller : (s : SystemLists) (set : List Bool) (x y : List Bound) (a b : List (Option Reading)) (dirty : Option (List Bool)) → IsVector s x → IsRisen s x y → IsStaleSet s a x set → IsRound s (holds set) x y a b → AreStale s b y dirty → 2 * room y + pending dirty < 2 * room x + 1
round-smaller s set x y a b dirty vector up first round stale =
    let long : length x ≡ length y = vector.long ∙ sym up.vector.long in
    let few = pending-le dirty in
    elim (cases_lt (risen x) (risen y)) [
      | inl more ↦
          let most = risen-le y (high-at s y up.vector) in
          rw long (omega arith)
      | inr no_more ↦
          let still : x ≡ y = risen-same x y long (high-at s x vector) up.up no_more in
          let none = none_pending s set x y a b dirty still up.vector first.clean round stale in
          rw still (omega arith)
    ]

-- a search that began at `start` with the readings `kept`
pub record IsSearch (s : SystemLists) (start : List Bound) (kept : List (Option Reading)) (old : Marks) (x : List Bound) (readings : List (Option Reading)) (dirty : Option (List Bool)) (trail : Marks) : Type 0 where
  pub rules : IsSystem s
  pub now : MayStart s x readings trail
  pub stale : AreStale s readings x dirty
  pub reached : (r : ℕ) → IsPending dirty r → InCone s (IsDirty s kept start) r
  pub held : IsKept old trail
  pub fresh : NewMarksAre old trail (TasksOn s (InCone s (IsDirty s kept start)))
  pub marked : (i : ℕ) → TasksOn s (IsDirty s kept start) i → IsMarked trail i ⊎ IsPending dirty (task_at s i).res.0

dirty-pending : (s : SystemLists) (kept : List (Option Reading)) (x : List Bound) (dirty : Option (List Bool)) (r : ℕ) → AreStale s kept x dirty → IsDirty s kept x r → IsPending dirty r
dirty-pending s kept x None r stale is_dirty = is_dirty.1 (stale r is_dirty.0)
dirty-pending s kept x (Some set) r stale is_dirty =
    elim (cases_Bool (holds set r)) [
      | inl on ↦ on
      | inr off ↦ absurd (is_dirty.1 (stale.clean r is_dirty.0 off))
    ]

pending-dirty : (s : SystemLists) (kept : List (Option Reading)) (x : List Bound) (dirty : Option (List Bool)) (r : ℕ) → AreStale s kept x dirty → IsPending dirty r → IsDirty s kept x r
pending-dirty s kept x None r stale on = absurd on
pending-dirty s kept x (Some set) r stale on = let it = stale.stale r on in (it.0, stale-unclean s kept x r it.1)

pub search-start : (s : SystemLists) (start_at : List Bound) (kept : List (Option Reading)) (old : Marks) (dirty : Option (List Bool)) → IsSystem s → MayStart s start_at kept old → AreStale s kept start_at dirty → IsSearch s start_at kept old start_at kept dirty old
search-start s start_at kept old dirty rules now stale =
    record {
      rules = rules;
      now = now;
      stale = stale;
      reached = λ r on. start (pending-dirty s kept start_at dirty r stale on);
      held = IsKept_refl old;
      fresh = λ i m. inl m;
      marked = λ i on. inr (dirty-pending s kept start_at dirty (task_at s i).res.0 stale on.1);
    }

stale-in_range : (s : SystemLists) (kept : List (Option Reading)) (x : List Bound) (dirty : Option (List Bool)) (r : ℕ) → AreStale s kept x dirty → IsPending dirty r → (r < length s.resources) × IsStale s kept x r
stale-in_range s kept x None r stale on = absurd on
stale-in_range s kept x (Some set) r stale on = stale.stale r on

-- new marks of a round lie in the cone
pub search-fresh : (s : SystemLists) (start_at : List Bound) (kept : List (Option Reading)) (old : Marks) (x : List Bound) (readings : List (Option Reading)) (set : List Bool) (trail next : Marks) → IsSearch s start_at kept old x readings (Some set) trail → NewMarksAre trail next (TasksOn s (Members set)) → NewMarksAre old next (TasksOn s (InCone s (IsDirty s kept start_at)))
search-fresh s start_at kept old x readings set trail next h fresh =
    NewMarks_trans old trail next (TasksOn s (InCone s (IsDirty s kept start_at))) h.fresh
    (NewMarks-weaker trail next (TasksOn s (Members set)) (TasksOn s (InCone s (IsDirty s kept start_at))) (λ i on. (on.0, h.reached (task_at s i).res.0 on.1)) fresh)

pub search-next : (s : SystemLists) (start_at : List Bound) (kept : List (Option Reading)) (old : Marks) (x y : List Bound) (a b : List (Option Reading)) (set : List Bool) (dirty : Option (List Bool)) (trail next : Marks) → IsSearch s start_at kept old x a (Some set) trail → IsRisen s x y → IsKept trail next → NewMarksAre trail next (TasksOn s (Members set)) → IsRound s (holds set) x y a b → AreMarked next (TasksOn s (Members set)) → AreStale s b y dirty → IsSearch s start_at kept old y b dirty next
search-next s start_at kept old x y a b set dirty trail next h risen held fresh round marked stale =
    record {
      rules = h.rules;
      now = MayStart-next s x y a b trail next h.now risen round.sound held;
      stale = stale;
      reached = λ r on.
          let at = stale-in_range s b y dirty r stale on in
          stale-reached s set x y a b (IsDirty s kept start_at) r h.reached h.stale.clean round at.0 at.1;
      held = IsKept_trans old trail next h.held held;
      fresh = search-fresh s start_at kept old x a set trail next h fresh;
      marked = λ i on. elim (h.marked i on) [
        | inl before ↦ inl (held.marks i before)
        | inr now ↦ inl (marked i (on.0, now))
      ];
    }

pub search-solved : (s : SystemLists) (start_at : List Bound) (kept : List (Option Reading)) (old : Marks) (x : List Bound) (readings : List (Option Reading)) (trail : Marks) → IsSearch s start_at kept old x readings None trail → IsSolved s x readings
search-solved s start_at kept old x readings trail h =
    record {
      least = clean_is_least s x h.rules h.now.vector h.now.below (λ r in_range. let it = h.stale r in_range in (it.0.seen, it.2));
      sound = h.now.sound;
      clean = h.stale;
    }

-- ---- the resources beyond a reach

not-both : (set wider : List Bool) (r : ℕ) → (Members set r → Members wider r) → holds wider r ≡ false → holds set r ≡ false
not-both set wider r up off =
    elim (cases_Bool (holds set r)) [
      | inl on ↦ absurd (let both : true ≡ false = sym (up on) ∙ off in let f : ⊥ = cc in f)
      | inr none ↦ none
    ]

-- what can only be reached by what is dirty at the start stays within the reach
pub pending-within : (s : SystemLists) (start_at : List Bound) (kept : List (Option Reading)) (reach : List Bool) → AreCleanBeyond s kept start_at reach → IsClosedUnder s reach → (r : ℕ) → InCone s (IsDirty s kept start_at) r → Members reach r
pending-within s start_at kept reach beyond closed r cone =
    InCone-least s (IsDirty s kept start_at) (Members reach)
    (λ q dirty. elim (cases_Bool (holds reach q)) [
      | inl on ↦ on
      | inr off ↦ absurd (dirty.1 (beyond q dirty.0 off))
    ])
    closed cone

-- a round over members leaves all others clean
pub beyond-round : (s : SystemLists) (reach set : List Bool) (x y : List Bound) (a b : List (Option Reading)) → IsClosedUnder s reach → ((r : ℕ) → Members set r → Members reach r) → IsVector s x → IsRisen s x y
    → ((q : ℕ) → q < length s.resources → holds set q ≡ false → HasCleanReading s a x q) → IsRound s (holds set) x y a b → AreCleanBeyond s b y reach
beyond-round s reach set x y a b closed within vector up clean round r in_range off =
    let set_off : holds set r ≡ false = not-both set reach r (within r) off in
    let before = clean r in_range set_off in
    let kept : reading_of b r ≡ Some before.0 = round.same r set_off ∙ before.1 in (
      before.0,
      kept,
      record {
        sound = round.sound.sound r before.0 kept;
        current = λ j reads. before.2.current j reads ∙ elim (cases_lt j (length s.tasks)) [
          | inl less ↦ sym (round.others j less (not-both set reach (task_at s j).res.0 (within (task_at s j).res.0)
              (elim (cases_Bool (holds reach (task_at s j).res.0)) [
                | inl on ↦ absurd (let both : true ≡ false = sym (closed r (task_at s j).res.0 reads on) ∙ off in let f : ⊥ = cc in f)
                | inr none ↦ none
              ])))
          | inr past ↦ get_or_past x j (Within 0) (omega (arith, vector.long)) ∙ sym (get_or_past y j (Within 0) (omega (arith, up.vector.long)))
        ];
      },
    )

-- all resources are a reach
pub all-closed : (s : SystemLists) (all : List Bool) → IsSystem s → ((r : ℕ) → holds all r ≡ nat_lt r (length s.resources)) → IsClosedUnder s all
all-closed s all rules is r q reads on =
    is r ∙ lt-ltb r (length s.resources) (elim (Reads-there s r q rules reads) [
      | inl same ↦ subst (λ (k : ℕ). k < length s.resources) (sym same) (ltb-true q (length s.resources) (sym (is q) ∙ on))
      | inr both ↦ both.0
    ])

pub none-beyond : (s : SystemLists) (kept : List (Option Reading)) (x : List Bound) (all : List Bool) → ((r : ℕ) → holds all r ≡ nat_lt r (length s.resources)) → AreCleanBeyond s kept x all
none-beyond s kept x all is r in_range off =
    absurd (false≢true (sym off ∙ (is r ∙ lt-ltb r (length s.resources) in_range)))

-- ---- where no reading is kept

pub nothing-kept : (n r : ℕ) → reading_of (replicate n None) r ≡ None
nothing-kept zero r = refl
nothing-kept (suc n) zero = refl
nothing-kept (suc n) (suc r) = nothing-kept n r

none-some : (reading : Reading) → None ≡ Some reading → ⊥
none-some reading e = cc

-- readings of no resource are sound at each vector
pub none-sound : (s : SystemLists) (x : List Bound) → AreSound s (replicate (length s.resources) None) x
none-sound s x =
    record {
      long = length-replicate (length s.resources) None;
      sound = λ r reading e. absurd (none-some reading (sym (nothing-kept (length s.resources) r) ∙ e));
    }

-- and all tasks are on dirty resources
pub all-dirty : (s : SystemLists) (x : List Bound) (i : ℕ) → IsSystem s → i < length s.tasks → TasksOn s (IsDirty s (replicate (length s.resources) None) x) i
all-dirty s x i rules less =
    let entry : IsTask s (task_at s i) = rules.tasks i no_task less in
    (less, (entry.placed, λ clean. none-some clean.0 (sym (nothing-kept (length s.resources) (task_at s i).res.0) ∙ clean.1)))
