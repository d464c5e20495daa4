-- The streams of jobs: each job has one of its task's, and those of an activator's jobs are as that hands them on.
use Rattle.std.proofs.Common.{◌≡◌, ℕ, zero, suc, ◌+◌, ◌<◌, ◌≤◌, List, [], ◌∷◌, length, Bool, true, false, eqb, is_some, ◌⊎◌, refl, sym, ◌∙◌, ap, subst, inl, inr, arith, get_or, length-append}
use Rattle.std.specs.Prelude.{◌||◌, All}
use Rattle.std.specs.List.{list_any, flat_map}
use Rattle.std.proofs.lemmas.Bool.{cases_eq, cases_Bool, eqb-true, eq-eqb, ne_eqb, false≢true}
use Rattle.std.proofs.lemmas.List.{get_or_append_left, get_or-append-add}
use Rattle.cpa_units.specs.declared.places.SourceId.{SourceId}
use Rattle.cpa_model.specs.declared.entries.Activator.{Activator}
use Rattle.cpa_model.specs.declared.entries.Activator.TheVariants.{Source, Task}
use Rattle.cpa_model.specs.Chains.{activators, depth_within, streams_step, streams_within}
use Rattle.cpa_model.specs.Rules.{IsSystem, IsTask, IsActivator}
use Rattle.cpa_model.proofs.SystemLaws.{activators_at, depth_within-activated}
use Rattle.cpa_model.specs.SystemLists.{SystemLists, task_at, no_task}
use Rattle.cpa_sim.specs.declared.jobs.Cause.{Cause}
use Rattle.cpa_sound.specs.Course.{Course}
use Rattle.cpa_sound.specs.JobStreams.{Causes, is_same, streams_before, handed_on, stream_within, origin_step, origin_within}
use Rattle.cpa_sound.proofs.Serving.{IsInOrder}
use Rattle.cpa_sound.proofs.Parts.{jobs_in, of_stream, IsFed}
use Rattle.cpa_sound.proofs.KeepsCauses.{Starts, started_by, KeepsCauses}
use Rattle.cpa_sound.proofs.CourseLaws.{arrived-mono, ended-le-arrived}
use Rattle.cpa_sound.proofs.PartLaws.{jobs_in-zero, jobs_in-here, jobs_in-other, jobs_in-mono}

-- ---- activators in a list

pub same-is : (a b : Activator) → is_same a b ≡ true → a ≡ b
same-is (Source k) (Source m) h = let e : m.0 ≡ k.0 = eqb-true m.0 k.0 h in ap (λ n. Source (record { 0 = n })) (sym e)
same-is (Source k) (Task j) h = absurd (false≢true h)
same-is (Task j) (Source m) h = absurd (false≢true h)
same-is (Task j) (Task i) h = let e : i.0 ≡ j.0 = eqb-true i.0 j.0 h in ap (λ n. Task (record { 0 = n })) (sym e)

pub is-same : (a b : Activator) → a ≡ b → is_same a b ≡ true
is-same a b e = subst (λ c. is_same a c ≡ true) e (self a)
  where
    self : (a : Activator) → is_same a a ≡ true
    self (Source k) = eq-eqb k.0 k.0 refl
    self (Task j) = eq-eqb j.0 j.0 refl

pub or_tail : (b c : Bool) → b ≡ false → (b || c) ≡ true → c ≡ true
or_tail true c e h = absurd (false≢true (sym e))
or_tail false c e h = h

-- what all have, each has
pub member-has : (P : Activator → Type 0) (list : List Activator) (a : Activator) → All P list → list_any (is_same a) list ≡ true → P a
member-has P [] a all h = absurd (false≢true h)
member-has P (other ∷ others) a all h =
    elim (cases_Bool (is_same a other)) [
      | inl e ↦ subst P (sym (same-is a other e)) (all 0 other (omega arith))
      | inr e ↦ member-has P others a (λ k d less. all (suc k) d (omega arith)) (or_tail (is_same a other) (list_any (is_same a) others) e h)
    ]

-- ---- the places of streams

module _ (deeper : ℕ → List SourceId) where
  width : Activator → ℕ
  width a = length (streams_step a deeper)

  pub before-here : (a other : Activator) (others : List Activator) → is_same a other ≡ true → streams_before deeper a (other ∷ others) ≡ 0
  before-here a other others e = rw e refl

  pub before-there : (a other : Activator) (others : List Activator) → is_same a other ≡ false → streams_before deeper a (other ∷ others) ≡ length (streams_step other deeper) + streams_before deeper a others
  before-there a other others e = rw e refl

  width-same : (a b : Activator) → is_same a b ≡ true → width a ≡ width b
  width-same a b e = ap width (same-is a b e)

  -- the streams of two activators don't overlap
  pub separate : (list : List Activator) (a b : Activator) → list_any (is_same a) list ≡ true → list_any (is_same b) list ≡ true → is_same a b ≡ false
      → (streams_before deeper a list + length (streams_step a deeper) ≤ streams_before deeper b list) ⊎ (streams_before deeper b list + length (streams_step b deeper) ≤ streams_before deeper a list)
  unfolding width
  separate [] a b h g differ = absurd (false≢true h)
  separate (other ∷ others) a b h g differ =
      elim (cases_Bool (is_same a other)) [
        | inl e ↦
            elim (cases_Bool (is_same b other)) [
              | inl f ↦ absurd (false≢true (sym differ ∙ is-same a b (same-is a other e ∙ sym (same-is b other f))))
              | inr f ↦ inl (omega (arith, before-here a other others e, before-there b other others f, width-same a other e))
            ]
        | inr e ↦
            elim (cases_Bool (is_same b other)) [
              | inl f ↦ inr (omega (arith, before-here b other others f, before-there a other others e, width-same b other f))
              | inr f ↦
                  elim (separate others a b (or_tail (is_same a other) (list_any (is_same a) others) e h) (or_tail (is_same b other) (list_any (is_same b) others) f g) differ) [
                    | inl less ↦ inl (omega (arith, before-there a other others e, before-there b other others f, less))
                    | inr more ↦ inr (omega (arith, before-there a other others e, before-there b other others f, more))
                  ]
            ]
      ]

  -- and lie within those of all
  pub inside : (list : List Activator) (a : Activator) → list_any (is_same a) list ≡ true → streams_before deeper a list + length (streams_step a deeper) ≤ length (flat_map (λ b. streams_step b deeper) list)
  unfolding width
  inside [] a h = absurd (false≢true h)
  inside (other ∷ others) a h =
      let long = length-append (streams_step other deeper) (flat_map (λ b. streams_step b deeper) others) in
      elim (cases_Bool (is_same a other)) [
        | inl e ↦ omega (arith, before-here a other others e, width-same a other e, long)
        | inr e ↦ omega (arith, before-there a other others e, inside others a (or_tail (is_same a other) (list_any (is_same a) others) e h), long)
      ]

-- ---- the streams of jobs

-- whoever activates a task is in the lists
pub activator-there : (s : SystemLists) → IsSystem s → (i : ℕ) (a : Activator) → i < length s.tasks → Starts s i a → IsActivator s a
activator-there s rules i a h starts = member-has (IsActivator s) (task_at s i).after a (let t : IsTask s (task_at s i) = rules.tasks i no_task h in t.activated) starts

-- each is where its activator has it
pub stream-found : (deeper : ℕ → List SourceId) (list : List Activator) (a : Activator) (m : ℕ) (d : SourceId) → list_any (is_same a) list ≡ true → m < length (streams_step a deeper)
    → get_or (flat_map (λ b. streams_step b deeper) list) (streams_before deeper a list + m) d ≡ get_or (streams_step a deeper) m d
stream-found deeper [] a m d h few = absurd (false≢true h)
stream-found deeper (other ∷ others) a m d h few =
    let xs : List SourceId = streams_step other deeper in
    let rest : List SourceId = flat_map (λ b. streams_step b deeper) others in
    elim (cases_Bool (is_same a other)) [
      | inl e ↦
          let same : xs ≡ streams_step a deeper = ap (λ b. streams_step b deeper) (sym (same-is a other e)) in
          let here = get_or_append_left xs rest d m (omega (arith, few, ap length same)) in
          let z : 0 + m ≡ m = omega arith in
          rw (before-here deeper a other others e, z) (here ∙ ap (λ l. get_or l m d) same)
      | inr e ↦
          let z : length xs + streams_before deeper a others + m ≡ length xs + (streams_before deeper a others + m) = omega arith in
          rw (before-there deeper a other others e, z)
          (get_or-append-add xs rest (streams_before deeper a others + m) d
          ∙ stream-found deeper others a m d (or_tail (is_same a other) (list_any (is_same a) others) e h) few)
    ]

-- activators can be followed from a task over no more than n tasks
abbrev pub Reaches : SystemLists → ℕ → ℕ → Type 0
Reaches s n i = is_some (depth_within (activators s.tasks) n i) ≡ true

pub reaches-next : (s : SystemLists) (n i j : ℕ) → Reaches s (suc n) i → Starts s i (Task (record { 0 = j })) → Reaches s n j
reaches-next s n i j reaches starts = depth_within-activated s n i j starts reaches

pub reaches-none : (s : SystemLists) (i : ℕ) → Reaches s 0 i → ⊥
unfolding depth_within
reaches-none s i reaches = false≢true reaches

-- how many streams of a task come before those of an activator, and how many that has, where activators are followed over n tasks
abbrev pub before : SystemLists → ℕ → ℕ → Activator → ℕ
before s n i a = streams_before (streams_within (activators s.tasks) n) a (task_at s i).after

abbrev pub wide : SystemLists → ℕ → Activator → ℕ
wide s n a = length (streams_step a (streams_within (activators s.tasks) n))

module _ (s : SystemLists) (rules : IsSystem s) (course : ℕ → Course) (orders : (i : ℕ) → i < length s.tasks → IsInOrder (course i) (task_at s i).best (task_at s i).worst) (causes : Causes) (last : ℕ) (laws : KeepsCauses s course causes last) where
  long : (n i : ℕ) → length (streams_within (activators s.tasks) (suc n) i) ≡ length (flat_map (λ b. streams_step b (streams_within (activators s.tasks) n)) (task_at s i).after)
  unfolding streams_within
  long n i = rw (activators_at s.tasks i) refl

  stream-is : (n i k : ℕ) → stream_within s causes (suc n) i k ≡ before s n i (causes i k).by + handed_on (stream_within s causes n) (causes i k).by (causes i k).number
  unfolding stream_within
  stream-is n i k = refl

  -- the job that started a job is there
  starter-there : (i k j : ℕ) → i < length s.tasks → k < (course i).arrived (last + 1) → Starts s i (Task (record { 0 = j })) → (causes i k).by ≡ Task (record { 0 = j }) → (causes i k).number < (course j).arrived (last + 1)
  starter-there i k j h here starts e =
      let hj : j < length s.tasks = activator-there s rules i (Task (record { 0 = j })) h starts in
      let o = orders j hj in
      let part : ℕ → Bool = started_by causes i (Task (record { 0 = j })) in
      let number = rw e at (laws.numbered i k h here) in
      let own : part k ≡ true = is-same (Task (record { 0 = j })) (causes i k).by (sym e) in
      omega (
        arith,
        number,
        jobs_in-here part k own,
        jobs_in-mono part (k + 1) ((course i).arrived (last + 1)) (omega arith),
        laws.fed i j last h starts (omega arith),
        ended-le-arrived (course j) (task_at s j).best (task_at s j).worst o last,
        o.more_arrive last,
      )

  -- a job's activator hands on one of its own streams
  handed-less : (n i k : ℕ) → ((j m : ℕ) → j < length s.tasks → Reaches s n j → m < (course j).arrived (last + 1) → stream_within s causes n j m < length (streams_within (activators s.tasks) n j))
      → i < length s.tasks → Reaches s (suc n) i → k < (course i).arrived (last + 1) → (a : Activator) → (causes i k).by ≡ a → handed_on (stream_within s causes n) a (causes i k).number < wide s n a
  handed-less n i k deeper h reaches here (Source q) e = omega arith
  handed-less n i k deeper h reaches here (Task j) e =
      let starts : Starts s i (Task j) = rw e at (laws.activated i k h here) in
      deeper j.0 (causes i k).number (activator-there s rules i (Task j) h starts) (reaches-next s n i j.0 reaches starts) (starter-there i k j.0 h here starts e)

  -- each job has one of its task's streams
  pub belongs : (n i k : ℕ) → i < length s.tasks → Reaches s n i → k < (course i).arrived (last + 1) → stream_within s causes n i k < length (streams_within (activators s.tasks) n i)
  belongs zero i k h reaches here = absurd (reaches-none s i reaches)
  belongs (suc n) i k h reaches here =
      let a : Activator = (causes i k).by in
      let less = handed-less n i k (belongs n) h reaches here a refl in
      let within = inside (streams_within (activators s.tasks) n) (task_at s i).after a (laws.activated i k h here) in
      omega (arith, stream-is n i k, less, within, long n i)

  -- and that is one of the source to which its causes lead
  pub stream-origin : (n i k : ℕ) → i < length s.tasks → Reaches s n i → k < (course i).arrived (last + 1) → get_or (streams_within (activators s.tasks) n i) (stream_within s causes n i k) (record { 0 = 0 }) ≡ origin_within causes n i k
  unfolding streams_within origin_within
  stream-origin zero i k h reaches here = refl
  stream-origin (suc n) i k h reaches here =
      let a : Activator = (causes i k).by in
      let less = handed-less n i k (belongs n) h reaches here a refl in
      rw (stream-is n i k, activators_at s.tasks i)
      (stream-found (streams_within (activators s.tasks) n) (task_at s i).after a (handed_on (stream_within s causes n) a (causes i k).number) (record { 0 = 0 }) (laws.activated i k h here) less
      ∙ by_activator (λ j m below deeper there. stream-origin n j m below deeper there) a refl)
    where
      by_activator : ((j m : ℕ) → j < length s.tasks → Reaches s n j → m < (course j).arrived (last + 1) → get_or (streams_within (activators s.tasks) n j) (stream_within s causes n j m) (record { 0 = 0 }) ≡ origin_within causes n j m)
          → (a : Activator) → (causes i k).by ≡ a → get_or (streams_step a (streams_within (activators s.tasks) n)) (handed_on (stream_within s causes n) a (causes i k).number) (record { 0 = 0 }) ≡ origin_step (origin_within causes n) a (causes i k).number
      by_activator deeper (Source q) e = refl
      by_activator deeper (Task j) e =
          let starts : Starts s i (Task j) = rw e at (laws.activated i k h here) in
          deeper j.0 (causes i k).number (activator-there s rules i (Task j) h starts) (reaches-next s n i j.0 reaches starts) (starter-there i k j.0 h here starts e)

  -- no two jobs of a task have one cause
  pub one-job : (i k l : ℕ) → i < length s.tasks → k < (course i).arrived (last + 1) → l < (course i).arrived (last + 1) → causes i k ≡ causes i l → (k < l) → ⊥
  one-job i k l h here there same less =
      let a : Activator = (causes i k).by in
      let part : ℕ → Bool = started_by causes i a in
      let by : (causes i l).by ≡ a = ap (λ (cause : Cause). cause.by) (sym same) in
      let number = laws.numbered i k h here in
      let number' = rw by at (laws.numbered i l h there) in
      omega (arith, ap (λ (cause : Cause). cause.number) same, number, number', jobs_in-here part k (is-same a a refl), jobs_in-mono part (k + 1) l (omega arith))

  -- ---- the jobs of an activator's streams

  module _ (n i : ℕ) (h : i < length s.tasks) (reaches : Reaches s (suc n) i) (a : Activator) (starts : Starts s i a) (m : ℕ) (few : m < wide s n a) where
    -- of the activator's jobs, or events, by number, those of its stream m
    abbrev pub sent : ℕ → Bool
    sent number = eqb (handed_on (stream_within s causes n) a number) m

    abbrev pub part : ℕ → Bool
    part = of_stream (stream_within s causes (suc n) i) (before s n i a + m)

    same-part : (k : ℕ) → k < (course i).arrived (last + 1) → is_same a (causes i k).by ≡ true → part k ≡ sent (jobs_in (started_by causes i a) k)
    same-part k here e =
        let is : a ≡ (causes i k).by = same-is a (causes i k).by e in
        let number = rw (← is) at (laws.numbered i k h here) in
        let stream : stream_within s causes (suc n) i k ≡ before s n i a + handed_on (stream_within s causes n) a (jobs_in (started_by causes i a) k) =
        rw (← is, number) at (stream-is n i k) in
        elim (cases_eq (handed_on (stream_within s causes n) a (jobs_in (started_by causes i a) k)) m) [
          | inl equal ↦ eq-eqb (stream_within s causes (suc n) i k) (before s n i a + m) (omega (arith, stream, equal)) ∙ sym (eq-eqb _ m equal)
          | inr not_equal ↦ ne_eqb (stream_within s causes (suc n) i k) (before s n i a + m) (λ z. not_equal (omega (arith, stream, z))) ∙ sym (ne_eqb _ m not_equal)
        ]

    other-part : (k : ℕ) → k < (course i).arrived (last + 1) → is_same a (causes i k).by ≡ false → part k ≡ false
    other-part k here e =
        let b : Activator = (causes i k).by in
        let less = handed-less n i k (belongs n) h reaches here b refl in
        let apart = separate (streams_within (activators s.tasks) n) (task_at s i).after a b starts (laws.activated i k h here) e in
        ne_eqb (stream_within s causes (suc n) i k) (before s n i a + m) (λ z. elim apart [ inl below ↦ omega (arith, z, stream-is n i k, less, few, below) | inr above ↦ omega (arith, z, stream-is n i k, less, few, above) ])

    -- the jobs of a stream of the activator are those that it started by its own of that stream
    pub jobs-of_stream : (k : ℕ) → k ≤ (course i).arrived (last + 1) → jobs_in part k ≡ jobs_in sent (jobs_in (started_by causes i a) k)
    jobs-of_stream zero le = jobs_in-zero part ∙ sym (ap (jobs_in sent) (jobs_in-zero (started_by causes i a)) ∙ jobs_in-zero sent)
    jobs-of_stream (suc k) le =
        let z : suc k ≡ k + 1 = omega arith in
        let rest = jobs-of_stream k (omega arith) in
        let from : ℕ → Bool = started_by causes i a in
        rw z
        (elim (cases_Bool (from k)) [
          | inl e ↦
              let same = same-part k (omega arith) e in
              let more = jobs_in-here from k e in
              rw more
              (elim (cases_Bool (part k)) [
                | inl own ↦ omega (arith, rest, jobs_in-here part k own, jobs_in-here sent (jobs_in from k) (sym same ∙ own))
                | inr not_own ↦ omega (arith, rest, jobs_in-other part k not_own, jobs_in-other sent (jobs_in from k) (sym same ∙ not_own))
              ])
          | inr e ↦ rw (jobs_in-other from k e) (omega (arith, rest, jobs_in-other part k (other-part k (omega arith) e)))
        ])

  -- a task's stream is fed by the same stream of its feeder
  pub stream-fed : (n i j m : ℕ) → i < length s.tasks → Reaches s (suc n) i → Starts s i (Task (record { 0 = j })) → m < length (streams_within (activators s.tasks) n j)
      → IsFed (course i) (course j) (of_stream (stream_within s causes (suc n) i) (before s n i (Task (record { 0 = j })) + m)) (of_stream (stream_within s causes n j) m) (last + 1)
  stream-fed n i j m h reaches starts few t below =
      let a : Activator = Task (record { 0 = j }) in
      let o = orders i h in
      let within = arrived-mono (course i) (task_at s i).best (task_at s i).worst o (t + 1) (last + 1) (omega arith) in
      jobs-of_stream n i h reaches a starts m few ((course i).arrived (t + 1)) within ∙ ap (jobs_in (of_stream (stream_within s causes n j) m)) (laws.fed i j t h starts (omega arith))
