-- Rounds: over one resource, and one after another.
use Rattle.std.proofs.Common.{◌≡◌, ℕ, ◌+◌, ◌<◌, ◌==◌, ◌||◌, ◌&&◌, nat_lt, length, set, Bool, true, false, List, Option, Some, None, refl, sym, ap, ◌∙◌, inl, inr, subst, arith, get_or-set_same, get_or-set_other, length-set}
use Rattle.std.proofs.lemmas.Bool.{cases_eq, cases_lt, cases_Bool, false≢true, or_cases, eqb-true, eqb-false, eq-eqb, ne_eqb, and_left, and_right, lt-ltb, le-ltb}
use Rattle.cpa_units.specs.declared.bound.Bound.{Bound}
use Rattle.cpa_units.specs.Bounds.{IsNowhereAbove, bound_of}
use Rattle.cpa_model.specs.SystemLists.{SystemLists, task_at, resource_at}
use Rattle.cpa_model.specs.Kinds.{has_feedback}
use Rattle.std.specs.Bool.{OnFalse}
use Rattle.std.specs.Prelude.{IsTrue, ◌↔◌}
use Rattle.cpa_depend.specs.Cone.{LeadsBack}
use Rattle.cpa_local.specs.Solution.{IsVector}
use Rattle.cpa_fix.specs.Readings.{IsSound}
use Rattle.cpa_units.proofs.BoundLaws.{IsNowhereAbove_refl, IsNowhereAbove_trans}
use Rattle.cpa_fix.proofs.ReadingLaws.{IsSound-mono}
use Rattle.cpa_local.specs.Trails.{Marks, IsKept, NewMarksAre, AreMarked}
use Rattle.cpa_local.proofs.TrailLaws.{IsKept_refl, IsKept_trans, NewMarks_trans, NewMarks-weaker}
use Rattle.cpa_units.specs.Sets.{holds, Members}
use Rattle.cpa_local.proofs.RisingLaws.{IsRisen_trans}
use Rattle.cpa_fix.specs.declared.readings.Reading.{Reading}
use Rattle.cpa_fix.specs.Readings.{reading_of, AreSound}
use Rattle.cpa_local.specs.Rising.{TasksOn, IsRisen, AgreeOutside, HasInputsApart}
use Rattle.cpa_fix.specs.Rounds.{MayStart, IsRound, HasNoFeedback}
use Rattle.cpa_fix.proofs.DependLaws.{input-outside, response-outside}

-- readings stay sound while the vector rises
pub AreSound-mono : (s : SystemLists) (kept : List (Option Reading)) (x y : List Bound) → IsNowhereAbove x y → AreSound s kept x → AreSound s kept y
AreSound-mono s kept x y up h =
    record { long = h.long; sound = λ r reading e. IsSound-mono s r reading.seen x y up (h.sound r reading e) }

-- after a round another may start
pub MayStart-next : (s : SystemLists) (x y : List Bound) (before after : List (Option Reading)) (old new : Marks) → MayStart s x before old → IsRisen s x y → AreSound s after y → IsKept old new → MayStart s y after new
MayStart-next s x y before after old new h risen sound kept =
    record { vector = risen.vector; below = risen.below; sound = sound; room = omega (arith, h.room, kept.room) }

-- a round over nothing
pub round-none : (s : SystemLists) (x : List Bound) (kept : List (Option Reading)) → AreSound s kept x → IsRound s (λ r. false) x x kept kept
round-none s x kept sound =
    record {
      others = λ i h off. refl;
      sound = sound;
      fresh = λ r on. absurd (let f : ⊥ = cc in f);
      same = λ r off. refl;
    }

or_none : (a b : Bool) → (a || b) ≡ false → (a ≡ false) × (b ≡ false)
or_none true b h = absurd (let f : ⊥ = cc in f)
or_none false b h = (refl, h)

-- a round over some resources and then one over others is a round over both
pub round-join : (s : SystemLists) (first second : ℕ → Bool) (x y z : List Bound) (a b c : List (Option Reading)) → IsRisen s x y → IsRound s first x y a b → IsRisen s y z → IsRound s second y z b c → IsRound s (λ r. second r || first r) x z a c
round-join s first second x y z a b c risen_y one risen_z two =
    record {
      others = λ i h off. let parts = or_none (second (task_at s i).res.0) (first (task_at s i).res.0) off in two.others i h parts.0 ∙ one.others i h parts.1;
      sound = two.sound;
      fresh = λ r on. elim (cases_Bool (second r)) [
        | inl yes_second ↦
            let reading = two.fresh r yes_second in
            (reading.0, reading.1, IsNowhereAbove_trans x y reading.0.seen risen_y.up reading.2)
        | inr no_second ↦
            let yes_first : first r ≡ true = elim (or_cases (second r) (first r) on) [
              | inl yes_second ↦ absurd (let f : ⊥ = cc in f)
              | inr it ↦ it
            ] in
            let reading = one.fresh r yes_first in
            (reading.0, two.same r no_second ∙ reading.1, reading.2)
      ];
      same = λ r off. let parts = or_none (second r) (first r) off in two.same r parts.0 ∙ one.same r parts.1;
    }

-- a round says the same of each set with the same members
pub round-same : (s : SystemLists) (dirty again : ℕ → Bool) (x y : List Bound) (a b : List (Option Reading)) → ((r : ℕ) → again r ≡ dirty r) → IsRound s dirty x y a b → IsRound s again x y a b
round-same s dirty again x y a b e h =
    record {
      others = λ i k off. h.others i k (sym (e (task_at s i).res.0) ∙ off);
      sound = h.sound;
      fresh = λ r on. h.fresh r (sym (e r) ∙ on);
      same = λ r off. h.same r (sym (e r) ∙ off);
    }

-- a resource whose bounds alone have risen, with a new sound reading nowhere below the old vector
pub round-of_one : (s : SystemLists) (r : ℕ) (seen x y : List Bound) (kept : List (Option Reading)) → r < length s.resources → AreSound s kept x → IsNowhereAbove x y → ((i : ℕ) → ((task_at s i).res.0 ≡ r → ⊥) → bound_of y i ≡ bound_of x i) → IsSound s r seen y → IsNowhereAbove x seen → IsRound s (λ q. q == r) x y kept (set kept r (Some (record { seen = seen })))
round-of_one s r seen x y kept in_range sound up others own old =
    let reading : Reading = record { seen = seen } in
    let here : r < length kept = rw sound.long in_range in
    let at_r : reading_of (set kept r (Some reading)) r ≡ Some reading = get_or-set_same kept r (Some reading) None here in
    record {
      others = λ i h off. others i (eqb-false (task_at s i).res.0 r off);
      sound = record {
        long = length-set kept r (Some reading) ∙ sound.long;
        sound = λ q m e. elim (cases_eq q r) [
          | inl same ↦
              let it : Some reading ≡ Some m = sym at_r ∙ subst (λ (k : ℕ). reading_of (set kept r (Some reading)) k ≡ Some m) same e in
              let seen_is : seen ≡ m.seen = cc in
              subst (λ (v : List Bound). IsSound s q v y) seen_is (rw same own)
          | inr other ↦
              let old_is : reading_of kept q ≡ Some m = sym (get_or-set_other kept r q (Some reading) None other) ∙ e in
              IsSound-mono s q m.seen x y up (sound.sound q m old_is)
        ];
      };
      fresh = λ q on. let same : q ≡ r = eqb-true q r on in (reading, ap (λ (k : ℕ). reading_of (set kept r (Some reading)) k) same ∙ at_r, old);
      same = λ q off. get_or-set_other kept r q (Some reading) None (eqb-false q r off);
    }

-- without feedback an analysis at the raised vector has the same answers
pub sound-brought_up : (s : SystemLists) (r : ℕ) (seen x : List Bound) → IsVector s x → HasNoFeedback s r → AgreeOutside s r seen x → IsSound s r seen x → IsSound s r x x
sound-brought_up s r seen x vector apart agree sound =
    record {
      vector = vector;
      below = IsNowhereAbove_refl x;
      answered = λ i in_range on. rw (← response-outside s seen x r apart agree i on) (sound.answered i in_range on);
    }

-- a resource that isn't round robin, and leads back nowhere
pub no-feedback : (s : SystemLists) (r : ℕ) (back : Bool) → has_feedback (resource_at s r).kind ≡ false → IsTrue back ↔ LeadsBack s r → OnFalse back (HasNoFeedback s r)
no-feedback s r true turns back = tt
no-feedback s r false turns back =
    record {
      turns = turns;
      chains = λ leads. absurd (false≢true (back.1 leads));
    }

-- where no task of a resource leads to another
pub inputs-apart : (s : SystemLists) (r : ℕ) (back : Bool) → IsTrue back ↔ LeadsBack s r → OnFalse back (HasInputsApart s r)
inputs-apart s r true back = tt
inputs-apart s r false back = λ x y. input-outside s x y r (λ leads. absurd (false≢true (back.1 leads)))

-- a round over the members of a set, as far as a place
pub record IsPartRound (s : SystemLists) (dirty : List Bool) (x y : List Bound) (a b : List (Option Reading)) (old new : Marks) (place : ℕ) : Type 0 where
  pub risen : IsRisen s x y
  pub done : IsRound s (λ r. nat_lt r place && holds dirty r) x y a b
  pub kept : IsKept old new
  pub fresh : NewMarksAre old new (TasksOn s (Members dirty))
  pub marked : AreMarked new (TasksOn s (λ r. (r < place) × Members dirty r))

pub part-start : (s : SystemLists) (dirty : List Bool) (x : List Bound) (a : List (Option Reading)) (old : Marks) → MayStart s x a old → IsPartRound s dirty x x a a old old 0
part-start s dirty x a old h =
    record {
      risen = record { vector = h.vector; up = IsNowhereAbove_refl x; below = h.below };
      done = round-same s (λ r. false) (λ r. nat_lt r 0 && holds dirty r) x x a a (λ r. and_left _ _ (le-ltb r 0 (omega arith))) (round-none s x a h.sound);
      kept = IsKept_refl old;
      fresh = λ i m. inl m;
      marked = λ i on. absurd (let lt = on.1.0 in omega arith);
    }

first_other : (dirty : List Bool) (place : ℕ) (r : ℕ) → (r ≡ place → ⊥) → (nat_lt r (place + 1) && holds dirty r) ≡ (nat_lt r place && holds dirty r)
first_other dirty place r other =
    elim (cases_lt r place) [
      | inl under ↦ rw (lt-ltb r place under, lt-ltb r (place + 1) (omega arith)) refl
      | inr ge ↦ rw (le-ltb r place ge, le-ltb r (place + 1) (omega arith)) refl
    ]

first_more : (dirty : List Bool) (place : ℕ) (r : ℕ) → holds dirty place ≡ true → (nat_lt r (place + 1) && holds dirty r) ≡ (r == place || (nat_lt r place && holds dirty r))
first_more dirty place r on =
    elim (cases_eq r place) [
      | inl same ↦ rw (same, on, eq-eqb place place refl, lt-ltb place (place + 1) (omega arith)) refl
      | inr other ↦ rw (ne_eqb r place other) (first_other dirty place r other)
    ]

first_skip : (dirty : List Bool) (place : ℕ) (r : ℕ) → holds dirty place ≡ false → (nat_lt r (place + 1) && holds dirty r) ≡ (nat_lt r place && holds dirty r)
first_skip dirty place r off =
    elim (cases_eq r place) [
      | inl same ↦ rw (same, off) (and_right _ _ refl ∙ sym (and_right _ _ refl))
      | inr other ↦ first_other dirty place r other
    ]

pub part-skip : (s : SystemLists) (dirty : List Bool) (x y : List Bound) (a b : List (Option Reading)) (old new : Marks) (place : ℕ) → holds dirty place ≡ false → IsPartRound s dirty x y a b old new place → IsPartRound s dirty x y a b old new (place + 1)
part-skip s dirty x y a b old new place off h =
    record {
      risen = h.risen;
      done = round-same s (λ r. nat_lt r place && holds dirty r) (λ r. nat_lt r (place + 1) && holds dirty r) x y a b (λ r. first_skip dirty place r off) h.done;
      kept = h.kept;
      fresh = h.fresh;
      marked = λ i on. elim (cases_eq (task_at s i).res.0 place) [
        | inl same ↦ absurd (let both : true ≡ false = sym on.1.1 ∙ (ap (holds dirty) same ∙ off) in let f : ⊥ = cc in f)
        | inr other ↦ h.marked i (on.0, ((let lt = on.1.0 in let k : (task_at s i).res.0 < place = omega arith in k), on.1.1))
      ];
    }

pub part-fresh : (s : SystemLists) (dirty : List Bool) (old mid new : Marks) (place : ℕ) → holds dirty place ≡ true → NewMarksAre old mid (TasksOn s (Members dirty)) → NewMarksAre mid new (TasksOn s (λ r. r ≡ place)) → NewMarksAre old new (TasksOn s (Members dirty))
part-fresh s dirty old mid new place on first second =
    NewMarks_trans old mid new (TasksOn s (Members dirty)) first
    (NewMarks-weaker mid new (TasksOn s (λ r. r ≡ place)) (TasksOn s (Members dirty)) (λ i at. (at.0, ap (holds dirty) at.1 ∙ on)) second)

pub part-more : (s : SystemLists) (dirty : List Bool) (x y z : List Bound) (a b c : List (Option Reading)) (old mid new : Marks) (place : ℕ) → holds dirty place ≡ true → IsPartRound s dirty x y a b old mid place → IsRisen s y z → IsRound s (λ r. r == place) y z b c → IsKept mid new → NewMarksAre mid new (TasksOn s (λ r. r ≡ place)) → AreMarked new (TasksOn s (λ r. r ≡ place)) → IsPartRound s dirty x z a c old new (place + 1)
part-more s dirty x y z a b c old mid new place on h risen done kept fresh marked =
    record {
      risen = IsRisen_trans s x y z h.risen risen;
      done = round-same s (λ r. r == place || (nat_lt r place && holds dirty r)) (λ r. nat_lt r (place + 1) && holds dirty r) x z a c (λ r. first_more dirty place r on)
          (round-join s (λ r. nat_lt r place && holds dirty r) (λ r. r == place) x y z a b c h.risen h.done risen done);
      kept = IsKept_trans old mid new h.kept kept;
      fresh = part-fresh s dirty old mid new place on h.fresh fresh;
      marked = λ i at. elim (cases_eq (task_at s i).res.0 place) [
        | inl same ↦ marked i (at.0, same)
        | inr other ↦ kept.marks i (h.marked i (at.0, ((let lt = at.1.0 in let k : (task_at s i).res.0 < place = omega arith in k), at.1.1)))
      ];
    }
