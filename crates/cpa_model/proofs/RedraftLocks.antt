-- The critical sections of the redraft of a system: no reason applies to them.
use Rattle.std.proofs.Common.{◌≡◌, ℕ, pos, ◌+◌, ◌<◌, ◌≤◌, Bool, true, false, not, ◌&&◌, nat_lt, List, [], ◌∷◌, map, length, take, get_or, All, None, refl, sym, ap, ◌∙◌, arith, inl, inr, length-take}
use Rattle.std.specs.List.{list_any}
use Rattle.std.specs.Str.{bytes_eq}
use Rattle.std.proofs.Math.Bool.{and-false, or-true}
use Rattle.std.proofs.lemmas.Bool.{and_parts, and_from, or_from, true≢false, false≢true, ltb-true, le-leb, le-ltb, false_from_ne_true, cases_Bool, cases_eq, eq-eqb, ne_eqb}
use Rattle.std.proofs.lemmas.List.{length-map, get_or-take}
use Rattle.cpa_units.specs.Name.{is_name}
use Rattle.cpa_units.specs.declared.limits.Size.{Size}
use Rattle.cpa_units.specs.declared.limits.Size.TheVariants.{Small, Large}
use Rattle.cpa_draft.specs.First.{first_place}
use Rattle.cpa_draft.specs.Numbers.{nat_or}
use Rattle.cpa_draft.specs.Refusals.{kind_fits, lock_fits, locks_fit, have_lock_names, locks_misfit, crosses, have_crossing, share_lock, is_elsewhere, mislocked_after, is_mislocked}
use Rattle.cpa_draft.specs.declared.draft.DraftTask.{DraftTask}
use Rattle.cpa_draft.specs.declared.draft.DraftLock.{DraftLock}
use Rattle.cpa_draft.proofs.FirstLemmas.{all_unmarked}
use Rattle.cpa_draft.proofs.ListLaws.{all-map, none-any, all-list_all}
use Rattle.cpa_draft.proofs.Maps.{list_any-map}
use Rattle.cpa_draft.proofs.NameLaws.{same-bytes}
use Rattle.cpa_model.specs.declared.entries.Kind.{Kind}
use Rattle.cpa_model.specs.declared.entries.Kind.TheVariants as kind
use Rattle.cpa_model.specs.declared.entries.Task.{Task}
use Rattle.cpa_model.specs.declared.locks.CriticalSection.{CriticalSection}
use Rattle.cpa_model.specs.Kinds.{is_later_kind}
use Rattle.cpa_model.specs.Locks.{uses_lock, HoldsWhole}
use Rattle.cpa_model.specs.SystemLists.{SystemLists, resource_at, task_at, no_task}
use Rattle.cpa_model.specs.Rules.{IsSystem, IsTask, IsSection, AreSections, LocksFit, HaveLocksTogether}
use Rattle.cpa_model.specs.Redraft.{word_of, region_at, redraft_section, redraft_task, redraft}
use Rattle.cpa_model.proofs.LockLaws.{are-sections}
use Rattle.cpa_model.proofs.RedraftNames.{tasks-redraft, task_at-redraft}

-- a region comes back
pub region-back : (ticks : ℕ) → nat_or 1 (region_at ticks) ≡ ticks
region-back ticks = elim (cases_eq ticks 1) [
  | inl is ↦ rw (eq-eqb ticks 1 is) (sym is)
  | inr isn't ↦ rw (ne_eqb ticks 1 isn't) refl
]

-- numbers

section-within : (c : CriticalSection) → IsSection c → lock_fits (redraft_section c) ≡ true
section-within c fits =
    and_from _ _ (and_from _ _ (le-leb 0 c.start (omega arith)) (le-leb c.start 10000000 fits.start)) (and_from _ _ (le-leb 1 c.length fits.some) (le-leb c.length 10000000 fits.length))

sections-within : (locks : List CriticalSection) → All IsSection locks → locks_fit Large (map redraft_section locks) ≡ true
sections-within locks each = all-list_all lock_fits (map redraft_section locks) (all-map (λ l. lock_fits l ≡ true) redraft_section locks (λ k c less. section-within (get_or locks k c) (each k c less)))

none-within : (z : Size) → locks_fit z [] ≡ true
none-within Small = refl
none-within Large = refl

pub locks-within : (z : Size) (k : Kind) (region : ℕ) (locks : List CriticalSection) → LocksFit k region locks → kind_fits z (is_later_kind k) ≡ true → locks_fit z (map redraft_section locks) ≡ true
locks-within z kind.Preemptive region locks fits small = rw fits (none-within z)
locks-within z kind.RoundRobin region locks fits small = rw fits (none-within z)
locks-within z (kind.Tdma gap) region locks fits small = rw fits (none-within z)
locks-within z (kind.Can bit) region locks fits small = rw fits (none-within z)
locks-within z kind.Fifo region locks fits small = rw fits (none-within z)
locks-within Small kind.Ceiling region locks fits small = absurd (false≢true small)
locks-within Large kind.Ceiling region locks fits small = sections-within locks fits.sections

-- critical sections are written under ceilings alone
pub locks-suit : (k : Kind) (region : ℕ) (locks : List CriticalSection) → LocksFit k region locks → locks_misfit (word_of k) (map redraft_section locks) ≡ false
locks-suit kind.Preemptive region locks fits = rw fits refl
locks-suit kind.RoundRobin region locks fits = rw fits refl
locks-suit (kind.Tdma gap) region locks fits = rw fits refl
locks-suit (kind.Can bit) region locks fits = rw fits refl
locks-suit kind.Fifo region locks fits = rw fits refl
locks-suit kind.Ceiling region locks fits = and-false (nat_lt 0 (length (map redraft_section locks)))

-- names

pub locks-named : (locks : List CriticalSection) → All IsSection locks → have_lock_names (map redraft_section locks) ≡ true
locks-named locks each =
    all-list_all (λ (l : DraftLock). is_name l.name) (map redraft_section locks)
    (all-map (λ (l : DraftLock). is_name l.name ≡ true) redraft_section locks (λ k c less. (each k c less).named))

-- nesting

uncrossed : (x y : CriticalSection) → HoldsWhole x y → crosses (redraft_section x) (redraft_section y) ≡ false
uncrossed x y whole =
    false_from_ne_true _
    (λ h.
    let parts = and_parts _ _ h in
    let begins = and_parts _ _ parts.0 in
    let inside : y.start + y.length ≤ x.start + x.length = whole (ltb-true _ _ begins.0) (ltb-true _ _ begins.1) in
    let past : x.start + x.length < y.start + y.length = ltb-true _ _ parts.1 in
    absurd (omega arith))

sections-uncrossed : (locks : List CriticalSection) → All (λ x. All (HoldsWhole x) locks) locks → have_crossing (map redraft_section locks) ≡ false
sections-uncrossed locks nested =
    none-any (λ a. list_any (crosses a) (map redraft_section locks)) (map redraft_section locks)
    (all-map (λ a. list_any (crosses a) (map redraft_section locks) ≡ false) redraft_section locks
    (λ k x less. none-any (crosses (redraft_section (get_or locks k x))) (map redraft_section locks)
    (all-map (λ b. crosses (redraft_section (get_or locks k x)) b ≡ false) redraft_section locks
    (λ m y below. uncrossed (get_or locks k x) (get_or locks m y) (nested k x less m y below)))))

alone-still : (count region : ℕ) → (0 < count → region ≡ 1) → (nat_lt 0 count && nat_lt 1 region) ≡ false
alone-still count region alone =
    false_from_ne_true _
    (λ h.
    let parts = and_parts _ _ h in
    let one : region ≡ 1 = alone (ltb-true _ _ parts.0) in
    let more : 1 < region = ltb-true _ _ parts.1 in
    absurd (omega arith))

-- other resources

-- a test that is passed is passed by a member
any-gives : {X C : Type 0} (p : X → Bool) (xs : List X) → list_any p xs ≡ true → ((x : X) → p x ≡ true → ((q : X → Bool) → q x ≡ true → list_any q xs ≡ true) → C) → C
any-gives p [] h then = absurd (false≢true h)
any-gives p (x ∷ xs) h then = elim (cases_Bool (p x)) [
  | inl here ↦ then x here (λ q is. rw is refl)
  | inr there ↦ any-gives p xs (rw there at h) (λ y is among. then y is (λ q holds. rw (among q holds) (or-true (q x))))
]

-- a lock that two tasks share is one that both use
share-gives : (t u : Task) → HaveLocksTogether u t → share_lock (map redraft_section t.locks) (map redraft_section u.locks) ≡ true → u.res ≡ t.res
share-gives t u together share =
    any-gives (λ (a : DraftLock). list_any (λ (b : DraftLock). bytes_eq a.name b.name) (map redraft_section u.locks)) (map redraft_section t.locks) share
    (λ a has among.
    let mine : uses_lock a.name t ≡ true = sym (list_any-map (λ (l : DraftLock). bytes_eq a.name l.name) redraft_section t.locks) ∙ among (λ (l : DraftLock). bytes_eq a.name l.name) (same-bytes a.name) in
    let its : uses_lock a.name u ≡ true = sym (list_any-map (λ (l : DraftLock). bytes_eq a.name l.name) redraft_section u.locks) ∙ has in
    together a.name its mine)

not-elsewhere : (s : SystemLists) (t u : Task) → HaveLocksTogether u t → is_elsewhere (redraft_task s t) (redraft_task s u) ≡ false
not-elsewhere s t u together = elim (cases_Bool (share_lock (map redraft_section t.locks) (map redraft_section u.locks))) [
  | inl share ↦ rw (share, share-gives t u together share, same-bytes (resource_at s t.res.0).name) refl
  | inr apart ↦ rw apart refl
]

-- reason 16 doesn't apply to a task
task-locked : (s : SystemLists) → IsSystem s → (i : ℕ) → i < length s.tasks → mislocked_after (take i (redraft s).tasks) (redraft_task s (task_at s i)) ≡ false
task-locked s rules i less =
    let t = task_at s i in
    let fits = rules.tasks i no_task less in
    let sections = are-sections (resource_at s t.res.0).kind t.region t.locks fits.locks_fit in
    let count : length (map redraft_section t.locks) ≡ length t.locks = length-map t.locks redraft_section in
    let few : nat_lt 64 (length (map redraft_section t.locks)) ≡ false = rw count (le-ltb _ _ sections.few) in
    let alone = alone-still (length (map redraft_section t.locks)) _ (λ some. region-back t.region ∙ sections.alone (rw count at some)) in
    or_from _ _
    (or_from _ _ (or_from _ _ few alone) (sections-uncrossed t.locks sections.nested))
    (none-any (is_elsewhere (redraft_task s t)) (take i (redraft s).tasks)
    (λ k u below.
    let before : k < i = omega (arith, length-take i (redraft s).tasks) in
    ap (is_elsewhere (redraft_task s t)) (get_or-take i (redraft s).tasks k u before ∙ task_at-redraft s k u (omega arith))
    ∙ not-elsewhere s t (task_at s k) (rules.locks k i no_task before less)))

pub all-locked : (s : SystemLists) → IsSystem s → first_place (is_mislocked (redraft s)) (redraft s).tasks ≡ None
all-locked s rules =
    all_unmarked (is_mislocked (redraft s)) (redraft s).tasks
    (λ i t less. let there : i < length s.tasks = omega (arith, tasks-redraft s) in rw (task_at-redraft s i t there) (task-locked s rules i there))
