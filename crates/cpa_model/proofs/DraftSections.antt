-- Critical sections of a draft to which no reason applies, in the system that it stands for.
use Rattle.std.proofs.Common.{◌≡◌, ℕ, ℤ, ◌+◌, ◌<◌, ◌≤◌, Bool, true, false, not, ◌&&◌, nat_lt, List, [], ◌∷◌, map, length, take, get_or, All, Option, refl, sym, ap, ◌∙◌, arith, inl, inr, length-take}
use Rattle.std.specs.List.{list_all, list_any}
use Rattle.std.specs.Str.{bytes_eq}
use Rattle.std.proofs.Math.Bool.{or-true}
use Rattle.std.proofs.lemmas.Bool.{and_parts, or_parts, true≢false, false≢true, ltb-false, ltb-true, lt-ltb, cases_Bool}
use Rattle.std.proofs.lemmas.List.{length-map, get_or-take}
use Rattle.cpa_units.specs.Name.{is_name}
use Rattle.cpa_units.specs.declared.places.ResId.{ResId}
use Rattle.cpa_draft.specs.Numbers.{nat_of, nat_or}
use Rattle.cpa_draft.specs.DraftLists.{DraftLists}
use Rattle.cpa_draft.specs.Refusals.{lock_fits, have_lock_names, locks_misfit, crosses, have_crossing, share_lock, is_elsewhere, is_mislocked}
use Rattle.cpa_draft.specs.declared.draft.DraftTask.{DraftTask}
use Rattle.cpa_draft.specs.declared.draft.DraftLock.{DraftLock}
use Rattle.cpa_draft.specs.declared.draft.KindWord.{KindWord}
use Rattle.cpa_draft.specs.declared.draft.KindWord.TheVariants as word
use Rattle.cpa_draft.proofs.FirstLemmas.{none_marked}
use Rattle.cpa_draft.proofs.ListLaws.{passes-at, none-at, all-map}
use Rattle.cpa_draft.proofs.Maps.{list_any-map}
use Rattle.cpa_draft.proofs.NameLaws.{bytes-same}
use Rattle.cpa_draft.proofs.UnrefusedLaws.{IsUnrefused}
use Rattle.cpa_model.specs.declared.locks.CriticalSection.{CriticalSection}
use Rattle.cpa_model.specs.Locks.{HoldsWhole}
use Rattle.cpa_model.specs.Rules.{IsSection, AreSections, LocksFit, HaveLocksTogether}
use Rattle.cpa_model.specs.Built.{built_kind, built_section, built_task, resource_place}
use Rattle.cpa_model.proofs.EntryLaws.{range}

-- what passes one test passes another
pub any-more : {X : Type 0} (p q : X → Bool) (xs : List X) → ((x : X) → p x ≡ true → q x ≡ true) → list_any p xs ≡ true → list_any q xs ≡ true
any-more p q [] more h = absurd (false≢true h)
any-more p q (x ∷ xs) more h = elim (cases_Bool (p x)) [
  | inl here ↦ rw (more x here) refl
  | inr there ↦ rw (any-more p q xs more (rw there at h)) (or-true (q x))
]

-- what reason 16 leaves of a task behind others
pub record IsLocked (earlier : List DraftTask) (t : DraftTask) : Type 0 where
  pub few : nat_lt 64 (length t.locks) ≡ false
  pub alone : (nat_lt 0 (length t.locks) && nat_lt 1 (nat_or 1 t.region)) ≡ false
  pub nested : have_crossing t.locks ≡ false
  pub together : list_any (is_elsewhere t) earlier ≡ false

pub is_locked : (d : DraftLists) → IsUnrefused d → (i : ℕ) (t : DraftTask) → i < length d.tasks → IsLocked (take i d.tasks) (get_or d.tasks i t)
is_locked d u i t less =
    let parts = or_parts _ _ (none_marked (is_mislocked d) d.tasks i t u.locked less) in
    let nested = or_parts _ _ parts.0 in
    let size = or_parts _ _ nested.0 in
    record { few = size.0; alone = size.1; nested = nested.1; together = parts.1 }

section-kept : (l : DraftLock) → lock_fits l ≡ true → is_name l.name ≡ true → IsSection (built_section l)
section-kept l fit named =
    let parts = and_parts _ _ fit in
    let start = range 0 10000000 l.start parts.0 in
    let long = range 1 10000000 l.length parts.1 in
    record { named = named; start = start.1; some = long.0; length = long.1 }

-- what doesn't cross nests, or is apart
whole-kept : (a b : DraftLock) → crosses a b ≡ false → HoldsWhole (built_section a) (built_section b)
whole-kept a b h before within = elim (cases_Bool (nat_lt (nat_of a.start + nat_of a.length) (nat_of b.start + nat_of b.length))) [
  | inl past ↦ absurd (true≢false (rw (lt-ltb (nat_of a.start) (nat_of b.start) before, lt-ltb (nat_of b.start) (nat_of a.start + nat_of a.length) within, past) at h))
  | inr inside ↦ ltb-false _ _ inside
]

alone-kept : (count region : ℕ) → 1 ≤ region → (nat_lt 0 count && nat_lt 1 region) ≡ false → 0 < count → region ≡ 1
alone-kept count region least h some = elim (cases_Bool (nat_lt 1 region)) [
  | inl more ↦ absurd (true≢false (rw (lt-ltb 0 count some, more) at h))
  | inr one ↦ omega (arith, ltb-false 1 region one)
]

pub sections-kept : (earlier : List DraftTask) (t : DraftTask) → list_all lock_fits t.locks ≡ true → have_lock_names t.locks ≡ true → 1 ≤ nat_or 1 t.region → IsLocked earlier t
    → AreSections (nat_or 1 t.region) (map built_section t.locks)
sections-kept earlier t fit named region locked = record {
  sections = all-map IsSection built_section t.locks
      (λ k l less. section-kept (get_or t.locks k l) (passes-at lock_fits t.locks k l fit less) (passes-at (λ (l : DraftLock). is_name l.name) t.locks k l named less));
  few = rw (length-map t.locks built_section) (ltb-false _ _ locked.few);
  alone = λ some. alone-kept (length t.locks) (nat_or 1 t.region) region locked.alone (rw (length-map t.locks built_section) at some);
  nested = all-map (λ x. All (HoldsWhole x) (map built_section t.locks)) built_section t.locks
      (λ k a less. all-map (HoldsWhole (built_section (get_or t.locks k a))) built_section t.locks
      (λ m b below. whole-kept (get_or t.locks k a) (get_or t.locks m b)
      (none-at (crosses (get_or t.locks k a)) t.locks m b (none-at (λ a. list_any (crosses a) t.locks) t.locks k a locked.nested less) below)));
}

-- where a kind wants no critical sections, there are none
none-kept : (locks : List DraftLock) → (nat_lt 0 (length locks) && true) ≡ false → map built_section locks ≡ []
none-kept [] h = refl
none-kept (l ∷ locks) h =
    let some : 0 < length (l ∷ locks) = omega arith in
    absurd (true≢false (rw (lt-ltb 0 (length (l ∷ locks)) some) at h))

pub locks-kept : (w : KindWord) (gap bit : Option ℤ) (region : ℕ) (locks : List DraftLock) → locks_misfit w locks ≡ false → AreSections region (map built_section locks) → LocksFit (built_kind w gap bit) region (map built_section locks)
locks-kept word.Preemptive gap bit region locks h sections = none-kept locks h
locks-kept word.RoundRobin gap bit region locks h sections = none-kept locks h
locks-kept word.Tdma gap bit region locks h sections = none-kept locks h
locks-kept word.Can gap bit region locks h sections = none-kept locks h
locks-kept word.Fifo gap bit region locks h sections = none-kept locks h
locks-kept word.Ceiling gap bit region locks h sections = sections

-- a lock that two tasks use is one that they share
shared : (lock : List ℕ) (locks others : List DraftLock) → list_any (λ (l : DraftLock). bytes_eq lock l.name) locks ≡ true → list_any (λ (l : DraftLock). bytes_eq lock l.name) others ≡ true
    → share_lock locks others ≡ true
shared lock locks others mine its =
    any-more (λ (l : DraftLock). bytes_eq lock l.name) (λ (a : DraftLock). list_any (λ (b : DraftLock). bytes_eq a.name b.name) others) locks
    (λ a is. ap (λ name. list_any (λ (b : DraftLock). bytes_eq name b.name) others) (sym (bytes-same lock a.name is)) ∙ its) mine

used : (lock : List ℕ) (locks : List DraftLock) → list_any (λ (c : CriticalSection). bytes_eq lock c.lock) (map built_section locks) ≡ true → list_any (λ (l : DraftLock). bytes_eq lock l.name) locks ≡ true
used lock locks h = sym (list_any-map (λ (c : CriticalSection). bytes_eq lock c.lock) built_section locks) ∙ h

same-on : (share same : Bool) → share ≡ true → (share && not same) ≡ false → same ≡ true
same-on share true is h = refl
same-on share false is h = absurd (true≢false (rw is at h))

-- the resource with a name
place_at : DraftLists → List ℕ → ResId
place_at d name = record { 0 = resource_place d name }

-- two tasks with one lock are on one resource
pub locks-together : (d : DraftLists) → IsUnrefused d → (i j : ℕ) (t : DraftTask) → i < j → j < length d.tasks → HaveLocksTogether (built_task d (get_or d.tasks i t)) (built_task d (get_or d.tasks j t))
unfolding built_task place_at
locks-together d u i j e before less lock first second =
    let t = get_or d.tasks i e in
    let v = get_or d.tasks j e in
    let within : i < length (take j d.tasks) = omega (arith, length-take j d.tasks) in
    let apart : is_elsewhere v t ≡ false =
    ap (is_elsewhere v) (sym (get_or-take j d.tasks i e before)) ∙ none-at (is_elsewhere v) (take j d.tasks) i e (is_locked d u j e less).together within in
    let same : bytes_eq v.on t.on ≡ true = same-on (share_lock v.locks t.locks) (bytes_eq v.on t.on) (shared lock v.locks t.locks (used lock v.locks second) (used lock t.locks first)) apart in
    ap (place_at d) (sym (bytes-same v.on t.on same))
