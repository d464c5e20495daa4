-- Whether the events of a source leave a lead that is one of all others.
use Rattle.std.proofs.Common.{◌≡◌, ◌∙◌, ℕ, zero, suc, ◌+◌, ◌-◌, ◌%◌, ◌<◌, ◌≤◌, ◌&&◌, Bool, true, false, nat_le, nat_lt, List, refl, sym, ap, arith, inl, inr}
use Rattle.std.proofs.Math.Nat.{mod-add-mod}
use Rattle.std.proofs.lemmas.Bool.{cases_lt, and_parts, and_from, lt-ltb, le-ltb}
use Rattle.std.proofs.lemmas.Bool.Decides.{nat_tests}
use Rattle.std.specs.List.{list_all}
use Rattle.cpa_model.specs.declared.entries.Source.{Source}
use Rattle.cpa_model.specs.Clocks.{offset_on}
use Rattle.cpa_trace.specs.declared.leads.Leads.{Leads}
use Rattle.cpa_trace.specs.Breaches.{latest_begin, earliest_end, past_begin, fits_lead}
use Rattle.cpa_trace.specs.Leads.{allows, allowed_by, leaves_with}
use Rattle.cpa_trace.proofs.SearchLaws.{is_some-below, is_some-none, below-found}
use Rattle.cpa_trace.proofs.LeadLaws.{fits-fewer, latest-le_end}

by_room : (x begin end jitter : ℕ) → begin ≤ end → end - begin ≤ jitter → nat_le x (jitter - (end - begin)) ≡ nat_le (end + x) (begin + jitter)
by_room x begin end jitter h k = grind (arith, nat_tests)

no_room : (x begin end jitter : ℕ) → begin ≤ end → jitter < end - begin → nat_le (end + x) (begin + jitter) ≡ false
no_room x begin end jitter h k = grind (arith, nat_tests)

module _ (r : Source) (times : List ℕ) where
  abbrev p : ℕ
  p = r.period

  -- the leads that are kept are those by which the events come
  pub allows-fits : (begin end count : ℕ) → 0 < count → begin ≡ latest_begin p times (count - 1) → end ≡ earliest_end p times (count - 1) → end - begin ≤ r.jitter
      → (lead : ℕ) → nat_le (((begin + (p - offset_on r.on_clock)) % p + lead) % p) (r.jitter - (end - begin)) ≡ fits_lead r times lead count
  allows-fits begin end zero some b e fine lead = absurd (omega arith)
  allows-fits begin end (suc last) some b e fine lead =
      let z = p - offset_on r.on_clock in
      let one : suc last - 1 ≡ last = omega arith in
      let b' : begin ≡ latest_begin p times last = rw one at b in
      let e' : end ≡ earliest_end p times last = rw one at e in
      let swap : begin + z + lead ≡ begin + lead + z = omega arith in
      let same : ((begin + z) % p + lead) % p ≡ past_begin r lead begin = mod-add-mod (begin + z) p lead ∙ ap (λ x. x % p) swap in
      let order : begin ≤ end = rw (b', e') (latest-le_end p times last) in
      ap (λ x. nat_le x (r.jitter - (end - begin))) same ∙ by_room (past_begin r lead begin) begin end r.jitter order fine
      ∙ rw (b', e') refl

  pub none-fits : (begin end count : ℕ) → 0 < count → begin ≡ latest_begin p times (count - 1) → end ≡ earliest_end p times (count - 1) → r.jitter < end - begin
      → (lead : ℕ) → fits_lead r times lead count ≡ false
  none-fits begin end zero some b e wide lead = absurd (omega arith)
  none-fits begin end (suc last) some b e wide lead =
      let one : suc last - 1 ≡ last = omega arith in
      let b' : begin ≡ latest_begin p times last = rw one at b in
      let e' : end ≡ earliest_end p times last = rw one at e in
      no_room (past_begin r lead (latest_begin p times last)) (latest_begin p times last) (earliest_end p times last) r.jitter (latest-le_end p times last) (omega arith)

  module _ (others : List Leads) (cycle : ℕ) where
    abbrev among : ℕ → ℕ → Bool
    among count lead = fits_lead r times lead count && list_all (allows lead) others

    pub leaves-one : (count lead : ℕ) → lead < cycle → fits_lead r times lead count ≡ true → list_all (allows lead) others ≡ true → leaves_with r times others cycle count ≡ true
    leaves-one count lead h fits all = is_some-below (among count) cycle lead h (and_from _ _ fits all)

    pub leaves-none : (count : ℕ) → ((lead : ℕ) → lead < cycle → among count lead ≡ false) → leaves_with r times others cycle count ≡ false
    leaves-none count none = is_some-none (among count) cycle none

    pub leaves-fewer : (few count : ℕ) → few ≤ count → leaves_with r times others cycle count ≡ true → leaves_with r times others cycle few ≡ true
    leaves-fewer few count h left =
        let found = below-found (among count) cycle left in
        let parts = and_parts _ _ found.2 in
        leaves-one few found.0 found.1 (fits-fewer r times found.0 (count - few) few count (omega arith) parts.0) parts.1

    -- by the leads that are kept for the source
    pub leaves-kept : (own : Leads) (count least : ℕ) → ((lead : ℕ) → allows lead own ≡ fits_lead r times lead count)
        → (least < cycle → allowed_by own others least ≡ true) → ((lead : ℕ) → lead < least → allowed_by own others lead ≡ false) → least ≤ cycle
        → nat_lt least cycle ≡ leaves_with r times others cycle count
    leaves-kept own count least these one none within = elim (cases_lt least cycle) [
      | inl below ↦
          let parts = and_parts _ _ (one below) in
          lt-ltb _ _ below ∙ sym (leaves-one count least below (sym (these least) ∙ parts.0) parts.1)
      | inr above ↦
          le-ltb _ _ above ∙ sym (leaves-none count (λ lead h. ap (λ b. b && list_all (allows lead) others) (sym (these lead)) ∙ none lead (omega arith)))
    ]
