-- What leads the events of one source leave.
use Rattle.std.proofs.Common.{◌≡◌, ◌∙◌, ℕ, zero, suc, ◌+◌, ◌-◌, ◌*◌, ◌/◌, ◌%◌, ◌<◌, ◌≤◌, true, List, get_or, refl, sym, ap, arith}
use Rattle.std.proofs.Math.Nat.{mod-le, mod-eq_of_lt, mod-add-mod, add-mod_right, add-mul-mod_self_right, mul-le-mul_right}
use Rattle.std.proofs.lemmas.Nat.{div-add-mod', le-div}
use Rattle.std.proofs.lemmas.Bool.{le-leb, leb-true}
use Rattle.cpa_model.specs.declared.entries.Source.{Source}
use Rattle.cpa_model.specs.Clocks.{offset_on}
use Rattle.cpa_trace.specs.Breaches.{latest_begin, earliest_end, past_begin, fits_lead}

-- the remainder of a greater number is greater by no more
mod-more : (a d p : ℕ) → (a + d) % p ≤ a % p + d
mod-more a d zero = omega (arith, div-add-mod' a 0, div-add-mod' (a + d) 0)
mod-more a d (suc p) =
    let whole = div-add-mod' a (suc p) in
    let whole' = div-add-mod' (a + d) (suc p) in
    let most : a / suc p * suc p ≤ a + d = omega arith in
    let rows : a / suc p ≤ (a + d) / suc p = le-div (a / suc p) (a + d) (suc p) (omega arith) most in
    let less : a / suc p * suc p ≤ (a + d) / suc p * suc p = mul-le-mul_right (suc p) rows in
    omega arith

-- and by just as much where that is below the divisor
pub mod-shift : (a d p : ℕ) → a % p + d < p → (a + d) % p ≡ a % p + d
mod-shift a d p less = sym (mod-add-mod a p d) ∙ mod-eq_of_lt less

one_more : (b n p : ℕ) → (b + suc n) * p ≡ (b + n) * p + p
one_more b n p = omega arith

split : (a b m p : ℕ) → a + b ≡ m → m * p ≡ a * p + b * p
split a b m p e = rw (← e) (omega arith)

pub latest-le_end : (p : ℕ) (times : List ℕ) (n : ℕ) → latest_begin p times n ≤ earliest_end p times n
latest-le_end p times zero = omega arith
latest-le_end p times (suc n) = omega (arith, latest-le_end p times n)

latest-le : (p : ℕ) (times : List ℕ) (n : ℕ) → latest_begin p times n ≤ get_or times n 0
latest-le p times zero = omega arith
latest-le p times (suc n) = omega arith

end-ge : (p : ℕ) (times : List ℕ) (n : ℕ) → get_or times n 0 ≤ earliest_end p times n
end-ge p times zero = omega arith
end-ge p times (suc n) = omega arith

-- an earlier event, by the periods between
latest-le_before : (p : ℕ) (times : List ℕ) (n gap last : ℕ) → n + gap ≡ last → latest_begin p times last ≤ get_or times n 0 + gap * p
latest-le_before p times n zero last e = let same : n ≡ last = omega arith in rw same (omega (arith, latest-le p times last))
latest-le_before p times n (suc gap) zero e = absurd (omega arith)
latest-le_before p times n (suc gap) (suc last) e = omega (arith, latest-le_before p times n gap last (omega arith), one_more 0 gap p)

end-ge_before : (p : ℕ) (times : List ℕ) (n gap last : ℕ) → n + gap ≡ last → get_or times n 0 + gap * p ≤ earliest_end p times last
end-ge_before p times n zero last e = let same : n ≡ last = omega arith in rw same (omega (arith, end-ge p times last))
end-ge_before p times n (suc gap) zero e = absurd (omega arith)
end-ge_before p times n (suc gap) (suc last) e = omega (arith, end-ge_before p times n gap last (omega arith), one_more 0 gap p)

-- where so many events come by a clock, fewer do
pub fits-before : (r : Source) (times : List ℕ) (lead n : ℕ) → fits_lead r times lead (suc n) ≡ true → fits_lead r times lead n ≡ true
fits-before r times lead zero fits = refl
fits-before r times lead (suc n) fits =
    let p = r.period in
    let z = r.period - offset_on r.on_clock in
    let begin = latest_begin p times n in
    let next = latest_begin p times (suc n) in
    let d : ℕ = begin + p - next in
    let more = mod-more (next + lead + z) d p in
    let e : next + lead + z + d ≡ begin + lead + z + p = omega arith in
    let same : (next + lead + z + d) % p ≡ past_begin r lead begin = ap (λ x. x % p) e ∙ add-mod_right (begin + lead + z) p in
    le-leb _ _ (omega (arith, leb-true _ _ fits, more, same))

pub fits-fewer : (r : Source) (times : List ℕ) (lead gap few n : ℕ) → few + gap ≡ n → fits_lead r times lead n ≡ true → fits_lead r times lead few ≡ true
fits-fewer r times lead zero few n e fits = let same : few ≡ n = omega arith in rw same fits
fits-fewer r times lead (suc gap) few n e fits =
    fits-before r times lead few (fits-fewer r times lead gap (suc few) n (omega arith) fits)

-- whole periods make no difference
pub past_begin-periods : (r : Source) (lead q moment : ℕ) → past_begin r (lead + q * r.period) moment ≡ past_begin r lead moment
past_begin-periods r lead q moment =
    let z = r.period - offset_on r.on_clock in
    let e : moment + (lead + q * r.period) + z ≡ moment + lead + z + q * r.period = omega arith in
    ap (λ x. x % r.period) e ∙ add-mul-mod_self_right (moment + lead + z) q r.period

pub fits-periods : (r : Source) (times : List ℕ) (lead q n : ℕ) → fits_lead r times (lead + q * r.period) n ≡ fits_lead r times lead n
fits-periods r times lead q zero = refl
fits-periods r times lead q (suc n) = rw (past_begin-periods r lead q (latest_begin r.period times n)) refl

-- events that come within the jitter after begins that are a period apart
pub record ComeBy (r : Source) (times : List ℕ) (lead before count : ℕ) : Type 0 where
  pub not_early : (n : ℕ) → n < count → offset_on r.on_clock + (before + n) * r.period ≤ get_or times n 0 + lead
  pub not_late : (n : ℕ) → n < count → get_or times n 0 + lead ≤ offset_on r.on_clock + (before + n) * r.period + r.jitter

-- the number of events before, by the last of those that were looked at
abbrev pub before_last : Source → List ℕ → ℕ → ℕ → ℕ
before_last r times lead last = (latest_begin r.period times last + lead - offset_on r.on_clock) / r.period - last

module _ (r : Source) (times : List ℕ) (some : 0 < r.period) (early : offset_on r.on_clock < r.period) where
  module _ (lead before count : ℕ) (come : ComeBy r times lead before count) where
    begins : (n : ℕ) → n < count → offset_on r.on_clock + (before + n) * r.period ≤ latest_begin r.period times n + lead
    begins zero h = come.not_early 0 h
    begins (suc n) h = omega (arith, begins n (omega arith), come.not_early (suc n) h, one_more before n r.period)

    ends : (n : ℕ) → n < count → earliest_end r.period times n + lead ≤ offset_on r.on_clock + (before + n) * r.period + r.jitter
    ends zero h = come.not_late 0 h
    ends (suc n) h = omega (arith, ends n (omega arith), come.not_late (suc n) h, one_more before n r.period)

    pub fits-come : (n : ℕ) → n ≤ count → fits_lead r times lead n ≡ true
    fits-come zero h = refl
    fits-come (suc n) h =
        let p = r.period in
        let o = offset_on r.on_clock in
        let begin = latest_begin p times n in
        let from = begins n (omega arith) in
        let y : ℕ = begin + lead - (o + (before + n) * p) in
        let e : begin + lead + (p - o) ≡ y + (before + n + 1) * p = omega (arith, from, early) in
        let same : past_begin r lead begin ≡ y % p = ap (λ x. x % p) e ∙ add-mul-mod_self_right y (before + n + 1) p in
        le-leb _ _ (omega (arith, same, mod-le y p, ends n (omega arith), from))

  module _ (lead q last : ℕ) (long : suc last ≤ q) (fits : fits_lead r times lead (suc last) ≡ true) where
    abbrev long_lead : ℕ
    long_lead = lead + q * r.period

    abbrev begin : ℕ
    begin = latest_begin r.period times last

    abbrev y : ℕ
    y = begin + long_lead - offset_on r.on_clock

    reaches : (last + 1) * r.period ≤ q * r.period
    reaches = mul-le-mul_right r.period (let h : last + 1 ≤ q = omega arith in h)

    enough : last ≤ y / r.period
    enough = le-div last y r.period some (omega (arith, reaches, early))

    rest : y % r.period ≡ past_begin r lead begin
    rest =
        let p = r.period in
        let z = p - offset_on r.on_clock in
        let e : y + p ≡ begin + lead + z + q * p = omega (arith, reaches, early) in
        sym (add-mod_right y p) ∙ ap (λ x. x % p) e ∙ add-mul-mod_self_right (begin + lead + z) q p

    within : earliest_end r.period times last + y % r.period ≤ begin + r.jitter
    within = omega (arith, rest, leb-true _ _ fits)

    pub come : ComeBy r times long_lead (before_last r times long_lead last) (suc last)
    come = record {
      not_early = λ n h.
          let gap : ℕ = last - n in
          let rows = split (y / r.period - last + n) gap (y / r.period) r.period (omega (arith, enough)) in
          omega (arith, rows, div-add-mod' y r.period, latest-le_before r.period times n gap last (omega arith), reaches, early);
      not_late = λ n h.
          let gap : ℕ = last - n in
          let rows = split (y / r.period - last + n) gap (y / r.period) r.period (omega (arith, enough)) in
          omega (arith, rows, div-add-mod' y r.period, end-ge_before r.period times n gap last (omega arith), within, reaches, early);
    }
