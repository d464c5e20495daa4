use Rattle.std.proofs.Common.{sym, ◌∙◌, arith}
use Rattle.std.proofs.lemmas.Bool.{false≢true}
use Rattle.cpa_events.proofs.EventLaws.{in_range-is_model}
use Rattle.cpa_can.proofs.FrameLaws.{unbounded-overload}
use Rattle.cpa_can.proofs.LateLaws.{late}
use Rattle.cpa_can.proofs.is_within.Goals as goal

pub returns-then-some_unbounded : goal.returns-then-some_unbounded
returns-then-some_unbounded c =
    let a = c.args in
    let none = unbounded-overload a.own.now a.worst a.blocking a.rivals.now a.bit a.limit (sym c.some_unbounded.ensures ∙ c.if-some_unbounded.true) in (
      λ no. absurd (false≢true no),
      λ h. absurd (rw none at h),
    )

pub returns-in_default : goal.returns-in_default
returns-in_default c =
    let a = c.args in
    let bounded = sym c.some_unbounded.ensures ∙ c.if-some_unbounded.false in (
      λ no. absurd (false≢true no),
      λ h. absurd (late a.own.now a.worst a.blocking a.rivals.now a.bit a.limit a.most c.min.result (in_range-is_model a.own.now c.requires.own) (λ v limited reached. omega (arith, limited, reached)) bounded c.in_default.ensures.none h),
    )
