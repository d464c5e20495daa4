use Rattle.std.proofs.Common.{◌≡◌, ◌∙◌, List, map, take, true, false, sym, ap, subst, arith}
use Rattle.std.specs.List.{All}
use Rattle.cpa_model.specs.declared.locks.CriticalSection.{CriticalSection}
use Rattle.cpa_model.specs.Locks.{section_of, ceiling_of}
use Rattle.cpa_model.specs.Rules.{IsSection}
use Rattle.cpa_model.specs.SystemLists.{task_at, resource_at, priority_of}
use Rattle.cpa_model.specs.declared.entries.Task.{Task}
use Rattle.cpa_sched.specs.Locks.{is_within, active_priority, holds_lock}
use Rattle.cpa_sched.proofs.SectionLaws.{are-sections, sections-more, active-within, active-outside, holds-within, holds-outside}
use Rattle.cpa_sched.proofs.locks.lock_urgency.Goals as goal
use Rattle.cpa_sched.proofs.locks.lock_urgency.Goals.{then-is_within, else-is_within, then-holds, else-holds}

pub is_within-requires : goal.is_within-requires
is_within-requires c =
    let s = c.args.system.now in
    let t = c.task-entry.result.now in
    let all : All IsSection t.locks = are-sections (resource_at s t.res.0).kind t.region t.locks c.task-entry.ensures.rules.locks_fit in
    let each : All IsSection c.sections-section-items.result.now = subst (λ (xs : List CriticalSection). All IsSection xs) (sym c.sections-section-items.ensures) all in
    subst IsSection (sym c.section-item.is) (each c.loop-section.section-index c.section-item.result c.loop-section-test.true)

pub loop-section-preserved : goal.loop-section-preserved
loop-section-preserved c =
    let s = c.args.system.now in
    let t = task_at s c.args.task.0 in
    let f = section_of s t.res.0 in
    let base = priority_of t.turn in
    let received = c.args.received in
    let xs = map f (take c.loop-section.section-index c.sections-section-items.result.now) in
    let x = f c.section-item.result in
    let more = sections-more f c.sections-section-items.result.now c.loop-section.section-index c.section-item.result c.loop-section-test.true c.section-item.is in
    let inv = c.loop-section.invariant in
    elim c.if-is_within.branch [
      | then-is_within w ↦
          let within : is_within received x ≡ true = sym c.is_within.ensures ∙ w.if-is_within.true in
          let more_active = ap (λ ys. active_priority base ys received) more in
          let active = active-within base received xs x within in
          let is = w.active-is in
          let least = w.min-active.ensures in
          let ceiling : w.ceiling.result ≡ ceiling_of s t.res.0 c.section-item.result.lock =
          w.ceiling.ensures ∙ ap (λ (u : Task). ceiling_of s u.res.0 w.bytes.result.now) c.task-entry.ensures.value ∙ ap (ceiling_of s t.res.0) w.bytes.ensures.value in
          record {
            active = omega (arith, more_active, active, is, least, ceiling, inv.active);
            holds = w.holds-is ∙ sym (ap (λ ys. holds_lock ys received) more ∙ holds-within received xs x within);
            small = omega (arith, is, least, inv.small);
          }
      | else-is_within w ↦
          let outside : is_within received x ≡ false = sym c.is_within.ensures ∙ w.if-is_within.false in
          let more_active = ap (λ ys. active_priority base ys received) more in
          let active = active-outside base received xs x outside in
          let is = w.active-is in
          record {
            active = omega (arith, more_active, active, is, inv.active);
            holds = w.holds-is ∙ inv.holds ∙ sym (ap (λ ys. holds_lock ys received) more ∙ holds-outside received xs x outside);
            small = omega (arith, is, inv.small);
          }
    ]

pub overflow_mul-result : goal.overflow_mul-result
overflow_mul-result c = omega (arith, c.from.ensures, c.loop-section.invariant.small)

pub overflow_add-result : goal.overflow_add-result
overflow_add-result c =
    let small = c.loop-section.invariant.small in
    let is = c.from.ensures in
    elim c.if-holds.branch [
      | then-holds w ↦ let at = w.result-is in omega (arith, is, small, at)
      | else-holds w ↦ let at = w.result-is in omega (arith, is, small, at)
    ]
