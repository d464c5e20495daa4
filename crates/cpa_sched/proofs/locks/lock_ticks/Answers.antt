use Rattle.std.proofs.Common.{List, map, take, sym, ap, subst, arith}
use Rattle.std.specs.List.{All}
use Rattle.cpa_model.specs.declared.locks.CriticalSection.{CriticalSection}
use Rattle.cpa_model.specs.Locks.{section_of}
use Rattle.cpa_model.specs.Rules.{IsSection}
use Rattle.cpa_model.specs.SystemLists.{task_at, resource_at}
use Rattle.cpa_sched.specs.Locks.{ticks_to_release}
use Rattle.cpa_sched.proofs.SectionLaws.{are-sections, sections-more, release-before, release-over}
use Rattle.cpa_sched.proofs.locks.lock_ticks.Goals as goal
use Rattle.cpa_sched.proofs.locks.lock_ticks.Goals.{then-received-end, else-received-end}

pub overflow_add-end : goal.overflow_add-end
overflow_add-end c =
    let s = c.args.system.now in
    let t = c.task.result.now in
    let all : All IsSection t.locks = are-sections (resource_at s t.res.0).kind t.region t.locks c.task.ensures.rules.locks_fit in
    let each : All IsSection c.sections-section-items.result.now = subst (λ (xs : List CriticalSection). All IsSection xs) (sym c.sections-section-items.ensures) all in
    let is : IsSection c.section-item.result = subst IsSection (sym c.section-item.is) (each c.loop-section.section-index c.section-item.result c.loop-section-test.true) in
    omega (arith, is.start, is.length)

pub loop-section-preserved : goal.loop-section-preserved
loop-section-preserved c =
    let s = c.args.system.now in
    let f = section_of s (task_at s c.args.task.0).res.0 in
    let most = c.args.most in
    let received = c.args.received in
    let xs = map f (take c.loop-section.section-index c.sections-section-items.result.now) in
    let x = f c.section-item.result in
    let more = ap (λ ys. ticks_to_release most ys received) (sections-more f c.sections-section-items.result.now c.loop-section.section-index c.section-item.result c.loop-section-test.true c.section-item.is) in
    let inv = c.loop-section.invariant in
    elim c.if-received-end.branch [
      | then-received-end w ↦
          let before = release-before most received xs x w.if-received-end.true in
          let is = w.least-is in
          let less = w.min-least.ensures in
          let end = w.if-received-end.true in
          record {
            least = omega (arith, more, before, is, less, inv.least);
            some = omega (arith, is, less, inv.some, end);
            most = omega (arith, is, less, inv.most);
          }
      | else-received-end w ↦
          let over = release-over most received xs x (omega (arith, w.if-received-end.false)) in
          let is = w.least-is in
          record {
            least = omega (arith, more, over, is, inv.least);
            some = omega (arith, is, inv.some);
            most = omega (arith, is, inv.most);
          }
    ]
