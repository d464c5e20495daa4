use Rattle.std.proofs.Common.{◌≡◌, ◌∙◌, ◌+◌, ◌<◌, option_map, sym, ap, subst, arith}
use Rattle.cpa_model.specs.declared.entries.Resource.{Resource}
use Rattle.cpa_model.specs.declared.entries.Kind.TheVariants.{Preemptive, Can, Fifo, Ceiling}
use Rattle.cpa_model.specs.SystemLists.{place_of}
use Rattle.cpa_sched.specs.Steps.{kind_of, can_step}
use Rattle.cpa_sched.specs.States.{seen}
use Rattle.cpa_sched.specs.Stretches.{IsStretch, state_later}
use Rattle.cpa_sched.specs.WaitingRanges.{CameSince}
use Rattle.cpa_sched.proofs.RegionLaws.{region-stretch, region-long}
use Rattle.cpa_sched.proofs.StretchLaws.{frame-stretch, frame-long, later-queued, queued-stretch, queued-long, later-ceiling, ceiling-stretch, ceiling-long}
use Rattle.cpa_sched.proofs.CeilingLaws.{ceiling-goes_on}
use Rattle.cpa_sched.proofs.stretches.stretch_by_order.Goals as goal

pub returns-in-Preemptive-clause-stretch : goal.returns-in-Preemptive-clause-stretch
returns-in-Preemptive-clause-stretch g c n less =
    let s = c.args.system.now in
    let r = c.args.ranking.now.res.0 in
    let q = g.Q.Queue.ready c.args.queue.now in
    let kind : kind_of s r ≡ Preemptive = sym (ap (λ (x : Resource). x.kind) c.resource.ensures.value) ∙ c.in-Preemptive.is in
    let o = option_map place_of c.regions_by.result.task in
    subst (λ k. IsStretch s r (seen c.args.state.now) q c.args.tick c.args.phase (n + 1) o (state_later k o (seen c.regions_by.new.state) n)) (sym kind)
    (region-stretch s r q kind (seen c.args.state.now) (seen c.regions_by.new.state) c.args.tick c.args.phase o c.regions_by.ensures.step c.args.most n c.requires.belongs (subst (λ m. n < m) c.regions_by.ensures.ticks less))

pub returns-in-Preemptive-clause-length : goal.returns-in-Preemptive-clause-length
returns-in-Preemptive-clause-length g c =
    let s = c.args.system.now in
    let r = c.args.ranking.now.res.0 in
    let q = g.Q.Queue.ready c.args.queue.now in
    let kind : kind_of s r ≡ Preemptive = sym (ap (λ (x : Resource). x.kind) c.resource.ensures.value) ∙ c.in-Preemptive.is in
    let o = option_map place_of c.regions_by.result.task in
    region-long s r q kind (seen c.args.state.now) (seen c.regions_by.new.state) c.args.tick c.args.phase o c.regions_by.ensures.step c.args.most c.regions_by.result.ticks c.regions_by.ensures.ticks

pub returns-in-Can-clause-stretch : goal.returns-in-Can-clause-stretch
returns-in-Can-clause-stretch g c n less =
    let s = c.args.system.now in
    let r = c.args.ranking.now.res.0 in
    let q = g.Q.Queue.ready c.args.queue.now in
    let kind : kind_of s r ≡ Can c.in-Can.bit = sym (ap (λ (x : Resource). x.kind) c.resource.ensures.value) ∙ c.in-Can.is in
    let o = option_map place_of c.frame_by.result in
    subst (λ k. IsStretch s r (seen c.args.state.now) q c.args.tick c.args.phase (n + 1) o (state_later k o (seen c.frame_by.new.state) n)) (sym kind)
    (frame-stretch s r q (seen c.args.state.now) c.args.tick c.args.phase c.in-Can.bit n (option_map place_of c.frame_by.result) (seen c.frame_by.new.state) kind (c.frame_by.ensures.step ∙ ap (can_step (seen c.args.state.now) (seen c.args.state.now).holder) (c.requires.ranking q.waits)))

pub returns-in-Can-clause-length : goal.returns-in-Can-clause-length
returns-in-Can-clause-length g c =
    let s = c.args.system.now in
    let r = c.args.ranking.now.res.0 in
    let q = g.Q.Queue.ready c.args.queue.now in
    let kind : kind_of s r ≡ Can c.in-Can.bit = sym (ap (λ (x : Resource). x.kind) c.resource.ensures.value) ∙ c.in-Can.is in
    frame-long s r q (seen c.args.state.now) c.args.tick c.args.phase c.in-Can.bit c.args.most kind

pub returns-in-Preemptive-clause-since : goal.returns-in-Preemptive-clause-since
returns-in-Preemptive-clause-since g c =
    let q = g.Q.Queue.ready c.args.queue.now in
    subst (CameSince c.args.system.now c.args.ranking.now.res.0 q.waits q.arrival) (sym c.regions_by.ensures.since) c.requires.since

pub returns-in-Can-clause-since : goal.returns-in-Can-clause-since
returns-in-Can-clause-since g c =
    let q = g.Q.Queue.ready c.args.queue.now in
    subst (CameSince c.args.system.now c.args.ranking.now.res.0 q.waits q.arrival) (sym c.frame_by.ensures.since) c.requires.since

pub returns-in-Fifo-clause-stretch : goal.returns-in-Fifo-clause-stretch
returns-in-Fifo-clause-stretch g c n less =
    let s = c.args.system.now in
    let r = c.args.ranking.now.res.0 in
    let q = g.Q.Queue.ready c.args.queue.now in
    let kind : kind_of s r ≡ Fifo = sym (ap (λ (x : Resource). x.kind) c.resource.ensures.value) ∙ c.in-Fifo.is in
    let st = seen c.args.state.now in
    let o = option_map place_of c.first_come_within.result.task in
    subst (λ k. IsStretch s r st q c.args.tick c.args.phase (n + 1) o (state_later k o st n)) (sym kind)
    (subst (IsStretch s r st q c.args.tick c.args.phase (n + 1) o) (sym (later-queued o st n))
    (queued-stretch s r q st c.args.tick c.args.phase kind (n + 1) o (c.first_come_within.ensures.step st)))

pub returns-in-Fifo-clause-length : goal.returns-in-Fifo-clause-length
returns-in-Fifo-clause-length g c =
    let s = c.args.system.now in
    let r = c.args.ranking.now.res.0 in
    let q = g.Q.Queue.ready c.args.queue.now in
    let kind : kind_of s r ≡ Fifo = sym (ap (λ (x : Resource). x.kind) c.resource.ensures.value) ∙ c.in-Fifo.is in
    c.first_come_within.ensures.ticks ∙ queued-long s r q (seen c.args.state.now) c.args.tick c.args.phase kind c.args.most

pub returns-in-Ceiling-clause-stretch : goal.returns-in-Ceiling-clause-stretch
returns-in-Ceiling-clause-stretch g c n less =
    let s = c.args.system.now in
    let r = c.args.ranking.now.res.0 in
    let q = g.Q.Queue.ready c.args.queue.now in
    let kind : kind_of s r ≡ Ceiling = sym (ap (λ (x : Resource). x.kind) c.resource.ensures.value) ∙ c.in-Ceiling.is in
    let st = seen c.args.state.now in
    let o = option_map place_of c.most_active.result.task in
    let step = c.most_active.ensures.step st in
    subst (λ k. IsStretch s r st q c.args.tick c.args.phase (n + 1) o (state_later k o st n)) (sym kind)
    (subst (IsStretch s r st q c.args.tick c.args.phase (n + 1) o) (sym (later-ceiling o st n))
    (ceiling-stretch s r q st c.args.tick c.args.phase kind (n + 1) o step
    (λ m h. ceiling-goes_on s r st q c.args.most m o step (omega (arith, h, less, c.most_active.ensures.ticks)))))

pub returns-in-Ceiling-clause-length : goal.returns-in-Ceiling-clause-length
returns-in-Ceiling-clause-length g c =
    let s = c.args.system.now in
    let r = c.args.ranking.now.res.0 in
    let q = g.Q.Queue.ready c.args.queue.now in
    let kind : kind_of s r ≡ Ceiling = sym (ap (λ (x : Resource). x.kind) c.resource.ensures.value) ∙ c.in-Ceiling.is in
    let st = seen c.args.state.now in
    let o = option_map place_of c.most_active.result.task in
    c.most_active.ensures.ticks ∙ ceiling-long s r q st c.args.tick c.args.phase kind c.args.most o (c.most_active.ensures.step st)
