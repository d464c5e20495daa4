use Rattle.std.proofs.Common.{◌+◌, ◌≤◌, ◌∙◌, option_map, refl, sym, ap, subst, arith}
use Rattle.std.specs.Prelude.{vec_capacity}
use Rattle.cpa_sim.specs.JobQueues.{QueueCounts, causes_of, with_arrivals}
use Rattle.cpa_sim.proofs.QueueLaws.{queue-same, kept-length, came-length, some-room}
use Rattle.cpa_sim.proofs.CauseLists.{length-causes}
use Rattle.cpa_sim.proofs.job_queues.JobQueue.arrive.Goals as goal

pub keep_arrivals-requires-clause-room : goal.keep_arrivals-requires-clause-room
keep_arrivals-requires-clause-room c =
    let few = subst (λ (l : QueueCounts). l.count + c.args.causes.count ≤ l.room) (sym c.self.view_is) c.requires.few in
    some-room (λ v. v.items) (λ v. vec_capacity v) c.self.inside.came c.self.inside.count c.args.causes.count c.self.inside.room c.self.invariant.all_came c.self.invariant.taken few

pub invariant_of-self-2 : goal.invariant_of-self-2
invariant_of-self-2 c =
    let causes = c.args.causes in
    let few = subst (λ (l : QueueCounts). l.count + causes.count ≤ l.room) (sym c.self.view_is) c.requires.few in
    let more = ap (λ n. c.self.inside.count + n) (sym (length-causes causes)) in
    record {
      few = few;
      room = c.self.invariant.room;
      within = omega (arith, c.self.invariant.within);
      some = c.self.invariant.some;
      all = λ ks e. more ∙ kept-length c.args.now (causes_of causes) (option_map (λ v. v.items) c.self.inside.kept) (option_map (λ v. v.items) c.keep.new.kept) c.self.inside.count c.in_ok-keep.ensures.more c.self.invariant.all ks e;
      all_came = λ ts e. more ∙ came-length c.args.now (causes_of causes) (option_map (λ v. v.items) c.self.inside.came) (option_map (λ v. v.items) c.keep_arrivals.new.came) c.self.inside.count c.keep_arrivals.ensures.more c.self.invariant.all_came ts e;
      taken = λ n e. c.self.invariant.taken n (sym c.keep_arrivals.ensures.capacity ∙ e);
    }

pub returns-clause-queue : goal.returns-clause-queue
returns-clause-queue c =
    let causes = c.args.causes in
    queue-same _ _ _ _ _ _ _ _ _ _ _ (ap (λ n. c.self.inside.count + n) (sym (length-causes causes))) refl refl c.in_ok-keep.ensures.more c.keep_arrivals.ensures.more
    ∙ ap (with_arrivals c.args.now (causes_of causes)) c.self.view_is
