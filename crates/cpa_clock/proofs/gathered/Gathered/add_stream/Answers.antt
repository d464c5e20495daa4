use Rattle.std.proofs.Common.{◌≡◌, ◌∙◌, Some, sym}
use Rattle.cpa_clock.specs.Anchors.{placed_at}
use Rattle.cpa_clock.specs.Gathered.{unless_own}
use Rattle.cpa_clock.proofs.ListLaws.{own-same, own-other, joint-more, joint-same, others-more, others-same}
use Rattle.cpa_clock.proofs.gathered.Gathered.add_stream.Goals as goal

pub returns-in_ok-push-clause-more : goal.returns-in_ok-push-clause-more
returns-in_ok-push-clause-more c own cycles lists clock h =
    let same = own-same c.args.self.now.own c.args.anchor.clock (sym c.eq.ensures ∙ c.if-eq.true) in
    let is = sym h.clock ∙ same in
    let placed = placed_at c.args.stream c.args.anchor c.args.worst in
    let joint = rw is at h.joint in
    let others = rw is at h.others in
    let pushed = rw (joint, c.placed_at-placed.ensures) at c.in_ok-push.ensures.items in
    record {
      clock = h.clock;
      joint = rw is (pushed ∙ sym (joint-more c.args.anchor.clock placed lists));
      others = rw (is, others-same c.args.anchor.clock placed lists) others;
    }

pub returns-in_ok-push-2-clause-more : goal.returns-in_ok-push-2-clause-more
returns-in_ok-push-2-clause-more c own cycles lists clock h =
    let apart : own ≡ Some c.args.anchor.clock → ⊥ = λ same. own-other c.args.self.now.own c.args.anchor.clock (sym c.eq.ensures ∙ c.if-eq.false) (h.clock ∙ same) in
    let placed = placed_at c.args.stream c.args.anchor c.args.worst in
    let pushed = c.in_ok-push-2.ensures.more cycles (unless_own own lists) clock h.others in
    let pushed' = rw c.placed_at-placed.ensures at pushed in
    record {
      clock = h.clock;
      joint = rw (joint-same own c.args.anchor.clock placed lists apart) h.joint;
      others = rw (others-more own c.args.anchor.clock placed lists apart) pushed';
    }
