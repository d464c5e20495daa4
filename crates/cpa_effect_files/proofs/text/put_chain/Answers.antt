use Rattle.std.proofs.Common.{append_assoc}
use Rattle.cpa_effect_files.specs.ChainsText.{chain_line}
use Rattle.cpa_effect_files.proofs.text.put_chain.Goals as goal

pub returns : goal.returns
unfolding chain_line
returns c =
    rw (
      c.in_ok-put-5.ensures,
      c.in_ok-put_held.ensures,
      c.in_ok-put_verdict-2.ensures,
      c.in_ok-put-4.ensures,
      c.in_ok-put_verdict.ensures,
      c.in_ok-put-3.ensures,
      c.in_ok-put_count.ensures,
      c.in_ok-put-2.ensures,
      c.in_ok-put.ensures,
      c.held.ensures,
      c.held-2.ensures.value,
      c.age.ensures,
      c.age-2.ensures.value,
      c.reaction.ensures,
      c.reaction-2.ensures.value,
      c.name.ensures,
      c.tasks-tasks.ensures,
    )
    (simp append_assoc)
