use Rattle.std.proofs.Common.{◌≡◌, ℕ, List, map, string_bytes, Some, refl, ap, ◌∙◌, subst, arith}
use Rattle.cpa_io.specs.Causes.{Rose}
use Rattle.cpa_call.specs.Answers.{Sends}
use Rattle.cpa_effects.specs.Calls as calls
use Rattle.cpa_memory.specs.Held.{held_in}
use Rattle.cpa_memory.specs.Words.{chain_call}
use Rattle.cpa_memory.proofs.AnswerLaws.{ended-all}
use Rattle.cpa_memory.proofs.text_commands.chain.Goals as goal

pub returns-clause-answers : goal.returns-clause-answers
returns-clause-answers c =
    let held = held_in c.args.texts in
    let status = c.write_chain_by-status.result in
    let sink = c.write_chain_by-status.new.sink in
    let quiet : Rose 0 0 → ⊥ = λ rose. omega (arith, rose) in
    let words : map string_bytes c.as_slice.result.now ≡ (chain_call c.args.tasks.now c.args.while_running).words = ap (map string_bytes) c.as_slice.ensures.value ∙ c.in_ok-words.ensures in
    let same : record { reading = c.reading_of-reading.result; words = map string_bytes c.as_slice.result.now } ≡ chain_call c.args.tasks.now c.args.while_running = (λ i. record { reading = c.reading_of-reading.ensures i; words = words i }) in
    ended-all (calls.IsOutputOf (chain_call c.args.tasks.now c.args.while_running) held) c.ended.result status c.nothing-written.result.bytes.items sink c.nothing-written.ensures c.ended.ensures.reply c.ended.ensures.status
    (λ enough. subst (λ (it : calls.Call). Sends (calls.IsOutputOf it held) status (Some c.nothing-written.result.bytes.items) (Some sink.bytes.items)) same (c.write_chain_by-status.ensures.complete refl quiet quiet enough))
