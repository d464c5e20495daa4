use Rattle.std.proofs.Common.{◌≡◌, ℕ, List, map, string_bytes, Some, refl, ap, ◌∙◌, subst, arith}
use Rattle.cpa_io.specs.Causes.{Rose}
use Rattle.cpa_call.specs.Answers.{Sends}
use Rattle.cpa_effect_files.specs.Calls as calls
use Rattle.cpa_memory.specs.Held.{held_in}
use Rattle.cpa_memory.specs.Words.{chains_words}
use Rattle.cpa_memory.proofs.AnswerLaws.{ended-all}
use Rattle.cpa_memory.proofs.text_commands.chains.Goals as goal

pub returns-clause-answers : goal.returns-clause-answers
returns-clause-answers c =
    let held = held_in c.args.texts in
    let status = c.write_chains-status.result in
    let sink = c.write_chains-status.new.sink in
    let quiet : Rose 0 0 → ⊥ = λ rose. omega (arith, rose) in
    let words : map string_bytes c.as_slice.result.now ≡ chains_words = ap (map string_bytes) c.as_slice.ensures.value ∙ c.in_ok-words.ensures in
    ended-all (calls.IsOutput chains_words held) c.ended.result status c.nothing-written.result.bytes.items sink c.nothing-written.ensures c.ended.ensures.reply c.ended.ensures.status
    (λ enough. subst (λ (w : List (List ℕ)). Sends (calls.IsOutput w held) status (Some c.nothing-written.result.bytes.items) (Some sink.bytes.items)) words (c.write_chains-status.ensures.complete refl quiet quiet enough))
