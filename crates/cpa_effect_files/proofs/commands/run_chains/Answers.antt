use Rattle.std.proofs.Common.{◌≡◌, [], arith}
use Rattle.std.proofs.lemmas.List.{nil_from_length}
use Rattle.cpa_call.proofs.CallLaws.{meets-refused}
use Rattle.cpa_effect_files.proofs.commands.run_chains.Goals as goal

pub returns-in-empty : goal.returns-in-empty
returns-in-empty g c =
    let none : c.args.words.now ≡ [] = nil_from_length c.args.words.now (omega (arith, c.in-empty.len_below)) in
    rw none (meets-refused _ _ _ _ _ c.status_of.ensures c.refuse_words.ensures.ended c.refuse_words.ensures.status c.send_end.ensures)
