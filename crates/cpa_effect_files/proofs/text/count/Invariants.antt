use Rattle.std.proofs.Common.{◌≡◌, ◌≤◌, take}
use Rattle.std.specs.Prelude.{count_by}
use Rattle.cpa_effect_files.specs.ChainsText.{is_overloaded, is_late}
use Rattle.cpa_effect_files.proofs.text.count.Given as goal

abbrev pub invariant-loop-k : goal.invariant-loop-k
invariant-loop-k l = record {
  overload : l.overload ≡ count_by (is_overloaded l.system l.x) (take l.k l.chains);
  missed : l.missed ≡ count_by (is_late l.system l.x) (take l.k l.chains);
  few_overload : l.overload ≤ l.k;
  few_missed : l.missed ≤ l.k;
}
