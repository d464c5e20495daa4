-- The text of the bounds of chains and the verdicts on their deadlines, and its status.
use Rattle.std.specs.Prelude.{ℕ, ◌++◌, ◌||◌, nat_lt, if◌then◌else◌, Bool, List, [], Option, Some, None, length, count_by, codes}
use Rattle.std.specs.Fmt.{decimal}
use Rattle.std.specs.List.{flat_map}
use Rattle.cpa_units.specs.declared.bound.Bound.{Bound}
use Rattle.cpa_model.specs.SystemLists.{SystemLists}
use Rattle.cpa_local.specs.Paths.{deadline_verdict_of, is_missed_by, is_overload}
use Rattle.cpa_report.specs.Report.{bound_text, deadline_text, deadline_verdict_text}
use Rattle.cpa_effects.specs.Bounds.{reaction_of, age_of, held_of}
use Rattle.cpa_effects.specs.ChainText.{premise}
use Rattle.cpa_effect_files.specs.Chain.{Chain}
use Rattle.cpa_effect_files.specs.declared.text.Totals.{Totals}

-- a bound, a deadline, and the verdict
unfoldable pub verdict_text : Option ℕ → Bound → List ℕ
verdict_text deadline bound =
    codes " " ++ bound_text bound ++ codes " deadline " ++ deadline_text deadline ++ codes " " ++ deadline_verdict_text (deadline_verdict_of deadline bound)

-- the same of what is held, where there is a deadline for it
unfoldable pub held_text : Option ℕ → Bound → List ℕ
held_text None bound = []
held_text (Some deadline) bound = codes " held" ++ verdict_text (Some deadline) bound

unfoldable pub chain_line : SystemLists → List Bound → Chain → List ℕ
chain_line s x c =
    codes "chain " ++ c.name ++ codes " tasks " ++ decimal (length c.tasks)
    ++ codes " reaction" ++ verdict_text c.reaction (reaction_of s x c.tasks)
    ++ codes " age" ++ verdict_text c.age (age_of s x c.tasks)
    ++ held_text c.held (held_of s x c.tasks) ++ codes "\n"

-- one of the two bounds is missing; what is held is bounded where the reaction is
abbrev pub is_overloaded : SystemLists → List Bound → Chain → Bool
is_overloaded s x c = is_overload (reaction_of s x c.tasks) || is_overload (age_of s x c.tasks)

-- one of the three deadlines is missed
abbrev pub is_late : SystemLists → List Bound → Chain → Bool
is_late s x c =
    is_missed_by (deadline_verdict_of c.reaction (reaction_of s x c.tasks)) || is_missed_by (deadline_verdict_of c.age (age_of s x c.tasks))
    || is_missed_by (deadline_verdict_of c.held (held_of s x c.tasks))

-- how many chains lack a bound, and how many miss a deadline
unfoldable pub totals : SystemLists → List Bound → List Chain → Totals
totals s x chains = record { overload = count_by (is_overloaded s x) chains; missed = count_by (is_late s x) chains }

unfoldable pub summary_line : ℕ → Totals → List ℕ
summary_line count t =
    codes "summary chains " ++ decimal count ++ codes " overload " ++ decimal t.overload ++ codes " missed " ++ decimal t.missed ++ premise

-- a line for each chain, and the counts with what the bounds presume
unfoldable pub chains_text : SystemLists → List Bound → List Chain → List ℕ
chains_text s x chains = flat_map (chain_line s x) chains ++ summary_line (length chains) (totals s x chains)

-- 2 where a bound is missing; else 1 where a deadline is missed; else 0
abbrev pub status_of : Totals → ℕ
status_of t = if nat_lt 0 t.overload then 2 else if nat_lt 0 t.missed then 1 else 0

abbrev pub chains_status : SystemLists → List Bound → List Chain → ℕ
chains_status s x chains = status_of (totals s x chains)
