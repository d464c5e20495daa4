-- What slack means, and what the search stands on.
use Rattle.std.specs.Prelude.{ℕ, ◌+◌, ◌<◌, ◌≤◌, ◌≡◌, length}
use Rattle.cpa_units.specs.Sizes.{most_execution}
use Rattle.cpa_model.specs.SystemLists.{SystemLists, task_at}
use Rattle.cpa_model.specs.Rules.{IsSystem}
use Rattle.cpa_slack.specs.declared.slack.Slack.{Slack}
use Rattle.cpa_slack.specs.Slack.{longer, Holds, IsSlack}

-- what holds with more holds with less
abbrev pub LessHolds : Type 0
LessHolds =
    (s : SystemLists) (i k more : ℕ) → IsSystem s → i < length s.tasks → k ≤ more → (task_at s i).worst + more ≤ most_execution s.size
    → Holds (longer s i more) → Holds (longer s i k)

-- a system in which a task may take longer, as far as an execution may grow, is a system
abbrev pub LongerKeepsRules : Type 0
LongerKeepsRules =
    (s : SystemLists) (i k : ℕ) → IsSystem s → i < length s.tasks → (task_at s i).worst + k ≤ most_execution s.size → IsSystem (longer s i k)

-- a task has a slack
abbrev pub SlackExists : Type 0
SlackExists = (s : SystemLists) (i : ℕ) → IsSystem s → i < length s.tasks → (slack : Slack) × IsSlack s i slack

-- and it is the only one
abbrev pub SlackIsOne : Type 0
SlackIsOne = (s : SystemLists) (i : ℕ) (slack other : Slack) → IsSlack s i slack → IsSlack s i other → slack ≡ other
