-- Going over the files of workflows.
use Rattle.std.proofs.Common.{◌≤◌, ℕ, List, [], ◌++◌, length, drop, sym, subst, append-nil}
use Rattle.std.proofs.lemmas.List.{drop_all}
use Rattle.status_table.specs.Words.{Workflow}
use Rattle.command_io.specs.Files.{Content}
use Rattle.command_print.specs.Planning.{GiveFlows, GiveNoFlows}
use Rattle.command_io.specs.declared.error.CommandError.{CommandError}

-- The first i files stand for these workflows: what the others stand for is what all do.
pub record GoingFlows (files : List Content) (i : ℕ) (flows : List Workflow) : Type 0 where
  pub made : (more : List Workflow) → GiveFlows (drop i files) more → GiveFlows files (flows ++ more)
  pub fail : (error : CommandError) → GiveNoFlows (drop i files) error → GiveNoFlows files error

pub all_flows : (files : List Content) (i : ℕ) (flows : List Workflow) → length files ≤ i → GoingFlows files i flows → GiveFlows files flows
all_flows files i flows past g =
    subst (λ (l : List Workflow). GiveFlows files l) (append-nil flows)
    (g.made [] (subst (λ (l : List Content). GiveFlows l []) (sym (drop_all i files past)) tt))
