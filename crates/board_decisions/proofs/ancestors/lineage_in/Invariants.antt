use Rattle.std.proofs.Common.{◌≡◌, ◌≤◌, length}
use Rattle.board_decisions.proofs.Lineages.{Found}
use Rattle.board_decisions.proofs.ancestors.lineage_in.Given as goal

-- of each job so far it is found how its ancestors ended
abbrev pub invariant-loop-job : goal.invariant-loop-job
invariant-loop-job l = record {
  size : length l.lineages.items ≡ l.job-index;
  before : l.job-index ≤ l.place;
  found : Found l.first l.jobs l.results l.lineages.items l.job-index;
}
