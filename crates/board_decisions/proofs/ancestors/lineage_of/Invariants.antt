use Rattle.std.proofs.Common.{◌≡◌, take}
use Rattle.board_decisions.proofs.Lineages.{needed_by}
use Rattle.board_decisions.proofs.ancestors.lineage_of.Given as goal

abbrev pub invariant-loop-need : goal.invariant-loop-need
invariant-loop-need l = l.all ≡ needed_by l.first l.results l.lineages (take l.need-index l.needs)
