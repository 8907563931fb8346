-- Maps of nodes, as the plain data that they stand for.
use Rattle.std.proofs.Common.{◌≡◌, ℕ, List, ap, ◌∙◌, String, Global, BTreeMap}
use Rattle.plan_values.specs.Words.{Map as MapNode, Node, pairs_of, view, viewed, with_pair}
use Rattle.board_decisions.specs.Contexts.{object}
use Rattle.flow_model.proofs.Nodes.{view-Map}
use Rattle.flow_model.proofs.Pairs.{map_values-with_pair}

-- A value that is set is set among what the others stand for.
pub set_seen : (name : List ℕ) (node : Node) (made new : List (List ℕ × Node)) → new ≡ with_pair name node made → viewed new ≡ with_pair name (view node) (viewed made)
set_seen name node made new h = ap viewed h ∙ map_values-with_pair view name node made

-- A map stands for what its pairs do.
pub map_seen : (m : BTreeMap (String Global) Node) (made : List (List ℕ × Node)) → pairs_of m.entries ≡ made → view (MapNode m) ≡ object (viewed made)
map_seen m made h = view-Map m ∙ ap (λ (ps : List (List ℕ × Node)). object (viewed ps)) h
