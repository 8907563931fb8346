-- The data that a value stands for.
use Rattle.std.specs.Prelude.{ℕ, List, map}
use Rattle.flow_model.specs.Mapping.{pairs_of, map_values}
use Rattle.flow_model.specs.Plain as plain
use Rattle.flow_model.specs.declared.value.Node.{Node, fold-Node}
use Rattle.flow_model.specs.declared.value.Node.TheOpen.{Node-F}

-- one level, with each value inside already seen as its data
abbrev pub view_step : Node-F plain.Plain → plain.Plain
view_step Node-F.Null = plain.null
view_step (Node-F.Truth b) = plain.truth b
view_step (Node-F.Whole z) = plain.whole z
view_step (Node-F.Text t) = plain.text t
view_step (Node-F.List vs) = plain.list (plain.items_of vs.items)
view_step (Node-F.Map m) = plain.map (plain.members_of (pairs_of m.entries))

-- the data of a node
abbrev pub view : Node → plain.Plain
view = fold-Node plain.Plain view_step

-- the items of a list, as data
abbrev pub views : List Node → List plain.Plain
views nodes = map view nodes

-- the pairs of a map, as data
abbrev pub viewed : List (List ℕ × Node) → List (List ℕ × plain.Plain)
viewed pairs = map_values view pairs
