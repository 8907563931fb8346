-- A node, level by level.
use Rattle.std.proofs.Common.{◌≡◌, ℕ, List, [], ◌∷◌, String, Vec, BTreeMap, Global, string_bytes, map, refl, ap, ◌∙◌, rules}
use Rattle.flow_model.specs.Mapping.{pairs_of}
use Rattle.flow_model.specs.Plain as plain
use Rattle.flow_model.specs.Value.{view, views, viewed}
use Rattle.flow_model.specs.declared.value.Node.{Node, List as ListNode, Map as MapNode, the_lemmas}

pairs_of-seen : (es : List (String Global × Node)) → pairs_of (map (λ e. (e.0, view e.1)) es) ≡ viewed (pairs_of es)
pairs_of-seen [] = refl
pairs_of-seen (e ∷ es) = ap (λ (ps : List (List ℕ × plain.Plain)). (string_bytes e.0, view e.1) ∷ ps) (pairs_of-seen es)

view-Map-seen : (m : BTreeMap (String Global) Node) → view (MapNode m) ≡ plain.map (plain.members_of (pairs_of (map (λ e. (e.0, view e.1)) m.entries)))
view-Map-seen m = search (rules, the_lemmas)

-- a map's node stands for its pairs
pub view-Map : (m : BTreeMap (String Global) Node) → view (MapNode m) ≡ plain.map (plain.members_of (viewed (pairs_of m.entries)))
view-Map m = view-Map-seen m ∙ ap (λ (ps : List (List ℕ × plain.Plain)). plain.map (plain.members_of ps)) (pairs_of-seen m.entries)

-- a list's node stands for its items
pub view-List : (v : Vec Node Global) → view (ListNode v) ≡ plain.list (plain.items_of (views v.items))
view-List v = search (rules, the_lemmas)
