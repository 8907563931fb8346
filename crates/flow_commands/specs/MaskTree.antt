-- Masks as a tree of nodes, which are reached byte by byte. The root is node 0.
use Rattle.std.specs.Prelude.{◌≡◌, ℕ, zero, suc, ◌<◌, ◌≤◌, Bool, false, ◌||◌, ◌&&◌, List, [], ◌∷◌, length, slice_index_or, Option, Some, None, Result, IfOk, nat_eq, bytes_eq}
use Rattle.std.specs.HashMap.{HashMap, get}
use Rattle.std.specs.List.{starts_with}
use Rattle.flow_commands.specs.declared.mask_tree.MaskTree.{MaskTree}

-- the edges of a tree: where a byte leads from a node, if it leads on
abbrev pub Edges : Type 0
Edges = ℕ → ℕ → Option ℕ

-- where a byte leads from the node that was reached, if one was
abbrev pub followed : Edges → Option ℕ → ℕ → Option ℕ
followed edges None b = None
followed edges (Some node) b = edges node b

-- the node that a text leads to from there
abbrev pub reached_from : Edges → Option ℕ → List ℕ → Option ℕ
reached_from edges start [] = start
reached_from edges start (b ∷ text) = reached_from edges (followed edges start b) text

-- the node that a text leads to from the root
abbrev pub reached : Edges → List ℕ → Option ℕ
reached edges text = reached_from edges (Some 0) text

-- whether a text is one of the masks
abbrev pub is_mask : List (List ℕ) → List ℕ → Bool
is_mask [] text = false
is_mask (mask ∷ masks) text = bytes_eq mask text || is_mask masks text

-- whether one of the masks begins with a text
abbrev pub is_begun : List (List ℕ) → List ℕ → Bool
is_begun [] text = false
is_begun (mask ∷ masks) text = starts_with nat_eq mask text || is_begun masks text

-- whether a node is marked as an end; the root never is
abbrev pub is_end : List Bool → ℕ → Bool
is_end ends zero = false
is_end ends (suc node) = slice_index_or ends node false

-- The tree of these masks.
pub record IsTree (masks : List (List ℕ)) (edges : Edges) (ends : List Bool) : Type 0 where
  -- the nodes after the root are numbered, as many as may be marked
  pub nodes : (from b to : ℕ) → edges from b ≡ Some to → (from ≤ length ends) × (0 < to) × (to ≤ length ends)
  -- one text leads to a node
  pub one_text : (text other : List ℕ) (node : ℕ) → reached edges text ≡ Some node → reached edges other ≡ Some node → text ≡ other
  -- the nodes of masks are marked
  pub marked : (text : List ℕ) (node : ℕ) → reached edges text ≡ Some node → 0 < node → is_end ends node ≡ is_mask masks text
  -- a text with which a mask begins leads to a node
  pub begun : (text : List ℕ) → reached edges text ≡ None → is_begun masks text ≡ false

-- whether two pairs of a node and a byte are the same
abbrev pub same_edge : ℕ × ℕ → ℕ × ℕ → Bool
same_edge x y = nat_eq x.0 y.0 && nat_eq x.1 y.1

-- the edges that a map lists
abbrev pub listed : {S : Type 0} → HashMap (ℕ × ℕ) ℕ S → Edges
listed edges node b = get same_edge edges (node, b)

abbrev pub edges_of : MaskTree → Edges
edges_of tree = listed tree.edges

-- The tree is that of these masks, and each byte that leads on from its root is listed.
pub record IsTreeOf (masks : List (List ℕ)) (tree : MaskTree) : Type 0 where
  pub nodes : IsTree masks (edges_of tree) tree.ends.items
  pub bytes : length tree.firsts ≡ 256
  pub firsts : (b : ℕ) → slice_index_or tree.firsts b false ≡ false → edges_of tree 0 b ≡ None

-- The tree is still that of these masks, and the text leads to the node that is answered, if one is.
abbrev pub Leads : {E : Type 0} → List (List ℕ) → MaskTree → List ℕ → Result ℕ E → Type 0
Leads masks tree text result = IsTreeOf masks tree × IfOk result (λ node. reached (edges_of tree) text ≡ Some node)
