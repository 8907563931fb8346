-- Every place that is looked at is among the nodes.
use Rattle.std.proofs.Common.{refl, ◌≡◌, ◌∙◌, ◌<◌, ◌≤◌, ◌+◌, ◌⊎◌, inl, inr, ⊎_elim, ℕ, List, [], ◌∷◌, ◌++◌, length, decimal, Option, Some, None, IfSome, String, Global, Ordering, Less, Equal, Greater, nat_cmp, string_bytes, ap, sym, subst, option_and_then, arith}
use Rattle.std.proofs.lemmas.List.Elements.{Contains-append_left, Contains-push, Contains-push_cases}
use Rattle.std.proofs.lemmas.Map.Lookups.{exact_bytes}
use Rattle.std.specs.Cmp.Lexicographic.{slice_cmp}
use Rattle.std.specs.Ordering.{match_ordering}
use Rattle.serde_json.proofs.Views.{get_item_past}
use Rattle.serde_json.specs.Data.{Data, object, array}
use Rattle.serde_json.specs.Find.{get, at, get_member, get_item}
use Rattle.serde_json.specs.View.{view, members_view, items_view}
use Rattle.serde_json.specs.declared.value.Value.{Value}
use Rattle.flow_lint.specs.Keys.{IsOpened}
use Rattle.flow_lint.specs.Kinds.{IsList}
use Rattle.flow_lint.specs.Nodes.{AreAll, GivesInner, Has, HasAt, HasInner, HasItems, HasMembers, Keeps, place_of}
use Rattle.flow_lint.specs.Places.{AreTaken, IsTaken, FilePlace, StandsAt, Way, key, item, below, follow, found, inner, kind_around, kind_of, last_text, level_of, path_text, way_text, whole}
use Rattle.flow_lint.specs.declared.kind.Level.{Level}
use Rattle.flow_lint.specs.declared.kind.NodeKind.{NodeKind}
use Rattle.flow_lint.specs.declared.kind.NodeKind.TheVariants as kinds
use Rattle.flow_lint.specs.declared.node.Node.{Node}

-- ---- one of some nodes

pub has_left : (xs ys : List Node) (path : List ℕ) (p : FilePlace) → Has xs path p → Has (xs ++ ys) path p
has_left xs ys path p h = (h.0, (Contains-append_left xs ys h.0 h.1.0, h.1.1))

pub has_last : (xs : List Node) (node : Node) → Has (xs ++ node ∷ []) node.path (place_of node)
has_last xs node = (node, (Contains-push xs node, (refl, refl)))

pub has_push : (xs : List Node) (node : Node) (path : List ℕ) (p : FilePlace) → Has (xs ++ node ∷ []) path p
    → Has xs path p ⊎ ((node.path ≡ path) × (place_of node ≡ p))
has_push xs node path p h =
    ⊎_elim (λ at. inl (h.0, (at, h.1.1)))
    (λ (is : node ≡ h.0). inr (ap (λ (n : Node). n.path) is ∙ h.1.1.0, ap place_of is ∙ h.1.1.1))
    (Contains-push_cases xs node h.0 h.1.0)

pub kept_by_push : (xs ys : List Node) (node : Node) → ys ≡ xs ++ node ∷ [] → Keeps xs ys
kept_by_push xs ys node e path p h = subst (λ (l : List Node). Has l path p) (sym e) (has_left xs (node ∷ []) path p h)

pub added_by_push : (xs ys : List Node) (node : Node) → ys ≡ xs ++ node ∷ [] → Has ys node.path (place_of node)
added_by_push xs ys node e = subst (λ (l : List Node). Has l node.path (place_of node)) (sym e) (has_last xs node)

-- ---- what stands in a place

-- one more key or number was looked for
pub one_more : (node : Node) (last : List ℕ) (value : Data) (o : Option Data) (r : Option Node) (nodes : List Node)
    → GivesInner node last o r → IfSome r (λ made. Has nodes made.path (place_of made)) → o ≡ Some value → HasAt node last value nodes
one_more node last value None None nodes gives has e = absurd (cc)
one_more node last value None (Some made) nodes gives has e = absurd gives
one_more node last value (Some v) None nodes gives has e = absurd gives
one_more node last value (Some v) (Some made) nodes gives has e =
    let same : v ≡ value = cc in
    subst (λ (w : Data). HasAt node last w nodes) same
    (subst (λ (path : List ℕ). Has nodes path (inner (place_of node) last v)) gives.0
    (subst (λ (p : FilePlace). Has nodes made.path p) gives.1 has))

abbrev pub Entry : Type 0
Entry = String Global × Value

-- each member was found, or is left
abbrev pub MembersLeft : Node → List Entry → List Node → Type 0
MembersLeft node left nodes =
    (name : List ℕ) (value : Data) → get name (view node.value.now) ≡ Some value
    → HasAt node name value nodes ⊎ (get_member name (members_view left) ≡ Some value)

left_or : (o : Ordering) (here : Data) (rest : Option Data) (value : Data) → match_ordering o rest (Some here) rest ≡ Some value
    → (o ≡ Equal) ⊎ (rest ≡ Some value)
left_or Less here rest value e = inr e
left_or Equal here rest value e = inl refl
left_or Greater here rest value e = inr e

pub members_more : (node : Node) (e : Entry) (left : List Entry) (old new : List Node) (r : Option Node)
    → Keeps old new → IfSome r (λ made. Has new made.path (place_of made))
    → GivesInner node (string_bytes e.0) (get (string_bytes e.0) (view node.value.now)) r
    → MembersLeft node (e ∷ left) old → MembersLeft node left new
members_more node e left old new r kept has gives h name value is =
    ⊎_elim (λ (at : HasAt node name value old). inl (kept _ _ at))
    (λ (at : get_member name (members_view (e ∷ left)) ≡ Some value).
    ⊎_elim (λ (same : slice_cmp nat_cmp name (string_bytes e.0) ≡ Equal).
    let named : name ≡ string_bytes e.0 = exact_bytes _ _ same in
    inl (subst (λ (n : List ℕ). HasAt node n value new) (sym named)
    (one_more node (string_bytes e.0) value _ r new gives has (ap (λ (n : List ℕ). get n (view node.value.now)) (sym named) ∙ is))))
    (λ more. inr more)
    (left_or (slice_cmp nat_cmp name (string_bytes e.0)) (view e.1) (get_member name (members_view left)) value at))
    (h name value is)

pub members_first : (node : Node) (entries : List Entry) (nodes : List Node) → view node.value.now ≡ object (members_view entries)
    → MembersLeft node entries nodes
members_first node entries nodes e name value is = inr (ap (get name) (sym e) ∙ is)

pub members_all : (node : Node) (nodes : List Node) → MembersLeft node [] nodes → HasMembers node nodes
members_all node nodes h name value is = ⊎_elim (λ at. at) (λ (no_more : None ≡ Some value). absurd (cc)) (h name value is)

-- the items before this one were found
abbrev pub ItemsUpTo : Node → ℕ → List Node → Type 0
ItemsUpTo node count nodes =
    (place : ℕ) (value : Data) → place < count → at place (view node.value.now) ≡ Some value → HasAt node (decimal place) value nodes

pub items_more : (node : Node) (count : ℕ) (old new : List Node) (r : Option Node)
    → Keeps old new → IfSome r (λ made. Has new made.path (place_of made))
    → GivesInner node (decimal count) (at count (view node.value.now)) r
    → ItemsUpTo node count old → ItemsUpTo node (count + 1) new
items_more node count old new r kept has gives h place value below_count is =
    ⊎_elim (λ (before : place < count). kept _ _ (h place value before is))
    (λ (same : place ≡ count).
    subst (λ (n : ℕ). HasAt node (decimal n) value new) (sym same)
    (one_more node (decimal count) value _ r new gives has (ap (λ (n : ℕ). at n (view node.value.now)) (sym same) ∙ is)))
    (last_or place count below_count)
  where
    last_or : (i n : ℕ) → i < n + 1 → (i < n) ⊎ (i ≡ n)
    last_or i n h = grind arith

pub items_all : (node : Node) (items : List Value) (count : ℕ) (nodes : List Node) → view node.value.now ≡ array (items_view items)
    → length items ≤ count → ItemsUpTo node count nodes → HasItems node nodes
items_all node items count nodes e past h place value is =
    ⊎_elim (λ (before : place < count). h place value before is)
    (λ (after : count ≤ place).
    let gone : None ≡ get_item place (items_view items) = get_item_past items place (omega arith) in
    let found_it : get_item place (items_view items) ≡ Some value = ap (at place) (sym e) ∙ is in
    absurd (cc))
    (before_or place count)
  where
    before_or : (i n : ℕ) → (i < n) ⊎ (n ≤ i)
    before_or i n = grind arith

pub has_no_items : (node : Node) (nodes : List Node) → ((place : ℕ) → at place (view node.value.now) ≡ None) → HasItems node nodes
has_no_items node nodes gone place value is = let here = gone place in absurd (cc)

pub has_no_members : (node : Node) (nodes : List Node) → ((name : List ℕ) → get name (view node.value.now) ≡ None) → HasMembers node nodes
has_no_members node nodes gone name value is = let here = gone name in absurd (cc)

-- ---- nodes that wait

has_none : (path : List ℕ) (p : FilePlace) → Has [] path p → ⊥
has_none path p h = let within = h.1.0.1 in omega arith

-- A place is among the nodes that wait, or among those that were laid out.
abbrev pub IsIn : List Node → List Node → List ℕ → FilePlace → Type 0
IsIn waiting nodes path p = Has waiting path p ⊎ Has nodes path p

none_waits : (nodes : List Node) (path : List ℕ) (p : FilePlace) → IsIn [] nodes path p → Has nodes path p
none_waits nodes path p = ⊎_elim (λ (waits : Has [] path p). absurd (has_none path p waits)) (λ (at : Has nodes path p). at)

-- one of the nodes goes to those that wait
pub one_turned : (all waiting nodes waiting' nodes' : List Node) (node : Node)
    → ((path : List ℕ) (p : FilePlace) → Has all path p → IsIn waiting nodes path p)
    → nodes ≡ nodes' ++ node ∷ [] → waiting' ≡ waiting ++ node ∷ []
    → (path : List ℕ) (p : FilePlace) → Has all path p → IsIn waiting' nodes' path p
one_turned all waiting nodes waiting' nodes' node h nodes_are waiting_are path p at =
    ⊎_elim (λ (was : Has waiting path p). inl (kept_by_push waiting waiting' node waiting_are path p was))
    (λ (was : Has nodes path p).
    ⊎_elim (λ (stays : Has nodes' path p). inr stays)
    (λ (is : (node.path ≡ path) × (place_of node ≡ p)).
    inl (subst (λ (q : FilePlace). Has waiting' path q) is.1
    (subst (λ (front : List ℕ). Has waiting' front (place_of node)) is.0 (added_by_push waiting waiting' node waiting_are))))
    (has_push nodes' node path p (subst (λ (l : List Node). Has l path p) nodes_are was)))
    (h path p at)

pub all_turned : (all waiting nodes : List Node) → ((path : List ℕ) (p : FilePlace) → Has all path p → IsIn waiting nodes path p)
    → nodes ≡ [] → Keeps all waiting
all_turned all waiting nodes h nodes_are path p at =
    ⊎_elim (λ (was : Has waiting path p). was)
    (λ (was : Has nodes path p). absurd (has_none path p (subst (λ (l : List Node). Has l path p) nodes_are was)))
    (h path p at)

-- Each step that is taken from a place leads to one of either.
abbrev pub LeadIn : List Node → List Node → List ℕ → FilePlace → Type 0
LeadIn waiting nodes path p =
    (way : Way) (value : Data) → IsTaken p.kind way → follow way p.value ≡ Some value
    → IsIn waiting nodes (below path (way_text way)) (inner p (way_text way) value)

-- So it is from each node that was laid out.
abbrev pub AreClosed : List Node → List Node → Type 0
AreClosed waiting nodes = (path : List ℕ) (p : FilePlace) → Has nodes path p → LeadIn waiting nodes path p

-- one of those that wait is laid out, and what stands in it waits
pub still_in : (waiting nodes rest waiting' nodes' : List Node) (node : Node)
    → waiting ≡ rest ++ node ∷ [] → Keeps rest waiting' → nodes' ≡ nodes ++ node ∷ []
    → (path : List ℕ) (p : FilePlace) → IsIn waiting nodes path p → IsIn waiting' nodes' path p
still_in waiting nodes rest waiting' nodes' node waiting_are kept nodes_are path p =
    ⊎_elim (λ (was : Has waiting path p).
    ⊎_elim (λ (stays : Has rest path p). inl (kept path p stays))
    (λ (is : (node.path ≡ path) × (place_of node ≡ p)).
    inr (subst (λ (q : FilePlace). Has nodes' path q) is.1
    (subst (λ (front : List ℕ). Has nodes' front (place_of node)) is.0 (added_by_push nodes nodes' node nodes_are))))
    (has_push rest node path p (subst (λ (l : List Node). Has l path p) waiting_are was)))
    (λ (was : Has nodes path p). inr (kept_by_push nodes nodes' node nodes_are path p was))

inner_of : (node : Node) (inners : List Node) → HasInner node inners → (way : Way) (value : Data) → IsTaken node.kind way
    → follow way (view node.value.now) ≡ Some value → HasAt node (way_text way) value inners
inner_of node inners h (key name) value taken is = h.0 taken name value is
inner_of node inners h (item place) value taken is = h.1 taken place value is

pub still_closed : (waiting nodes rest inners waiting' nodes' : List Node) (node : Node)
    → waiting ≡ rest ++ node ∷ [] → Keeps rest waiting' → Keeps inners waiting' → HasInner node inners → nodes' ≡ nodes ++ node ∷ []
    → AreClosed waiting nodes → AreClosed waiting' nodes'
still_closed waiting nodes rest inners waiting' nodes' node waiting_are kept added all nodes_are closed path p at =
    ⊎_elim (λ (was : Has nodes path p) (way : Way) (value : Data) (taken : IsTaken p.kind way) (is : follow way p.value ≡ Some value).
    still_in waiting nodes rest waiting' nodes' node waiting_are kept nodes_are _ _ (closed path p was way value taken is))
    (λ (is : (node.path ≡ path) × (place_of node ≡ p)).
    subst (λ (q : FilePlace). LeadIn waiting' nodes' path q) is.1
    (subst (λ (front : List ℕ). LeadIn waiting' nodes' front (place_of node)) is.0
    (λ (way : Way) (value : Data) (taken : IsTaken node.kind way) (found_it : follow way (view node.value.now) ≡ Some value).
    inl (added _ _ (inner_of node inners all way value taken found_it)))))
    (has_push nodes node path p (subst (λ (l : List Node). Has l path p) nodes_are at))

-- ---- where none waits

abbrev place_with : NodeKind → NodeKind → Level → List ℕ → Data → FilePlace
place_with around kind level last value = record {
  around = around;
  kind = kind;
  level = level;
  last = last;
  value = value;
}

abbrev place_at : List Way → Data → FilePlace
place_at ways value = place_with (kind_around ways) (kind_of ways) (level_of ways) (last_text ways) value

at_its_place : (root : Data) (path : List ℕ) (p : FilePlace) (s : StandsAt root path p) → place_at s.ways p.value ≡ p
at_its_place root path p s =
    ap (λ (around : NodeKind). place_with around (kind_of s.ways) (level_of s.ways) (last_text s.ways) p.value) (sym s.is_around)
    ∙ (ap (λ (kind : NodeKind). place_with p.around kind (level_of s.ways) (last_text s.ways) p.value) (sym s.is_kind)
    ∙ (ap (λ (level : Level). place_with p.around p.kind level (last_text s.ways) p.value) (sym s.is_level)
    ∙ ap (λ (last : List ℕ). place_with p.around p.kind p.level last p.value) (sym s.is_last)))

step_back : (way : Way) (o : Option Data) (value : Data) → option_and_then (follow way) o ≡ Some value
    → (d : Data) × ((o ≡ Some d) × (follow way d ≡ Some value))
step_back way None value e = absurd (cc)
step_back way (Some d) value e = (d, (refl, e))

along : (root : Data) (nodes : List Node) → Has nodes [] (whole root) → AreClosed [] nodes
    → (ways : List Way) (value : Data) → found ways root ≡ Some value → AreTaken ways → Has nodes (path_text ways) (place_at ways value)
along root nodes has closed [] value is taken =
    let same : root ≡ value = cc in
    subst (λ (d : Data). Has nodes [] (whole d)) same has
along root nodes has closed (way ∷ ways) value is taken =
    let back = step_back way (found ways root) value is in
    let behind = along root nodes has closed ways back.0 back.1.0 taken.1 in
    none_waits nodes _ _ (closed (path_text ways) (place_at ways back.0) behind way value taken.0 back.1.1)

pub all_in : (root : Data) (nodes : List Node) → IsIn [] nodes [] (whole root) → AreClosed [] nodes → AreAll root nodes
all_in root nodes has closed path p looked =
    let s = looked.stands in
    subst (λ (q : FilePlace). Has nodes path q) (at_its_place root path p s)
    (subst (λ (front : List ℕ). Has nodes front (place_at s.ways p.value)) (sym s.is_path)
    (along root nodes (none_waits nodes [] (whole root) has) closed s.ways p.value s.stands looked.are_taken))

-- ---- at the start

pub first_in : (root : Data) (waiting nodes none : List Node) (node : Node) → waiting ≡ none ++ node ∷ [] → node.path ≡ []
    → place_of node ≡ whole root → IsIn waiting nodes [] (whole root)
first_in root waiting nodes none node waiting_are is_path is_place =
    inl (subst (λ (p : FilePlace). Has waiting [] p) is_place
    (subst (λ (path : List ℕ). Has waiting path (place_of node)) is_path (added_by_push none waiting node waiting_are)))

pub first_closed : (waiting nodes : List Node) → nodes ≡ [] → AreClosed waiting nodes
first_closed waiting nodes nodes_are path p at = absurd (has_none path p (subst (λ (l : List Node). Has l path p) nodes_are at))

-- ---- what is not opened

opened_list : (kind : NodeKind) → IsList kind → IsOpened kind
opened_list kind = ⊎_elim (λ (e : kind ≡ kinds.Steps). subst IsOpened (sym e) (inr (λ (no : kinds.Step ≡ kinds.Unknown). cc)))
    (λ (e : kind ≡ kinds.Needs). subst IsOpened (sym e) (inr (λ (no : kinds.Need ≡ kinds.Unknown). cc)))

pub none_inside : (node : Node) (nodes : List Node) → (IsOpened node.kind → ⊥) → HasInner node nodes
none_inside node nodes closed = (λ opened. absurd (closed opened), λ list. absurd (closed (opened_list node.kind list)))
