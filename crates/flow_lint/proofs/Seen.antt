-- What no node shows is to be seen nowhere.
use Rattle.std.proofs.Common.{refl, ◌≡◌, ◌∙◌, ◌≤◌, ◌<◌, ◌+◌, ◌⊎◌, ℕ, List, get_or, length, take, ap, ⊎_elim, sym, subst, Option, Some, None, codes, option_and_then, arith}
use Rattle.std.proofs.lemmas.List.{take_all}
use Rattle.std.proofs.lemmas.List.Elements.{All-contains, All-more}
use Rattle.std.specs.List.{All}
use Rattle.serde_json.proofs.Views.{get_item_past}
use Rattle.serde_json.specs.Data.{Data, null, boolean, number, string, array, object, Items}
use Rattle.serde_json.specs.Find.{as_array, as_str, at, get, get_item}
use Rattle.serde_json.specs.View.{items_view}
use Rattle.serde_json.specs.declared.value.Value.{Value}
use Rattle.flow_lint.specs.Nodes.{AreAll, place_of}
use Rattle.flow_reader.specs.declared.fault.FlowFault.{FlowFault}
use Rattle.flow_reader.specs.declared.fault.FlowFault.TheVariants as flow
use Rattle.flow_lint.specs.Notes.{FlowPlace, IsNowhere, IsSeen}
use Rattle.flow_lint.specs.Shows.{ShowsFlow}
use Rattle.flow_lint.specs.Places.{HasTwice, FilePlace, Repeats, id_at}
use Rattle.flow_lint.specs.declared.node.Node.{Node}

-- no node of some shows it
abbrev pub NoneShows : (FilePlace → Type 0) → List Node → Type 0
NoneShows Shows nodes = All (λ node. Shows (place_of node) → ⊥) nodes

pub seen_nowhere : (root : Data) (nodes : List Node) (Shows : FilePlace → Type 0) → AreAll root nodes → NoneShows Shows nodes
    → IsNowhere root Shows
seen_nowhere root nodes Shows all none path p looked shows =
    let at = all path p looked in
    All-contains (λ node. Shows (place_of node) → ⊥) nodes at.0 none at.1.0 (subst Shows (sym at.1.1.1) shows)

-- where all nodes were gone over
pub nowhere_at_end : (root : Data) (nodes : List Node) (count : ℕ) (Shows : FilePlace → Type 0) → AreAll root nodes → length nodes ≤ count
    → NoneShows Shows (take count nodes) → IsNowhere root Shows
nowhere_at_end root nodes count Shows all past none =
    seen_nowhere root nodes Shows all (subst (NoneShows Shows) (take_all count nodes past) none)

pub none_more : (Shows : FilePlace → Type 0) (nodes : List Node) (count : ℕ) (node : Node) → count < length nodes → NoneShows Shows (take count nodes)
    → (Shows (place_of (get_or nodes count node)) → ⊥) → NoneShows Shows (take (count + 1) nodes)
none_more Shows nodes count node within none not_here = All-more (λ one. Shows (place_of one) → ⊥) nodes count node within none not_here

-- ---- ids of steps

-- none of the first steps has an id, or this one alone has it
abbrev pub IsFirst : Data → List ℕ → ℕ → Option ℕ → Type 0
IsFirst steps name count None = (place : ℕ) → place < count → id_at place steps ≡ Some name → ⊥
IsFirst steps name count (Some first) =
    (first < count) × ((id_at first steps ≡ Some name)
    × ((place : ℕ) → place < count → id_at place steps ≡ Some name → place ≡ first))

last_or : (i n : ℕ) → i < n + 1 → (i < n) ⊎ (i ≡ n)
last_or i n h = grind arith

before_or : (i n : ℕ) → (i < n) ⊎ (n ≤ i)
before_or i n = grind arith

pub first_here : (steps : Data) (name : List ℕ) (count : ℕ) → IsFirst steps name count None → id_at count steps ≡ Some name
    → IsFirst steps name (count + 1) (Some count)
first_here steps name count none is =
    let here : count < count + 1 = omega arith in (
      here,
      (
        is,
        λ place below_count found.
            ⊎_elim (λ (before : place < count). absurd (none place before found)) (λ (same : place ≡ count). same) (last_or place count below_count),
      ),
    )

pub first_kept : (steps : Data) (name : List ℕ) (count : ℕ) (first : Option ℕ) → IsFirst steps name count first
    → (id_at count steps ≡ Some name → ⊥) → IsFirst steps name (count + 1) first
first_kept steps name count None none not_here = λ place below_count found.
    ⊎_elim (λ (before : place < count). none place before found)
    (λ (same : place ≡ count). not_here (subst (λ (i : ℕ). id_at i steps ≡ Some name) same found))
    (last_or place count below_count)
first_kept steps name count (Some first) h not_here =
    let was : first < count = h.0 in
    let within : first < count + 1 = omega arith in (
      within,
      (
        h.1.0,
        λ place below_count found.
            ⊎_elim (λ (before : place < count). h.1.1 place before found)
            (λ (same : place ≡ count). absurd (not_here (subst (λ (i : ℕ). id_at i steps ≡ Some name) same found)))
            (last_or place count below_count),
      ),
    )

pub second_here : (steps : Data) (name : List ℕ) (count first : ℕ) → IsFirst steps name count (Some first) → id_at count steps ≡ Some name
    → Repeats steps name count
second_here steps name count first h is = (is, (first, (h.0, h.1.0)))

within_count : (steps : Data) (name : List ℕ) (count place : ℕ) → ((place : ℕ) → count ≤ place → id_at place steps ≡ None)
    → id_at place steps ≡ Some name → place < count
within_count steps name count place past is =
    ⊎_elim (λ (before : place < count). before)
    (λ (after : count ≤ place). let gone : id_at place steps ≡ None = past place after in absurd (cc))
    (before_or place count)

pub none_twice : (steps : Data) (name : List ℕ) (count : ℕ) (first : Option ℕ) → IsFirst steps name count first
    → ((place : ℕ) → count ≤ place → id_at place steps ≡ None) → (later : ℕ) → Repeats steps name later → ⊥
none_twice steps name count None none past later twice =
    none later (within_count steps name count later past twice.0) twice.0
none_twice steps name count (Some first) h past later twice =
    let earlier = twice.1.0 in
    let less : earlier < later = twice.1.1.0 in
    let one : later ≡ first = h.1.1 later (within_count steps name count later past twice.0) twice.0 in
    let other : earlier ≡ first = h.1.1 earlier (within_count steps name count earlier past twice.1.1.1) twice.1.1.1 in
    omega arith

-- ---- lists of steps

list_at : (d : Data) (items : Items) → as_array d ≡ Some items → (place : ℕ) → at place d ≡ get_item place items
list_at null items e place = absurd (cc)
list_at (boolean b) items e place = absurd (cc)
list_at (number n) items e place = absurd (cc)
list_at (string s) items e place = absurd (cc)
list_at (array ds) items e place = let same : ds ≡ items = cc in ap (get_item place) same
list_at (object ms) items e place = absurd (cc)

abbrev id_of : Option Data → Option (List ℕ)
id_of step = option_and_then as_str (option_and_then (get (codes "id")) step)

pub no_id_past : (d : Data) (items : List Value) → as_array d ≡ Some (items_view items) → (place : ℕ) → length items ≤ place → id_at place d ≡ None
no_id_past d items e place past = ap id_of (list_at d (items_view items) e place ∙ sym (get_item_past items place past))

no_list_at : (d : Data) → as_array d ≡ None → (place : ℕ) → at place d ≡ None
no_list_at null e place = refl
no_list_at (boolean b) e place = refl
no_list_at (number n) e place = refl
no_list_at (string s) e place = refl
no_list_at (array ds) e place = absurd (cc)
no_list_at (object ms) e place = refl

pub no_ids : (name : List ℕ) (p : FilePlace) → as_array p.value ≡ None → HasTwice name p → ⊥
no_ids name p e twice = let gone : id_at twice.1.0 p.value ≡ None = ap id_of (no_list_at p.value e twice.1.0) in
    let is = twice.1.1.0 in absurd (cc)

-- ---- by the fault

abbrev pub IsPlaced : FlowFault → Type 0
IsPlaced fault =
    (fault ≡ flow.NotJson) ⊎ ((fault ≡ flow.NotWhole) ⊎ (((key : List ℕ) × (fault ≡ flow.Missing key))
    ⊎ (((key : List ℕ) × (fault ≡ flow.LeftOut key)) ⊎ ((fault ≡ flow.UnknownShell) ⊎ (fault ≡ flow.Memory)))))

placed_as : (root : Data) (path : List ℕ) (fault other : FlowFault) → fault ≡ other
    → (IsSeen root path (ShowsFlow other) → FlowPlace root other path) → IsSeen root path (ShowsFlow fault) → FlowPlace root fault path
placed_as root path fault other e h = subst (λ (f : FlowFault). IsSeen root path (ShowsFlow f) → FlowPlace root f path) (sym e) h

pub placed : (root : Data) (path : List ℕ) (fault : FlowFault) → IsPlaced fault → IsSeen root path (ShowsFlow fault) → FlowPlace root fault path
placed root path fault =
    ⊎_elim (λ (e : fault ≡ flow.NotJson). placed_as root path fault flow.NotJson e (λ h. tt))
    (⊎_elim (λ (e : fault ≡ flow.NotWhole). placed_as root path fault flow.NotWhole e (λ h. h))
    (⊎_elim (λ (e : (key : List ℕ) × (fault ≡ flow.Missing key)). placed_as root path fault (flow.Missing e.0) e.1 (λ h. h))
    (⊎_elim (λ (e : (key : List ℕ) × (fault ≡ flow.LeftOut key)). placed_as root path fault (flow.LeftOut e.0) e.1 (λ h. h))
    (⊎_elim (λ (e : fault ≡ flow.UnknownShell). placed_as root path fault flow.UnknownShell e (λ h. h))
    (λ (e : fault ≡ flow.Memory). placed_as root path fault flow.Memory e (λ h. tt))))))
