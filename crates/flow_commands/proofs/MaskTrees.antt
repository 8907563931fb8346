-- Trees of masks: what a new node, a mark and a look-up do.
use Rattle.std.proofs.Common.{◌≡◌, ℕ, zero, suc, ◌+◌, ◌<◌, ◌≤◌, Bool, true, false, cond, ◌||◌, ◌&&◌, nat_eq, Option, Some, None, List, [], ◌∷◌, ◌++◌, length, drop, get_or, set, ◌⊎◌, inl, inr, refl, sym, ap, subst, ◌∙◌, arith, append_assoc, append-nil, length-append, bytes_eq, true≢false, get_or-set_same, get_or-set_other, length-set, take, ◌-◌, drop-cons, slice_get, take-append-drop, length-take-le}
use Rattle.std.proofs.Math.Seq.{get_or-append_seam}
use Rattle.std.proofs.lemmas.Bool.{false≢true, false_from_ne_true}
use Rattle.std.proofs.lemmas.Bool.Decides.{Decides-eqb, nat_tests}
use Rattle.std.proofs.lemmas.List.{append_cancel_left, append_cancel_right, get_or_append_left, take_more}
use Rattle.std.proofs.lemmas.Slice.Eq.{starts_is, bytes_eq-Decides}
use Rattle.std.specs.List.{starts_with}
use Rattle.flow_commands.specs.Mask.{longest}
use Rattle.flow_commands.specs.MaskTree.{Edges, followed, reached_from, reached, is_mask, is_begun, is_end, IsTree}
use Rattle.flow_commands.proofs.FirstPlaces.{begins}
use Rattle.flow_commands.proofs.LongestMasks.{longest_more, longest_past, longest_within}
use Rattle.flow_commands.proofs.Standing.{front_parts}

-- what holds of not_added bytes, and of a byte more, holds of all bytes
from_front : (P : List ℕ → Type 0) → ((text : List ℕ) (b : ℕ) → P text → P (text ++ b ∷ [])) → (text rest : List ℕ) → P text → P (text ++ rest)
from_front P more text [] p = subst P (sym (append-nil text)) p
from_front P more text (b ∷ rest) p = subst P (append_assoc text (b ∷ []) rest) (from_front P more (text ++ b ∷ []) rest (more text b p))

-- a text and more, and nothing from nowhere
reached_on : (edges : Edges) (start : Option ℕ) (text rest : List ℕ) → reached_from edges start (text ++ rest) ≡ reached_from edges (reached_from edges start text) rest
reached_on edges start [] rest = refl
reached_on edges start (b ∷ text) rest = reached_on edges (followed edges start b) text rest

from_nowhere : (edges : Edges) (text : List ℕ) → reached_from edges None text ≡ None
from_nowhere edges [] = refl
from_nowhere edges (b ∷ text) = from_nowhere edges text

-- a byte more
pub reached_more : (edges : Edges) (text : List ℕ) (b node : ℕ) → reached edges text ≡ Some node → reached edges (text ++ b ∷ []) ≡ edges node b
reached_more edges text b node is = reached_on edges (Some 0) text (b ∷ []) ∙ ap (λ (o : Option ℕ). followed edges o b) is

reached_none : (edges : Edges) (text : List ℕ) (b : ℕ) → reached edges text ≡ None → reached edges (text ++ b ∷ []) ≡ None
reached_none edges text b is = reached_on edges (Some 0) text (b ∷ []) ∙ ap (λ (o : Option ℕ). followed edges o b) is

same_node : (m n : ℕ) → Some m ≡ Some n → m ≡ n
same_node m n h = cc

nowhere : (n : ℕ) → ◌≡◌ {A = Option ℕ} None (Some n) → ⊥
nowhere n h = cc

longer : (text : List ℕ) (b : ℕ) → text ≡ text ++ b ∷ [] → ⊥
longer text b h = let size = ap length h in omega (arith, size, length-append text (b ∷ []))

-- the nodes that were are marked as before
unmarked_more : (ends : List Bool) (node : ℕ) → 0 < node → node ≤ length ends → is_end (ends ++ false ∷ []) node ≡ is_end ends node
unmarked_more ends zero some low = refl
unmarked_more ends (suc node) some low = get_or_append_left ends (false ∷ []) false node (omega (arith, low))

-- texts that are the same are so before their last bytes, and end alike
last_same : (text other : List ℕ) (b c : ℕ) → text ++ b ∷ [] ≡ other ++ c ∷ [] → (text ≡ other) × (b ≡ c)
last_same [] [] b c h = (refl, cc)
last_same [] (y ∷ other) b c h = let size = ap length h in absurd (omega (arith, size, length-append other (c ∷ [])))
last_same (x ∷ text) [] b c h = let size = ap length h in absurd (omega (arith, size, length-append text (b ∷ [])))
last_same (x ∷ text) (y ∷ other) b c h =
    let heads : x ≡ y = cc in
    let more = last_same text other b c (cc) in
    (ap (λ (t : List ℕ). x ∷ t) more.0 ∙ ap (λ (z : ℕ). z ∷ other) heads, more.1)

-- a node that is reached has a number
pub reached_within : {masks : List (List ℕ)} {edges : Edges} {ends : List Bool} → IsTree masks edges ends → (text : List ℕ) (node : ℕ)
    → reached edges text ≡ Some node → node ≤ length ends
reached_within {masks} {edges} {ends} tree text =
    from_front (λ t. (node : ℕ) → reached edges t ≡ Some node → node ≤ length ends)
    (λ t b h node is. by_last t b node (reached edges t) refl is) [] text
    (λ node is. omega (arith, same_node 0 node is))
  where
    by_last : (t : List ℕ) (b node : ℕ) (o : Option ℕ) → reached edges t ≡ o → reached edges (t ++ b ∷ []) ≡ Some node → node ≤ length ends
    by_last t b node None at is = absurd (nowhere node (sym (reached_none edges t b at) ∙ is))
    by_last t b node (Some m) at is = (tree.nodes m b node (sym (reached_more edges t b m at) ∙ is)).2

-- one with which no mask begins is none
unbegun_is : (masks : List (List ℕ)) (text : List ℕ) → is_begun masks text ≡ false → is_mask masks text ≡ false
unbegun_is [] text h = refl
unbegun_is (mask ∷ masks) text h = by (starts_with nat_eq mask text) (bytes_eq mask text) refl refl h (λ k. unbegun_is masks text k)
  where
    by : (s t : Bool) → starts_with nat_eq mask text ≡ s → bytes_eq mask text ≡ t → s || is_begun masks text ≡ false
        → (is_begun masks text ≡ false → is_mask masks text ≡ false) → t || is_mask masks text ≡ false
    by true t is same k more = absurd (true≢false k)
    by false true is same k more = absurd (false≢true (sym is ∙ begins mask text [] ((bytes_eq-Decides mask text).0 same ∙ sym (append-nil text))))
    by false false is same k more = more k

module _ {masks : List (List ℕ)} {edges new : Edges} {ends : List Bool} (tree : IsTree masks edges ends) (text : List ℕ) (node b : ℕ)
    (at : reached edges text ≡ Some node) (free : edges node b ≡ None)
    (adds : (from x : ℕ) → new from x ≡ cond (nat_eq node from && nat_eq b x) (Some (length ends + 1)) (edges from x))
  where
    -- with an edge to a new node, one text more leads to a node
    abbrev Comes : List ℕ → Type 0
    Comes t = ((t ≡ text ++ b ∷ []) × (reached new t ≡ Some (length ends + 1))) ⊎ ((t ≡ text ++ b ∷ [] → ⊥) × (reached new t ≡ reached edges t))

    new_leaf : (x : ℕ) → new (length ends + 1) x ≡ None
    new_leaf x = by (edges (length ends + 1) x) refl
      where
        far : nat_eq node (length ends + 1) ≡ false
        far = let low = reached_within tree text node at in grind (arith, nat_tests, low)

        by : (o : Option ℕ) → edges (length ends + 1) x ≡ o → new (length ends + 1) x ≡ None
        by None is = adds (length ends + 1) x ∙ ap (λ (t : Bool). cond (t && nat_eq b x) (Some (length ends + 1)) (edges (length ends + 1) x)) far ∙ is
        by (Some m) is = let low = (tree.nodes (length ends + 1) x m is).0 in absurd (omega (arith, low))

    no_old : reached edges (text ++ b ∷ []) ≡ None
    no_old = reached_more edges text b node at ∙ free

    comes_more : (t : List ℕ) (x : ℕ) → Comes t → Comes (t ++ x ∷ [])
    comes_more t x (inl h) =
        inr (
          (λ e. longer t x (h.0 ∙ sym e)),
          reached_more new t x (length ends + 1) h.1 ∙ new_leaf x ∙ sym (reached_none edges t x (ap (reached edges) h.0 ∙ no_old)),
        )
    comes_more t x (inr h) = by (reached edges t) refl
      where
        by : (o : Option ℕ) → reached edges t ≡ o → Comes (t ++ x ∷ [])
        by None is =
            inr (
              (λ e. nowhere node (sym is ∙ ap (reached edges) (last_same t text x b e).0 ∙ at)),
              reached_none new t x (h.1 ∙ is) ∙ sym (reached_none edges t x is),
            )
        by (Some m) is = by_test (nat_eq node m && nat_eq b x) refl
          where
            goes : reached new (t ++ x ∷ []) ≡ new m x
            goes = reached_more new t x m (h.1 ∙ is)

            by_test : (c : Bool) → nat_eq node m && nat_eq b x ≡ c → Comes (t ++ x ∷ [])
            by_test true added =
                let same : node ≡ m = grind (arith, nat_tests) in
                let byte : b ≡ x = grind (arith, nat_tests) in
                let begin : t ≡ text = tree.one_text t text m is (at ∙ ap (λ (n : ℕ). Some n) same) in
                inl (
                  ap (λ (s : List ℕ). s ++ x ∷ []) begin ∙ ap (λ (y : ℕ). text ++ y ∷ []) (sym byte),
                  goes ∙ adds m x ∙ ap (λ (c : Bool). cond c (Some (length ends + 1)) (edges m x)) added,
                )
            by_test false not_added =
                inr (
                  (λ e. false≢true (sym not_added ∙ both (same_node m node (sym is ∙ ap (reached edges) (last_same t text x b e).0 ∙ at)) (last_same t text x b e).1)),
                  goes ∙ adds m x ∙ ap (λ (c : Bool). cond c (Some (length ends + 1)) (edges m x)) not_added ∙ sym (reached_more edges t x m is),
                )
              where
                both : m ≡ node → x ≡ b → nat_eq node m && nat_eq b x ≡ true
                both e f = grind (arith, nat_tests)

    comes : (t : List ℕ) → Comes t
    comes t = from_front Comes comes_more [] t (inr ((λ e. let size = ap length e in omega (arith, size, length-append text (b ∷ []))), refl))

    -- The tree has one more node, of no mask.
    pub tree_grown : IsTree masks new (ends ++ false ∷ [])
    tree_grown = record {
      nodes = λ from x to is. by_test from x to (nat_eq node from && nat_eq b x) refl (sym (adds from x) ∙ is);
      one_text = λ t u n is other. by_both t u n (comes t) (comes u) is other;
      marked = λ t n is some. by_marks t n some (comes t) is;
      begun = λ t is. by_begun t (comes t) is;
    }
      where
        size : length (ends ++ false ∷ []) ≡ length ends + 1
        size = length-append ends (false ∷ [])

        by_test : (from x to : ℕ) (c : Bool) → nat_eq node from && nat_eq b x ≡ c → cond c (Some (length ends + 1)) (edges from x) ≡ Some to
            → (from ≤ length (ends ++ false ∷ [])) × (0 < to) × (to ≤ length (ends ++ false ∷ []))
        by_test from x to true added is =
            let same : node ≡ from = grind (arith, nat_tests) in
            let low = reached_within tree text node at in
            let number = same_node (length ends + 1) to is in
            (omega (arith, size, same, low), omega (arith, number), omega (arith, size, number))
        by_test from x to false not_added is =
            let old = tree.nodes from x to is in
            (omega (arith, size, old.0), old.1, omega (arith, size, old.2))

        by_both : (t u : List ℕ) (n : ℕ) → Comes t → Comes u → reached new t ≡ Some n → reached new u ≡ Some n → t ≡ u
        by_both t u n (inl h) (inl k) is other = h.0 ∙ sym k.0
        by_both t u n (inl h) (inr k) is other =
            let number = same_node (length ends + 1) n (sym h.1 ∙ is) in
            let low = reached_within tree u n (sym k.1 ∙ other) in
            absurd (omega (arith, number, low))
        by_both t u n (inr h) (inl k) is other =
            let number = same_node (length ends + 1) n (sym k.1 ∙ other) in
            let low = reached_within tree t n (sym h.1 ∙ is) in
            absurd (omega (arith, number, low))
        by_both t u n (inr h) (inr k) is other = tree.one_text t u n (sym h.1 ∙ is) (sym k.1 ∙ other)

        by_marks : (t : List ℕ) (n : ℕ) → 0 < n → Comes t → reached new t ≡ Some n → is_end (ends ++ false ∷ []) n ≡ is_mask masks t
        by_marks t n some (inl h) is =
            ap (is_end (ends ++ false ∷ [])) (same_node n (length ends + 1) (sym is ∙ h.1)) ∙ ap (is_end (ends ++ false ∷ [])) next ∙ get_or-append_seam ends false [] false
            ∙ sym (ap (is_mask masks) h.0 ∙ unbegun_is masks (text ++ b ∷ []) (tree.begun (text ++ b ∷ []) no_old))
          where
            next : length ends + 1 ≡ suc (length ends)
            next = omega arith
        by_marks t n some (inr h) is =
            let old = sym h.1 ∙ is in
            unmarked_more ends n some (reached_within tree t n old) ∙ tree.marked t n old some

        by_begun : (t : List ℕ) → Comes t → reached new t ≡ None → is_begun masks t ≡ false
        by_begun t (inl h) is = absurd (nowhere (length ends + 1) (sym is ∙ h.1))
        by_begun t (inr h) is = tree.begun t (sym h.1 ∙ is)

-- the masks with one more
is_mask_more : (masks : List (List ℕ)) (mask text : List ℕ) → is_mask (masks ++ mask ∷ []) text ≡ is_mask masks text || bytes_eq mask text
is_mask_more [] mask text = by (bytes_eq mask text)
  where
    by : (t : Bool) → t || false ≡ t
    by true = refl
    by false = refl
is_mask_more (first ∷ masks) mask text =
    ap (λ (t : Bool). bytes_eq first text || t) (is_mask_more masks mask text) ∙ by (bytes_eq first text)
  where
    by : (t : Bool) → t || (is_mask masks text || bytes_eq mask text) ≡ (t || is_mask masks text) || bytes_eq mask text
    by true = refl
    by false = refl

is_begun_more : (masks : List (List ℕ)) (mask text : List ℕ) → is_begun masks text ≡ false → starts_with nat_eq mask text ≡ false → is_begun (masks ++ mask ∷ []) text ≡ false
is_begun_more [] mask text h none = ap (λ (t : Bool). t || false) none
is_begun_more (first ∷ masks) mask text h none = by (starts_with nat_eq first text) h (λ k. is_begun_more masks mask text k none)
  where
    by : (t : Bool) → t || is_begun masks text ≡ false → (is_begun masks text ≡ false → is_begun (masks ++ mask ∷ []) text ≡ false) → t || is_begun (masks ++ mask ∷ []) text ≡ false
    by true k more = k
    by false k more = more k

-- The node of one more mask is marked.
pub tree_marked : {masks : List (List ℕ)} {edges : Edges} {ends new : List Bool} → IsTree masks edges ends → (mask : List ℕ) (node : ℕ)
    → reached edges mask ≡ Some node → length new ≡ length ends → (0 < node → is_end new node ≡ true)
    → ((n : ℕ) → (n ≡ node → ⊥) → is_end new n ≡ is_end ends n) → IsTree (masks ++ mask ∷ []) edges new
tree_marked {masks} {edges} {ends} {new} tree mask node at size here others = record {
  nodes = λ from b to is. let old = tree.nodes from b to is in (omega (arith, size, old.0), old.1, omega (arith, size, old.2));
  one_text = tree.one_text;
  marked = λ t n is some. by_test t n (bytes_eq mask t) refl is some;
  begun = λ t is. is_begun_more masks mask t (tree.begun t is) (false_from_ne_true (starts_with nat_eq mask t) (λ h. passes t is (front_parts mask t h)));
}
  where
    passes : (t : List ℕ) → reached edges t ≡ None → mask ≡ t ++ drop (length t) mask → ⊥
    passes t is cut =
        nowhere node (sym (from_nowhere edges (drop (length t) mask)) ∙ ap (λ (o : Option ℕ). reached_from edges o (drop (length t) mask)) (sym is)
        ∙ sym (reached_on edges (Some 0) t (drop (length t) mask)) ∙ ap (reached edges) (sym cut) ∙ at)

    by_test : (t : List ℕ) (n : ℕ) (b : Bool) → bytes_eq mask t ≡ b → reached edges t ≡ Some n → 0 < n → is_end new n ≡ is_mask (masks ++ mask ∷ []) t
    by_test t n true same is some =
        let number : n ≡ node = same_node n node (sym is ∙ ap (reached edges) (sym ((bytes_eq-Decides mask t).0 same)) ∙ at) in
        ap (is_end new) number ∙ here (omega (arith, number, some)) ∙ sym (is_mask_more masks mask t ∙ ap (λ (b : Bool). is_mask masks t || b) same ∙ or_true (is_mask masks t))
      where
        or_true : (b : Bool) → b || true ≡ true
        or_true true = refl
        or_true false = refl
    by_test t n false other is some =
        let apart : n ≡ node → ⊥ = λ e. false≢true (sym other ∙ (bytes_eq-Decides mask t).1 (tree.one_text mask t node at (is ∙ ap (λ (m : ℕ). Some m) e))) in
        others n apart ∙ tree.marked t n is some ∙ sym (is_mask_more masks mask t ∙ ap (λ (b : Bool). is_mask masks t || b) other ∙ or_false (is_mask masks t))
      where
        or_false : (b : Bool) → b || false ≡ b
        or_false true = refl
        or_false false = refl

-- A tree of no edge has no mask.
pub tree_empty : (edges : Edges) (ends : List Bool) → ((node b : ℕ) → edges node b ≡ None) → IsTree [] edges ends
tree_empty edges ends free = record {
  nodes = λ from b to is. absurd (nowhere to (sym (free from b) ∙ is));
  one_text = by_texts;
  marked = by_mark;
  begun = λ t is. refl;
}
  where
    unreached : (b : ℕ) (t : List ℕ) → reached edges (b ∷ t) ≡ None
    unreached b t = ap (λ (o : Option ℕ). reached_from edges o t) (free 0 b) ∙ from_nowhere edges t

    by_texts : (t u : List ℕ) (n : ℕ) → reached edges t ≡ Some n → reached edges u ≡ Some n → t ≡ u
    by_texts [] [] n is other = refl
    by_texts [] (b ∷ u) n is other = absurd (nowhere n (sym (unreached b u) ∙ other))
    by_texts (b ∷ t) u n is other = absurd (nowhere n (sym (unreached b t) ∙ is))

    by_mark : (t : List ℕ) (n : ℕ) → reached edges t ≡ Some n → 0 < n → is_end ends n ≡ false
    by_mark [] n is some = absurd (let zero_is = same_node 0 n is in omega (arith, zero_is, some))
    by_mark (b ∷ t) n is some = absurd (nowhere n (sym (unreached b t) ∙ is))

-- Room for one more node changes nothing.
pub tree_roomier : {masks : List (List ℕ)} {edges : Edges} {ends : List Bool} → IsTree masks edges ends → IsTree masks edges (ends ++ false ∷ [])
tree_roomier {masks} {edges} {ends} tree = record {
  nodes = λ from b to is. let old = tree.nodes from b to is in (omega (arith, size, old.0), old.1, omega (arith, size, old.2));
  one_text = tree.one_text;
  marked = λ t n is some. unmarked_more ends n some (reached_within tree t n is) ∙ tree.marked t n is some;
  begun = tree.begun;
}
  where
    size : length (ends ++ false ∷ []) ≡ length ends + 1
    size = length-append ends (false ∷ [])

-- no mask stands at the front of no text
pub longest_of_nothing : (masks : List (List ℕ)) → longest masks [] ≡ 0
longest_of_nothing masks = omega (arith, longest_within masks [])

-- the bytes so far, and one more
pub reached_next : (edges : Edges) (text : List ℕ) (i node : ℕ) → i < length text → reached edges (take i text) ≡ Some node
    → reached edges (take (i + 1) text) ≡ edges node (get_or text i 0)
reached_next edges text i node within at = ap (reached edges) (take_more text i 0 within) ∙ reached_more edges (take i text) (get_or text i 0) node at

-- A look-up goes on: all the bytes so far are the longest mask, where their node is marked.
pub looked_up : {masks : List (List ℕ)} {edges : Edges} {ends : List Bool} → IsTree masks edges ends → (text : List ℕ) (i node next : ℕ)
    → i < length text → reached edges (take i text) ≡ Some node → edges node (get_or text i 0) ≡ Some next
    → longest masks (take (i + 1) text) ≡ cond (is_end ends next) (i + 1) (longest masks (take i text))
looked_up {masks} {edges} {ends} tree text i node next within at goes =
    let b = get_or text i 0 in
    let front = take i text in
    let size : length front ≡ i = length-take-le i text (omega (arith, within)) in
    ap (longest masks) (take_more text i 0 within) ∙ longest_more masks front b
    ∙ ap (λ (t : Bool). cond t (length front + 1) (longest masks front)) (sym (tree.marked (front ++ b ∷ []) next (reached_more edges front b node at ∙ goes) (tree.nodes node b next goes).1))
    ∙ ap (λ (n : ℕ). cond (is_end ends next) (n + 1) (longest masks front)) size

-- Or it ends.
pub looked_past : {masks : List (List ℕ)} {edges : Edges} {ends : List Bool} → IsTree masks edges ends → (text : List ℕ) (i node : ℕ)
    → i < length text → reached edges (take i text) ≡ Some node → edges node (get_or text i 0) ≡ None
    → longest masks text ≡ longest masks (take i text)
looked_past {masks} {edges} {ends} tree text i node within at stops =
    let b = get_or text i 0 in
    let front = take i text in
    ap (longest masks) (sym (take-append-drop i text) ∙ ap (λ (t : List ℕ). front ++ t) (drop-cons text i 0 within))
    ∙ longest_past masks front b (drop (suc i) text) (tree.begun (front ++ b ∷ []) (reached_more edges front b node at ∙ stops))

-- The node of one more mask is marked, and no other.
pub marked_here : (ends : List Bool) (node : ℕ) → 0 < node → node ≤ length ends → is_end (set ends (node - 1) true) node ≡ true
marked_here ends zero some within = absurd (omega (arith, some))
marked_here ends (suc node) some within =
    let before : suc node - 1 ≡ node = omega arith in
    ap (λ (n : ℕ). get_or (set ends n true) node false) before ∙ get_or-set_same ends node true false (omega (arith, within))

pub marked_others : (ends : List Bool) (node : ℕ) → 0 < node → (n : ℕ) → (n ≡ node → ⊥) → is_end (set ends (node - 1) true) n ≡ is_end ends n
marked_others ends node some zero apart = refl
marked_others ends node some (suc n) apart = get_or-set_other ends (node - 1) n true false (λ h. apart (omega (arith, h, some)))

-- What follows is told of all that is kept: of the bytes that lead on from the root, of the edges and of the marks.
pub new_node : {masks : List (List ℕ)} {edges : Edges} {ends : List Bool} → IsTree masks edges ends → (new : Edges) (text : List ℕ) (node b : ℕ) (ends' : List Bool) (count : ℕ)
    → reached edges text ≡ Some node → edges node b ≡ None → ends' ≡ ends ++ false ∷ [] → count ≡ length ends'
    → ((from x : ℕ) → new from x ≡ cond (nat_eq node from && nat_eq b x) (Some count) (edges from x))
    → IsTree masks new ends' × (reached new (text ++ b ∷ []) ≡ Some count)
new_node {masks} {edges} {ends} tree new text node b ends' count at free room many adds = (
  subst (IsTree masks new) (sym room) (tree_grown tree text node b at free adds'),
  by (comes tree text node b at free adds' (text ++ b ∷ [])),
)
  where
    number : count ≡ length ends + 1
    number = many ∙ ap length room ∙ length-append ends (false ∷ [])

    adds' : (from x : ℕ) → new from x ≡ cond (nat_eq node from && nat_eq b x) (Some (length ends + 1)) (edges from x)
    adds' from x = adds from x ∙ ap (λ (n : ℕ). cond (nat_eq node from && nat_eq b x) (Some n) (edges from x)) number

    by : ((text ++ b ∷ [] ≡ text ++ b ∷ []) × (reached new (text ++ b ∷ []) ≡ Some (length ends + 1))) ⊎ ((text ++ b ∷ [] ≡ text ++ b ∷ [] → ⊥) × (reached new (text ++ b ∷ []) ≡ reached edges (text ++ b ∷ [])))
        → reached new (text ++ b ∷ []) ≡ Some count
    by (inl h) = h.1 ∙ ap (λ (n : ℕ). Some n) (sym number)
    by (inr h) = absurd (h.0 refl)

-- a byte from another node than the root leads nowhere new from the root
pub firsts_stay : (edges new : Edges) (count : ℕ) (firsts : List Bool) (node b : ℕ) → (node ≡ 0 → ⊥)
    → ((from x : ℕ) → new from x ≡ cond (nat_eq node from && nat_eq b x) (Some count) (edges from x))
    → ((x : ℕ) → get_or firsts x false ≡ false → edges 0 x ≡ None) → (x : ℕ) → get_or firsts x false ≡ false → new 0 x ≡ None
firsts_stay edges new count firsts node b apart adds old x unlisted =
    adds 0 x ∙ ap (λ (t : Bool). cond (t && nat_eq b x) (Some count) (edges 0 x)) far ∙ old x unlisted
  where
    far : nat_eq node 0 ≡ false
    far = grind (arith, nat_tests)

-- one from the root is listed
pub firsts_more : (edges new : Edges) (count : ℕ) (firsts : List Bool) (node b place : ℕ) → place ≡ b → b < length firsts
    → ((from x : ℕ) → new from x ≡ cond (nat_eq node from && nat_eq b x) (Some count) (edges from x))
    → ((x : ℕ) → get_or firsts x false ≡ false → edges 0 x ≡ None) → (x : ℕ) → get_or (set firsts place true) x false ≡ false → new 0 x ≡ None
firsts_more edges new count firsts node b place there within adds old x listed = by (nat_eq b x) refl
  where
    unlisted : get_or (set firsts b true) x false ≡ false
    unlisted = ap (λ (n : ℕ). get_or (set firsts n true) x false) (sym there) ∙ listed

    by : (t : Bool) → nat_eq b x ≡ t → new 0 x ≡ None
    by true is =
        let same : b ≡ x = grind (arith, nat_tests) in
        absurd (true≢false (sym (get_or-set_same firsts b true false within) ∙ ap (λ (n : ℕ). get_or (set firsts b true) n false) same ∙ unlisted))
    by false is =
        let apart : x ≡ b → ⊥ = grind (arith, nat_tests) in
        adds 0 x ∙ ap (λ (t : Bool). cond (nat_eq node 0 && t) (Some count) (edges 0 x)) is ∙ neither (nat_eq node 0)
        ∙ old x (sym (get_or-set_other firsts b x true false apart) ∙ unlisted)
      where
        neither : (s : Bool) → cond (s && false) (Some count) (edges 0 x) ≡ edges 0 x
        neither true = refl
        neither false = refl

-- no mask stands at the front of a text of no byte, or of one whose first byte leads nowhere from the root
pub none_at_end : (masks : List (List ℕ)) (text : List ℕ) → None ≡ slice_get text 0 → longest masks text ≡ 0
none_at_end masks [] is = longest_of_nothing masks
none_at_end masks (b ∷ text) is = absurd (nowhere b is)

pub none_unlisted : {masks : List (List ℕ)} {edges : Edges} {ends : List Bool} → IsTree masks edges ends → (text : List ℕ) (b : ℕ)
    → Some b ≡ slice_get text 0 → edges 0 b ≡ None → longest masks text ≡ 0
none_unlisted tree [] b is stops = absurd (nowhere b (sym is))
none_unlisted {masks} {edges} tree (x ∷ text) b is stops =
    longest_past masks [] x text (tree.begun (x ∷ []) (ap (edges 0) (sym (same_node b x is)) ∙ stops)) ∙ longest_of_nothing masks
