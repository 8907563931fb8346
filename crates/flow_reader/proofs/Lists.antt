-- One item or member more: what was read, before what is left.
use Rattle.std.proofs.Common.{◌≡◌, ◌<◌, ◌≤◌, ◌+◌, ◌∙◌, drop, ℕ, suc, List, [], ◌∷◌, ◌++◌, length, get_or, Ok, Err, refl, ap, sym, arith, subst, append_assoc, append-nil, decimal, Bool, true, false}
use Rattle.std.proofs.lemmas.List.{drop_more, drop_all}
use Rattle.serde_json.specs.Data.{Data, item, Members, member}
use Rattle.serde_json.specs.View.{view, items_view}
use Rattle.serde_json.specs.declared.value.Value.{Value}
use Rattle.flow_reader.specs.declared.fault.FlowFault.{FlowFault}
use Rattle.flow_reader.specs.Checked.{Checked, both, made, under, Stands, items_checked, pairs_checked, members_checked}
use Rattle.flow_reader.proofs.Faults.{stands_left, stands_made}

made_before : {A : Type 0} (done : List A) (a : A) (r : Checked A) (left : Checked (List A)) → r ≡ Ok a → made (λ xs. done ++ xs) (made (λ x. x.0 ∷ x.1) (both r left)) ≡ made (λ xs. (done ++ a ∷ []) ++ xs) left
unfolding made both
made_before done a r (Ok xs) e = rw e (ap Ok (sym (append_assoc done (a ∷ []) xs)))
made_before done a r (Err fs) e = rw e refl

pub made_none : {A : Type 0} (done : List A) (all : Checked (List A)) → made (λ xs. done ++ xs) (Ok []) ≡ all → all ≡ Ok done
unfolding made
made_none done all e = sym e ∙ ap Ok (append-nil done)

pub made_begin : {A : Type 0} (r : Checked (List A)) → made (λ xs. [] ++ xs) r ≡ r
unfolding made
made_begin (Ok xs) = refl
made_begin (Err fs) = refl

-- a fault of the first of what is left is a fault of all
fault_of_first : {A B : Type 0} (done : List B) (cons : A × List B → List B) (r : Checked A) (left all : Checked (List B)) (f : FlowFault) → made (λ xs. done ++ xs) (made cons (both r left)) ≡ all → Stands f r → Stands f all
fault_of_first {A} {B} done cons r left all f e h =
    subst (λ (m : Checked (List B)). Stands f m) e (stands_made (λ xs. done ++ xs) (made cons (both r left)) f (stands_made cons (both r left) f (stands_left r left f h)))

-- ---- items

at_place : {A : Type 0} (of : Data → Checked A) (done : List A) (i : ℕ) (vs : List Value) (v : Value) (all : Checked (List A)) → i < length vs → v ≡ get_or vs i v
    → made (λ xs. done ++ xs) (items_checked of i (items_view (drop i vs))) ≡ all → made (λ xs. done ++ xs) (items_checked of i (item (view v) (items_view (drop (i + 1) vs)))) ≡ all
at_place {A} of done i vs v all h e inv =
    let here : drop i vs ≡ v ∷ drop (i + 1) vs = drop_more vs i v h ∙ ap (λ (x : Value). x ∷ drop (i + 1) vs) (sym e) in
    subst (λ (l : List Value). made (λ xs. done ++ xs) (items_checked of i (items_view l)) ≡ all) here inv

pub next_item : {A : Type 0} (of : Data → Checked A) (done more : List A) (i : ℕ) (vs : List Value) (v : Value) (all : Checked (List A)) (a : A) → i < length vs → v ≡ get_or vs i v
    → made (λ xs. done ++ xs) (items_checked of i (items_view (drop i vs))) ≡ all → under (decimal i) (of (view v)) ≡ Ok a → more ≡ done ++ a ∷ []
    → made (λ xs. more ++ xs) (items_checked of (i + 1) (items_view (drop (i + 1) vs))) ≡ all
next_item {A} of done more i vs v all a h e inv is m =
    let next : i + 1 ≡ suc i = omega arith in
    let left : Checked (List A) = items_checked of (suc i) (items_view (drop (i + 1) vs)) in
    rw m (subst (λ (k : ℕ). made (λ xs. (done ++ a ∷ []) ++ xs) (items_checked of k (items_view (drop (i + 1) vs))) ≡ all) (sym next)
    (sym (made_before done a (under (decimal i) (of (view v))) left is) ∙ at_place of done i vs v all h e inv))

pub bad_item : {A : Type 0} (of : Data → Checked A) (done : List A) (i : ℕ) (vs : List Value) (v : Value) (all : Checked (List A)) (f : FlowFault) → i < length vs → v ≡ get_or vs i v
    → made (λ xs. done ++ xs) (items_checked of i (items_view (drop i vs))) ≡ all → Stands f (under (decimal i) (of (view v))) → Stands f all
bad_item of done i vs v all f h e inv b =
    fault_of_first done (λ x. x.0 ∷ x.1) (under (decimal i) (of (view v))) (items_checked of (suc i) (items_view (drop (i + 1) vs))) all f (at_place of done i vs v all h e inv) b

pub all_read : {A : Type 0} (of : Data → Checked A) (done : List A) (i : ℕ) (vs : List Value) (all : Checked (List A)) → length vs ≤ i → made (λ xs. done ++ xs) (items_checked of i (items_view (drop i vs))) ≡ all → all ≡ Ok done
all_read {A} of done i vs all h inv =
    made_none done all (subst (λ (l : List Value). made (λ xs. done ++ xs) (items_checked of i (items_view l)) ≡ all) (drop_all i vs h) inv)

-- ---- members, one item for each

pub next_member : {A : Type 0} (of : List ℕ → Data → Checked A) (done more : List A) (k : List ℕ) (d : Data) (ms : Members) (all : Checked (List A)) (a : A)
    → made (λ xs. done ++ xs) (members_checked of (member k d ms)) ≡ all → of k d ≡ Ok a → more ≡ done ++ a ∷ [] → made (λ xs. more ++ xs) (members_checked of ms) ≡ all
next_member of done more k d ms all a e h m = rw m (sym (made_before done a (of k d) (members_checked of ms) h) ∙ e)

pub bad_member : {A : Type 0} (of : List ℕ → Data → Checked A) (done : List A) (k : List ℕ) (d : Data) (ms : Members) (all : Checked (List A)) (f : FlowFault)
    → made (λ xs. done ++ xs) (members_checked of (member k d ms)) ≡ all → Stands f (of k d) → Stands f all
bad_member of done k d ms all f e h = fault_of_first done (λ x. x.0 ∷ x.1) (of k d) (members_checked of ms) all f e h

-- ---- members, one pair for each that counts

pair_before : {A : Type 0} (done : List (List ℕ × A)) (k : List ℕ) (a : A) (r : Checked A) (left : Checked (List (List ℕ × A))) → r ≡ Ok a → made (λ ps. done ++ ps) (made (λ x. (k, x.0) ∷ x.1) (both r left)) ≡ made (λ ps. (done ++ (k, a) ∷ []) ++ ps) left
unfolding made both
pair_before done k a r (Ok ps) e = rw e (ap Ok (sym (append_assoc done ((k, a) ∷ []) ps)))
pair_before done k a r (Err fs) e = rw e refl

pair_here : {A : Type 0} (counts : List ℕ → Bool) (of : List ℕ → Data → Checked A) (done : List (List ℕ × A)) (k : List ℕ) (d : Data) (ms : Members) (all : Checked (List (List ℕ × A))) → counts k ≡ true
    → made (λ ps. done ++ ps) (pairs_checked counts of (member k d ms)) ≡ all → made (λ ps. done ++ ps) (made (λ x. (k, x.0) ∷ x.1) (both (of k d) (pairs_checked counts of ms))) ≡ all
pair_here counts of done k d ms all p e = rw p at e

pub next_pair : {A : Type 0} (counts : List ℕ → Bool) (of : List ℕ → Data → Checked A) (done more : List (List ℕ × A)) (k : List ℕ) (d : Data) (ms : Members) (all : Checked (List (List ℕ × A))) (a : A) → counts k ≡ true
    → made (λ ps. done ++ ps) (pairs_checked counts of (member k d ms)) ≡ all → of k d ≡ Ok a → more ≡ done ++ (k, a) ∷ [] → made (λ ps. more ++ ps) (pairs_checked counts of ms) ≡ all
next_pair counts of done more k d ms all a p e h m = rw m (sym (pair_before done k a (of k d) (pairs_checked counts of ms) h) ∙ pair_here counts of done k d ms all p e)

pub bad_pair : {A : Type 0} (counts : List ℕ → Bool) (of : List ℕ → Data → Checked A) (done : List (List ℕ × A)) (k : List ℕ) (d : Data) (ms : Members) (all : Checked (List (List ℕ × A))) (f : FlowFault) → counts k ≡ true
    → made (λ ps. done ++ ps) (pairs_checked counts of (member k d ms)) ≡ all → Stands f (of k d) → Stands f all
bad_pair counts of done k d ms all f p e h =
    fault_of_first done (λ x. (k, x.0) ∷ x.1) (of k d) (pairs_checked counts of ms) all f (pair_here counts of done k d ms all p e) h

pub passed_pair : {A : Type 0} (counts : List ℕ → Bool) (of : List ℕ → Data → Checked A) (done : List (List ℕ × A)) (k : List ℕ) (d : Data) (ms : Members) (all : Checked (List (List ℕ × A))) → counts k ≡ false
    → made (λ ps. done ++ ps) (pairs_checked counts of (member k d ms)) ≡ all → made (λ ps. done ++ ps) (pairs_checked counts of ms) ≡ all
passed_pair counts of done k d ms all p e = rw p at e
