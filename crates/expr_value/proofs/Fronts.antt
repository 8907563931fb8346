-- What a loop has found before what is left of a list.
use Rattle.std.proofs.Common.{◌≡◌, ℕ, ◌+◌, ◌<◌, Bool, true, false, List, [], ◌∷◌, ◌++◌, Result, Ok, Err, length, get_or, drop, refl, sym, ap, ◌∙◌, append_assoc}
use mathlib.Core.Bool.{beq}
use Rattle.std.proofs.lemmas.Bool.{cond-true, cond-false}
use Rattle.std.proofs.lemmas.List.{map-append}
use Rattle.expr_reader.specs.Expr.{exprs_of}
use Rattle.expr_reader.specs.View.{views, view as tree_view}
use Rattle.expr_reader.specs.declared.tree.Tree.{Tree}
use Rattle.expr_value.specs.Context.{Contexts}
use Rattle.expr_value.specs.Evaluate.{Answer, all_values, answers, conjunction, disjunction, is_truthy, value, with_value}
use Rattle.expr_value.specs.Evaluating.{first_of}
use Rattle.expr_value.specs.Seen.{item_seen, items_seen}
use Rattle.expr_value.specs.declared.item.Item.{Item}
use Rattle.expr_value.specs.declared.status.Status.{Status}
use Rattle.flow_model.proofs.Conversions.{drop-next}
use Rattle.flow_model.specs.Plain.{Plain}
use Rattle.flow_model.specs.declared.reply.ValueFault.{ValueFault}

-- A list with what comes before it, where it is no fault.
abbrev pub with_front : {A : Type 0} → List A → Result (List A) ValueFault → Result (List A) ValueFault
with_front xs (Ok ys) = Ok (xs ++ ys)
with_front xs (Err fault) = Err fault

pub with_front-twice : {A : Type 0} (xs ys : List A) (r : Result (List A) ValueFault) → with_front (xs ++ ys) r ≡ with_front xs (with_front ys r)
with_front-twice xs ys (Ok zs) = ap Ok (append_assoc xs ys zs)
with_front-twice xs ys (Err fault) = refl

one_front : (v : Plain) (r : Result (List Plain) ValueFault) → with_front (v ∷ []) r ≡ with_value v r
one_front v (Ok vs) = refl
one_front v (Err fault) = refl

-- One value more, and those of what is left.
pub values_step : (found : List Plain) (a : Answer) (v : Plain) (left : List Answer) → a ≡ Ok v → with_front (found ++ v ∷ []) (all_values left) ≡ with_front found (all_values (a ∷ left))
values_step found a v left is =
    with_front-twice found (v ∷ []) (all_values left) ∙ ap (with_front found) (one_front v (all_values left))
    ∙ ap (λ (b : Answer). with_front found (all_values (b ∷ left))) (sym is)

decided_by : (truth b : Bool) (v w : Plain) (left : List Answer) → beq b truth ≡ false → is_truthy v ≡ b → first_of truth w left ≡ first_of truth v (Ok w ∷ left)
decided_by true true v w left other is = absurd (cc)
decided_by false false v w left other is = absurd (cc)
decided_by false true v w left other is = sym (cond-true (is_truthy v) (conjunction w left) (Ok v) is)
decided_by true false v w left other is = sym (cond-false (is_truthy v) (Ok v) (disjunction w left) is)

-- What the next part leads to, where the value before it is not so true as is asked for.
pub decided_step : (truth b : Bool) (v w : Plain) (a : Answer) (left : List Answer) → beq b truth ≡ false → is_truthy v ≡ b → a ≡ Ok w → first_of truth w left ≡ first_of truth v (a ∷ left)
decided_step truth b v w a left other so is =
    decided_by truth b v w left other so ∙ ap (λ (c : Answer). first_of truth v (c ∷ left)) (sym is)

-- The value of one tree more, before those of what is left.
pub evaluated_more : (at : Contexts) (status : Status) (trees : List Tree) (i : ℕ) (tree : Tree) (found grown : List Item) (v : Item) (all : Result (List Plain) ValueFault)
    → i < length trees → tree ≡ get_or trees i tree → grown ≡ found ++ v ∷ [] → value at status (tree_view tree) ≡ Ok (item_seen v)
    → with_front (items_seen found) (all_values (answers at status (exprs_of (views (drop i trees))))) ≡ all
    → with_front (items_seen grown) (all_values (answers at status (exprs_of (views (drop (i + 1) trees))))) ≡ all
evaluated_more at status trees i tree found grown v all inside here grew is so_far =
    let left = answers at status (exprs_of (views (drop (i + 1) trees))) in
    ap (λ (items : List Item). with_front (items_seen items) (all_values left)) grew
    ∙ ap (λ (vs : List Plain). with_front vs (all_values left)) (map-append item_seen found (v ∷ []))
    ∙ values_step (items_seen found) (value at status (tree_view tree)) (item_seen v) left is
    ∙ ap (λ (ts : List Tree). with_front (items_seen found) (all_values (answers at status (exprs_of (views ts))))) (sym (drop-next trees i tree inside here)) ∙ so_far

-- The first value that is so true as is asked for, one tree further.
pub decided_more : (at : Contexts) (status : Status) (trees : List Tree) (i : ℕ) (tree : Tree) (truth b : Bool) (v w : Item) (all : Answer)
    → i < length trees → tree ≡ get_or trees i tree → beq b truth ≡ false → is_truthy (item_seen v) ≡ b → value at status (tree_view tree) ≡ Ok (item_seen w)
    → first_of truth (item_seen v) (answers at status (exprs_of (views (drop i trees)))) ≡ all
    → first_of truth (item_seen w) (answers at status (exprs_of (views (drop (i + 1) trees)))) ≡ all
decided_more at status trees i tree truth b v w all inside here other so is so_far =
    decided_step truth b (item_seen v) (item_seen w) (value at status (tree_view tree)) (answers at status (exprs_of (views (drop (i + 1) trees)))) other so is
    ∙ ap (λ (ts : List Tree). first_of truth (item_seen v) (answers at status (exprs_of (views ts)))) (sym (drop-next trees i tree inside here)) ∙ so_far
