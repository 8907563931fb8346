-- Joining, item by item.
use Rattle.std.proofs.Common.{◌≡◌, ℕ, ◌+◌, ◌<◌, Bool, true, false, Option, Result, List, ◌∷◌, ◌++◌, length, get_or, drop, refl, sym, ap, subst, ◌∙◌}
use Rattle.expr_value.specs.Bounded.{grown}
use Rattle.expr_value.specs.Convert.{text_of}
use Rattle.expr_value.specs.Functions.{text_of_value}
use Rattle.expr_value.specs.Joining.{item_text}
use Rattle.expr_value.proofs.Growing.{grown_grown}
use Rattle.expr_value.proofs.Lists.{items-again}
use Rattle.std.specs.List.{join_by, flat_map}
use Rattle.expr_value.specs.Answer.{Gives}
use Rattle.expr_value.specs.Limit.{limited}
use Rattle.expr_value.specs.Functions.{join}
use Rattle.expr_value.specs.PlainKind.{PlainKind, kind_of}
use Rattle.flow_model.proofs.Conversions.{drop-next}
use Rattle.flow_model.specs.Plain.{Plain, list, items_of}
use Rattle.flow_model.specs.Value.{view, views}
use Rattle.flow_model.specs.declared.reply.ValueFault.{ValueFault}
use Rattle.flow_model.specs.declared.value.Node.{Node}

-- The texts of items, a separator before each but the first of all.
abbrev pub items_text : List ℕ → Bool → List Plain → List ℕ
items_text separator true vs = join_by text_of_value separator vs
items_text separator false vs = flat_map (λ v. separator ++ text_of_value v) vs

-- The first item's text, and then the others'.
pub items_step : (separator : List ℕ) (first : Bool) (v : Plain) (vs : List Plain) → items_text separator first (v ∷ vs) ≡ item_text separator first (text_of_value v) ++ items_text separator false vs
items_step separator true v vs = refl
items_step separator false v vs = refl

-- The text that grew by an item and grows by the others.
pub grown_item : (b : Option (List ℕ)) (separator : List ℕ) (first : Bool) (v : Plain) (vs : List Plain) → grown (grown b (item_text separator first (text_of_value v))) (items_text separator false vs) ≡ grown b (items_text separator first (v ∷ vs))
grown_item b separator first v vs = grown_grown b (item_text separator first (text_of_value v)) (items_text separator false vs) ∙ ap (grown b) (sym (items_step separator first v vs))

-- One item more, and those of what is left.
pub joined_more : (nodes : List Node) (i : ℕ) (node : Node) (held next : Option (List ℕ)) (separator : List ℕ) (first : Bool) (kind : PlainKind) (all : Option (List ℕ))
    → i < length nodes → node ≡ get_or nodes i node → next ≡ grown held (item_text separator first (text_of kind)) → kind ≡ kind_of (view node)
    → grown held (items_text separator first (views (drop i nodes))) ≡ all → grown next (items_text separator false (views (drop (i + 1) nodes))) ≡ all
joined_more nodes i node held next separator first kind all inside here grew is so_far =
    let left = views (drop (i + 1) nodes) in
    ap (λ (text : Option (List ℕ)). grown text (items_text separator false left)) grew
    ∙ ap (λ (k : PlainKind). grown (grown held (item_text separator first (text_of k))) (items_text separator false left)) is
    ∙ grown_item held separator first (view node) left
    ∙ ap (λ (ns : List Node). grown held (items_text separator first (views ns))) (sym (drop-next nodes i node inside here)) ∙ so_far

-- The join of a list.
pub join_list : (v : Plain) (vs : List Plain) (separator : List ℕ) (r : Result Node ValueFault) → v ≡ list (items_of vs) → Gives view r (limited (join_by text_of_value separator vs)) → Gives view r (join v separator)
join_list v vs separator r same h =
    let whole : join v separator ≡ limited (join_by text_of_value separator vs) = ap (λ (w : Plain). join w separator) same ∙ ap (λ (ws : List Plain). limited (join_by text_of_value separator ws)) (items-again vs) in
    subst (Gives view r) (sym whole) h
