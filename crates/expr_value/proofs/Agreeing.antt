-- A value depends only on the contexts that its expression names.
use Rattle.std.proofs.Common.{◌≡◌, Bool, true, false, ◌||◌, cond, Ok, List, [], ◌∷◌, refl, ap}
use Rattle.expr_reader.specs.Expr.{Expr, Exprs, literal, context, call, group, property, index, wildcard, opposite, relation, equality, both, either, none, more}
use Rattle.expr_reader.specs.Template.{Piece, plain, marked, names_status}
use Rattle.expr_reader.specs.declared.tree.Context.{Context}
use Rattle.expr_reader.specs.declared.tree.Context.TheVariants.{Github, Env, Vars, Job, Jobs, Steps, Runner, Secrets, Strategy, Matrix, Needs, Inputs}
use Rattle.expr_value.specs.Condition.{condition_holds, truth_value}
use Rattle.expr_value.specs.Context.{Contexts}
use Rattle.expr_value.specs.Dereference.{one}
use Rattle.expr_value.specs.Evaluate.{Answer, Chain, ended, begun, then_value, all_values, call_value, conjunction, disjunction, opposite_value, relation_value, equality_value, of_two, property_chain, index_chain, all_chain, chain, answers, value}
use Rattle.expr_value.specs.Functions.{is_success}
use Rattle.expr_value.specs.Limit.{last_value}
use Rattle.expr_value.specs.Named.{is_same_context, expr_names_context, any_names_context, piece_names_context, pieces_name_context, AgreeOn}
use Rattle.expr_value.specs.Template.{text_answer, piece_text, with_text, pieces_text, limited_text, template_value}
use Rattle.expr_value.specs.declared.status.Status.{Status}
use Rattle.flow_model.specs.Plain as model

same_itself : (x : Context) → is_same_context x x ≡ true
same_itself Github = refl
same_itself Env = refl
same_itself Vars = refl
same_itself Job = refl
same_itself Jobs = refl
same_itself Steps = refl
same_itself Runner = refl
same_itself Secrets = refl
same_itself Strategy = refl
same_itself Matrix = refl
same_itself Needs = refl
same_itself Inputs = refl

from_left : (a b : Bool) → a ≡ true → (a || b) ≡ true
from_left true b h = refl
from_left false b h = absurd (cc)

from_right : (a b : Bool) → b ≡ true → (a || b) ≡ true
from_right true b h = refl
from_right false b h = h

-- What agrees on two tests agrees on each.
left : (f g : Context → Bool) (c d : Contexts) → AgreeOn (λ x. f x || g x) c d → AgreeOn f c d
left f g c d h = λ x named. h x (from_left (f x) (g x) named)

right : (f g : Context → Bool) (c d : Contexts) → AgreeOn (λ x. f x || g x) c d → AgreeOn g c d
right f g c d h = λ x named. h x (from_right (f x) (g x) named)

-- ---- an expression

mutual
  chain_alike : (c d : Contexts) (s : Status) (e : Expr) → AgreeOn (λ x. expr_names_context x e) c d → chain c s e ≡ chain d s e
  chain_alike c d s (literal l) h = refl
  chain_alike c d s (context x) h = ap (λ (v : model.Plain). Ok (one v)) (h x (same_itself x))
  chain_alike c d s (call f es) h = ap (λ (z : List Answer). begun (call_value f s (all_values z))) (answers_alike c d s es h)
  chain_alike c d s (group e) h = ap (λ (z : Chain). begun (ended z)) (chain_alike c d s e h)
  chain_alike c d s (property e name) h = ap (property_chain name) (chain_alike c d s e h)
  chain_alike c d s (index e i) h =
      let p = chain_alike c d s e (left (λ x. expr_names_context x e) (λ x. expr_names_context x i) c d h) in
      let q = chain_alike c d s i (right (λ x. expr_names_context x e) (λ x. expr_names_context x i) c d h) in
      λ j. index_chain (p j) (ended (q j))
  chain_alike c d s (wildcard w e) h = ap all_chain (chain_alike c d s e h)
  chain_alike c d s (opposite e) h = ap (λ (z : Chain). begun (then_value (ended z) opposite_value)) (chain_alike c d s e h)
  chain_alike c d s (relation r a b) h =
      let p = chain_alike c d s a (left (λ x. expr_names_context x a) (λ x. expr_names_context x b) c d h) in
      let q = chain_alike c d s b (right (λ x. expr_names_context x a) (λ x. expr_names_context x b) c d h) in
      λ j. begun (of_two (relation_value r) (ended (p j)) (ended (q j)))
  chain_alike c d s (equality r a b) h =
      let p = chain_alike c d s a (left (λ x. expr_names_context x a) (λ x. expr_names_context x b) c d h) in
      let q = chain_alike c d s b (right (λ x. expr_names_context x a) (λ x. expr_names_context x b) c d h) in
      λ j. begun (of_two (equality_value r) (ended (p j)) (ended (q j)))
  chain_alike c d s (both es) h = ap (λ (z : List Answer). begun (conjunction (model.truth true) z)) (answers_alike c d s es h)
  chain_alike c d s (either es) h = ap (λ (z : List Answer). begun (disjunction (model.truth false) z)) (answers_alike c d s es h)

  answers_alike : (c d : Contexts) (s : Status) (es : Exprs) → AgreeOn (λ x. any_names_context x es) c d → answers c s es ≡ answers d s es
  answers_alike c d s none h = refl
  answers_alike c d s (more e es) h =
      let p = chain_alike c d s e (left (λ x. expr_names_context x e) (λ x. any_names_context x es) c d h) in
      let q = answers_alike c d s es (right (λ x. expr_names_context x e) (λ x. any_names_context x es) c d h) in
      λ j. ended (p j) ∷ q j

pub value_agrees : (c d : Contexts) (s : Status) (e : Expr) → AgreeOn (λ x. expr_names_context x e) c d → value c s e ≡ value d s e
value_agrees c d s e h = ap ended (chain_alike c d s e h)

-- ---- a template

piece_alike : (c d : Contexts) (s : Status) (p : Piece) → AgreeOn (λ x. piece_names_context x p) c d → piece_text c s p ≡ piece_text d s p
piece_alike c d s (plain bytes) h = refl
piece_alike c d s (marked e) h = ap text_answer (value_agrees c d s e h)

pieces_alike : (c d : Contexts) (s : Status) (ps : List Piece) → AgreeOn (λ x. pieces_name_context x ps) c d → pieces_text c s ps ≡ pieces_text d s ps
pieces_alike c d s [] h = refl
pieces_alike c d s (p ∷ ps) h =
    let here = piece_alike c d s p (left (λ x. piece_names_context x p) (λ x. pieces_name_context x ps) c d h) in
    let rest = pieces_alike c d s ps (right (λ x. piece_names_context x p) (λ x. pieces_name_context x ps) c d h) in
    λ j. with_text (here j) (rest j)

pub template_agrees : (c d : Contexts) (s : Status) (ps : List Piece) → AgreeOn (λ x. pieces_name_context x ps) c d → template_value c s ps ≡ template_value d s ps
template_agrees c d s [] h = refl
template_agrees c d s (plain bytes ∷ ps) h = ap limited_text (pieces_alike c d s (plain bytes ∷ ps) h)
template_agrees c d s (marked e ∷ []) h = ap (λ (z : Answer). then_value z last_value) (value_agrees c d s e (left (λ x. expr_names_context x e) (λ x. false) c d h))
template_agrees c d s (marked e ∷ p ∷ ps) h = ap limited_text (pieces_alike c d s (marked e ∷ p ∷ ps) h)

-- ---- a condition

pub condition_agrees : (c d : Contexts) (s : Status) (ps : List Piece) → AgreeOn (λ x. pieces_name_context x ps) c d → condition_holds c s ps ≡ condition_holds d s ps
condition_agrees c d s ps h = ap (λ (a : Answer). cond (names_status ps || is_success s) (truth_value a) (Ok false)) (template_agrees c d s ps h)
