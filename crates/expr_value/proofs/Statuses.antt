-- What names no status function does not see the status.
use Rattle.std.proofs.Common.{rules, ◌≡◌, ℕ, true, false, ◌||◌, Result, Ok, Err, List, [], ◌∷◌, refl, ap, ◌∙◌}
use Rattle.std.proofs.lemmas.Bool.{or_parts, or_from, cond-false}
use Rattle.expr_reader.specs.Expr.{Expr, Exprs, literal, context, call, group, property, index, wildcard, opposite, relation, equality, both, either, none, more}
use Rattle.expr_reader.specs.Template.{Piece, plain, marked, is_status, expr_names_status, any_names_status, piece_names_status, names_status}
use Rattle.expr_reader.specs.declared.tree.Function.{Function}
use Rattle.expr_reader.specs.declared.tree.Function.TheVariants.{Contains, StartsWith, EndsWith, Format, Join, ToJson, FromJson, Success, Failure, Cancelled, Always}
use Rattle.expr_value.specs.Condition.{condition_holds, truth_value}
use Rattle.expr_value.specs.Context.{Contexts}
use Rattle.expr_value.specs.Evaluate.{Answer, Chain, ended, begun, then_value, all_values, call_value, conjunction, disjunction, opposite_value, relation_value, equality_value, of_two, property_chain, index_chain, all_chain, chain, answers, value}
use Rattle.expr_value.specs.Functions.{called, is_success}
use Rattle.expr_value.specs.Limit.{last_value}
use Rattle.expr_value.specs.Template.{text_answer, piece_text, with_text, pieces_text, limited_text, template_value}
use Rattle.expr_value.specs.declared.status.Status.{Status}
use Rattle.flow_model.specs.Plain as model
use Rattle.flow_model.specs.declared.reply.ValueFault.{ValueFault}

-- ---- a call

called_alike : (f : Function) (s t : Status) (vs : List model.Plain) → is_status f ≡ false → called f s vs ≡ called f t vs
called_alike Contains s t vs h = refl
called_alike StartsWith s t vs h = refl
called_alike EndsWith s t vs h = refl
called_alike Format s t vs h = refl
called_alike Join s t vs h = refl
called_alike ToJson s t vs h = refl
called_alike FromJson s t vs h = refl
called_alike Success s t vs h = absurd (search rules)
called_alike Failure s t vs h = absurd (search rules)
called_alike Cancelled s t vs h = absurd (search rules)
called_alike Always s t vs h = refl

call_alike : (f : Function) (s t : Status) (values : Result (List model.Plain) ValueFault) → is_status f ≡ false → call_value f s values ≡ call_value f t values
call_alike f s t (Ok vs) h = called_alike f s t vs h
call_alike f s t (Err fault) h = refl

-- ---- an expression

two_alike : (combine : model.Plain → model.Plain → Answer) (a b x y : Chain) → a ≡ x → b ≡ y → begun (of_two combine (ended a) (ended b)) ≡ begun (of_two combine (ended x) (ended y))
two_alike combine a b x y p q = ap (λ (z : Chain). begun (of_two combine (ended z) (ended b))) p ∙ ap (λ (z : Chain). begun (of_two combine (ended x) (ended z))) q

index_alike : (a b x y : Chain) → a ≡ x → b ≡ y → index_chain a (ended b) ≡ index_chain x (ended y)
index_alike a b x y p q = ap (λ (z : Chain). index_chain z (ended b)) p ∙ ap (λ (z : Chain). index_chain x (ended z)) q

answers_joined : (a b : Chain) (more_a more_b : List Answer) → a ≡ b → more_a ≡ more_b → ended a ∷ more_a ≡ ended b ∷ more_b
answers_joined a b more_a more_b p q = ap (λ (z : Chain). ended z ∷ more_a) p ∙ ap (λ (z : List Answer). ended b ∷ z) q

mutual
  chain_alike : (c : Contexts) (s t : Status) (e : Expr) → expr_names_status e ≡ false → chain c s e ≡ chain c t e
  chain_alike c s t (literal l) h = refl
  chain_alike c s t (context x) h = refl
  chain_alike c s t (call f es) h =
      let parts = or_parts (is_status f) (any_names_status es) h in
      ap begun (call_alike f s t (all_values (answers c s es)) parts.0)
      ∙ ap (λ (z : List Answer). begun (call_value f t (all_values z))) (answers_alike c s t es parts.1)
  chain_alike c s t (group e) h = ap (λ (z : Chain). begun (ended z)) (chain_alike c s t e h)
  chain_alike c s t (property e name) h = ap (property_chain name) (chain_alike c s t e h)
  chain_alike c s t (index e i) h =
      let parts = or_parts (expr_names_status e) (expr_names_status i) h in
      index_alike (chain c s e) (chain c s i) (chain c t e) (chain c t i) (chain_alike c s t e parts.0) (chain_alike c s t i parts.1)
  chain_alike c s t (wildcard w e) h = ap all_chain (chain_alike c s t e h)
  chain_alike c s t (opposite e) h = ap (λ (z : Chain). begun (then_value (ended z) opposite_value)) (chain_alike c s t e h)
  chain_alike c s t (relation r a b) h =
      let parts = or_parts (expr_names_status a) (expr_names_status b) h in
      two_alike (relation_value r) (chain c s a) (chain c s b) (chain c t a) (chain c t b) (chain_alike c s t a parts.0) (chain_alike c s t b parts.1)
  chain_alike c s t (equality q a b) h =
      let parts = or_parts (expr_names_status a) (expr_names_status b) h in
      two_alike (equality_value q) (chain c s a) (chain c s b) (chain c t a) (chain c t b) (chain_alike c s t a parts.0) (chain_alike c s t b parts.1)
  chain_alike c s t (both es) h = ap (λ (z : List Answer). begun (conjunction (model.truth true) z)) (answers_alike c s t es h)
  chain_alike c s t (either es) h = ap (λ (z : List Answer). begun (disjunction (model.truth false) z)) (answers_alike c s t es h)

  answers_alike : (c : Contexts) (s t : Status) (es : Exprs) → any_names_status es ≡ false → answers c s es ≡ answers c t es
  answers_alike c s t none h = refl
  answers_alike c s t (more e es) h =
      let parts = or_parts (expr_names_status e) (any_names_status es) h in
      answers_joined (chain c s e) (chain c t e) (answers c s es) (answers c t es) (chain_alike c s t e parts.0) (answers_alike c s t es parts.1)

pub value_alike : (c : Contexts) (s t : Status) (e : Expr) → expr_names_status e ≡ false → value c s e ≡ value c t e
value_alike c s t e h = ap ended (chain_alike c s t e h)

-- ---- a template

piece_alike : (c : Contexts) (s t : Status) (p : Piece) → piece_names_status p ≡ false → piece_text c s p ≡ piece_text c t p
piece_alike c s t (plain bytes) h = refl
piece_alike c s t (marked e) h = ap text_answer (value_alike c s t e h)

texts_joined : (a b more_a more_b : Result (List ℕ) ValueFault) → a ≡ b → more_a ≡ more_b → with_text a more_a ≡ with_text b more_b
texts_joined a b more_a more_b p q = ap (λ (z : Result (List ℕ) ValueFault). with_text z more_a) p ∙ ap (with_text b) q

pieces_alike : (c : Contexts) (s t : Status) (ps : List Piece) → names_status ps ≡ false → pieces_text c s ps ≡ pieces_text c t ps
pieces_alike c s t [] h = refl
pieces_alike c s t (p ∷ ps) h =
    let parts = or_parts (piece_names_status p) (names_status ps) h in
    texts_joined (piece_text c s p) (piece_text c t p) (pieces_text c s ps) (pieces_text c t ps) (piece_alike c s t p parts.0) (pieces_alike c s t ps parts.1)

pub template_alike : (c : Contexts) (s t : Status) (ps : List Piece) → names_status ps ≡ false → template_value c s ps ≡ template_value c t ps
template_alike c s t [] h = refl
template_alike c s t (plain bytes ∷ ps) h = ap limited_text (pieces_alike c s t (plain bytes ∷ ps) h)
template_alike c s t (marked e ∷ []) h = ap (λ (z : Answer). then_value z last_value) (value_alike c s t e (or_parts (expr_names_status e) false h).0)
template_alike c s t (marked e ∷ p ∷ ps) h = ap limited_text (pieces_alike c s t (marked e ∷ p ∷ ps) h)

-- ---- a condition

pub condition_waits : (c : Contexts) (s : Status) (ps : List Piece) → names_status ps ≡ false → is_success s ≡ false → condition_holds c s ps ≡ Ok false
condition_waits c s ps unnamed status = cond-false (names_status ps || is_success s) (truth_value (template_value c s ps)) (Ok false) (or_from (names_status ps) (is_success s) unnamed status)
