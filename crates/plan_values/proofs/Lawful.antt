-- The laws of the values.
use Rattle.std.proofs.Common.{◌≡◌, ℕ, false, cond, ◌||◌, Result, Ok, Err, List, [], ◌∷◌, ◌++◌, Ordering, Less, Equal, Greater, refl, sym, ap, subst, ◌∙◌, nat_cmp}
use Rattle.std.proofs.lemmas.Cmp.{nat_list_cmp_total}
use Rattle.std.specs.Cmp.Lexicographic.{slice_cmp}
use Rattle.std.specs.List.{AllByRecursion}
use Rattle.std.specs.List.Sorted.{IsStrictlySortedBy}
use Rattle.std.specs.Ordering.{match_ordering, ordering_reverse}
use Rattle.expr_reader.specs.Accepts.{ConditionsAreRead}
use Rattle.expr_reader.specs.Expr.{call, none}
use Rattle.expr_reader.specs.Template.{marked}
use Rattle.expr_reader.specs.declared.tree.Function.TheVariants.{Always}
use Rattle.expr_value.specs.Condition.{truth_value}
use Rattle.expr_value.specs.Context.{Contexts}
use Rattle.expr_value.specs.Template.{template_value}
use Rattle.flow_model.specs.Mapping.{value_at, with_pair, keys_of, Ascends}
use Rattle.flow_model.specs.Plain.{Plain}
use Rattle.flow_model.specs.declared.reply.ValueFault.{ValueFault}
use Rattle.plan_values.specs.Env.{env_text, with_variable, env_value, laid_over, or_below}
use Rattle.plan_values.specs.Laws.{AlwaysHolds, EnvHasItsNames, FaultTakesOutItsOutput, LevelsStayInOrder, MostSpecificWins, OutputStandsInItsPlace, TruthIsItself, WaitsForSuccess}
use Rattle.plan_values.specs.Outputs.{with_output, outputs_value}
use Rattle.plan_values.specs.Texts.{text_text, read_holds, condition_value, flag_value}
use Rattle.plan_values.specs.Values.{Env}
use Rattle.plan_values.proofs.Setting.{laid_found}

pub always_holds : ConditionsAreRead → AlwaysHolds
unfolding condition_value
always_holds read c s bytes spelled = ap (read_holds c s) ((read bytes (marked (call Always none) ∷ [])).1 spelled)

pub waits_for_success : WaitsForSuccess
unfolding condition_value
waits_for_success c s fails = (
  λ bytes ps read plain. ap (read_holds c s) read ∙ (λ i. cond (plain i || fails i) (truth_value (template_value c s ps)) (Ok false)),
  ap Ok fails,
)

pub truth_is_itself : TruthIsItself
unfolding flag_value
truth_is_itself c b = refl

pub most_specific_wins : MostSpecificWins
most_specific_wins workflow job step name at_job at_step =
    laid_found name step (laid_over job workflow) at_step ∙ ap (or_below (value_at name step)) (laid_found name job workflow at_job)

ok_is : (e d : Env) (r : Result Env ValueFault) → r ≡ Ok e → r ≡ Ok d → e ≡ d
ok_is e d r h g = cc

no_ok : (fault : ValueFault) (e : Env) (r : Result Env ValueFault) → r ≡ Err fault → r ≡ Ok e → ⊥
no_ok fault e r h g = cc

names_by : (name : List ℕ) (r : Result (List ℕ) ValueFault) (others : Result Env ValueFault) (ks : List (List ℕ)) (env : Env) → ((e : Env) → others ≡ Ok e → keys_of e ≡ ks) → with_variable name r others ≡ Ok env → keys_of env ≡ name ∷ ks
names_by name (Ok bytes) (Ok e) ks env rest h =
    ap (λ (ps : Env). keys_of ps) (ok_is env ((name, bytes) ∷ e) (with_variable name (Ok bytes) (Ok e)) h refl) ∙ ap (λ (zs : List (List ℕ)). name ∷ zs) (rest e refl)
names_by name (Ok bytes) (Err fault) ks env rest h = absurd (no_ok fault env (with_variable name (Ok bytes) (Err fault)) refl h)
names_by name (Err fault) others ks env rest h = absurd (no_ok fault env (with_variable name (Err fault) others) refl h)

nothing_named : (e : Env) → (let r : Result Env ValueFault = Ok [] in r ≡ Ok e) → keys_of e ≡ []
nothing_named e h = ap (λ (ps : Env). keys_of ps) (ok_is e [] (Ok e) refl (sym h))

same_names : (c : Contexts) (ps : List (List ℕ × Plain)) (env : Env) → env_value c ps ≡ Ok env → keys_of env ≡ keys_of ps
unfolding env_value
same_names c [] env h = nothing_named env h
same_names c (p ∷ ps) env h = names_by p.0 (env_text c p.1) (env_value c ps) (keys_of ps) env (λ e is. same_names c ps e is) h

pub env_has_its_names : EnvHasItsNames
env_has_its_names c ps env ascends h =
    let names : keys_of env ≡ keys_of ps = same_names c ps env h in
    (names, subst (λ (ks : List (List ℕ)). IsStrictlySortedBy (slice_cmp nat_cmp) ks) (sym names) ascends)

below_by : (a k : List ℕ) (v : List ℕ) (p : List ℕ × List ℕ) (ps : Env) (o : Ordering) → slice_cmp nat_cmp a k ≡ Less → AllByRecursion (λ y. slice_cmp nat_cmp a y ≡ Less) (keys_of (p ∷ ps)) → AllByRecursion (λ y. slice_cmp nat_cmp a y ≡ Less) (keys_of (with_pair k v ps))
    → AllByRecursion (λ y. slice_cmp nat_cmp a y ≡ Less) (keys_of (match_ordering o ((k, v) ∷ p ∷ ps) ((p.0, v) ∷ ps) (p ∷ with_pair k v ps)))
below_by a k v p ps Less under h rest = (under, h)
below_by a k v p ps Equal under h rest = h
below_by a k v p ps Greater under h rest = (h.0, rest)

below_set : (a k : List ℕ) (v : List ℕ) (ps : Env) → slice_cmp nat_cmp a k ≡ Less → AllByRecursion (λ y. slice_cmp nat_cmp a y ≡ Less) (keys_of ps) → AllByRecursion (λ y. slice_cmp nat_cmp a y ≡ Less) (keys_of (with_pair k v ps))
below_set a k v [] under h = (under, tt)
below_set a k v (p ∷ ps) under h = below_by a k v p ps (slice_cmp nat_cmp k p.0) under h (below_set a k v ps under h.1)

below_through : (k q : List ℕ) (ks : List (List ℕ)) → slice_cmp nat_cmp k q ≡ Less → AllByRecursion (λ y. slice_cmp nat_cmp q y ≡ Less) ks → AllByRecursion (λ y. slice_cmp nat_cmp k y ≡ Less) ks
below_through k q [] under h = tt
below_through k q (y ∷ ys) under h = (nat_list_cmp_total.trans k q y under h.0, below_through k q ys under h.1)

set_by_order : (k v : List ℕ) (p : List ℕ × List ℕ) (ps : Env) (o : Ordering) → slice_cmp nat_cmp k p.0 ≡ o → Ascends (p ∷ ps) → Ascends (with_pair k v ps) → Ascends (match_ordering o ((k, v) ∷ p ∷ ps) ((p.0, v) ∷ ps) (p ∷ with_pair k v ps))
unfolding IsStrictlySortedBy
set_by_order k v p ps Less at h rest = ((at, below_through k p.0 (keys_of ps) at h.0), h)
set_by_order k v p ps Equal at h rest = h
set_by_order k v p ps Greater at h rest =
    (below_set p.0 k v ps (nat_list_cmp_total.antisymm p.0 k ∙ ap ordering_reverse at) h.0, rest)

set_in_order : (k v : List ℕ) (ps : Env) → Ascends ps → Ascends (with_pair k v ps)
unfolding IsStrictlySortedBy
set_in_order k v [] h = (tt, tt)
set_in_order k v (p ∷ ps) h = set_by_order k v p ps (slice_cmp nat_cmp k p.0) refl h (set_in_order k v ps h.1)

pub levels_stay_in_order : LevelsStayInOrder
unfolding laid_over
levels_stay_in_order below [] h = h
levels_stay_in_order below (p ∷ ps) h = levels_stay_in_order (with_pair p.0 p.1 below) ps (set_in_order p.0 p.1 below h)

pub fault_takes_out_its_output : FaultTakesOutItsOutput
unfolding outputs_value
fault_takes_out_its_output c [] after name bytes fault h = ap (λ (r : Result (List ℕ) ValueFault). with_output name r (outputs_value c after)) h
fault_takes_out_its_output c (p ∷ ps) after name bytes fault h = ap (with_output p.0 (text_text c p.1)) (fault_takes_out_its_output c ps after name bytes fault h)

output_before : (name : List ℕ) (r : Result (List ℕ) ValueFault) (xs ys : Env) → with_output name r (xs ++ ys) ≡ with_output name r xs ++ ys
output_before name (Ok bytes) xs ys = refl
output_before name (Err fault) xs ys = refl

pub output_stands_in_its_place : OutputStandsInItsPlace
unfolding outputs_value
output_stands_in_its_place c [] after name from bytes h = ap (λ (r : Result (List ℕ) ValueFault). with_output name r (outputs_value c after)) h
output_stands_in_its_place c (p ∷ ps) after name from bytes h =
    ap (with_output p.0 (text_text c p.1)) (output_stands_in_its_place c ps after name from bytes h)
    ∙ output_before p.0 (text_text c p.1) (outputs_value c ps) ((name, bytes) ∷ outputs_value c after)
