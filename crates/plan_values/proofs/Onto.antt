-- What is made of an environment and of outputs name by name, set over what was made before.
use Rattle.std.proofs.Common.{◌≡◌, ℕ, Result, Ok, Err, List, [], ◌∷◌, ◌++◌, Less, append_assoc, append-nil, refl, sym, ap, ◌∙◌, nat_cmp}
use Rattle.std.specs.Cmp.Lexicographic.{slice_cmp}
use Rattle.std.specs.List.{AllByRecursion}
use Rattle.std.specs.List.Sorted.{IsStrictlySortedBy}
use Rattle.expr_value.specs.Context.{Contexts}
use Rattle.flow_model.specs.Mapping.{with_pair, keys_of, Ascends}
use Rattle.flow_model.specs.Plain.{Plain}
use Rattle.flow_model.specs.declared.reply.ValueFault.{ValueFault}
use Rattle.flow_model.proofs.LastPair.{with_pair-above, keys_of-next}
use Rattle.plan_values.specs.Env.{env_text, with_variable, env_value, laid_over, set_over_below}
use Rattle.plan_values.specs.Outputs.{with_output, outputs_value, with_output_set}
use Rattle.plan_values.specs.Texts.{text_text}
use Rattle.plan_values.specs.Values.{Env}

-- A variable is set, and the others after it.
abbrev pub set_text : (Env → Result Env ValueFault) → List ℕ → Env → Result (List ℕ) ValueFault → Result Env ValueFault
set_text next name made (Ok bytes) = next (with_pair name bytes made)
set_text next name made (Err fault) = Err fault

-- Variables are set over what was made, one after another.
abbrev pub env_onto : Contexts → List (List ℕ × Plain) → Env → Result Env ValueFault
env_onto c [] made = Ok made
env_onto c (p ∷ ps) made = set_text (env_onto c ps) p.0 made (env_text c p.1)

-- Outputs are set over what was made, one after another.
abbrev pub outputs_onto : Contexts → Env → Env → Env
outputs_onto c [] made = made
outputs_onto c (p ∷ ps) made = outputs_onto c ps (with_output_set p.0 (text_text c p.1) made)

abbrev after : Env → Result Env ValueFault → Result Env ValueFault
after made (Ok env) = Ok (made ++ env)
after made (Err fault) = Err fault

after_one : (made : Env) (name bytes : List ℕ) (others : Result Env ValueFault) → after (made ++ (name, bytes) ∷ []) others ≡ after made (with_variable name (Ok bytes) others)
after_one made name bytes (Ok env) = ap Ok (append_assoc made ((name, bytes) ∷ []) env)
after_one made name bytes (Err fault) = refl

abbrev EnvIs : Contexts → List (List ℕ × Plain) → Type 0
EnvIs c ps = (made : Env) (all : List (List ℕ)) → keys_of made ++ keys_of ps ≡ all → IsStrictlySortedBy (slice_cmp nat_cmp) all → env_onto c ps made ≡ after made (env_value c ps)

env_by : (c : Contexts) (name : List ℕ) (ps : List (List ℕ × Plain)) (made : Env) (all : List (List ℕ)) (r : Result (List ℕ) ValueFault) → EnvIs c ps → keys_of made ++ name ∷ keys_of ps ≡ all → IsStrictlySortedBy (slice_cmp nat_cmp) all
    → set_text (env_onto c ps) name made r ≡ after made (with_variable name r (env_value c ps))
env_by c name ps made all (Ok bytes) rest e h =
    rest (with_pair name bytes made) all (keys_of-next made name bytes (keys_of ps) all e h) h
    ∙ ap (λ (env : Env). after env (env_value c ps)) (with_pair-above made name bytes (keys_of ps) all e h)
    ∙ after_one made name bytes (env_value c ps)
env_by c name ps made all (Err fault) rest e h = refl

env_is : (c : Contexts) (ps : List (List ℕ × Plain)) → EnvIs c ps
unfolding env_value
env_is c [] made all e h = ap Ok (sym (append-nil made))
env_is c (p ∷ ps) made all e h = env_by c p.0 ps made all (env_text c p.1) (env_is c ps) e h

after_none : (r : Result Env ValueFault) → after [] r ≡ r
after_none (Ok env) = refl
after_none (Err fault) = refl

-- Set over nothing they are the environment.
pub env_onto_none : (c : Contexts) (ps : List (List ℕ × Plain)) → Ascends ps → env_onto c ps [] ≡ env_value c ps
env_onto_none c ps h = env_is c ps [] (keys_of ps) refl h ∙ after_none (env_value c ps)

below_by : (c : Contexts) (name : List ℕ) (ps : List (List ℕ × Plain)) (below : Env) (r : Result (List ℕ) ValueFault) (others : Result Env ValueFault)
    → ((made : Env) → env_onto c ps made ≡ set_over_below others made)
    → set_text (env_onto c ps) name below r ≡ set_over_below (with_variable name r others) below
unfolding laid_over
below_by c name ps below (Ok bytes) (Ok env) rest = rest (with_pair name bytes below)
below_by c name ps below (Ok bytes) (Err fault) rest = rest (with_pair name bytes below)
below_by c name ps below (Err fault) others rest = refl

-- Set over others they are the environment laid over these.
pub env_onto_below : (c : Contexts) (ps : List (List ℕ × Plain)) (below : Env) → env_onto c ps below ≡ set_over_below (env_value c ps) below
unfolding env_value laid_over
env_onto_below c [] below = refl
env_onto_below c (p ∷ ps) below = below_by c p.0 ps below (env_text c p.1) (env_value c ps) (env_onto_below c ps)

-- Set over none they are the environment.
pub env_over_none : (c : Contexts) (ps : List (List ℕ × Plain)) → Ascends ps → set_over_below (env_value c ps) [] ≡ env_value c ps
env_over_none c ps h = sym (env_onto_below c ps []) ∙ env_onto_none c ps h

below_without : (a : List ℕ) (xs : List (List ℕ)) (k : List ℕ) (ys : List (List ℕ)) → AllByRecursion (λ y. slice_cmp nat_cmp a y ≡ Less) (xs ++ k ∷ ys) → AllByRecursion (λ y. slice_cmp nat_cmp a y ≡ Less) (xs ++ ys)
below_without a [] k ys h = h.1
below_without a (x ∷ xs) k ys h = (h.0, below_without a xs k ys h.1)

sorted_without : (xs : List (List ℕ)) (k : List ℕ) (ys : List (List ℕ)) → IsStrictlySortedBy (slice_cmp nat_cmp) (xs ++ k ∷ ys) → IsStrictlySortedBy (slice_cmp nat_cmp) (xs ++ ys)
unfolding IsStrictlySortedBy
sorted_without [] k ys h = h.1
sorted_without (x ∷ xs) k ys h = (below_without x xs k ys h.0, sorted_without xs k ys h.1)

abbrev OutputsAre : Contexts → Env → Type 0
OutputsAre c ps = (made : Env) → IsStrictlySortedBy (slice_cmp nat_cmp) (keys_of made ++ keys_of ps) → outputs_onto c ps made ≡ made ++ outputs_value c ps

outputs_by : (c : Contexts) (name : List ℕ) (ps made : Env) (r : Result (List ℕ) ValueFault) → OutputsAre c ps → IsStrictlySortedBy (slice_cmp nat_cmp) (keys_of made ++ name ∷ keys_of ps)
    → outputs_onto c ps (with_output_set name r made) ≡ made ++ with_output name r (outputs_value c ps)
outputs_by c name ps made (Ok bytes) rest h =
    rest (with_pair name bytes made) (rw (keys_of-next made name bytes (keys_of ps) (keys_of made ++ name ∷ keys_of ps) refl h) h)
    ∙ ap (λ (env : Env). env ++ outputs_value c ps) (with_pair-above made name bytes (keys_of ps) (keys_of made ++ name ∷ keys_of ps) refl h)
    ∙ append_assoc made ((name, bytes) ∷ []) (outputs_value c ps)
outputs_by c name ps made (Err fault) rest h = rest made (sorted_without (keys_of made) name (keys_of ps) h)

outputs_are : (c : Contexts) (ps : Env) → OutputsAre c ps
unfolding outputs_value
outputs_are c [] made h = sym (append-nil made)
outputs_are c (p ∷ ps) made h = outputs_by c p.0 ps made (text_text c p.1) (outputs_are c ps) h

-- Set over nothing they are the outputs.
pub outputs_onto_none : (c : Contexts) (ps : Env) → Ascends ps → outputs_onto c ps [] ≡ outputs_value c ps
outputs_onto_none c ps h = outputs_are c ps [] h
