-- A text that stands for itself is its own value, and what is taken as it is has no fault.
use Rattle.std.proofs.Common.{◌≡◌, ℕ, ◌≤◌, true, nat_le, Result, Ok, Err, List, [], ◌∷◌, length, ap, sym, subst, ◌∙◌, arith, append-nil}
use Rattle.std.proofs.lemmas.Bool.{and_parts}
use Rattle.std.proofs.lemmas.Bool.Decides.{nat_tests}
use Rattle.expr_reader.specs.Accepts.{WhatStandsForItselfIsRead, stands_for_itself}
use Rattle.expr_value.specs.Context.{Contexts}
use Rattle.expr_value.specs.Limit.{limited}
use Rattle.expr_value.specs.Template.{text_answer}
use Rattle.flow_model.specs.Plain.{Plain, null, truth, whole, text, list, map}
use Rattle.flow_model.specs.declared.reply.ValueFault.{ValueFault}
use Rattle.plan_values.specs.Env.{env_text, env_value, with_variable}
use Rattle.plan_values.specs.Own.{HasNoFault, is_own_value, has_own_values}
use Rattle.plan_values.specs.Texts.{read_value, text_text, text_value}
use Rattle.plan_values.specs.Values.{Env}

within : (bytes : List ℕ) → length bytes ≤ 1048576 → limited bytes ≡ Ok (text bytes)
within bytes short =
    let test : nat_le (length bytes) 1048576 ≡ true = grind (arith, nat_tests) in
    rw test

short_of : (bytes : List ℕ) → stands_for_itself bytes ≡ true → length bytes ≤ 1048576
short_of bytes holds = grind (arith, nat_tests)

-- A text that stands for itself is its own value.
pub own_value : WhatStandsForItselfIsRead → (c : Contexts) (bytes : List ℕ) → stands_for_itself bytes ≡ true → text_value c bytes ≡ Ok (text bytes)
unfolding text_value
own_value read c [] holds = ap (read_value c) (read [] holds)
own_value read c (b ∷ bs) holds =
    ap (read_value c) (read (b ∷ bs) holds)
    ∙ ap (λ (bytes : List ℕ). limited bytes) (append-nil (b ∷ bs))
    ∙ within (b ∷ bs) (short_of (b ∷ bs) holds)

-- It is its own text.
pub own_text : WhatStandsForItselfIsRead → (c : Contexts) (bytes : List ℕ) → stands_for_itself bytes ≡ true → text_text c bytes ≡ Ok bytes
unfolding text_text
own_text read c bytes holds = ap text_answer (own_value read c bytes holds)

-- It has no fault.
pub text_is_own : WhatStandsForItselfIsRead → (c : Contexts) (bytes : List ℕ) → stands_for_itself bytes ≡ true → HasNoFault (text_text c bytes)
text_is_own read c bytes holds = subst (λ (r : Result (List ℕ) ValueFault). HasNoFault r) (sym (own_text read c bytes holds)) tt

value_is_own : WhatStandsForItselfIsRead → (c : Contexts) (v : Plain) → is_own_value v ≡ true → HasNoFault (env_text c v)
unfolding env_text
value_is_own read c null holds = tt
value_is_own read c (truth b) holds = tt
value_is_own read c (whole z) holds = tt
value_is_own read c (text bytes) holds = text_is_own read c bytes holds
value_is_own read c (list vs) holds = tt
value_is_own read c (map ms) holds = tt

with_no_fault : (name : List ℕ) (r : Result (List ℕ) ValueFault) (others : Result Env ValueFault) → HasNoFault r → HasNoFault others → HasNoFault (with_variable name r others)
with_no_fault name (Ok bytes) (Ok env) h k = tt
with_no_fault name (Ok bytes) (Err fault) h k = absurd k
with_no_fault name (Err fault) others h k = absurd h

-- An `env` whose values are taken as they are has no fault.
pub env_is_own : WhatStandsForItselfIsRead → (c : Contexts) (ps : List (List ℕ × Plain)) → has_own_values ps ≡ true → HasNoFault (env_value c ps)
unfolding env_value
env_is_own read c [] holds = tt
env_is_own read c (p ∷ ps) holds =
    let both = and_parts (is_own_value p.1) (has_own_values ps) holds in
    with_no_fault p.0 (env_text c p.1) (env_value c ps) (value_is_own read c p.1 both.0) (env_is_own read c ps both.1)
