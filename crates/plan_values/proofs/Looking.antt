-- A name is looked for among the contexts that were made, one context at a time.
use Rattle.std.proofs.Common.{◌≡◌, ℕ, Bool, true, false, cond, Option, Some, None, List, ◌∷◌, refl, sym, is_some, ◌∙◌}
use Rattle.std.specs.Cmp.Lexicographic.{slice_cmp}
use Rattle.std.specs.Ordering.{nat_cmp, is_eq}
use Rattle.expr_reader.specs.Names.{context_name}
use Rattle.expr_reader.specs.declared.tree.Context.{Context}
use Rattle.expr_value.specs.Context.{Contexts}
use Rattle.flow_model.specs.Mapping.{value_at}
use Rattle.flow_model.specs.Plain.{Plain}
use Rattle.plan_values.specs.Known.{with_context, contexts_by}

here_by : (v w : Plain) (o rest : Option Plain) (b : Bool) → cond b o None ≡ Some v → o ≡ Some w → cond b (Some w) rest ≡ Some v
here_by v w o rest true found is = sym is ∙ found
here_by v w o rest false found is = absurd (cc)

here_with : (name : List ℕ) (x : Context) (v : Plain) (o : Option Plain) (rest : Contexts) → cond (is_eq (slice_cmp nat_cmp name (context_name x))) o None ≡ Some v → value_at name (with_context x o rest) ≡ Some v
here_with name x v (Some w) rest found = here_by v w (Some w) (value_at name rest) (is_eq (slice_cmp nat_cmp name (context_name x))) found refl
here_with name x v None rest found = absurd (nothing (is_eq (slice_cmp nat_cmp name (context_name x))) v found)
  where
    nothing : (b : Bool) (v : Plain) → (let n : Option Plain = None in cond b n n ≡ Some v) → ⊥
    nothing true v h = cc
    nothing false v h = cc

-- The name is this context's, and its value was made.
pub here : (name : List ℕ) (x : Context) (v : Plain) (f : Context → Option Plain) (xs : List Context) → cond (is_eq (slice_cmp nat_cmp name (context_name x))) (f x) None ≡ Some v → value_at name (contexts_by f (x ∷ xs)) ≡ Some v
here name x v f xs found = here_with name x v (f x) (contexts_by f xs) found

further_by : (w : Plain) (o rest : Option Plain) (b : Bool) → cond b o None ≡ None → o ≡ Some w → cond b (Some w) rest ≡ rest
further_by w o rest true found is = absurd (cc)
further_by w o rest false found is = refl

further_with : (name : List ℕ) (x : Context) (o : Option Plain) (rest : Contexts) → cond (is_eq (slice_cmp nat_cmp name (context_name x))) o None ≡ None → value_at name (with_context x o rest) ≡ value_at name rest
further_with name x (Some w) rest found = further_by w (Some w) (value_at name rest) (is_eq (slice_cmp nat_cmp name (context_name x))) found refl
further_with name x None rest found = refl

-- What is found under the name of the first context stands in all.
pub found_here : (name : List ℕ) (x : Context) (f : Context → Option Plain) (xs : List Context) (o : Option Plain) → o ≡ cond (is_eq (slice_cmp nat_cmp name (context_name x))) (f x) None → is_some o ≡ true → o ≡ value_at name (contexts_by f (x ∷ xs))
found_here name x f xs None is some = cc
found_here name x f xs (Some v) is some = sym (here name x v f xs (sym is))

-- The name is another's, or the value was not made.
pub further : (name : List ℕ) (x : Context) (f : Context → Option Plain) (xs : List Context) → cond (is_eq (slice_cmp nat_cmp name (context_name x))) (f x) None ≡ None → value_at name (contexts_by f (x ∷ xs)) ≡ value_at name (contexts_by f xs)
further name x f xs found = further_with name x (f x) (contexts_by f xs) found
