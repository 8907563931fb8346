-- What is known once the values of contexts were made.
use Rattle.std.proofs.Common.{◌≡◌, Bool, true, false, cond, ◌||◌, is_some, Option, Some, None, IfSome, List, [], ◌∷◌, refl, sym, ap, subst, ◌∙◌}
use Rattle.std.specs.List.{list_any}
use Rattle.expr_reader.specs.Names.{context_name}
use Rattle.expr_reader.specs.declared.tree.Context.{Context}
use Rattle.expr_reader.specs.declared.tree.Context.TheVariants as context
use Rattle.expr_value.specs.Named.{is_same_context}
use Rattle.flow_model.specs.Mapping.{value_at}
use Rattle.flow_model.specs.Plain.{Plain}
use Rattle.plan_values.specs.Known.{value_made, IsKnownOf, with_env_value, with_made, with_value, made_one, made_all}
use Rattle.plan_values.specs.Values.{Values, Env, is_env, env_context, with_env}
use Rattle.plan_values.specs.declared.known.Known.{Known}
use Rattle.plan_values.proofs.Names.{same_is, same_itself, same_turned}
use Rattle.plan_values.proofs.Setting.{chosen_twice, choices_turned, set_found}

after_env : (x y : Context) (v : Plain) (k : Known) → is_env x ≡ true → value_made (with_env_value v k) y ≡ cond (is_same_context x y) (Some v) (value_made k y)
unfolding value_made
after_env x y v k h =
    let rest : Option Plain = value_at (context_name y) k.made in
    chosen_twice (is_env y) (Some v) k.env_value rest
    ∙ ap (λ (z : Context). cond (is_same_context z y) (Some v) (cond (is_env y) k.env_value rest)) (same_is context.Env x h)

not_both : (x y : Context) → is_env x ≡ false → is_env y ≡ true → is_same_context x y ≡ true → ⊥
not_both x y other env same =
    let is : is_env x ≡ true = ap is_env (same_is x y same) ∙ env in
    cc

after_other : (x y : Context) (v : Plain) (k : Known) → is_env x ≡ false → value_made (with_made x v k) y ≡ cond (is_same_context x y) (Some v) (value_made k y)
unfolding value_made
after_other x y v k h =
    let rest : Option Plain = value_at (context_name y) k.made in
    ap (λ (o : Option Plain). cond (is_env y) k.env_value o) (set_found (context_name y) (context_name x) v k.made)
    ∙ ap (λ (b : Bool). cond (is_env y) k.env_value (cond b (Some v) rest)) (same_turned y x)
    ∙ choices_turned (is_env y) (is_same_context x y) k.env_value (Some v) rest (not_both x y h)

after_by : (x y : Context) (v : Plain) (k : Known) (b : Bool) → is_env x ≡ b → value_made (cond b (with_env_value v k) (with_made x v k)) y ≡ cond (is_same_context x y) (Some v) (value_made k y)
after_by x y v k true at = after_env x y v k at
after_by x y v k false at = after_other x y v k at

-- The value that was made is there, and the others stay.
pub value_after : (x y : Context) (v : Plain) (k : Known) → value_made (with_value x v k) y ≡ cond (is_same_context x y) (Some v) (value_made k y)
value_after x y v k = after_by x y v k (is_env x) refl

-- Each value that was made is this one.
abbrev pub Agrees : Values → Known → Type 0
Agrees values k = (x : Context) → IfSome (value_made k x) (λ v. v ≡ values x)

-- ---- the value of one context

env_by : (v : Plain) (x : Context) (k : Known) (a b : Bool) → (cond a k (cond b (with_env_value v k) (with_made x v k))).env ≡ k.env
env_by v x k true b = refl
env_by v x k false true = refl
env_by v x k false false = refl

-- The variables stay.
pub one_env : (values : Values) (x : Context) (k : Known) → (made_one values x k).env ≡ k.env
unfolding made_one
one_env values x k = env_by (values x) x k (is_some (value_made k x)) (is_env x)

agrees_after : (values : Values) (x y : Context) (k : Known) (b : Bool) → is_same_context x y ≡ b → IfSome (value_made k y) (λ v. v ≡ values y) → IfSome (cond b (Some (values x)) (value_made k y)) (λ v. v ≡ values y)
agrees_after values x y k true same h = ap values (same_is x y same)
agrees_after values x y k false same h = h

agrees_by : (values : Values) (x : Context) (k : Known) (b : Bool) → Agrees values k → Agrees values (cond b k (with_value x (values x) k))
agrees_by values x k true h = h
agrees_by values x k false h =
    λ y. subst (λ (o : Option Plain). IfSome o (λ v. v ≡ values y)) (sym (value_after x y (values x) k)) (agrees_after values x y k (is_same_context x y) refl (h y))

pub one_agrees : (values : Values) (x : Context) (k : Known) → Agrees values k → Agrees values (made_one values x k)
unfolding made_one
one_agrees values x k h = agrees_by values x k (is_some (value_made k x)) h

is_that : (values : Values) (x : Context) (o : Option Plain) → is_some o ≡ true → IfSome o (λ v. v ≡ values x) → o ≡ Some (values x)
is_that values x None some h = cc
is_that values x (Some v) some h = ap Some h

holds_by : (values : Values) (x : Context) (k : Known) (b : Bool) → is_some (value_made k x) ≡ b → Agrees values k → value_made (cond b k (with_value x (values x) k)) x ≡ Some (values x)
holds_by values x k true at h = is_that values x (value_made k x) at (h x)
holds_by values x k false at h =
    value_after x x (values x) k ∙ ap (λ (b : Bool). cond b (Some (values x)) (value_made k x)) (same_itself x)

-- The value is made.
pub one_holds : (values : Values) (x : Context) (k : Known) → Agrees values k → value_made (made_one values x k) x ≡ Some (values x)
unfolding made_one
one_holds values x k h = holds_by values x k (is_some (value_made k x)) refl h

kept_after : (values : Values) (x y : Context) (k : Known) (b : Bool) → is_same_context x y ≡ b → value_made k y ≡ Some (values y) → cond b (Some (values x)) (value_made k y) ≡ Some (values y)
kept_after values x y k true same h = ap (λ (z : Context). Some (values z)) (same_is x y same)
kept_after values x y k false same h = h

keeps_by : (values : Values) (x y : Context) (k : Known) (b : Bool) → value_made k y ≡ Some (values y) → value_made (cond b k (with_value x (values x) k)) y ≡ Some (values y)
keeps_by values x y k true h = h
keeps_by values x y k false h = value_after x y (values x) k ∙ kept_after values x y k (is_same_context x y) refl h

-- A value that was made stays.
pub one_keeps : (values : Values) (x y : Context) (k : Known) → value_made k y ≡ Some (values y) → value_made (made_one values x k) y ≡ Some (values y)
unfolding made_one
one_keeps values x y k h = keeps_by values x y k (is_some (value_made k x)) h

-- ---- the values of some contexts

step_env : (values : Values) (x : Context) (k : Known) (b : Bool) → (cond b (made_one values x k) k).env ≡ k.env
step_env values x k true = one_env values x k
step_env values x k false = refl

step_agrees : (values : Values) (x : Context) (k : Known) (b : Bool) → Agrees values k → Agrees values (cond b (made_one values x k) k)
step_agrees values x k true h = one_agrees values x k h
step_agrees values x k false h = h

step_keeps : (values : Values) (x y : Context) (k : Known) (b : Bool) → value_made k y ≡ Some (values y) → value_made (cond b (made_one values x k) k) y ≡ Some (values y)
step_keeps values x y k true h = one_keeps values x y k h
step_keeps values x y k false h = h

all_keeps : (named : Context → Bool) (values : Values) (y : Context) (xs : List Context) (k : Known) → value_made k y ≡ Some (values y) → value_made (made_all named values xs k) y ≡ Some (values y)
all_keeps named values y [] k h = h
all_keeps named values y (x ∷ xs) k h = all_keeps named values y xs (cond (named x) (made_one values x k) k) (step_keeps values x y k (named x) h)

step_holds : (named : Context → Bool) (values : Values) (y x : Context) (k : Known) → Agrees values k → y ≡ x → named y ≡ true → value_made (cond (named x) (made_one values x k) k) y ≡ Some (values y)
step_holds named values y x k h same is =
    let at : named x ≡ true = ap named (sym same) ∙ is in
    ap (λ (b : Bool). value_made (cond b (made_one values x k) k) y) at
    ∙ subst (λ (z : Context). value_made (made_one values x k) z ≡ Some (values z)) (sym same) (one_holds values x k h)

no_one : (b : Bool) → b ≡ false → b ≡ true → ⊥
no_one b h g = cc

abbrev Holds : (Context → Bool) → Values → Context → List Context → Type 0
Holds named values y xs = (k : Known) → Agrees values k → list_any (is_same_context y) xs ≡ true → value_made (made_all named values xs k) y ≡ Some (values y)

holds_at : (named : Context → Bool) (values : Values) (y x : Context) (xs : List Context) (k : Known) (b : Bool) → is_same_context y x ≡ b → Holds named values y xs → Agrees values k → (b || list_any (is_same_context y) xs) ≡ true → named y ≡ true
    → value_made (made_all named values xs (cond (named x) (made_one values x k) k)) y ≡ Some (values y)
holds_at named values y x xs k true same rest h among is = all_keeps named values y xs (cond (named x) (made_one values x k) k) (step_holds named values y x k h (same_is y x same) is)
holds_at named values y x xs k false same rest h among is = rest (cond (named x) (made_one values x k) k) (step_agrees values x k (named x) h) among

-- Each of them that passes the test is made.
pub all_holds : (named : Context → Bool) (values : Values) (y : Context) (xs : List Context) (k : Known) → Agrees values k → list_any (is_same_context y) xs ≡ true → named y ≡ true
    → value_made (made_all named values xs k) y ≡ Some (values y)
all_holds named values y [] k h among is = absurd (no_one false refl among)
all_holds named values y (x ∷ xs) k h among is =
    holds_at named values y x xs k (is_same_context y x) refl (λ j agrees there. all_holds named values y xs j agrees there is) h among is

-- ---- what is known of a scene

none_made : (b : Bool) (old new : Plain) → IfSome (let n : Option Plain = None in cond b n n) (λ v. v ≡ cond b old new)
none_made true old new = tt
none_made false old new = tt

-- Nothing that was made is any scene's.
pub nothing_known : (env : Env) (values : Values) → IsKnownOf values (record { env = env; env_value = None; made = [] })
unfolding value_made
nothing_known env values = record { each = λ x. none_made (is_env x) (env_context env) (values x) }

other_made : (b : Bool) (o m : Option Plain) (old new w : Plain) → IfSome (cond b o m) (λ v. v ≡ cond b old w) → IfSome (cond b None m) (λ v. v ≡ cond b new w)
other_made true o m old new w h = tt
other_made false o m old new w h = h

-- Other variables change nothing in what was made of the scene.
pub other_known : (env : Env) (values : Values) (k : Known) → IsKnownOf values k → IsKnownOf values (record { env = env; env_value = None; made = k.made })
unfolding value_made
other_known env values k h = record {
  each = λ x. other_made (is_env x) k.env_value (value_at (context_name x) k.made) (env_context k.env) (env_context env) (values x) (h.each x);
}

-- What was made more of the same scene is the scene's.
pub one_known : (values : Values) (x : Context) (k : Known) → IsKnownOf values k → IsKnownOf values (made_one (with_env k.env values) x k)
one_known values x k h =
    let same : (made_one (with_env k.env values) x k).env ≡ k.env = one_env (with_env k.env values) x k in
    record { each = λ y. subst (λ (env : Env). IfSome (value_made (made_one (with_env k.env values) x k) y) (λ v. v ≡ with_env env values y)) (sym same) (one_agrees (with_env k.env values) x k h.each y) }
