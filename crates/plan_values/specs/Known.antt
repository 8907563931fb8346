-- What is known of a scene while the texts of one event are evaluated.
use Rattle.std.specs.Prelude.{◌≡◌, Bool, is_some, if◌then◌else◌, Option, Some, None, IfSome, List, [], ◌∷◌}
use Rattle.expr_reader.specs.Names.{context_name}
use Rattle.expr_reader.specs.declared.tree.Context.{Context}
use Rattle.expr_value.specs.Context.{Contexts}
use Rattle.flow_model.specs.Mapping.{value_at, with_pair}
use Rattle.flow_model.specs.Plain.{Plain}
use Rattle.plan_values.specs.Places.{seen_at}
use Rattle.plan_values.specs.Values.{Values, Env, is_env, with_env}
use Rattle.plan_values.specs.declared.known.Known.{Known}
use Rattle.plan_values.specs.declared.place.TextPlace.{TextPlace}

-- The variables that texts see as `env`.
abbrev pub known_env : Known → Env
known_env known = known.env

-- The value of a context, where it was made.
unfoldable pub value_made : Known → Context → Option Plain
value_made known x = if is_env x then known.env_value else value_at (context_name x) known.made

-- Each value that was made is the scene's, and that of `env` the variables'.
pub record IsKnownOf (values : Values) (known : Known) : Type 0 where
  pub each : (x : Context) → IfSome (value_made known x) (λ v. v ≡ with_env known.env values x)

-- What is known once the value of `env` is made.
abbrev pub with_env_value : Plain → Known → Known
with_env_value v known = record { env = known.env; env_value = Some v; made = known.made }

-- What is known once the value of another context is made.
abbrev pub with_made : Context → Plain → Known → Known
with_made x v known =
    record { env = known.env; env_value = known.env_value; made = with_pair (context_name x) v known.made }

-- What is known once the value of a context is made.
abbrev pub with_value : Context → Plain → Known → Known
with_value x v known = if is_env x then with_env_value v known else with_made x v known

-- What is known once a context is asked for: its value is made, unless it was.
unfoldable pub made_one : Values → Context → Known → Known
made_one values x known = if is_some (value_made known x) then known else with_value x (values x) known

-- What is known once a context is asked for that passes a test, and else as it was.
abbrev pub made_named : (Context → Bool) → Values → Context → Known → Known
made_named named values x known = if named x then made_one values x known else known

-- What is known once those contexts are asked for that pass a test.
abbrev pub made_all : (Context → Bool) → Values → List Context → Known → Known
made_all named values [] known = known
made_all named values (x ∷ xs) known = made_all named values xs (made_named named values x known)

-- A context with its value before the others, where it has one.
abbrev pub with_context : Context → Option Plain → Contexts → Contexts
with_context x None others = others
with_context x (Some v) others = (context_name x, v) ∷ others

-- The finite map of those of some contexts that have a value.
abbrev pub contexts_by : (Context → Option Plain) → List Context → Contexts
contexts_by value [] = []
contexts_by value (x ∷ xs) = with_context x (value x) (contexts_by value xs)

-- The contexts that a place sees, as far as they were made.
unfoldable pub contexts_made : TextPlace → Known → Contexts
contexts_made place known = contexts_by (value_made known) (seen_at place)
