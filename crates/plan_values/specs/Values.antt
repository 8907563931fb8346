-- What the contexts are, seen from somewhere, and the finite map of those that a place sees.
use Rattle.std.specs.Prelude.{ℕ, Bool, if◌then◌else◌, List, map}
use Rattle.expr_reader.specs.Names.{context_name}
use Rattle.expr_reader.specs.declared.tree.Context.{Context}
use Rattle.expr_reader.specs.declared.tree.Context.TheVariants as context
use Rattle.expr_value.specs.Context.{Contexts}
use Rattle.expr_value.specs.Named.{is_same_context}
use Rattle.flow_model.specs.Mapping.{map_values}
use Rattle.flow_model.specs.Plain.{Plain, text, members_of}
use Rattle.flow_model.specs.Plain as plain
use Rattle.plan_values.specs.Places.{seen_at}
use Rattle.plan_values.specs.declared.place.TextPlace.{TextPlace}

-- The value of each context.
abbrev pub Values : Type 0
Values = Context → Plain

-- Variables: their names and their texts, in the order of the names.
abbrev pub Env : Type 0
Env = List (List ℕ × List ℕ)

-- Variables as the context `env`: a map from their names to their texts.
abbrev pub env_context : Env → Plain
env_context env = plain.map (members_of (map_values text env))

-- The context is `env`.
abbrev pub is_env : Context → Bool
is_env x = is_same_context context.Env x

-- The values, where `env` is these variables.
abbrev pub with_env : Env → Values → Values
with_env env values x = if is_env x then env_context env else values x

-- The finite map of the contexts that the place sees.
unfoldable pub contexts_at : TextPlace → Values → Contexts
contexts_at place values = map (λ x. (context_name x, values x)) (seen_at place)
