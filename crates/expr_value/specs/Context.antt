-- The contexts that an expression may name: a finite map from their names to values.
use Rattle.std.specs.Prelude.{ℕ, Option, Some, None, List}
use Rattle.expr_reader.specs.Names.{context_name}
use Rattle.expr_reader.specs.declared.tree.Context.{Context}
use Rattle.flow_model.specs.Mapping.{value_at}
use Rattle.flow_model.specs.Plain.{Plain, map, no_members}

-- Contexts by their names in small letters.
abbrev pub Contexts : Type 0
Contexts = List (List ℕ × Plain)

-- A value, or an empty map.
abbrev pub or_empty : Option Plain → Plain
or_empty None = map no_members
or_empty (Some v) = v

-- The value of a context; one that is not given is an empty map.
abbrev pub context_value : Contexts → Context → Plain
context_value contexts context = or_empty (value_at (context_name context) contexts)
