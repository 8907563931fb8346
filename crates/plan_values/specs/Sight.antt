-- The contexts that a place sees of what was made.
use Rattle.expr_value.specs.Context.{Contexts}
use Rattle.plan_values.specs.Known.{contexts_made}
use Rattle.plan_values.specs.declared.sight.Sight.{Sight}

-- The contexts that the place sees, as far as they were made.
abbrev pub sight_contexts : Sight → Contexts
sight_contexts sight = contexts_made sight.place sight.known.now
