-- Where one text is looked for in another.
use Rattle.std.specs.Prelude.{ℕ, Bool, false, nat_eq, List}
use Rattle.std.specs.List.{list_any, starts_with, ends_with}
use Rattle.expr_value.specs.Functions.{stands_in, folds_pass, is_match, contains, begins_with, finishes_with}
use Rattle.expr_value.specs.PlainKind.{PlainKind, kind_of, items}
use Rattle.expr_value.specs.declared.search.SearchPlace.{SearchPlace}
use Rattle.expr_value.specs.declared.search.SearchPlace.TheVariants.{Anywhere, Front, End}
use Rattle.flow_model.specs.Plain.{Plain, null, truth, whole, text, list, map}

-- Whether a part stands at the place in a text.
abbrev pub stands_at : SearchPlace → List ℕ → List ℕ → Bool
stands_at Anywhere bytes part = stands_in part bytes
stands_at Front bytes part = starts_with nat_eq bytes part
stands_at End bytes part = ends_with nat_eq bytes part

-- The function that looks at the place.
abbrev pub finds : SearchPlace → Plain → Plain → Bool
finds Anywhere v x = contains v x
finds Front v x = begins_with v x
finds End v x = finishes_with v x

-- `contains`, of which only the kind of what is looked for counts.
abbrev pub contains_kind : Plain → PlainKind → Bool
contains_kind null kind = folds_pass (stands_at Anywhere) (kind_of null) kind
contains_kind (truth b) kind = folds_pass (stands_at Anywhere) (kind_of (truth b)) kind
contains_kind (whole z) kind = folds_pass (stands_at Anywhere) (kind_of (whole z)) kind
contains_kind (text bytes) kind = folds_pass (stands_at Anywhere) (kind_of (text bytes)) kind
contains_kind (list vs) kind = list_any (is_match kind) (items vs)
contains_kind (map ms) kind = false
