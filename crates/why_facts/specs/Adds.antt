-- Lists that grow at their end.
use Rattle.std.specs.Prelude.{◌≡◌, ◌++◌, List}

-- these items were added to a list
abbrev pub Adds : {A : Type 0} → List A → List A → List A → Type 0
Adds old new items = new ≡ old ++ items
