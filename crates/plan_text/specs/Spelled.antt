-- What the tokens of a text spell, part by part: the JSON that they are stands for the data of the part.
use Rattle.std.specs.Prelude.{◌≡◌, ◌≤◌, ℕ, List, [], ◌∷◌, ◌++◌}
use Rattle.json.specs.Token.{Token}
use Rattle.json.specs.Json.{Json}
use Rattle.json.specs.Reads.{token_of}
use Rattle.json.specs.Tree.{json_tokens, depth}
use Rattle.json.specs.declared.token.Token.{Token as FoundToken}
use Rattle.serde_json.specs.Data.{Data}
use Rattle.plan_text.specs.Outline.{StandsFor}

-- The first tokens are a part, nested to so many levels, and the rest follows.
pub record Spells (levels : ℕ) (ts : List Token) (d : Data) (rest : List Token) : Type 0 where
  pub json : Json
  pub tokens : ts ≡ json_tokens json ++ rest
  pub low : depth json ≤ levels
  pub stands : StandsFor json d

-- A token that was found and the first tokens after it are a part, and the rest follows.
abbrev pub SpellsPart : ℕ → FoundToken → List Token → Data → List Token → Type 0
SpellsPart levels found ts d rest = Spells levels (token_of found ∷ ts) d rest

-- The first tokens are these keys in turn, each with its part, and the rest follows.
abbrev pub SpellMembers : ℕ → List Token → List (List ℕ × Data) → List Token → Type 0
SpellMembers levels ts [] rest = ts ≡ rest
SpellMembers levels ts (p ∷ ps) rest =
    (before after : List Token) × (ts ≡ Token.key p.0 ∷ before) × Spells levels before p.1 after × SpellMembers levels after ps rest
