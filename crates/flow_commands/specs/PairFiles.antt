-- What a file of outputs gives, and a file of variables (workflow commands: `GITHUB_OUTPUT`, `GITHUB_ENV`).
use Rattle.std.specs.Prelude.{◌≡◌, ℕ, pos, Bool, true, not, ◌&&◌, ◌||◌, nat_le, if◌then◌else◌, List, [], ◌∷◌, ◌++◌, length, codes, Option, Some, None, Result, Ok, Err, is_some}
use Rattle.std.specs.List.{list_all, list_any}
use Rattle.std.specs.Str.{bytes_eq, is_utf8}
use Rattle.flow_model.specs.Answer.{is_well_formed}
use Rattle.flow_model.specs.declared.event.Answer.{Answer}
use Rattle.flow_model.specs.declared.event.Answer.TheVariants.{Exit}
use Rattle.flow_model.specs.Mapping.{with_pair}
use Rattle.flow_model.specs.Name.{is_name_byte, is_zero}
use Rattle.flow_model.specs.Lines.{newline, lines_of}
use Rattle.flow_model.specs.Rules.{is_variable_byte}
use Rattle.flow_commands.specs.Splits.{split_first}
use Rattle.flow_commands.specs.declared.output_fault.OutputFault.{OutputFault}
use Rattle.flow_commands.specs.declared.output_fault.OutputFault.TheVariants.{NotUtf8, NoName, OpenBlock, TooMany, Memory}
use Rattle.flow_commands.specs.declared.pair_file.PairFile.{PairFile}
use Rattle.flow_commands.specs.declared.pair_file.PairFile.TheVariants.{Outputs, Env}

-- a name and its value
abbrev pub Pair : Type 0
Pair = List ℕ × List ℕ

-- the pairs that are read, or why they are refused
abbrev pub Reading : Type 0
Reading = Result (List Pair) OutputFault

-- ---- names and values

-- A byte of a name: of an output a letter, a digit, `_` or `-`, and of a variable anything but `=` and the zero byte.
abbrev pub names : PairFile → ℕ → Bool
names Outputs b = is_name_byte b
names Env b = is_variable_byte b

-- A name has such bytes alone, and one at least.
abbrev pub is_name : PairFile → List ℕ → Bool
is_name file name = nat_le 1 (length name) && list_all (names file) name

-- A value: of an output any text, and of a variable one without zero bytes.
abbrev pub is_value : PairFile → List ℕ → Bool
is_value Outputs value = true
is_value Env value = not (list_any is_zero value)

-- Each output is kept. A variable is not where it has the name of one of those that tell a program its files.
abbrev pub is_kept : PairFile → List ℕ → Bool
is_kept Outputs name = true
is_kept Env name = not (bytes_eq name (codes "GITHUB_ENV") || bytes_eq name (codes "GITHUB_OUTPUT"))

-- ---- one line

-- What a line outside a block is: empty, name=value, or the name and the delimiter of a block that begins there.
pub data Head : Type 0 where
  blank : Head
  pair : List ℕ → List ℕ → Head
  block : List ℕ → List ℕ → Head

-- name=value
abbrev pub named_pair : PairFile → Pair → Option Head
named_pair file x = if is_name file x.0 then Some (pair x.0 x.1) else None

-- name<<delimiter
abbrev pub named_block : PairFile → Pair → Option Head
named_block file x = if is_name file x.0 && nat_le 1 (length x.1) then Some (block x.0 x.1) else None

-- a line in which << stands, split there
abbrev pub at_arrows : PairFile → Option Pair → Option Head
at_arrows file None = None
at_arrows file (Some x) = named_block file x

-- a line split at =, and at <<: it is name=value where no << stands before the =
abbrev pub at_equals : PairFile → Option Pair → Option Pair → Option Head
at_equals file None arrows = at_arrows file arrows
at_equals file (Some x) arrows =
    if is_some (split_first (codes "<<") x.0) then at_arrows file arrows else named_pair file x

-- What a line outside a block is, if it is anything.
abbrev pub head_of : PairFile → List ℕ → Option Head
head_of file [] = Some blank
head_of file (b ∷ line) = at_equals file (split_first (codes "=") (b ∷ line)) (split_first (codes "<<") (b ∷ line))

-- ---- all lines

-- lines, each with a newline before it
abbrev pub preceded : List (List ℕ) → List ℕ
preceded [] = []
preceded (line ∷ lines) = newline ∷ (line ++ preceded lines)

-- lines, joined by newlines
abbrev pub joined : List (List ℕ) → List ℕ
joined [] = []
joined (line ∷ lines) = line ++ preceded lines

-- a pair before those that follow
abbrev pub before_pairs : Pair → Reading → Reading
before_pairs p (Ok pairs) = Ok (p ∷ pairs)
before_pairs p (Err fault) = Err fault

-- a pair before those that follow, if its value may stand
abbrev pub then_pairs : PairFile → Pair → Reading → Reading
then_pairs file p rest = if is_value file p.1 then before_pairs p rest else Err NoName

-- the pairs from a line on, by what it is, what the lines after it give, and what they give from inside a block on
abbrev pub headed : PairFile → Option Head → Reading → (List ℕ → List ℕ → Reading) → Reading
headed file None rest inside = Err NoName
headed file (Some blank) rest inside = rest
headed file (Some (pair name value)) rest inside = then_pairs file (name, value) rest
headed file (Some (block name delimiter)) rest inside = inside name delimiter

abbrev mutual
  -- The pairs of lines, in their order.
  pub pairs_of : PairFile → List (List ℕ) → Reading
  pairs_of file [] = Ok []
  pairs_of file (line ∷ lines) =
      headed file (head_of file line) (pairs_of file lines) (λ name delimiter. pairs_inside file name delimiter [] lines)

  -- The pairs from inside a block on, of which these lines have passed: it ends at the first line that is the delimiter.
  pub pairs_inside : PairFile → List ℕ → List ℕ → List (List ℕ) → List (List ℕ) → Reading
  pairs_inside file name delimiter passed [] = Err OpenBlock
  pairs_inside file name delimiter passed (line ∷ lines) =
      if bytes_eq line delimiter then then_pairs file (name, joined passed) (pairs_of file lines)
      else pairs_inside file name delimiter (passed ++ line ∷ []) lines

-- ---- the file

-- the map with these pairs set, one after the other: the last of one name stands
abbrev pub with_pairs : List Pair → List Pair → List Pair
with_pairs map [] = map
with_pairs map (p ∷ pairs) = with_pairs (with_pair p.0 p.1 map) pairs

-- the map with a pair set, if that is kept
abbrev pub with_kept : PairFile → Pair → List Pair → List Pair
with_kept file p map = if is_kept file p.0 then with_pair p.0 p.1 map else map

-- the pairs that are kept
abbrev pub kept : PairFile → List Pair → List Pair
kept file [] = []
kept file (p ∷ pairs) = if is_kept file p.0 then p ∷ kept file pairs else kept file pairs

-- the map with the pairs set that were read and are kept
abbrev pub then_with : PairFile → List Pair → Reading → Reading
then_with file map (Ok pairs) = Ok (with_pairs map (kept file pairs))
then_with file map (Err fault) = Err fault

-- an answer with these outputs, or with these variables
abbrev pub answer_with : PairFile → List Pair → Answer
answer_with Outputs pairs = Exit (pos 0) pairs []
answer_with Env pairs = Exit (pos 0) [] pairs

-- an answer may have these: 256 at most, with names of at most 256 bytes and values of at most 65,536
abbrev pub are_within : PairFile → List Pair → Bool
are_within file pairs = is_well_formed (answer_with file pairs)

-- an answer may have these outputs
abbrev pub are_outputs : List Pair → Bool
are_outputs pairs = are_within Outputs pairs

-- an answer may set these variables
abbrev pub are_variables : List Pair → Bool
are_variables pairs = are_within Env pairs

-- what stands in the end, if an answer may have it
abbrev pub limited : PairFile → Reading → Reading
limited file (Ok pairs) = if are_within file pairs then Ok pairs else Err TooMany
limited file (Err fault) = Err fault

-- What the bytes of a file give: its pairs, in the order of their names, or the first fault in the order of the faults.
abbrev pub pairs_in : PairFile → List ℕ → Reading
pairs_in file bytes = if is_utf8 bytes then limited file (then_with file [] (pairs_of file (lines_of bytes))) else Err NotUtf8

-- The outputs that a file of outputs gives.
abbrev pub outputs : List ℕ → Reading
outputs bytes = pairs_in Outputs bytes

-- The variables that a file of variables gives.
abbrev pub env : List ℕ → Reading
env bytes = pairs_in Env bytes

-- What was read is refused so, unless memory ran out.
abbrev pub Refuses : {A : Type 0} → OutputFault → Result A OutputFault → Type 0
Refuses NotUtf8 answer = answer ≡ Err NotUtf8
Refuses NoName answer = answer ≡ Err NoName
Refuses OpenBlock answer = answer ≡ Err OpenBlock
Refuses TooMany answer = answer ≡ Err TooMany
Refuses Memory answer = Unit {0}

-- The answer is this one, unless memory ran out.
abbrev pub Gives : {A : Type 0} → Result A OutputFault → Result A OutputFault → Type 0
Gives (Ok found) answer = answer ≡ Ok found
Gives (Err fault) answer = Refuses fault answer
