-- The blocks of a file of pairs, and what is read of a line.
use Rattle.std.specs.Prelude.{◌≡◌, ℕ, Bool, true, if◌then◌else◌, List, [], ◌∷◌, ◌++◌, Option, Some, None}
use Rattle.std.specs.Str.{bytes_eq}
use Rattle.flow_commands.specs.PairFiles.{Head, blank, pair, block, preceded, joined}
use Rattle.flow_commands.specs.declared.output_fault.OutputFault.{OutputFault}
use Rattle.flow_commands.specs.declared.output_fault.OutputFault.TheVariants.{NotUtf8, NoName, OpenBlock, TooMany, Memory}
use Rattle.flow_commands.specs.declared.pair_file.Head as head
use Rattle.flow_commands.specs.declared.pair_file.Head.TheVariants as kind

-- what a line is
abbrev pub head_seen : head.Head → Head
head_seen kind.Blank = blank
head_seen (kind.Pair name value) = pair name.now value.now
head_seen (kind.Block name delimiter) = block name.now delimiter.now

-- a line before those of a block
abbrev pub onto_lines : List ℕ → Option (List (List ℕ) × List (List ℕ)) → Option (List (List ℕ) × List (List ℕ))
onto_lines line None = None
onto_lines line (Some x) = Some (line ∷ x.0, x.1)

-- the lines before the first that is the delimiter, and those after it
abbrev pub block_lines : List ℕ → List (List ℕ) → Option (List (List ℕ) × List (List ℕ))
block_lines delimiter [] = None
block_lines delimiter (line ∷ lines) =
    if bytes_eq line delimiter then Some ([], lines) else onto_lines line (block_lines delimiter lines)

-- a line as it is added to a value, of which it may be the first
abbrev pub added : Bool → List ℕ → List ℕ
added first line = if first then line else 10 ∷ line

-- the value of a block that has begun so, by its further lines, and the lines after it
abbrev pub value_from : Bool → List ℕ → Option (List (List ℕ) × List (List ℕ)) → Option (List ℕ × List (List ℕ))
value_from first value None = None
value_from first value (Some x) = Some (value ++ (if first then joined x.0 else preceded x.0), x.1)

-- the value of a block, and the lines after it
abbrev pub block_value : List ℕ → List (List ℕ) → Option (List ℕ × List (List ℕ))
block_value delimiter lines = value_from true [] (block_lines delimiter lines)

-- a block is refused where it is not ended, or for want of memory
abbrev pub Opens : OutputFault → Option (List ℕ × List (List ℕ)) → Type 0
Opens NotUtf8 found = ⊥
Opens NoName found = ⊥
Opens OpenBlock found = found ≡ None
Opens TooMany found = ⊥
Opens Memory found = Unit {0}
