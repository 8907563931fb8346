-- Laws of the texts of programs, each the contract of a function of the module `laws`.
use Rattle.std.specs.Prelude.{◌≡◌, ◌≢◌, ◌<◌, ◌≤◌, ◌↔◌, ℕ, true, false, List, [], ◌∷◌, ◌++◌, length, map, codes, Some, Ok, Err}
use Rattle.std.specs.List.{list_all, AllByRecursion, Contains}
use Rattle.std.specs.Str.{is_utf8}
use Rattle.expr_reader.specs.Fold.{fold}
use Rattle.flow_model.specs.Lines.{lines_of}
use Rattle.flow_model.specs.Mapping.{value_at, Ascends}
use Rattle.flow_commands.specs.CommandTexts.{command_of, commands, decoded, is_command}
use Rattle.flow_commands.specs.Mask.{masked}
use Rattle.flow_commands.specs.PairFiles.{Pair, is_name, is_value, joined, pairs_of, kept, are_within, pairs_in}
use Rattle.flow_commands.specs.Splits.{is_blank, split_first}
use Rattle.flow_commands.specs.declared.escapes.Escapes.TheVariants.{Message, Value}
use Rattle.flow_commands.specs.declared.line.Line.{Line}
use Rattle.flow_commands.specs.declared.line.Line.TheVariants.{Plain, Command, Resume}
use Rattle.flow_commands.specs.declared.output_fault.OutputFault.TheVariants.{NoName, OpenBlock}
use Rattle.flow_commands.specs.declared.pair_file.PairFile.{PairFile}

-- ---- marks

-- the mark stands nowhere in a text
abbrev pub Lacks : List ℕ → List ℕ → Type 0
Lacks mark text = (before after : List ℕ) → text ≢ before ++ (mark ++ after)

-- a text is cut at the first place of the mark
pub record IsCutFirst (mark text front rest : List ℕ) : Type 0 where
  pub cut : text ≡ front ++ (mark ++ rest)
  pub first : (before after : List ℕ) → text ≡ before ++ (mark ++ after) → length front ≤ length before

-- A text is split at the first place of a mark.
abbrev pub OneCut : Type 0
OneCut =
    (mark text front rest : List ℕ) → 0 < length mark
    → (split_first mark text ≡ Some (front, rest)) ↔ IsCutFirst mark text front rest

-- ---- masks

-- one of the masks, which has a byte, stands at the front of a text
pub record Stands (masks : List (List ℕ)) (mask text : List ℕ) : Type 0 where
  pub listed : Contains masks mask
  pub some : 0 < length mask
  pub rest : List ℕ
  pub begins : text ≡ mask ++ rest

-- the mask stands at the front of a text, and none that is longer does
pub record StandsLongest (masks : List (List ℕ)) (mask text : List ℕ) : Type 0 where
  pub stands : Stands masks mask text
  pub longest : (other : List ℕ) → Stands masks other text → length other ≤ length mask

-- A text and what covers it, from the left: a byte as it is where no mask stands, and three stars for the longest mask
-- where one does.
pub data Covers (masks : List (List ℕ)) : List ℕ → List ℕ → Type 0 where
  end : Covers masks [] []
  as_it_is : {b : ℕ} {text shown : List ℕ} → ((mask : List ℕ) → Stands masks mask (b ∷ text) → ⊥) → Covers masks text shown
      → Covers masks (b ∷ text) (b ∷ shown)
  covered : {mask text shown : List ℕ} → StandsLongest masks mask (mask ++ text) → Covers masks text shown
      → Covers masks (mask ++ text) (codes "***" ++ shown)

-- The masked text covers the text, and nothing else does.
abbrev pub OneCovering : Type 0
OneCovering = (masks : List (List ℕ)) (text shown : List ℕ) → Covers masks text shown ↔ (shown ≡ masked masks text)

-- ---- files of pairs

-- a line is a name, `=` and a value; no name has an `=`, so the `=` is the first, and no `<<` stands before it
pub record IsPairLine (file : PairFile) (line name value : List ℕ) : Type 0 where
  pub named : is_name file name ≡ true
  pub spelled : line ≡ name ++ (codes "=" ++ value)
  pub free : Lacks (codes "<<") name

-- a line is a name, `<<`, which is the first, and a delimiter, which has a byte: a block begins there
pub record IsBlockLine (file : PairFile) (line name delimiter : List ℕ) : Type 0 where
  pub named : is_name file name ≡ true
  pub some : 0 < length delimiter
  pub cut : IsCutFirst (codes "<<") line name delimiter

-- a line is not empty, and neither of these
pub record IsNoLine (file : PairFile) (line : List ℕ) : Type 0 where
  pub some : 0 < length line
  pub no_pair : (name value : List ℕ) → IsPairLine file line name value → ⊥
  pub no_block : (name delimiter : List ℕ) → IsBlockLine file line name delimiter → ⊥

-- The first of some lines spell a name and its value, and the others follow: one line does, or a block. That ends at the
-- first line that is its delimiter, and its value is the lines before that one, joined by newlines.
pub data Spells (file : PairFile) : List (List ℕ) → List ℕ → List ℕ → List (List ℕ) → Type 0 where
  pair_line : {line name value : List ℕ} {lines : List (List ℕ)} → IsPairLine file line name value
      → Spells file (line ∷ lines) name value lines
  whole_block : (inner : List (List ℕ)) {line name delimiter : List ℕ} {lines : List (List ℕ)}
      → IsBlockLine file line name delimiter → (Contains inner delimiter → ⊥)
      → Spells file (line ∷ (inner ++ delimiter ∷ lines)) name (joined inner) lines

-- Lines, and the items that they give.
pub data Give (file : PairFile) : List (List ℕ) → List Pair → Type 0 where
  nothing : Give file [] []
  empty_line : {lines : List (List ℕ)} {items : List Pair} → Give file lines items → Give file ([] ∷ lines) items
  one_item : {all lines : List (List ℕ)} {name value : List ℕ} {items : List Pair} → Spells file all name value lines
      → is_value file value ≡ true → Give file lines items → Give file all ((name, value) ∷ items)

-- lines begin with one that is none, or with a name whose value may not stand
pub data GiveNone (file : PairFile) : List (List ℕ) → Type 0 where
  no_line : {line : List ℕ} {lines : List (List ℕ)} → IsNoLine file line → GiveNone file (line ∷ lines)
  no_value : {all lines : List (List ℕ)} {name value : List ℕ} → Spells file all name value lines
      → is_value file value ≡ false → GiveNone file all

-- after lines that give items stand such
pub record HasNoItem (file : PairFile) (lines : List (List ℕ)) : Type 0 where
  pub before : List (List ℕ)
  pub items : List Pair
  pub after : List (List ℕ)
  pub given : Give file before items
  pub bad : GiveNone file after
  pub whole : lines ≡ before ++ after

-- after lines that give items a block begins, and no later line is its delimiter
pub record StaysOpen (file : PairFile) (lines : List (List ℕ)) : Type 0 where
  pub before : List (List ℕ)
  pub items : List Pair
  pub line : List ℕ
  pub name : List ℕ
  pub delimiter : List ℕ
  pub after : List (List ℕ)
  pub given : Give file before items
  pub begins : IsBlockLine file line name delimiter
  pub lacks : Contains after delimiter → ⊥
  pub whole : lines ≡ before ++ line ∷ after

-- Lines are read as the items that they give, and refused where they give none: for the first line that is none or name
-- whose value may not stand, or for the block that stays open.
abbrev pub OneReading : Type 0
OneReading =
    (file : PairFile) (lines : List (List ℕ))
    → ((items : List Pair) → (pairs_of file lines ≡ Ok items) ↔ Give file lines items)
    × ((pairs_of file lines ≡ Err NoName) ↔ HasNoItem file lines)
    × ((pairs_of file lines ≡ Err OpenBlock) ↔ StaysOpen file lines)

-- the last item of a name has this value
pub record IsLast (items : List Pair) (name value : List ℕ) : Type 0 where
  pub before : List Pair
  pub after : List Pair
  pub whole : items ≡ before ++ (name, value) ∷ after
  pub last : (other : List ℕ) → Contains after (name, other) → ⊥

-- What the bytes of a file give: in the order of their names, for each name that an item has which is kept, the value of
-- its last item.
pub record ArePairs (file : PairFile) (bytes : List ℕ) (found : List Pair) : Type 0 where
  pub text : is_utf8 bytes ≡ true
  pub items : List Pair
  pub given : Give file (lines_of bytes) items
  pub ordered : Ascends found
  pub stand : (name value : List ℕ) → (value_at name found ≡ Some value) ↔ IsLast (kept file items) name value
  pub within : are_within file found ≡ true

-- The pairs of a file are those and no others.
abbrev pub OneGiving : Type 0
OneGiving = (file : PairFile) (bytes : List ℕ) (found : List Pair) → (pairs_in file bytes ≡ Ok found) ↔ ArePairs file bytes found

-- ---- commands

-- a field is a key, which has a byte, `=` and a value
pub record IsField (field key value : List ℕ) : Type 0 where
  pub cut : IsCutFirst (codes "=") field key value
  pub some : 0 < length key

-- A text has these fields between its commas: of each its key in small letters and its decoded value.
pub data HasFields : List ℕ → List Pair → Type 0 where
  one_field : {text key value : List ℕ} → Lacks (codes ",") text → IsField text key value
      → HasFields text ((fold key, decoded Value value) ∷ [])
  first_field : {text field rest key value : List ℕ} {pairs : List Pair} → IsCutFirst (codes ",") text field rest
      → IsField field key value → HasFields rest pairs → HasFields text ((fold key, decoded Value value) ∷ pairs)

-- what stands between two colons and the next two: a name, or a name, a space and fields
pub data HasHead : List ℕ → List ℕ → List Pair → Type 0 where
  bare : {head : List ℕ} → Lacks (codes " ") head → HasHead head head []
  with_fields : {head name fields : List ℕ} {pairs : List Pair} → IsCutFirst (codes " ") head name fields
      → HasFields fields pairs → HasHead head name pairs

-- A line is a command: behind spaces and tabs two colons, a head, two colons, and what is said. Its name is one of the
-- commands' in small letters, and its message is what is said, decoded.
pub record IsCommand (line name : List ℕ) (pairs : List Pair) (message : List ℕ) : Type 0 where
  pub blanks : List ℕ
  pub text : List ℕ
  pub head : List ℕ
  pub said : List ℕ
  pub spelled : List ℕ
  pub indented : list_all is_blank blanks ≡ true
  pub begins : line ≡ blanks ++ (codes "::" ++ text)
  pub cut : IsCutFirst (codes "::") text head said
  pub has : HasHead head spelled pairs
  pub one : is_command name ≡ true
  pub folded : name ≡ fold spelled
  pub decodes : message ≡ decoded Message said

-- A line is read as a command exactly where it is that command.
abbrev pub OneCommand : Type 0
OneCommand =
    (line name : List ℕ) (pairs : List Pair) (message : List ℕ)
    → (command_of line ≡ Some (Command name pairs message)) ↔ IsCommand line name pairs message

-- a line is no command
abbrev pub IsNoCommand : List ℕ → Type 0
IsNoCommand line = (name : List ℕ) (pairs : List Pair) (message : List ℕ) → IsCommand line name pairs message → ⊥

-- a command stops commands by its message
abbrev pub Stops : List ℕ → List ℕ → Type 0
Stops name message = (name ≡ codes "stop-commands") × (0 < length message)

-- a line is the one that ends what was stopped by a word: behind spaces and tabs `::word::`
pub record Resumes (word line : List ℕ) : Type 0 where
  pub blanks : List ℕ
  pub indented : list_all is_blank blanks ≡ true
  pub spelled : line ≡ blanks ++ (codes "::" ++ (word ++ codes "::"))

-- none of the lines does
abbrev pub NoneResumes : List ℕ → List (List ℕ) → Type 0
NoneResumes word lines = AllByRecursion (λ line. Resumes word line → ⊥) lines

-- Lines, and what they are read as: a command or a plain line each; but from a command that stops commands to the line
-- that resumes them, or to the end, all are plain.
pub data AreRead : List (List ℕ) → List Line → Type 0 where
  no_lines : AreRead [] []
  plain_line : {line : List ℕ} {lines : List (List ℕ)} {read : List Line} → IsNoCommand line → AreRead lines read
      → AreRead (line ∷ lines) (Plain line ∷ read)
  command_line : {line name message : List ℕ} {pairs : List Pair} {lines : List (List ℕ)} {read : List Line}
      → IsCommand line name pairs message → (Stops name message → ⊥) → AreRead lines read
      → AreRead (line ∷ lines) (Command name pairs message ∷ read)
  stopped_lines : (inner : List (List ℕ)) {line name word resuming : List ℕ} {pairs : List Pair}
      {lines : List (List ℕ)} {read : List Line} → IsCommand line name pairs word → Stops name word
      → NoneResumes word inner → Resumes word resuming → AreRead lines read
      → AreRead (line ∷ (inner ++ resuming ∷ lines))
      (Command name pairs word ∷ (map (λ text. Plain text) inner ++ Resume ∷ read))
  stopped_to_end : (inner : List (List ℕ)) {line name word : List ℕ} {pairs : List Pair} → IsCommand line name pairs word
      → Stops name word → NoneResumes word inner
      → AreRead (line ∷ inner) (Command name pairs word ∷ map (λ text. Plain text) inner)

-- A text is read as that and as nothing else.
abbrev pub OneHearing : Type 0
OneHearing = (text : List ℕ) (read : List Line) → (commands text ≡ read) ↔ AreRead (lines_of text) read
