-- The commands in what a step prints (GitHub Docs, workflow commands).
use Rattle.std.specs.Prelude.{ℕ, Bool, nat_eq, nat_le, ◌||◌, if◌then◌else◌, List, [], ◌∷◌, ◌++◌, length, codes, Option, Some, None}
use Rattle.std.specs.List.{starts_with}
use Rattle.std.specs.Str.{bytes_eq}
use Rattle.expr_reader.specs.Fold.{fold}
use Rattle.flow_commands.specs.Replace.{replaced}
use Rattle.flow_model.specs.Lines.{lines_of}
use Rattle.flow_commands.specs.Splits.{split_first, after_front, from_text, fields_of}
use Rattle.flow_commands.specs.declared.escapes.Escapes.{Escapes}
use Rattle.flow_commands.specs.declared.escapes.Escapes.TheVariants.{Message, Value}
use Rattle.flow_commands.specs.declared.line.Line.{Line}
use Rattle.flow_commands.specs.declared.line.Line.TheVariants.{Plain, Command, Resume}

-- ---- escapes

-- what an escape of three bytes at the front stands for, in a message, and what in a value
abbrev pub message_escape : List ℕ → Option (List ℕ)
message_escape text =
    if starts_with nat_eq text (codes "%25") then Some (codes "%")
    else if starts_with nat_eq text (codes "%0D") then Some (codes "\r")
    else if starts_with nat_eq text (codes "%0A") then Some (codes "\n")
    else None

abbrev pub value_escape : List ℕ → Option (List ℕ)
value_escape text =
    if starts_with nat_eq text (codes "%3A") then Some (codes ":")
    else if starts_with nat_eq text (codes "%2C") then Some (codes ",")
    else message_escape text

-- three bytes are replaced by what they stand for
abbrev pub three_by : Option (List ℕ) → Option (List ℕ × ℕ)
three_by None = None
three_by (Some byte) = Some (byte, 3)

-- what the escape at the front stands for
abbrev pub escape_of : Escapes → List ℕ → Option (List ℕ)
escape_of Message text = message_escape text
escape_of Value text = value_escape text

-- The text with its escapes decoded, in one pass from the left.
abbrev pub decoded : Escapes → List ℕ → List ℕ
decoded escapes text = replaced (λ t. three_by (escape_of escapes t)) text

-- ---- one line

-- what follows the `::` at the front of a line, spaces and tabs before it being passed over
abbrev pub after_colons : List ℕ → Option (List ℕ)
after_colons line = after_front (codes "::") (from_text line)

-- the names of commands
abbrev pub is_command : List ℕ → Bool
is_command name =
    bytes_eq name (codes "debug") || bytes_eq name (codes "notice") || bytes_eq name (codes "warning")
    || bytes_eq name (codes "error") || bytes_eq name (codes "group") || bytes_eq name (codes "endgroup")
    || bytes_eq name (codes "add-mask") || bytes_eq name (codes "stop-commands")

-- a key and a value, of a text that is split at its first =
abbrev pub keyed : Option (List ℕ × List ℕ) → Option (List ℕ × List ℕ)
keyed None = None
keyed (Some x) = if nat_le 1 (length x.0) then Some (fold x.0, decoded Value x.1) else None

-- the key, which has one byte at least, and the value of a field, if it has them
abbrev pub pair_of : List ℕ → Option (List ℕ × List ℕ)
pair_of field = keyed (split_first (codes "=") field)

-- a pair before others, if all fields have them
abbrev pub then_pairs :
    Option (List ℕ × List ℕ) → Option (List (List ℕ × List ℕ)) → Option (List (List ℕ × List ℕ))
then_pairs None rest = None
then_pairs (Some pair) None = None
then_pairs (Some pair) (Some pairs) = Some (pair ∷ pairs)

abbrev pub all_pairs : List (List ℕ) → Option (List (List ℕ × List ℕ))
all_pairs [] = Some []
all_pairs (field ∷ fields) = then_pairs (pair_of field) (all_pairs fields)

-- the command of a name, its pairs and a message, if it is one of the commands and each field is a pair
abbrev pub named : List ℕ → Option (List (List ℕ × List ℕ)) → List ℕ → Option Line
named name None message = None
named name (Some pairs) message = if is_command (fold name) then Some (Command (fold name) pairs (decoded Message message)) else None

-- the command of what stands between the first `::` and the next, by where that is split at its first space
abbrev pub headed : Option (List ℕ × List ℕ) → List ℕ → List ℕ → Option Line
headed None head message = named head (Some []) message
headed (Some x) head message = named x.0 (all_pairs (fields_of x.1)) message

-- the command of what follows the first `::`, by where that is split at the next
abbrev pub closed : Option (List ℕ × List ℕ) → Option Line
closed None = None
closed (Some x) = headed (split_first (codes " ") x.0) x.0 x.1

abbrev pub opened : Option (List ℕ) → Option Line
opened None = None
opened (Some text) = closed (split_first (codes "::") text)

-- The command that a line is, if it is one: `::name::message`, or `::name key=value,key=value::message`.
abbrev pub command_of : List ℕ → Option Line
command_of line = opened (after_colons line)

-- ---- all lines

-- a line is `::word::`, spaces and tabs before it being passed over
abbrev pub is_resuming : List ℕ → List ℕ → Bool
is_resuming word line = bytes_eq (from_text line) (codes "::" ++ (word ++ codes "::"))

-- the line that is read where commands are
abbrev pub read_as : List ℕ → Option Line → Line
read_as line None = Plain line
read_as line (Some command) = command

-- the word, if it has a byte
abbrev pub some_word : List ℕ → Option (List ℕ)
some_word [] = None
some_word (b ∷ word) = Some (b ∷ word)

-- the word that stops commands from a line on until it is met, if the line is such a command with a message
abbrev pub stopped_by : Line → Option (List ℕ)
stopped_by (Plain text) = None
stopped_by (Command name pairs message) = if bytes_eq name (codes "stop-commands") then some_word message else None
stopped_by Resume = None

-- The lines as they are read, where commands are stopped by a word, or by none.
abbrev pub read_from : Option (List ℕ) → List (List ℕ) → List Line
read_from stop [] = []
read_from None (line ∷ lines) =
    read_as line (command_of line) ∷ read_from (stopped_by (read_as line (command_of line))) lines
read_from (Some word) (line ∷ lines) =
    if is_resuming word line then Resume ∷ read_from None lines else Plain line ∷ read_from (Some word) lines

-- The lines of a text, with the commands among them.
abbrev pub commands : List ℕ → List Line
commands text = read_from None (lines_of text)
