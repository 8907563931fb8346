-- What is shown of the lines that a step printed.
use Rattle.std.specs.Prelude.{ℕ, ◌||◌, if◌then◌else◌, List, [], ◌∷◌, ◌++◌, Option, Some, None, codes}
use Rattle.std.specs.Str.{bytes_eq}
use Rattle.flow_commands.specs.Mask.{masked}
use Rattle.flow_commands.specs.declared.line.Line.{Line}
use Rattle.flow_commands.specs.declared.line.Line.TheVariants.{Plain, Command, Resume}

-- what is shown of a command, by its name and its message, if it is shown
abbrev pub command_shown : List ℕ → List ℕ → Option (List ℕ)
command_shown name message =
    if bytes_eq name (codes "notice") || bytes_eq name (codes "warning") || bytes_eq name (codes "error")
    then Some (name ++ (codes ": " ++ message))
    else if bytes_eq name (codes "group") then Some (codes "> " ++ message)
    else None

-- what is shown of a line, if it is shown
abbrev pub line_shown : Line → Option (List ℕ)
line_shown (Plain text) = Some text
line_shown (Command name pairs message) = command_shown name message
line_shown Resume = None

-- the masks that a line adds
abbrev pub masks_added : Line → List (List ℕ)
masks_added (Plain text) = []
masks_added (Command name pairs message) = if bytes_eq name (codes "add-mask") then message ∷ [] else []
masks_added Resume = []

-- a line that is shown, masked
abbrev pub masked_line : List (List ℕ) → Option (List ℕ) → List (List ℕ)
masked_line masks None = []
masked_line masks (Some text) = masked masks text ∷ []

-- The lines that are shown, each masked by these masks and by those that the lines before it add.
abbrev pub shown : List (List ℕ) → List Line → List (List ℕ)
shown masks [] = []
shown masks (line ∷ lines) = masked_line masks (line_shown line) ++ shown (masks ++ masks_added line) lines
