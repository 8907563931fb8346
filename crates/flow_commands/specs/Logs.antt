-- What is shown of the logs of steps: what their programs printed.
use Rattle.std.specs.Prelude.{◌≡◌, ℕ, Bool, is_some, ◌==◌, if◌then◌else◌, List, [], ◌∷◌, ◌++◌, flat_map, map, codes, string_bytes, Option, Some, None}
use Rattle.std.specs.Str.{is_utf8}
use Rattle.flow_commands.specs.CommandTexts.{commands, read_from}
use Rattle.flow_commands.specs.Shown.{masks_added, shown}
use Rattle.flow_commands.specs.Splits.{after_front, from_text}
use Rattle.flow_commands.specs.declared.line.Line.{Line}
use Rattle.flow_commands.specs.declared.line.Line.TheVariants.{Plain}
use Rattle.flow_commands.specs.declared.logs.LogTeller.{LogTeller}

-- a log: the number of the leg, and its bytes, if it could be read
abbrev pub Log : Type 0
Log = ℕ × Option (List ℕ)

-- what a log comes to: the lines that are shown of it, and the masks that it adds
abbrev pub Told : Type 0
Told = List (List ℕ) × List (List ℕ)

abbrev pub lines_told : List (List ℕ) → List Line → Told
lines_told masks lines = (shown masks lines, flat_map masks_added lines)

-- the line that stands for bytes that are no text
abbrev pub no_text : List ℕ
no_text = codes "(output is not UTF-8)"

abbrev pub bytes_told : List (List ℕ) → List ℕ → Told
bytes_told masks bytes =
    if is_utf8 bytes then lines_told masks (commands bytes) else (no_text ∷ [], [])

-- What a log comes to with these masks. One that could not be read comes to nothing.
abbrev pub log_told : List (List ℕ) → Option (List ℕ) → Told
log_told masks None = ([], [])
log_told masks (Some bytes) = bytes_told masks bytes

-- a mask, if it is one of the leg
abbrev pub mask_for : ℕ → ℕ × List ℕ → List (List ℕ)
mask_for leg added = if leg == added.0 then added.1 ∷ [] else []

-- the masks of a leg: those that are given, and those that its earlier logs added
abbrev pub leg_masks : List (List ℕ) → List (ℕ × List ℕ) → ℕ → List (List ℕ)
leg_masks given added leg = given ++ flat_map (mask_for leg) added

-- masks as those of a leg
abbrev pub of_leg : ℕ → List (List ℕ) → List (ℕ × List ℕ)
of_leg leg masks = map (λ mask. (leg, mask)) masks

-- a line with its newline, and lines
abbrev pub line_text : List ℕ → List ℕ
line_text line = line ++ codes "\n"

abbrev pub lines_text : List (List ℕ) → List ℕ
lines_text lines = flat_map line_text lines

-- The text of logs, one after the other: what is shown of each, by the masks that are given and those that earlier logs of its
-- leg added.
abbrev pub logs_text : List (List ℕ) → List (ℕ × List ℕ) → List Log → List ℕ
logs_text given added [] = []
logs_text given added (log ∷ logs) =
    lines_text (log_told (leg_masks given added log.0) log.1).0
    ++ logs_text given (added ++ of_leg log.0 (log_told (leg_masks given added log.0) log.1).1) logs

-- ---- what the code answers on the way

-- A line begins with two colons, behind spaces and tabs, as each command and each end of `stop-commands` does.
abbrev pub has_colons : List ℕ → Bool
has_colons line = is_some (after_front (codes "::") (from_text line))

-- A line is no command, and ends no `stop-commands`, wherever it stands.
abbrev pub IsPlain : List ℕ → Type 0
IsPlain line = (stop : Option (List ℕ)) (lines : List (List ℕ)) → read_from stop (line ∷ lines) ≡ Plain line ∷ read_from stop lines

-- What is shown of a log, and the masks of its leg, once these lines follow those that were told.
abbrev pub told_with : List (List ℕ) → LogTeller → List (List ℕ) → List ℕ × List (List ℕ)
told_with given log lines = (
  string_bytes log.shown ++ lines_text (shown (given ++ log.masks) (read_from log.stop lines)),
  log.masks ++ flat_map masks_added (read_from log.stop lines),
)
