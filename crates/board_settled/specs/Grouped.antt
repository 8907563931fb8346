-- The concurrency groups as they are kept by names, after whole lists of entries: each entry asks of them
-- what its event asks on the board before it.
use Rattle.std.specs.Prelude.{List, [], ◌∷◌, Ok, Err}
use Rattle.status_table.specs.Words.{Board, Content, Entry, Plan, Row, after_event, new_board, row}

-- what follows a row: if it is refused, the groups stay
abbrev pub then_groups : Row → Content → (Board → Content) → Content
then_groups (Ok x) groups rest = rest x.0
then_groups (Err refusal) groups rest = groups

-- The groups after entries on this board, up to the first that is refused.
abbrev pub groups_from : Plan → Board → Content → List Entry → Content
groups_from p b groups [] = groups
groups_from p b groups (e ∷ es) =
    then_groups (row p b e.worker e.event) groups (λ next.
    groups_from p next (after_event p b groups e.event) es)

-- The groups after entries on the board on which all is new, where nobody is in a group.
abbrev pub groups_after : Plan → List Entry → Content
groups_after p es = groups_from p (new_board p) [] es
