-- The names of concurrency groups on a board in play (GitHub Docs, workflow syntax: `concurrency`).
use Rattle.std.specs.Prelude.{◌≡◌, ◌≢◌, ◌⊎◌, ℕ, List, [], Some}
use Rattle.status_table.specs.Words.{Board, Entry, IsPlan, Member, Plan, SameText, after, fold, holder, waiter}

-- A name that is held or waited for, on the board after a list of entries, has no letter A to Z.
abbrev pub NamesAreFolded : Type 0
NamesAreFolded =
    (p : Plan) → IsPlan p → (es : List Entry) (b : Board) → after p es ≡ Some b → (name : List ℕ) (who : Member) → name ≢ []
    → (holder b name ≡ Some who) ⊎ (waiter b name ≡ Some who) → fold name ≡ name

-- So a name has one holder, whatever its case: two names that are held, and are the same but for the case of letters, are one.
abbrev pub OneHolderWhateverTheCase : Type 0
OneHolderWhateverTheCase =
    (p : Plan) → IsPlan p → (es : List Entry) (b : Board) → after p es ≡ Some b → (name other : List ℕ) (who whom : Member) → name ≢ [] → other ≢ []
    → holder b name ≡ Some who → holder b other ≡ Some whom → SameText name other → name ≡ other
