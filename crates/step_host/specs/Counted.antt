-- The answers of a list by its entries alone: a leg's steps are begun one after the other, so an End answers the last that was begun.
use Rattle.std.specs.Prelude.{ℕ, suc, ◌-◌, ◌==◌, if◌then◌else◌, List, [], ◌∷◌, ◌++◌}
use Rattle.status_table.specs.Words.{Entry, Event}
use Rattle.step_host.specs.Script.{Line}

-- how many steps of a leg are begun, of which so many were begun before an event
abbrev pub begun_after : ℕ → ℕ → Event → ℕ
begun_after l n (Event.Open r) = n
begun_after l n (Event.Judge j) = n
begun_after l n (Event.Ask m) = n
begun_after l n (Event.Drop m) = n
begun_after l n (Event.Take m) = n
begun_after l n (Event.Begin m) = if m == l then suc n else n
begun_after l n (Event.End m a) = n
begun_after l n (Event.Finish m) = n
begun_after l n (Event.Close r) = n
begun_after l n (Event.Cancel r) = n

-- the same of several entries
abbrev pub begun_from : ℕ → ℕ → List Entry → ℕ
begun_from l n [] = n
begun_from l n (e ∷ es) = begun_from l (begun_after l n e.event) es

-- how many steps of a leg a list of entries begins
abbrev pub begun : ℕ → List Entry → ℕ
begun l es = begun_from l 0 es

-- the answer that an event gives, where so many steps of each leg are begun: an End gives one, for the last of its leg
abbrev pub answer_counted : (ℕ → ℕ) → Event → List Line
answer_counted many (Event.Open r) = []
answer_counted many (Event.Judge j) = []
answer_counted many (Event.Ask l) = []
answer_counted many (Event.Drop l) = []
answer_counted many (Event.Take l) = []
answer_counted many (Event.Begin l) = []
answer_counted many (Event.End l a) = (l, many l - 1, a) ∷ []
answer_counted many (Event.Finish l) = []
answer_counted many (Event.Close r) = []
answer_counted many (Event.Cancel r) = []

-- the answers that entries give after others
abbrev pub answers_after : List Entry → List Entry → List Line
answers_after es [] = []
answers_after es (e ∷ more) = answer_counted (λ l. begun l es) e.event ++ answers_after (es ++ e ∷ []) more

-- the answers that a list of entries gives, each for the step of its leg that was begun last
abbrev pub counted : List Entry → List Line
counted es = answers_after [] es
