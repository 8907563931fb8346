-- What passes have done: the records under a pass, its own first and then those of the passes that were joined to it.
use Rattle.std.specs.Prelude.{◌≡◌, ℕ, ◌+◌, List, [], ◌∷◌, ◌++◌, map, if◌then◌else◌}
use Rattle.ready_queue.specs.Names.{Name, same_name, keeps, under}
use Rattle.ready_queue.specs.Bags.{InOrder}
use Rattle.ready_queue.specs.declared.record.Record.{Record}

-- A pass of this name that has done nothing yet.
abbrev pub newcomer : Name → Record
newcomer name = record { name = name; splits = 0; put = []; taken = [] }

-- What is so of each of them.
abbrev pub Each : {X : Type 0} → (X → Type 0) → List X → Type 0
Each P [] = Unit {0}
Each P (x ∷ xs) = P x × Each P xs

-- ---- what they put and took

-- All tickets that were put.
abbrev pub all_put : List Record → List ℕ
all_put [] = []
all_put (r ∷ rs) = r.put ++ all_put rs

-- The tickets, without the names of those who put them.
abbrev pub tickets : List (ℕ × Name) → List ℕ
tickets puts = map (λ e. e.0) puts

-- All tickets that were taken.
abbrev pub all_taken : List Record → List ℕ
all_taken [] = []
all_taken (r ∷ rs) = tickets r.taken ++ all_taken rs

-- What a pass took of another is in the order in which that one put it.
abbrev pub TakesInOrder : Record → Record → Type 0
TakesInOrder taker putter = InOrder (under putter.name taker.taken) putter.put

-- Each took of each in the order in which it was put.
abbrev pub AllInOrder : List Record → Type 0
AllInOrder rs = Each (λ taker. Each (TakesInOrder taker) rs) rs

-- What was put under a name.
abbrev pub put_by : Name → List Record → List ℕ
put_by name [] = []
put_by name (r ∷ rs) = if same_name name r.name then r.put ++ put_by name rs else put_by name rs

-- What was taken under a name.
abbrev pub taken_by : Name → List Record → List (ℕ × Name)
taken_by name [] = []
taken_by name (r ∷ rs) = if same_name name r.name then r.taken ++ taken_by name rs else taken_by name rs

-- ---- who is out

-- How many of them keep a name.
abbrev pub keepers : Name → List Record → ℕ
keepers name [] = 0
keepers name (r ∷ rs) = keeps r.name r.splits name + keepers name rs

-- They keep every name, so there is no other pass.
abbrev pub IsWhole : List Record → Type 0
IsWhole rs = (name : Name) → keepers name rs ≡ 1

-- They keep the same names.
abbrev pub KeepsNames : List Record → List Record → Type 0
KeepsNames v w = (name : Name) → keepers name w ≡ keepers name v

-- The names that the one keeps are divided between both others.
abbrev pub DividesNames : List Record → List Record → List Record → Type 0
DividesNames v left right = (name : Name) → keepers name left + keepers name right ≡ keepers name v
