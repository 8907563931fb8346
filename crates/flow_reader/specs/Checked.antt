-- What a part of a workflow stands for, or all faults in it. A reader answers what it stands for, or one of its faults.
use Rattle.std.specs.Prelude.{◌≡◌, ℕ, suc, List, [], ◌∷◌, ◌++◌, map, decimal, Option, Some, None, Result, Ok, Err, Bool, true, false, IsTrue, if◌then◌else◌, ⊤}
use Rattle.std.specs.List.{Contains}
use Rattle.serde_json.specs.Data.{Data, null, boolean, number, string, array, object, Items, no_items, item, Members, no_members, member}
use Rattle.serde_json.specs.Find.{get, as_str}
use Rattle.expr_reader.specs.Template.{has_marker}
use Rattle.flow_reader.specs.Fault.{at_key}
use Rattle.flow_reader.specs.declared.fault.FlowFault.{FlowFault}
use Rattle.flow_reader.specs.declared.fault.FlowFault.TheVariants.{NotJson, NotWhole, Missing, WrongShape, BadId, LeftOut, UnknownShell, Memory}

-- what a part stands for, or its faults
abbrev pub Checked : Type 0 → Type 0
Checked A = Result A (List FlowFault)

-- a part with this fault
unfoldable pub bad : {A : Type 0} → FlowFault → Checked A
bad fault = Err (fault ∷ [])

-- two parts, or the faults of both
unfoldable pub both : {A B : Type 0} → Checked A → Checked B → Checked (A × B)
both (Ok a) (Ok b) = Ok (a, b)
both (Ok a) (Err gs) = Err gs
both (Err fs) (Ok b) = Err fs
both (Err fs) (Err gs) = Err (fs ++ gs)

-- what is made of a part
unfoldable pub made : {A B : Type 0} → (A → B) → Checked A → Checked B
made make (Ok a) = Ok (make a)
made make (Err fs) = Err fs

-- the part at a key or place of the whole
unfoldable pub under : {A : Type 0} → List ℕ → Checked A → Checked A
under key (Ok a) = Ok a
under key (Err fs) = Err (map (at_key key) fs)

-- what may be wrong with a part of a text, which is JSON then
abbrev pub is_of_part : FlowFault → Bool
is_of_part NotJson = false
is_of_part NotWhole = true
is_of_part (Missing key) = true
is_of_part (WrongShape path) = true
is_of_part (BadId name) = true
is_of_part (LeftOut key) = true
is_of_part UnknownShell = true
is_of_part Memory = true

-- the fault is one of the part's, or want of memory
unfoldable pub Stands : {A : Type 0} → FlowFault → Checked A → Type 0
Stands fault (Ok a) = IsTrue (is_of_part fault) × Contains (Memory ∷ []) fault
Stands fault (Err fs) = IsTrue (is_of_part fault) × Contains (Memory ∷ fs) fault

-- the fault is this one, or want of memory
unfoldable pub IsFault : FlowFault → FlowFault → Type 0
IsFault wanted fault = Contains (Memory ∷ wanted ∷ []) fault

-- A reader answers what the part stands for, or a fault of it.
abbrev pub Gives : {A : Type 0} → Result A FlowFault → Checked A → Type 0
Gives (Ok a) meaning = meaning ≡ Ok a
Gives (Err fault) meaning = Stands fault meaning

-- ---- what stands at a key of an object

-- a text in which an expression begins
abbrev pub expression_text : Option (List ℕ) → Bool
expression_text None = false
expression_text (Some text) = has_marker text

unfoldable pub is_expression : Data → Bool
is_expression d = expression_text (as_str d)

-- a part that may be missing
unfoldable pub optional_at : {A : Type 0} → (Data → Checked A) → List ℕ → Option Data → Checked (Option A)
optional_at of key None = Ok None
optional_at of key (Some d) = made Some (under key (of d))

abbrev pub optional : {A : Type 0} → (Data → Checked A) → List ℕ → Data → Checked (Option A)
optional of key d = optional_at of key (get key d)

-- a part that has a default
unfoldable pub defaulted_at : {A : Type 0} → A → (Data → Checked A) → List ℕ → Option Data → Checked A
defaulted_at default of key None = Ok default
defaulted_at default of key (Some d) = under key (of d)

abbrev pub defaulted : {A : Type 0} → A → (Data → Checked A) → List ℕ → Data → Checked A
defaulted default of key d = defaulted_at default of key (get key d)

-- a part that must not be missing
unfoldable pub required_at : {A : Type 0} → (Data → Checked A) → List ℕ → Option Data → Checked A
required_at of key None = bad (Missing key)
required_at of key (Some d) = under key (of d)

abbrev pub required : {A : Type 0} → (Data → Checked A) → List ℕ → Data → Checked A
required of key d = required_at of key (get key d)

-- the part at the first key, and the others at the other keys
abbrev pub at_keys : {A B : Type 0} → (List ℕ → Data → Checked A) → (List (List ℕ) → Data → Checked B) → List (List ℕ) → Data → Checked (A × B)
at_keys part rest [] d = bad (WrongShape [])
at_keys part rest (key ∷ keys) d = both (part key d) (rest keys d)

-- a part that is left out where it is an expression
unfoldable pub spelled_in : {A : Type 0} → (Data → Checked A) → List ℕ → Data → Checked A
spelled_in of key d = if is_expression d then bad (LeftOut key) else under key (of d)

-- a part that may be missing, and is left out where it is an expression
unfoldable pub spelled_at : {A : Type 0} → (Data → Checked A) → List ℕ → Option Data → Checked (Option A)
spelled_at of key None = Ok None
spelled_at of key (Some d) = made Some (spelled_in of key d)

abbrev pub spelled : {A : Type 0} → (Data → Checked A) → List ℕ → Data → Checked (Option A)
spelled of key d = spelled_at of key (get key d)

-- a key that is left out, whatever stands there
unfoldable pub absent_at : List ℕ → Option Data → Checked ⊤
absent_at key None = Ok tt
absent_at key (Some d) = bad (LeftOut key)

abbrev pub absent : List ℕ → Data → Checked ⊤
absent key d = absent_at key (get key d)

-- no part of the object is left to be read
abbrev pub no_more : List (List ℕ) → Data → Checked ⊤
no_more keys d = Ok tt

-- ---- objects and lists

-- what is read of an object; all else has the wrong shape
unfoldable pub in_object : {A : Type 0} → (Data → Checked A) → Data → Checked A
in_object of null = bad (WrongShape [])
in_object of (boolean b) = bad (WrongShape [])
in_object of (number n) = bad (WrongShape [])
in_object of (string bytes) = bad (WrongShape [])
in_object of (array ds) = bad (WrongShape [])
in_object of (object ms) = of (object ms)

-- what is read of an object's members; all else has the wrong shape
unfoldable pub of_members : {A : Type 0} → (Members → Checked A) → Data → Checked A
of_members of null = bad (WrongShape [])
of_members of (boolean b) = bad (WrongShape [])
of_members of (number n) = bad (WrongShape [])
of_members of (string bytes) = bad (WrongShape [])
of_members of (array ds) = bad (WrongShape [])
of_members of (object ms) = of ms

-- the items, counted from this place on
abbrev pub items_checked : {A : Type 0} → (Data → Checked A) → ℕ → Items → Checked (List A)
items_checked of place no_items = Ok []
items_checked of place (item d ds) = made (λ x. x.0 ∷ x.1) (both (under (decimal place) (of d)) (items_checked of (suc place) ds))

-- a list of such items
unfoldable pub list_of : {A : Type 0} → (Data → Checked A) → Data → Checked (List A)
list_of of null = bad (WrongShape [])
list_of of (boolean b) = bad (WrongShape [])
list_of of (number n) = bad (WrongShape [])
list_of of (string bytes) = bad (WrongShape [])
list_of of (array ds) = items_checked of 0 ds
list_of of (object ms) = bad (WrongShape [])

-- the pairs of an object, of those keys that count
abbrev pub pairs_checked : {A : Type 0} → (List ℕ → Bool) → (List ℕ → Data → Checked A) → Members → Checked (List (List ℕ × A))
pairs_checked counts of no_members = Ok []
pairs_checked counts of (member key d ms) =
    if counts key then made (λ x. (key, x.0) ∷ x.1) (both (of key d) (pairs_checked counts of ms)) else pairs_checked counts of ms

-- what the members of an object stand for, each with its key
abbrev pub members_checked : {A : Type 0} → (List ℕ → Data → Checked A) → Members → Checked (List A)
members_checked of no_members = Ok []
members_checked of (member key d ms) = made (λ x. x.0 ∷ x.1) (both (of key d) (members_checked of ms))

-- the keys of an object
abbrev pub keys_in : Members → List (List ℕ)
keys_in no_members = []
keys_in (member key d ms) = key ∷ keys_in ms
