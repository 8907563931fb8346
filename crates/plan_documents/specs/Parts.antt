-- How the parts of a document are written as JSON, and how they are read from it.
use Rattle.std.specs.Prelude.{ℕ, ℤ, suc, List, [], ◌∷◌, ◌++◌, map, codes, decimal, Bool, false, bytes_eq, if◌then◌else◌, Option, Some, None, option_map, option_and_then, unwrap_or, Result, Ok, Err, ⊤}
use Rattle.std.specs.Ordering.{nat_cmp, match_ordering}
use Rattle.std.specs.Cmp.Lexicographic.{slice_cmp}
use Rattle.serde_json.specs.Data.{Num, unsigned, negative, float, Data, null, boolean, number, string, array, object, Items, no_items, item, Members, no_members, member}
use Rattle.serde_json.specs.Find.{get, as_str, of_integer}
use Rattle.serde_json.specs.View.{items_of}
use Rattle.flow_model.specs.Json.{value_of, whole_of}
use Rattle.flow_model.specs.Plain.{Plain}

-- ---- writing

-- a natural number
abbrev pub number_data : ℕ → Data
number_data n = number (unsigned n)

-- a whole number
abbrev pub integer_data : ℤ → Data
integer_data z = number (of_integer z)

-- null for none
abbrev pub optional_data : {A : Type 0} → (A → Data) → Option A → Data
optional_data each None = null
optional_data each (Some a) = each a

-- the items in order
abbrev pub list_data : {A : Type 0} → (A → Data) → List A → Data
list_data each xs = array (items_of (map each xs))

-- the pairs in order
abbrev pub pair_members : {A : Type 0} → (A → Data) → List (List ℕ × A) → Members
pair_members each [] = no_members
pair_members each (p ∷ ps) = member p.0 (each p.1) (pair_members each ps)

-- a map as an object
abbrev pub map_data : {A : Type 0} → (A → Data) → List (List ℕ × A) → Data
map_data each ps = object (pair_members each ps)

-- ---- reading

-- what was read, or the path of the first part that is not as it should be: the keys and places that
-- lead there, joined by dots
abbrev pub Reading : Type 0 → Type 0
Reading A = Result A (List ℕ)

-- what is read next, where the first was read
abbrev pub and_then : {A B : Type 0} → (A → Reading B) → Reading A → Reading B
and_then next (Ok a) = next a
and_then next (Err path) = Err path

-- what is made of what was read
abbrev pub map_read : {A B : Type 0} → (A → B) → Reading A → Reading B
map_read f (Ok a) = Ok (f a)
map_read f (Err path) = Err path

-- the path of what stands at the key or place, and there at the path
abbrev pub joined : List ℕ → List ℕ → List ℕ
joined key [] = key
joined key (c ∷ path) = key ++ (codes "." ++ (c ∷ path))

-- the part that stands at the key or place
abbrev pub within : {A : Type 0} → List ℕ → Reading A → Reading A
within key (Ok a) = Ok a
within key (Err path) = Err (joined key path)

-- a text
abbrev pub text_of : Data → Reading (List ℕ)
text_of null = Err []
text_of (boolean b) = Err []
text_of (number n) = Err []
text_of (string bytes) = Ok bytes
text_of (array ds) = Err []
text_of (object ms) = Err []

-- a truth value
abbrev pub truth_of : Data → Reading Bool
truth_of null = Err []
truth_of (boolean b) = Ok b
truth_of (number n) = Err []
truth_of (string bytes) = Err []
truth_of (array ds) = Err []
truth_of (object ms) = Err []

-- a JSON number that is held as a natural one
abbrev pub natural_of : Num → Reading ℕ
natural_of (unsigned n) = Ok n
natural_of (negative z) = Err []
natural_of (float x) = Err []

-- a natural number
abbrev pub number_of : Data → Reading ℕ
number_of null = Err []
number_of (boolean b) = Err []
number_of (number n) = natural_of n
number_of (string bytes) = Err []
number_of (array ds) = Err []
number_of (object ms) = Err []

-- what is there, or the part itself is not as it should be
abbrev pub or_refused : {A : Type 0} → Option A → Reading A
or_refused None = Err []
or_refused (Some a) = Ok a

-- a whole number in range
abbrev pub integer_of : Data → Reading ℤ
integer_of null = Err []
integer_of (boolean b) = Err []
integer_of (number n) = or_refused (whole_of n)
integer_of (string bytes) = Err []
integer_of (array ds) = Err []
integer_of (object ms) = Err []

-- a value in range
abbrev pub plain_of : Data → Reading Plain
plain_of d = or_refused (value_of d)

-- none for null
abbrev pub optional_of : {A : Type 0} → (Data → Reading A) → Data → Reading (Option A)
optional_of of null = Ok None
optional_of of (boolean b) = map_read Some (of (boolean b))
optional_of of (number n) = map_read Some (of (number n))
optional_of of (string bytes) = map_read Some (of (string bytes))
optional_of of (array ds) = map_read Some (of (array ds))
optional_of of (object ms) = map_read Some (of (object ms))

-- the items from a place on, in order
abbrev pub items_read : {A : Type 0} → (Data → Reading A) → ℕ → Items → Reading (List A)
items_read of place no_items = Ok []
items_read of place (item d ds) = and_then (λ a. map_read (λ xs. a ∷ xs) (items_read of (suc place) ds)) (within (decimal place) (of d))

-- a list of such items
abbrev pub list_of : {A : Type 0} → (Data → Reading A) → Data → Reading (List A)
list_of of null = Err []
list_of of (boolean b) = Err []
list_of of (number n) = Err []
list_of of (string bytes) = Err []
list_of of (array ds) = items_read of 0 ds
list_of of (object ms) = Err []

-- the members of an object
abbrev pub members_of : Data → Reading Members
members_of null = Err []
members_of (boolean b) = Err []
members_of (number n) = Err []
members_of (string bytes) = Err []
members_of (array ds) = Err []
members_of (object ms) = Ok ms

-- the pairs of an object, in order
abbrev pub pairs_read : {A : Type 0} → (Data → Reading A) → Members → Reading (List (List ℕ × A))
pairs_read of no_members = Ok []
pairs_read of (member key d ms) = and_then (λ a. map_read (λ ps. (key, a) ∷ ps) (pairs_read of ms)) (within key (of d))

-- an object as a map
abbrev pub map_of : {A : Type 0} → (Data → Reading A) → Data → Reading (List (List ℕ × A))
map_of of d = and_then (pairs_read of) (members_of d)

-- the value of the next member, which has to be at this key, and the members after it; where another
-- stands there, the lesser of the two keys is unknown or missing
abbrev pub next_member : List ℕ → Members → Reading (Data × Members)
next_member key no_members = Err key
next_member key (member found d ms) = match_ordering (slice_cmp nat_cmp found key) (Err found) (Ok (d, ms)) (Err key)

-- the part at the next key, and the members after it
abbrev pub first_field : {A : Type 0} → List ℕ → (Data → Reading A) → Members → Reading (A × Members)
first_field key of ms = and_then (λ m. map_read (λ a. (a, m.1)) (within key (of m.0))) (next_member key ms)

-- the part at the next key, and the rest
abbrev pub field : {A B : Type 0} → List ℕ → (Data → Reading A) → (Members → Reading B) → Members → Reading (A × B)
field key of rest ms = and_then (λ f. map_read (λ b. (f.0, b)) (rest f.1)) (first_field key of ms)

-- no further member
abbrev pub no_more : Members → Reading ⊤
no_more no_members = Ok tt
no_more (member key d ms) = Err key

-- an object that has these members and no others
abbrev pub object_of : {A B : Type 0} → (Members → Reading A) → (A → B) → Data → Reading B
object_of fields made d = and_then (λ ms. map_read made (fields ms)) (members_of d)

-- exactly this text
abbrev pub word_of : List ℕ → Data → Reading ⊤
word_of word d = and_then (λ text. if bytes_eq text word then Ok tt else Err []) (text_of d)

-- whether the object has this text at the key
abbrev pub has_word : List ℕ → List ℕ → Data → Bool
has_word key word d = unwrap_or (option_map (λ text. bytes_eq text word) (option_and_then as_str (get key d))) false
