-- What is written is read again, and only from what is written.
use Rattle.std.proofs.Common.{◌≡◌, ◌≤◌, ◌⊎◌, inl, inr, ℕ, suc, List, [], ◌∷◌, map, decimal, Bool, true, false, IsTrue, ◌&&◌, bytes_eq, cond, Option, Some, None, Ok, Err, Ordering, Less, Equal, Greater, nat_cmp, is_eq, refl, sym, ap, ◌∙◌, arith}
use Rattle.std.proofs.lemmas.Cmp.{nat_list_cmp_total, tied_itself}
use Rattle.std.proofs.lemmas.Map.Text.{is_eq-slice_cmp}
use Rattle.std.proofs.lemmas.Slice.Eq.{bytes_eq-Decides}
use Rattle.std.specs.Cmp.Lexicographic.{slice_cmp}
use Rattle.std.specs.List.{list_all}
use Rattle.std.specs.Prelude.{⊤}
use Rattle.std.specs.Ordering.{match_ordering}
use Rattle.serde_json.specs.Data.{Num, unsigned, negative, float, Data, null, boolean, number, string, array, object, Items, no_items, item, Members, no_members, member, depth, items_depth, members_depth}
use Rattle.serde_json.specs.View.{items_of}
use Rattle.serde_json.specs.Written.{has_float, items_have_float, members_have_float}
use Rattle.flow_model.specs.Rules.{all_there}
use Rattle.plan_documents.specs.Parts.{number_data, optional_data, list_data, pair_members, map_data, Reading, and_then, map_read, or_refused, within, text_of, truth_of, natural_of, number_of, optional_of, items_read, list_of, pairs_read, map_of, next_member, first_field, field, no_more, object_of, word_of}

-- A part's writing and its reading fit together: what is written of a part that fits is read again, a part
-- is read only from what is written of it, and what is written nests at most n deep and has no float.
pub record Reads {A : Type 0} (write : A → Data) (read : Data → Reading A) (fits : A → Bool) (n : ℕ) : Type 0 where
  pub again : (a : A) → IsTrue (fits a) → read (write a) ≡ Ok a
  pub only : (d : Data) (a : A) → read d ≡ Ok a → d ≡ write a
  pub low : (a : A) → IsTrue (fits a) → depth (write a) ≤ n
  pub exact : (a : A) → has_float (write a) ≡ false

-- the same of the members of an object
pub record ReadsMembers {A : Type 0} (write : A → Members) (read : Members → Reading A) (fits : A → Bool) (n : ℕ) : Type 0 where
  pub again : (a : A) → IsTrue (fits a) → read (write a) ≡ Ok a
  pub only : (ms : Members) (a : A) → read ms ≡ Ok a → ms ≡ write a
  pub low : (a : A) → IsTrue (fits a) → members_depth (write a) ≤ n
  pub exact : (a : A) → members_have_float (write a) ≡ false

-- A part that may be written in each of some forms, where the form tells all of it, is read again.
pub record ReadsForms {V A : Type 0} (write : V → A → Data) (read : Data → Reading A) (tells : V → A → Bool) (fits : A → Bool) (n : ℕ) : Type 0 where
  pub again : (v : V) (a : A) → IsTrue (fits a) → IsTrue (tells v a) → read (write v a) ≡ Ok a
  pub only : (d : Data) (a : A) → read d ≡ Ok a → (v : V) × IsTrue (tells v a) × (d ≡ write v a)
  pub low : (v : V) (a : A) → IsTrue (fits a) → depth (write v a) ≤ n
  pub exact : (v : V) (a : A) → has_float (write v a) ≡ false

-- ---- readings, backwards

pub Ok-inj : {A : Type 0} (x y : A) → (let a : Reading A = Ok x in a ≡ Ok y) → x ≡ y
Ok-inj x y e = cc

pub from_and_then : {A B : Type 0} (f : A → Reading B) (r : Reading A) (b : B) → and_then f r ≡ Ok b → (a : A) × ((r ≡ Ok a) × (f a ≡ Ok b))
from_and_then f (Ok a) b e = (a, (refl, e))
from_and_then f (Err path) b e = absurd (cc)

pub from_map_read : {A B : Type 0} (f : A → B) (r : Reading A) (b : B) → map_read f r ≡ Ok b → (a : A) × ((r ≡ Ok a) × (f a ≡ b))
from_map_read f (Ok a) b e = (a, (refl, Ok-inj _ _ e))
from_map_read f (Err path) b e = absurd (cc)

pub from_within : {A : Type 0} (key : List ℕ) (r : Reading A) (a : A) → within key r ≡ Ok a → r ≡ Ok a
from_within key (Ok b) a e = e
from_within key (Err path) a e = absurd (cc)

-- ---- tests

pub both : (a b : Bool) → IsTrue (a && b) → IsTrue a × IsTrue b
both true b h = (refl, h)
both false b h = absurd (cc)

pub and_true : (a b : Bool) → IsTrue a → IsTrue b → IsTrue (a && b)
and_true true b h k = k
and_true false b h k = absurd (cc)

pub if_true : {A : Type 0} (b : Bool) (x y : A) → IsTrue b → cond b x y ≡ x
if_true true x y h = refl
if_true false x y h = absurd (cc)

-- what a choice gives comes from one side
pub from_either : {A P : Type 0} (b : Bool) (x y : Reading A) (a : A) → (x ≡ Ok a → P) → (y ≡ Ok a → P) → cond b x y ≡ Ok a → P
from_either true x y a left right e = left e
from_either false x y a left right e = right e

pub from_or_refused : {A : Type 0} (o : Option A) (a : A) → or_refused o ≡ Ok a → o ≡ Some a
from_or_refused None a e = absurd (cc)
from_or_refused (Some b) a e = cc

pub from_test : {A : Type 0} (b : Bool) (x y : A) (path : List ℕ) → cond b (Ok x) (Err path) ≡ Ok y → IsTrue b × (x ≡ y)
from_test true x y path e = (refl, Ok-inj _ _ e)
from_test false x y path e = absurd (cc)

same_text : (t : List ℕ) → bytes_eq t t ≡ true
same_text t = (bytes_eq-Decides t t).1 refl

-- ---- leaves

pub text_only : (d : Data) (t : List ℕ) → text_of d ≡ Ok t → d ≡ string t
text_only null t e = absurd (cc)
text_only (boolean b) t e = absurd (cc)
text_only (number m) t e = absurd (cc)
text_only (string s) t e = ap string (Ok-inj _ _ e)
text_only (array ds) t e = absurd (cc)
text_only (object ms) t e = absurd (cc)

pub text_reads : (n : ℕ) → Reads string text_of (λ _. true) n
text_reads n = record { again = λ t h. refl; only = text_only; low = λ t h. omega arith; exact = λ t. refl }

truth_only : (d : Data) (b : Bool) → truth_of d ≡ Ok b → d ≡ boolean b
truth_only null b e = absurd (cc)
truth_only (boolean c) b e = ap boolean (Ok-inj _ _ e)
truth_only (number m) b e = absurd (cc)
truth_only (string s) b e = absurd (cc)
truth_only (array ds) b e = absurd (cc)
truth_only (object ms) b e = absurd (cc)

pub truth_reads : (n : ℕ) → Reads boolean truth_of (λ _. true) n
truth_reads n = record { again = λ b h. refl; only = truth_only; low = λ b h. omega arith; exact = λ b. refl }

natural_only : (m : Num) (n : ℕ) → natural_of m ≡ Ok n → m ≡ unsigned n
natural_only (unsigned k) n e = ap unsigned (Ok-inj _ _ e)
natural_only (negative z) n e = absurd (cc)
natural_only (float x) n e = absurd (cc)

pub number_only : (d : Data) (n : ℕ) → number_of d ≡ Ok n → d ≡ number_data n
number_only null n e = absurd (cc)
number_only (boolean b) n e = absurd (cc)
number_only (number m) n e = ap number (natural_only m n e)
number_only (string s) n e = absurd (cc)
number_only (array ds) n e = absurd (cc)
number_only (object ms) n e = absurd (cc)

pub number_reads : (n : ℕ) → Reads number_data number_of (λ _. true) n
number_reads n = record { again = λ k h. refl; only = number_only; low = λ k h. omega arith; exact = λ k. refl }

word_only : (word : List ℕ) (d : Data) (a : ⊤) → word_of word d ≡ Ok a → d ≡ string word
word_only word d a e =
    let r = from_and_then _ (text_of d) a e in
    text_only d r.0 r.1.0 ∙ ap string ((bytes_eq-Decides r.0 word).0 (from_test (bytes_eq r.0 word) tt a [] r.1.1).0)

word_again : (word : List ℕ) (a : ⊤) → word_of word (string word) ≡ Ok a
word_again word tt = rw (same_text word) refl

-- a text that is always this word
pub word_reads : (word : List ℕ) (n : ℕ) → Reads (λ _. string word) (word_of word) (λ _. true) n
word_reads word n = record { again = λ a h. word_again word a; only = word_only word; low = λ a h. omega arith; exact = λ a. refl }

-- ---- what may be missing, lists and maps

not_null : {A : Type 0} (read : Data → Reading A) (path : List ℕ) (d : Data) (a : A) → read null ≡ Err path → read d ≡ Ok a → optional_of read d ≡ Ok (Some a)
not_null read path null a refused e = absurd (cc)
not_null read path (boolean b) a refused e = ap (map_read Some) e
not_null read path (number m) a refused e = ap (map_read Some) e
not_null read path (string s) a refused e = ap (map_read Some) e
not_null read path (array ds) a refused e = ap (map_read Some) e
not_null read path (object ms) a refused e = ap (map_read Some) e

-- what was read of a part that may be missing was read of it, or it is null
from_optional : {A : Type 0} (read : Data → Reading A) (d : Data) (o : Option A) → optional_of read d ≡ Ok o
    → ((d ≡ null) × (o ≡ None)) ⊎ ((a : A) × ((read d ≡ Ok a) × (Some a ≡ o)))
from_optional read null o e = inl (refl, sym (Ok-inj _ _ e))
from_optional read (boolean b) o e = inr (from_map_read Some _ o e)
from_optional read (number m) o e = inr (from_map_read Some _ o e)
from_optional read (string s) o e = inr (from_map_read Some _ o e)
from_optional read (array ds) o e = inr (from_map_read Some _ o e)
from_optional read (object ms) o e = inr (from_map_read Some _ o e)

module _ {A : Type 0} {write : A → Data} {read : Data → Reading A} {fits : A → Bool} {n : ℕ} (law : Reads write read fits n) where
  optional_again : (path : List ℕ) → read null ≡ Err path → (o : Option A) → IsTrue (all_there fits o) → optional_of read (optional_data write o) ≡ Ok o
  optional_again path refused None h = refl
  optional_again path refused (Some a) h = not_null read path (write a) a refused (law.again a h)

  optional_only : (d : Data) (o : Option A) → optional_of read d ≡ Ok o → d ≡ optional_data write o
  optional_only d o e =
      elim (from_optional read d o e) [
        | inl h ↦ h.0 ∙ ap (optional_data write) (sym h.1)
        | inr h ↦ law.only d h.0 h.1.0 ∙ ap (optional_data write) h.1.1
      ]

  optional_low : (o : Option A) → IsTrue (all_there fits o) → depth (optional_data write o) ≤ n
  optional_low None h = omega arith
  optional_low (Some a) h = law.low a h

  optional_exact : (o : Option A) → has_float (optional_data write o) ≡ false
  optional_exact None = refl
  optional_exact (Some a) = law.exact a

  pub optional_reads : (path : List ℕ) → read null ≡ Err path → Reads (optional_data write) (optional_of read) (all_there fits) n
  optional_reads path refused = record { again = optional_again path refused; only = optional_only; low = optional_low; exact = optional_exact }

  items_again : (place : ℕ) (xs : List A) → IsTrue (list_all fits xs) → items_read read place (items_of (map write xs)) ≡ Ok xs
  items_again place [] h = refl
  items_again place (x ∷ xs) h =
      let hs = both (fits x) (list_all fits xs) h in
      rw (law.again x hs.0, items_again (suc place) xs hs.1) refl

  items_only : (place : ℕ) (ds : Items) (xs : List A) → items_read read place ds ≡ Ok xs → ds ≡ items_of (map write xs)
  items_only place no_items xs e = ap (λ ys. items_of (map write ys)) (Ok-inj _ _ e)
  items_only place (item d ds) xs e =
      let r = from_and_then _ (within (decimal place) (read d)) xs e in
      let s = from_map_read _ (items_read read (suc place) ds) xs r.1.1 in
      (λ i. item (law.only d r.0 (from_within (decimal place) (read d) r.0 r.1.0) i) (items_only (suc place) ds s.0 s.1.0 i))
      ∙ ap (λ ys. items_of (map write ys)) s.1.1

  items_low : (xs : List A) → IsTrue (list_all fits xs) → items_depth (items_of (map write xs)) ≤ n
  items_low [] h = omega arith
  items_low (x ∷ xs) h =
      let hs = both (fits x) (list_all fits xs) h in
      omega (arith, law.low x hs.0, items_low xs hs.1)

  items_exact : (xs : List A) → items_have_float (items_of (map write xs)) ≡ false
  items_exact [] = refl
  items_exact (x ∷ xs) = rw (law.exact x) (items_exact xs)

  list_only : (d : Data) (xs : List A) → list_of read d ≡ Ok xs → d ≡ list_data write xs
  list_only null xs e = absurd (cc)
  list_only (boolean b) xs e = absurd (cc)
  list_only (number m) xs e = absurd (cc)
  list_only (string s) xs e = absurd (cc)
  list_only (array ds) xs e = ap array (items_only 0 ds xs e)
  list_only (object ms) xs e = absurd (cc)

  pub list_reads : Reads (list_data write) (list_of read) (list_all fits) (suc n)
  list_reads = record { again = items_again 0; only = list_only; low = λ xs h. omega (arith, items_low xs h); exact = items_exact }

  pairs_again : (ps : List (List ℕ × A)) → IsTrue (list_all (λ p. fits p.1) ps) → pairs_read read (pair_members write ps) ≡ Ok ps
  pairs_again [] h = refl
  pairs_again (p ∷ ps) h =
      let hs = both (fits p.1) (list_all (λ p. fits p.1) ps) h in
      rw (law.again p.1 hs.0, pairs_again ps hs.1) refl

  pairs_only : (ms : Members) (ps : List (List ℕ × A)) → pairs_read read ms ≡ Ok ps → ms ≡ pair_members write ps
  pairs_only no_members ps e = ap (pair_members write) (Ok-inj _ _ e)
  pairs_only (member key d ms) ps e =
      let r = from_and_then _ (within key (read d)) ps e in
      let s = from_map_read _ (pairs_read read ms) ps r.1.1 in
      (λ i. member key (law.only d r.0 (from_within key (read d) r.0 r.1.0) i) (pairs_only ms s.0 s.1.0 i)) ∙ ap (pair_members write) s.1.1

  pairs_low : (ps : List (List ℕ × A)) → IsTrue (list_all (λ p. fits p.1) ps) → members_depth (pair_members write ps) ≤ n
  pairs_low [] h = omega arith
  pairs_low (p ∷ ps) h =
      let hs = both (fits p.1) (list_all (λ p. fits p.1) ps) h in
      omega (arith, law.low p.1 hs.0, pairs_low ps hs.1)

  pairs_exact : (ps : List (List ℕ × A)) → members_have_float (pair_members write ps) ≡ false
  pairs_exact [] = refl
  pairs_exact (p ∷ ps) = rw (law.exact p.1) (pairs_exact ps)

  map_only : (d : Data) (ps : List (List ℕ × A)) → map_of read d ≡ Ok ps → d ≡ map_data write ps
  map_only null ps e = absurd (cc)
  map_only (boolean b) ps e = absurd (cc)
  map_only (number m) ps e = absurd (cc)
  map_only (string s) ps e = absurd (cc)
  map_only (array ds) ps e = absurd (cc)
  map_only (object ms) ps e = ap object (pairs_only ms ps e)

  pub map_reads : Reads (map_data write) (map_of read) (list_all (λ p. fits p.1)) (suc n)
  map_reads = record { again = pairs_again; only = map_only; low = λ ps h. omega (arith, pairs_low ps h); exact = pairs_exact }

  -- a greater depth will do
  pub deeper : (m : ℕ) → n ≤ m → Reads write read fits m
  deeper m le = record { again = law.again; only = law.only; low = λ a h. omega (arith, law.low a h); exact = law.exact }

  -- a stricter test will do
  pub fitting : (test : A → Bool) → ((a : A) → IsTrue (test a) → IsTrue (fits a)) → Reads write read test n
  fitting test implies = record { again = λ a h. law.again a (implies a h); only = law.only; low = λ a h. law.low a (implies a h); exact = law.exact }

-- ---- objects

pub no_more_reads : (n : ℕ) → ReadsMembers {A = ⊤} (λ _. no_members) no_more (λ _. true) n
no_more_reads n = record { again = λ a h. refl; only = no_more_only; low = λ a h. omega arith; exact = λ a. refl }
  where
    no_more_only : (ms : Members) (a : ⊤) → no_more ms ≡ Ok a → ms ≡ no_members
    no_more_only no_members a e = refl
    no_more_only (member key d ms) a e = absurd (cc)

same_key : (key : List ℕ) → slice_cmp nat_cmp key key ≡ Equal
same_key key = tied_itself nat_list_cmp_total key

equal_only : {A : Type 0} (o : Ordering) (x y : List ℕ) (a b : A) → match_ordering o (Err x) (Ok a) (Err y) ≡ Ok b → (o ≡ Equal) × (a ≡ b)
equal_only Less x y a b e = absurd (cc)
equal_only Equal x y a b e = (refl, Ok-inj _ _ e)
equal_only Greater x y a b e = absurd (cc)

next_only : (key : List ℕ) (ms : Members) (m : Data × Members) → next_member key ms ≡ Ok m → ms ≡ member key m.0 m.1
next_only key no_members m e = absurd (cc)
next_only key (member found d ms) m e =
    let r = equal_only (slice_cmp nat_cmp found key) found key (d, ms) m e in
    let same : found ≡ key = (bytes_eq-Decides found key).0 (sym (is_eq-slice_cmp found key) ∙ ap is_eq r.0) in
    λ i. member (same i) (r.1 i).0 (r.1 i).1

module _ {A B : Type 0} (key : List ℕ) (read : Data → Reading A) (reads : Members → Reading B) where
  -- the part at a key is read, and then the rest
  pub field_made : (d : Data) (ms : Members) (a : A) (b : B) → read d ≡ Ok a → reads ms ≡ Ok b → field key read reads (member key d ms) ≡ Ok (a, b)
  field_made d ms a b h k = rw (same_key key, h, k) refl

  -- what is read so is the part at the key, and the rest
  pub field_found : (ms : Members) (p : A × B) → field key read reads ms ≡ Ok p
      → (d : Data) × ((left : Members) × ((ms ≡ member key d left) × ((read d ≡ Ok p.0) × (reads left ≡ Ok p.1))))
  field_found ms p e =
      let r = from_and_then _ (first_field key read ms) p e in
      let s = from_and_then _ (next_member key ms) r.0 r.1.0 in
      let t = from_map_read (λ a. (a, s.0.1)) (within key (read s.0.0)) r.0 s.1.1 in
      let u = from_map_read (λ b. (r.0.0, b)) (reads r.0.1) p r.1.1 in (
        s.0.0,
        (
          r.0.1,
          (
            next_only key ms s.0 s.1.0 ∙ ap (λ q. member key s.0.0 q.1) t.1.1,
            (from_within key (read s.0.0) t.0 t.1.0 ∙ ap (λ q. Ok q.0) t.1.1 ∙ ap (λ q. Ok q.0) u.1.1, u.1.0 ∙ ap (λ q. Ok q.1) u.1.1),
          ),
        ),
      )

module _ {A B : Type 0} {write : A → Data} {read : Data → Reading A} {fits : A → Bool} {writes : B → Members} {reads : Members → Reading B} {fit : B → Bool} {n : ℕ}
    (key : List ℕ) (law : Reads write read fits n) (rest : ReadsMembers writes reads fit n) where
  field_again : (p : A × B) → IsTrue (fits p.0 && fit p.1) → field key read reads (member key (write p.0) (writes p.1)) ≡ Ok p
  field_again p h =
      let hs = both (fits p.0) (fit p.1) h in
      field_made key read reads (write p.0) (writes p.1) p.0 p.1 (law.again p.0 hs.0) (rest.again p.1 hs.1)

  field_only : (ms : Members) (p : A × B) → field key read reads ms ≡ Ok p → ms ≡ member key (write p.0) (writes p.1)
  field_only ms p e =
      let found = field_found key read reads ms p e in
      found.1.1.0 ∙ (λ i. member key (law.only found.0 p.0 found.1.1.1.0 i) (rest.only found.1.0 p.1 found.1.1.1.1 i))

  pub field_reads : ReadsMembers (λ p. member key (write p.0) (writes p.1)) (field key read reads) (λ p. fits p.0 && fit p.1) n
  field_reads = record {
    again = field_again;
    only = field_only;
    low = λ p h.
        let hs = both (fits p.0) (fit p.1) h in
        omega (arith, law.low p.0 hs.0, rest.low p.1 hs.1);
    exact = λ p. rw (law.exact p.0) (rest.exact p.1);
  }

-- what is read of an object is made of what is read of its members
pub object_found : {A B : Type 0} (reads : Members → Reading A) (made : A → B) (d : Data) (b : B) → object_of reads made d ≡ Ok b
    → (ms : Members) × ((d ≡ object ms) × ((a : A) × ((reads ms ≡ Ok a) × (made a ≡ b))))
object_found reads made null b e = absurd (cc)
object_found reads made (boolean c) b e = absurd (cc)
object_found reads made (number m) b e = absurd (cc)
object_found reads made (string s) b e = absurd (cc)
object_found reads made (array ds) b e = absurd (cc)
object_found reads made (object ms) b e = (ms, (refl, from_map_read made (reads ms) b e))

module _ {A B : Type 0} {writes : A → Members} {reads : Members → Reading A} {fit : A → Bool} {n : ℕ}
    (law : ReadsMembers writes reads fit n) (made : A → B) where
  -- an object is read as what is made of its parts
  pub object_made : (a : A) → IsTrue (fit a) → object_of reads made (object (writes a)) ≡ Ok (made a)
  object_made a h = ap (map_read made) (law.again a h)

  -- and only from the parts that it was made of
  pub from_object : (d : Data) (b : B) → object_of reads made d ≡ Ok b → (a : A) × ((d ≡ object (writes a)) × (made a ≡ b))
  from_object d b e =
      let found = object_found reads made d b e in
      let r = found.1.1 in
      (r.0, (found.1.0 ∙ ap object (law.only found.0 r.0 r.1.0), r.1.1))

  pub object_reads : (parts : B → A) → ((b : B) → made (parts b) ≡ b) → ((a : A) → parts (made a) ≡ a)
      → Reads (λ b. object (writes (parts b))) (object_of reads made) (λ b. fit (parts b)) (suc n)
  object_reads parts whole apart = record {
    again = λ b h. object_made (parts b) h ∙ ap Ok (whole b);
    only = λ d b e.
        let r = from_object d b e in
        r.1.0 ∙ ap (λ a. object (writes a)) (sym (apart r.0) ∙ ap parts r.1.1);
    low = λ b h. omega (arith, law.low (parts b) h);
    exact = λ b. law.exact (parts b);
  }

-- ---- lists and maps of what fits by itself

always_there : {A : Type 0} (o : Option A) → IsTrue (all_there (λ _. true) o)
always_there None = refl
always_there (Some a) = refl

each_always : {A : Type 0} (xs : List A) → IsTrue (list_all (λ _. true) xs)
each_always [] = refl
each_always (x ∷ xs) = each_always xs

module _ {A : Type 0} {write : A → Data} {read : Data → Reading A} {n : ℕ} (law : Reads write read (λ _. true) n) where
  pub or_null : (path : List ℕ) → read null ≡ Err path → Reads (optional_data write) (optional_of read) (λ _. true) n
  or_null path refused = fitting (optional_reads law path refused) (λ _. true) (λ o h. always_there o)

  pub lists : Reads (list_data write) (list_of read) (λ _. true) (suc n)
  lists = fitting (list_reads law) (λ _. true) (λ xs h. each_always xs)

  pub maps : Reads (map_data write) (map_of read) (λ _. true) (suc n)
  maps = fitting (map_reads law) (λ _. true) (λ ps h. each_always ps)
