-- The items of a file of pairs, and what stands of them.
use Rattle.std.proofs.Common.{◌≡◌, ◌↔◌, ◌⊎◌, inl, inr, ⊎_elim, ℕ, zero, Bool, true, false, cond, Option, Some, None, Ok, Err, List, [], ◌∷◌, ◌++◌, Ordering, Less, Equal, Greater, nat_cmp, is_eq, refl, sym, ap, subst, ◌∙◌, arith}
use Rattle.std.proofs.lemmas.Slice.Eq.{bytes_eq-Decides}
use Rattle.std.specs.Cmp.Lexicographic.{slice_cmp}
use Rattle.std.specs.List.{Contains}
use Rattle.std.specs.List.Sorted.{IsStrictlySortedBy}
use Rattle.std.specs.Str.{bytes_eq, is_utf8}
use Rattle.flow_model.specs.Mapping.{value_at, with_pair, Ascends}
use Rattle.flow_model.proofs.Lookups.{one_name, name_itself, turned, found_same, found_other, none_below, same_below, below_more, Ascends-with_pair}
use Rattle.flow_commands.specs.Laws.{IsLast, ArePairs, OneGiving}
use Rattle.flow_commands.specs.PairFiles.{Pair, Reading, pairs_of, with_pairs, kept, are_within, limited, then_with, pairs_in}
use Rattle.flow_commands.specs.declared.pair_file.PairFile.{PairFile}
use Rattle.flow_model.specs.Lines.{lines_of}
use Rattle.flow_commands.specs.declared.output_fault.OutputFault.TheVariants.{NotUtf8, TooMany}
use Rattle.flow_commands.proofs.Members.{later, first_or_later}
use Rattle.flow_commands.proofs.Items.{given_read, read_given}

-- ---- the last item of a name

abbrev HasNone : List ℕ → List Pair → Type 0
HasNone name items = (value : List ℕ) → Contains items (name, value) → ⊥

abbrev item : List ℕ → List ℕ → Pair
item name value = (name, value)

-- items without the name leave what stands
stays : (name : List ℕ) (map items : List Pair) → HasNone name items → value_at name (with_pairs map items) ≡ value_at name map
stays name map [] none = refl
stays name map (p ∷ items) none =
    stays name (with_pair p.0 p.1 map) items (λ value there. none value (later p (item name value) items there))
    ∙ found_other name p.0 p.1 map (λ same. none p.1 (zero, omega arith, ap (λ (n : List ℕ). item n p.1) (sym same)))

-- the last item of the name stands
set_last : (name value : List ℕ) (before after map : List Pair) → HasNone name after
    → value_at name (with_pairs map (before ++ (name, value) ∷ after)) ≡ Some value
set_last name value [] after map none = stays name (with_pair name value map) after none ∙ found_same name value map
set_last name value (p ∷ before) after map none = set_last name value before after (with_pair p.0 p.1 map) none

last_found : (items : List Pair) (name value : List ℕ) → IsLast items name value → value_at name (with_pairs [] items) ≡ Some value
last_found items name value h =
    ap (λ (is : List Pair). value_at name (with_pairs [] is)) h.whole ∙ set_last name value h.before h.after [] h.last

-- a name has a last item or none
last_or_none : (name : List ℕ) (items : List Pair) → ((value : List ℕ) × IsLast items name value) ⊎ HasNone name items
last_or_none name [] = inr (λ value there. omega (arith, there.1))
last_or_none name (p ∷ items) = by (last_or_none name items)
  where
    other : (p.0 ≡ name → ⊥) → HasNone name items → HasNone name (p ∷ items)
    other differs none value there =
        ⊎_elim (λ same. differs (ap (λ (q : Pair). q.0) same)) (none value) (first_or_later p (item name value) items there)

    by_test : (t : Bool) → bytes_eq p.0 name ≡ t → HasNone name items
        → ((value : List ℕ) × IsLast (p ∷ items) name value) ⊎ HasNone name (p ∷ items)
    by_test true is none = inl (
      p.1,
      record {
        before = [];
        after = items;
        whole = ap (λ (n : List ℕ). item n p.1 ∷ items) ((bytes_eq-Decides p.0 name).0 is);
        last = none;
      },
    )
    by_test false is none = inr (other (λ same. let there = (bytes_eq-Decides p.0 name).1 same in cc) none)

    by : ((value : List ℕ) × IsLast items name value) ⊎ HasNone name items → ((value : List ℕ) × IsLast (p ∷ items) name value) ⊎ HasNone name (p ∷ items)
    by (inl found) = inl (
      found.0,
      record {
        before = p ∷ found.1.before;
        after = found.1.after;
        whole = ap (λ (is : List Pair). p ∷ is) found.1.whole;
        last = found.1.last;
      },
    )
    by (inr none) = by_test (bytes_eq p.0 name) refl none

found_last : (items : List Pair) (name value : List ℕ) → value_at name (with_pairs [] items) ≡ Some value → IsLast items name value
found_last items name value h = by (last_or_none name items)
  where
    by : ((v : List ℕ) × IsLast items name v) ⊎ HasNone name items → IsLast items name value
    by (inl found) =
        let same : Some found.0 ≡ Some value = sym (last_found items name found.0 found.1) ∙ h in
        let value_is : found.0 ≡ value = cc in
        subst (IsLast items name) value_is found.1
    by (inr none) = let nothing : None ≡ Some value = sym (stays name [] items none) ∙ h in absurd (cc)

-- what stands in the end is of the last items
abbrev StandsOf : List Pair → List Pair → Type 0
StandsOf items found = (name value : List ℕ) → (value_at name found ≡ Some value) ↔ IsLast items name value

stand : (items : List Pair) → StandsOf items (with_pairs [] items)
stand items name value = (found_last items name value, last_found items name value)

ordered_from : (items map : List Pair) → Ascends map → Ascends (with_pairs map items)
ordered_from [] map h = h
ordered_from (p ∷ items) map h = ordered_from items (with_pair p.0 p.1 map) (Ascends-with_pair p.0 p.1 map h)

ordered : (items : List Pair) → Ascends (with_pairs [] items)
unfolding IsStrictlySortedBy
ordered items = ordered_from items [] tt

-- ---- maps that give the same

here : (p : Pair) (ps : List Pair) → value_at p.0 (p ∷ ps) ≡ Some p.1
here p ps = rw (name_itself p.0) refl

same_pairs : (xs ys : List Pair) → Ascends xs → Ascends ys → ((name : List ℕ) → value_at name xs ≡ value_at name ys) → xs ≡ ys
unfolding IsStrictlySortedBy
same_pairs [] [] hx hy agree = refl
same_pairs [] (y ∷ ys) hx hy agree = let nothing : None ≡ Some y.1 = agree y.0 ∙ here y ys in absurd (cc)
same_pairs (x ∷ xs) [] hx hy agree = let nothing : None ≡ Some x.1 = sym (agree x.0) ∙ here x xs in absurd (cc)
same_pairs (x ∷ xs) (y ∷ ys) hx hy agree = go (slice_cmp nat_cmp x.0 y.0) refl (same_pairs xs ys hx.1 hy.1)
  where
    below : (p q : Pair) (ps : List Pair) → slice_cmp nat_cmp p.0 q.0 ≡ Less → Ascends (q ∷ ps) → value_at p.0 (q ∷ ps) ≡ None
    below p q ps less h = none_below p.0 (q ∷ ps) (less, below_more p.0 q.0 ps less h.0)

    later : x.0 ≡ y.0 → (name : List ℕ) → (o : Ordering) → slice_cmp nat_cmp name x.0 ≡ o → value_at name xs ≡ value_at name ys
    later one name Equal is =
        none_below name xs (same_below name x.0 xs is hx.0)
        ∙ sym (none_below name ys (same_below name y.0 ys (ap (slice_cmp nat_cmp name) (sym one) ∙ is) hy.0))
    later one name Less is =
        let there : slice_cmp nat_cmp name y.0 ≡ Less = ap (slice_cmp nat_cmp name) (sym one) ∙ is in
        ap (λ (o : Ordering). cond (is_eq o) (Some x.1) (value_at name xs)) (sym is) ∙ agree name
        ∙ ap (λ (o : Ordering). cond (is_eq o) (Some y.1) (value_at name ys)) there
    later one name Greater is =
        let there : slice_cmp nat_cmp name y.0 ≡ Greater = ap (slice_cmp nat_cmp name) (sym one) ∙ is in
        ap (λ (o : Ordering). cond (is_eq o) (Some x.1) (value_at name xs)) (sym is) ∙ agree name
        ∙ ap (λ (o : Ordering). cond (is_eq o) (Some y.1) (value_at name ys)) there

    go : (o : Ordering) → slice_cmp nat_cmp x.0 y.0 ≡ o → (((name : List ℕ) → value_at name xs ≡ value_at name ys) → xs ≡ ys) → x ∷ xs ≡ y ∷ ys
    go Less is more = let nothing : Some x.1 ≡ None = sym (here x xs) ∙ agree x.0 ∙ below x y ys is hy in absurd (cc)
    go Greater is more =
        let nothing : Some y.1 ≡ None = sym (here y ys) ∙ sym (agree y.0) ∙ below y x xs (turned x.0 y.0 is) hx in absurd (cc)
    go Equal is more =
        let one : x.0 ≡ y.0 = one_name x.0 y.0 is in
        let values : Some x.1 ≡ Some y.1 = sym (here x xs) ∙ agree x.0 ∙ ap (λ (n : List ℕ). value_at n (y ∷ ys)) one ∙ here y ys in
        let value : x.1 ≡ y.1 = cc in
        ap (λ (n : List ℕ). item n x.1 ∷ xs) one ∙ ap (λ (v : List ℕ). item y.0 v ∷ xs) value
        ∙ ap (λ (ps : List Pair). y ∷ ps) (more (λ name. later one name (slice_cmp nat_cmp name x.0) refl))

agreed : (items xs ys : List Pair) → StandsOf items xs → StandsOf items ys → (name : List ℕ) → value_at name xs ≡ value_at name ys
agreed items xs ys hx hy name = by (value_at name xs) (value_at name ys) refl refl
  where
    by : (o u : Option (List ℕ)) → value_at name xs ≡ o → value_at name ys ≡ u → o ≡ u
    by None None is there = refl
    by None (Some v) is there = let found = (hx name v).1 ((hy name v).0 there) in cc
    by (Some v) u is there = sym ((hy name v).1 ((hx name v).0 is)) ∙ there

-- ---- the file

limit_passed : (file : PairFile) (m found : List Pair) → limited file (Ok m) ≡ Ok found → (m ≡ found) × (are_within file m ≡ true)
limit_passed file m found h = by_test (are_within file m) refl h
  where
    by_test : (t : Bool) → are_within file m ≡ t → cond t (Ok m) (Err TooMany) ≡ Ok found → (m ≡ found) × (are_within file m ≡ true)
    by_test true is k = (cc, is)
    by_test false is k = cc

gives : (file : PairFile) (bytes : List ℕ) (found : List Pair) → pairs_in file bytes ≡ Ok found → ArePairs file bytes found
gives file bytes found h = by_test (is_utf8 bytes) refl h
  where
    by_read : is_utf8 bytes ≡ true → (r : Reading) → pairs_of file (lines_of bytes) ≡ r
        → limited file (then_with file [] r) ≡ Ok found → ArePairs file bytes found
    by_read text (Err fault) is k = cc
    by_read text (Ok items) is k =
        let passed = limit_passed file (with_pairs [] (kept file items)) found k in
        record {
          text = text;
          items = items;
          given = read_given file (lines_of bytes) items is;
          ordered = subst (λ (m : List Pair). Ascends m) passed.0 (ordered (kept file items));
          stand = subst (StandsOf (kept file items)) passed.0 (stand (kept file items));
          within = subst (λ (m : List Pair). are_within file m ≡ true) passed.0 passed.1;
        }

    by_test : (t : Bool) → is_utf8 bytes ≡ t
        → cond t (limited file (then_with file [] (pairs_of file (lines_of bytes)))) (Err NotUtf8) ≡ Ok found → ArePairs file bytes found
    by_test true is k = by_read is (pairs_of file (lines_of bytes)) refl k
    by_test false is k = cc

given : (file : PairFile) (bytes : List ℕ) (found : List Pair) → ArePairs file bytes found → pairs_in file bytes ≡ Ok found
given file bytes found h =
    let items = kept file h.items in
    let same : with_pairs [] items ≡ found =
    same_pairs (with_pairs [] items) found (ordered items) h.ordered (agreed items (with_pairs [] items) found (stand items) h.stand) in
    ap (λ (t : Bool). cond t (limited file (then_with file [] (pairs_of file (lines_of bytes)))) (Err NotUtf8)) h.text
    ∙ ap (λ (r : Reading). limited file (then_with file [] r)) (given_read file (lines_of bytes) h.items h.given)
    ∙ ap (λ (m : List Pair). limited file (Ok m)) same
    ∙ ap (λ (t : Bool). cond t (Ok found) (Err TooMany)) h.within

pub one_giving : OneGiving
one_giving file bytes found = (gives file bytes found, given file bytes found)
