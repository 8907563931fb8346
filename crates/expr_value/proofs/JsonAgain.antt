-- The text of a value's JSON is read back as that value.
use Rattle.std.proofs.Common.{◌≡◌, ℕ, zero, suc, ◌*◌, ◌^◌, ◌<◌, ◌≤◌, max, inl, inr, ℤ, pos, negsuc, Bool, true, false, IsTrue, ◌&&◌, nat_le, Option, Some, option_map, option_and_then, Ok, List, [], ◌∷◌, ◌++◌, length, map, replicate, refl, sym, ap, subst, ◌∙◌, append-nil, append_assoc, arith, Greater, Less, nat_cmp}
use Rattle.std.proofs.lemmas.Bool.{cond-true}
use Rattle.std.proofs.lemmas.Bool.Decides.{nat_tests}
use Rattle.std.proofs.lemmas.Cmp.{nat_list_cmp_total}
use Rattle.std.specs.Cmp.Lexicographic.{slice_cmp}
use Rattle.std.specs.List.{AllByRecursion}
use Rattle.std.specs.List.Sorted.{IsStrictlySortedBy}
use Rattle.std.specs.Ordering.{ordering_reverse}
use Rattle.json.proofs.Printed.Decimals.{IsNumber-signed_decimal}
use Rattle.json.proofs.Printed.Tokens.{tokens-print_spaced}
use Rattle.json.proofs.Printed.Trees.{value-json_tokens, ArePrintable-json_tokens}
use Rattle.json.specs.Json as json
use Rattle.json.specs.Layout.{Last, nothing, bracket, name, value as after_value, is_value, gap, depth_at, after, step, pretty_from, pretty}
use Rattle.json.specs.Lex.{tokens}
use Rattle.json.specs.Print.{IsNumber, begins, ends, separator, token_text, ArePrintable}
use Rattle.json.specs.Spaced.{IsGap, AreGaps, print_spaced}
use Rattle.json.specs.Token.{Token, begin_object, end_object, begin_array, end_array, key, string, number, boolean, null as null_token, bad}
use Rattle.json.specs.Tree as tree
use Rattle.json.specs.Tree.{json_tokens, HasNumbers, ItemsHaveNumbers, MembersHaveNumbers}
use Rattle.serde_json.proofs.Numbers.{number_of-decimal, number_of-negative}
use Rattle.serde_json.specs.Data as store
use Rattle.serde_json.specs.Data.{Data, put}
use Rattle.serde_json.specs.Find.{of_integer}
use Rattle.serde_json.specs.Read.{number_of, of_json, of_items, of_members, read}
use Rattle.serde_json.specs.Written.{number_text, outline, items_outline, members_outline}
use Rattle.expr_reader.specs.Expr.{Expr, call, more, none}
use Rattle.expr_reader.specs.declared.tree.Function.TheVariants.{FromJson, ToJson}
use Rattle.expr_value.proofs.OrderedValues.{value_is_ordered}
use Rattle.expr_value.specs.Context.{Contexts}
use Rattle.expr_value.specs.Evaluate.{Answer, ended, begun, call_value, all_values, value}
use Rattle.expr_value.specs.FunctionLaws.{IsPrintable}
use Rattle.expr_value.specs.Functions.{pretty_text, from_json, value_read, whole_value}
use Rattle.expr_value.specs.Limit.{most_bytes}
use Rattle.expr_value.specs.Ordered.{AreOrdered, keys, HasOrderedKeys, ItemsHaveOrderedKeys, MembersHaveOrderedKeys}
use Rattle.expr_value.specs.declared.status.Status.{Status}
use Rattle.flow_model.proofs.Conversions.{value_again}
use Rattle.flow_model.specs.Json.{is_in_range, items_in_range, members_in_range, json_of, json_items, json_members}
use Rattle.flow_model.specs.Plain.{Plain, null, truth, whole, text, list, map as map_value, Items, no_items, item, Members, no_members, member}
use Rattle.flow_model.specs.Rules.{is_whole}

-- ---- the tokens of a text on lines

-- Each token with what stands before it.
abbrev spaced : Last × ℕ → List Token → List (List ℕ × Token)
spaced s [] = []
spaced s (t ∷ ts) = (gap s.0 (begins t) (depth_at s.1 t), t) ∷ spaced (step s t) ts

spaced_tokens : (s : Last × ℕ) (ts : List Token) → map (λ p. p.1) (spaced s ts) ≡ ts
spaced_tokens s [] = refl
spaced_tokens s (t ∷ ts) = ap (λ (us : List Token). t ∷ us) (spaced_tokens (step s t) ts)

after_ends : (t : Token) (d : ℕ) → is_value (after t d).0 ≡ ends t
after_ends begin_object d = refl
after_ends end_object d = refl
after_ends begin_array d = refl
after_ends end_array d = refl
after_ends (key s) d = refl
after_ends (string s) d = refl
after_ends (number s) d = refl
after_ends (boolean b) d = refl
after_ends null_token d = refl
after_ends bad d = refl

pretty_spaced : (s : Last × ℕ) (ts : List Token) → pretty_from s ts ≡ print_spaced (is_value s.0) (spaced s ts)
unfolding pretty_from print_spaced
pretty_spaced s [] = refl
pretty_spaced s (t ∷ ts) =
    let space = gap s.0 (begins t) (depth_at s.1 t) in
    let rest = pretty_from (step s t) ts in
    append_assoc (separator (is_value s.0) t) (space ++ token_text t) rest
    ∙ ap (λ (w : List ℕ). separator (is_value s.0) t ++ w) (append_assoc space (token_text t) rest)
    ∙ ap (λ (w : List ℕ). separator (is_value s.0) t ++ (space ++ (token_text t ++ w)))
    (pretty_spaced (step s t) ts ∙ ap (λ (b : Bool). print_spaced b (spaced (step s t) ts)) (after_ends t (depth_at s.1 t)))

spaces_gap : (n : ℕ) → IsGap (replicate n 32)
spaces_gap zero = tt
spaces_gap (suc n) = (inl refl, spaces_gap n)

gap_is : (last : Last) (opens : Bool) (d : ℕ) → IsGap (gap last opens d)
gap_is nothing opens d = tt
gap_is bracket true d = (inr refl, spaces_gap (2 * d))
gap_is bracket false d = tt
gap_is name opens d = (inl refl, tt)
gap_is after_value opens d = (inr refl, spaces_gap (2 * d))

gaps_are : (s : Last × ℕ) (ts : List Token) → AreGaps (spaced s ts)
gaps_are s [] = tt
gaps_are s (t ∷ ts) = (gap_is s.0 (begins t) (depth_at s.1 t), gaps_are (step s t) ts)

tokens_again : (ts : List Token) → ArePrintable ts → tokens (pretty ts) ≡ ts
tokens_again ts h =
    let s : Last × ℕ = (nothing, 0) in
    ap tokens (pretty_spaced s ts)
    ∙ tokens-print_spaced (spaced s ts) (gaps_are s ts) (subst ArePrintable (sym (spaced_tokens s ts)) h)
    ∙ spaced_tokens s ts

-- ---- the numbers of a value in range

both : (a b : Bool) → IsTrue (a && b) → IsTrue a × IsTrue b
both true b h = (refl, h)
both false b h = absurd (cc)

number_is : (z : ℤ) → IsTrue (is_whole z) → IsNumber (number_text (of_integer z))
number_is (pos n) h = let small : n < 2 ^ 62 = grind (arith, nat_tests) in IsNumber-signed_decimal (pos n) (omega arith)
number_is (negsuc n) h = let small : n < 2 ^ 62 = grind (arith, nat_tests) in IsNumber-signed_decimal (negsuc n) (omega arith)

number_again : (z : ℤ) → IsTrue (is_whole z) → number_of (number_text (of_integer z)) ≡ Some (of_integer z)
number_again (pos n) h = let small : n < 2 ^ 64 = grind (arith, nat_tests) in number_of-decimal n small
number_again (negsuc n) h = let small : n < 2 ^ 63 = grind (arith, nat_tests) in number_of-negative n small

mutual
  has_numbers : (v : Plain) → IsTrue (is_in_range v) → HasNumbers (outline (json_of v))
  has_numbers null h = tt
  has_numbers (truth b) h = tt
  has_numbers (whole z) h = number_is z h
  has_numbers (text bytes) h = tt
  has_numbers (list vs) h = items_have_numbers vs h
  has_numbers (map_value ms) h = members_have_numbers ms h

  items_have_numbers : (vs : Items) → IsTrue (items_in_range vs) → ItemsHaveNumbers (items_outline (json_items vs))
  items_have_numbers no_items h = tt
  items_have_numbers (item v vs) h = let hs = both (is_in_range v) (items_in_range vs) h in (has_numbers v hs.0, items_have_numbers vs hs.1)

  members_have_numbers : (ms : Members) → IsTrue (members_in_range ms) → MembersHaveNumbers (members_outline (json_members ms))
  members_have_numbers no_members h = tt
  members_have_numbers (member k v ms) h = let hs = both (is_in_range v) (members_in_range ms) h in (has_numbers v hs.0, members_have_numbers ms hs.1)

-- ---- how deep it nests

mutual
  outline_depth : (d : Data) → tree.depth (outline d) ≡ store.depth d
  outline_depth store.null = refl
  outline_depth (store.boolean b) = refl
  outline_depth (store.number n) = refl
  outline_depth (store.string s) = refl
  outline_depth (store.array ds) = ap suc (items_outline_depth ds)
  outline_depth (store.object ms) = ap suc (members_outline_depth ms)

  items_outline_depth : (ds : store.Items) → tree.items_depth (items_outline ds) ≡ store.items_depth ds
  items_outline_depth store.no_items = refl
  items_outline_depth (store.item d ds) = λ i. max (outline_depth d i) (items_outline_depth ds i)

  members_outline_depth : (ms : store.Members) → tree.members_depth (members_outline ms) ≡ store.members_depth ms
  members_outline_depth store.no_members = refl
  members_outline_depth (store.member k d ms) = λ i. max (outline_depth d i) (members_outline_depth ms i)

-- ---- members one after another

abbrev data_keys : store.Members → List (List ℕ)
data_keys store.no_members = []
data_keys (store.member k d ms) = k ∷ data_keys ms

abbrev joined : store.Members → store.Members → store.Members
joined store.no_members ms = ms
joined (store.member k d ds) ms = store.member k d (joined ds ms)

joined-none : (ds : store.Members) → ds ≡ joined ds store.no_members
joined-none store.no_members = refl
joined-none (store.member k d ds) = ap (store.member k d) (joined-none ds)

joined-one : (ds : store.Members) (k : List ℕ) (d : Data) (ms : store.Members) → joined (joined ds (store.member k d store.no_members)) ms ≡ joined ds (store.member k d ms)
joined-one store.no_members k d ms = refl
joined-one (store.member l e ds) k d ms = ap (store.member l e) (joined-one ds k d ms)

keys-joined : (ds : store.Members) (k : List ℕ) (d : Data) (left : List (List ℕ)) → data_keys ds ++ k ∷ left ≡ data_keys (joined ds (store.member k d store.no_members)) ++ left
keys-joined store.no_members k d left = refl
keys-joined (store.member l e ds) k d left = ap (λ (ks : List (List ℕ)). l ∷ ks) (keys-joined ds k d left)

below_middle : (l : List ℕ) (ds : store.Members) (k : List ℕ) (left : List (List ℕ)) → AllByRecursion (λ y. slice_cmp nat_cmp l y ≡ Less) (data_keys ds ++ k ∷ left) → slice_cmp nat_cmp l k ≡ Less
below_middle l store.no_members k left h = h.0
below_middle l (store.member m d ds) k left h = below_middle l ds k left h.1

-- A key that is above those before it goes last.
put_last : (ds : store.Members) (k : List ℕ) (d : Data) (left : List (List ℕ)) → IsStrictlySortedBy (slice_cmp nat_cmp) (data_keys ds ++ k ∷ left) → put k d ds ≡ joined ds (store.member k d store.no_members)
unfolding IsStrictlySortedBy
put_last store.no_members k d left h = refl
put_last (store.member l e ds) k d left h =
    let above : slice_cmp nat_cmp k l ≡ Greater = nat_list_cmp_total.antisymm k l ∙ ap ordering_reverse (below_middle l ds k left h.0) in
    rw above (ap (store.member l e) (put_last ds k d left h.1))

-- ---- the value of the JSON

mutual
  json_again : (v : Plain) → IsTrue (is_in_range v) → HasOrderedKeys v → of_json (outline (json_of v)) ≡ Some (json_of v)
  json_again null h o = refl
  json_again (truth b) h o = refl
  json_again (whole z) h o = ap (option_map store.number) (number_again z h)
  json_again (text bytes) h o = refl
  json_again (list vs) h o = ap (option_map store.array) (items_again vs h o)
  json_again (map_value ms) h o = ap (option_map store.object) (members_again ms store.no_members h o.0 o.1)

  items_again : (vs : Items) → IsTrue (items_in_range vs) → ItemsHaveOrderedKeys vs → of_items (items_outline (json_items vs)) ≡ Some (json_items vs)
  items_again no_items h o = refl
  items_again (item v vs) h o =
      let hs = both (is_in_range v) (items_in_range vs) h in
      ap (option_and_then (λ (d : Data). option_map (store.item d) (of_items (items_outline (json_items vs))))) (json_again v hs.0 o.0)
      ∙ ap (option_map (store.item (json_of v))) (items_again vs hs.1 o.1)

  members_again : (ms : Members) (done : store.Members) → IsTrue (members_in_range ms) → IsStrictlySortedBy (slice_cmp nat_cmp) (data_keys done ++ keys ms) → MembersHaveOrderedKeys ms
      → of_members (members_outline (json_members ms)) done ≡ Some (joined done (json_members ms))
  members_again no_members done h sorted o = ap Some (joined-none done)
  members_again (member k v ms) done h sorted o =
      let hs = both (is_in_range v) (members_in_range ms) h in
      let more = joined done (store.member k (json_of v) store.no_members) in
      let left : IsStrictlySortedBy (slice_cmp nat_cmp) (data_keys more ++ keys ms) = subst (IsStrictlySortedBy (slice_cmp nat_cmp)) (keys-joined done k (json_of v) (keys ms)) sorted in
      ap (option_and_then (λ (d : Data). of_members (members_outline (json_members ms)) (put k d done))) (json_again v hs.0 o.0)
      ∙ ap (of_members (members_outline (json_members ms))) (put_last done k (json_of v) (keys ms) sorted)
      ∙ members_again ms more hs.1 left o.1
      ∙ ap Some (joined-one done k (json_of v) (json_members ms))

abbrev whole_text : Option (json.Json × List Token) → Option Data
whole_text o = option_and_then of_json (option_and_then (λ p. json.if_last p.0 p.1) o)

read_again : (v : Plain) → HasOrderedKeys v → IsPrintable v → read (pretty_text (json_of v)) ≡ Some (json_of v)
read_again v ordered h =
    let j = outline (json_of v) in
    let shallow : tree.depth j ≤ 127 = subst (λ (n : ℕ). n ≤ 127) (sym (outline_depth (json_of v))) h.shallow in
    ap (λ (ts : List Token). whole_text (json.value 127 ts)) (tokens_again (json_tokens j) (ArePrintable-json_tokens j (has_numbers v h.in_range)) ∙ sym (append-nil (json_tokens j)))
    ∙ ap whole_text (value-json_tokens j 127 [] shallow)
    ∙ json_again v h.in_range ordered

text_again : (v : Plain) → HasOrderedKeys v → IsPrintable v → from_json (text (pretty_text (json_of v))) ≡ Ok v
text_again v ordered h = ap value_read (read_again v ordered h) ∙ ap whole_value (value_again v h.in_range)

-- fromJSON(toJSON(..)) of an answer.
abbrev there_and_back : Status → Answer → Answer
there_and_back s a = ended (begun (call_value FromJson s (all_values (ended (begun (call_value ToJson s (all_values (a ∷ [])))) ∷ []))))

pub from_json_of_to_json : (c : Contexts) (s : Status) (e : Expr) (v : Plain) → AreOrdered c → value c s e ≡ Ok v → IsPrintable v
    → value c s (call FromJson (more (call ToJson (more e none)) none)) ≡ Ok v
from_json_of_to_json c s e v ordered is h =
    let fits : nat_le (length (pretty_text (json_of v))) most_bytes ≡ true = let short = h.short in grind (arith, nat_tests) in
    ap (there_and_back s) is
    ∙ ap (λ (a : Answer). ended (begun (call_value FromJson s (all_values (ended (begun a) ∷ []))))) (cond-true (nat_le (length (pretty_text (json_of v))) most_bytes) _ _ fits)
    ∙ ap (λ (a : Answer). ended (begun a)) (text_again v (value_is_ordered c s e v ordered is) h)
