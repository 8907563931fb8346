-- Each map in the value of an expression has its keys in order.
use Rattle.std.proofs.Common.{◌≡◌, ℕ, zero, suc, ℤ, pos, negsuc, Bool, nat_le, Option, Some, None, option_map, option_and_then, Result, Ok, Err, List, [], ◌∷◌, ◌++◌, Ordering, Less, Equal, Greater, nat_cmp, is_eq, true, false, length, map as map_list, refl, sym, ap, subst, ◌∙◌}
use Rattle.std.specs.Prelude.{codes}
use Rattle.std.proofs.lemmas.Cmp.{nat_list_cmp_total}
use Rattle.std.specs.Cmp.Lexicographic.{slice_cmp}
use Rattle.std.specs.List.{AllByRecursion, slice_get, filter_map, cons_option, flat_map}
use Rattle.std.specs.List.Sorted.{IsStrictlySortedBy}
use Rattle.std.specs.Option.{option_or}
use Rattle.std.specs.Ordering.{match_ordering, ordering_reverse}
use Rattle.json.specs.Json as json
use Rattle.json.specs.Lex.{tokens}
use Rattle.serde_json.specs.Data as store
use Rattle.serde_json.specs.Data.{Data, Num, put}
use Rattle.serde_json.specs.Read.{number_of, of_json, of_items, of_members, read, max_depth}
use Rattle.expr_reader.specs.Expr as expr
use Rattle.expr_reader.specs.Expr.{Constant, Expr, Exprs, literal, context, call, group, property, index, wildcard, opposite, relation, equality, both, either, none, more}
use Rattle.expr_reader.specs.Names.{context_name}
use Rattle.expr_reader.specs.declared.tree.Function.{Function}
use Rattle.expr_reader.specs.declared.tree.Function.TheVariants.{Contains, StartsWith, EndsWith, Format, Join, ToJson, FromJson, Success, Failure, Cancelled, Always}
use Rattle.expr_value.proofs.Runs.{if_holds}
use Rattle.expr_value.specs.Context.{Contexts, or_empty}
use Rattle.expr_value.specs.Dereference.{Found, one, filtered, outside, first_at, is_same, is_alike, property_in, property_of, item_at, item_found, index_of, contents, or_null, property_found, one_or_null, with_found, index_each, filtered_of, index_found, all_found}
use Rattle.expr_value.specs.Evaluate.{Answer, Chain, constant_value, ended, begun, then_value, all_values, call_value, is_truthy, conjunction, disjunction, truth_answer, opposite_value, relation_value, equality_value, of_two, property_chain, index_chain, all_chain, chain, answers, value}
use Rattle.expr_value.specs.Convert.{text_of, number_of as number_of_kind}
use Rattle.expr_value.specs.Format.{formatted}
use Rattle.expr_value.specs.Functions.{formatted_value, joined, pretty_text, text_of_value, called, with_one, with_two, format_of, join_of, status_of, to_json, from_json, whole_value, value_read}
use Rattle.expr_value.specs.PlainKind.{PlainKind, kind_of, items, values}
use Rattle.expr_value.specs.Limit.{limited, most_bytes}
use Rattle.expr_value.specs.Ordered.{keys, HasOrderedKeys, ItemsHaveOrderedKeys, MembersHaveOrderedKeys, AreOrdered}
use Rattle.expr_value.specs.declared.status.Status.{Status}
use Rattle.flow_model.specs.Json.{json_of, whole_of, value_of, value_items, value_members}
use Rattle.flow_model.specs.Mapping.{value_at}
use Rattle.flow_model.specs.Plain.{Plain, null, truth, whole, text, list, map, Items, no_items, item, Members, no_members, member, items_of}
use Rattle.flow_model.specs.declared.reply.ValueFault.{ValueFault}
use Rattle.flow_model.specs.declared.reply.ValueFault.TheVariants.{TooLarge}

-- ---- what an evaluation hands on

abbrev OrderedOption : Option Plain → Type 0
OrderedOption None = Unit {0}
OrderedOption (Some v) = HasOrderedKeys v

abbrev OrderedList : List Plain → Type 0
OrderedList [] = Unit {0}
OrderedList (v ∷ vs) = HasOrderedKeys v × OrderedList vs

abbrev OrderedFound : Found → Type 0
OrderedFound (one v) = HasOrderedKeys v
OrderedFound (filtered vs) = OrderedList vs

abbrev OrderedChain : Chain → Type 0
OrderedChain (Ok found) = OrderedFound found
OrderedChain (Err fault) = Unit {0}

abbrev OrderedAnswer : Answer → Type 0
OrderedAnswer (Ok v) = HasOrderedKeys v
OrderedAnswer (Err fault) = Unit {0}

abbrev OrderedAnswers : List Answer → Type 0
OrderedAnswers [] = Unit {0}
OrderedAnswers (a ∷ rest) = OrderedAnswer a × OrderedAnswers rest

abbrev OrderedPlace : Result (Option Plain) ValueFault → Type 0
OrderedPlace (Ok v) = OrderedOption v
OrderedPlace (Err fault) = Unit {0}

abbrev OrderedPlaces : Result (List Plain) ValueFault → Type 0
OrderedPlaces (Ok vs) = OrderedList vs
OrderedPlaces (Err fault) = Unit {0}

-- ---- contexts and constants

at_key : (key : List ℕ) (c : Contexts) → AreOrdered c → OrderedOption (value_at key c)
at_key key [] h = tt
at_key key (p ∷ c) h = if_holds OrderedOption (is_eq (slice_cmp nat_cmp key p.0)) (Some p.1) (value_at key c) (λ _. h.0) (λ _. at_key key c h.1)

or_empty_ordered : (o : Option Plain) → OrderedOption o → HasOrderedKeys (or_empty o)
unfolding IsStrictlySortedBy
or_empty_ordered None h = (tt, tt)
or_empty_ordered (Some v) h = h

constant_ordered : (l : Constant) → HasOrderedKeys (constant_value l)
constant_ordered expr.null = tt
constant_ordered (expr.truth b) = tt
constant_ordered (expr.whole z) = tt
constant_ordered (expr.quoted bytes) = tt

-- ---- dereferences

first_at_ordered : (test : List ℕ → Bool) (ms : Members) → MembersHaveOrderedKeys ms → OrderedOption (first_at test ms)
first_at_ordered test no_members h = tt
first_at_ordered test (member key v ms) h = if_holds OrderedOption (test key) (Some v) (first_at test ms) (λ _. h.0) (λ _. first_at_ordered test ms h.1)

either_ordered : (a b : Option Plain) → OrderedOption a → OrderedOption b → OrderedOption (option_or a b)
either_ordered None b h k = k
either_ordered (Some v) b h k = h

property_in_ordered : (name : List ℕ) (ms : Members) → MembersHaveOrderedKeys ms → OrderedOption (property_in name ms)
property_in_ordered name ms h = either_ordered (first_at (is_same name) ms) (first_at (is_alike name) ms) (first_at_ordered (is_same name) ms h) (first_at_ordered (is_alike name) ms h)

property_ordered : (name : List ℕ) (v : Plain) → HasOrderedKeys v → OrderedOption (property_of name v)
property_ordered name null h = tt
property_ordered name (truth b) h = tt
property_ordered name (whole z) h = tt
property_ordered name (text bytes) h = tt
property_ordered name (list vs) h = tt
property_ordered name (map ms) h = property_in_ordered name ms h.1

items_ordered : (vs : Items) → ItemsHaveOrderedKeys vs → OrderedList (items vs)
items_ordered no_items h = tt
items_ordered (item v vs) h = (h.0, items_ordered vs h.1)

values_ordered : (ms : Members) → MembersHaveOrderedKeys ms → OrderedList (values ms)
values_ordered no_members h = tt
values_ordered (member key v ms) h = (h.0, values_ordered ms h.1)

get_ordered : (vs : List Plain) (n : ℕ) → OrderedList vs → OrderedOption (slice_get vs n)
get_ordered [] n h = tt
get_ordered (v ∷ vs) zero h = h.0
get_ordered (v ∷ vs) (suc n) h = get_ordered vs n h.1

item_at_ordered : (number : Option ℤ) (vs : List Plain) → OrderedList vs → OrderedOption (item_at number vs)
item_at_ordered None vs h = tt
item_at_ordered (Some (pos n)) vs h = get_ordered vs n h
item_at_ordered (Some (negsuc n)) vs h = tt

item_found_ordered : (number : Result (Option ℤ) ValueFault) (vs : List Plain) → OrderedList vs → OrderedPlace (item_found number vs)
item_found_ordered (Ok number) vs h = item_at_ordered number vs h
item_found_ordered (Err fault) vs h = tt

index_ordered : (kind : PlainKind) (v : Plain) → HasOrderedKeys v → OrderedPlace (index_of kind v)
index_ordered kind null h = tt
index_ordered kind (truth b) h = tt
index_ordered kind (whole z) h = tt
index_ordered kind (text bytes) h = tt
index_ordered kind (list vs) h = item_found_ordered (number_of_kind kind) (items vs) (items_ordered vs h)
index_ordered kind (map ms) h = property_in_ordered (text_of kind) ms h.1

contents_ordered : (v : Plain) → HasOrderedKeys v → OrderedList (contents v)
contents_ordered null h = tt
contents_ordered (truth b) h = tt
contents_ordered (whole z) h = tt
contents_ordered (text bytes) h = tt
contents_ordered (list vs) h = items_ordered vs h
contents_ordered (map ms) h = values_ordered ms h.1

or_null_ordered : (o : Option Plain) → OrderedOption o → HasOrderedKeys (or_null o)
or_null_ordered None h = tt
or_null_ordered (Some v) h = h

cons_ordered : (o : Option Plain) (vs : List Plain) → OrderedOption o → OrderedList vs → OrderedList (cons_option o vs)
cons_ordered None vs h k = k
cons_ordered (Some v) vs h k = (h, k)

properties_ordered : (name : List ℕ) (vs : List Plain) → OrderedList vs → OrderedList (filter_map (property_of name) vs)
properties_ordered name [] h = tt
properties_ordered name (v ∷ vs) h = cons_ordered (property_of name v) (filter_map (property_of name) vs) (property_ordered name v h.0) (properties_ordered name vs h.1)

property_found_ordered : (name : List ℕ) (found : Found) → OrderedFound found → OrderedFound (property_found name found)
property_found_ordered name (one v) h = or_null_ordered (property_of name v) (property_ordered name v h)
property_found_ordered name (filtered vs) h = properties_ordered name vs h

one_or_null_ordered : (place : Result (Option Plain) ValueFault) → OrderedPlace place → OrderedChain (one_or_null place)
one_or_null_ordered (Ok o) h = or_null_ordered o h
one_or_null_ordered (Err fault) h = tt

with_found_ordered : (place : Result (Option Plain) ValueFault) (places : Result (List Plain) ValueFault) → OrderedPlace place → OrderedPlaces places → OrderedPlaces (with_found place places)
with_found_ordered (Ok o) (Ok vs) h k = cons_ordered o vs h k
with_found_ordered (Ok o) (Err fault) h k = tt
with_found_ordered (Err fault) places h k = tt

index_each_ordered : (kind : PlainKind) (vs : List Plain) → OrderedList vs → OrderedPlaces (index_each kind vs)
index_each_ordered kind [] h = tt
index_each_ordered kind (v ∷ vs) h = with_found_ordered (index_of kind v) (index_each kind vs) (index_ordered kind v h.0) (index_each_ordered kind vs h.1)

filtered_of_ordered : (places : Result (List Plain) ValueFault) → OrderedPlaces places → OrderedChain (filtered_of places)
filtered_of_ordered (Ok vs) h = h
filtered_of_ordered (Err fault) h = tt

index_found_ordered : (kind : PlainKind) (found : Found) → OrderedFound found → OrderedChain (index_found kind found)
index_found_ordered kind (one v) h = one_or_null_ordered (index_of kind v) (index_ordered kind v h)
index_found_ordered kind (filtered vs) h = filtered_of_ordered (index_each kind vs) (index_each_ordered kind vs h)

append_ordered : (vs ws : List Plain) → OrderedList vs → OrderedList ws → OrderedList (vs ++ ws)
append_ordered [] ws h k = k
append_ordered (v ∷ vs) ws h k = (h.0, append_ordered vs ws h.1 k)

all_contents_ordered : (vs : List Plain) → OrderedList vs → OrderedList (flat_map contents vs)
all_contents_ordered [] h = tt
all_contents_ordered (v ∷ vs) h = append_ordered (contents v) (flat_map contents vs) (contents_ordered v h.0) (all_contents_ordered vs h.1)

all_found_ordered : (found : Found) → OrderedFound found → OrderedFound (all_found found)
all_found_ordered (one v) h = contents_ordered v h
all_found_ordered (filtered vs) h = all_contents_ordered vs h

listed_ordered : (vs : List Plain) → OrderedList vs → ItemsHaveOrderedKeys (items_of vs)
listed_ordered [] h = tt
listed_ordered (v ∷ vs) h = (h.0, listed_ordered vs h.1)

outside_ordered : (found : Found) → OrderedFound found → HasOrderedKeys (outside found)
outside_ordered (one v) h = h
outside_ordered (filtered vs) h = listed_ordered vs h

-- ---- what JSON reads as

abbrev data_keys : store.Members → List (List ℕ)
data_keys store.no_members = []
data_keys (store.member k d ms) = k ∷ data_keys ms

abbrev mutual
  OrderedData : Data → Type 0
  OrderedData store.null = Unit {0}
  OrderedData (store.boolean b) = Unit {0}
  OrderedData (store.number n) = Unit {0}
  OrderedData (store.string s) = Unit {0}
  OrderedData (store.array ds) = OrderedItems ds
  OrderedData (store.object ms) = IsStrictlySortedBy (slice_cmp nat_cmp) (data_keys ms) × OrderedParts ms

  OrderedItems : store.Items → Type 0
  OrderedItems store.no_items = Unit {0}
  OrderedItems (store.item d ds) = OrderedData d × OrderedItems ds

  OrderedParts : store.Members → Type 0
  OrderedParts store.no_members = Unit {0}
  OrderedParts (store.member k d ms) = OrderedData d × OrderedParts ms

parts_at : (o : Ordering) (k l : List ℕ) (d e : Data) (ms : store.Members) → OrderedData d → OrderedData e × OrderedParts ms → OrderedParts (put k d ms)
    → OrderedParts (match_ordering o (store.member k d (store.member l e ms)) (store.member l d ms) (store.member l e (put k d ms)))
parts_at Less k l d e ms h old rest = (h, old)
parts_at Equal k l d e ms h old rest = (h, old.1)
parts_at Greater k l d e ms h old rest = (old.0, rest)

put_parts : (k : List ℕ) (d : Data) (ms : store.Members) → OrderedData d → OrderedParts ms → OrderedParts (put k d ms)
put_parts k d store.no_members h old = (h, tt)
put_parts k d (store.member l e ms) h old = parts_at (slice_cmp nat_cmp k l) k l d e ms h old (put_parts k d ms h old.1)

-- A key is below all keys of the members.
abbrev Below : List ℕ → store.Members → Type 0
Below k ms = AllByRecursion (λ (y : List ℕ). slice_cmp nat_cmp k y ≡ Less) (data_keys ms)

below_at : (o : Ordering) (m k l : List ℕ) (d e : Data) (ms : store.Members) → slice_cmp nat_cmp m k ≡ Less → Below m (store.member l e ms) → Below m (put k d ms)
    → Below m (match_ordering o (store.member k d (store.member l e ms)) (store.member l d ms) (store.member l e (put k d ms)))
below_at Less m k l d e ms h old rest = (h, old)
below_at Equal m k l d e ms h old rest = old
below_at Greater m k l d e ms h old rest = (old.0, rest)

put_below : (m k : List ℕ) (d : Data) (ms : store.Members) → slice_cmp nat_cmp m k ≡ Less → Below m ms → Below m (put k d ms)
put_below m k d store.no_members h old = (h, tt)
put_below m k d (store.member l e ms) h old = below_at (slice_cmp nat_cmp k l) m k l d e ms h old (put_below m k d ms h old.1)

below_from : (k l : List ℕ) (ms : store.Members) → slice_cmp nat_cmp k l ≡ Less → Below l ms → Below k ms
below_from k l store.no_members h old = tt
below_from k l (store.member m e ms) h old = (nat_list_cmp_total.trans k l m h old.0, below_from k l ms h old.1)

abbrev SortedKeys : store.Members → Type 0
SortedKeys ms = IsStrictlySortedBy (slice_cmp nat_cmp) (data_keys ms)

sorted_at : (o : Ordering) (k l : List ℕ) (d e : Data) (ms : store.Members) → slice_cmp nat_cmp k l ≡ o → Below l ms → SortedKeys ms → SortedKeys (put k d ms)
    → SortedKeys (match_ordering o (store.member k d (store.member l e ms)) (store.member l d ms) (store.member l e (put k d ms)))
unfolding IsStrictlySortedBy
sorted_at Less k l d e ms is below old rest = ((is, below_from k l ms is below), (below, old))
sorted_at Equal k l d e ms is below old rest = (below, old)
sorted_at Greater k l d e ms is below old rest = (put_below l k d ms (nat_list_cmp_total.antisymm l k ∙ ap ordering_reverse is) below, rest)

put_sorted : (k : List ℕ) (d : Data) (ms : store.Members) → SortedKeys ms → SortedKeys (put k d ms)
unfolding IsStrictlySortedBy
put_sorted k d store.no_members old = (tt, tt)
put_sorted k d (store.member l e ms) old = sorted_at (slice_cmp nat_cmp k l) k l d e ms refl old.0 old.1 (put_sorted k d ms old.1)

abbrev DataOption : Option Data → Type 0
DataOption None = Unit {0}
DataOption (Some d) = OrderedData d

abbrev ItemsOption : Option store.Items → Type 0
ItemsOption None = Unit {0}
ItemsOption (Some ds) = OrderedItems ds

abbrev MembersOption : Option store.Members → Type 0
MembersOption None = Unit {0}
MembersOption (Some ms) = SortedKeys ms × OrderedParts ms

number_option : (o : Option Num) → DataOption (option_map store.number o)
number_option None = tt
number_option (Some n) = tt

array_option : (o : Option store.Items) → ItemsOption o → DataOption (option_map store.array o)
array_option None h = tt
array_option (Some ds) h = h

object_option : (o : Option store.Members) → MembersOption o → DataOption (option_map store.object o)
object_option None h = tt
object_option (Some ms) h = h

with_item : (d : Data) (o : Option store.Items) → OrderedData d → ItemsOption o → ItemsOption (option_map (store.item d) o)
with_item d None h k = tt
with_item d (Some ds) h k = (h, k)

item_option : (o : Option Data) (rest : Option store.Items) → DataOption o → ItemsOption rest → ItemsOption (option_and_then (λ (d : Data). option_map (store.item d) rest) o)
item_option None rest h k = tt
item_option (Some d) rest h k = with_item d rest h k

then_members : (o : Option Data) (next : Data → Option store.Members) → DataOption o → ((d : Data) → OrderedData d → MembersOption (next d)) → MembersOption (option_and_then next o)
then_members None next h k = tt
then_members (Some d) next h k = k d h

no_keys : SortedKeys store.no_members
unfolding IsStrictlySortedBy
no_keys = tt

mutual
  json_ordered : (j : json.Json) → DataOption (of_json j)
  json_ordered json.null = tt
  json_ordered (json.boolean b) = tt
  json_ordered (json.number s) = number_option (number_of s)
  json_ordered (json.string s) = tt
  json_ordered (json.array js) = array_option (of_items js) (json_items_ordered js)
  json_ordered (json.object ms) = object_option (of_members ms store.no_members) (json_members_ordered ms store.no_members (no_keys, tt))

  json_items_ordered : (js : json.Items) → ItemsOption (of_items js)
  json_items_ordered json.no_items = tt
  json_items_ordered (json.item j js) = item_option (of_json j) (of_items js) (json_ordered j) (json_items_ordered js)

  json_members_ordered : (ms : json.Members) (found : store.Members) → SortedKeys found × OrderedParts found → MembersOption (of_members ms found)
  json_members_ordered json.no_members found h = h
  json_members_ordered (json.member k j ms) found h =
      then_members (of_json j) (λ (d : Data). of_members ms (put k d found)) (json_ordered j) (λ d o. json_members_ordered ms (put k d found) (put_sorted k d found h.0, put_parts k d found o h.1))

-- ---- the value of JSON

abbrev ValueItems : Option Items → Type 0
ValueItems None = Unit {0}
ValueItems (Some vs) = ItemsHaveOrderedKeys vs

-- Members with these keys.
abbrev ValueMembers : List (List ℕ) → Option Members → Type 0
ValueMembers ks None = Unit {0}
ValueMembers ks (Some ms) = (keys ms ≡ ks) × MembersHaveOrderedKeys ms

whole_option : (o : Option ℤ) → OrderedOption (option_map whole o)
whole_option None = tt
whole_option (Some z) = tt

list_option : (o : Option Items) → ValueItems o → OrderedOption (option_map list o)
list_option None h = tt
list_option (Some vs) h = h

map_option : (ks : List (List ℕ)) (o : Option Members) → IsStrictlySortedBy (slice_cmp nat_cmp) ks → ValueMembers ks o → OrderedOption (option_map map o)
map_option ks None sorted h = tt
map_option ks (Some ms) sorted h = (subst (IsStrictlySortedBy (slice_cmp nat_cmp)) (sym h.0) sorted, h.1)

value_item : (v : Plain) (o : Option Items) → HasOrderedKeys v → ValueItems o → ValueItems (option_map (item v) o)
value_item v None h k = tt
value_item v (Some vs) h k = (h, k)

value_item_option : (o : Option Plain) (rest : Option Items) → OrderedOption o → ValueItems rest → ValueItems (option_and_then (λ (v : Plain). option_map (item v) rest) o)
value_item_option None rest h k = tt
value_item_option (Some v) rest h k = value_item v rest h k

value_member : (key : List ℕ) (ks : List (List ℕ)) (v : Plain) (o : Option Members) → HasOrderedKeys v → ValueMembers ks o → ValueMembers (key ∷ ks) (option_map (member key v) o)
value_member key ks v None h k = tt
value_member key ks v (Some ms) h k = (ap (λ (ls : List (List ℕ)). key ∷ ls) k.0, (h, k.1))

value_member_option : (key : List ℕ) (ks : List (List ℕ)) (o : Option Plain) (rest : Option Members) → OrderedOption o → ValueMembers ks rest → ValueMembers (key ∷ ks) (option_and_then (λ (v : Plain). option_map (member key v) rest) o)
value_member_option key ks None rest h k = tt
value_member_option key ks (Some v) rest h k = value_member key ks v rest h k

mutual
  value_of_ordered : (d : Data) → OrderedData d → OrderedOption (value_of d)
  value_of_ordered store.null h = tt
  value_of_ordered (store.boolean b) h = tt
  value_of_ordered (store.number n) h = whole_option (whole_of n)
  value_of_ordered (store.string s) h = tt
  value_of_ordered (store.array ds) h = list_option (value_items ds) (value_items_ordered ds h)
  value_of_ordered (store.object ms) h = map_option (data_keys ms) (value_members ms) h.0 (value_members_ordered ms h.1)

  value_items_ordered : (ds : store.Items) → OrderedItems ds → ValueItems (value_items ds)
  value_items_ordered store.no_items h = tt
  value_items_ordered (store.item d ds) h = value_item_option (value_of d) (value_items ds) (value_of_ordered d h.0) (value_items_ordered ds h.1)

  value_members_ordered : (ms : store.Members) → OrderedParts ms → ValueMembers (data_keys ms) (value_members ms)
  value_members_ordered store.no_members h = (refl, tt)
  value_members_ordered (store.member key d ms) h = value_member_option key (data_keys ms) (value_of d) (value_members ms) (value_of_ordered d h.0) (value_members_ordered ms h.1)

then_json : (o : Option json.Json) → DataOption (option_and_then of_json o)
then_json None = tt
then_json (Some j) = json_ordered j

read_ordered : (bytes : List ℕ) → DataOption (read bytes)
read_ordered bytes = then_json (option_and_then (λ p. json.if_last p.0 p.1) (json.value max_depth (tokens bytes)))

whole_value_ordered : (o : Option Plain) → OrderedOption o → OrderedAnswer (whole_value o)
whole_value_ordered None h = tt
whole_value_ordered (Some v) h = h

value_read_ordered : (o : Option Data) → DataOption o → OrderedAnswer (value_read o)
value_read_ordered None h = tt
value_read_ordered (Some d) h = whole_value_ordered (value_of d) (value_of_ordered d h)

-- ---- calls

limited_ordered : (bytes : List ℕ) → OrderedAnswer (limited bytes)
limited_ordered bytes = if_holds OrderedAnswer (nat_le (length bytes) most_bytes) (Ok (text bytes)) (Err TooLarge) (λ _. tt) (λ _. tt)

formatted_ordered : (o : Option (List ℕ)) → OrderedAnswer (formatted_value o)
formatted_ordered None = tt
formatted_ordered (Some bytes) = limited_ordered bytes

with_two_ordered : (test : Plain → Plain → Bool) (vs : List Plain) → OrderedAnswer (with_two test vs)
with_two_ordered test [] = tt
with_two_ordered test (a ∷ []) = tt
with_two_ordered test (a ∷ b ∷ []) = tt
with_two_ordered test (a ∷ b ∷ c ∷ rest) = tt

format_ordered : (vs : List Plain) → OrderedAnswer (format_of vs)
format_ordered [] = tt
format_ordered (f ∷ arguments) = formatted_ordered (formatted (map_list text_of_value arguments) (text_of_value f))

join_ordered : (vs : List Plain) → OrderedAnswer (join_of vs)
join_ordered [] = tt
join_ordered (a ∷ []) = limited_ordered (joined (codes ",") a)
join_ordered (a ∷ b ∷ []) = limited_ordered (joined (text_of_value b) a)
join_ordered (a ∷ b ∷ c ∷ rest) = tt

to_json_ordered : (vs : List Plain) → OrderedAnswer (with_one to_json vs)
to_json_ordered [] = tt
to_json_ordered (a ∷ []) = limited_ordered (pretty_text (json_of a))
to_json_ordered (a ∷ b ∷ rest) = tt

from_json_ordered : (vs : List Plain) → OrderedAnswer (with_one from_json vs)
from_json_ordered [] = tt
from_json_ordered (a ∷ []) = value_read_ordered (read (text_of_value a)) (read_ordered (text_of_value a))
from_json_ordered (a ∷ b ∷ rest) = tt

status_ordered : (b : Bool) (vs : List Plain) → OrderedAnswer (status_of b vs)
status_ordered b [] = tt
status_ordered b (a ∷ rest) = tt

called_ordered : (f : Function) (s : Status) (vs : List Plain) → OrderedAnswer (called f s vs)
called_ordered Contains s vs = with_two_ordered _ vs
called_ordered StartsWith s vs = with_two_ordered _ vs
called_ordered EndsWith s vs = with_two_ordered _ vs
called_ordered Format s vs = format_ordered vs
called_ordered Join s vs = join_ordered vs
called_ordered ToJson s vs = to_json_ordered vs
called_ordered FromJson s vs = from_json_ordered vs
called_ordered Success s vs = status_ordered _ vs
called_ordered Failure s vs = status_ordered _ vs
called_ordered Cancelled s vs = status_ordered _ vs
called_ordered Always s vs = status_ordered _ vs

call_ordered : (f : Function) (s : Status) (vs : Result (List Plain) ValueFault) → OrderedAnswer (call_value f s vs)
call_ordered f s (Ok vs) = called_ordered f s vs
call_ordered f s (Err fault) = tt

-- ---- expressions

begun_ordered : (a : Answer) → OrderedAnswer a → OrderedChain (begun a)
begun_ordered (Ok v) h = h
begun_ordered (Err fault) h = tt

ended_ordered : (x : Chain) → OrderedChain x → OrderedAnswer (ended x)
ended_ordered (Ok found) h = outside_ordered found h
ended_ordered (Err fault) h = tt

property_chain_ordered : (name : List ℕ) (x : Chain) → OrderedChain x → OrderedChain (property_chain name x)
property_chain_ordered name (Ok found) h = property_found_ordered name found h
property_chain_ordered name (Err fault) h = tt

index_chain_ordered : (x : Chain) (a : Answer) → OrderedChain x → OrderedChain (index_chain x a)
index_chain_ordered (Ok found) (Ok v) h = index_found_ordered (kind_of v) found h
index_chain_ordered (Ok found) (Err fault) h = tt
index_chain_ordered (Err fault) a h = tt

all_chain_ordered : (x : Chain) → OrderedChain x → OrderedChain (all_chain x)
all_chain_ordered (Ok found) h = all_found_ordered found h
all_chain_ordered (Err fault) h = tt

opposite_ordered : (a : Answer) → OrderedAnswer (then_value a opposite_value)
opposite_ordered (Ok v) = tt
opposite_ordered (Err fault) = tt

truth_ordered : (r : Result Bool ValueFault) → OrderedAnswer (truth_answer r)
truth_ordered (Ok b) = tt
truth_ordered (Err fault) = tt

two_ordered : (test : Plain → Plain → Result Bool ValueFault) (a b : Answer) → OrderedAnswer (of_two (λ (v w : Plain). truth_answer (test v w)) a b)
two_ordered test (Ok v) (Ok w) = truth_ordered (test v w)
two_ordered test (Ok v) (Err fault) = tt
two_ordered test (Err fault) b = tt

conjunction_ordered : (v : Plain) (rest : List Answer) → HasOrderedKeys v → OrderedAnswers rest → OrderedAnswer (conjunction v rest)
conjunction_ordered v [] h k = h
conjunction_ordered v (Ok w ∷ rest) h k = if_holds OrderedAnswer (is_truthy v) (conjunction w rest) (Ok v) (λ _. conjunction_ordered w rest k.0 k.1) (λ _. h)
conjunction_ordered v (Err fault ∷ rest) h k = if_holds OrderedAnswer (is_truthy v) (Err fault) (Ok v) (λ _. tt) (λ _. h)

disjunction_ordered : (v : Plain) (rest : List Answer) → HasOrderedKeys v → OrderedAnswers rest → OrderedAnswer (disjunction v rest)
disjunction_ordered v [] h k = h
disjunction_ordered v (Ok w ∷ rest) h k = if_holds OrderedAnswer (is_truthy v) (Ok v) (disjunction w rest) (λ _. h) (λ _. disjunction_ordered w rest k.0 k.1)
disjunction_ordered v (Err fault ∷ rest) h k = if_holds OrderedAnswer (is_truthy v) (Ok v) (Err fault) (λ _. h) (λ _. tt)

mutual
  chain_ordered : (c : Contexts) (s : Status) (e : Expr) → AreOrdered c → OrderedChain (chain c s e)
  chain_ordered c s (literal l) h = constant_ordered l
  chain_ordered c s (context x) h = or_empty_ordered (value_at (context_name x) c) (at_key (context_name x) c h)
  chain_ordered c s (call f es) h = begun_ordered (call_value f s (all_values (answers c s es))) (call_ordered f s (all_values (answers c s es)))
  chain_ordered c s (group e) h = begun_ordered (ended (chain c s e)) (ended_ordered (chain c s e) (chain_ordered c s e h))
  chain_ordered c s (property e name) h = property_chain_ordered name (chain c s e) (chain_ordered c s e h)
  chain_ordered c s (index e i) h = index_chain_ordered (chain c s e) (ended (chain c s i)) (chain_ordered c s e h)
  chain_ordered c s (wildcard w e) h = all_chain_ordered (chain c s e) (chain_ordered c s e h)
  chain_ordered c s (opposite e) h = begun_ordered (then_value (ended (chain c s e)) opposite_value) (opposite_ordered (ended (chain c s e)))
  chain_ordered c s (relation r a b) h = begun_ordered (of_two (relation_value r) (ended (chain c s a)) (ended (chain c s b))) (two_ordered _ (ended (chain c s a)) (ended (chain c s b)))
  chain_ordered c s (equality q a b) h = begun_ordered (of_two (equality_value q) (ended (chain c s a)) (ended (chain c s b))) (two_ordered _ (ended (chain c s a)) (ended (chain c s b)))
  chain_ordered c s (both es) h = begun_ordered (conjunction (truth true) (answers c s es)) (conjunction_ordered (truth true) (answers c s es) tt (answers_ordered c s es h))
  chain_ordered c s (either es) h = begun_ordered (disjunction (truth false) (answers c s es)) (disjunction_ordered (truth false) (answers c s es) tt (answers_ordered c s es h))

  answers_ordered : (c : Contexts) (s : Status) (es : Exprs) → AreOrdered c → OrderedAnswers (answers c s es)
  answers_ordered c s none h = tt
  answers_ordered c s (more e es) h = (ended_ordered (chain c s e) (chain_ordered c s e h), answers_ordered c s es h)

pub value_is_ordered : (c : Contexts) (s : Status) (e : Expr) (v : Plain) → AreOrdered c → value c s e ≡ Ok v → HasOrderedKeys v
value_is_ordered c s e v h is = subst OrderedAnswer is (ended_ordered (chain c s e) (chain_ordered c s e h))
