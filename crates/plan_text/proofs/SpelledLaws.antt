-- What tokens spell: parts of parts, and a whole text.
use Rattle.std.proofs.Common.{◌≡◌, Bool, true, bytes_eq, ◌-◌, drop, take, get_or, Option, ◌≤◌, ◌<◌, ℕ, zero, suc, List, [], ◌∷◌, ◌++◌, length, map, Some, None, option_map, option_and_then, max, refl, sym, subst, ap, ◌∙◌, append_assoc, length-append, arith}
use Rattle.std.proofs.lemmas.List.{take_all}
use Rattle.std.specs.Borrow.{Bor}
use Rattle.std.specs.Cmp.Lexicographic.{bytes_decides}
use Rattle.json.specs.Token.{Token}
use Rattle.json.specs.Lex.{tokens}
use Rattle.json.specs.Json as json
use Rattle.json.specs.Json.{Json, Items, Members, Parse, parse_map, after_end_array, read_key, items_step, items, members_step, members, value_with, value, if_last}
use Rattle.json.specs.Tree.{json_tokens, items_tokens, members_tokens, depth, items_depth, members_depth}
use Rattle.json.proofs.Grammar.{closed_array, read_key_is}
use Rattle.json.proofs.Printed.Trees.{value-json_tokens}
use Rattle.serde_json.specs.Data as held
use Rattle.serde_json.specs.Data.{Data, put, no_members}
use Rattle.serde_json.specs.Read.{of_json, of_items, of_members, read}
use Rattle.serde_json.specs.View.{items_of}
use Rattle.plan_documents.specs.Fields.{put_each}
use Rattle.plan_text.specs.Outline.{StandsFor}
use Rattle.plan_text.specs.Spelled.{Spells, SpellMembers}

-- The first tokens are these parts in turn, and the rest follows.
abbrev pub SpellEach : ℕ → List Token → List Data → List Token → Type 0
SpellEach levels ts [] rest = ts ≡ rest
SpellEach levels ts (d ∷ ds) rest = (after : List Token) × Spells levels ts d after × SpellEach levels after ds rest

-- ---- one part

-- a part of one token
one_spells : (n : ℕ) (t : Token) (ts : List Token) (j : Json) (d : Data) → json_tokens j ≡ t ∷ [] → depth j ≡ 0 → StandsFor j d → Spells n (t ∷ ts) d ts
one_spells n t ts j d is flat stands = record { json = j; tokens = ap (λ us. us ++ ts) (sym is); low = omega (arith, flat); stands = stands }

-- a token that is the whole of a part
pub leaf_spells : (n : ℕ) (t : Token) (ts : List Token) (j : Json) (d : Data) → json_tokens j ≡ t ∷ [] → depth j ≡ 0 → StandsFor j d → (found : Token) → found ≡ t → Spells n (found ∷ ts) d ts
leaf_spells n t ts j d is flat stands found same = subst (λ u. Spells n (u ∷ ts) d ts) (sym same) (one_spells n t ts j d is flat stands)

-- a text
pub text_spells : (n : ℕ) (t : Token) (s : List ℕ) (ts : List Token) → t ≡ Token.string s → Spells n (t ∷ ts) (held.string s) ts
text_spells n t s ts is = leaf_spells n (Token.string s) ts (json.string s) (held.string s) refl refl refl t is

-- texts that were compared
pub same_text : (s t : List ℕ) → true ≡ bytes_eq s t → s ≡ t
same_text s t same = (bytes_decides s t).0 (sym same)

-- a word that was compared
pub word_spells : (n : ℕ) (t : Token) (s word : List ℕ) (ts : List Token) → t ≡ Token.string s → true ≡ bytes_eq s word → Spells n (t ∷ ts) (held.string word) ts
word_spells n t s word ts is same = text_spells n t word ts (is ∙ ap Token.string (same_text s word same))

-- a truth value
pub truth_spells : (n : ℕ) (t : Token) (b : Bool) (ts : List Token) → t ≡ Token.boolean b → Spells n (t ∷ ts) (held.boolean b) ts
truth_spells n t b ts is = leaf_spells n (Token.boolean b) ts (json.boolean b) (held.boolean b) refl refl refl t is

-- nothing
pub null_spells : (n : ℕ) (t : Token) (ts : List Token) → t ≡ Token.null → Spells n (t ∷ ts) held.null ts
null_spells n t ts is = leaf_spells n Token.null ts json.null held.null refl refl refl t is

-- a number
pub number_spells : (n : ℕ) (t : Token) (s : List ℕ) (d : Data) (ts : List Token) → t ≡ Token.number s → StandsFor (json.number s) d → Spells n (t ∷ ts) d ts
number_spells n t s d ts is stands = leaf_spells n (Token.number s) ts (json.number s) d refl refl stands t is

some_token : (j : Json) → 0 < length (json_tokens j)
some_token json.null = omega arith
some_token (json.boolean b) = omega arith
some_token (json.number s) = omega arith
some_token (json.string s) = omega arith
some_token (json.array js) = omega arith
some_token (json.object ms) = omega arith

-- a part has a token at least
pub spells_fewer : (n : ℕ) (ts : List Token) (d : Data) (rest : List Token) → Spells n ts d rest → length rest < length ts
spells_fewer n ts d rest s = omega (arith, ap length s.tokens, length-append (json_tokens s.json) rest, some_token s.json)

-- a part may nest deeper
pub spells_within : (n m : ℕ) (ts : List Token) (d : Data) (rest : List Token) → n ≤ m → Spells n ts d rest → Spells m ts d rest
spells_within n m ts d rest within s = record { json = s.json; tokens = s.tokens; low = omega (arith, within, s.low); stands = s.stands }

-- an object of texts alone may stand for a step's work
pub within_102 : (ts : List Token) (d : Data) (rest : List Token) → Spells 1 ts d rest → Spells 102 ts d rest
within_102 ts d rest s = spells_within 1 102 ts d rest (omega arith) s

pub max_left : (n m : ℕ) → n ≤ max n m
max_left n m = omega arith

pub max_right : (n m : ℕ) → m ≤ max n m
max_right n m = omega arith

-- ---- a list

-- one more part
pub one_more : (n : ℕ) (ds : List Data) (d : Data) (ts us rest : List Token) → SpellEach n ts ds us → Spells n us d rest → SpellEach n ts (ds ++ d ∷ []) rest
one_more n [] d ts us rest is s = (rest, subst (λ x. Spells n x d rest) (sym is) s, refl)
one_more n (e ∷ ds) d ts us rest each s = (each.0, each.1, one_more n ds d each.0 us rest each.2 s)

-- the items that parts are
record SomeItems (n : ℕ) (ds : List Data) (ts rest : List Token) : Type 0 where
  json : Items
  tokens : ts ≡ items_tokens json ++ rest
  low : items_depth json ≤ n
  stands : of_items json ≡ Some (items_of ds)

items_of_each : (n : ℕ) (ds : List Data) (ts rest : List Token) → SpellEach n ts ds (Token.end_array ∷ rest) → SomeItems n ds ts rest
items_of_each n [] ts rest is = record { json = json.no_items; tokens = is; low = omega arith; stands = refl }
items_of_each n (d ∷ ds) ts rest each =
    let first = each.1 in
    let later = items_of_each n ds each.0 rest each.2 in
    record {
      json = json.item first.json later.json;
      tokens = first.tokens ∙ ap (λ us. json_tokens first.json ++ us) later.tokens ∙ sym (append_assoc (json_tokens first.json) (items_tokens later.json) rest);
      low = omega (arith, first.low, later.low);
      stands = rw (first.stands, later.stands) refl;
    }

-- parts between brackets are a list
pub array_spells : (n : ℕ) (ds : List Data) (ts rest : List Token) → SpellEach n ts ds (Token.end_array ∷ rest)
    → Spells (suc n) (Token.begin_array ∷ ts) (held.array (items_of ds)) rest
array_spells n ds ts rest each =
    let found = items_of_each n ds ts rest each in
    record {
      json = json.array found.json;
      tokens = ap (λ us. Token.begin_array ∷ us) found.tokens;
      low = omega (arith, found.low);
      stands = ap (option_map held.array) found.stands;
    }

mapped_last : {A : Type 0} (document : A → Data) (parts : List A) (part : A) → map document (parts ++ part ∷ []) ≡ map document parts ++ document part ∷ []
mapped_last document [] part = refl
mapped_last document (p ∷ parts) part = ap (λ ds. document p ∷ ds) (mapped_last document parts part)

-- a part is read after others, where no bracket closes their list
pub item_step : {A : Type 0} (n : ℕ) (document : A → Data) (parts parts' : List A) (part : A) (ts us vs rest : List Token)
    → SpellEach n ts (map document parts) us → vs ≡ us → Spells n vs (document part) rest → parts' ≡ parts ++ part ∷ [] → SpellEach n ts (map document parts') rest
item_step n document parts parts' part ts us vs rest each same s pushed =
    subst (λ ds. SpellEach n ts ds rest) (sym (ap (map document) pushed ∙ mapped_last document parts part))
    (one_more n (map document parts) (document part) ts us rest each (subst (λ x. Spells n x (document part) rest) same s))

-- parts are a list, by the token that it begins with
pub list_spells : (n : ℕ) (ds : List Data) (t : Token) (ts us rest : List Token) → t ≡ Token.begin_array → SpellEach n ts ds us → us ≡ Token.end_array ∷ rest
    → Spells (suc n) (t ∷ ts) (held.array (items_of ds)) rest
list_spells n ds t ts us rest is each closed =
    subst (λ u. Spells (suc n) (u ∷ ts) (held.array (items_of ds)) rest) (sym is) (array_spells n ds ts rest (subst (SpellEach n ts ds) closed each))

-- ---- an object

-- one more member
pub member_more : (n : ℕ) (ps : List (List ℕ × Data)) (key : List ℕ) (d : Data) (ts us vs rest : List Token)
    → SpellMembers n ts ps us → us ≡ Token.key key ∷ vs → Spells n vs d rest → SpellMembers n ts (ps ++ (key, d) ∷ []) rest
member_more n [] key d ts us vs rest is next s = (vs, rest, is ∙ next, s, refl)
member_more n (p ∷ ps) key d ts us vs rest each next s = (each.0, each.1, each.2, each.3, member_more n ps key d each.1 us vs rest each.4 next s)

-- a member, and then others
pub member_then : (n m : ℕ) (key : List ℕ) (d : Data) (ps : List (List ℕ × Data)) (rest ts us : List Token) → n ≤ m
    → SpellMembers n ts ((key, d) ∷ []) us → SpellMembers m us ps rest → SpellMembers m ts ((key, d) ∷ ps) rest
member_then n m key d ps rest ts us within one more =
    (one.0, one.1, one.2, spells_within n m one.0 d one.1 within one.3, subst (λ x. SpellMembers m x ps rest) (sym one.4) more)

-- members may nest deeper
pub members_within : (n m : ℕ) (ts : List Token) (ps : List (List ℕ × Data)) (rest : List Token) → n ≤ m → SpellMembers n ts ps rest → SpellMembers m ts ps rest
members_within n m ts [] rest within is = is
members_within n m ts (p ∷ ps) rest within each =
    (each.0, each.1, each.2, spells_within n m each.0 p.1 each.1 within each.3, members_within n m each.1 ps rest within each.4)

-- what is put last is put into what stands there
pub put_last : (ps : List (List ℕ × Data)) (key : List ℕ) (d : Data) (found : held.Members) → put_each (ps ++ (key, d) ∷ []) found ≡ put key d (put_each ps found)
put_last [] key d found = refl
put_last (p ∷ ps) key d found = put_last ps key d (put p.0 p.1 found)

-- keys are the first and the others
pub first_key : (keys : List (Bor (List ℕ))) (x : Bor (List ℕ)) → 0 < length keys
    → map (λ key. key.now) keys ≡ (get_or keys 0 x).now ∷ map (λ key. key.now) (take (length keys - 1) (drop 1 keys))
first_key [] x some = absurd (omega arith)
first_key (key ∷ keys) x some = ap (λ others. key.now ∷ map (λ other. other.now) others) (sym (take_all (length (key ∷ keys) - 1) keys (omega arith)))

-- the members that keys with parts are
record SomeMembers (n : ℕ) (ps : List (List ℕ × Data)) (ts rest : List Token) : Type 0 where
  json : Members
  tokens : ts ≡ members_tokens json ++ rest
  low : members_depth json ≤ n
  stands : (found : held.Members) → of_members json found ≡ Some (put_each ps found)

members_of_each : (n : ℕ) (ps : List (List ℕ × Data)) (ts rest : List Token) → SpellMembers n ts ps (Token.end_object ∷ rest) → SomeMembers n ps ts rest
members_of_each n [] ts rest is = record { json = json.no_members; tokens = is; low = omega arith; stands = λ found. refl }
members_of_each n (p ∷ ps) ts rest each =
    let first = each.3 in
    let later = members_of_each n ps each.1 rest each.4 in
    record {
      json = json.member p.0 first.json later.json;
      tokens = each.2 ∙ ap (λ us. Token.key p.0 ∷ us) (first.tokens ∙ ap (λ us. json_tokens first.json ++ us) later.tokens ∙ sym (append_assoc (json_tokens first.json) (members_tokens later.json) rest));
      low = omega (arith, first.low, later.low);
      stands = λ found. ap (option_and_then (λ d. of_members later.json (put p.0 d found))) first.stands ∙ later.stands (put p.0 p.1 found);
    }

-- keys with parts between braces are an object
pub object_spells : (n : ℕ) (ps : List (List ℕ × Data)) (ts rest : List Token) → SpellMembers n ts ps (Token.end_object ∷ rest)
    → Spells (suc n) (Token.begin_object ∷ ts) (held.object (put_each ps no_members)) rest
object_spells n ps ts rest each =
    let found = members_of_each n ps ts rest each in
    record {
      json = json.object found.json;
      tokens = ap (λ us. Token.begin_object ∷ us) found.tokens;
      low = omega (arith, found.low);
      stands = ap (option_map held.object) (found.stands no_members);
    }

-- an object, by the token that it begins with
pub object_begins : (n : ℕ) (ps : List (List ℕ × Data)) (t : Token) (ts rest : List Token) → t ≡ Token.begin_object → SpellMembers n ts ps (Token.end_object ∷ rest)
    → Spells (suc n) (t ∷ ts) (held.object (put_each ps no_members)) rest
object_begins n ps t ts rest is each = subst (λ u. Spells (suc n) (u ∷ ts) (held.object (put_each ps no_members)) rest) (sym is) (object_spells n ps ts rest each)

-- ---- a whole text

-- a text is read as what its tokens spell
pub spelled_read : (text : List ℕ) (n : ℕ) (d : Data) → n ≤ 127 → Spells n (tokens text) d [] → read text ≡ Some d
spelled_read text n d within s =
    ap (λ ts. option_and_then of_json (option_and_then (λ p. if_last p.0 p.1) (value 127 ts))) s.tokens
    ∙ ap (λ r. option_and_then of_json (option_and_then (λ p. if_last p.0 p.1) r)) (value-json_tokens s.json 127 [] (omega (arith, within, s.low)))
    ∙ s.stands

-- ---- what lies in a list or in a map, read of its outline

never : {A P : Type 0} (a : A) → None ≡ Some a → P
never a e = absurd (cc)

abbrev tokens_left : {A : Type 0} → (A → List Token) → Option (A × List Token) → List Token
tokens_left tokens_of None = []
tokens_left tokens_of (Some p) = tokens_of p.0 ++ p.1

abbrev first_or : {A : Type 0} → A → Option (A × List Token) → A
first_or a None = a
first_or a (Some p) = p.0

-- what is read is what its tokens spell
abbrev IsExact : {A : Type 0} → (A → List Token) → Parse A → Type 0
IsExact {A} tokens_of p = (ts : List Token) (a : A) (rest : List Token) → p ts ≡ Some (a, rest) → ts ≡ tokens_of a ++ rest

-- what a reading under a function comes from
parse_some : {A B : Type 0} (f : A → B) (r : Option (A × List Token)) (b : B) (rest : List Token) → parse_map f r ≡ Some (b, rest) → (a : A) × (r ≡ Some (a, rest)) × (f a ≡ b)
parse_some f None b rest e = never _ e
parse_some f (Some p) b rest e = (p.0, ap (λ o. Some (p.0, tokens_left (λ _. []) o)) e, ap (λ o. first_or b o) e)

-- one part, and then others
then_exact : {A : Type 0} (tokens_of : A → List Token) (f : Json → A → A) (head : List Token) → ((j : Json) (a : A) → tokens_of (f j a) ≡ head ++ (json_tokens j ++ tokens_of a))
    → (more : Parse A) → IsExact tokens_of more → (r : Option (Json × List Token)) (us : List Token) → ((j : Json) (vs : List Token) → r ≡ Some (j, vs) → us ≡ json_tokens j ++ vs)
    → (a : A) (rest : List Token) → option_and_then (λ q. parse_map (f q.0) (more q.1)) r ≡ Some (a, rest) → head ++ us ≡ tokens_of a ++ rest
then_exact tokens_of f head made more again None us one a rest e = never _ e
then_exact tokens_of f head made more again (Some q) us one a rest e =
    let found = parse_some (f q.0) (more q.1) a rest e in
    ap (λ x. head ++ x) (one q.0 q.1 refl ∙ ap (λ x. json_tokens q.0 ++ x) (again q.1 found.0 rest found.1) ∙ sym (append_assoc (json_tokens q.0) (tokens_of found.0) rest))
    ∙ sym (append_assoc head (json_tokens q.0 ++ tokens_of found.0) rest)
    ∙ ap (λ x. x ++ rest) (sym (made q.0 found.0)) ∙ ap (λ x. tokens_of x ++ rest) found.2

module _ (p : Parse Json) (exact : IsExact json_tokens p) where
  item_exact : (more : Parse Items) → IsExact items_tokens more → (ts : List Token) (o : Option (List Token)) → after_end_array ts ≡ o
      → (js : Items) (rest : List Token) → items_step p more ts o ≡ Some (js, rest) → ts ≡ items_tokens js ++ rest
  item_exact more again ts (Some r) is js rest e = closed_array ts r is ∙ ap (tokens_left items_tokens) e
  item_exact more again ts None is js rest e = then_exact items_tokens json.item [] (λ j a. refl) more again (p ts) ts (λ j vs. exact ts j vs) js rest e

  items_exact : (n : ℕ) → IsExact items_tokens (items p n)
  unfolding items
  items_exact zero ts js rest e = never _ e
  items_exact (suc n) ts js rest e = item_exact (items p n) (items_exact n) ts (after_end_array ts) refl js rest e

  member_exact : (more : Parse Members) → IsExact members_tokens more → (ts : List Token) (o : Option (Option (List ℕ) × List Token)) → read_key ts ≡ o
      → (ms : Members) (rest : List Token) → option_and_then (λ q. members_step p more q.0 q.1) o ≡ Some (ms, rest) → ts ≡ members_tokens ms ++ rest
  member_exact more again ts None is ms rest e = never _ e
  member_exact more again ts (Some (None, s)) is ms rest e = read_key_is ts None s is ∙ ap (tokens_left members_tokens) e
  member_exact more again ts (Some (Some k, s)) is ms rest e =
      read_key_is ts (Some k) s is ∙ then_exact members_tokens (json.member k) (Token.key k ∷ []) (λ j a. refl) more again (p s) s (λ j vs. exact s j vs) ms rest e

  members_exact : (n : ℕ) → IsExact members_tokens (members p n)
  unfolding members
  members_exact zero ts ms rest e = never _ e
  members_exact (suc n) ts ms rest e = member_exact (members p n) (members_exact n) ts (read_key ts) refl ms rest e

with_exact : (a : Parse Items) (o : Parse Members) → IsExact items_tokens a → IsExact members_tokens o → IsExact json_tokens (value_with a o)
with_exact a o p q [] j rest e = never _ e
with_exact a o p q (Token.begin_object ∷ ts) j rest e =
    let found = parse_some json.object (o ts) j rest e in ap (λ us. Token.begin_object ∷ us) (q ts found.0 rest found.1) ∙ ap (λ x. json_tokens x ++ rest) found.2
with_exact a o p q (Token.end_object ∷ ts) j rest e = never _ e
with_exact a o p q (Token.begin_array ∷ ts) j rest e =
    let found = parse_some json.array (a ts) j rest e in ap (λ us. Token.begin_array ∷ us) (p ts found.0 rest found.1) ∙ ap (λ x. json_tokens x ++ rest) found.2
with_exact a o p q (Token.end_array ∷ ts) j rest e = never _ e
with_exact a o p q (Token.key s ∷ ts) j rest e = never _ e
with_exact a o p q (Token.string s ∷ ts) j rest e = ap (tokens_left json_tokens) e
with_exact a o p q (Token.number s ∷ ts) j rest e = ap (tokens_left json_tokens) e
with_exact a o p q (Token.boolean b ∷ ts) j rest e = ap (tokens_left json_tokens) e
with_exact a o p q (Token.null ∷ ts) j rest e = ap (tokens_left json_tokens) e
with_exact a o p q (Token.bad ∷ ts) j rest e = never _ e

-- a value is what its tokens spell
pub value_exact : (d : ℕ) (ts : List Token) (j : Json) (rest : List Token) → value d ts ≡ Some (j, rest) → ts ≡ json_tokens j ++ rest
unfolding value
value_exact zero ts j rest e = with_exact (λ ts. None) (λ ts. None) (λ us js vs f. never _ f) (λ us ms vs f. never _ f) ts j rest e
value_exact (suc d) ts j rest e =
    with_exact (λ ts. items (value d) (length ts) ts) (λ ts. members (value d) (length ts) ts) (λ us. items_exact (value d) (value_exact d) (length us) us)
    (λ us. members_exact (value d) (value_exact d) (length us) us) ts j rest e
