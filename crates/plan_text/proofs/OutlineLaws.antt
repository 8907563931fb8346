-- What the outline of a text stands for, part by part.
use Rattle.std.proofs.Common.{◌≡◌, ◌≤◌, ◌<◌, ◌^◌, ℕ, List, [], ◌∷◌, Some, map, decimal, option_map, option_and_then, Ok, Ordering, Less, Equal, Greater, nat_cmp, refl, sym, ap, ◌∙◌, append-nil, arith}
use Rattle.std.specs.Cmp.Lexicographic.{slice_cmp}
use Rattle.std.specs.Ordering.{match_ordering}
use Rattle.std.specs.Str.{IsUtf8}
use Rattle.json.specs.Json as json
use Rattle.json.specs.Json.{Json, if_last, value}
use Rattle.json.specs.Print.{print, print_from, IsNumber}
use Rattle.json.specs.Tree.{json_tokens, depth, HasNumbers}
use Rattle.json.proofs.Printed.Tokens.{tokens-print}
use Rattle.json.proofs.Printed.Trees.{value-json_tokens, ArePrintable-json_tokens}
use Rattle.json.specs.Value.{items_of as outlines_of}
use Rattle.serde_json.specs.Data.{Data, number, member, put}
use Rattle.serde_json.specs.Read.{number_of, of_json, of_items, read}
use Rattle.serde_json.specs.View.{items_of}
use Rattle.serde_json.proofs.Numbers.{number_of-decimal}
use Rattle.flow_model.specs.Mapping.{with_pair}
use Rattle.flow_model.specs.declared.plan.Plan.{Plan}
use Rattle.flow_model.proofs.JsonTexts.{json_read-utf8}
use Rattle.plan_documents.specs.Document.{document_in}
use Rattle.flow_model.specs.Rules.{IsPlan}
use Rattle.plan_text.specs.Load.{load}
use Rattle.plan_text.specs.Outline.{StandsFor, EachStandsFor}
use Rattle.plan_documents.specs.Parts.{number_data, pair_members}
use Rattle.plan_documents.specs.declared.version.Version.{Version}
use Rattle.plan_text.proofs.LoadLemmas.{load_again}

-- ---- a text

-- what is printed of an outline is read as what it stands for
pub read-printed : (j : Json) → HasNumbers j → depth j ≤ 127 → read (print (json_tokens j)) ≡ of_json j
read-printed j numbers low =
    ap (λ r. option_and_then of_json (option_and_then (λ p. if_last p.0 p.1) r))
    (ap (value 127) (tokens-print (json_tokens j) (ArePrintable-json_tokens j numbers) ∙ sym (append-nil (json_tokens j))) ∙ value-json_tokens j 127 [] low)

number-text : (s : List ℕ) → print (json_tokens (json.number s)) ≡ s
unfolding print_from
number-text s = append-nil s

-- the text of a number is read as what it stands for
pub number_stands : (s : List ℕ) (d : Data) → IsNumber s → read s ≡ Some d → StandsFor (json.number s) d
number_stands s d is e = sym (read-printed (json.number s) is (omega arith)) ∙ ap read (number-text s) ∙ e

-- the digits of a number are read as it
pub digits_stand : (s : List ℕ) (n : ℕ) → s ≡ decimal n → n < 2 ^ 64 → StandsFor (json.number s) (number_data n)
digits_stand s n is fits = ap (λ t. option_map number (number_of t)) is ∙ ap (option_map number) (number_of-decimal n fits)

-- ---- a list

-- items stand for data where each stands for its own
pub items_stand : {A B : Type 0} (outline : A → Json) (data_of : B → Data) (xs : List A) (ys : List B) → EachStandsFor outline data_of xs ys
    → of_items (outlines_of (map outline xs)) ≡ Some (items_of (map data_of ys))
items_stand outline data_of [] [] e = refl
items_stand outline data_of [] (y ∷ ys) e = absurd (cc)
items_stand outline data_of (x ∷ xs) [] e = absurd (cc)
items_stand outline data_of (x ∷ xs) (y ∷ ys) e =
    let first : of_json (outline x) ≡ Some (data_of y) = cc in
    let rest : of_items (outlines_of (map outline xs)) ≡ Some (items_of (map data_of ys)) = items_stand outline data_of xs ys (cc) in
    rw (first, rest) refl

-- ---- a map

placed : {A : Type 0} (write : A → Data) (key : List ℕ) (a : A) (p : List ℕ × A) (ps : List (List ℕ × A)) → put key (write a) (pair_members write ps) ≡ pair_members write (with_pair key a ps)
    → (o : Ordering)
    → match_ordering o (member key (write a) (pair_members write (p ∷ ps))) (member p.0 (write a) (pair_members write ps)) (member p.0 (write p.1) (put key (write a) (pair_members write ps)))
    ≡ pair_members write (match_ordering o ((key, a) ∷ p ∷ ps) ((p.0, a) ∷ ps) (p ∷ with_pair key a ps))
placed write key a p ps later Less = refl
placed write key a p ps later Equal = refl
placed write key a p ps later Greater = ap (member p.0 (write p.1)) later

-- a member is put as the pair is set
pub put_pair : {A : Type 0} (write : A → Data) (key : List ℕ) (a : A) (ps : List (List ℕ × A)) → put key (write a) (pair_members write ps) ≡ pair_members write (with_pair key a ps)
put_pair write key a [] = refl
put_pair write key a (p ∷ ps) = placed write key a p ps (put_pair write key a ps) (slice_cmp nat_cmp key p.0)

-- ---- a plan

-- a text that is read as a document of a sound plan loads as the plan
pub document_loads : (bytes text : List ℕ) (v : Version) (p q : Plan) → text ≡ bytes → IsUtf8 bytes → read text ≡ Some (document_in v p) → q ≡ p → IsPlan q → load bytes ≡ Ok q
document_loads bytes text v p q same utf8 found checked sound =
    load_again bytes v q sound (json_read-utf8 bytes utf8 ∙ ap read (sym same) ∙ found ∙ ap (λ x. Some (document_in v x)) (sym checked))
