-- The next token, there and back.
use Rattle.std.proofs.Common.{◌≡◌, ℕ, suc, ◌+◌, ◌<◌, ◌≤◌, ℤ, Bool, true, false, cond, nat_eq, Result, Ok, Err, Option, Some, None, List, [], ◌∷◌, ◌++◌, length, take, drop, refl, sym, ap, subst, ◌∙◌, append-nil, arith}
use Rattle.std.proofs.Math.Seq.{drop-append_seam}
use Rattle.std.proofs.lemmas.Bool.{cond-true, cond-false, eqb-true, eq-eqb}
use Rattle.std.proofs.lemmas.Bool.Decides.{nat_tests}
use Rattle.std.proofs.lemmas.List.{take-append-drop}
use Rattle.std.specs.List.{prefix_len}
use Rattle.std.specs.Prelude.{codes}
use Rattle.expr_reader.specs.Bytes.{is_white, skip_white, begins_name, is_name, begins_number, is_number, is_byte, IsRun, Stops, IsWord, IsNumeral}
use Rattle.expr_reader.specs.Expr.{null, truth, whole, quoted}
use Rattle.expr_reader.specs.Grammar.{Token, constant, root, callee, name, relational, equational, mark}
use Rattle.expr_reader.specs.Lexer.{Lexed, unquoted, quoted_token, number_token, number_at, named, begins_call, known_token, word_token, word_at, paired, followed, operator_at, token_at, some_token, next_at, next}
use Rattle.expr_reader.specs.Number.{number_of}
use Rattle.expr_reader.specs.Spelling.{doubled, SpellsToken, EndsToken, Begins}
use Rattle.expr_reader.specs.Stands.{Fits}
use Rattle.expr_reader.specs.Wrong.{IsNoToken, IsUnknown, Blocks}
use Rattle.expr_reader.specs.declared.fault.Fault.{Fault}
use Rattle.expr_reader.specs.declared.fault.Fault.TheVariants.{BadChar, UnknownName, UnknownFunction}
use Rattle.expr_reader.specs.declared.token.Mark.TheVariants.{Open, Close, OpenIndex, CloseIndex, Dot, Comma, Star, Not, Both, Either}
use Rattle.expr_reader.specs.declared.tree.Equality.TheVariants.{Equal, NotEqual}
use Rattle.expr_reader.specs.declared.tree.Relation.TheVariants.{Less, AtMost, Greater, AtLeast}
use Rattle.expr_reader.proofs.Quoted.{QuoteComes, unquoted_again, unquoted_comes}
use Rattle.expr_reader.proofs.Runs.{if_holds, run_cons, stops_head, head_stops, span_take, span_drop, spans}
use Rattle.expr_reader.proofs.Words.{root_again, callee_again, NameComes, named_comes}

-- Bytes of one class are of no other.
name_is_no_quote : (b : ℕ) → begins_name b ≡ true → nat_eq b 39 ≡ false
name_is_no_quote b h = grind (arith, nat_tests)

name_is_no_number : (b : ℕ) → begins_name b ≡ true → begins_number b ≡ false
name_is_no_number b h = grind (arith, nat_tests)

name_goes_on : (b : ℕ) → begins_name b ≡ true → is_name b ≡ true
name_goes_on b h = grind (arith, nat_tests)

name_is_not_white : (b : ℕ) → begins_name b ≡ true → is_white b ≡ false
name_is_not_white b h = grind (arith, nat_tests)

number_is_no_quote : (b : ℕ) → begins_number b ≡ true → nat_eq b 39 ≡ false
number_is_no_quote b h = grind (arith, nat_tests)

number_goes_on : (b : ℕ) → begins_number b ≡ true → is_number b ≡ true
number_goes_on b h = grind (arith, nat_tests)

number_is_not_white : (b : ℕ) → begins_number b ≡ true → is_white b ≡ false
number_is_not_white b h = grind (arith, nat_tests)

-- A name at the front.
word_again : (dotted : Bool) (w rest : List ℕ) → IsWord w → Stops is_name rest → next_at dotted (w ++ rest) ≡ some_token (word_token dotted w rest)
word_again dotted [] rest word ends = absurd word
word_again dotted (b ∷ bs) rest word ends =
    let all : List ℕ = b ∷ (bs ++ rest) in
    ap some_token
    (cond-false (nat_eq b 39) (quoted_token (unquoted (bs ++ rest))) (cond (begins_number b) (number_at all) (cond (begins_name b) (word_at dotted all) (operator_at b (bs ++ rest)))) (name_is_no_quote b word.0)
    ∙ cond-false (begins_number b) (number_at all) (cond (begins_name b) (word_at dotted all) (operator_at b (bs ++ rest))) (name_is_no_number b word.0)
    ∙ cond-true (begins_name b) (word_at dotted all) (operator_at b (bs ++ rest)) word.0
    ∙ ap (λ (z : List ℕ). word_token dotted z (drop (prefix_len is_name all) all)) (span_take is_name (b ∷ bs) rest word.1 ends)
    ∙ ap (λ (z : List ℕ). word_token dotted (b ∷ bs) z) (span_drop is_name (b ∷ bs) rest word.1 ends))

-- A number at the front.
number_again : (dotted : Bool) (w rest : List ℕ) → IsNumeral w → Stops is_number rest → next_at dotted (w ++ rest) ≡ some_token (number_token (number_of w) rest)
number_again dotted [] rest numeral ends = absurd numeral
number_again dotted (b ∷ bs) rest numeral ends =
    let all : List ℕ = b ∷ (bs ++ rest) in
    ap some_token
    (cond-false (nat_eq b 39) (quoted_token (unquoted (bs ++ rest))) (cond (begins_number b) (number_at all) (cond (begins_name b) (word_at dotted all) (operator_at b (bs ++ rest)))) (number_is_no_quote b numeral.0)
    ∙ cond-true (begins_number b) (number_at all) (cond (begins_name b) (word_at dotted all) (operator_at b (bs ++ rest))) numeral.0
    ∙ ap (λ (z : List ℕ). number_token (number_of z) (drop (prefix_len is_number all) all)) (span_take is_number (b ∷ bs) rest numeral.1 ends)
    ∙ ap (λ (z : List ℕ). number_token (number_of (b ∷ bs)) z) (span_drop is_number (b ∷ bs) rest numeral.1 ends))

-- A token at the front, with nothing white before it.
abbrev Fronts : Bool → Token → List ℕ → List ℕ → Type 0
Fronts dotted t own rest = Stops is_white (own ++ rest) × (next_at dotted (own ++ rest) ≡ Ok (Some (t, rest)))

word_front : (w rest : List ℕ) → IsWord w → Stops is_white (w ++ rest)
word_front [] rest word = absurd word
word_front (b ∷ bs) rest word = stops_head is_white b (bs ++ rest) (name_is_not_white b word.0)

number_front : (w rest : List ℕ) → IsNumeral w → Stops is_white (w ++ rest)
number_front [] rest numeral = absurd numeral
number_front (b ∷ bs) rest numeral = stops_head is_white b (bs ++ rest) (number_is_not_white b numeral.0)

named_front : (dotted : Bool) (t : Token) (w rest : List ℕ) → IsWord w → Stops is_name rest → dotted ≡ false → named w ≡ Some t → Fronts dotted t w rest
named_front dotted t w rest word ends plain known =
    (word_front w rest word, word_again dotted w rest word ends ∙ ap (λ (d : Bool). some_token (word_token d w rest)) plain ∙ ap (λ (o : Option Token). some_token (known_token o rest)) known)

pub paired_alone : (one two : Token) (rest : List ℕ) → Stops (is_byte 61) rest → paired one two rest ≡ (one, rest)
paired_alone one two [] h = refl
paired_alone one two (b ∷ bs) h = cond-false (nat_eq b 61) (two, bs) (one, b ∷ bs) (head_stops (is_byte 61) b bs h)

token_again : (dotted : Bool) (t : Token) (own rest : List ℕ) → SpellsToken t own → EndsToken t rest → Fits dotted t → Fronts dotted t own rest
token_again dotted (constant null) own rest spelled ends fits =
    subst (λ (w : List ℕ). Fronts dotted (constant null) w rest) (sym spelled) (named_front dotted (constant null) (codes "null") rest (refl, refl) ends fits refl)
token_again dotted (constant (truth true)) own rest spelled ends fits =
    subst (λ (w : List ℕ). Fronts dotted (constant (truth true)) w rest) (sym spelled) (named_front dotted (constant (truth true)) (codes "true") rest (refl, refl) ends fits refl)
token_again dotted (constant (truth false)) own rest spelled ends fits =
    subst (λ (w : List ℕ). Fronts dotted (constant (truth false)) w rest) (sym spelled) (named_front dotted (constant (truth false)) (codes "false") rest (refl, refl) ends fits refl)
token_again dotted (constant (whole z)) own rest spelled ends fits =
    (number_front own rest spelled.0, number_again dotted own rest spelled.0 ends ∙ ap (λ (o : Option ℤ). some_token (number_token o rest)) spelled.1)
token_again dotted (constant (quoted q)) own rest spelled ends fits =
    subst (λ (w : List ℕ). Fronts dotted (constant (quoted q)) w rest) (sym spelled) (refl, ap (λ (o : Option (List ℕ × List ℕ)). some_token (quoted_token o)) (unquoted_again q rest ends))
token_again dotted (root c) own rest spelled ends fits = named_front dotted (root c) own rest spelled.0 ends fits (root_again c own spelled.1)
token_again dotted (callee f) own rest spelled ends fits = named_front dotted (callee f) own rest spelled.0 ends fits (callee_again f own spelled.1)
token_again dotted (name w) own rest spelled ends fits =
    (word_front own rest spelled.0, word_again dotted own rest spelled.0 ends ∙ ap (λ (d : Bool). some_token (word_token d own rest)) fits ∙ ap (λ (z : List ℕ). Ok (Some (name z, rest))) spelled.1)
token_again dotted (relational Less) own rest spelled ends fits =
    subst (λ (w : List ℕ). Fronts dotted (relational Less) w rest) (sym spelled) (refl, ap (λ (x : Lexed). Ok (Some x)) (paired_alone (relational Less) (relational AtMost) rest ends))
token_again dotted (relational AtMost) own rest spelled ends fits = subst (λ (w : List ℕ). Fronts dotted (relational AtMost) w rest) (sym spelled) (refl, refl)
token_again dotted (relational Greater) own rest spelled ends fits =
    subst (λ (w : List ℕ). Fronts dotted (relational Greater) w rest) (sym spelled) (refl, ap (λ (x : Lexed). Ok (Some x)) (paired_alone (relational Greater) (relational AtLeast) rest ends))
token_again dotted (relational AtLeast) own rest spelled ends fits = subst (λ (w : List ℕ). Fronts dotted (relational AtLeast) w rest) (sym spelled) (refl, refl)
token_again dotted (equational Equal) own rest spelled ends fits = subst (λ (w : List ℕ). Fronts dotted (equational Equal) w rest) (sym spelled) (refl, refl)
token_again dotted (equational NotEqual) own rest spelled ends fits = subst (λ (w : List ℕ). Fronts dotted (equational NotEqual) w rest) (sym spelled) (refl, refl)
token_again dotted (mark Open) own rest spelled ends fits = subst (λ (w : List ℕ). Fronts dotted (mark Open) w rest) (sym spelled) (refl, refl)
token_again dotted (mark Close) own rest spelled ends fits = subst (λ (w : List ℕ). Fronts dotted (mark Close) w rest) (sym spelled) (refl, refl)
token_again dotted (mark OpenIndex) own rest spelled ends fits = subst (λ (w : List ℕ). Fronts dotted (mark OpenIndex) w rest) (sym spelled) (refl, refl)
token_again dotted (mark CloseIndex) own rest spelled ends fits = subst (λ (w : List ℕ). Fronts dotted (mark CloseIndex) w rest) (sym spelled) (refl, refl)
token_again dotted (mark Dot) own rest spelled ends fits = subst (λ (w : List ℕ). Fronts dotted (mark Dot) w rest) (sym spelled) (refl, refl)
token_again dotted (mark Comma) own rest spelled ends fits = subst (λ (w : List ℕ). Fronts dotted (mark Comma) w rest) (sym spelled) (refl, refl)
token_again dotted (mark Star) own rest spelled ends fits = subst (λ (w : List ℕ). Fronts dotted (mark Star) w rest) (sym spelled) (refl, refl)
token_again dotted (mark Not) own rest spelled ends fits =
    subst (λ (w : List ℕ). Fronts dotted (mark Not) w rest) (sym spelled) (refl, ap (λ (x : Lexed). Ok (Some x)) (paired_alone (mark Not) (equational NotEqual) rest ends))
token_again dotted (mark Both) own rest spelled ends fits = subst (λ (w : List ℕ). Fronts dotted (mark Both) w rest) (sym spelled) (refl, refl)
token_again dotted (mark Either) own rest spelled ends fits = subst (λ (w : List ℕ). Fronts dotted (mark Either) w rest) (sym spelled) (refl, refl)

-- A token that the text begins with is read.
pub next_again : (dotted : Bool) (text : List ℕ) (t : Token) (rest : List ℕ) → Begins text t rest → Fits dotted t → next dotted text ≡ Ok (Some (t, rest))
next_again dotted text t rest b fits =
    let front = token_again dotted t b.own rest b.spelled b.ends fits in
    ap (next dotted) b.same ∙ ap (next_at dotted) (span_drop is_white b.white (b.own ++ rest) b.blank front.0) ∙ front.1

pub blank_skipped : (text : List ℕ) → IsRun is_white text → skip_white text ≡ []
blank_skipped text h = ap (λ (n : ℕ). drop n text) h ∙ sym (ap (λ (z : List ℕ). drop (length text) z) (append-nil text)) ∙ drop-append_seam text []

-- At the end there is none.
pub next_none : (dotted : Bool) (text : List ℕ) → IsRun is_white text → next dotted text ≡ Ok None
next_none dotted text h = ap (next_at dotted) (blank_skipped text h)

-- What a token that is read is: its own bytes at the front.
abbrev TokenComes : List ℕ → Result Lexed Fault → Type 0
TokenComes bs (Ok x) = (own : List ℕ) × SpellsToken x.0 own × EndsToken x.0 x.1 × (bs ≡ own ++ x.1)
TokenComes bs (Err f) = Blocks bs f

quote_comes : (bs : List ℕ) (r : Option (List ℕ × List ℕ)) → unquoted bs ≡ r → QuoteComes bs r → TokenComes (39 ∷ bs) (quoted_token r)
quote_comes bs None missing h = record { inside = bs; same = refl; open_ended = λ q rest stops same. cc (unquoted_again q rest stops, ap unquoted same) }
quote_comes bs (Some x) found h = (39 ∷ doubled x.0, refl, h.1, ap (λ (z : List ℕ). 39 ∷ z) h.0)

front_taken : (p : ℕ → Bool) (b : ℕ) (bs : List ℕ) → p b ≡ true → take (prefix_len p (b ∷ bs)) (b ∷ bs) ≡ b ∷ take (prefix_len p bs) bs
front_taken p b bs h =
    let n : prefix_len p (b ∷ bs) ≡ suc (prefix_len p bs) = cond-true (p b) (1 + prefix_len p bs) 0 h ∙ omega arith in
    ap (λ (k : ℕ). take k (b ∷ bs)) n

numeral_front : (b : ℕ) (bs : List ℕ) → begins_number b ≡ true → IsNumeral (take (prefix_len is_number (b ∷ bs)) (b ∷ bs))
numeral_front b bs h = subst IsNumeral (sym (front_taken is_number b bs (number_goes_on b h))) (h, run_cons is_number b (take (prefix_len is_number bs) bs) (number_goes_on b h) (spans is_number bs).run)

name_front : (b : ℕ) (bs : List ℕ) → begins_name b ≡ true → IsWord (take (prefix_len is_name (b ∷ bs)) (b ∷ bs))
name_front b bs h = subst IsWord (sym (front_taken is_name b bs (name_goes_on b h))) (h, run_cons is_name b (take (prefix_len is_name bs) bs) (name_goes_on b h) (spans is_name bs).run)

number_comes : (bs w rest : List ℕ) (o : Option ℤ) → IsNumeral w → Stops is_number rest → bs ≡ w ++ rest → number_of w ≡ o → TokenComes bs (number_token o rest)
number_comes bs w rest None numeral ends same missing = record { run = w; rest = rest; numeral = numeral; ends = ends; same = same; none = λ z h. cc }
number_comes bs w rest (Some z) numeral ends same found = (w, (numeral, found), ends, same)

-- A name that has no meaning is unknown.
unknown_word : (w : List ℕ) → named w ≡ None → IsUnknown w
unknown_word w none = record {
  no_context = λ c h. cc (root_again c w h);
  no_function = λ f h. cc (callee_again f w h);
  no_literal = (λ h. is_known (codes "null") (constant null) h refl, λ h. is_known (codes "true") (constant (truth true)) h refl, λ h. is_known (codes "false") (constant (truth false)) h refl);
}
  where
    is_known : (v : List ℕ) (t : Token) → w ≡ v → named v ≡ Some t → ⊥
    is_known v t h known = cc (ap named h, known, none)

-- A parenthesis follows, or none does.
call_follows : (rest bs : List ℕ) → skip_white rest ≡ bs → begins_call bs ≡ true → (after : List ℕ) × Begins rest (mark Open) after
call_follows rest [] at h = cc
call_follows rest (b ∷ bs) at h = (
  bs,
  record {
    white = take (prefix_len is_white rest) rest;
    own = 40 ∷ [];
    blank = (spans is_white rest).run;
    spelled = refl;
    ends = tt;
    same = sym (take-append-drop (prefix_len is_white rest) rest) ∙ ap (λ (z : List ℕ). take (prefix_len is_white rest) rest ++ z) (at ∙ ap (λ (c : ℕ). c ∷ bs) (eqb-true b 40 h));
  },
)

no_call_follows : (rest : List ℕ) → begins_call (skip_white rest) ≡ false → (after : List ℕ) → Begins rest (mark Open) after → ⊥
no_call_follows rest h after b =
    let at : skip_white rest ≡ b.own ++ after = ap skip_white b.same ∙ span_drop is_white b.white (b.own ++ after) b.blank (subst (λ (w : List ℕ). Stops is_white (w ++ after)) (sym b.spelled) refl) in
    let opens : begins_call (b.own ++ after) ≡ true = subst (λ (w : List ℕ). begins_call (w ++ after) ≡ true) (sym b.spelled) refl in
    cc (ap begins_call at, opens, h)

known_comes : (bs w rest : List ℕ) (o : Option Token) → IsWord w → Stops is_name rest → bs ≡ w ++ rest → named w ≡ o → NameComes w o → TokenComes bs (known_token o rest)
known_comes bs w rest None word ends same none h =
    if_holds (λ f. Blocks bs f) (begins_call (skip_white rest)) UnknownFunction UnknownName
    (λ test. let call = call_follows rest (skip_white rest) refl test in record { word = w; rest = rest; after = call.0; is_word = word; ends = ends; same = same; unknown = unknown_word w none; called = call.1 })
    (λ test. record { word = w; rest = rest; is_word = word; ends = ends; same = same; unknown = unknown_word w none; no_call = no_call_follows rest test })
known_comes bs w rest (Some t) word ends same known h = (w, h.0, h.1 rest ends, same)

word_comes : (dotted : Bool) (bs w rest : List ℕ) → IsWord w → Stops is_name rest → bs ≡ w ++ rest → TokenComes bs (word_token dotted w rest)
word_comes true bs w rest word ends same = (w, (word, refl), ends, same)
word_comes false bs w rest word ends same = known_comes bs w rest (named w) word ends same refl (named_comes w word)

-- What an operator that is read is.
abbrev OperatorComes : List ℕ → Result Lexed Fault → Type 0
OperatorComes bs (Ok x) = (own : List ℕ) × SpellsToken x.0 own × EndsToken x.0 x.1 × (bs ≡ own ++ x.1)
OperatorComes bs (Err f) = f ≡ BadChar

mark_comes : (b c : ℕ) (bs : List ℕ) (t : Token) → SpellsToken t (c ∷ []) → EndsToken t bs → nat_eq b c ≡ true → OperatorComes (b ∷ bs) (Ok (t, bs))
mark_comes b c bs t spelled ends test = (c ∷ [], spelled, ends, ap (λ (z : ℕ). z ∷ bs) (eqb-true b c test))

paired_comes : (b c : ℕ) (one two : Token) (bs : List ℕ) → SpellsToken one (c ∷ []) → ((rest : List ℕ) → Stops (is_byte 61) rest → EndsToken one rest) → SpellsToken two (c ∷ 61 ∷ []) → ((rest : List ℕ) → EndsToken two rest) → nat_eq b c ≡ true → OperatorComes (b ∷ bs) (Ok (paired one two bs))
paired_comes b c one two [] first alone second longer test = (c ∷ [], first, alone [] refl, ap (λ (z : ℕ). z ∷ []) (eqb-true b c test))
paired_comes b c one two (d ∷ bs) first alone second longer test =
    if_holds (λ x. OperatorComes (b ∷ d ∷ bs) (Ok x)) (nat_eq d 61) (two, bs) (one, d ∷ bs)
    (λ h. (c ∷ 61 ∷ [], second, longer bs, ap (λ (z : ℕ). z ∷ d ∷ bs) (eqb-true b c test) ∙ ap (λ (z : ℕ). c ∷ z ∷ bs) (eqb-true d 61 h)))
    (λ h. (c ∷ [], first, alone (d ∷ bs) (stops_head (is_byte 61) d bs h), ap (λ (z : ℕ). z ∷ d ∷ bs) (eqb-true b c test)))

followed_comes : (b c : ℕ) (t : Token) (bs : List ℕ) → SpellsToken t (c ∷ c ∷ []) → ((rest : List ℕ) → EndsToken t rest) → nat_eq b c ≡ true → OperatorComes (b ∷ bs) (followed c t bs)
followed_comes b c t [] spelled ends test = refl
followed_comes b c t (d ∷ bs) spelled ends test =
    if_holds (OperatorComes (b ∷ d ∷ bs)) (nat_eq d c) (Ok (t, bs)) (Err BadChar)
    (λ h. (c ∷ c ∷ [], spelled, ends bs, ap (λ (z : ℕ). z ∷ d ∷ bs) (eqb-true b c test) ∙ ap (λ (z : ℕ). c ∷ z ∷ bs) (eqb-true d c h)))
    (λ h. refl)

-- One choice of the operators' chain.
choose : (bs : List ℕ) (b : Bool) (x y : Result Lexed Fault) → (b ≡ true → OperatorComes bs x) → OperatorComes bs y → OperatorComes bs (cond b x y)
choose bs b x y here there = if_holds (OperatorComes bs) b x y here (λ _. there)

operator_comes : (b : ℕ) (bs : List ℕ) → OperatorComes (b ∷ bs) (operator_at b bs)
operator_comes b bs =
    choose (b ∷ bs) (nat_eq b 40) _ _ (mark_comes b 40 bs (mark Open) refl tt)
    (choose (b ∷ bs) (nat_eq b 41) _ _ (mark_comes b 41 bs (mark Close) refl tt)
    (choose (b ∷ bs) (nat_eq b 91) _ _ (mark_comes b 91 bs (mark OpenIndex) refl tt)
    (choose (b ∷ bs) (nat_eq b 93) _ _ (mark_comes b 93 bs (mark CloseIndex) refl tt)
    (choose (b ∷ bs) (nat_eq b 46) _ _ (mark_comes b 46 bs (mark Dot) refl tt)
    (choose (b ∷ bs) (nat_eq b 44) _ _ (mark_comes b 44 bs (mark Comma) refl tt)
    (choose (b ∷ bs) (nat_eq b 42) _ _ (mark_comes b 42 bs (mark Star) refl tt)
    (choose (b ∷ bs) (nat_eq b 33) _ _ (paired_comes b 33 (mark Not) (equational NotEqual) bs refl (λ rest h. h) refl (λ rest. tt))
    (choose (b ∷ bs) (nat_eq b 60) _ _ (paired_comes b 60 (relational Less) (relational AtMost) bs refl (λ rest h. h) refl (λ rest. tt))
    (choose (b ∷ bs) (nat_eq b 62) _ _ (paired_comes b 62 (relational Greater) (relational AtLeast) bs refl (λ rest h. h) refl (λ rest. tt))
    (choose (b ∷ bs) (nat_eq b 61) _ _ (followed_comes b 61 (equational Equal) bs refl (λ rest. tt))
    (choose (b ∷ bs) (nat_eq b 38) _ _ (followed_comes b 38 (mark Both) bs refl (λ rest. tt))
    (choose (b ∷ bs) (nat_eq b 124) _ _ (followed_comes b 124 (mark Either) bs refl (λ rest. tt))
    refl))))))))))))

-- Whether a dot has to stand before a token.
abbrev dotted_for : Token → Bool
dotted_for (name w) = true
dotted_for t = false

fits_so : (t : Token) → Fits (dotted_for t) t
fits_so (constant null) = refl
fits_so (constant (truth b)) = refl
fits_so (constant (whole z)) = tt
fits_so (constant (quoted q)) = tt
fits_so (root c) = refl
fits_so (callee f) = refl
fits_so (name w) = refl
fits_so (relational r) = tt
fits_so (equational q) = tt
fits_so (mark m) = tt

-- Bytes that begin no token whether a dot stands before or not.
no_operator : (b : ℕ) (bs : List ℕ) → is_white b ≡ false → nat_eq b 39 ≡ false → begins_number b ≡ false → begins_name b ≡ false → operator_at b bs ≡ Err BadChar → IsNoToken (b ∷ bs)
no_operator b bs white quote number word none = record {
  first = b;
  after = bs;
  same = refl;
  no_quote = λ h. cc (eq-eqb b 39 h, quote);
  no_number = number;
  no_name = word;
  no_token = λ t rest begins. cc (blocked (dotted_for t), next_again (dotted_for t) (b ∷ bs) t rest begins (fits_so t));
}
  where
    blocked : (dotted : Bool) → next dotted (b ∷ bs) ≡ Err BadChar
    blocked dotted =
        ap (λ (n : ℕ). next_at dotted (drop n (b ∷ bs))) (stops_head is_white b bs white)
        ∙ ap some_token
        (cond-false (nat_eq b 39) (quoted_token (unquoted bs)) (cond (begins_number b) (number_at (b ∷ bs)) (cond (begins_name b) (word_at dotted (b ∷ bs)) (operator_at b bs))) quote
        ∙ cond-false (begins_number b) (number_at (b ∷ bs)) (cond (begins_name b) (word_at dotted (b ∷ bs)) (operator_at b bs)) number
        ∙ cond-false (begins_name b) (word_at dotted (b ∷ bs)) (operator_at b bs) word
        ∙ none)

operator_blocks : (b : ℕ) (bs : List ℕ) (r : Result Lexed Fault) → is_white b ≡ false → nat_eq b 39 ≡ false → begins_number b ≡ false → begins_name b ≡ false → operator_at b bs ≡ r → OperatorComes (b ∷ bs) r → TokenComes (b ∷ bs) r
operator_blocks b bs (Ok x) white quote number word at h = h
operator_blocks b bs (Err f) white quote number word at h = subst (λ (g : Fault). Blocks (b ∷ bs) g) (sym h) (no_operator b bs white quote number word (at ∙ ap (λ (g : Fault). Err g) h))

token_comes : (dotted : Bool) (b : ℕ) (bs : List ℕ) → is_white b ≡ false → TokenComes (b ∷ bs) (token_at dotted b bs)
token_comes dotted b bs white =
    if_holds (TokenComes (b ∷ bs)) (nat_eq b 39) (quoted_token (unquoted bs)) (cond (begins_number b) (number_at (b ∷ bs)) (cond (begins_name b) (word_at dotted (b ∷ bs)) (operator_at b bs)))
    (λ quote. subst (λ (c : ℕ). TokenComes (c ∷ bs) (quoted_token (unquoted bs))) (sym (eqb-true b 39 quote)) (quote_comes bs (unquoted bs) refl (unquoted_comes bs)))
    (λ quote. if_holds (TokenComes (b ∷ bs)) (begins_number b) (number_at (b ∷ bs)) (cond (begins_name b) (word_at dotted (b ∷ bs)) (operator_at b bs))
    (λ number. number_comes (b ∷ bs) (take (prefix_len is_number (b ∷ bs)) (b ∷ bs)) (drop (prefix_len is_number (b ∷ bs)) (b ∷ bs)) (number_of (take (prefix_len is_number (b ∷ bs)) (b ∷ bs))) (numeral_front b bs number) (spans is_number (b ∷ bs)).stops (sym (take-append-drop (prefix_len is_number (b ∷ bs)) (b ∷ bs))) refl)
    (λ number. if_holds (TokenComes (b ∷ bs)) (begins_name b) (word_at dotted (b ∷ bs)) (operator_at b bs)
    (λ word. word_comes dotted (b ∷ bs) (take (prefix_len is_name (b ∷ bs)) (b ∷ bs)) (drop (prefix_len is_name (b ∷ bs)) (b ∷ bs)) (name_front b bs word) (spans is_name (b ∷ bs)).stops (sym (take-append-drop (prefix_len is_name (b ∷ bs)) (b ∷ bs))))
    (λ word. operator_blocks b bs (operator_at b bs) white quote number word refl (operator_comes b bs))))

-- What comes next: the end, a token that the text begins with, or what stands in its place.
abbrev pub Comes : List ℕ → Result (Option Lexed) Fault → Type 0
Comes text (Ok None) = IsRun is_white text
Comes text (Ok (Some x)) = Begins text x.0 x.1
Comes text (Err f) = Blocks (skip_white text) f

some_comes : (text bs : List ℕ) (r : Result Lexed Fault) → skip_white text ≡ bs → TokenComes bs r → Comes text (some_token r)
some_comes text bs (Ok x) at h = record {
  white = take (prefix_len is_white text) text;
  own = h.0;
  blank = (spans is_white text).run;
  spelled = h.1;
  ends = h.2;
  same = sym (take-append-drop (prefix_len is_white text) text) ∙ ap (λ (z : List ℕ). take (prefix_len is_white text) text ++ z) (at ∙ h.3);
}
some_comes text bs (Err f) at h = subst (λ (z : List ℕ). Blocks z f) (sym at) h

comes_at : (dotted : Bool) (text bs : List ℕ) → skip_white text ≡ bs → Stops is_white bs → Comes text (next_at dotted bs)
comes_at dotted text [] at stops =
    let whole : take (prefix_len is_white text) text ≡ text = sym (append-nil (take (prefix_len is_white text) text)) ∙ ap (λ (z : List ℕ). take (prefix_len is_white text) text ++ z) (sym at) ∙ take-append-drop (prefix_len is_white text) text in
    subst (IsRun is_white) whole (spans is_white text).run
comes_at dotted text (b ∷ bs) at stops = some_comes text (b ∷ bs) (token_at dotted b bs) at (token_comes dotted b bs (head_stops is_white b bs stops))

pub next_comes : (dotted : Bool) (text : List ℕ) → Comes text (next dotted text)
next_comes dotted text = comes_at dotted text (skip_white text) refl (spans is_white text).stops

-- What the text begins with stands where its white space ends.
pub skipped : (text : List ℕ) (t : Token) (rest : List ℕ) (b : Begins text t rest) → skip_white text ≡ b.own ++ rest
skipped text t rest b = ap skip_white b.same ∙ span_drop is_white b.white (b.own ++ rest) b.blank (token_again (dotted_for t) t b.own rest b.spelled b.ends (fits_so t)).0

pub followed_by_none : (c : ℕ) (t : Token) (rest : List ℕ) → Stops (is_byte c) rest → followed c t rest ≡ Err BadChar
followed_by_none c t [] h = refl
followed_by_none c t (b ∷ bs) h = cond-false (nat_eq b c) (Ok (t, bs)) (Err BadChar) (head_stops (is_byte c) b bs h)

-- No operator begins with a byte above ASCII.
pub no_operator_above : (b : ℕ) (bs : List ℕ) → 128 ≤ b → operator_at b bs ≡ Err BadChar
no_operator_above b bs h = other 40 _ _ (omega arith) ∙ other 41 _ _ (omega arith) ∙ other 91 _ _ (omega arith) ∙ other 93 _ _ (omega arith) ∙ other 46 _ _ (omega arith) ∙ other 44 _ _ (omega arith) ∙ other 42 _ _ (omega arith) ∙ other 33 _ _ (omega arith) ∙ other 60 _ _ (omega arith) ∙ other 62 _ _ (omega arith) ∙ other 61 _ _ (omega arith) ∙ other 38 _ _ (omega arith) ∙ other 124 _ _ (omega arith)
  where
    other : (c : ℕ) (x y : Result Lexed Fault) → c < 128 → cond (nat_eq b c) x y ≡ y
    other c x y low = let test : nat_eq b c ≡ false = grind (arith, nat_tests) in cond-false (nat_eq b c) x y test
