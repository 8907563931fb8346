-- A text is read as the tree that it spells, and as no other.
use Rattle.std.proofs.Common.{◌≡◌, ◌≢◌, ℕ, zero, suc, ◌<◌, ◌≤◌, Bool, true, false, Result, Ok, Err, Option, Some, None, List, [], ◌∷◌, ◌++◌, length, take, drop, refl, sym, ap, subst, ◌∙◌, append_assoc, append-nil, length-append, arith}
use Rattle.std.proofs.lemmas.List.{take-append-drop}
use Rattle.std.specs.List.{prefix_len}
use Rattle.std.specs.Prelude.{codes}
use Rattle.expr_reader.specs.Bytes.{is_white, skip_white, IsRun, Stops, IsWord, IsNumeral}
use Rattle.expr_reader.specs.Expr.{null, truth, whole, quoted, Expr, group, property, index, wildcard, exprs_of, depth}
use Rattle.expr_reader.specs.Grammar.{Token, constant, root, callee, name, relational, equational, mark, tokens, Shaped}
use Rattle.expr_reader.specs.Lexer.{Lexed, next_at, next}
use Rattle.expr_reader.specs.Wrong.{Wrong}
use Rattle.expr_reader.specs.Machine.{Part, equality_of, relation_of, group_of, index_of, call_of, State, want, have, dotted, called, starred, is_dotted, both_more, either_more, have_made, end_argument, star_index, Limits, limits, node, called_with, close_relation, close_equality, close_both, close_either, end_round, end_index, end_empty, have_mark, have_step, step, run, finish, parse}
use Rattle.expr_reader.specs.Outcome.{◌>>=◌}
use Rattle.expr_reader.specs.Reading.{Failure, placed, after_step, after_token, reads}
use Rattle.expr_reader.specs.Spelling.{SpellsToken, Begins, Lexes}
use Rattle.expr_reader.specs.Stands.{Fits, is_dot, ends_dotted, Leads, BeginNoTree, BeginNoFormed, AreNoFormed, GoesOnNoTree, BeginsNone, Stands, at_bytes, at_token, at_end}
use Rattle.expr_reader.specs.declared.fault.Fault.{Fault}
use Rattle.expr_reader.specs.declared.fault.Fault.TheVariants.{UnclosedText, BadNumber, BadChar, Unexpected, UnknownName, UnknownFunction, ArgumentCount, TooDeep, TooLong, UnclosedTemplate, StatusHere}
use Rattle.expr_reader.specs.declared.token.Mark.TheVariants.{Open, Close, OpenIndex, CloseIndex, Dot, Comma, Star, Not, Both, Either}
use Rattle.expr_reader.specs.declared.tree.Equality.TheVariants.{Equal, NotEqual}
use Rattle.expr_reader.specs.declared.tree.Wildcard.TheVariants.{Dotted, Bracketed}
use Rattle.expr_reader.specs.declared.tree.Relation.TheVariants.{Less, AtMost, Greater, AtLeast}
use Rattle.expr_reader.proofs.Complete.{no_limits, parse_again, parse_free}
use Rattle.expr_reader.proofs.Fitting.{ends_last, next_fits}
use Rattle.expr_reader.proofs.Lexing.{next_again, next_none, Comes, next_comes, skipped, blank_skipped}
use Rattle.expr_reader.proofs.Runs.{spans}
use Rattle.expr_reader.proofs.Sound.{Holds, Amiss, After, state_tokens, sound_step, Tokenized, sound_finish}
use Rattle.expr_reader.proofs.Unlimited.{Same, step_same, run_same, finish_same}

-- A token that a state takes is a property's name after a dot, and only there.
step_fits : (st : State) (t : Token) (after : State) → step limits st t ≡ Ok after → Fits (is_dotted st) t
step_fits (dotted e s) (constant null) after h = cc
step_fits (dotted e s) (constant (truth b)) after h = cc
step_fits (dotted e s) (constant (whole z)) after h = tt
step_fits (dotted e s) (constant (quoted q)) after h = tt
step_fits (dotted e s) (root c) after h = cc
step_fits (dotted e s) (callee f) after h = cc
step_fits (dotted e s) (name w) after h = refl
step_fits (dotted e s) (relational r) after h = tt
step_fits (dotted e s) (equational q) after h = tt
step_fits (dotted e s) (mark m) after h = tt
step_fits st (constant null) after h = refl
step_fits st (constant (truth b)) after h = refl
step_fits st (constant (whole z)) after h = tt
step_fits st (constant (quoted q)) after h = tt
step_fits st (root c) after h = refl
step_fits st (callee f) after h = refl
step_fits st (name w) after h = cc
step_fits st (relational r) after h = tt
step_fits st (equational q) after h = tt
step_fits st (mark m) after h = tt

-- Where a step gives a state, no dot came last.
abbrev NoDot : Result State Fault → Type 0
NoDot (Ok st) = is_dotted st ≡ false
NoDot (Err f) = Unit {0}

then_no_dot : {A : Type 0} (r : Result A Fault) (f : A → Result State Fault) → ((x : A) → NoDot (f x)) → NoDot (r >>= f)
then_no_dot (Ok x) f h = h x
then_no_dot (Err e) f h = tt

made_no_dot : (s : List Part) (made : Result Expr Fault) → NoDot (have_made s made)
made_no_dot s made = then_no_dot made (λ e. Ok (have e s)) (λ e. refl)

round_no_dot : (e : Expr) (s : List Part) → NoDot (end_round limits e s)
round_no_dot e (group_of ∷ s) = made_no_dot s (node limits (group e))
round_no_dot e (call_of f es ∷ s) = made_no_dot s (called_with limits f (exprs_of (es ++ e ∷ [])))
round_no_dot e s = tt

index_no_dot : (e : Expr) (s : List Part) → NoDot (end_index limits e s)
index_no_dot e (index_of a ∷ s) = made_no_dot s (node limits (index a e))
index_no_dot e s = tt

argument_no_dot : (e : Expr) (s : List Part) → NoDot (end_argument e s)
argument_no_dot e (call_of f es ∷ s) = refl
argument_no_dot e s = tt

empty_no_dot : (s : List Part) → NoDot (end_empty limits s)
empty_no_dot (call_of f [] ∷ s) = made_no_dot s (called_with limits f (exprs_of []))
empty_no_dot s = tt

star_no_dot : (s : List Part) → NoDot (star_index s)
star_no_dot (index_of a ∷ s) = refl
star_no_dot s = tt

-- A dot comes last after the token, if it is one.
abbrev Dots : Bool → Result State Fault → Type 0
Dots d (Ok st) = is_dotted st ≡ d
Dots d (Err f) = Unit {0}

no_dots : (r : Result State Fault) → NoDot r → Dots false r
no_dots (Ok st) h = h
no_dots (Err f) h = tt

dots : (st : State) (t : Token) → Dots (is_dot t) (step limits st t)
dots (want s) (mark Close) = no_dots (end_empty limits s) (empty_no_dot s)
dots (want s) (mark Star) = no_dots (star_index s) (star_no_dot s)
dots (want s) (mark Open) = refl
dots (want s) (mark Not) = refl
dots (want s) (constant l) = refl
dots (want s) (root c) = refl
dots (want s) (callee f) = refl
dots (want s) t = tt
dots (have e s) (relational r) = no_dots (have_step limits e s (relational r)) (then_no_dot (close_relation limits e s) (λ x. Ok (want (relation_of r x.0 ∷ x.1))) (λ x. refl))
dots (have e s) (equational q) = no_dots (have_step limits e s (equational q)) (then_no_dot (close_equality limits e s) (λ x. Ok (want (equality_of q x.0 ∷ x.1))) (λ x. refl))
dots (have e s) (mark Close) = no_dots (have_mark limits e s Close) (then_no_dot (close_either limits e s) (λ x. end_round limits x.0 x.1) (λ x. round_no_dot x.0 x.1))
dots (have e s) (mark OpenIndex) = refl
dots (have e s) (mark CloseIndex) = no_dots (have_mark limits e s CloseIndex) (then_no_dot (close_either limits e s) (λ x. end_index limits x.0 x.1) (λ x. index_no_dot x.0 x.1))
dots (have e s) (mark Dot) = refl
dots (have e s) (mark Comma) = no_dots (have_mark limits e s Comma) (then_no_dot (close_either limits e s) (λ x. end_argument x.0 x.1) (λ x. argument_no_dot x.0 x.1))
dots (have e s) (mark Both) = no_dots (have_mark limits e s Both) (then_no_dot (close_equality limits e s) (λ x. Ok (want (both_more x.0 x.1))) (λ x. refl))
dots (have e s) (mark Either) = no_dots (have_mark limits e s Either) (then_no_dot (close_both limits e s) (λ x. Ok (want (either_more x.0 x.1))) (λ x. refl))
dots (have e s) t = tt
dots (dotted e s) (name w) = no_dots (have_made s (node limits (property e w))) (made_no_dot s (node limits (property e w)))
dots (dotted e s) (mark Star) = no_dots (have_made s (node limits (wildcard Dotted e))) (made_no_dot s (node limits (wildcard Dotted e)))
dots (dotted e s) t = tt
dots (called f s) (mark Open) = refl
dots (called f s) t = tt
dots (starred e s) (mark CloseIndex) = no_dots (have_made s (node limits (wildcard Bracketed e))) (made_no_dot s (node limits (wildcard Bracketed e)))
dots (starred e s) t = tt

step_dots : (st : State) (t : Token) (after : State) → step limits st t ≡ Ok after → is_dotted after ≡ is_dot t
step_dots st t after h = subst (Dots (is_dot t)) h (dots st t)

word_long : (w : List ℕ) → IsWord w → 0 < length w
word_long [] h = absurd h
word_long (b ∷ bs) h = omega arith

numeral_long : (w : List ℕ) → IsNumeral w → 0 < length w
numeral_long [] h = absurd h
numeral_long (b ∷ bs) h = omega arith

long_as : (own text : List ℕ) → own ≡ text → 0 < length text → 0 < length own
long_as own text same h = subst (λ (w : List ℕ). 0 < length w) (sym same) h

-- A token has a byte.
token_long : (t : Token) (own : List ℕ) → SpellsToken t own → 0 < length own
token_long (constant null) own h = long_as own (codes "null") h (omega arith)
token_long (constant (truth true)) own h = long_as own (codes "true") h (omega arith)
token_long (constant (truth false)) own h = long_as own (codes "false") h (omega arith)
token_long (constant (whole z)) own h = numeral_long own h.0
token_long (constant (quoted q)) own h = subst (λ (w : List ℕ). 0 < length w) (sym h) (omega arith)
token_long (root c) own h = word_long own h.0
token_long (callee f) own h = word_long own h.0
token_long (name w) own h = word_long own h.0
token_long (relational Less) own h = long_as own (codes "<") h (omega arith)
token_long (relational AtMost) own h = long_as own (codes "<=") h (omega arith)
token_long (relational Greater) own h = long_as own (codes ">") h (omega arith)
token_long (relational AtLeast) own h = long_as own (codes ">=") h (omega arith)
token_long (equational Equal) own h = long_as own (codes "==") h (omega arith)
token_long (equational NotEqual) own h = long_as own (codes "!=") h (omega arith)
token_long (mark Open) own h = long_as own (codes "(") h (omega arith)
token_long (mark Close) own h = long_as own (codes ")") h (omega arith)
token_long (mark OpenIndex) own h = long_as own (codes "[") h (omega arith)
token_long (mark CloseIndex) own h = long_as own (codes "]") h (omega arith)
token_long (mark Dot) own h = long_as own (codes ".") h (omega arith)
token_long (mark Comma) own h = long_as own (codes ",") h (omega arith)
token_long (mark Star) own h = long_as own (codes "*") h (omega arith)
token_long (mark Not) own h = long_as own (codes "!") h (omega arith)
token_long (mark Both) own h = long_as own (codes "&&") h (omega arith)
token_long (mark Either) own h = long_as own (codes "||") h (omega arith)

-- What follows a token is shorter.
pub rest_shorter : (text : List ℕ) (t : Token) (rest : List ℕ) → Begins text t rest → length rest < length text
rest_shorter text t rest b = omega (arith, token_long t b.own b.spelled, ap length b.same, length-append b.white (b.own ++ rest), length-append b.own rest)

-- That what is spelled so is read, by fewer than n tokens.
abbrev ReadsAgain : ℕ → Type 0
ReadsAgain n = (st : State) (bs : List ℕ) (ts : List Token) (e : Expr) → length bs < n → Lexes bs ts → (run limits st ts >>= finish limits) ≡ Ok e → reads n st bs ≡ Ok e

stepped : (n : ℕ) → ReadsAgain n → (st : State) (bs : List ℕ) (t : Token) (ts : List Token) (e : Expr) (rest : List ℕ) → length rest < n → Begins bs t rest → Lexes rest ts → (r : Result State Fault) → step limits st t ≡ r → ((r >>= λ next. run limits next ts) >>= finish limits) ≡ Ok e → reads (suc n) st bs ≡ Ok e
stepped n again st bs t ts e rest fuel begins lexes (Ok after) at parsed =
    ap (after_token (reads n) st (length (skip_white bs))) (next_again (is_dotted st) bs t rest begins (step_fits st t after at))
    ∙ ap (after_step (reads n) (length (skip_white bs)) rest) at
    ∙ again after rest ts e fuel lexes parsed
stepped n again st bs t ts e rest fuel begins lexes (Err f) at parsed = cc

reads_again : (n : ℕ) → ReadsAgain n
reads_again zero st bs ts e fuel lexes parsed = absurd (omega arith)
reads_again (suc n) st bs [] e fuel lexes parsed =
    ap (after_token (reads n) st (length (skip_white bs))) (next_none (is_dotted st) bs lexes) ∙ ap (placed (length (skip_white bs))) parsed
reads_again (suc n) st bs (t ∷ ts) e fuel lexes parsed = stepped n (reads_again n) st bs t ts e lexes.0 (omega (arith, fuel, rest_shorter bs t lexes.0 lexes.1)) lexes.1 lexes.2 (step limits st t) refl parsed

run_by : (lim : Limits) (r : Result State Fault) (a b : List Token) → ((s : State) → run lim s (a ++ b) ≡ (run lim s a >>= λ s. run lim s b)) → (r >>= λ s. run lim s (a ++ b)) ≡ ((r >>= λ s. run lim s a) >>= λ s. run lim s b)
run_by lim (Ok s) a b h = h s
run_by lim (Err f) a b h = refl

-- Running over tokens and then over more.
run-append : (lim : Limits) (a b : List Token) (st : State) → run lim st (a ++ b) ≡ (run lim st a >>= λ s. run lim s b)
run-append lim [] b st = refl
run-append lim (t ∷ a) b st = run_by lim (step lim st t) a b (run-append lim a b)

-- A state that is reached by these tokens.
pub record Reached (done : List Token) (st : State) : Type 0 where
  pub after : After done st
  pub dots : ends_dotted done ≡ is_dotted st
  pub ran : run limits (want []) done ≡ Ok st

pub reached_none : Reached [] (want [])
reached_none = record { after = record { good = tt; same = refl }; dots = refl; ran = refl }

forget : (r : Result State Fault) (P : State → Type 0) (F : Fault → Type 0) → Holds r P F → Holds r P (λ f. Unit {0})
forget (Ok s) P F h = h
forget (Err f) P F h = tt

reached_more : (done : List Token) (st : State) (t : Token) (after : State) → Reached done st → step limits st t ≡ Ok after → Reached (done ++ t ∷ []) after
reached_more done st t after h at = record {
  after =
      let stepped = subst (λ (r : Result State Fault). Holds r (After (state_tokens st ++ t ∷ [])) (λ f. Unit {0})) at (forget (step limits st t) (After (state_tokens st ++ t ∷ [])) (Amiss (state_tokens st ++ t ∷ [])) (sound_step st h.after.good t)) in
      subst (λ (ts : List Token). After (ts ++ t ∷ []) after) h.after.same stepped;
  dots = ends_last done t ∙ sym (step_dots st t after at);
  ran = run-append limits done (t ∷ []) (want []) ∙ ap (λ (r : Result State Fault). r >>= λ s. run limits s (t ∷ [])) h.ran ∙ ap (λ (r : Result State Fault). r >>= λ s. Ok s) at;
}

-- What parsing gives where a state that tokens reach takes no further one, or is no whole tree's.
parse_by : (lim : Limits) (done later : List Token) (st : State) (t : Token) (f : Fault) → run lim (want []) done ≡ Ok st → step lim st t ≡ Err f → parse lim ((done ++ t ∷ []) ++ later) ≡ Err f
parse_by lim done later st t f ran at =
    let through : run lim (want []) ((done ++ t ∷ []) ++ later) ≡ Err f =
    ap (run lim (want [])) (append_assoc done (t ∷ []) later) ∙ run-append lim done (t ∷ later) (want []) ∙ ap (λ (r : Result State Fault). r >>= λ s. run lim s (t ∷ later)) ran ∙ ap (λ (r : Result State Fault). r >>= λ s. run lim s later) at in
    ap (λ (r : Result State Fault). r >>= finish lim) through

parse_end : (lim : Limits) (done : List Token) (st : State) (f : Fault) → run lim (want []) done ≡ Ok st → finish lim st ≡ Err f → parse lim done ≡ Err f
parse_end lim done st f ran at = ap (λ (r : Result State Fault). r >>= finish lim) ran ∙ at

no_tree : (lim : Limits) (e : Expr) (ts : List Token) (f : Fault) → parse lim (tokens e) ≡ Ok e → parse lim ts ≡ Err f → tokens e ≢ ts
no_tree lim e ts f again refused same = let both : Ok e ≡ Err f = sym again ∙ ap (parse lim) same ∙ refused in cc

-- Where a state takes no token, the tokens up to it begin no tree.
refused : (done : List Token) (st : State) (t : Token) (f : Fault) → Reached done st → step limits st t ≡ Err f → BeginNoTree (done ++ t ∷ [])
refused done st t f h at e later shaped shallow = no_tree limits e ((done ++ t ∷ []) ++ later) f (parse_again e shaped shallow) (parse_by limits done later st t f h.ran at)

refused_end : (done : List Token) (st : State) (f : Fault) → Reached done st → finish limits st ≡ Err f → (e : Expr) → Shaped e → depth e ≤ 50 → tokens e ≢ done
refused_end done st f h at e shaped shallow = no_tree limits e done f (parse_again e shaped shallow) (parse_end limits done st f h.ran at)

-- Where it is not for a limit, they begin no tree even without limits.
free : {A : Type 0} (r q : Result A Fault) (x : Result A Fault) → r ≡ x → Same r q → Same x q
free r q x at same = subst (λ z. Same z q) at same

unformed : (done : List Token) (st : State) (t : Token) → Reached done st → step limits st t ≡ Err Unexpected → BeginNoFormed (done ++ t ∷ [])
unformed done st t h at e later formed =
    no_tree no_limits e ((done ++ t ∷ []) ++ later) Unexpected (parse_free e formed)
    (parse_by no_limits done later st t Unexpected
    (free (run limits (want []) done) (run no_limits (want []) done) (Ok st) h.ran (run_same (want []) done))
    (free (step limits st t) (step no_limits st t) (Err Unexpected) at (step_same st t)))

unformed_end : (done : List Token) (st : State) → Reached done st → finish limits st ≡ Err Unexpected → AreNoFormed done
unformed_end done st h at e formed =
    no_tree no_limits e done Unexpected (parse_free e formed)
    (parse_end no_limits done st Unexpected
    (free (run limits (want []) done) (run no_limits (want []) done) (Ok st) h.ran (run_same (want []) done))
    (free (finish limits st) (finish no_limits st) (Err Unexpected) at (finish_same st)))

-- What is wrong, with what is known of trees without limits.
wrong_so : (P : Type 0) (ts : List Token) (f : Fault) → Amiss ts f → (f ≡ Unexpected → P) → Wrong P ts f
wrong_so P ts UnclosedText h known = h
wrong_so P ts BadNumber h known = h
wrong_so P ts BadChar h known = h
wrong_so P ts Unexpected h known = known refl
wrong_so P ts UnknownName h known = h
wrong_so P ts UnknownFunction h known = h
wrong_so P ts ArgumentCount h known = h
wrong_so P ts TooDeep h known = h
wrong_so P ts TooLong h known = h
wrong_so P ts UnclosedTemplate h known = h
wrong_so P ts StatusHere h known = h

-- The token that is read, if one is.
abbrev token_read : Result (Option Lexed) Fault → Option Token
token_read (Ok (Some x)) = Some x.0
token_read r = None

-- No token that the state takes is read next.
abbrev TakesNone : State → List ℕ → Type 0
TakesNone st bs = (t : Token) (rest : List ℕ) (after : State) → step limits st t ≡ Ok after → next (is_dotted st) bs ≡ Ok (Some (t, rest)) → ⊥

refused_alone : (st : State) (bs : List ℕ) (t : Token) (rest : List ℕ) (f : Fault) → next (is_dotted st) bs ≡ Ok (Some (t, rest)) → step limits st t ≡ Err f → TakesNone st bs
refused_alone st bs t rest f comes at u other after stepped found =
    let same : Some u ≡ Some t = sym (ap token_read found) ∙ ap token_read comes in
    cc

-- Where the state takes no token that is read next, none that the text begins with goes on with a tree.
none_goes_on : (done : List Token) (st : State) (bs : List ℕ) → Reached done st → TakesNone st bs → GoesOnNoTree done (skip_white bs)
none_goes_on done st bs h none t rest begins = by_step (step limits st t) refl
  where
    unskipped : next (is_dotted st) (skip_white bs) ≡ next (is_dotted st) bs
    unskipped = ap (λ (n : ℕ). next_at (is_dotted st) (drop n (skip_white bs))) (spans is_white bs).stops

    by_step : (r : Result State Fault) → step limits st t ≡ r → BeginNoTree (done ++ t ∷ [])
    by_step (Err g) at = refused done st t g h at
    by_step (Ok after) at = absurd (none t rest after at (sym unskipped ∙ next_again (is_dotted st) (skip_white bs) t rest begins (step_fits st t after at)))

-- What reading the rest of a text gives: a tree whose tokens it is, or a fault that stands in it.
abbrev pub Gets : Bool → List Token → List ℕ → Result Expr Failure → Type 0
Gets dot done bs (Ok e) = (ts : List Token) × Lexes bs ts × Tokenized (done ++ ts) e
Gets dot done bs (Err x) = (ts : List Token) × (rest : List ℕ) × Leads dot bs ts rest × (length rest ≡ x.1) × Stands x.0 (done ++ ts) rest × Stops is_white rest

-- Nothing but white space leads to the rest.
white_leads : (dot : Bool) (bs : List ℕ) → Leads dot bs [] (skip_white bs)
white_leads dot bs = (take (prefix_len is_white bs) bs, (spans is_white bs).run, sym (take-append-drop (prefix_len is_white bs) bs))

-- A token that a text begins with stands where its white space ends.
begins_skipped : (bs : List ℕ) (t : Token) (rest : List ℕ) → Begins bs t rest → Begins (skip_white bs) t rest
begins_skipped bs t rest b = record { white = []; own = b.own; blank = refl; spelled = b.spelled; ends = b.ends; same = skipped bs t rest b }

go_on : (dot : Bool) (bs : List ℕ) (done : List Token) (t : Token) (rest : List ℕ) → Begins bs t rest → Fits dot t → (r : Result Expr Failure) → Gets (is_dot t) (done ++ t ∷ []) rest r → Gets dot done bs r
go_on dot bs done t rest begins fits (Ok e) h = (t ∷ h.0, (rest, begins, h.1), subst (λ (ts : List Token). Tokenized ts e) (append_assoc done (t ∷ []) h.0) h.2)
go_on dot bs done t rest begins fits (Err x) h = (t ∷ h.0, h.1, (rest, begins, fits, h.2), h.3, subst (λ (ts : List Token). Stands x.0 ts h.1) (append_assoc done (t ∷ []) h.0) h.4, h.5)

end_sound : (st : State) (bs : List ℕ) (done : List Token) → Reached done st → IsRun is_white bs → (r : Result Expr Fault) → finish limits st ≡ r → Holds r (Tokenized (state_tokens st)) (Amiss (state_tokens st)) → Gets (is_dotted st) done bs (placed (length (skip_white bs)) r)
end_sound st bs done h blank (Ok e) at sound = ([], blank, subst (λ (ts : List Token). Tokenized ts e) (h.after.same ∙ sym (append-nil done)) sound)
end_sound st bs done h blank (Err f) at sound = (
  [],
  skip_white bs,
  white_leads (is_dotted st) bs,
  refl,
  subst (λ (ts : List Token). Stands f ts (skip_white bs)) (sym (append-nil done))
      (at_end (blank_skipped bs blank) (refused_end done st f h at) (wrong_so (AreNoFormed done) done f (subst (λ (ts : List Token). Amiss ts f) h.after.same sound) (λ same. unformed_end done st h (at ∙ ap (λ g. Err g) same)))),
  (spans is_white bs).stops,
)

-- Where no token is read, the text begins with none that fits.
none_fits : (dot last : Bool) (bs : List ℕ) (f : Fault) → dot ≡ last → next dot bs ≡ Err f → BeginsNone last (skip_white bs)
none_fits dot last bs f same at t after begins fits =
    let unskipped : next dot (skip_white bs) ≡ next dot bs = ap (λ (n : ℕ). next_at dot (drop n (skip_white bs))) (spans is_white bs).stops in
    cc (at, unskipped, next_again dot (skip_white bs) t after begins (subst (λ (d : Bool). Fits d t) (sym same) fits))

-- That what is read is spelled so, by fewer than n tokens.
abbrev ReadsSound : ℕ → Type 0
ReadsSound n = (st : State) (bs : List ℕ) (done : List Token) → length bs < n → Reached done st → Gets (is_dotted st) done bs (reads n st bs)

step_sound : (n : ℕ) → ReadsSound n → (st : State) (bs : List ℕ) (done : List Token) → length bs < suc n → Reached done st → (t : Token) (rest : List ℕ) → next (is_dotted st) bs ≡ Ok (Some (t, rest)) → Begins bs t rest → (r : Result State Fault) → step limits st t ≡ r → Holds r (After (state_tokens st ++ t ∷ [])) (Amiss (state_tokens st ++ t ∷ [])) → Gets (is_dotted st) done bs (after_step (reads n) (length (skip_white bs)) rest r)
step_sound n sound st bs done fuel h t rest comes begins (Err f) at wrong = (
  [],
  skip_white bs,
  white_leads (is_dotted st) bs,
  refl,
  subst (λ (ts : List Token). Stands f ts (skip_white bs)) (sym (append-nil done))
      (at_token t rest (begins_skipped bs t rest begins) (subst (λ (d : Bool). Fits d t) (sym h.dots) (next_fits (is_dotted st) bs t rest comes)) (none_goes_on done st bs h (refused_alone st bs t rest f comes at)) (wrong_so (BeginNoFormed (done ++ t ∷ [])) (done ++ t ∷ []) f (subst (λ (ts : List Token). Amiss (ts ++ t ∷ []) f) h.after.same wrong) (λ same. unformed done st t h (at ∙ ap (λ g. Err g) same)))),
  (spans is_white bs).stops,
)
step_sound n sound st bs done fuel h t rest comes begins (Ok after) at good =
    go_on (is_dotted st) bs done t rest begins (step_fits st t after at) (reads n after rest) (subst (λ (d : Bool). Gets d (done ++ t ∷ []) rest (reads n after rest)) (step_dots st t after at) (sound after rest (done ++ t ∷ []) (omega (arith, fuel, rest_shorter bs t rest begins)) (reached_more done st t after h at)))

token_sound : (n : ℕ) → ReadsSound n → (st : State) (bs : List ℕ) (done : List Token) → length bs < suc n → Reached done st → (r : Result (Option Lexed) Fault) → next (is_dotted st) bs ≡ r → Comes bs r → Gets (is_dotted st) done bs (after_token (reads n) st (length (skip_white bs)) r)
token_sound n sound st bs done fuel h (Err f) at comes = (
  [],
  skip_white bs,
  white_leads (is_dotted st) bs,
  refl,
  subst (λ (ts : List Token). Stands f ts (skip_white bs)) (sym (append-nil done)) (at_bytes comes (none_fits (is_dotted st) (ends_dotted done) bs f (sym h.dots) at) (none_goes_on done st bs h (λ u after next_state stepped found. cc (found, at)))),
  (spans is_white bs).stops,
)
token_sound n sound st bs done fuel h (Ok None) at comes = end_sound st bs done h comes (finish limits st) refl (sound_finish st h.after.good)
token_sound n sound st bs done fuel h (Ok (Some x)) at comes = step_sound n sound st bs done fuel h x.0 x.1 at comes (step limits st x.0) refl (sound_step st h.after.good x.0)

reads_sound : (n : ℕ) → ReadsSound n
reads_sound zero st bs done fuel h = absurd (omega arith)
reads_sound (suc n) st bs done fuel h = token_sound n (reads_sound n) st bs done fuel h (next (is_dotted st) bs) refl (next_comes (is_dotted st) bs)

-- What is read is spelled so, and a fault stands in the text.
pub text_sound : (text : List ℕ) → Gets false [] text (reads (suc (length text)) (want []) text)
text_sound text = reads_sound (suc (length text)) (want []) text [] (omega arith) reached_none

-- What is spelled so is read.
pub text_again : (e : Expr) (text : List ℕ) → Shaped e → depth e ≤ 50 → Lexes text (tokens e) → reads (suc (length text)) (want []) text ≡ Ok e
text_again e text shaped shallow lexes = reads_again (suc (length text)) (want []) text (tokens e) e (omega arith) lexes (parse_again e shaped shallow)
