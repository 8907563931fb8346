-- What the machine makes of tokens has those tokens.
use Rattle.std.proofs.Common.{◌≡◌, ℕ, suc, ◌+◌, ◌<◌, ◌≤◌, Bool, true, false, cond, nat_lt, nat_le, Result, Ok, Err, List, [], ◌∷◌, ◌++◌, refl, sym, ap, subst, ◌∙◌, append_assoc, append-nil, arith}
use Rattle.std.proofs.lemmas.Bool.{ltb-true, ltb-false}
use Rattle.std.proofs.lemmas.Bool.Decides.{nat_tests}
use Rattle.expr_reader.specs.Expr.{Expr, Exprs, call, group, property, index, wildcard, none, exprs_of, count, depth}
use Rattle.expr_reader.specs.Grammar.{Token, constant, root, callee, name, relational, equational, mark, tokens, chained, preceded, level, takes, IsChain, Shaped, AllShaped}
use Rattle.expr_reader.specs.Machine.{Part, either_of, both_of, equality_of, relation_of, not_of, group_of, index_of, call_of, State, want, have, dotted, called, starred, Held, binding, completed, both_more, either_more, have_made, end_argument, end_text, star_index, called_step, limits, node, called_with, close, close_relation, close_equality, close_both, close_either, end_round, end_index, end_empty, want_mark, have_mark, want_step, have_step, dotted_step, starred_step, step, finish}
use Rattle.expr_reader.specs.Outcome.{◌>>=◌}
use Rattle.expr_reader.specs.Wrong.{Wrong}
use Rattle.expr_reader.specs.declared.fault.Fault.{Fault}
use Rattle.expr_reader.specs.declared.fault.Fault.TheVariants.{UnclosedText, BadNumber, BadChar, Unexpected, UnknownName, UnknownFunction, ArgumentCount, TooDeep, TooLong, UnclosedTemplate, StatusHere}
use Rattle.expr_reader.specs.declared.token.Mark.{Mark}
use Rattle.expr_reader.specs.declared.token.Mark.TheVariants.{Open, Close, OpenIndex, CloseIndex, Dot, Comma, Star, Not, Both, Either}
use Rattle.expr_reader.specs.declared.tree.Function.{Function}
use Rattle.expr_reader.specs.declared.tree.Wildcard.TheVariants.{Dotted, Bracketed}
use Rattle.expr_reader.proofs.Stacks.{floor}

-- A step's value has P, or its fault F.
abbrev pub Holds : {A : Type 0} → Result A Fault → (A → Type 0) → (Fault → Type 0) → Type 0
Holds (Ok x) P F = P x
Holds (Err f) P F = F f

pub then_holds : {A B : Type 0} (r : Result A Fault) (f : A → Result B Fault) (P : A → Type 0) (Q : B → Type 0) (F : Fault → Type 0) → Holds r P F → ((x : A) → P x → Holds (f x) Q F) → Holds (r >>= f) Q F
then_holds (Ok x) f P Q F h go = go x h
then_holds (Err e) f P Q F h go = h

-- the same, where the second step has more tokens before it
pub then_later : {A B : Type 0} (r : Result A Fault) (f : A → Result B Fault) (P : A → Type 0) (Q : B → Type 0) (F G : Fault → Type 0) → Holds r P F → ((e : Fault) → F e → G e) → ((x : A) → P x → Holds (f x) Q G) → Holds (r >>= f) Q G
then_later (Ok x) f P Q F G h weak go = go x h
then_later (Err e) f P Q F G h weak go = weak e h

-- Each tree with the mark after it.
abbrev ended : Mark → List Expr → List Token
ended m [] = []
ended m (e ∷ es) = (tokens e ++ mark m ∷ []) ++ ended m es

-- The tokens that were read for what is open.
abbrev part_tokens : Part → List Token
part_tokens (either_of es) = ended Either es
part_tokens (both_of es) = ended Both es
part_tokens (equality_of q a) = tokens a ++ equational q ∷ []
part_tokens (relation_of r a) = tokens a ++ relational r ∷ []
part_tokens not_of = mark Not ∷ []
part_tokens group_of = mark Open ∷ []
part_tokens (index_of a) = tokens a ++ mark OpenIndex ∷ []
part_tokens (call_of f es) = callee f ∷ mark Open ∷ ended Comma es

abbrev stack_tokens : List Part → List Token
stack_tokens [] = []
stack_tokens (p ∷ s) = stack_tokens s ++ part_tokens p

abbrev pub state_tokens : State → List Token
state_tokens (want s) = stack_tokens s
state_tokens (have e s) = stack_tokens s ++ tokens e
state_tokens (dotted e s) = (stack_tokens s ++ tokens e) ++ mark Dot ∷ []
state_tokens (called f s) = stack_tokens s ++ callee f ∷ []
state_tokens (starred e s) = (stack_tokens s ++ tokens e) ++ mark OpenIndex ∷ mark Star ∷ []

abbrev NotEmpty : List Expr → Type 0
NotEmpty [] = ⊥
NotEmpty (e ∷ es) = Unit {0}

-- What is open over a stack will be a tree of the grammar.
abbrev GoodPart : Part → List Part → Type 0
GoodPart (either_of es) s = (floor s ≤ 0) × NotEmpty es × AllShaped 1 (exprs_of es)
GoodPart (both_of es) s = (floor s ≤ 1) × NotEmpty es × AllShaped 2 (exprs_of es)
GoodPart (equality_of q a) s = (floor s ≤ 2) × (2 ≤ level a) × Shaped a
GoodPart (relation_of r a) s = (floor s ≤ 3) × (3 ≤ level a) × Shaped a
GoodPart not_of s = Unit {0}
GoodPart group_of s = Unit {0}
GoodPart (index_of a) s = (5 ≤ level a) × Shaped a
GoodPart (call_of f es) s = AllShaped 0 (exprs_of es)

abbrev GoodStack : List Part → Type 0
GoodStack [] = Unit {0}
GoodStack (p ∷ s) = GoodPart p s × GoodStack s

-- The operand after a "post".
abbrev GoodOperand : Expr → List Part → Type 0
GoodOperand e s = (5 ≤ level e) × Shaped e × (depth e ≤ 50) × GoodStack s

-- What a dot or a star follows.
abbrev GoodBase : Expr → List Part → Type 0
GoodBase e s = (5 ≤ level e) × Shaped e × GoodStack s

abbrev pub GoodState : State → Type 0
GoodState (want s) = GoodStack s
GoodState (have e s) = GoodOperand e s
GoodState (dotted e s) = GoodBase e s
GoodState (called f s) = GoodStack s
GoodState (starred e s) = GoodBase e s

-- A state after these tokens.
pub record After (read : List Token) (st : State) : Type 0 where
  pub good : GoodState st
  pub same : state_tokens st ≡ read

-- A tree over a stack after these tokens, from level k on.
record HeldAt (k : ℕ) (read : List Token) (x : Held) : Type 0 where
  tight : k ≤ level x.0
  shaped : Shaped x.0
  shallow : depth x.0 ≤ 50
  good : GoodStack x.1
  below : floor x.1 ≤ k
  same : stack_tokens x.1 ++ tokens x.0 ≡ read

-- What is wrong with tokens, with nothing said of trees without limits.
abbrev pub Amiss : List Token → Fault → Type 0
Amiss ts f = Wrong (Unit {0}) ts f

-- What is wrong with tokens is wrong with more of them.
pub wrong_more : (read later : List Token) (f : Fault) → Amiss read f → Amiss (read ++ later) f
wrong_more read later UnclosedText h = h
wrong_more read later BadNumber h = h
wrong_more read later BadChar h = h
wrong_more read later Unexpected h = h
wrong_more read later UnknownName h = h
wrong_more read later UnknownFunction h = h
wrong_more read later ArgumentCount h = record {
  before = h.before;
  function = h.function;
  arguments = h.arguments;
  after = h.after ++ later;
  shaped = h.shaped;
  miscount = h.miscount;
  same = ap (λ (z : List Token). h.before ++ z) (sym (append_assoc (tokens (call h.function h.arguments)) h.after later)) ∙ sym (append_assoc h.before (tokens (call h.function h.arguments) ++ h.after) later) ∙ ap (λ (z : List Token). z ++ later) h.same;
}
wrong_more read later TooDeep h = record {
  before = h.before;
  deep = h.deep;
  after = h.after ++ later;
  shaped = h.shaped;
  above = h.above;
  same = ap (λ (z : List Token). h.before ++ z) (sym (append_assoc (tokens h.deep) h.after later)) ∙ sym (append_assoc h.before (tokens h.deep ++ h.after) later) ∙ ap (λ (z : List Token). z ++ later) h.same;
}
wrong_more read later TooLong h = h
wrong_more read later UnclosedTemplate h = h
wrong_more read later StatusHere h = h

-- A node after these tokens is made, or is too deep.
chosen_node : (b : Bool) (read : List Token) (e : Expr) (before : List Token) → nat_lt 50 (depth e) ≡ b → Shaped e → before ++ tokens e ≡ read → Holds (cond b (Err TooDeep) (Ok e)) (λ t. (t ≡ e) × (depth e ≤ 50)) (Amiss read)
chosen_node true read e before test shaped same = record { before = before; deep = e; after = []; shaped = shaped; above = ltb-true 50 (depth e) test; same = ap (λ (z : List Token). before ++ z) (append-nil (tokens e)) ∙ same }
chosen_node false read e before test shaped same = (refl, ltb-false 50 (depth e) test)

node_holds : (read : List Token) (e : Expr) (before : List Token) → Shaped e → before ++ tokens e ≡ read → Holds (node limits e) (λ t. (t ≡ e) × (depth e ≤ 50)) (Amiss read)
node_holds read e before shaped same = chosen_node (nat_lt 50 (depth e)) read e before refl shaped same

chosen_call : (b : Bool) (read : List Token) (f : Function) (es : Exprs) (before : List Token) → takes f (count es) ≡ b → AllShaped 0 es → before ++ tokens (call f es) ≡ read → Holds (cond b (node limits (call f es)) (Err ArgumentCount)) (λ t. (t ≡ call f es) × (depth (call f es) ≤ 50) × Shaped (call f es)) (Amiss read)
chosen_call true read f es before test shaped same = then_call (node limits (call f es)) (node_holds read (call f es) before (test, shaped) same)
  where
    then_call : (r : Result Expr Fault) → Holds r (λ t. (t ≡ call f es) × (depth (call f es) ≤ 50)) (Amiss read) → Holds r (λ t. (t ≡ call f es) × (depth (call f es) ≤ 50) × Shaped (call f es)) (Amiss read)
    then_call (Ok t) h = (h.0, h.1, (test, shaped))
    then_call (Err e) h = h
chosen_call false read f es before test shaped same = record { before = before; function = f; arguments = es; after = []; shaped = shaped; miscount = test; same = ap (λ (z : List Token). before ++ z) (append-nil (tokens (call f es))) ∙ same }

-- A node that was made is an operand over a stack.
have_over : (read : List Token) (e : Expr) (s : List Part) → 5 ≤ level e → Shaped e → GoodStack s → stack_tokens s ++ tokens e ≡ read → Holds (have_made s (node limits e)) (After read) (Amiss read)
have_over read e s tight shaped good same =
    then_holds (node limits e) (λ t. Ok (have t s)) (λ t. (t ≡ e) × (depth e ≤ 50)) (After read) (Amiss read) (node_holds read e (stack_tokens s) shaped same)
    (λ t h. let P : Expr → Type 0 = λ z. After read (have z s) in subst P (sym h.0) (record { good = (tight, shaped, h.1, good); same = same }))

-- A call that was made is an operand over a stack.
call_over : (read : List Token) (f : Function) (es : Exprs) (s : List Part) → AllShaped 0 es → GoodStack s → stack_tokens s ++ tokens (call f es) ≡ read → Holds (have_made s (called_with limits f es)) (After read) (Amiss read)
call_over read f es s shaped good same =
    then_holds (called_with limits f es) (λ t. Ok (have t s)) (λ t. (t ≡ call f es) × (depth (call f es) ≤ 50) × Shaped (call f es)) (After read) (Amiss read) (chosen_call (takes f (count es)) read f es (stack_tokens s) refl shaped same)
    (λ t h. let P : Expr → Type 0 = λ z. After read (have z s) in subst P (sym h.0) (record { good = (omega arith, h.2, h.1, good); same = same }))

-- Lists of trees, with one more at the end.
preceded_last : (m : Mark) (es : List Expr) (e : Expr) → preceded m (exprs_of (es ++ e ∷ [])) ≡ mark m ∷ (ended m es ++ tokens e)
preceded_last m [] e = ap (λ (z : List Token). mark m ∷ z) (append-nil (tokens e))
preceded_last m (d ∷ ds) e =
    ap (λ (z : List Token). mark m ∷ (tokens d ++ z)) (preceded_last m ds e)
    ∙ ap (λ (z : List Token). mark m ∷ z) (sym (append_assoc (tokens d) (mark m ∷ []) (ended m ds ++ tokens e)) ∙ sym (append_assoc (tokens d ++ mark m ∷ []) (ended m ds) (tokens e)))

chained_last : (m : Mark) (es : List Expr) (e : Expr) → chained m (exprs_of (es ++ e ∷ [])) ≡ ended m es ++ tokens e
chained_last m [] e = append-nil (tokens e)
chained_last m (d ∷ ds) e =
    ap (λ (z : List Token). tokens d ++ z) (preceded_last m ds e)
    ∙ sym (append_assoc (tokens d) (mark m ∷ []) (ended m ds ++ tokens e)) ∙ sym (append_assoc (tokens d ++ mark m ∷ []) (ended m ds) (tokens e))

ended_last : (m : Mark) (es : List Expr) (e : Expr) → ended m (es ++ e ∷ []) ≡ (ended m es ++ tokens e) ++ mark m ∷ []
ended_last m [] e = append-nil (tokens e ++ mark m ∷ [])
ended_last m (d ∷ ds) e =
    ap (λ (z : List Token). (tokens d ++ mark m ∷ []) ++ z) (ended_last m ds e)
    ∙ sym (append_assoc (tokens d ++ mark m ∷ []) (ended m ds ++ tokens e) (mark m ∷ []))
    ∙ ap (λ (z : List Token). z ++ mark m ∷ []) (sym (append_assoc (tokens d ++ mark m ∷ []) (ended m ds) (tokens e)))

all_last : (k : ℕ) (es : List Expr) (e : Expr) → AllShaped k (exprs_of es) → k ≤ level e → Shaped e → AllShaped k (exprs_of (es ++ e ∷ []))
all_last k [] e all tight shaped = (tight, shaped, tt)
all_last k (d ∷ ds) e all tight shaped = (all.0, all.1, all_last k ds e all.2 tight shaped)

is_chain : (es : List Expr) (e : Expr) → NotEmpty es → IsChain (exprs_of (es ++ e ∷ []))
is_chain [] e h = absurd h
is_chain (d ∷ []) e h = tt
is_chain (d ∷ c ∷ ds) e h = tt

not_empty : (es : List Expr) (e : Expr) → NotEmpty (es ++ e ∷ [])
not_empty [] e = tt
not_empty (d ∷ ds) e = tt

-- A tree after what is open over a stack.
closed_chain : (m : Mark) (es : List Expr) (e : Expr) (s : List Part) (read : List Token) → (stack_tokens s ++ ended m es) ++ tokens e ≡ read → stack_tokens s ++ chained m (exprs_of (es ++ e ∷ [])) ≡ read
closed_chain m es e s read same = ap (λ (z : List Token). stack_tokens s ++ z) (chained_last m es e) ∙ sym (append_assoc (stack_tokens s) (ended m es) (tokens e)) ∙ same

after_part : (p : List Token) (e : Expr) (s : List Part) (read : List Token) → (stack_tokens s ++ p) ++ tokens e ≡ read → stack_tokens s ++ (p ++ tokens e) ≡ read
after_part p e s read same = sym (append_assoc (stack_tokens s) p (tokens e)) ∙ same

after_operator : (a : Expr) (t : Token) (e : Expr) (s : List Part) (read : List Token) → (stack_tokens s ++ (tokens a ++ t ∷ [])) ++ tokens e ≡ read → stack_tokens s ++ (tokens a ++ t ∷ tokens e) ≡ read
after_operator a t e s read same = ap (λ (z : List Token). stack_tokens s ++ z) (sym (append_assoc (tokens a) (t ∷ []) (tokens e))) ∙ after_part (tokens a ++ t ∷ []) e s read same

-- The node of an operator that is open, with its last part.
record IsCompleted (read : List Token) (k : ℕ) (e : Expr) (s : List Part) : Type 0 where
  tight : k ≤ level e + 1
  above : floor s ≤ level e
  shaped : Shaped e
  same : stack_tokens s ++ tokens e ≡ read

completed_sound : (read : List Token) (e : Expr) (p : Part) (s : List Part) → 0 < binding p → GoodPart p s → floor (p ∷ s) ≤ level e → Shaped e → (stack_tokens s ++ part_tokens p) ++ tokens e ≡ read → IsCompleted read (binding p) (completed p e) s
completed_sound read e (either_of es) s some good above shaped same = record { tight = omega arith; above = good.0; shaped = (is_chain es e good.1, all_last 1 es e good.2 above shaped); same = closed_chain Either es e s read same }
completed_sound read e (both_of es) s some good above shaped same = record { tight = omega arith; above = good.0; shaped = (is_chain es e good.1, all_last 2 es e good.2 above shaped); same = closed_chain Both es e s read same }
completed_sound read e (equality_of q a) s some good above shaped same = record { tight = omega arith; above = good.0; shaped = (good.1, above, good.2, shaped); same = after_operator a (equational q) e s read same }
completed_sound read e (relation_of r a) s some good above shaped same = record { tight = omega arith; above = good.0; shaped = (good.1, above, good.2, shaped); same = after_operator a (relational r) e s read same }
completed_sound read e not_of s some good above shaped same = record { tight = omega arith; above = omega arith; shaped = (above, shaped); same = after_part (mark Not ∷ []) e s read same }
completed_sound read e group_of s some good above shaped same = absurd (omega arith)
completed_sound read e (index_of a) s some good above shaped same = absurd (omega arith)
completed_sound read e (call_of f es) s some good above shaped same = absurd (omega arith)

-- What is closed over a good stack down to the operators of level k.
abbrev ClosesSound : ℕ → List Token → List Part → Type 0
ClosesSound k read s = (e : Expr) → k ≤ level e → floor s ≤ level e → Shaped e → depth e ≤ 50 → GoodStack s → stack_tokens s ++ tokens e ≡ read → Holds (close limits (suc k) e s) (HeldAt k read) (Amiss read)

closed_over : (k : ℕ) (read : List Token) (e : Expr) (p : Part) (s : List Part) (b : Bool) → nat_le (suc k) (binding p) ≡ b → ClosesSound k read s → k ≤ level e → floor (p ∷ s) ≤ level e → Shaped e → depth e ≤ 50 → GoodStack (p ∷ s) → stack_tokens (p ∷ s) ++ tokens e ≡ read → Holds (cond b (node limits (completed p e) >>= λ t. close limits (suc k) t s) (Ok (e, p ∷ s))) (HeldAt k read) (Amiss read)
closed_over k read e p s true test go tight above shaped shallow good same =
    let taken : suc k ≤ binding p = grind (arith, nat_tests) in
    let whole = completed_sound read e p s (omega arith) good.0 above shaped same in
    then_holds (node limits (completed p e)) (λ t. close limits (suc k) t s) (λ t. (t ≡ completed p e) × (depth (completed p e) ≤ 50)) (HeldAt k read) (Amiss read) (node_holds read (completed p e) (stack_tokens s) whole.shaped whole.same)
    (λ t h. let P : Expr → Type 0 = λ z. Holds (close limits (suc k) z s) (HeldAt k read) (Amiss read) in subst P (sym h.0) (go (completed p e) (omega (arith, whole.tight)) whole.above whole.shaped h.1 good.1 whole.same))
closed_over k read e p s false test go tight above shaped shallow good same =
    let loose : binding p ≤ k = grind (arith, nat_tests) in
    record { tight = tight; shaped = shaped; shallow = shallow; good = good; below = omega arith; same = same }

sound_close : (k : ℕ) (read : List Token) (s : List Part) → ClosesSound k read s
sound_close k read [] e tight above shaped shallow good same = record { tight = tight; shaped = shaped; shallow = shallow; good = good; below = omega arith; same = same }
sound_close k read (p ∷ s) e tight above shaped shallow good same = closed_over k read e p s (nat_le (suc k) (binding p)) refl (sound_close k read s) tight above shaped shallow good same

-- An operand after a "post" is closed soundly.
sound_operand : (k : ℕ) (read : List Token) (e : Expr) (s : List Part) → k ≤ 4 → GoodOperand e s → stack_tokens s ++ tokens e ≡ read → Holds (close limits (suc k) e s) (HeldAt k read) (Amiss read)
sound_operand k read e s most good same = sound_close k read s e (omega (arith, good.0)) (omega (arith, good.0)) good.1 good.2 good.3 same

-- A token after tokens.
more_token : (s read : List Token) (e : Expr) (t : Token) → s ++ tokens e ≡ read → s ++ (tokens e ++ t ∷ []) ≡ read ++ t ∷ []
more_token s read e t same = sym (append_assoc s (tokens e) (t ∷ [])) ∙ ap (λ (z : List Token). z ++ t ∷ []) same

-- The parentheses that close a group.
group_closed : (e : Expr) (s : List Part) (read : List Token) → (stack_tokens s ++ mark Open ∷ []) ++ tokens e ≡ read → stack_tokens s ++ tokens (group e) ≡ read ++ mark Close ∷ []
group_closed e s read same = sym (append_assoc (stack_tokens s) (mark Open ∷ []) (tokens e ++ mark Close ∷ [])) ∙ more_token (stack_tokens s ++ mark Open ∷ []) read e (mark Close) same

call_closed : (f : Function) (es : List Expr) (e : Expr) (s : List Part) (read : List Token) → (stack_tokens s ++ callee f ∷ mark Open ∷ ended Comma es) ++ tokens e ≡ read → stack_tokens s ++ tokens (call f (exprs_of (es ++ e ∷ []))) ≡ read ++ mark Close ∷ []
call_closed f es e s read same =
    ap (λ (z : List Token). stack_tokens s ++ (callee f ∷ mark Open ∷ (z ++ mark Close ∷ []))) (chained_last Comma es e)
    ∙ ap (λ (z : List Token). stack_tokens s ++ (callee f ∷ mark Open ∷ z)) (append_assoc (ended Comma es) (tokens e) (mark Close ∷ []))
    ∙ sym (append_assoc (stack_tokens s) (callee f ∷ mark Open ∷ ended Comma es) (tokens e ++ mark Close ∷ []))
    ∙ more_token (stack_tokens s ++ callee f ∷ mark Open ∷ ended Comma es) read e (mark Close) same

index_closed : (a e : Expr) (s : List Part) (read : List Token) → (stack_tokens s ++ (tokens a ++ mark OpenIndex ∷ [])) ++ tokens e ≡ read → stack_tokens s ++ tokens (index a e) ≡ read ++ mark CloseIndex ∷ []
index_closed a e s read same =
    ap (λ (z : List Token). stack_tokens s ++ z) (sym (append_assoc (tokens a) (mark OpenIndex ∷ []) (tokens e ++ mark CloseIndex ∷ [])))
    ∙ sym (append_assoc (stack_tokens s) (tokens a ++ mark OpenIndex ∷ []) (tokens e ++ mark CloseIndex ∷ []))
    ∙ more_token (stack_tokens s ++ (tokens a ++ mark OpenIndex ∷ [])) read e (mark CloseIndex) same

argument_closed : (f : Function) (es : List Expr) (e : Expr) (s : List Part) (read : List Token) → (stack_tokens s ++ callee f ∷ mark Open ∷ ended Comma es) ++ tokens e ≡ read → stack_tokens s ++ (callee f ∷ mark Open ∷ ended Comma (es ++ e ∷ [])) ≡ read ++ mark Comma ∷ []
argument_closed f es e s read same =
    ap (λ (z : List Token). stack_tokens s ++ (callee f ∷ mark Open ∷ z)) (ended_last Comma es e ∙ append_assoc (ended Comma es) (tokens e) (mark Comma ∷ []))
    ∙ sym (append_assoc (stack_tokens s) (callee f ∷ mark Open ∷ ended Comma es) (tokens e ++ mark Comma ∷ []))
    ∙ more_token (stack_tokens s ++ callee f ∷ mark Open ∷ ended Comma es) read e (mark Comma) same

sound_round : (read : List Token) (x : Held) → HeldAt 0 read x → Holds (end_round limits x.0 x.1) (After (read ++ mark Close ∷ [])) (Amiss (read ++ mark Close ∷ []))
sound_round read (e, []) h = tt
sound_round read (e, either_of es ∷ s) h = tt
sound_round read (e, both_of es ∷ s) h = tt
sound_round read (e, equality_of q a ∷ s) h = tt
sound_round read (e, relation_of r a ∷ s) h = tt
sound_round read (e, not_of ∷ s) h = tt
sound_round read (e, group_of ∷ s) h = have_over (read ++ mark Close ∷ []) (group e) s (omega arith) h.shaped h.good.1 (group_closed e s read h.same)
sound_round read (e, index_of a ∷ s) h = tt
sound_round read (e, call_of f es ∷ s) h = call_over (read ++ mark Close ∷ []) f (exprs_of (es ++ e ∷ [])) s (all_last 0 es e h.good.0 (omega arith) h.shaped) h.good.1 (call_closed f es e s read h.same)

sound_index : (read : List Token) (x : Held) → HeldAt 0 read x → Holds (end_index limits x.0 x.1) (After (read ++ mark CloseIndex ∷ [])) (Amiss (read ++ mark CloseIndex ∷ []))
sound_index read (e, []) h = tt
sound_index read (e, either_of es ∷ s) h = tt
sound_index read (e, both_of es ∷ s) h = tt
sound_index read (e, equality_of q a ∷ s) h = tt
sound_index read (e, relation_of r a ∷ s) h = tt
sound_index read (e, not_of ∷ s) h = tt
sound_index read (e, group_of ∷ s) h = tt
sound_index read (e, index_of a ∷ s) h = have_over (read ++ mark CloseIndex ∷ []) (index a e) s (omega arith) (h.good.0.0, h.good.0.1, h.shaped) h.good.1 (index_closed a e s read h.same)
sound_index read (e, call_of f es ∷ s) h = tt

sound_argument : (read : List Token) (x : Held) → HeldAt 0 read x → Holds (end_argument x.0 x.1) (After (read ++ mark Comma ∷ [])) (Amiss (read ++ mark Comma ∷ []))
sound_argument read (e, []) h = tt
sound_argument read (e, either_of es ∷ s) h = tt
sound_argument read (e, both_of es ∷ s) h = tt
sound_argument read (e, equality_of q a ∷ s) h = tt
sound_argument read (e, relation_of r a ∷ s) h = tt
sound_argument read (e, not_of ∷ s) h = tt
sound_argument read (e, group_of ∷ s) h = tt
sound_argument read (e, index_of a ∷ s) h = tt
sound_argument read (e, call_of f es ∷ s) h = record { good = (all_last 0 es e h.good.0 (omega arith) h.shaped, h.good.1); same = argument_closed f es e s read h.same }

-- A chain that begins with the tree.
begun : (m : Mark) (read : List Token) (e : Expr) (s : List Part) → stack_tokens s ++ tokens e ≡ read → stack_tokens s ++ ended m (e ∷ []) ≡ read ++ mark m ∷ []
begun m read e s same = ap (λ (z : List Token). stack_tokens s ++ z) (append-nil (tokens e ++ mark m ∷ [])) ∙ more_token (stack_tokens s) read e (mark m) same

-- A chain that goes on with the tree.
lengthened : (m : Mark) (read : List Token) (es : List Expr) (e : Expr) (s : List Part) → (stack_tokens s ++ ended m es) ++ tokens e ≡ read → stack_tokens s ++ ended m (es ++ e ∷ []) ≡ read ++ mark m ∷ []
lengthened m read es e s same =
    ap (λ (z : List Token). stack_tokens s ++ z) (ended_last m es e ∙ append_assoc (ended m es) (tokens e) (mark m ∷ []))
    ∙ sym (append_assoc (stack_tokens s) (ended m es) (tokens e ++ mark m ∷ []))
    ∙ more_token (stack_tokens s ++ ended m es) read e (mark m) same

both_begun : (read : List Token) (e : Expr) (s : List Part) → floor s ≤ 1 → HeldAt 2 read (e, s) → After (read ++ mark Both ∷ []) (want (both_of (e ∷ []) ∷ s))
both_begun read e s low h = record { good = ((low, tt, (h.tight, h.shaped, tt)), h.good); same = begun Both read e s h.same }

sound_both_more : (read : List Token) (x : Held) → HeldAt 2 read x → After (read ++ mark Both ∷ []) (want (both_more x.0 x.1))
sound_both_more read (e, []) h = both_begun read e [] (omega arith) h
sound_both_more read (e, either_of es ∷ s) h = both_begun read e (either_of es ∷ s) (omega arith) h
sound_both_more read (e, both_of es ∷ s) h = record { good = ((h.good.0.0, not_empty es e, all_last 2 es e h.good.0.2 h.tight h.shaped), h.good.1); same = lengthened Both read es e s h.same }
sound_both_more read (e, equality_of q a ∷ s) h = absurd (omega (arith, h.below))
sound_both_more read (e, relation_of r a ∷ s) h = absurd (omega (arith, h.below))
sound_both_more read (e, not_of ∷ s) h = absurd (omega (arith, h.below))
sound_both_more read (e, group_of ∷ s) h = both_begun read e (group_of ∷ s) (omega arith) h
sound_both_more read (e, index_of a ∷ s) h = both_begun read e (index_of a ∷ s) (omega arith) h
sound_both_more read (e, call_of f es ∷ s) h = both_begun read e (call_of f es ∷ s) (omega arith) h

either_begun : (read : List Token) (e : Expr) (s : List Part) → floor s ≤ 0 → HeldAt 1 read (e, s) → After (read ++ mark Either ∷ []) (want (either_of (e ∷ []) ∷ s))
either_begun read e s low h = record { good = ((low, tt, (h.tight, h.shaped, tt)), h.good); same = begun Either read e s h.same }

sound_either_more : (read : List Token) (x : Held) → HeldAt 1 read x → After (read ++ mark Either ∷ []) (want (either_more x.0 x.1))
sound_either_more read (e, []) h = either_begun read e [] (omega arith) h
sound_either_more read (e, either_of es ∷ s) h = record { good = ((h.good.0.0, not_empty es e, all_last 1 es e h.good.0.2 h.tight h.shaped), h.good.1); same = lengthened Either read es e s h.same }
sound_either_more read (e, both_of es ∷ s) h = absurd (omega (arith, h.below))
sound_either_more read (e, equality_of q a ∷ s) h = absurd (omega (arith, h.below))
sound_either_more read (e, relation_of r a ∷ s) h = absurd (omega (arith, h.below))
sound_either_more read (e, not_of ∷ s) h = absurd (omega (arith, h.below))
sound_either_more read (e, group_of ∷ s) h = either_begun read e (group_of ∷ s) (omega arith) h
sound_either_more read (e, index_of a ∷ s) h = either_begun read e (index_of a ∷ s) (omega arith) h
sound_either_more read (e, call_of f es ∷ s) h = either_begun read e (call_of f es ∷ s) (omega arith) h

sound_empty : (s : List Part) → GoodStack s → Holds (end_empty limits s) (After (stack_tokens s ++ mark Close ∷ [])) (Amiss (stack_tokens s ++ mark Close ∷ []))
sound_empty [] good = tt
sound_empty (either_of es ∷ s) good = tt
sound_empty (both_of es ∷ s) good = tt
sound_empty (equality_of q a ∷ s) good = tt
sound_empty (relation_of r a ∷ s) good = tt
sound_empty (not_of ∷ s) good = tt
sound_empty (group_of ∷ s) good = tt
sound_empty (index_of a ∷ s) good = tt
sound_empty (call_of f [] ∷ s) good = call_over ((stack_tokens s ++ callee f ∷ mark Open ∷ []) ++ mark Close ∷ []) f none s tt good.1 (sym (append_assoc (stack_tokens s) (callee f ∷ mark Open ∷ []) (mark Close ∷ [])))
sound_empty (call_of f (e ∷ es) ∷ s) good = tt

sound_star : (s : List Part) → GoodStack s → Holds (star_index s) (After (stack_tokens s ++ mark Star ∷ [])) (Amiss (stack_tokens s ++ mark Star ∷ []))
sound_star [] good = tt
sound_star (either_of es ∷ s) good = tt
sound_star (both_of es ∷ s) good = tt
sound_star (equality_of q a ∷ s) good = tt
sound_star (relation_of r a ∷ s) good = tt
sound_star (not_of ∷ s) good = tt
sound_star (group_of ∷ s) good = tt
sound_star (index_of a ∷ s) good = record {
  good = (good.0.0, good.0.1, good.1);
  same = append_assoc (stack_tokens s) (tokens a) (mark OpenIndex ∷ mark Star ∷ [])
      ∙ ap (λ (z : List Token). stack_tokens s ++ z) (sym (append_assoc (tokens a) (mark OpenIndex ∷ []) (mark Star ∷ [])))
      ∙ sym (append_assoc (stack_tokens s) (tokens a ++ mark OpenIndex ∷ []) (mark Star ∷ []));
}
sound_star (call_of f es ∷ s) good = tt

sound_want_mark : (s : List Part) → GoodStack s → (m : Mark) → Holds (want_mark limits s m) (After (stack_tokens s ++ mark m ∷ [])) (Amiss (stack_tokens s ++ mark m ∷ []))
sound_want_mark s good Open = record { good = (tt, good); same = refl }
sound_want_mark s good Close = sound_empty s good
sound_want_mark s good OpenIndex = tt
sound_want_mark s good CloseIndex = tt
sound_want_mark s good Dot = tt
sound_want_mark s good Comma = tt
sound_want_mark s good Star = sound_star s good
sound_want_mark s good Not = record { good = (tt, good); same = refl }
sound_want_mark s good Both = tt
sound_want_mark s good Either = tt

sound_want : (s : List Part) → GoodStack s → (t : Token) → Holds (want_step limits s t) (After (stack_tokens s ++ t ∷ [])) (Amiss (stack_tokens s ++ t ∷ []))
sound_want s good (constant l) = record { good = (omega arith, tt, omega arith, good); same = refl }
sound_want s good (root c) = record { good = (omega arith, tt, omega arith, good); same = refl }
sound_want s good (callee f) = record { good = good; same = refl }
sound_want s good (name w) = tt
sound_want s good (relational r) = tt
sound_want s good (equational q) = tt
sound_want s good (mark m) = sound_want_mark s good m

-- A step that closes what comes before a token.
closing : (k : ℕ) (e : Expr) (s : List Part) (t : Token) (r : Result Held Fault) (f : Held → Result State Fault) → Holds r (HeldAt k (stack_tokens s ++ tokens e)) (Amiss (stack_tokens s ++ tokens e)) → ((x : Held) → HeldAt k (stack_tokens s ++ tokens e) x → Holds (f x) (After ((stack_tokens s ++ tokens e) ++ t ∷ [])) (Amiss ((stack_tokens s ++ tokens e) ++ t ∷ []))) → Holds (r >>= f) (After ((stack_tokens s ++ tokens e) ++ t ∷ [])) (Amiss ((stack_tokens s ++ tokens e) ++ t ∷ []))
closing k e s t r f h go = then_later r f (HeldAt k (stack_tokens s ++ tokens e)) (After ((stack_tokens s ++ tokens e) ++ t ∷ [])) (Amiss (stack_tokens s ++ tokens e)) (Amiss ((stack_tokens s ++ tokens e) ++ t ∷ [])) h (λ f w. wrong_more (stack_tokens s ++ tokens e) (t ∷ []) f w) go

sound_have_mark : (e : Expr) (s : List Part) → GoodOperand e s → (m : Mark) → Holds (have_mark limits e s m) (After ((stack_tokens s ++ tokens e) ++ mark m ∷ [])) (Amiss ((stack_tokens s ++ tokens e) ++ mark m ∷ []))
sound_have_mark e s good Open = tt
sound_have_mark e s good Close = closing 0 e s (mark Close) (close_either limits e s) (λ x. end_round limits x.0 x.1) (sound_operand 0 (stack_tokens s ++ tokens e) e s (omega arith) good refl) (λ x h. sound_round (stack_tokens s ++ tokens e) x h)
sound_have_mark e s good OpenIndex = record { good = ((good.0, good.1), good.3); same = more_token (stack_tokens s) (stack_tokens s ++ tokens e) e (mark OpenIndex) refl }
sound_have_mark e s good CloseIndex = closing 0 e s (mark CloseIndex) (close_either limits e s) (λ x. end_index limits x.0 x.1) (sound_operand 0 (stack_tokens s ++ tokens e) e s (omega arith) good refl) (λ x h. sound_index (stack_tokens s ++ tokens e) x h)
sound_have_mark e s good Dot = record { good = (good.0, good.1, good.3); same = refl }
sound_have_mark e s good Comma = closing 0 e s (mark Comma) (close_either limits e s) (λ x. end_argument x.0 x.1) (sound_operand 0 (stack_tokens s ++ tokens e) e s (omega arith) good refl) (λ x h. sound_argument (stack_tokens s ++ tokens e) x h)
sound_have_mark e s good Star = tt
sound_have_mark e s good Not = tt
sound_have_mark e s good Both = closing 2 e s (mark Both) (close_equality limits e s) (λ x. Ok (want (both_more x.0 x.1))) (sound_operand 2 (stack_tokens s ++ tokens e) e s (omega arith) good refl) (λ x h. sound_both_more (stack_tokens s ++ tokens e) x h)
sound_have_mark e s good Either = closing 1 e s (mark Either) (close_both limits e s) (λ x. Ok (want (either_more x.0 x.1))) (sound_operand 1 (stack_tokens s ++ tokens e) e s (omega arith) good refl) (λ x h. sound_either_more (stack_tokens s ++ tokens e) x h)

sound_have : (e : Expr) (s : List Part) → GoodOperand e s → (t : Token) → Holds (have_step limits e s t) (After ((stack_tokens s ++ tokens e) ++ t ∷ [])) (Amiss ((stack_tokens s ++ tokens e) ++ t ∷ []))
sound_have e s good (constant l) = tt
sound_have e s good (root c) = tt
sound_have e s good (callee f) = tt
sound_have e s good (name w) = tt
sound_have e s good (relational r) = closing 3 e s (relational r) (close_relation limits e s) (λ x. Ok (want (relation_of r x.0 ∷ x.1))) (sound_operand 3 (stack_tokens s ++ tokens e) e s (omega arith) good refl)
    (λ x h. record { good = ((h.below, h.tight, h.shaped), h.good); same = more_token (stack_tokens x.1) (stack_tokens s ++ tokens e) x.0 (relational r) h.same })
sound_have e s good (equational q) = closing 2 e s (equational q) (close_equality limits e s) (λ x. Ok (want (equality_of q x.0 ∷ x.1))) (sound_operand 2 (stack_tokens s ++ tokens e) e s (omega arith) good refl)
    (λ x h. record { good = ((h.below, h.tight, h.shaped), h.good); same = more_token (stack_tokens x.1) (stack_tokens s ++ tokens e) x.0 (equational q) h.same })
sound_have e s good (mark m) = sound_have_mark e s good m

-- Two tokens after a tree.
two_more : (s : List Token) (e : Expr) (t u : Token) → s ++ (tokens e ++ t ∷ u ∷ []) ≡ ((s ++ tokens e) ++ t ∷ []) ++ u ∷ []
two_more s e t u = sym (append_assoc s (tokens e) (t ∷ u ∷ [])) ∙ sym (append_assoc (s ++ tokens e) (t ∷ []) (u ∷ []))

three_more : (s : List Token) (e : Expr) (t u v : Token) → s ++ (tokens e ++ t ∷ u ∷ v ∷ []) ≡ ((s ++ tokens e) ++ t ∷ u ∷ []) ++ v ∷ []
three_more s e t u v = sym (append_assoc s (tokens e) (t ∷ u ∷ v ∷ [])) ∙ sym (append_assoc (s ++ tokens e) (t ∷ u ∷ []) (v ∷ []))

sound_dotted : (e : Expr) (s : List Part) → GoodBase e s → (t : Token) → Holds (dotted_step limits e s t) (After (((stack_tokens s ++ tokens e) ++ mark Dot ∷ []) ++ t ∷ [])) (Amiss (((stack_tokens s ++ tokens e) ++ mark Dot ∷ []) ++ t ∷ []))
sound_dotted e s good (constant l) = tt
sound_dotted e s good (root c) = tt
sound_dotted e s good (callee f) = tt
sound_dotted e s good (name w) = have_over (((stack_tokens s ++ tokens e) ++ mark Dot ∷ []) ++ name w ∷ []) (property e w) s (omega arith) (good.0, good.1) good.2 (two_more (stack_tokens s) e (mark Dot) (name w))
sound_dotted e s good (relational r) = tt
sound_dotted e s good (equational q) = tt
sound_dotted e s good (mark Open) = tt
sound_dotted e s good (mark Close) = tt
sound_dotted e s good (mark OpenIndex) = tt
sound_dotted e s good (mark CloseIndex) = tt
sound_dotted e s good (mark Dot) = tt
sound_dotted e s good (mark Comma) = tt
sound_dotted e s good (mark Star) = have_over (((stack_tokens s ++ tokens e) ++ mark Dot ∷ []) ++ mark Star ∷ []) (wildcard Dotted e) s (omega arith) (good.0, good.1) good.2 (two_more (stack_tokens s) e (mark Dot) (mark Star))
sound_dotted e s good (mark Not) = tt
sound_dotted e s good (mark Both) = tt
sound_dotted e s good (mark Either) = tt

sound_called : (f : Function) (s : List Part) → GoodStack s → (t : Token) → Holds (called_step f s t) (After ((stack_tokens s ++ callee f ∷ []) ++ t ∷ [])) (Amiss ((stack_tokens s ++ callee f ∷ []) ++ t ∷ []))
sound_called f s good (constant l) = tt
sound_called f s good (root c) = tt
sound_called f s good (callee g) = tt
sound_called f s good (name w) = tt
sound_called f s good (relational r) = tt
sound_called f s good (equational q) = tt
sound_called f s good (mark Open) = record { good = (tt, good); same = sym (append_assoc (stack_tokens s) (callee f ∷ []) (mark Open ∷ [])) }
sound_called f s good (mark Close) = tt
sound_called f s good (mark OpenIndex) = tt
sound_called f s good (mark CloseIndex) = tt
sound_called f s good (mark Dot) = tt
sound_called f s good (mark Comma) = tt
sound_called f s good (mark Star) = tt
sound_called f s good (mark Not) = tt
sound_called f s good (mark Both) = tt
sound_called f s good (mark Either) = tt

sound_starred : (e : Expr) (s : List Part) → GoodBase e s → (t : Token) → Holds (starred_step limits e s t) (After (((stack_tokens s ++ tokens e) ++ mark OpenIndex ∷ mark Star ∷ []) ++ t ∷ [])) (Amiss (((stack_tokens s ++ tokens e) ++ mark OpenIndex ∷ mark Star ∷ []) ++ t ∷ []))
sound_starred e s good (constant l) = tt
sound_starred e s good (root c) = tt
sound_starred e s good (callee f) = tt
sound_starred e s good (name w) = tt
sound_starred e s good (relational r) = tt
sound_starred e s good (equational q) = tt
sound_starred e s good (mark Open) = tt
sound_starred e s good (mark Close) = tt
sound_starred e s good (mark OpenIndex) = tt
sound_starred e s good (mark CloseIndex) = have_over (((stack_tokens s ++ tokens e) ++ mark OpenIndex ∷ mark Star ∷ []) ++ mark CloseIndex ∷ []) (wildcard Bracketed e) s (omega arith) (good.0, good.1) good.2 (three_more (stack_tokens s) e (mark OpenIndex) (mark Star) (mark CloseIndex))
sound_starred e s good (mark Dot) = tt
sound_starred e s good (mark Comma) = tt
sound_starred e s good (mark Star) = tt
sound_starred e s good (mark Not) = tt
sound_starred e s good (mark Both) = tt
sound_starred e s good (mark Either) = tt

-- A step keeps a state good, with one token more.
pub sound_step : (st : State) → GoodState st → (t : Token) → Holds (step limits st t) (After (state_tokens st ++ t ∷ [])) (Amiss (state_tokens st ++ t ∷ []))
sound_step (want s) good t = sound_want s good t
sound_step (have e s) good t = sound_have e s good t
sound_step (dotted e s) good t = sound_dotted e s good t
sound_step (called f s) good t = sound_called f s good t
sound_step (starred e s) good t = sound_starred e s good t

-- A tree of the grammar within the limit, of these tokens.
pub record Tokenized (ts : List Token) (e : Expr) : Type 0 where
  pub shaped : Shaped e
  pub shallow : depth e ≤ 50
  pub same : tokens e ≡ ts

sound_end : (read : List Token) (x : Held) → HeldAt 0 read x → Holds (end_text x.0 x.1) (Tokenized read) (Amiss read)
sound_end read (e, []) h = record { shaped = h.shaped; shallow = h.shallow; same = h.same }
sound_end read (e, p ∷ s) h = tt

-- The tree at the end has the tokens that were read.
pub sound_finish : (st : State) → GoodState st → Holds (finish limits st) (Tokenized (state_tokens st)) (Amiss (state_tokens st))
sound_finish (want s) good = tt
sound_finish (have e s) good = then_holds (close_either limits e s) (λ x. end_text x.0 x.1) (HeldAt 0 (stack_tokens s ++ tokens e)) (Tokenized (stack_tokens s ++ tokens e)) (Amiss (stack_tokens s ++ tokens e)) (sound_operand 0 (stack_tokens s ++ tokens e) e s (omega arith) good refl) (λ x h. sound_end (stack_tokens s ++ tokens e) x h)
sound_finish (dotted e s) good = tt
sound_finish (called f s) good = tt
sound_finish (starred e s) good = tt
