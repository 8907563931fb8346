-- A machine without limits does what the limited one does, until that one meets a limit.
use Rattle.std.proofs.Common.{◌≡◌, ℕ, Bool, true, false, cond, nat_lt, nat_le, Result, Ok, Err, List, [], ◌∷◌, ◌++◌, refl, sym, ap, subst}
use Rattle.expr_reader.specs.Expr.{Expr, Exprs, call, group, property, index, wildcard, exprs_of, count, depth}
use Rattle.expr_reader.specs.Grammar.{Token, name, relational, equational, mark, takes}
use Rattle.expr_reader.specs.Machine.{Part, equality_of, relation_of, group_of, index_of, call_of, State, want, have, dotted, called, starred, Held, binding, completed, both_more, either_more, have_made, end_argument, end_text, called_step, limits, node, called_with, close, end_round, end_index, end_empty, want_mark, have_mark, want_step, have_step, dotted_step, starred_step, step, run, finish}
use Rattle.expr_reader.specs.Outcome.{◌>>=◌}
use Rattle.expr_reader.specs.declared.fault.Fault.{Fault}
use Rattle.expr_reader.specs.declared.fault.Fault.TheVariants.{ArgumentCount, TooDeep}
use Rattle.expr_reader.specs.declared.token.Mark.{Mark}
use Rattle.expr_reader.specs.declared.token.Mark.TheVariants.{Close, CloseIndex, Comma, Star, Both, Either}
use Rattle.expr_reader.specs.declared.tree.Function.{Function}
use Rattle.expr_reader.specs.declared.tree.Wildcard.TheVariants.{Dotted, Bracketed}
use Rattle.expr_reader.proofs.Complete.{no_limits}
use Rattle.expr_reader.proofs.Runs.{if_holds}

-- Two outcomes are the same, or the first one met a limit.
abbrev pub Same : {A : Type 0} → Result A Fault → Result A Fault → Type 0
Same (Ok x) r = r ≡ Ok x
Same (Err TooDeep) r = Unit {0}
Same (Err ArgumentCount) r = Unit {0}
Same (Err f) r = r ≡ Err f

same_self : {A : Type 0} (r : Result A Fault) → Same r r
same_self (Ok x) = refl
same_self (Err TooDeep) = tt
same_self (Err ArgumentCount) = tt
same_self (Err f) = refl

same_then : {A B : Type 0} (r q : Result A Fault) (f g : A → Result B Fault) → Same r q → ((x : A) → Same (f x) (g x)) → Same (r >>= f) (q >>= g)
same_then (Ok x) q f g h go = subst (λ (z : Result _ Fault). Same (f x) (z >>= g)) (sym h) (go x)
same_then (Err TooDeep) q f g h go = tt
same_then (Err ArgumentCount) q f g h go = tt
same_then (Err e) q f g h go = ap (λ (z : Result _ Fault). z >>= g) h

same_choice : {A : Type 0} (b : Bool) (x y u v : Result A Fault) → Same x u → Same y v → Same (cond b x y) (cond b u v)
same_choice true x y u v here there = here
same_choice false x y u v here there = there

node_same : (e : Expr) → Same (node limits e) (node no_limits e)
node_same e = if_holds (λ z. Same z (Ok e)) (nat_lt 50 (depth e)) (Err TooDeep) (Ok e) (λ _. tt) (λ _. refl)

call_same : (f : Function) (es : Exprs) → Same (called_with limits f es) (called_with no_limits f es)
call_same f es = if_holds (λ z. Same z (Ok (call f es))) (takes f (count es)) (node limits (call f es)) (Err ArgumentCount) (λ _. node_same (call f es)) (λ _. tt)

made_same : (s : List Part) (made free : Result Expr Fault) → Same made free → Same (have_made s made) (have_made s free)
made_same s made free h = same_then made free (λ e. Ok (have e s)) (λ e. Ok (have e s)) h (λ e. refl)

close_same : (k : ℕ) (e : Expr) (s : List Part) → Same (close limits k e s) (close no_limits k e s)
close_same k e [] = refl
close_same k e (p ∷ s) =
    same_choice (nat_le k (binding p)) (node limits (completed p e) >>= λ t. close limits k t s) (Ok (e, p ∷ s)) (node no_limits (completed p e) >>= λ t. close no_limits k t s) (Ok (e, p ∷ s))
    (same_then (node limits (completed p e)) (node no_limits (completed p e)) (λ t. close limits k t s) (λ t. close no_limits k t s) (node_same (completed p e)) (λ t. close_same k t s))
    refl

-- What comes after a closing.
closed_same : {B : Type 0} (k : ℕ) (e : Expr) (s : List Part) (f g : Held → Result B Fault) → ((x : Held) → Same (f x) (g x)) → Same (close limits k e s >>= f) (close no_limits k e s >>= g)
closed_same k e s f g go = same_then (close limits k e s) (close no_limits k e s) f g (close_same k e s) go

round_same : (e : Expr) (s : List Part) → Same (end_round limits e s) (end_round no_limits e s)
round_same e (group_of ∷ s) = made_same s (node limits (group e)) (node no_limits (group e)) (node_same (group e))
round_same e (call_of f es ∷ s) = made_same s (called_with limits f (exprs_of (es ++ e ∷ []))) (called_with no_limits f (exprs_of (es ++ e ∷ []))) (call_same f (exprs_of (es ++ e ∷ [])))
round_same e s = refl

index_same : (e : Expr) (s : List Part) → Same (end_index limits e s) (end_index no_limits e s)
index_same e (index_of a ∷ s) = made_same s (node limits (index a e)) (node no_limits (index a e)) (node_same (index a e))
index_same e s = refl

empty_same : (s : List Part) → Same (end_empty limits s) (end_empty no_limits s)
empty_same (call_of f [] ∷ s) = made_same s (called_with limits f (exprs_of [])) (called_with no_limits f (exprs_of [])) (call_same f (exprs_of []))
empty_same s = refl

want_mark_same : (s : List Part) (m : Mark) → Same (want_mark limits s m) (want_mark no_limits s m)
want_mark_same s Close = empty_same s
want_mark_same s m = same_self (want_mark limits s m)

have_mark_same : (e : Expr) (s : List Part) (m : Mark) → Same (have_mark limits e s m) (have_mark no_limits e s m)
have_mark_same e s Close = closed_same 1 e s (λ x. end_round limits x.0 x.1) (λ x. end_round no_limits x.0 x.1) (λ x. round_same x.0 x.1)
have_mark_same e s CloseIndex = closed_same 1 e s (λ x. end_index limits x.0 x.1) (λ x. end_index no_limits x.0 x.1) (λ x. index_same x.0 x.1)
have_mark_same e s Comma = closed_same 1 e s (λ x. end_argument x.0 x.1) (λ x. end_argument x.0 x.1) (λ x. same_self (end_argument x.0 x.1))
have_mark_same e s Both = closed_same 3 e s (λ x. Ok (want (both_more x.0 x.1))) (λ x. Ok (want (both_more x.0 x.1))) (λ x. refl)
have_mark_same e s Either = closed_same 2 e s (λ x. Ok (want (either_more x.0 x.1))) (λ x. Ok (want (either_more x.0 x.1))) (λ x. refl)
have_mark_same e s m = refl

want_same : (s : List Part) (t : Token) → Same (want_step limits s t) (want_step no_limits s t)
want_same s (mark m) = want_mark_same s m
want_same s t = refl

have_same : (e : Expr) (s : List Part) (t : Token) → Same (have_step limits e s t) (have_step no_limits e s t)
have_same e s (relational r) = closed_same 4 e s (λ x. Ok (want (relation_of r x.0 ∷ x.1))) (λ x. Ok (want (relation_of r x.0 ∷ x.1))) (λ x. refl)
have_same e s (equational q) = closed_same 3 e s (λ x. Ok (want (equality_of q x.0 ∷ x.1))) (λ x. Ok (want (equality_of q x.0 ∷ x.1))) (λ x. refl)
have_same e s (mark m) = have_mark_same e s m
have_same e s t = refl

dotted_same : (e : Expr) (s : List Part) (t : Token) → Same (dotted_step limits e s t) (dotted_step no_limits e s t)
dotted_same e s (name w) = made_same s (node limits (property e w)) (node no_limits (property e w)) (node_same (property e w))
dotted_same e s (mark Star) = made_same s (node limits (wildcard Dotted e)) (node no_limits (wildcard Dotted e)) (node_same (wildcard Dotted e))
dotted_same e s t = refl

starred_same : (e : Expr) (s : List Part) (t : Token) → Same (starred_step limits e s t) (starred_step no_limits e s t)
starred_same e s (mark CloseIndex) = made_same s (node limits (wildcard Bracketed e)) (node no_limits (wildcard Bracketed e)) (node_same (wildcard Bracketed e))
starred_same e s t = refl

-- A step is the same.
pub step_same : (st : State) (t : Token) → Same (step limits st t) (step no_limits st t)
step_same (want s) t = want_same s t
step_same (have e s) t = have_same e s t
step_same (dotted e s) t = dotted_same e s t
step_same (called f s) t = same_self (called_step f s t)
step_same (starred e s) t = starred_same e s t

-- A run is the same.
pub run_same : (st : State) (ts : List Token) → Same (run limits st ts) (run no_limits st ts)
run_same st [] = refl
run_same st (t ∷ ts) = same_then (step limits st t) (step no_limits st t) (λ next. run limits next ts) (λ next. run no_limits next ts) (step_same st t) (λ next. run_same next ts)

-- The end is the same.
pub finish_same : (st : State) → Same (finish limits st) (finish no_limits st)
finish_same (have e s) = closed_same 1 e s (λ x. end_text x.0 x.1) (λ x. end_text x.0 x.1) (λ x. same_self (end_text x.0 x.1))
finish_same st = refl
