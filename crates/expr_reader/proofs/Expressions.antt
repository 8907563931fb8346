-- What reading a whole text gives, in the words of its spelling.
use Rattle.std.proofs.Common.{◌≡◌, ℕ, suc, ◌+◌, ◌-◌, ◌≤◌, Bool, true, false, cond, nat_lt, Result, Ok, Err, Option, Some, None, IfOk, IfErr, IfSome, List, [], ◌∷◌, length, refl, sym, ap, subst, ◌∙◌, length-append, arith}
use Rattle.std.proofs.lemmas.Bool.{cond-false, le-ltb, ltb-true, ltb-false}
use Rattle.expr_reader.specs.Expr.{Expr}
use Rattle.expr_reader.specs.Faults.{fault_at, IsRead, Gives, StandsIn, FaultStands}
use Rattle.expr_reader.specs.Grammar.{Token}
use Rattle.expr_reader.specs.Machine.{want}
use Rattle.expr_reader.specs.Reading.{Failure, reads, located, read_tokens, read_text}
use Rattle.expr_reader.specs.Spelling.{Lexes}
use Rattle.expr_reader.specs.Spells.{Spells}
use Rattle.expr_reader.specs.Stands.{is_dot, Leads, Stands, at_bytes, at_token, at_end, StandsAt}
use Rattle.expr_reader.specs.View.{view}
use Rattle.expr_reader.specs.declared.fault.ExprFault.{ExprFault}
use Rattle.expr_reader.specs.declared.fault.Fault.{Fault}
use Rattle.expr_reader.specs.declared.fault.Fault.TheVariants.{UnclosedText, BadNumber, BadChar, Unexpected, UnknownName, UnknownFunction, ArgumentCount, TooDeep, TooLong, UnclosedTemplate, StatusHere}
use Rattle.expr_reader.specs.declared.tree.Tree.{Tree}
use Rattle.expr_reader.proofs.Readings.{Gets, rest_shorter, text_sound, text_again}

-- What is spelled so is read.
pub spelled_read : (base : ℕ) (e : Expr) (text : List ℕ) → Spells e text → read_text base text ≡ Ok e
spelled_read base e text s =
    cond-false (nat_lt 20000 (length text)) (Err (TooLong, base + 20000)) (read_tokens base text) (le-ltb 20000 (length text) s.short)
    ∙ ap (located base (length text)) (text_again e text s.shaped s.shallow s.lexes)

read_by : (base : ℕ) (text : List ℕ) (e : Expr) (r : Result Expr Failure) → Gets false [] text r → length text ≤ 20000 → located base (length text) r ≡ Ok e → Spells e text
read_by base text e (Ok d) gets short h =
    let same : d ≡ e = cc in
    let spells : Spells d text = record { shaped = gets.2.shaped; shallow = gets.2.shallow; short = short; lexes = subst (Lexes text) (sym gets.2.same) gets.1 } in
    subst (λ (z : Expr). Spells z text) same spells
read_by base text e (Err x) gets short h = cc

limited : (base : ℕ) (text : List ℕ) (e : Expr) (t : Bool) → nat_lt 20000 (length text) ≡ t → cond t (Err (TooLong, base + 20000)) (read_tokens base text) ≡ Ok e → Spells e text
limited base text e true test h = cc
limited base text e false test h = read_by base text e (reads (suc (length text)) (want []) text) (text_sound text) (ltb-false 20000 (length text) test) h

-- What is read is spelled so.
pub read_spells : (base : ℕ) (text : List ℕ) (e : Expr) → read_text base text ≡ Ok e → Spells e text
read_spells base text e h = limited base text e (nat_lt 20000 (length text)) refl h

leads_short : (dotted : Bool) (text : List ℕ) (ts : List Token) (rest : List ℕ) → Leads dotted text ts rest → length rest ≤ length text
leads_short dotted text [] rest h = omega (arith, ap length h.2, length-append h.0 rest)
leads_short dotted text (t ∷ ts) rest h = omega (arith, rest_shorter text t h.0 h.1, leads_short (is_dot t) h.0 ts rest h.3)

no_limit : (f : Fault) (ts : List Token) (rest : List ℕ) (text : List ℕ) (n : ℕ) → Stands f ts rest → StandsAt f text n → StandsIn text (f, n)
no_limit UnclosedText ts rest text n stands h = h
no_limit BadNumber ts rest text n stands h = h
no_limit BadChar ts rest text n stands h = h
no_limit Unexpected ts rest text n stands h = h
no_limit UnknownName ts rest text n stands h = h
no_limit UnknownFunction ts rest text n stands h = h
no_limit ArgumentCount ts rest text n stands h = h
no_limit TooDeep ts rest text n stands h = h
no_limit TooLong ts rest text n (at_bytes blocks alone none) h = absurd blocks
no_limit TooLong ts rest text n (at_token t after begins fits none wrong) h = absurd wrong
no_limit TooLong ts rest text n (at_end ended none wrong) h = absurd wrong
no_limit UnclosedTemplate ts rest text n (at_bytes blocks alone none) h = blocks
no_limit UnclosedTemplate ts rest text n (at_token t after begins fits none wrong) h = wrong
no_limit UnclosedTemplate ts rest text n (at_end ended none wrong) h = wrong
no_limit StatusHere ts rest text n (at_bytes blocks alone none) h = blocks
no_limit StatusHere ts rest text n (at_token t after begins fits none wrong) h = wrong
no_limit StatusHere ts rest text n (at_end ended none wrong) h = wrong

-- A fault stands at a place of the text, which begins at base.
abbrev pub StandsFrom : ℕ → List ℕ → Failure → Type 0
StandsFrom base text x = (k : ℕ) × StandsIn text (x.0, k) × (x.1 ≡ base + k)

stands_by : (base : ℕ) (text : List ℕ) (x : Failure) (r : Result Expr Failure) → Gets false [] text r → located base (length text) r ≡ Err x → StandsFrom base text x
stands_by base text x (Ok d) gets h = cc
stands_by base text x (Err y) gets h =
    let same : (y.0, base + (length text - y.1)) ≡ x = cc in
    let place = leads_short false text gets.0 gets.1 gets.2 in
    subst (StandsFrom base text) same (
      length text - y.1,
      no_limit y.0 gets.0 gets.1 text (length text - y.1) gets.4
          (record { before = gets.0; rest = gets.1; leads = gets.2; bare = gets.5; here = omega (arith, place, gets.3); stands = gets.4 }),
      refl,
    )

limit_stands : (base : ℕ) (text : List ℕ) (x : Failure) (t : Bool) → nat_lt 20000 (length text) ≡ t → cond t (Err (TooLong, base + 20000)) (read_tokens base text) ≡ Err x → StandsFrom base text x
limit_stands base text x true test h =
    let same : (TooLong, base + 20000) ≡ x = cc in
    subst (StandsFrom base text) same (20000, (ltb-true 20000 (length text) test, refl), refl)
limit_stands base text x false test h = stands_by base text x (reads (suc (length text)) (want []) text) (text_sound text) h

-- A fault stands in the text.
pub read_stands : (base : ℕ) (text : List ℕ) (x : Failure) → read_text base text ≡ Err x → StandsFrom base text x
read_stands base text x h = limit_stands base text x (nat_lt 20000 (length text)) refl h

one_answer : (r : Result Expr Failure) (t u : Expr) → r ≡ Ok t → r ≡ Ok u → t ≡ u
one_answer r t u h g = cc

-- No text spells two expressions.
pub spelled_once : (t u : Expr) (text : List ℕ) → Spells t text → Spells u text → t ≡ u
spelled_once t u text s r = one_answer (read_text 0 text) t u (spelled_read 0 t text s) (spelled_read 0 u text r)

-- The clauses of the public call, from what its helper answers.
pub answers_found : (text : List ℕ) (result : Result Tree ExprFault) → Gives view result (read_text 0 text) → IfOk result (λ t. Spells (view t) text)
answers_found text (Ok t) h = read_spells 0 text (view t) h
answers_found text (Err f) h = tt

-- Where there is an answer, the only fault is want of memory.
pub only_memory : {A : Type 0} (r : Result A Failure) (x : A) (f : ExprFault) (o : Option Failure) → fault_at f ≡ o → r ≡ Ok x → IfSome o (λ y. r ≡ Err y) → fault_at f ≡ None
only_memory r x f None at read h = at
only_memory r x f (Some y) at read h = cc

pub answers_only : (text : List ℕ) (result : Result Tree ExprFault) → Gives view result (read_text 0 text) → (e : Expr) → Spells e text → IsRead result e
answers_only text (Ok t) h e s = one_answer (read_text 0 text) (view t) e h (spelled_read 0 e text s)
answers_only text (Err f) h e s = only_memory (read_text 0 text) e f (fault_at f) refl (spelled_read 0 e text s) h

at_start : (text : List ℕ) (x : Failure) → StandsFrom 0 text x → StandsIn text x
at_start text x h = let same : h.0 ≡ x.1 = omega (arith, h.2) in subst (λ (n : ℕ). StandsIn text (x.0, n)) same h.1

stands_of : (text : List ℕ) (o : Option Failure) → IfSome o (λ x. read_text 0 text ≡ Err x) → IfSome o (StandsIn text)
stands_of text None h = tt
stands_of text (Some x) h = at_start text x (read_stands 0 text x h)

pub answers_stand : (text : List ℕ) (result : Result Tree ExprFault) → Gives view result (read_text 0 text) → IfErr result (λ f. FaultStands text f)
answers_stand text (Ok t) h = tt
answers_stand text (Err f) h = stands_of text (fault_at f) h
