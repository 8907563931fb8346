-- Reading a text token by token.
use Rattle.std.proofs.Common.{◌≡◌, ℕ, zero, suc, ◌+◌, ◌-◌, ◌<◌, ◌≤◌, Bool, Result, Ok, Err, Option, Some, None, IfSome, List, [], length, refl, sym, ap, subst, ◌∙◌, arith}
use Rattle.expr_reader.specs.Bytes.{skip_white}
use Rattle.expr_reader.specs.Expr.{Expr}
use Rattle.expr_reader.specs.Lexer.{Lexed, next_at, next}
use Rattle.expr_reader.specs.Machine.{State, want, is_dotted, limits, step, finish}
use Rattle.expr_reader.specs.Reading.{Failure, placed, after_step, after_token, reads, located, read_tokens}
use Rattle.expr_reader.specs.declared.fault.Fault.{Fault}
use Rattle.expr_reader.proofs.Lexing.{Comes, next_comes}
use Rattle.expr_reader.proofs.Readings.{rest_shorter}

-- How many tokens are allowed does not matter where they are enough.
abbrev SameFuel : ℕ → Type 0
SameFuel n = (m : ℕ) (st : State) (bs : List ℕ) → length bs < n → length bs < m → reads n st bs ≡ reads m st bs

fuel_step : (n m : ℕ) → SameFuel n → (left : ℕ) (rest : List ℕ) → length rest < n → length rest < m → (r : Result State Fault) → after_step (reads n) left rest r ≡ after_step (reads m) left rest r
fuel_step n m same left rest low high (Ok st) = same m st rest low high
fuel_step n m same left rest low high (Err f) = refl

fuel_token : (n m : ℕ) → SameFuel n → (st : State) (bs : List ℕ) (left : ℕ) → length bs < suc n → length bs < suc m → (r : Result (Option Lexed) Fault) → Comes bs r → after_token (reads n) st left r ≡ after_token (reads m) st left r
fuel_token n m same st bs left low high (Err f) comes = refl
fuel_token n m same st bs left low high (Ok None) comes = refl
fuel_token n m same st bs left low high (Ok (Some x)) comes =
    let shorter = rest_shorter bs x.0 x.1 comes in
    fuel_step n m same left x.1 (omega (arith, shorter)) (omega (arith, shorter)) (step limits st x.0)

same_fuel : (n : ℕ) → SameFuel n
same_fuel zero m st bs low high = absurd (omega arith)
same_fuel (suc n) zero st bs low high = absurd (omega arith)
same_fuel (suc n) (suc m) st bs low high = fuel_token n m (same_fuel n) st bs (length (skip_white bs)) low high (next (is_dotted st) bs) (next_comes (is_dotted st) bs)

-- What is left to read gives what the whole text gives.
pub record IsReading (text rest : List ℕ) (st : State) : Type 0 where
  pub short : length rest ≤ length text
  pub same : reads (suc (length rest)) st rest ≡ reads (suc (length text)) (want []) text

pub begin : (text : List ℕ) (st : State) → st ≡ want [] → IsReading text text st
begin text st h = record { short = omega arith; same = ap (λ (s : State). reads (suc (length text)) s text) h }

-- The next token where nothing white stands in front.
at_start : (rest start : List ℕ) (st : State) (r : Result (Option Lexed) Fault) → start ≡ skip_white rest → next_at (is_dotted st) start ≡ r → reads (suc (length rest)) st rest ≡ after_token (reads (length rest)) st (length start) r
at_start rest start st r start_is h =
    ap (λ (z : List ℕ). after_token (reads (length rest)) st (length z) (next_at (is_dotted st) z)) (sym start_is) ∙ ap (after_token (reads (length rest)) st (length start)) h

whole : (base : ℕ) (text rest start : List ℕ) (st : State) (r : Result (Option Lexed) Fault) → IsReading text rest st → start ≡ skip_white rest → next_at (is_dotted st) start ≡ r → read_tokens base text ≡ located base (length text) (after_token (reads (length rest)) st (length start) r)
whole base text rest start st r reading start_is h = ap (located base (length text)) (sym reading.same ∙ at_start rest start st r start_is h)

-- What is given with a place is given.
pub placed_given : {A : Type 0} (place : ℕ) (r : Result A Fault) (x : A) → placed place r ≡ Ok x → r ≡ Ok x
placed_given place (Ok y) x h = cc
placed_given place (Err f) x h = cc

step_fails : (base : ℕ) (text rest start : List ℕ) (st : State) (x : Lexed) (y : Failure) (r : Result State Fault) → IsReading text rest st → start ≡ skip_white rest → next_at (is_dotted st) start ≡ Ok (Some x) → step limits st x.0 ≡ r → placed (base + (length text - length start)) r ≡ Err y → read_tokens base text ≡ Err y
step_fails base text rest start st x y (Ok after) reading start_is comes at h = cc
step_fails base text rest start st x y (Err f) reading start_is comes at h =
    whole base text rest start st (Ok (Some x)) reading start_is comes
    ∙ ap (λ (r : Result State Fault). located base (length text) (after_step (reads (length rest)) (length start) x.1 r)) at ∙ cc

-- A token comes that is refused.
pub step_refused : (base : ℕ) (text rest start : List ℕ) (st : State) (x : Lexed) (o : Option Failure) → IsReading text rest st → start ≡ skip_white rest → next_at (is_dotted st) start ≡ Ok (Some x) → IfSome o (λ y. placed (base + (length text - length start)) (step limits st x.0) ≡ Err y) → IfSome o (λ y. read_tokens base text ≡ Err y)
step_refused base text rest start st x None reading start_is comes h = tt
step_refused base text rest start st x (Some y) reading start_is comes h = step_fails base text rest start st x y (step limits st x.0) reading start_is comes refl h

located_placed : (base size left : ℕ) (r : Result Expr Fault) → located base size (placed left r) ≡ placed (base + (size - left)) r
located_placed base size left (Ok e) = refl
located_placed base size left (Err f) = refl

-- The end comes, and the tree is whole, or the end comes too early.
pub end_read : (base : ℕ) (text rest start : List ℕ) (st : State) → IsReading text rest st → start ≡ skip_white rest → next_at (is_dotted st) start ≡ Ok None → placed (base + (length text - length start)) (finish limits st) ≡ read_tokens base text
end_read base text rest start st reading start_is comes =
    sym (whole base text rest start st (Ok None) reading start_is comes ∙ located_placed base (length text) (length start) (finish limits st))

abbrev comes_so : (bs : List ℕ) (x : Lexed) (d : Bool) → next d bs ≡ Ok (Some x) → Comes bs (Ok (Some x))
comes_so bs x d h = subst (Comes bs) h (next_comes d bs)

-- What follows a token is shorter.
pub shorter : (rest start : List ℕ) (d : Bool) (x : Lexed) → start ≡ skip_white rest → next_at d start ≡ Ok (Some x) → length x.1 < length rest
shorter rest start d x start_is comes = rest_shorter rest x.0 x.1 (comes_so rest x d (ap (next_at d) (sym start_is) ∙ comes))

-- A token comes and is taken.
pub goes_on : (text rest start : List ℕ) (st : State) (x : Lexed) (after : State) → IsReading text rest st → start ≡ skip_white rest → next_at (is_dotted st) start ≡ Ok (Some x) → step limits st x.0 ≡ Ok after → IsReading text x.1 after
goes_on text rest start st x after reading start_is comes taken =
    let less = shorter rest start (is_dotted st) x start_is comes in
    record {
      short = omega (arith, less, reading.short);
      same = same_fuel (suc (length x.1)) (length rest) after x.1 (omega arith) less
          ∙ sym (ap (after_step (reads (length rest)) (length start) x.1) taken)
          ∙ sym (at_start rest start st (Ok (Some x)) start_is comes) ∙ reading.same;
    }
