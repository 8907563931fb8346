-- What a text asks for, by what it begins with.
use Rattle.std.proofs.Common.{◌≡◌, ◌≢◌, ℕ, ◌+◌, Bool, true, false, cond, List, [], ◌∷◌, ◌++◌, length, take, drop, codes, Option, Some, None, refl, ap, sym, ◌∙◌, subst, arith}
use Rattle.std.proofs.Math.Seq.{take-append_seam, drop-append_seam}
use Rattle.std.proofs.lemmas.Bool.{lt-ltb}
use Rattle.std.proofs.lemmas.List.{append_cancel_left}
use Rattle.std.specs.Char.{digit_value, is_digit}
use Rattle.std.specs.List.{prefix_len}
use Rattle.std.specs.Str.Parse.{AllDigits}
use Rattle.debugger.specs.declared.breaks.Break.{Break}
use Rattle.command_debug.specs.declared.requests.Request.{Request}
use Rattle.command_debug.specs.declared.requests.Request.TheVariants.{Step, Back, GoTo, Go, GoBack, Show, Set, Clear}
use Rattle.command_debug.specs.Requests.{After, Asks, FindsOne, IsNoWord, Names, Writes, WritesTwo}

-- what follows a front says all that the text says
pub after_front : {X : Type 0} (Says : List ℕ → X → Type 0) (front text rest : List ℕ) (found : Option X) → text ≡ front ++ rest → FindsOne (Says rest) found
    → FindsOne (After Says front text) found
after_front Says front text rest None is none =
    λ x w. none x (subst (λ (t : List ℕ). Says t x) (append_cancel_left front w.0 rest (sym w.1 ∙ is)) w.2)
after_front Says front text rest (Some x) is says = (rest, is, says)

-- ---- two numbers

digits_before : (b : Bool) (k : ℕ) → b ≡ true → cond b (1 + k) 0 ≡ 1 + k
digits_before true k h = refl
digits_before false k h = absurd (cc)

-- the digits of a number end where a space follows them
digits_end : (one other : List ℕ) → AllDigits 10 one → prefix_len (λ b. is_digit b 10) (one ++ (codes " " ++ other)) ≡ length one
digits_end [] other digits = refl
digits_end (d ∷ one) other digits =
    let here : is_digit d 10 ≡ true = lt-ltb (digit_value d) 10 digits.0 in
    digits_before (is_digit d 10) (prefix_len (λ b. is_digit b 10) (one ++ (codes " " ++ other))) here
    ∙ omega (arith, digits_end one other digits.1)

-- where there are two numbers the first ends with the digits that the text begins with
module _ (text one other : List ℕ) (n : ℕ) (is : text ≡ one ++ (codes " " ++ other)) (digits : AllDigits 10 one) (ends : n ≡ prefix_len (λ b. is_digit b 10) text) where
  so_many : n ≡ length one
  so_many = ends ∙ ap (prefix_len (λ b. is_digit b 10)) is ∙ digits_end one other digits

  pub first_is : take n text ≡ one
  first_is = ap (λ (k : ℕ). take k text) so_many ∙ ap (take (length one)) is ∙ take-append_seam one (codes " " ++ other)

  pub rest_is : drop n text ≡ codes " " ++ other
  rest_is = ap (λ (k : ℕ). drop k text) so_many ∙ ap (drop (length one)) is ∙ drop-append_seam one (codes " " ++ other)

pub no_first : (text : List ℕ) (n : ℕ) → n ≡ prefix_len (λ b. is_digit b 10) text → FindsOne (Writes (take n text)) None → FindsOne (WritesTwo text) None
no_first text n ends none = λ x w. none x.0 (subst (λ (t : List ℕ). Writes t x.0) (sym (first_is text w.0 w.1 n w.2 w.3.0.1 ends)) w.3)

pub no_second : (text : List ℕ) (n : ℕ) → n ≡ prefix_len (λ b. is_digit b 10) text → FindsOne (After Writes (codes " ") (drop n text)) None → FindsOne (WritesTwo text) None
no_second text n ends none = λ x w. none x.1 (w.1, rest_is text w.0 w.1 n w.2 w.3.0.1 ends, w.4)

-- ---- breaks and requests

pub no_break : (name : List ℕ) → name ≢ codes "failed" → FindsOne (After Writes (codes "leg ") name) None → FindsOne (After Writes (codes "ends ") name) None
    → FindsOne (After WritesTwo (codes "step ") name) None → FindsOne (Names name) None
no_break name failed leg ends step = none
  where
    none : (wanted : Break) → Names name wanted → ⊥
    none (Break.Leg l) h = leg l h
    none (Break.Step l s) h = step (l, s) h
    none (Break.Ends l) h = ends l h
    none Break.Failed h = failed h

pub no_request : (line : List ℕ) → IsNoWord line → FindsOne (After Writes (codes "goto ") line) None → FindsOne (After Names (codes "break ") line) None
    → FindsOne (After Names (codes "clear ") line) None → FindsOne (Asks line) None
no_request line word to set clear = none
  where
    none : (request : Request) → Asks line request → ⊥
    none Step h = word.step h
    none Back h = word.back h
    none (GoTo k) h = to k h
    none Go h = word.go h
    none GoBack h = word.go_back h
    none Show h = word.show h
    none (Set wanted) h = set wanted h
    none (Clear wanted) h = clear wanted h
