-- A line asks for one thing at most: what it asks for is read off it.
use Rattle.std.proofs.Common.{◌≡◌, ℕ, List, take, drop, min, nat_eq, codes, if◌then◌else◌, refl, ap, sym, ◌∙◌}
use Rattle.std.specs.Char.{is_digit}
use Rattle.std.specs.List.{prefix_len, starts_with}
use Rattle.std.specs.Str.{bytes_eq}
use Rattle.std.specs.Str.Parse.{digits_value}
use Rattle.debugger.specs.declared.breaks.Break.{Break}
use Rattle.command_debug.specs.declared.requests.Request.{Request}
use Rattle.command_debug.specs.declared.requests.Request.TheVariants.{Step, Back, GoTo, Go, GoBack, Show, Set, Clear}
use Rattle.command_debug.specs.Requests.{Asks, Names, OneRequest, Writes, WritesTwo, greatest}
use Rattle.command_debug.proofs.Asked.{first_is, rest_is}

-- ---- what stands in a text that says something

number_in : List ℕ → ℕ
number_in digits = min (digits_value 10 digits) greatest

number_is : (digits : List ℕ) (n : ℕ) → Writes digits n → number_in digits ≡ n
unfolding number_in
number_is digits n h = sym h.1

digits_in : List ℕ → ℕ
digits_in text = prefix_len (λ b. is_digit b 10) text

two_in : List ℕ → ℕ × ℕ
two_in text = (number_in (take (digits_in text) text), number_in (drop 1 (drop (digits_in text) text)))

two_are : (text : List ℕ) (x : ℕ × ℕ) → WritesTwo text x → two_in text ≡ x
unfolding two_in digits_in
two_are text x w =
    let n = prefix_len (λ b. is_digit b 10) text in
    let first : number_in (take n text) ≡ x.0 = ap number_in (first_is text w.0 w.1 n w.2 w.3.0.1 refl) ∙ number_is w.0 x.0 w.3 in
    let second : number_in (drop 1 (drop n text)) ≡ x.1 =
    ap (λ (t : List ℕ). number_in (drop 1 t)) (rest_is text w.0 w.1 n w.2 w.3.0.1 refl) ∙ number_is w.1 x.1 w.4 in
    ap (λ (k : ℕ). (k, number_in (drop 1 (drop n text)))) first ∙ ap (λ (k : ℕ). (x.0, k)) second

break_in : List ℕ → Break
break_in name =
    if bytes_eq name (codes "failed") then Break.Failed
    else if starts_with nat_eq name (codes "leg ") then Break.Leg (number_in (drop 4 name))
    else if starts_with nat_eq name (codes "ends ") then Break.Ends (number_in (drop 5 name))
    else Break.Step (two_in (drop 5 name)).0 (two_in (drop 5 name)).1

break_is : (name : List ℕ) (wanted : Break) → Names name wanted → break_in name ≡ wanted
unfolding break_in
break_is name (Break.Leg l) w = ap break_in w.1 ∙ ap (λ (k : ℕ). Break.Leg k) (number_is w.0 l w.2)
break_is name (Break.Step l s) w =
    ap break_in w.1 ∙ ap (λ (x : ℕ × ℕ). Break.Step x.0 x.1) (two_are w.0 (l, s) w.2)
break_is name (Break.Ends l) w = ap break_in w.1 ∙ ap (λ (k : ℕ). Break.Ends k) (number_is w.0 l w.2)
break_is name Break.Failed h = ap break_in h

request_in : List ℕ → Request
request_in line =
    if bytes_eq line (codes "step") then Step
    else if bytes_eq line (codes "back") then Back
    else if bytes_eq line (codes "go") then Go
    else if bytes_eq line (codes "go-back") then GoBack
    else if bytes_eq line (codes "show") then Show
    else if starts_with nat_eq line (codes "goto ") then GoTo (number_in (drop 5 line))
    else if starts_with nat_eq line (codes "break ") then Set (break_in (drop 6 line))
    else Clear (break_in (drop 6 line))

request_is : (line : List ℕ) (request : Request) → Asks line request → request_in line ≡ request
unfolding request_in
request_is line Step h = ap request_in h
request_is line Back h = ap request_in h
request_is line (GoTo k) w = ap request_in w.1 ∙ ap (λ (n : ℕ). GoTo n) (number_is w.0 k w.2)
request_is line Go h = ap request_in h
request_is line GoBack h = ap request_in h
request_is line Show h = ap request_in h
request_is line (Set wanted) w = ap request_in w.1 ∙ ap (λ (b : Break). Set b) (break_is w.0 wanted w.2)
request_is line (Clear wanted) w = ap request_in w.1 ∙ ap (λ (b : Break). Clear b) (break_is w.0 wanted w.2)

pub one_request : OneRequest
one_request = λ line a b is other. sym (request_is line a is) ∙ request_is line b other
