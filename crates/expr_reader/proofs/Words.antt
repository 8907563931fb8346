-- What names mean.
use Rattle.std.proofs.Common.{◌≡◌, ℕ, Bool, true, false, cond, Option, Some, None, List, [], ◌∷◌, refl, ap, ◌∙◌}
use Rattle.std.proofs.lemmas.Slice.Eq.{bytes_eq-Decides}
use Rattle.std.specs.List.{find}
use Rattle.std.specs.Prelude.{codes}
use Rattle.std.specs.Str.{bytes_eq}
use Rattle.expr_reader.specs.Bytes.{is_name, Stops, IsWord}
use Rattle.expr_reader.specs.Expr.{null, truth}
use Rattle.expr_reader.specs.Fold.{fold}
use Rattle.expr_reader.specs.Grammar.{Token, constant, root, callee}
use Rattle.expr_reader.specs.Lexer.{context_named, function_named, literal_named, function_or_literal, context_or_other, named}
use Rattle.expr_reader.specs.Names.{context_name, function_name}
use Rattle.expr_reader.specs.Spelling.{SpellsToken, EndsToken}
use Rattle.expr_reader.specs.declared.tree.Context.{Context}
use Rattle.expr_reader.specs.declared.tree.Context.TheVariants.{Github, Env, Vars, Job, Jobs, Steps, Runner, Secrets, Strategy, Matrix, Needs, Inputs}
use Rattle.expr_reader.specs.declared.tree.Function.{Function}
use Rattle.expr_reader.specs.declared.tree.Function.TheVariants.{Contains, StartsWith, EndsWith, Format, Join, ToJson, FromJson, Success, Failure, Cancelled, Always}
use Rattle.expr_reader.proofs.Runs.{if_holds}

-- What is found passes the test.
abbrev Passes : {A : Type 0} → (A → Bool) → Option A → Type 0
Passes p None = Unit {0}
Passes p (Some x) = p x ≡ true

find_passes : {A : Type 0} (p : A → Bool) (xs : List A) → Passes p (find p xs)
find_passes p [] = tt
find_passes p (x ∷ xs) = if_holds (Passes p) (p x) (Some x) (find p xs) (λ h. h) (λ h. find_passes p xs)

context_again : (c : Context) → context_named (context_name c) ≡ Some c
context_again Github = refl
context_again Env = refl
context_again Vars = refl
context_again Job = refl
context_again Jobs = refl
context_again Steps = refl
context_again Runner = refl
context_again Secrets = refl
context_again Strategy = refl
context_again Matrix = refl
context_again Needs = refl
context_again Inputs = refl

function_again : (f : Function) → (function_named (function_name f) ≡ Some f) × (context_named (function_name f) ≡ None)
function_again Contains = (refl, refl)
function_again StartsWith = (refl, refl)
function_again EndsWith = (refl, refl)
function_again Format = (refl, refl)
function_again Join = (refl, refl)
function_again ToJson = (refl, refl)
function_again FromJson = (refl, refl)
function_again Success = (refl, refl)
function_again Failure = (refl, refl)
function_again Cancelled = (refl, refl)
function_again Always = (refl, refl)

pub root_again : (c : Context) (w : List ℕ) → fold w ≡ context_name c → named w ≡ Some (root c)
root_again c w h = ap (λ (f : List ℕ). context_or_other (context_named f) w) h ∙ ap (λ (o : Option Context). context_or_other o w) (context_again c)

pub callee_again : (f : Function) (w : List ℕ) → fold w ≡ function_name f → named w ≡ Some (callee f)
callee_again f w h =
    ap (λ (g : List ℕ). context_or_other (context_named g) w) h
    ∙ ap (λ (o : Option Context). context_or_other o w) (function_again f).1
    ∙ ap (λ (g : List ℕ). function_or_literal (function_named g) w) h
    ∙ ap (λ (o : Option Function). function_or_literal o w) (function_again f).0

-- A name's token is spelled so.
abbrev pub NameComes : List ℕ → Option Token → Type 0
NameComes w None = Unit {0}
NameComes w (Some t) = SpellsToken t w × ((rest : List ℕ) → Stops is_name rest → EndsToken t rest)

literal_comes : (w : List ℕ) → NameComes w (literal_named w)
literal_comes w =
    if_holds (NameComes w) (bytes_eq w (codes "null")) (Some (constant null)) (cond (bytes_eq w (codes "true")) (Some (constant (truth true))) (cond (bytes_eq w (codes "false")) (Some (constant (truth false))) None)) (λ h. ((bytes_eq-Decides w (codes "null")).0 h, λ rest stops. stops))
    (λ _. if_holds (NameComes w) (bytes_eq w (codes "true")) (Some (constant (truth true))) (cond (bytes_eq w (codes "false")) (Some (constant (truth false))) None) (λ h. ((bytes_eq-Decides w (codes "true")).0 h, λ rest stops. stops))
    (λ _. if_holds (NameComes w) (bytes_eq w (codes "false")) (Some (constant (truth false))) None (λ h. ((bytes_eq-Decides w (codes "false")).0 h, λ rest stops. stops)) (λ _. tt)))

function_comes : (w : List ℕ) (o : Option Function) → IsWord w → Passes (λ g. bytes_eq (fold w) (function_name g)) o → NameComes w (function_or_literal o w)
function_comes w None word h = literal_comes w
function_comes w (Some f) word h = ((word, (bytes_eq-Decides (fold w) (function_name f)).0 h), λ rest stops. stops)

context_comes : (w : List ℕ) (o : Option Context) → IsWord w → Passes (λ c. bytes_eq (fold w) (context_name c)) o → NameComes w (context_or_other o w)
context_comes w None word h = function_comes w (function_named (fold w)) word (find_passes (λ g. bytes_eq (fold w) (function_name g)) (Contains ∷ StartsWith ∷ EndsWith ∷ Format ∷ Join ∷ ToJson ∷ FromJson ∷ Success ∷ Failure ∷ Cancelled ∷ Always ∷ []))
context_comes w (Some c) word h = ((word, (bytes_eq-Decides (fold w) (context_name c)).0 h), λ rest stops. stops)

pub named_comes : (w : List ℕ) → IsWord w → NameComes w (named w)
named_comes w word = context_comes w (context_named (fold w)) word (find_passes (λ c. bytes_eq (fold w) (context_name c)) (Github ∷ Env ∷ Vars ∷ Job ∷ Jobs ∷ Steps ∷ Runner ∷ Secrets ∷ Strategy ∷ Matrix ∷ Needs ∷ Inputs ∷ []))
