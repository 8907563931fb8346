-- A context is told by its name.
use Rattle.std.proofs.Common.{◌≡◌, ℕ, true, cond, Option, Some, None, List, [], ◌∷◌, refl, sym, ap, ◌∙◌}
use Rattle.std.proofs.lemmas.Cmp.{nat_list_cmp_total}
use Rattle.std.proofs.lemmas.Map.Text.{is_eq-slice_cmp}
use Rattle.std.proofs.lemmas.Slice.Eq.{bytes_eq-Decides}
use Rattle.std.specs.Cmp.Lexicographic.{slice_cmp}
use Rattle.std.specs.Ordering.{nat_cmp, is_eq, ordering_reverse}
use Rattle.std.specs.Str.{bytes_eq}
use Rattle.std.proofs.Common.{Ordering, Less, Equal, Greater}
use Rattle.expr_reader.specs.Names.{context_name}
use Rattle.expr_reader.specs.declared.tree.Context.{Context}
use Rattle.expr_reader.specs.declared.tree.Context.TheVariants.{Github, Env, Vars, Job, Jobs, Steps, Runner, Secrets, Strategy, Matrix, Needs, Inputs}
use Rattle.expr_value.specs.Named.{is_same_context}

-- Names that compare equal are one.
pub name_is : (a b : List ℕ) → is_eq (slice_cmp nat_cmp a b) ≡ true → a ≡ b
name_is a b h = (bytes_eq-Decides a b).0 (sym (is_eq-slice_cmp a b) ∙ h)

is_eq_reverse : (o : Ordering) → is_eq (ordering_reverse o) ≡ is_eq o
is_eq_reverse Less = refl
is_eq_reverse Equal = refl
is_eq_reverse Greater = refl

-- Equality of names goes both ways.
pub name_turned : (a b : List ℕ) → is_eq (slice_cmp nat_cmp a b) ≡ is_eq (slice_cmp nat_cmp b a)
name_turned a b = ap is_eq (nat_list_cmp_total.antisymm a b) ∙ is_eq_reverse (slice_cmp nat_cmp b a)

abbrev first_named : List ℕ → List Context → Option Context
first_named name [] = None
first_named name (x ∷ xs) = cond (bytes_eq name (context_name x)) (Some x) (first_named name xs)

abbrev every_context : List Context
every_context = Github ∷ Env ∷ Vars ∷ Job ∷ Jobs ∷ Steps ∷ Runner ∷ Secrets ∷ Strategy ∷ Matrix ∷ Needs ∷ Inputs ∷ []

named_first : (x : Context) → first_named (context_name x) every_context ≡ Some x
named_first Github = refl
named_first Env = refl
named_first Vars = refl
named_first Job = refl
named_first Jobs = refl
named_first Steps = refl
named_first Runner = refl
named_first Secrets = refl
named_first Strategy = refl
named_first Matrix = refl
named_first Needs = refl
named_first Inputs = refl

some_is : (x y : Context) (o : Option Context) → o ≡ Some x → o ≡ Some y → x ≡ y
some_is x y o g h = cc

-- Contexts of one name are one.
pub same_is : (x y : Context) → is_same_context x y ≡ true → x ≡ y
same_is x y h =
    let same : context_name x ≡ context_name y = name_is (context_name x) (context_name y) h in
    some_is x y (first_named (context_name y) every_context) (ap (λ (n : List ℕ). first_named n every_context) (sym same) ∙ named_first x) (named_first y)

pub same_itself : (x : Context) → is_same_context x x ≡ true
same_itself x = is_eq-slice_cmp (context_name x) (context_name x) ∙ (bytes_eq-Decides (context_name x) (context_name x)).1 refl

pub same_turned : (x y : Context) → is_same_context x y ≡ is_same_context y x
same_turned x y = name_turned (context_name x) (context_name y)
