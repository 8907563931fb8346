-- Tests joined by `&&`, of what may be missing, and of numbers.
use Rattle.std.proofs.Common.{◌≡◌, ◌≤◌, ◌<◌, ℕ, Bool, true, false, IsTrue, ◌&&◌, ◌==◌, nat_le, nat_lt, Option, Some, None, IfSome, refl, arith}
use Rattle.std.proofs.lemmas.Bool.Decides.{nat_tests}
use Rattle.flow_model.specs.Rules.{all_there}

pub both : (a b : Bool) → IsTrue (a && b) → IsTrue a × IsTrue b
both true b h = (refl, h)
both false b h = absurd (cc)

pub pair : (a b : Bool) → IsTrue a → IsTrue b → IsTrue (a && b)
pair true b h k = k
pair false b h k = absurd (cc)

pub from_le : (a b : ℕ) → IsTrue (nat_le a b) → a ≤ b
from_le a b h = grind (arith, nat_tests, h)

pub to_le : (a b : ℕ) → a ≤ b → IsTrue (nat_le a b)
to_le a b h = grind (arith, nat_tests, h)

pub from_lt : (a b : ℕ) → IsTrue (nat_lt a b) → a < b
from_lt a b h = grind (arith, nat_tests, h)

pub to_lt : (a b : ℕ) → a < b → IsTrue (nat_lt a b)
to_lt a b h = grind (arith, nat_tests, h)

pub from_same : (a b : ℕ) → IsTrue (a == b) → a ≡ b
from_same a b h = grind (arith, nat_tests, h)

pub to_same : (a b : ℕ) → a ≡ b → IsTrue (a == b)
to_same a b h = grind (arith, nat_tests, h)

pub from_all_there : {T : Type 0} (test : T → Bool) (P : T → Type 0) → ((x : T) → IsTrue (test x) → P x) → (o : Option T) → IsTrue (all_there test o) → IfSome o P
from_all_there test P tells None h = tt
from_all_there test P tells (Some x) h = tells x h

pub to_all_there : {T : Type 0} (test : T → Bool) (P : T → Type 0) → ((x : T) → P x → IsTrue (test x)) → (o : Option T) → IfSome o P → IsTrue (all_there test o)
to_all_there test P tells None h = refl
to_all_there test P tells (Some x) h = tells x h
