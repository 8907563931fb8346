-- The first number ends where its digits do.
use Rattle.std.proofs.Common.{◌≤◌, ℕ, List, length, codes, Option, None, sym, subst}
use Rattle.std.proofs.lemmas.List.Sums.{prefix_len-le-length}
use Rattle.std.specs.Char.{is_digit}
use Rattle.command_debug.proofs.Asked.{no_first, no_second}
use Rattle.command_debug.specs.Requests.{After, FindsOne, Writes}
use Rattle.command_debug.proofs.requests.two_numbers.Goals as goal

pub split_at-requires : goal.split_at-requires
split_at-requires c = subst (λ (n : ℕ). n ≤ length c.args.text.now) (sym c.leading_digits.ensures) (prefix_len-le-length (λ b. is_digit b 10) c.args.text.now)

pub returns-in-Some-None : goal.returns-in-Some-None
returns-in-Some-None c =
    no_second c.args.text.now c.leading_digits.result c.leading_digits.ensures
    (subst (λ (t : List ℕ). FindsOne (After Writes (codes " ") t) None) c.split_at.ensures.back
    (subst (λ (found : Option ℕ). FindsOne (After Writes (codes " ") c.split_at.result.1.now) found) c.in-Some-None.is-1 c.number_after.ensures))

pub returns-in-None-default : goal.returns-in-None-default
returns-in-None-default c =
    no_first c.args.text.now c.leading_digits.result c.leading_digits.ensures
    (subst (λ (t : List ℕ). FindsOne (Writes t) None) c.split_at.ensures.front
    (subst (λ (found : Option ℕ). FindsOne (Writes c.split_at.result.0.now) found) c.in-None-default.is-0 c.number_of.ensures))
