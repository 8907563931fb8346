-- The digits are read from the left.
use Rattle.std.proofs.Common.{◌≡◌, ◌+◌, ◌<◌, ◌≤◌, ◌*◌, min, ℕ, List, [], length, get_or, drop, sym, ap, subst, ◌∙◌, arith, rules}
use Rattle.std.proofs.lemmas.List.{drop_all}
use Rattle.std.specs.Char.{digit_value}
use Rattle.std.specs.Str.Parse.{AllDigits, digits_value_after}
use Rattle.command_debug.specs.Requests.{greatest}
use Rattle.command_debug.proofs.Numerals.{capped, digit_more, digits_from, digits_onto}
use Rattle.command_debug.proofs.requests.number_of.Goals as goal

pub loop-byte-preserved : goal.loop-byte-preserved
loop-byte-preserved c =
    let ds = c.args.digits.now in
    let i = c.loop-byte.byte-index in
    let inside : i < length ds = search rules in
    let first : digit_value (get_or ds i 0) < 10 = subst (λ (b : ℕ). digit_value b < 10) c.from.ensures c.in-Some.ensures.value.0 in
    let next : c.saturating_add-number.result ≡ min (min (c.loop-byte.number * 10) greatest + digit_value (get_or ds i 0)) greatest =
    c.saturating_add-number.ensures ∙ ap (λ (k : ℕ). min (k + c.from-in-loop-byte.result) greatest) c.saturating_mul.ensures
    ∙ ap (λ (k : ℕ). min (min (c.loop-byte.number * 10) greatest + k) greatest) (c.from-in-loop-byte.ensures ∙ c.in-Some.ensures.value.1 ∙ ap digit_value c.from.ensures) in
    record {
      all = λ more. c.loop-byte.invariant.all (digits_onto ds i inside first more);
      left = λ whole. (digits_from ds i inside (c.loop-byte.invariant.left whole)).1;
      value =
          ap (λ (n : ℕ). min (digits_value_after 10 n (drop (i + 1) ds)) greatest) next ∙ digit_more greatest c.loop-byte.number ds i inside
          ∙ c.loop-byte.invariant.value;
      bounded = omega arith;
    }

pub returns : goal.returns
returns c =
    let ds = c.args.digits.now in
    let past : length ds ≤ c.loop-byte.byte-index = search rules in
    let none : drop c.loop-byte.byte-index ds ≡ [] = drop_all c.loop-byte.byte-index ds past in
    let some : 0 < length ds = search rules in (
      (some, c.loop-byte.invariant.all (subst (λ (l : List ℕ). AllDigits 10 l) (sym none) tt)),
      capped greatest c.loop-byte.number c.loop-byte.invariant.bounded ∙ ap (λ (l : List ℕ). min (digits_value_after 10 c.loop-byte.number l) greatest) (sym none) ∙ c.loop-byte.invariant.value,
    )
