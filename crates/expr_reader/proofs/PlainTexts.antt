-- A text within the limit in which no expression stands is a template of one piece.
use Rattle.std.proofs.Common.{◌≡◌, ℕ, ◌≤◌, true, false, List, [], ◌∷◌, length, refl, sym, append-nil, arith}
use Rattle.std.proofs.lemmas.Bool.Decides.{nat_tests}
use Rattle.expr_reader.specs.Accepts.{WhatStandsForItselfIsRead, itself, stands_for_itself}
use Rattle.expr_reader.specs.Template.{has_marker, SpellsTemplate}
use Rattle.expr_reader.proofs.Accepts.{templates_are_read}

spelled : (text : List ℕ) → has_marker text ≡ false → length text ≤ 1048576 → SpellsTemplate (itself text) text
spelled [] unmarked short = record { short = short; pieces = refl; plain_status = refl }
spelled (b ∷ bs) unmarked short = record {
  short = short;
  pieces = ([], record { some = λ none. cc; unmarked = unmarked; ends = tt }, sym (append-nil (b ∷ bs)), refl);
  plain_status = refl;
}

unmarked_of : (text : List ℕ) → stands_for_itself text ≡ true → has_marker text ≡ false
unmarked_of text holds = grind (arith, nat_tests)

short_of : (text : List ℕ) → stands_for_itself text ≡ true → length text ≤ 1048576
short_of text holds = grind (arith, nat_tests)

pub itself_is_read : WhatStandsForItselfIsRead
itself_is_read text holds =
    (templates_are_read text (itself text)).1 (spelled text (unmarked_of text holds) (short_of text holds))
