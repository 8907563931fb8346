use Rattle.std.proofs.Common.{◌≡◌, ◌∙◌, ◌<◌, ◌≤◌, ap, sym, subst, arith, length, true, false, [], ◌∷◌, ◌++◌, rules}
use Rattle.std.proofs.lemmas.List.{length-append}
use Rattle.matrix_expand.specs.Choices.{choice}
use Rattle.matrix_expand.specs.Combos.{Pairs, is_original, originals, product}
use Rattle.matrix_expand.specs.Expands.{size}
use Rattle.matrix_expand.proofs.Filters.{kept, passed, over, finished}
use Rattle.matrix_expand.proofs.Products.{length_product, at_product}
use Rattle.matrix_expand.proofs.original.originals.Goals.{then-chosen+else-len-eq-MOST_COMBINATIONS+in_ok-choice+in_ok-push, else-chosen}
use Rattle.matrix_expand.proofs.original.originals.Goals as goal

pub returns-then-len-eq-MOST_COMBINATIONS : goal.returns-then-len-eq-MOST_COMBINATIONS
returns-then-len-eq-MOST_COMBINATIONS c =
    let vs = c.args.matrix.now.variables in
    let n = c.loop-number.number in
    let below : n < size vs = subst (λ s. n < s) c.requires.sized c.loop-number-test.true in
    let place : n < length (product vs) = subst (λ s. n < s) (sym (length_product vs)) below in
    let test : is_original c.args.matrix.now.exclude (choice vs n) ≡ true = search rules in
    let more : length c.loop-number.made < length (originals c.args.matrix.now) =
    over (is_original c.args.matrix.now.exclude) c.loop-number.made n (product vs) _ (choice vs n) place (at_product vs n [] c.requires.full below) test c.loop-number.invariant.found in
    let many : length c.loop-number.made ≡ 256 = search rules in
    subst (λ s. s < length (originals c.args.matrix.now)) many more

pub loop-number-preserved : goal.loop-number-preserved
loop-number-preserved c =
    let vs = c.args.matrix.now.variables in
    let n = c.loop-number.number in
    let below : n < size vs = subst (λ s. n < s) c.requires.sized c.loop-number-test.true in
    let place : n < length (product vs) = subst (λ s. n < s) (sym (length_product vs)) below in
    elim c.if-chosen.branch [
      | then-chosen+else-len-eq-MOST_COMBINATIONS+in_ok-choice+in_ok-push w ↦
          let test : is_original c.args.matrix.now.exclude (choice vs n) ≡ true = search rules in
          let room : (length c.loop-number.made ≡ 256) → ⊥ = search rules in
          let made : c.if-chosen.made ≡ c.loop-number.made ++ choice vs n ∷ [] =
          w.made-is ∙ w.in_ok-push.ensures.ok ∙ ap (λ (x : Pairs). c.loop-number.made ++ x ∷ []) w.in_ok-choice.ensures in
          rw made (record {
            found = kept (is_original c.args.matrix.now.exclude) c.loop-number.made n (product vs) _ (choice vs n) place (at_product vs n [] c.requires.full below) test c.loop-number.invariant.found;
            few = rw (length-append c.loop-number.made (choice vs n ∷ [])) (omega arith);
          })
      | else-chosen w ↦
          let test : is_original c.args.matrix.now.exclude (choice vs n) ≡ false = search rules in
          rw w.made-is (record {
            found = passed (is_original c.args.matrix.now.exclude) c.loop-number.made n (product vs) _ (choice vs n) place (at_product vs n [] c.requires.full below) test c.loop-number.invariant.found;
            few = c.loop-number.invariant.few;
          })
    ]

pub returns : goal.returns
returns c =
    let vs = c.args.matrix.now.variables in
    let past : length (product vs) ≤ c.loop-number.number = rw (length_product vs) (search rules) in
    finished (is_original c.args.matrix.now.exclude) c.loop-number.made c.loop-number.number (product vs) _ past c.loop-number.invariant.found
