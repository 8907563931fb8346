use Rattle.std.proofs.Common.{◌≡◌, ◌∙◌, ◌/◌, ◌%◌, ◌∷◌, ◌++◌, ap, sym, string_bytes, true, get_or}
use Rattle.std.proofs.lemmas.List.{append-nil}
use Rattle.flow_model.specs.Mapping.{pairs_of}
use Rattle.flow_model.specs.Plain.{null}
use Rattle.matrix_expand.specs.Choices.{choice, row_pairs}
use Rattle.matrix_expand.specs.Combos.{Variables}
use Rattle.matrix_expand.specs.Expands.{have_values, size}
use Rattle.matrix_expand.proofs.Chosen.{row_next, chosen_next, Ascends-choice}
use Rattle.matrix_expand.proofs.Numbers.{have_first, block_after, place_in, rest_within}
use Rattle.matrix_expand.proofs.choices.row.Goals as goal

pub loop-key-preserved : goal.loop-key-preserved
loop-key-preserved c =
    let k = string_bytes c.in-Some.key.now in
    let v = c.in-Some.values.now in
    let vs : Variables = pairs_of c.next.new.self in
    let done = row_pairs c.loop-key.row.items in
    let steps = c.in-Some.ensures.steps in
    let whole : have_values ((k, v) ∷ vs) ≡ true = ap (λ es. have_values (pairs_of es)) (sym steps) ∙ c.loop-key.invariant.full in
    let sized : c.loop-key.block ≡ size ((k, v) ∷ vs) = c.loop-key.invariant.sized ∙ ap (λ es. size (pairs_of es)) steps in
    let block : c.loop-key.block / c.len-block.result ≡ size vs =
    ap (λ n. c.loop-key.block / n) c.len-block.ensures ∙ block_after (k, v) vs c.loop-key.block whole sized in
    let gives : done ++ choice ((k, v) ∷ vs) c.loop-key.rest ≡ choice c.args.variables.now c.args.number =
    ap (λ es. done ++ choice (pairs_of es) c.loop-key.rest) (sym steps) ∙ c.loop-key.invariant.gives in
    let place : c.loop-key.rest / (c.loop-key.block / c.len-block.result) ≡ c.loop-key.rest / size vs = ap (λ n. c.loop-key.rest / n) block in
    let value : c.chosen_item-item.result.now ≡ get_or v (c.loop-key.rest / size vs) null = c.chosen_item-item.ensures ∙ ap (λ n. get_or v n null) place in
    record {
      sized = block;
      full = (have_first (k, v) vs whole).1;
      within = rw block (rest_within (k, v) vs c.loop-key.rest whole);
      gives = rw (c.in_ok-push.ensures.items, row_next c.loop-key.row.items (c.as_str.result, c.chosen_item-item.result), c.as_str.ensures.value)
          (chosen_next done k v c.chosen_item-item.result.now vs c.loop-key.rest _ (choice c.args.variables.now c.args.number) value (ap (λ n. c.loop-key.rest % n) block) gives);
    }

pub chosen_item-item-requires-clause-within : goal.chosen_item-item-requires-clause-within
chosen_item-item-requires-clause-within c =
    place_in (string_bytes c.in-Some.key.now, c.in-Some.values.now) (pairs_of c.next.new.self) (pairs_of c.loop-key.key-iterator) c.loop-key.block c.loop-key.rest
    c.len-block.result (ap pairs_of c.in-Some.ensures.steps) c.loop-key.invariant.full c.loop-key.invariant.sized c.loop-key.invariant.within c.len-block.ensures

pub returns-clause-ascends : goal.returns-clause-ascends
returns-clause-ascends c =
    let done = row_pairs c.loop-key.row.items in
    let is : done ≡ choice c.args.variables.now c.args.number =
    sym (append-nil done) ∙ ap (λ es. done ++ choice (pairs_of es) c.loop-key.rest) (sym c.in-None.ensures.steps.0) ∙ c.loop-key.invariant.gives in
    Ascends-choice c.args.variables.now c.args.number done is c.iter-from.ensures.ascends
