use Rattle.std.proofs.Common.{◌≡◌, ◌∙◌, ◌<◌, ◌≤◌, ◌*◌, ◌∷◌, ap, sym, string_bytes, true, length, arith, rules, ℕ, List}
use Rattle.flow_model.specs.Plain.{Plain}
use Rattle.flow_model.specs.Mapping.{pairs_of}
use Rattle.matrix_expand.specs.Combos.{Variables}
use Rattle.matrix_expand.specs.Expands.{have_values, size}
use Rattle.matrix_expand.proofs.Numbers.{have_first, size_next, size_over}
use Rattle.matrix_expand.proofs.sizes.size.Goals as goal

pub loop-name-preserved : goal.loop-name-preserved
loop-name-preserved c =
    let v : List ℕ × List Plain = (string_bytes c.in-Some._name.now, c.in-Some.values.now) in
    let vs : Variables = pairs_of c.next.new.self in
    let steps = c.in-Some.ensures.steps in
    let whole : have_values (v ∷ vs) ≡ true = ap (λ es. have_values (pairs_of es)) (sym steps) ∙ c.loop-name.invariant.full in
    let counted : c.loop-name.total * size (v ∷ vs) ≡ size c.args.variables.now =
    ap (λ es. c.loop-name.total * size (pairs_of es)) (sym steps) ∙ c.loop-name.invariant.counted in
    let next : c.in-Some-checked_mul.next ≡ c.loop-name.total * length v.1 = search rules in
    record {
      counted = rw next (size_next v vs c.loop-name.total (size c.args.variables.now) counted);
      full = (have_first v vs whole).1;
      few = search rules;
    }

pub returns-in_default : goal.returns-in_default
returns-in_default c =
    let v : List ℕ × List Plain = (string_bytes c.in-Some._name.now, c.in-Some.values.now) in
    let vs : Variables = pairs_of c.next.new.self in
    let steps = c.in-Some.ensures.steps in
    let whole : have_values (v ∷ vs) ≡ true = ap (λ es. have_values (pairs_of es)) (sym steps) ∙ c.loop-name.invariant.full in
    let counted : c.loop-name.total * size (v ∷ vs) ≡ size c.args.variables.now =
    ap (λ es. c.loop-name.total * size (pairs_of es)) (sym steps) ∙ c.loop-name.invariant.counted in
    let next : c.in-Some-checked_mul.next ≡ c.loop-name.total * length v.1 = search rules in
    let over : c.loop-name.total * length v.1 ≤ size c.args.variables.now = size_over v vs c.loop-name.total (size c.args.variables.now) whole counted in
    let past : 65536 < c.in-Some-checked_mul.next = search rules in
    omega arith

pub returns-in_default-2 : goal.returns-in_default-2
returns-in_default-2 c =
    let v : List ℕ × List Plain = (string_bytes c.in-Some._name.now, c.in-Some.values.now) in
    let vs : Variables = pairs_of c.next.new.self in
    let steps = c.in-Some.ensures.steps in
    let whole : have_values (v ∷ vs) ≡ true = ap (λ es. have_values (pairs_of es)) (sym steps) ∙ c.loop-name.invariant.full in
    let counted : c.loop-name.total * size (v ∷ vs) ≡ size c.args.variables.now =
    ap (λ es. c.loop-name.total * size (pairs_of es)) (sym steps) ∙ c.loop-name.invariant.counted in
    let over : c.loop-name.total * length v.1 ≤ size c.args.variables.now = size_over v vs c.loop-name.total (size c.args.variables.now) whole counted in
    let past : 65536 < c.loop-name.total * length v.1 = search rules in
    omega arith
