-- The text is cut where something is replaced, or a place is passed.
use Rattle.std.proofs.Common.{◌≡◌, ℕ, ◌≤◌, ◌++◌, Some, None, List, length, take, drop, ap, sym, subst, ◌∙◌, length-drop, arith}
use Rattle.std.proofs.lemmas.Str.{IsCharBoundary-from_take, IsUtf8-drop}
use Rattle.std.specs.Str.{IsUtf8}
use Rattle.std.specs.Option.{option_map}
use Rattle.flow_commands.specs.Replace.{replaced}
use Rattle.flow_commands.proofs.Replacing.{replaced_here, replaced_further, within_piece}
use Rattle.flow_commands.proofs.Standing.{standing_boundary}
use Rattle.flow_commands.proofs.replace.first_place.Goals as goal

pub tail-requires : goal.tail-requires
tail-requires g c = omega (arith, within_piece c.args.text.now _ _ c.loop-place.place c.first_piece.ensures.whole c.loop-place-test.true, ap length c.as_bytes.ensures.value)

pub split_at-requires : goal.split_at-requires
split_at-requires g c =
    let inside = within_piece c.args.text.now _ _ c.loop-place.place c.first_piece.ensures.whole c.loop-place-test.true in
    let here : c.tail.result.now ≡ drop c.loop-place.place c.args.text.now = c.tail.ensures ∙ ap (drop c.loop-place.place) c.as_bytes.ensures.value in
    standing_boundary c.args.text.now c.loop-place.place c.in-Some.length inside c.in-Some.ensures.some
    (subst (λ (t : List ℕ). IsUtf8 (take c.in-Some.length t)) here c.in-Some.ensures.text)

pub split_at-requires-in-Some : goal.split_at-requires-in-Some
split_at-requires-in-Some g c =
    let inside = within_piece c.args.text.now _ _ c.loop-place.place c.first_piece.ensures.whole c.loop-place-test.true in
    let here : c.tail.result.now ≡ drop c.loop-place.place c.args.text.now = c.tail.ensures ∙ ap (drop c.loop-place.place) c.as_bytes.ensures.value in
    let back : c.tail.result.now ≡ c.split_at.result.1.now = here ∙ sym c.split_at.ensures.back in
    let within : c.in-Some.length ≤ length c.split_at.result.1.now = subst (λ (t : List ℕ). c.in-Some.length ≤ length t) back c.in-Some.ensures.within in
    let boundary = standing_boundary c.args.text.now c.loop-place.place c.in-Some.length inside c.in-Some.ensures.some
    (subst (λ (t : List ℕ). IsUtf8 (take c.in-Some.length t)) here c.in-Some.ensures.text) in
    let utf8 : IsUtf8 c.split_at.result.1.now = subst IsUtf8 (sym c.split_at.ensures.back) (IsUtf8-drop c.args.text.now c.loop-place.place c.utf8.text boundary) in
    IsCharBoundary-from_take c.split_at.result.1.now c.in-Some.length utf8 within
    (subst (λ (t : List ℕ). IsUtf8 (take c.in-Some.length t)) back c.in-Some.ensures.text)

pub returns-in-Some-clause-parts : goal.returns-in-Some-clause-parts
returns-in-Some-clause-parts g c =
    let text = c.args.text.now in
    let i = c.loop-place.place in
    let n = c.in-Some.length in
    let rule = g.R.Rule.rule c.args.rule.now in
    let here : c.tail.result.now ≡ drop i text = c.tail.ensures ∙ ap (drop i) c.as_bytes.ensures.value in
    let is : rule (drop i text) ≡ Some (c.in-Some.put.now, n) = ap rule (sym here) ∙ sym c.in-Some.ensures.value in
    let within : n ≤ length (drop i text) = subst (λ (t : List ℕ). n ≤ length t) here c.in-Some.ensures.within in
    let rest : c.split_at-in-Some.result.1.now ≡ drop n (drop i text) = c.split_at-in-Some.ensures.back ∙ ap (drop n) c.split_at.ensures.back in
    sym c.loop-place.invariant
    ∙ ap (λ (t : List ℕ). take i text ++ t) (replaced_here rule (drop i text) c.in-Some.put.now n is c.in-Some.ensures.some within)
    ∙ ap (λ (t : List ℕ). take i text ++ (c.in-Some.put.now ++ replaced rule t)) (sym rest)
    ∙ ap (λ (t : List ℕ). t ++ (c.in-Some.put.now ++ replaced rule c.split_at-in-Some.result.1.now)) (sym c.split_at.ensures.front)

pub returns-in-Some-clause-shorter : goal.returns-in-Some-clause-shorter
returns-in-Some-clause-shorter g c =
    let text = c.args.text.now in
    let i = c.loop-place.place in
    let n = c.in-Some.length in
    let inside = within_piece text _ _ i c.first_piece.ensures.whole c.loop-place-test.true in
    let rest : c.split_at-in-Some.result.1.now ≡ drop n (drop i text) = c.split_at-in-Some.ensures.back ∙ ap (drop n) c.split_at.ensures.back in
    let size : length c.split_at-in-Some.result.1.now ≡ length (drop n (drop i text)) = ap length rest in
    omega (arith, size, length-drop n (drop i text), length-drop i text, inside, c.in-Some.ensures.some)

pub loop-place-preserved : goal.loop-place-preserved
loop-place-preserved g c =
    let inside = within_piece c.args.text.now _ _ c.loop-place.place c.first_piece.ensures.whole c.loop-place-test.true in
    let here : c.tail.result.now ≡ drop c.loop-place.place c.args.text.now = c.tail.ensures ∙ ap (drop c.loop-place.place) c.as_bytes.ensures.value in
    let none : g.R.Rule.rule c.args.rule.now (drop c.loop-place.place c.args.text.now) ≡ None =
    ap (g.R.Rule.rule c.args.rule.now) (sym here) ∙ sym c.at.ensures.value ∙ ap (option_map (λ x. (x.0.now, x.1))) c.in_default.is in
    replaced_further (g.R.Rule.rule c.args.rule.now) c.args.text.now c.loop-place.place inside none c.loop-place.invariant
