use Rattle.std.proofs.Common.{◌≡◌, ◌≤◌, ℕ, List, [], ◌∷◌, ◌++◌, drop, length, decimal, rules, ap, ◌∙◌, arith}
use Rattle.std.proofs.lemmas.Fmt.{length-decimal-le}
use Rattle.command_debug.specs.Answers.{place_end}
use Rattle.command_debug.proofs.gathered.PlaceLine.new.Goals as goal

pub write_digits-end-requires : goal.write_digits-end-requires
write_digits-end-requires c = search (rules, length-decimal-le 20)

pub put_before-end-requires-2 : goal.put_before-end-requires-2
put_before-end-requires-2 c = search (rules, length-decimal-le 20)

pub put_before-end-requires-3 : goal.put_before-end-requires-3
put_before-end-requires-3 c = search (rules, length-decimal-le 20)

pub put_before-end-requires-4 : goal.put_before-end-requires-4
put_before-end-requires-4 c = search (rules, length-decimal-le 20)

pub put_before-end-requires-5 : goal.put_before-end-requires-5
put_before-end-requires-5 c = search (rules, length-decimal-le 20)

pub invariant_of-result : goal.invariant_of-result
invariant_of-result c =
    let short : length (decimal c.args.last) ≤ 20 = length-decimal-le 20 c.args.last (omega arith) (omega arith) (omega arith) in
    let numbers : drop c.write_digits-end.result c.write_digits-end.new.buf ≡ decimal c.args.last ++ 10 ∷ [] =
    c.write_digits-end.ensures.written ∙ ap (λ (l : List ℕ). decimal c.args.last ++ l) c.put_before-end.ensures.written in
    let ends : drop c.put_before-end-5.result c.put_before-end-5.new.bytes ≡ place_end c.args.last =
    c.put_before-end-5.ensures.written
    ∙ ap (λ (l : List ℕ). 32 ∷ l) c.put_before-end-4.ensures.written
    ∙ ap (λ (l : List ℕ). 32 ∷ 111 ∷ l) c.put_before-end-3.ensures.written
    ∙ ap (λ (l : List ℕ). 32 ∷ 111 ∷ 102 ∷ l) c.put_before-end-2.ensures.written
    ∙ ap (λ (l : List ℕ). 32 ∷ 111 ∷ 102 ∷ 32 ∷ l) numbers in
    (omega (arith, short), omega arith, ends)
