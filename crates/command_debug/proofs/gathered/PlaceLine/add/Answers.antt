use Rattle.std.proofs.Common.{◌≡◌, ℕ, drop, length, decimal, rules, sym, ap, ◌∙◌}
use Rattle.std.proofs.Math.Seq.{drop-append_seam}
use Rattle.std.proofs.lemmas.Fmt.{length-decimal-le}
use Rattle.std.proofs.lemmas.List.{drop-drop}
use Rattle.command_debug.specs.Answers.{place_end}
use Rattle.command_debug.proofs.gathered.PlaceLine.add.Goals as goal

pub write_digits-start-requires : goal.write_digits-start-requires
write_digits-start-requires c = search (rules, length-decimal-le 20)

-- what follows the number stays
pub invariant_of-self-2 : goal.invariant_of-self-2
invariant_of-self-2 c =
    let w = c.write_digits-start in
    let digits = decimal c.args.place in
    let ends : drop c.self.inside.end w.new.buf ≡ place_end c.self.inside.last =
    ap (λ (k : ℕ). drop k w.new.buf) (sym w.ensures.start) ∙ sym (drop-drop (length digits) w.result w.new.buf) ∙ ap (drop (length digits)) w.ensures.written
    ∙ drop-append_seam digits (drop c.self.inside.end c.self.inside.bytes) ∙ c.self.invariant.2 in
    (c.self.invariant.0, c.self.invariant.1, ends)
