-- Where no line is answered, a text of one line begins with colons.
use Rattle.std.proofs.Common.{◌≡◌, ◌==◌, true, List, ℕ, length, IsTrue, true≢false, sym, ap, subst, ◌∙◌}
use Rattle.flow_commands.specs.Logs.{has_colons}
use Rattle.flow_commands.proofs.LogLines.{is_set, one_line}
use Rattle.flow_commands.proofs.logs.plain_line.Goals as goal
use Rattle.flow_commands.proofs.logs.plain_line.Goals.{else-is_empty-2-via-then-is_empty-2+else-is_plain, else-is_empty-2-via-else-is_empty-2}

pub returns-clause-none : goal.returns-clause-none
returns-clause-none c = λ none line is.
    let first = c.first_line.result.0.now in
    let both = one_line c.args.text.now first c.first_line.result.1.now line c.first_line.ensures.lines is in
    let empty : (length c.first_line.result.1.now == 0) ≡ true = ap (λ (rest : List ℕ). length rest == 0) both.1 in
    elim c.else-is_empty-2.branch as (λ _. IsTrue (has_colons line)) [
      | else-is_empty-2-via-then-is_empty-2+else-is_plain w ↦
          subst (λ (l : List ℕ). IsTrue (has_colons l)) both.0 (is_set (has_colons first) w.is_plain.result w.is_plain.ensures.colons w.if-is_plain.false)
      | else-is_empty-2-via-else-is_empty-2 w ↦ absurd (true≢false (sym empty ∙ sym c.is_empty-2.ensures ∙ w.if-is_empty-2.false))
    ]
