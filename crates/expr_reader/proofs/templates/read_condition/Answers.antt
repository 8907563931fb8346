-- What reading the trimmed text gives, in the words of the text's spelling.
use Rattle.std.proofs.Common.{◌≡◌, ◌-◌, ℕ, List, length, IfOk, IfErr, IfSome, subst, ap, ◌∙◌, arith}
use Rattle.std.proofs.lemmas.List.{length-drop}
use Rattle.std.proofs.lemmas.List.Sums.{prefix_len-le-length}
use Rattle.std.specs.List.{prefix_len}
use Rattle.expr_reader.specs.Bytes.{is_white}
use Rattle.expr_reader.specs.Faults.{fault_at}
use Rattle.expr_reader.specs.Template.{Piece, has_marker, SpellsTrimmed, trimmed, trimmed_end}
use Rattle.expr_reader.specs.TemplateStands.{StandsInTrimmed, IsReadAs}
use Rattle.expr_reader.specs.TemplateView.{template_of}
use Rattle.expr_reader.proofs.Accepts.{condition_answered}
use Rattle.expr_reader.proofs.Conditions.{condition_found, condition_only, condition_stands}
use Rattle.expr_reader.proofs.templates.read_condition.Goals as goal

pub returns-clause-found : goal.returns-clause-found
returns-clause-found c =
    let text = c.args.text.now in
    let result = c.read_trimmed.result in
    let same : c.trim_end-text.result.now ≡ trimmed text = c.trim_end-text.ensures ∙ ap trimmed_end c.split_run.ensures.back in
    subst (λ (z : List ℕ). IfOk result (λ t. SpellsTrimmed (has_marker z) (template_of t) z)) same
    (condition_found (length text - length c.split_run.result.1.now) c.trim_end-text.result.now result c.read_trimmed.ensures)

pub returns-clause-only : goal.returns-clause-only
returns-clause-only c =
    let text = c.args.text.now in
    let result = c.read_trimmed.result in
    let same : c.trim_end-text.result.now ≡ trimmed text = c.trim_end-text.ensures ∙ ap trimmed_end c.split_run.ensures.back in
    subst (λ (z : List ℕ). (ps : List Piece) → SpellsTrimmed (has_marker z) ps z → IsReadAs result ps) same
    (condition_only (length text - length c.split_run.result.1.now) c.trim_end-text.result.now result c.read_trimmed.ensures)

pub returns-clause-stands : goal.returns-clause-stands
returns-clause-stands c =
    let text = c.args.text.now in
    let result = c.read_trimmed.result in
    let same : c.trim_end-text.result.now ≡ trimmed text = c.trim_end-text.ensures ∙ ap trimmed_end c.split_run.ensures.back in
    let base : length text - length c.split_run.result.1.now ≡ prefix_len is_white text = omega (arith, ap length c.split_run.ensures.back, length-drop (prefix_len is_white text) text, prefix_len-le-length is_white text) in
    subst (λ (n : ℕ). IfErr result (λ f. IfSome (fault_at f) (StandsInTrimmed n (trimmed text)))) base
    (subst (λ (z : List ℕ). IfErr result (λ f. IfSome (fault_at f) (StandsInTrimmed (length text - length c.split_run.result.1.now) z))) same
    (condition_stands (length text - length c.split_run.result.1.now) c.trim_end-text.result.now result c.read_trimmed.ensures))

pub returns-clause-reads : goal.returns-clause-reads
returns-clause-reads c = condition_answered c.args.text.now c.read_trimmed.result (returns-clause-found c) (returns-clause-only c)
