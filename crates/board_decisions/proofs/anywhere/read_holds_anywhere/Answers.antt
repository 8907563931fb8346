use Rattle.std.proofs.Common.{◌≡◌, true, rules, ◌∙◌}
use Rattle.plan_values.specs.Words.{template_of}
use Rattle.board_decisions.proofs.anywhere.read_holds_anywhere.Goals as goal

pub returns-in-Ok : goal.returns-in-Ok
returns-in-Ok c = λ d.
    let is : c.is_one_nameless.result ≡ true = search rules in
    c.condition_by_its_contexts.ensures d _ c.args.status (template_of c.args.template.now) (λ x named. let none = c.is_one_nameless.ensures x is in absurd (cc))
    ∙ c.in-Ok.ensures
